use Rattle.std.proofs.Common.{sym, subst}
use Rattle.desk_lines.specs.Lines.{lines}
use Rattle.desk_game_hints.specs.Hinted.{HintsLines}
use Rattle.desk_games.specs.declared.desk.GameDesk.{GameDesk}
use Rattle.desk_games.specs.declared.desk.GameDesk.TheVariants.{NoGame}
use Rattle.desk_games.proofs.TextLemmas.{from_none, tells_games, tells_to_end}
use Rattle.desk_game_hints.proofs.text.hinted_games_text.Goals as goal

pub returns-in_err-write_end-clause-write_failed : goal.returns-in_err-write_end-clause-write_failed
returns-in_err-write_end-clause-write_failed g c = λ is.
    let all = c.in_ok-counts.ensures.ok in
    let counts = c.in_ok-counts.counts in
    let new = c.new-games.ensures in
    let answered = from_none (λ number form given first. HintsLines number form given first (lines all.0) all.1 counts c.answer_lines.new.teller.games.desk) c.new-games.result.games c.args.is_numbered c.args.form c.args.given new.given new.numbered new.form new.desk all.3.1 in
    tells_to_end g.R.Source g.W.Sink c.args.form (HintsLines c.args.is_numbered c.args.form c.args.given NoGame) c.args.reader.now c.answer_lines.new.reader c.args.writer.now c.answer_lines.new.writer c.write_end.new.writer
    all.0 all.1 counts c.into_desk-desk.result all.2
    (subst (λ (d : GameDesk). HintsLines c.args.is_numbered c.args.form c.args.given NoGame (lines all.0) all.1 counts d) (sym c.into_desk-desk.ensures) answered) all.4 c.in_err-write_end.ensures.1

pub returns-clause-ok : goal.returns-clause-ok
returns-clause-ok g c =
    let all = c.in_ok-counts.ensures.ok in
    let counts = c.in_ok-counts.counts in
    let new = c.new-games.ensures in
    let answered = from_none (λ number form given first. HintsLines number form given first (lines all.0) all.1 counts c.answer_lines.new.teller.games.desk) c.new-games.result.games c.args.is_numbered c.args.form c.args.given new.given new.numbered new.form new.desk all.3.1 in
    tells_games g.R.Source g.W.Sink c.args.form (HintsLines c.args.is_numbered c.args.form c.args.given NoGame) c.args.reader.now c.answer_lines.new.reader c.args.writer.now c.answer_lines.new.writer c.write_end.new.writer
    all.0 all.1 counts c.into_desk-desk.result all.2
    (subst (λ (d : GameDesk). HintsLines c.args.is_numbered c.args.form c.args.given NoGame (lines all.0) all.1 counts d) (sym c.into_desk-desk.ensures) answered) all.4 c.in_ok-write_end.ensures
