use Rattle.std.proofs.Common.{◌≡◌, List, ◌++◌, ap, ◌∙◌, subst}
use Rattle.std.specs.Prelude.{OnOk, filter, string_bytes}
use Rattle.riichi_standings.specs.Laws.{name_at}
use Rattle.riichi_standings.specs.Tallies.{is_of}
use Rattle.riichi_standings.specs.declared.result.SeatResult.{SeatResult}
use Rattle.riichi_standings_text.specs.Texts.{sessions_text, standing_line, standing_place_text, standing_total_text}
use Rattle.riichi_standings_text.proofs.ColumnLemmas.{parts_written}
use Rattle.riichi_standings_text.proofs.text.push_line.Goals as goal

pub returns : goal.returns
unfolding standing_line
returns c =
    let standing = c.args.standing.now in
    let games = c.args.tournament.now in
    let old = string_bytes c.args.text.now in
    let own : c.as_slice.result.now ≡ filter (is_of standing.player) games.results =
    c.as_slice.ensures.value ∙ c.in_ok-own.ensures ∙ ap (λ results. filter (is_of standing.player) results) c.results.ensures in
    parts_written c.push_sessions.result old (string_bytes c.push_place.new.text) (string_bytes c.push_total.new.text) (string_bytes c.push_sessions.new.text)
    (standing_place_text (name_at games.names standing.player) standing) (standing_total_text standing) (sessions_text c.args.columns.now (filter (is_of standing.player) games.results))
    (c.in_ok-push_place.ensures ∙ ap (λ name. old ++ standing_place_text name standing) c.name_of.ensures)
    c.in_ok-push_total.ensures
    (subst (λ (results : List SeatResult). OnOk c.push_sessions.result (string_bytes c.push_sessions.new.text ≡ string_bytes c.push_total.new.text ++ sessions_text c.args.columns.now results)) own c.push_sessions.ensures)
