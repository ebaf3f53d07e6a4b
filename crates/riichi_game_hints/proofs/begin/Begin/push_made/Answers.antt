use Rattle.std.proofs.Common.{codes, List, ℕ, ◌++◌, sym, subst}
use Rattle.riichi_game_hints.specs.Begins.{IsRest, nothing, pattern, tried}
use Rattle.riichi_game_hints.proofs.LineLemmas.{words_made, line_made}
use Rattle.riichi_game_hints.proofs.begin.Begin.push_made.Goals as goal

pub returns-in-None-clause-made : goal.returns-in-None-clause-made
returns-in-None-clause-made c =
    words_made (IsRest c.args.given) c.args.text.now.bytes c.push_str.new.self.bytes (codes "\n  write: game NAME NAME NAME NAME") (pattern (codes "game NAME NAME NAME NAME")) c.push_str.ensures.bytes

pub returns-in-Some-clause-made : goal.returns-in-Some-clause-made
returns-in-Some-clause-made c =
    let given = c.args.given in let guess = c.as_slice-guess.result.now in let words = c.in-Some.words.now in
    line_made (IsRest given) guess c.game_mark_of.result.now words c.args.text.now.bytes c.push_line.new.text.bytes nothing
    (subst (λ (mark : List ℕ). IsRest given guess (mark ++ words)) (sym c.game_mark_of.ensures.value) (tried words c.in-Some.ensures.begun)) c.push_line.ensures.told
