use Rattle.std.proofs.Common.{codes, refl, ◌++◌}
use Rattle.riichi_text.proofs.Pieces.{pushed-two}
use Rattle.riichi_game_hints.specs.Trials.{IsRestIn}
use Rattle.riichi_game_hints.specs.Hints.{nothing, also}
use Rattle.riichi_game_hints.proofs.LineLemmas.{nothing_made, words_made}
use Rattle.riichi_game_hints.proofs.hint.Trial.push_other.Goals as goal

pub returns-then-ne-clause-made : goal.returns-then-ne-clause-made
returns-then-ne-clause-made c =
    let old = c.args.text.now.bytes in let words = c.fault_words.result.now in
    words_made (IsRestIn c.args.self.now) old c.push_str-then-ne.new.self.bytes (codes "\n  also: " ++ words)
    (also words (record { other = c.args.other.now; fault = c.in-Err.fault; refused = c.in-Err.ensures.err; words_are = c.fault_words.ensures.value }))
    (pushed-two old (codes "\n  also: ") words c.push_str.ensures.bytes c.push_str-then-ne.ensures.bytes)

pub returns-else-ne-clause-made : goal.returns-else-ne-clause-made
returns-else-ne-clause-made c = nothing_made (IsRestIn c.args.self.now) c.args.text.now.bytes c.args.text.now.bytes nothing refl
