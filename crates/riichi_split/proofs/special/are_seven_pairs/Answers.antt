use Rattle.std.proofs.Common.{◌≡◌, ◌==◌, false, sym, ◌∙◌, rules}
use Rattle.std.proofs.lemmas.Bool.{false≢true}
use Rattle.riichi_split.specs.ReadingsOf.{are_seven_pairs}
use Rattle.riichi_split.proofs.PairCounts.{seven-iff}
use Rattle.riichi_split.proofs.special.are_seven_pairs.Goals as goal

pub returns-then-are_pairs : goal.returns-then-are_pairs
returns-then-are_pairs c =
    let iff = seven-iff c.args.counts.now c.args.melds (search rules) in
    let same : (c.pairs_in.result == 7) ≡ are_seven_pairs c.args.counts.now c.args.melds = search rules in
    (λ t. iff.0 (sym same ∙ t), λ h. same ∙ iff.1 h)

pub returns-else-are_pairs : goal.returns-else-are_pairs
returns-else-are_pairs c =
    let iff = seven-iff c.args.counts.now c.args.melds (search rules) in
    let same : are_seven_pairs c.args.counts.now c.args.melds ≡ false = search rules in
    (λ t. absurd (cc), λ h. absurd (false≢true (sym same ∙ iff.1 h)))
