use Rattle.std.proofs.Common.{◌≡◌, ◌↔◌, rules, arith}
use Rattle.std.proofs.lemmas.Bool.{eq-eqb}
use Rattle.std.proofs.lemmas.Bool.Decides.{nat_tests}
use Rattle.riichi_split.specs.SuitTiles.{AreWon, suits_of}
use Rattle.riichi_split.proofs.SplitSuits.{won-from-split, split-from-won}
use Rattle.riichi_split.proofs.standard.has_split.Goals as goal

pub returns : goal.returns
returns c =
    let w : (c.total_pairs.result ≡ 1) ↔ AreWon (suits_of c.args.counts.now) = rw c.of.ensures.tiles at c.total_pairs.ensures.wins in (
      λ t. split-from-won c.args.counts.now c.args.melds (search rules) c.requires (w.0 (grind (arith, nat_tests, t))),
      λ h. eq-eqb c.total_pairs.result 1 (w.1 (won-from-split c.args.counts.now c.args.melds (search rules) h)),
    )
