use Rattle.std.proofs.Common.{get_or, ◌+◌, ◌∙◌, arith}
use Rattle.std.proofs.lemmas.Bool.Decides.{nat_tests}
use Rattle.std.proofs.lemmas.List.{length-set}
use Rattle.riichi_split.specs.SuitTiles.{with_tile}
use Rattle.riichi_split.proofs.SuitCuts.{third_of_sets, third-more}
use Rattle.riichi_split.proofs.suit_tiles.SuitTiles.are_sets_with.Goals as goal

pub returns-else-third-rank-eq0 : goal.returns-else-third-rank-eq0
returns-else-third-rank-eq0 c = (
  λ holds. absurd (grind (arith, nat_tests, holds, c.if-third-rank-eq0.false)),
  λ sets.
      let tiles = c.args.self.now in
      let nine = length-set tiles.held c.args.rank (get_or tiles.held c.args.rank 0 + 1) ∙ c.requires.nine in
      let none = third_of_sets (with_tile tiles c.args.rank) nine sets in
      let more = third-more tiles c.args.rank c.requires.nine c.requires.rank in
      grind (arith, nat_tests, none, more, c.requires.third),
)
