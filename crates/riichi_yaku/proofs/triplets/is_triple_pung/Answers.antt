use Rattle.std.proofs.Common.{◌≡◌, false, nat_le, sym, ◌∙◌, arith}
use Rattle.std.proofs.lemmas.Bool.Decides.{nat_tests}
use Rattle.riichi_blocks.specs.Kinds.{every_rank}
use Rattle.riichi_yaku.proofs.Needs.{few-triplets}
use Rattle.riichi_yaku.proofs.triplets.is_triple_pung.Goals as goal

pub returns-else-triplets-ge3 : goal.returns-else-triplets-ge3
returns-else-triplets-ge3 c =
    let f : nat_le 3 c.triplets.result ≡ false = grind (arith, nat_tests, c.if-triplets-ge3.false) in
    f ∙ sym (few-triplets c.args.blocks.now every_rank (omega (arith, c.if-triplets-ge3.false, c.triplets.ensures)))
