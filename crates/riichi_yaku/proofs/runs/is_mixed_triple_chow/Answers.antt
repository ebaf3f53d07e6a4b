use Rattle.std.proofs.Common.{◌≡◌, false, nat_le, sym, ◌∙◌, arith}
use Rattle.std.proofs.lemmas.Bool.Decides.{nat_tests}
use Rattle.riichi_blocks.specs.Kinds.{every_rank}
use Rattle.riichi_yaku.proofs.Needs.{few-runs}
use Rattle.riichi_yaku.proofs.runs.is_mixed_triple_chow.Goals as goal

pub returns-else-runs-ge3 : goal.returns-else-runs-ge3
returns-else-runs-ge3 c =
    let f : nat_le 3 c.runs.result ≡ false = grind (arith, nat_tests, c.if-runs-ge3.false) in
    f ∙ sym (few-runs c.args.blocks.now every_rank (omega (arith, c.if-runs-ge3.false, c.runs.ensures)))
