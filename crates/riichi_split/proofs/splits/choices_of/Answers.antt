use Rattle.std.proofs.Common.{◌≡◌, ◌*◌, ◌%◌, min, ap, ◌∙◌, ◌≤◌, ◌^◌, arith}
use Rattle.std.proofs.Math.Pow.{pow_mono}
use Rattle.riichi_split.specs.Cuts.{doubts}
use Rattle.riichi_split.proofs.SplitSteps.{doubts_last}
use Rattle.riichi_split.proofs.splits.choices_of.Goals as goal

pub returns-clause-few : goal.returns-clause-few
returns-clause-few c =
    let few : 2 ^ c.min.result ≤ 2 ^ 4 = pow_mono {i = c.min.result} {j = 4} (omega arith) in
    omega arith

pub returns-clause-value : goal.returns-clause-value
returns-clause-value c =
    let none = doubts_last c.args.counts.now c.loop-kind.kind (omega arith) in
    let few : 2 ^ c.min.result ≤ 2 ^ 4 = pow_mono {i = c.min.result} {j = 4} (omega arith) in
    let same : c.min.result ≡ min 4 (doubts c.args.counts.now) = omega arith in
    let whole : 1 * 2 ^ c.min.result % 18446744073709551616 ≡ 2 ^ c.min.result = omega arith in
    whole ∙ ap (λ n. 2 ^ n) same
