use Rattle.std.proofs.Common.{◌≡◌, arith}
use Rattle.std.proofs.lemmas.Bool.Decides.{nat_tests}
use Rattle.desk_lines.proofs.SlipLemmas.{win_or_waits, shape_or_shanten, by_first}
use Rattle.desk_lines.proofs.slip.begins_job.Goals as goal

pub returns-then-first-eq119 : goal.returns-then-first-eq119
returns-then-first-eq119 c is =
    let first = c.in-Some.first.now in
    let same : first ≡ 119 = grind (arith, nat_tests, is) in
    by_first 119 win_or_waits c.args.line.now first c.in-Some.ensures.value same

pub returns-else-first-eq119 : goal.returns-else-first-eq119
returns-else-first-eq119 c is =
    let first = c.in-Some.first.now in
    let same : first ≡ 115 = grind (arith, nat_tests, is) in
    by_first 115 shape_or_shanten c.args.line.now first c.in-Some.ensures.value same
