use Rattle.riichi_rows.proofs.Opposite.{any_fewer_is}
use Rattle.riichi_rows.proofs.lacked.any_fewer.Goals as goal

pub returns : goal.returns
returns c =
    let sums = c.args.sums in
    let lacks = c.args.lacks in
    let fewer = c.args.fewer in
    any_fewer_is sums.lacks c.args.least sums.sixteen lacks.lacks fewer.lacks lacks.sixteen fewer.sixteen
