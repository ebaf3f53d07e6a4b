use Rattle.std.proofs.Common.{length-take, arith}
use Rattle.desk_study.proofs.PartLemmas.{lines_cut}
use Rattle.desk_study.proofs.beside.cut_before.Goals as goal

pub returns-clause-lines : goal.returns-clause-lines
returns-clause-lines c =
    let ended = c.ended_bytes-ended in
    rw (c.split_at.ensures.front, c.split_at.ensures.back)
    (lines_cut c.args.text.now c.args.place ended.result (omega (arith, ended.ensures.within, length-take c.args.place c.args.text.now)) ended.ensures.rest)
