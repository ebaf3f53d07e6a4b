use Rattle.std.proofs.Common.{get_or}
use Rattle.std.proofs.lemmas.Bool.{eqb-true}
use Rattle.desk_lines.proofs.LastFeed.{rest_of_none, rest_of_some}
use Rattle.desk_lines.proofs.cut.ended_bytes.Goals as goal

pub returns-in-None-clause-rest : goal.returns-in-None-clause-rest
returns-in-None-clause-rest c = rest_of_none c.args.text.now c.in-None.ensures

pub returns-in-Some-clause-rest : goal.returns-in-Some-clause-rest
returns-in-Some-clause-rest c =
    let last = c.in-Some.ensures in
    rest_of_some c.args.text.now c.in-Some.place last.0.high (eqb-true (get_or c.args.text.now c.in-Some.place 0) 10 last.1) last.0.after
