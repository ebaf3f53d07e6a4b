use Rattle.std.proofs.lemmas.Result.{IfOk-at_ok, IfOk-weaker}
use Rattle.desk_lines.specs.Lines.{lines}
use Rattle.desk_study.specs.Parts.{IsAnswered}
use Rattle.desk_study.specs.declared.part.Part.{Part}
use Rattle.desk_study.proofs.PartLemmas.{both_parts}
use Rattle.desk_study.proofs.beside.+halves.Goals as goal
use Rattle.std.proofs.Common.{ap, ◌+◌}

pub returns-clause-ok : goal.returns-clause-ok
returns-clause-ok g t c =
    let manner = c.args.manner in
    let number = c.args.number in
    let cut = c.cut_before in
    let front = lines cut.result.0.now in
    let back = lines cut.result.1.now in
    let behind = number + c.count_lines.result in
    let one = IfOk-at_ok (λ (p : Part). IsAnswered manner number front p) c.in_ok-part.was c.join-first.ensures.first.0 in
    let other = IfOk-at_ok (λ (p : Part). IsAnswered manner behind back p) c.in_ok-later.was c.join-first.ensures.second.0 in
    IfOk-weaker c.with.result _ _ (λ both said.
    both_parts manner number behind (lines c.args.text.now) front back _ _ both cut.ensures.lines (ap (λ n. number + n) c.count_lines.ensures.lines) one other said.0 said.1) c.with.ensures.ok
