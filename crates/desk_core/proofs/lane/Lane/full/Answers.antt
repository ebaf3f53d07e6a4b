use Rattle.std.proofs.Common.{◌≡◌, ◌+◌, length, map, sym, ap, ◌∙◌, arith}
use Rattle.std.proofs.lemmas.Bool.Decides.{Decides-eqb}
use Rattle.std.proofs.lemmas.List.{length-map}
use Rattle.desk_core.specs.Entry.{job_with_arrival}
use Rattle.desk_core.specs.History.{turns_of, submitted}
use Rattle.desk_core.specs.LaneState.{LaneState}
use Rattle.desk_core.proofs.Steps.{count}
use Rattle.desk_core.proofs.lane.Lane.full.Goals as goal

pub returns-clause-submitted : goal.returns-clause-submitted
returns-clause-submitted c = λ tables history stands.
    let lane : LaneState = c.args.self.now in
    let turns = turns_of lane.table history in
    let total : lane.next + length lane.window ≡ length (submitted turns) =
    count turns lane stands.state in
    let held : c.len.result ≡ length (map job_with_arrival c.self.inside.window.items) = omega (arith, c.len.ensures, length-map c.self.inside.window.items job_with_arrival) in
    let same : c.self.inside.next + c.len.result ≡ length (submitted turns) =
    ap (λ n. c.self.inside.next + n) held ∙ ap (λ (l : LaneState). l.next + length l.window) c.self.view_is ∙ total in
    let test = Decides-eqb (c.self.inside.next + c.len.result) 1000000 in
    (λ holds. sym same ∙ test.0 holds, λ full. test.1 (same ∙ full))
