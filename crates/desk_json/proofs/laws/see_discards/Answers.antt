use Rattle.std.proofs.Common.{sym, ◌∙◌, arith}
use Rattle.riichi_text.proofs.Pieces.{some_there}
use Rattle.desk_json.specs.Whole.{IsWholeDiscard}
use Rattle.desk_json.proofs.Seen.{each_more}
use Rattle.desk_json.proofs.laws.see_discards.Goals as goal
use Rattle.desk_json.proofs.laws.see_discards.Goals.{in-Some, in_default}

pub loop-place-preserved : goal.loop-place-preserved
loop-place-preserved c =
    let discards = c.args.discards.now in
    elim c.match-get.branch [
      | in-Some w ↦ each_more IsWholeDiscard discards c.loop-place.place w.in-Some.discard c.loop-place.invariant (sym c.get.ensures ∙ w.in-Some.is) w.see_discard.ensures
      | in_default w ↦ absurd (some_there discards c.loop-place.place (omega (arith, c.loop-place-test.true, c.len-place-end.ensures.value)) (sym c.get.ensures ∙ w.in_default.is))
    ]
