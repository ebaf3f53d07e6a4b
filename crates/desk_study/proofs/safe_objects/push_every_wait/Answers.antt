use Rattle.std.proofs.Common.{◌++◌, length, sym, ap, ◌∙◌, arith}
use Rattle.desk_json.specs.Parts.{comma_if}
use Rattle.desk_study.specs.SafeObjects.{has_waits, waited_json}
use Rattle.desk_json.proofs.Chosen.{texts_below, start, with_one, without_one, at_end}
use Rattle.desk_study.proofs.safe_objects.push_every_wait.Goals as goal
use Rattle.desk_study.proofs.safe_objects.push_every_wait.Goals.{then-has_waits, else-has_waits}

pub loop-number-init : goal.loop-number-init
loop-number-init c = record { in_range = omega arith; written = start (waited_json c.args.asked.now) (has_waits c.args.asked.now) c.args.text.now.bytes; few = omega arith }

pub loop-number-preserved : goal.loop-number-preserved
loop-number-preserved c =
    let so_far = c.loop-number.invariant in
    let number = c.loop-number.number in
    let asked = c.args.asked.now in
    elim c.if-has_waits.branch [
      | then-has_waits w ↦ record {
        in_range = omega arith;
        written = with_one (waited_json asked) (has_waits asked) number c.args.text.now.bytes c.loop-number.text.bytes c.if-has_waits.text.bytes c.loop-number.later c.if-has_waits.later
            (ap (has_waits asked) (sym c.at-kind.ensures) ∙ sym c.has_waits.ensures ∙ w.if-has_waits.true) so_far.written
            (ap (λ t. t.bytes) w.text-is ∙ w.push_waits.ensures.bytes ∙ ap (λ k. (c.loop-number.text.bytes ++ comma_if c.loop-number.later) ++ waited_json asked k) c.at-kind.ensures) w.later-is;
        few = omega (arith, ap (λ t. length t.bytes) w.text-is, w.push_waits.ensures.len, so_far.few);
      }
      | else-has_waits w ↦ record {
        in_range = omega arith;
        written = without_one (waited_json asked) (has_waits asked) number c.args.text.now.bytes c.loop-number.text.bytes c.if-has_waits.text.bytes c.loop-number.later c.if-has_waits.later
            (ap (has_waits asked) (sym c.at-kind.ensures) ∙ sym c.has_waits.ensures ∙ w.if-has_waits.false)
            so_far.written (ap (λ t. t.bytes) w.text-is) w.later-is;
        few = omega (arith, ap (λ t. length t.bytes) w.text-is, so_far.few);
      }
    ]

pub returns-clause-bytes : goal.returns-clause-bytes
unfolding texts_below
returns-clause-bytes c =
    at_end (waited_json c.args.asked.now) (has_waits c.args.asked.now) c.loop-number.number 34 c.args.text.now.bytes c.loop-number.text.bytes c.loop-number.later c.loop-number.invariant.written (omega arith) (omega arith)
