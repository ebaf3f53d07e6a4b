use Rattle.std.proofs.Common.{◌++◌, length, ap, ◌∙◌, arith}
use Rattle.std.proofs.lemmas.Bool.{lt-ltb, le-ltb}
use Rattle.std.specs.Prelude.{slice_index, nat_lt}
use Rattle.desk_json.specs.Parts.{comma_if, listed, live_json}
use Rattle.desk_json.proofs.Chosen.{start, with_one, without_one, at_end, all_pairs}
use Rattle.desk_json.proofs.shape.push_pairs.Goals as goal
use Rattle.desk_json.proofs.shape.push_pairs.Goals.{then-live-gt0, else-live-gt0}

pub loop-number-init : goal.loop-number-init
loop-number-init c = record { in_range = omega arith; written = start _ _ c.args.text.now.bytes; few = omega arith }

pub loop-number-preserved : goal.loop-number-preserved
loop-number-preserved c =
    let so_far = c.loop-number.invariant in
    let number = c.loop-number.number in
    let copies = c.args.copies.now in
    elim c.if-live-gt0.branch [
      | then-live-gt0 w ↦ record {
        in_range = omega arith;
        written = with_one (λ kind. live_json (kind, slice_index copies kind)) (λ kind. nat_lt 0 (slice_index copies kind)) number c.args.text.now.bytes c.loop-number.text.bytes c.if-live-gt0.text.bytes
            c.loop-number.later c.if-live-gt0.later (lt-ltb 0 (slice_index copies number) w.if-live-gt0.true) so_far.written
            (ap (λ t. t.bytes) w.text-is ∙ w.push_pair.ensures.bytes
            ∙ ap (λ k. (c.loop-number.text.bytes ++ comma_if c.loop-number.later) ++ live_json (k, slice_index copies number)) w.at.ensures) w.later-is;
        few = omega (arith, ap (λ t. length t.bytes) w.text-is, w.push_pair.ensures.len, so_far.few);
      }
      | else-live-gt0 w ↦ record {
        in_range = omega arith;
        written = without_one (λ kind. live_json (kind, slice_index copies kind)) (λ kind. nat_lt 0 (slice_index copies kind)) number c.args.text.now.bytes c.loop-number.text.bytes
            c.if-live-gt0.text.bytes c.loop-number.later c.if-live-gt0.later (le-ltb 0 (slice_index copies number) w.if-live-gt0.false) so_far.written (ap (λ t. t.bytes) w.text-is) w.later-is;
        few = omega (arith, ap (λ t. length t.bytes) w.text-is, so_far.few);
      }
    ]

pub returns-clause-bytes : goal.returns-clause-bytes
returns-clause-bytes c =
    let copies = c.args.copies.now in
    at_end (λ kind. live_json (kind, slice_index copies kind)) (λ kind. nat_lt 0 (slice_index copies kind)) c.loop-number.number 34 c.args.text.now.bytes c.loop-number.text.bytes c.loop-number.later
    c.loop-number.invariant.written (omega arith) (omega arith)
    ∙ ap (λ ts. c.args.text.now.bytes ++ listed ts) (all_pairs copies)
