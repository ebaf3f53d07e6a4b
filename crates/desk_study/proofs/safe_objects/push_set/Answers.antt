use Rattle.std.proofs.Common.{◌++◌, length, sym, ap, ◌∙◌, arith}
use Rattle.riichi_tiles.specs.HeldKinds.{is_held}
use Rattle.desk_json.specs.Parts.{comma_if, quoted_kind}
use Rattle.desk_json.proofs.Chosen.{texts_below, start, with_one, without_one, at_end}
use Rattle.desk_study.proofs.safe_objects.push_set.Goals as goal
use Rattle.desk_study.proofs.safe_objects.push_set.Goals.{then-contains, else-contains}

pub loop-number-init : goal.loop-number-init
loop-number-init c = record { in_range = omega arith; written = start quoted_kind (is_held c.args.kinds) c.args.text.now.bytes; few = omega arith }

pub loop-number-preserved : goal.loop-number-preserved
loop-number-preserved c =
    let so_far = c.loop-number.invariant in
    let number = c.loop-number.number in
    let kinds = c.args.kinds in
    elim c.if-contains.branch [
      | then-contains w ↦ record {
        in_range = omega arith;
        written = with_one quoted_kind (is_held kinds) number c.args.text.now.bytes c.loop-number.text.bytes c.if-contains.text.bytes c.loop-number.later c.if-contains.later
            (ap (is_held kinds) (sym c.at-kind.ensures) ∙ sym c.contains.ensures ∙ w.if-contains.true) so_far.written
            (ap (λ t. t.bytes) w.text-is ∙ w.push_quoted.ensures.bytes ∙ ap (λ k. (c.loop-number.text.bytes ++ comma_if c.loop-number.later) ++ quoted_kind k) c.at-kind.ensures) w.later-is;
        few = omega (arith, ap (λ t. length t.bytes) w.text-is, w.push_quoted.ensures.len, so_far.few);
      }
      | else-contains w ↦ record {
        in_range = omega arith;
        written = without_one quoted_kind (is_held kinds) number c.args.text.now.bytes c.loop-number.text.bytes c.if-contains.text.bytes c.loop-number.later c.if-contains.later
            (ap (is_held kinds) (sym c.at-kind.ensures) ∙ sym c.contains.ensures ∙ w.if-contains.false)
            so_far.written (ap (λ t. t.bytes) w.text-is) w.later-is;
        few = omega (arith, ap (λ t. length t.bytes) w.text-is, so_far.few);
      }
    ]

pub returns-clause-bytes : goal.returns-clause-bytes
unfolding texts_below
returns-clause-bytes c =
    at_end quoted_kind (is_held c.args.kinds) c.loop-number.number 34 c.args.text.now.bytes c.loop-number.text.bytes c.loop-number.later c.loop-number.invariant.written (omega arith) (omega arith)
