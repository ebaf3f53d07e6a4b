use Rattle.std.proofs.Common.{inl, inr, arith}
use Rattle.riichi_hints.proofs.NearLemmas.{swapped, word_ends, begin_alike, first_left_out, begin_otherwise}
use Rattle.riichi_hints.proofs.names.+is_near.Goals as goal

pub returns-in-empty : goal.returns-in-empty
returns-in-empty t c = word_ends c.args.edits c.args.word.now c.args.other.now (omega arith)

pub returns-in-empty-other : goal.returns-in-empty-other
returns-in-empty-other t c =
    let h = word_ends c.args.edits c.args.other.now c.args.word.now (omega arith) in
    (λ e. swapped (h.0 e), λ w. h.1 (swapped w))

pub returns-then-first-second : goal.returns-then-first-second
returns-then-first-second t c =
    begin_alike c.args.edits c.args.word.now c.args.other.now _ (omega arith) (omega arith) c.if-first-second.true c.is_near.ensures

pub returns-then-is_near : goal.returns-then-is_near
returns-then-is_near t c =
    let h = c.is_near-then-edits-gt0.ensures in
    (λ e. first_left_out c.args.edits c.args.word.now c.args.other.now (omega arith) (omega arith) (h.0 e), λ w. c.if-is_near.true)

pub returns-else-is_near : goal.returns-else-is_near
returns-else-is_near t c =
    let word = c.args.word.now in
    let other = c.args.other.now in
    let h = c.is_near-then-edits-gt0.ensures in
    let i = c.is_near-else-is_near.ensures in (
      λ e. swapped (first_left_out c.args.edits other word (omega arith) (omega arith) (swapped (i.0 e))),
      λ w. elim (begin_otherwise c.args.edits word other (omega arith) (omega arith) c.if-first-second.false w).1 [
        | inl without ↦ absurd (cc (h.1 without, c.if-is_near.false))
        | inr without ↦ i.1 without
      ],
    )

pub returns-else-edits-gt0 : goal.returns-else-edits-gt0
returns-else-edits-gt0 t c = (
  λ e. absurd (grind arith),
  λ w. absurd (omega (arith, (begin_otherwise c.args.edits c.args.word.now c.args.other.now (omega arith) (omega arith) c.if-first-second.false w).0)),
)
