use Rattle.std.proofs.Common.{◌≡◌, ℕ, ◌+◌, sym, ap, subst, ◌∙◌, arith}
use Rattle.std.proofs.lemmas.Bool.{iff_false}
use Rattle.riichi_tiles.specs.HeldKinds.{with_kind}
use Rattle.riichi_tiles.specs.Kinds.{first_of, kinds_of}
use Rattle.riichi_split.specs.SuitTiles.{Completes, MarksBelow}
use Rattle.riichi_split.proofs.KindMarks.{adds-yes, adds-to}
use Rattle.riichi_split.proofs.PairTotals.{a-kind}
use Rattle.riichi_split.proofs.standard.Suits.mark_ranks.Goals as goal
use Rattle.riichi_split.proofs.standard.Suits.mark_ranks.Goals.{then-is_completed_by, else-is_completed_by}

pub loop-rank-init : goal.loop-rank-init
loop-rank-init c =
    let N : ℕ → Type 0 = λ n. MarksBelow (Completes c.args.self.now.tiles) n c.args.marks.now in
    subst N (let same : first_of c.args.suit ≡ first_of c.args.suit + 0 = omega arith in same) c.requires.below

pub loop-rank-preserved : goal.loop-rank-preserved
loop-rank-preserved c =
    let P = Completes c.args.self.now.tiles in
    let kind = first_of c.args.suit + c.loop-rank.rank in
    let M : ℕ → Type 0 = λ marks. MarksBelow P (kind + 1) marks in
    let N : ℕ → Type 0 = λ n. MarksBelow P n c.if-is_completed_by.marks in
    let more : kind + 1 ≡ first_of c.args.suit + (c.loop-rank.rank + 1) = omega arith in
    let small = a-kind c.args.suit c.loop-rank.rank (omega (arith, c.kinds-rank-end.ensures.value)) in
    subst N more (elim c.if-is_completed_by.branch [
      | then-is_completed_by w ↦
          let at = w.at.ensures ∙ ap (λ n. n + c.loop-rank.rank) w.first.ensures in
          subst M (sym (w.marks-is ∙ w.insert.ensures ∙ ap (with_kind c.loop-rank.marks) at))
          (adds-yes P kind 0 c.loop-rank.marks (c.is_completed_by.ensures.0 w.if-is_completed_by.true) c.loop-rank.invariant)
      | else-is_completed_by w ↦
          subst M (sym w.marks-is)
          (adds-to P kind (kind + 1) 0 c.loop-rank.marks (omega arith) (λ k low high p. iff_false c.is_completed_by.ensures w.if-is_completed_by.false (subst P (let same : k ≡ kind = omega arith in same) p)) c.loop-rank.invariant)
    ])

pub returns : goal.returns
returns c =
    let N : ℕ → Type 0 = λ n. MarksBelow (Completes c.args.self.now.tiles) n c.loop-rank.marks in
    subst N (let end : first_of c.args.suit + c.loop-rank.rank ≡ first_of c.args.suit + kinds_of c.args.suit = omega (arith, c.kinds-rank-end.ensures.value) in end) c.loop-rank.invariant
