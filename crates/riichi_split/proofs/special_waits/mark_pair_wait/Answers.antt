use Rattle.std.proofs.Common.{◌≡◌, ap, sym, ◌∙◌, subst, ℕ, arith}
use Rattle.riichi_tiles.specs.HeldKinds.{with_kind}
use Rattle.std.proofs.lemmas.Bool.{iff_false}
use Rattle.riichi_split.specs.SpecialWaits.{CompletesPairs, Adds}
use Rattle.riichi_split.proofs.KindMarks.{adds_none, adds_one}
use Rattle.riichi_split.proofs.special_waits.mark_pair_wait.Goals.{else-single-lt34-via-then-single-lt34+else-completes_pairs, else-single-lt34-via-else-single-lt34}
use Rattle.riichi_split.proofs.special_waits.mark_pair_wait.Goals as goal

pub returns-then-completes_pairs : goal.returns-then-completes_pairs
returns-then-completes_pairs c =
    let M : ℕ → Type 0 = λ marks. Adds (CompletesPairs c.args.tiles.now) 34 c.args.marks.now marks in
    let P : ℕ → Type 0 = λ kind. CompletesPairs c.args.tiles.now kind in
    let at : c.at.result ≡ c.single_of-single.result = c.at.ensures in
    subst M (sym (c.insert.ensures ∙ ap (with_kind c.args.marks.now) c.at-then-completes_pairs.ensures))
    (adds_one (CompletesPairs c.args.tiles.now) c.single_of-single.result c.args.marks.now (omega (arith, c.if-single-lt34.true)) (subst P at (c.completes_pairs.ensures.0 c.if-completes_pairs.true))
    (λ kind low pairs. c.single_of-single.ensures.only kind low (rw c.as_array.ensures.value pairs)))

pub returns-else-single-lt34 : goal.returns-else-single-lt34
returns-else-single-lt34 c = adds_none (CompletesPairs c.args.tiles.now) 34 c.args.marks.now (λ kind low pairs.
    let P : ℕ → Type 0 = λ kind. CompletesPairs c.args.tiles.now kind in
    let only = c.single_of-single.ensures.only kind low (rw c.as_array.ensures.value pairs) in
    elim c.else-single-lt34.branch [
      | else-single-lt34-via-then-single-lt34+else-completes_pairs w ↦ iff_false w.completes_pairs.ensures w.if-completes_pairs.false (subst P (only ∙ sym w.at.ensures) pairs)
      | else-single-lt34-via-else-single-lt34 w ↦ omega (arith, only, low, w.if-single-lt34.false)
    ])
