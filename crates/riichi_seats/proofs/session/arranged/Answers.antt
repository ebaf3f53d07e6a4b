-- A player who is brought to a place changes places with another one.
use Rattle.std.proofs.Common.{ℕ, List, subst, sym, IsPermutation}
use Rattle.std.proofs.lemmas.List.Sorted.{IsPermutation-trans, length_permutation}
use Rattle.riichi_seats.proofs.SessionLemmas.{put_back}
use Rattle.riichi_seats.proofs.session.arranged.Goals as goal

pub loop-place-preserved : goal.loop-place-preserved
loop-place-preserved c =
    let old = c.loop-place.order.items in
    let new = c.bring.new.order in
    let moved : IsPermutation old new =
    let P : List ℕ → Type 0 = λ order. IsPermutation order new in subst P c.as_mut_slice.ensures.value c.bring.ensures in
    let P : List ℕ → Type 0 = λ order. IsPermutation c.in_ok-order.order.items order in
    subst P (sym (put_back c.loop-place.order.len new old c.loop-place.order.ok.0 (length_permutation old new moved)))
    (IsPermutation-trans c.in_ok-order.order.items old new c.loop-place.invariant moved)
