-- A table takes up its places, one after the other.
use Rattle.std.proofs.Common.{◌≡◌, ℕ, zero, suc, ◌+◌, ◌<◌, ◌≤◌, List, [], ◌∷◌, ◌++◌, length, set, sym, refl, ap, ◌∙◌, subst, arith, length-set, length-append, replicate}
use mathlib.Core.Logic.{dite}
use native.Mathlib.Decide.{ℕ_discrete}
use mathlib.Core.Option.{some, some-injective, some-ne-none}
use lib.ListN.{get_elem?}
use Rattle.std.proofs.lemmas.List.Folds.{sum_by-replicate}
use Rattle.atomic_table.proofs.Lists.{set_here, set_else}
use Rattle.desk_core.specs.LaneState.{LaneState, new_lane}
use Rattle.desk_run.specs.LanePlaces.{Agrees, outs}
use Rattle.desk_run.specs.declared.place_state.PlaceState.{PlaceState}
use Rattle.desk_run.specs.declared.place_state.PlaceState.TheVariants.{Fresh, Vacant, Out}
use Rattle.desk_run.proofs.Lists.{sum_by-changed, term_le}
use Rattle.desk_run.proofs.LanePlaces.{AreVacant, one_vacant, out_or_not}

-- the first n places are vacant, and the others not yet taken up
pub record TakenUp (n : ℕ) (states : List PlaceState) (vacant : List ℕ) : Type 0 where
  pub places : AreVacant states vacant
  pub up : (j : ℕ) → j < n → get_elem? states j ≡ some Vacant
  pub none_out : outs states ≡ 0
  pub fresh : (j : ℕ) → n ≤ j → j < length states → get_elem? states j ≡ some Fresh
  pub many : length vacant ≡ n

no_outs : (n : ℕ) → outs (replicate n Fresh) ≡ 0
no_outs n = omega (arith, sum_by-replicate out_or_not n Fresh)

all_fresh : (n j : ℕ) → j < length (replicate n Fresh) → get_elem? (replicate n Fresh) j ≡ some Fresh
all_fresh zero j h = absurd (omega arith)
all_fresh (suc n) zero h = refl
all_fresh (suc n) (suc j) h = all_fresh n j (omega arith)

pub none_up : (n : ℕ) (states : List PlaceState) → states ≡ replicate n Fresh → TakenUp 0 states []
none_up n states e = subst (λ (l : List PlaceState). TakenUp 0 l []) (sym e) (record {
  places = record { vacant_are = λ i k h. absurd (some-ne-none k (sym h)); once = λ i j k h g. absurd (some-ne-none k (sym h)) };
  up = λ j h. absurd (omega arith);
  none_out = no_outs n;
  fresh = λ j h g. all_fresh n j g;
  many = refl;
})

pub one_up : (n : ℕ) (states : List PlaceState) (vacant : List ℕ) → n < length states → TakenUp n states vacant → TakenUp (n + 1) (set states n Vacant) (vacant ++ n ∷ [])
one_up n states vacant near b = record {
  places = one_vacant n states vacant Fresh (b.fresh n (omega arith) near) (λ e. cc) b.places;
  up = λ j h. dite (ℕ_discrete j n) (λ e. subst (λ (m : ℕ). get_elem? (set states n Vacant) m ≡ some Vacant) (sym e) (set_here states n Vacant near))
      (λ ne. set_else states n j Vacant ne ∙ b.up j (omega arith));
  none_out = let f = b.fresh n (omega arith) near in let c = sum_by-changed out_or_not states n Fresh Vacant f in let z = b.none_out in omega arith;
  fresh = λ j h g. set_else states n j Vacant (λ same. omega arith) ∙ b.fresh j (omega arith) (omega (arith, length-set states n Vacant));
  many = let m = b.many in omega (arith, length-append vacant (n ∷ []));
}

all_alike : {A : Type 0} (n : ℕ) (l : List A) (a : A) → length l ≡ n → ((j : ℕ) → j < n → get_elem? l j ≡ some a) → l ≡ replicate n a
all_alike {A} zero [] a e f = refl
all_alike {A} zero (x ∷ xs) a e f = absurd (omega arith)
all_alike {A} (suc n) [] a e f = absurd (omega arith)
all_alike {A} (suc n) (x ∷ xs) a e f = ap (λ (y : A). y ∷ xs) (some-injective x a (f 0 (omega arith))) ∙ ap (λ (l : List A). a ∷ l) (all_alike n xs a (omega arith) (λ j h. f (suc j) (omega arith)))

pub all_vacant : (n : ℕ) (states : List PlaceState) (vacant : List ℕ) → length states ≡ n → TakenUp n states vacant → states ≡ replicate n Vacant
all_vacant n states vacant e b = all_alike n states Vacant e b.up

pub all_up : (lane : LaneState) (t n : ℕ) (states : List PlaceState) (vacant : List ℕ) → lane ≡ new_lane t → n ≡ length states → TakenUp n states vacant → Agrees lane states vacant
all_up lane t n states vacant new e b = subst (λ (l : LaneState). Agrees l states vacant) (sym new) (record {
  vacant_are = b.places.vacant_are;
  once = b.places.once;
  counted = let m = b.many in let z = b.none_out in omega arith;
  own = λ k x job at. let c = term_le out_or_not states k (Out x job) at in let z = b.none_out in absurd (omega arith);
  pending = λ k x job at still. let c = term_le out_or_not states k (Out x job) at in let z = b.none_out in absurd (omega arith);
  listed = λ i job at still. absurd (some-ne-none _ (sym at));
})
