-- A column is filled place by place.
use Rattle.std.proofs.Common.{◌≡◌, ◌≢◌, ℕ, suc, ◌+◌, ◌<◌, List, [], ◌∷◌, ◌++◌, map, length, length-set, drop, get_or, get_or-set_other, get_or-set_same, inl, inr, sym, ap, ◌∙◌, append_assoc, add-one, arith, drop-cons}
use Rattle.std.proofs.lemmas.Bool.{cases_eq}
use Rattle.std.proofs.lemmas.List.{ext_get_or}
use Rattle.std.proofs.lemmas.List.FromFn.{get_or-map-range_with_len, length-map-range_with_len, map-range_with_len_more}
use Rattle.std.proofs.Math.Seq.{set-append_seam}
use Rattle.std.specs.List.{range_with_len}
use Rattle.std.specs.Prelude.{slice_set}
use Rattle.riichi_arrays.specs.Columns.{IsFilled}
use Rattle.riichi_tiles.specs.Melds.{every_kind}

-- behind a front of so many the next is put
pub put_next : {A : Type 0} (front rest : List A) (place : ℕ) (next : A) → length front ≡ place → place < length rest → slice_set (front ++ drop place rest) place next ≡ (front ++ next ∷ []) ++ drop (place + 1) rest
put_next front rest place next long low =
    ap (λ more. slice_set (front ++ more) place next) (drop-cons rest place next low)
    ∙ ap (λ at. slice_set (front ++ get_or rest place next ∷ drop (suc place) rest) at next) (sym long)
    ∙ set-append_seam front (get_or rest place next) (drop (suc place) rest) next
    ∙ sym (append_assoc front (next ∷ []) (drop (suc place) rest))
    ∙ ap (λ at. (front ++ next ∷ []) ++ drop at rest) (sym (add-one place))

pub fill_next : {A : Type 0} (value : ℕ → A) (row more : ℕ) (before after : List A) (next : A) → IsFilled value row before after → row < length before → next ≡ value row → more ≡ row + 1 → IsFilled value more before (slice_set after row next)
fill_next value row more before after next is low same step =
    let front = map value (range_with_len 0 row) in
    ap (λ column. slice_set column row next) is
    ∙ put_next front before row next (length-map-range_with_len value 0 row) low
    ∙ ap (λ it. (front ++ it ∷ []) ++ drop (row + 1) before) same
    ∙ ap (λ all. all ++ drop (row + 1) before) (sym (map-range_with_len_more value 0 row row (omega arith)))
    ∙ ap (λ rows. map value (range_with_len 0 rows) ++ drop rows before) (sym step)

-- a value for each kind, changed at one of them
pub put_kind : (f g : ℕ → ℕ) (place next : ℕ) → place < 34 → g place ≡ next → ((kind : ℕ) → kind ≢ place → g kind ≡ f kind) → slice_set (map f every_kind) place next ≡ map g every_kind
put_kind f g place next low here others =
    ext_get_or 0 (slice_set (map f every_kind) place next) (map g every_kind) (length-set (map f every_kind) place next ∙ length-map-range_with_len f 0 34 ∙ sym (length-map-range_with_len g 0 34))
    (λ kind inside. let below : kind < 34 = omega (arith, inside, length-set (map f every_kind) place next, length-map-range_with_len f 0 34) in
    each kind below ∙ sym (get_or-map-range_with_len g 0 34 kind kind 0 below (omega arith)))
  where
    each : (kind : ℕ) → kind < 34 → get_or (slice_set (map f every_kind) place next) kind 0 ≡ g kind
    each kind below = elim (cases_eq kind place) [
      | inl same ↦ ap (λ at. get_or (slice_set (map f every_kind) place next) at 0) same ∙ get_or-set_same (map f every_kind) place next 0 (omega (arith, low, length-map-range_with_len f 0 34)) ∙ sym here ∙ ap g (sym same)
      | inr apart ↦ get_or-set_other (map f every_kind) place kind next 0 apart ∙ get_or-map-range_with_len f 0 34 kind kind 0 below (omega arith) ∙ sym (others kind apart)
    ]
