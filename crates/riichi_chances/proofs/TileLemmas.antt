-- A hand after a best discard is a shape again.
use Rattle.std.proofs.Common.{◌≡◌, ℕ, ◌-◌, ◌<◌, ◌≤◌, true, cond, List, length, Option, None, Some, Result, Ok, get_or-set_same, get_or-set_other, length-set, sym, ap, ◌∙◌, ⊎_elim, arith}
use Rattle.std.proofs.lemmas.Bool.{cases_eq, cases_lt}
use Rattle.std.proofs.lemmas.List.{get_or_past}
use Rattle.std.proofs.lemmas.List.Sums.{sum_by-set}
use Rattle.std.specs.List.{list_all}
use Rattle.std.specs.Prelude.{if◌then◌else◌, nat_le, slice_index}
use Rattle.riichi_tiles.specs.declared.meld.Meld.{Meld}
use Rattle.riichi_hand.specs.Faults.{fault_or}
use Rattle.riichi_hand.specs.Hand.{IsShape, copies_with, is_thirteen, shape_of, size}
use Rattle.riichi_hand.specs.HandParts.{ShapeParts}
use Rattle.riichi_hand.specs.declared.fault.LineFault.{LineFault}
use Rattle.riichi_shape.specs.Accepted.{without_one}
use Rattle.riichi_shape.specs.Choosing.{LeavesLeast}
use Rattle.riichi_shape.specs.EveryWinning.{distance_of}
use Rattle.riichi_shape.proofs.Choices.{is_chosen}
use Rattle.riichi_shape.proofs.ShapeFacts.{copies_few, melds_few}
use Rattle.riichi_deeper.proofs.AfterLemmas.{few_all}
use Rattle.riichi_deeper.proofs.DrawnLemmas.{is_thirteen_by, shape_thirteen}
use Rattle.riichi_chances.specs.Counted.{parts_less}
use Rattle.riichi_chances.specs.Laws.{IsThirteen}
use Rattle.riichi_chances.proofs.NearestLemmas.{best_keeps}

module _ (parts : ShapeParts) (is : IsShape parts) (kind : ℕ) (inside : kind < 34) (tiles : List ℕ) (tiles_is : tiles ≡ parts.tiles) (less : List ℕ) (melds : List Meld) (seen : List ℕ)
    (less_is : less ≡ without_one tiles kind) (long : length less ≡ 34) (melds_is : melds ≡ parts.melds) (seen_is : seen ≡ parts.seen) (fourteen : size parts.tiles parts.melds ≡ 14) (held : 0 < slice_index parts.tiles kind) where
  whole_before : length parts.tiles ≡ 34
  whole_before = ap length (sym tiles_is) ∙ sym (length-set tiles kind (slice_index tiles kind - 1)) ∙ ap length (sym less_is) ∙ long

  left_parts : ◌≡◌ {A = ShapeParts} (record { tiles = less; melds = melds; seen = seen }) (parts_less parts kind)
  left_parts = same_parts (less_is ∙ ap (λ (counts : List ℕ). without_one counts kind) tiles_is)
    where
      same_parts : less ≡ without_one parts.tiles kind → ◌≡◌ {A = ShapeParts} (record { tiles = less; melds = melds; seen = seen }) (parts_less parts kind)
      same_parts e = cc

  left_size : size (without_one parts.tiles kind) parts.melds ≡ 13
  left_size = omega (arith, sum_by-set (λ (n : ℕ). n) parts.tiles kind (slice_index parts.tiles kind - 1) 0 (omega (arith, whole_before, inside)), fourteen, held)

  few_left : (other : ℕ) → other < 34 → copies_with (parts_less parts kind) other ≤ 4
  few_left other low = ⊎_elim here (λ ne. omega (arith, get_or-set_other parts.tiles kind other (slice_index parts.tiles kind - 1) 0 ne, copies_few parts is other low)) (cases_eq other kind)
    where
      here : other ≡ kind → copies_with (parts_less parts kind) other ≤ 4
      here same =
          omega (arith, ap (copies_with (parts_less parts kind)) same, get_or-set_same parts.tiles kind (slice_index parts.tiles kind - 1) 0 (omega (arith, whole_before, inside)), copies_few parts is kind inside)

  pub left_answer : (r : Result ShapeParts LineFault) → r ≡ shape_of (record { tiles = less; melds = melds; seen = seen }) → r ≡ Ok (parts_less parts kind)
  left_answer r e = e ∙ ap shape_of left_parts ∙ shape_thirteen (parts_less parts kind) left_size few_left

  pub left_thirteen : is_thirteen (parts_less parts kind).tiles (parts_less parts kind).melds ≡ true
  left_thirteen = is_thirteen_by (without_one parts.tiles kind) parts.melds left_size

  module _ (best : LeavesLeast parts.tiles parts.melds kind) (far : 0 < distance_of parts.tiles parts.melds) where
    pub left_as_near : distance_of (parts_less parts kind).tiles (parts_less parts kind).melds ≡ distance_of parts.tiles parts.melds
    left_as_near = best_keeps parts.tiles parts.melds whole_before fourteen (melds_few parts is) kind inside (is_chosen parts.tiles parts.melds kind best) far

-- ---- a hand that stands at a place

pub placed_counts : (parts : ShapeParts) → IsThirteen parts → IsShape parts → list_all (λ count. nat_le count 4) parts.tiles ≡ true
placed_counts parts whole is = few_all parts.tiles (λ kind. ⊎_elim (λ low. omega (arith, copies_few parts is kind low)) (λ past. omega (arith, get_or_past parts.tiles kind 0 (omega (arith, whole.each_kind, past)))) (cases_lt kind 34))

pub placed_shape : (parts : ShapeParts) → IsShape parts → shape_of parts ≡ Ok parts
unfolding shape_of
placed_shape parts is = ap (λ (fault : Option LineFault). fault_or fault parts) is

-- its tiles are counts
pub counts_there : (parts : ShapeParts) → IsThirteen parts → IsShape parts → (held : List ℕ) (found : Option (List ℕ)) → held ≡ parts.tiles → found ≡ (if list_all (λ count. nat_le count 4) held then Some held else None) → found ≡ Some parts.tiles
counts_there parts whole is held found e f = f ∙ ap (λ (tiles : List ℕ). cond (list_all (λ count. nat_le count 4) tiles) (Some tiles) None) e ∙ ap (λ t. cond t (Some parts.tiles) None) (placed_counts parts whole is)

-- with its melds and what is seen they make it
pub hand_there : (parts : ShapeParts) → IsShape parts → (tiles : List ℕ) (melds : List Meld) (seen : List ℕ) (found : Option (List ℕ)) (made : Result ShapeParts LineFault) → found ≡ Some tiles → found ≡ Some parts.tiles → melds ≡ parts.melds → seen ≡ parts.seen
    → made ≡ shape_of (record { tiles = tiles; melds = melds; seen = seen }) → made ≡ Ok parts
hand_there parts is tiles melds seen found made e f melds_are seen_are made_is = made_is ∙ ap shape_of same ∙ placed_shape parts is
  where
    told : Some tiles ≡ Some parts.tiles → tiles ≡ parts.tiles
    told g = cc

    same : ◌≡◌ {A = ShapeParts} (record { tiles = tiles; melds = melds; seen = seen }) parts
    same = with_tiles (told (sym e ∙ f)) ∙ with_melds melds_are ∙ with_seen seen_are
      where
        with_tiles : tiles ≡ parts.tiles → ◌≡◌ {A = ShapeParts} (record { tiles = tiles; melds = melds; seen = seen }) (record { tiles = parts.tiles; melds = melds; seen = seen })
        with_tiles g = ap (λ (t : List ℕ). record { tiles = t; melds = melds; seen = seen }) g

        with_melds : melds ≡ parts.melds → ◌≡◌ {A = ShapeParts} (record { tiles = parts.tiles; melds = melds; seen = seen }) (record { tiles = parts.tiles; melds = parts.melds; seen = seen })
        with_melds g = ap (λ (m : List Meld). record { tiles = parts.tiles; melds = m; seen = seen }) g

        with_seen : seen ≡ parts.seen → ◌≡◌ {A = ShapeParts} (record { tiles = parts.tiles; melds = parts.melds; seen = seen }) parts
        with_seen g = ap (λ (s : List ℕ). record { tiles = parts.tiles; melds = parts.melds; seen = s }) g

pub never_none : (tiles : List ℕ) (found : Option (List ℕ)) → found ≡ None → found ≡ Some tiles → ⊥
never_none tiles found e f = told (sym e ∙ f)
  where
    told : ◌≡◌ {A = Option (List ℕ)} None (Some tiles) → ⊥
    told g = cc
