-- Tiles that are seen beside a hand.
use Rattle.std.proofs.Common.{◌≡◌, ℕ, ◌+◌, ◌<◌, ◌≤◌, Bool, true, false, List, [], ◌∷◌, map, refl, sym, ap, ◌∙◌, arith}
use Rattle.std.proofs.lemmas.Bool.Decides.{nat_tests}
use Rattle.std.proofs.lemmas.List.FromFn.{get_or-map-range_with_len}
use Rattle.std.specs.Prelude.{◌&&◌, Err, None, Ok, Option, Some, nat_le, nat_lt, not, slice_index, sum, if◌then◌else◌}
use Rattle.std.specs.List.{list_all}
use Rattle.riichi_hand.specs.declared.fault.LineCode.TheVariants.{H8, H9}
use Rattle.riichi_hand.specs.declared.fault.LineFault.{LineFault}
use Rattle.riichi_hand.specs.declared.fault.LineFault.TheVariants.{Line}
use Rattle.riichi_hand.specs.Faults.{coded, fault_or, first_fault}
use Rattle.riichi_hand.specs.Hand.{IsShape, copies_held, copies_with, has_five_seen, is_thirteen_or_more, shape_of}
use Rattle.riichi_hand.specs.HandParts.{ShapeParts}
use Rattle.riichi_tiles.specs.Melds.{every_kind}
use Rattle.riichi_tiles.proofs.Members.{all-from, in-range-inv, none-in}
use Rattle.riichi_worth.specs.declared.stakes.Stakes.{Stakes}
use Rattle.riichi_study.specs.Records.{IsWorth, are_seen, both_counts, with_seen}

-- ---- a kind of which more than four are seen

abbrev is_few : ℕ → Bool
is_few count = nat_le count 4

few_each : (seen : ℕ → ℕ) (kinds : List ℕ) → list_all is_few (map seen kinds) ≡ list_all (λ kind. is_few (seen kind)) kinds
few_each seen [] = refl
few_each seen (kind ∷ kinds) = ap (λ t. is_few (seen kind) && t) (few_each seen kinds)

few_of : (held seen all : ℕ) → all ≡ seen → nat_lt 4 (held + all) ≡ false → nat_le seen 4 ≡ true
few_of held seen all is few = grind (arith, nat_tests)

pub both_at : (one other : List ℕ) (kind : ℕ) → kind < 34 → slice_index (both_counts one other) kind ≡ slice_index one kind + slice_index other kind
both_at one other kind low = get_or-map-range_with_len (λ k. slice_index one k + slice_index other k) 0 34 kind kind 0 low (omega arith)

-- the parts of a hand that has the right size, and a fifth copy of a kind
five_seen : (sized five : Bool) (parts : ShapeParts) → sized ≡ true → five ≡ true → fault_or (first_fault (coded H8 (not sized) ∷ coded H9 five ∷ [])) parts ≡ Err (Line H9)
five_seen true true parts e f = refl
five_seen true false parts e f = absurd (cc)
five_seen false five parts e f = absurd (cc)

sized_by : (sized five : Bool) → first_fault (coded H8 (not sized) ∷ coded H9 five ∷ []) ≡ None → sized ≡ true
sized_by true five e = refl
sized_by false five e = absurd (cc)

module _ (hand : ShapeParts) (tiles : List ℕ) where
  seen_in_all : ℕ → ℕ
  seen_in_all kind = slice_index hand.seen kind + slice_index tiles kind

  all_few : has_five_seen (with_seen hand tiles) ≡ false → list_all is_few (both_counts hand.seen tiles) ≡ true
  unfolding seen_in_all
  all_few none =
      few_each seen_in_all every_kind ∙ all-from (λ kind. is_few (seen_in_all kind)) every_kind (λ kind i.
      few_of (copies_held hand.tiles hand.melds kind) (seen_in_all kind) (slice_index (both_counts hand.seen tiles) kind) (both_at hand.seen tiles kind (in-range-inv 34 0 kind i).1)
      (none-in (λ k. nat_lt 4 (copies_with (with_seen hand tiles) k)) every_kind none kind i))

  has_five : list_all is_few (both_counts hand.seen tiles) ≡ false → has_five_seen (with_seen hand tiles) ≡ true
  has_five more = by_test (has_five_seen (with_seen hand tiles)) refl
    where
      by_test : (t : Bool) → has_five_seen (with_seen hand tiles) ≡ t → has_five_seen (with_seen hand tiles) ≡ true
      by_test true e = e
      by_test false e = absurd (let both : true ≡ false = sym (all_few e) ∙ more in cc)

  pub too_many_seen : IsShape hand → list_all is_few (both_counts hand.seen tiles) ≡ false → shape_of (with_seen hand tiles) ≡ Err (Line H9)
  unfolding shape_of
  too_many_seen shape more =
      five_seen (is_thirteen_or_more hand.tiles hand.melds) (has_five_seen (with_seen hand tiles)) (with_seen hand tiles) (sized_by (is_thirteen_or_more hand.tiles hand.melds) (has_five_seen hand) shape) (has_five more)

-- ---- a record

-- the tiles are among those that are seen
pub seen_too : (one tiles : List ℕ) → are_seen tiles (both_counts one tiles) ≡ true
seen_too one tiles = all-from (λ kind. nat_le (slice_index tiles kind) (slice_index (both_counts one tiles) kind)) every_kind (λ kind i. no_more (slice_index one kind) (slice_index tiles kind) (slice_index (both_counts one tiles) kind) (both_at one tiles kind (in-range-inv 34 0 kind i).1))
  where
    no_more : (a b both : ℕ) → both ≡ a + b → nat_le b both ≡ true
    no_more a b both e = grind (arith, nat_tests)

-- counts are those of both together, where no kind has more than four of them
pub counts_are : (few : Bool) (all counts : List ℕ) → Some counts ≡ (if few then Some all else None) → counts ≡ all
counts_are true all counts e = cc
counts_are false all counts e = absurd (cc)

pub too_many_are : (few : Bool) (all : List ℕ) → None ≡ (if few then Some all else None) → few ≡ false
too_many_are true all e = absurd (cc)
too_many_are false all e = refl

shape_there : (parts found : ShapeParts) → Ok found ≡ shape_of parts → found ≡ parts
unfolding shape_of
shape_there parts found e = by_fault (first_fault (coded H8 (not (is_thirteen_or_more parts.tiles parts.melds)) ∷ coded H9 (has_five_seen parts) ∷ [])) e
  where
    by_fault : (fault : Option LineFault) → Ok found ≡ fault_or fault parts → found ≡ parts
    by_fault None e = cc
    by_fault (Some fault) e = absurd (cc)

pub is_worth : (hand found : ShapeParts) (stakes : Stakes) → sum stakes.dora ≤ 5 → Ok found ≡ shape_of (with_seen hand stakes.dora) → IsWorth (record { hand = found; stakes = stakes })
is_worth hand found stakes few e = both (sum stakes.dora) (are_seen stakes.dora found.seen) few (ap (λ (parts : ShapeParts). are_seen stakes.dora parts.seen) (shape_there (with_seen hand stakes.dora) found e) ∙ seen_too hand.seen stakes.dora)
  where
    both : (count : ℕ) (seen : Bool) → count ≤ 5 → seen ≡ true → (nat_le count 5 && seen) ≡ true
    both count true few e = grind (arith, nat_tests)
    both count false few e = absurd (cc)
