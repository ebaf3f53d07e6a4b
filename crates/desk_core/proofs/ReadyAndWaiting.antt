-- A hand is ready exactly where it waits.
use Rattle.std.proofs.Common.{◌≡◌, ℕ, pos, ◌+◌, ◌≤ℤ◌, ◌<◌, ◌≤◌, ◌↔◌, inl, inr, true, false, List, [], ◌∷◌, length, refl, sym, subst, arith}
use Rattle.std.proofs.lemmas.Bool.{cases_eq, eqb-true, ltb-false}
use Rattle.std.proofs.lemmas.Int.{ints}
use Rattle.std.proofs.lemmas.List.{length-set}
use Rattle.std.specs.Prelude.{nat_lt, slice_index}
use Rattle.riichi_tiles.specs.Tiles.{IsCounts}
use Rattle.riichi_tiles.specs.Melds.{every_kind, tiles}
use Rattle.riichi_tiles.specs.declared.meld.Meld.{Meld}
use Rattle.riichi_hand.specs.HandParts.{HandParts}
use Rattle.riichi_hand.specs.Hand.{copies_held, has_five_copies, is_thirteen, size, IsHand}
use Rattle.riichi_split.specs.Waits.{with_one}
use Rattle.riichi_split.proofs.AnyTile.{form-iff, reading-iff}
use Rattle.riichi_tiles.proofs.Members.{IsIn, in-range, none-in}
use Rattle.riichi_split.proofs.Marks.{few_melds}
use Rattle.riichi_shape.specs.EveryWinning.{distance_of, every_winning, shanten_of}
use Rattle.riichi_shape.specs.Ready.{IsReady}
use Rattle.riichi_shape.specs.Winning.{IsWinning}
use Rattle.riichi_shape.proofs.Distances.{never_none}
use Rattle.riichi_shape.proofs.ReadyLemmas.{one_more_at, one_more_past, ready_is}
use Rattle.riichi_hand.proofs.OutcomeLemmas.{no_faults}
use Rattle.riichi_shape.proofs.Uniqueness.{distance_from, listed_winning, winning_listed}
use Rattle.desk_core.specs.Ready.{HasWait}

-- ---- the distance is that of some winning multiset

some_winning : (hand : List ℕ) (melds : List Meld) → ((kind : ℕ) → kind < 34 → tiles melds kind ≤ 4) → length melds ≤ 4 → (wanted : List ℕ) × IsWinning melds wanted
some_winning hand melds within few = by_list (every_winning melds) refl
  where
    by_list : (all : List (List ℕ)) → every_winning melds ≡ all → (wanted : List ℕ) × IsWinning melds wanted
    by_list [] none =
        absurd (never_none hand melds few within
        (λ wanted sets four. subst (λ (all : List (List ℕ)). IsIn (listed_winning melds wanted (record { form = inl sets; within_four = four })).listed all) none (listed_winning melds wanted (record { form = inl sets; within_four = four })).among))
    by_list (first ∷ rest) some = (first, winning_listed melds first (subst (λ (all : List (List ℕ)). IsIn first all) (sym some) (inl refl)))

-- ---- what is known of a hand

module _ (hand : HandParts) (counts : IsCounts hand.concealed) (is : IsHand hand) where
  tests : (is_thirteen hand.concealed hand.melds ≡ true) × (has_five_copies hand.concealed hand.melds ≡ false)
  tests = no_faults (is_thirteen hand.concealed hand.melds) (has_five_copies hand.concealed hand.melds) is

  thirteen : size hand.concealed hand.melds ≡ 13
  thirteen = eqb-true (size hand.concealed hand.melds) 13 tests.0

  few : length hand.melds ≤ 4
  few = few_melds hand is

  at_most_four : (kind : ℕ) → kind < 34 → copies_held hand.concealed hand.melds kind ≤ 4
  at_most_four kind low =
      ltb-false 4 (copies_held hand.concealed hand.melds kind) (none-in (λ kind. nat_lt 4 (copies_held hand.concealed hand.melds kind)) every_kind tests.1 kind (in-range 34 0 kind (omega arith) (omega (arith, low))))

  pub melded : (kind : ℕ) → kind < 34 → tiles hand.melds kind ≤ 4
  melded kind low = omega (arith, at_most_four kind low)

  completed_is_long : (kind : ℕ) → length (with_one hand.concealed kind) ≡ 34
  completed_is_long kind = simp length-set counts.each_kind

  one_more_of : (kind : ℕ) → kind < 34 → slice_index (with_one hand.concealed kind) kind ≡ slice_index hand.concealed kind + 1
  one_more_of kind low = one_more_at hand.concealed kind (omega (arith, counts.each_kind, low))

  waits : IsReady hand.concealed hand.melds → HasWait hand
  waits ready = (
    ready.kind,
    record {
      of_a_kind = ready.is_kind;
      some_left = omega (arith, ready.is_winning.within_four.at ready.kind ready.is_kind, one_more_of ready.kind ready.is_kind);
      completes = (reading-iff (with_one hand.concealed ready.kind) (length hand.melds) ready.kind (completed_is_long ready.kind) (omega (arith, one_more_of ready.kind ready.is_kind))).0
          ((form-iff (with_one hand.concealed ready.kind) (length hand.melds)).1 (few, ready.is_winning.form));
    },
  )

  within_four : (kind : ℕ) → kind < 34 → copies_held hand.concealed hand.melds kind < 4 → (other : ℕ) → other < 34 → slice_index (with_one hand.concealed kind) other + tiles hand.melds other ≤ 4
  within_four kind low left other inside =
      elim (cases_eq other kind) [
        | inl same ↦ rw same (omega (arith, one_more_of kind low, left))
        | inr apart ↦ omega (arith, one_more_past hand.concealed kind other apart, at_most_four other inside)
      ]

  is_ready : HasWait hand → IsReady hand.concealed hand.melds
  is_ready wait =
      let kind = wait.0 in
      record {
        kind = kind;
        is_kind = wait.1.of_a_kind;
        is_winning = record {
          form = ((form-iff (with_one hand.concealed kind) (length hand.melds)).0
              ((reading-iff (with_one hand.concealed kind) (length hand.melds) kind (completed_is_long kind) (omega (arith, one_more_of kind wait.1.of_a_kind))).1 wait.1.completes)).1;
          within_four = record { at = within_four kind wait.1.of_a_kind wait.1.some_left };
        };
      }

  lacks : (0 < distance_of hand.concealed hand.melds) × ((distance_of hand.concealed hand.melds ≡ 1) ↔ IsReady hand.concealed hand.melds)
  lacks =
      let some = some_winning hand.concealed hand.melds melded few in
      ready_is hand.concealed hand.melds (distance_of hand.concealed hand.melds) counts.each_kind thirteen (distance_from hand.concealed hand.melds some.0 some.1)

  pub ready_iff : (shanten_of hand.concealed hand.melds ≡ pos 0) ↔ HasWait hand
  ready_iff = (λ zero. waits (lacks.1.0 (omega (arith, ints, zero))), λ wait. let one = lacks.1.1 (is_ready wait) in omega (arith, ints, one))

  pub never_below : pos 0 ≤ℤ shanten_of hand.concealed hand.melds
  never_below = let some = lacks.0 in omega (arith, ints, some)
