-- The draws that lead there are no more than all.
use Rattle.std.proofs.Common.{◌≡◌, ℕ, zero, suc, ◌+◌, ◌-◌, ◌*◌, ◌<◌, ◌≤◌, Bool, true, false, cond, List, refl, ap, ◌∙◌, ⊎_elim, arith}
use Rattle.std.proofs.lemmas.Bool.{cases_lt, leb-false, lt-ltb}
use Rattle.std.specs.Prelude.{sum_by, ◌&&◌}
use Rattle.std.specs.List.{filter}
use Rattle.riichi_hand.specs.HandParts.{ShapeParts}
use Rattle.riichi_tiles.specs.Melds.{every_kind, tiles}
use Rattle.riichi_tiles.specs.declared.meld.Meld.{Meld}
use Rattle.riichi_tiles.proofs.Members.{IsIn, in-filter-inv, in-range-inv}
use Rattle.riichi_rows.proofs.Spread.{spread, sum_range}
use Rattle.riichi_shape.specs.Accepted.{is_accepted, live_of, with_one, without_one}
use Rattle.riichi_shape.specs.Discards.{is_discard}
use Rattle.riichi_shape.specs.EveryWinning.{distance_of}
use Rattle.riichi_deeper.specs.Drawn.{parts_with, parts_without}
use Rattle.riichi_chances.specs.Draws.{all_draws, best_rest, draws, is_there, parts_passed, unseen_of, value_behind}
use Rattle.riichi_chances.specs.Laws.{ChanceLaw}
use Rattle.riichi_chances.proofs.BoundLemmas.{times_few}
use Rattle.riichi_chances.proofs.CountedLemmas.{AgreeOnLacked, AreSame, is_lacked, one_less_same, parts_of, passed, passed_unseen, thrown_left, thrown_unseen}
use Rattle.riichi_chances.proofs.SumLemmas.{greatest_few}
use Rattle.riichi_chances.proofs.SpanLemmas.{all_more, all_none}

pub spread_most : (live after : ℕ → ℕ) (most a n : ℕ) → ((k : ℕ) → k < a + n → live k * after k ≤ live k * most) → spread (λ k. live k * after k) a n ≤ spread live a n * most
unfolding spread
spread_most live after most a zero each = omega arith
spread_most live after most a (suc n) each = omega (arith, each a (omega arith), spread_most live after most (a + 1) n (λ k low. each k (omega arith)))

-- what has no live copies may be of any value
pub with_some : (live a b : ℕ) → (0 < live → a ≤ b) → live * a ≤ live * b
with_some live a b less = ⊎_elim (λ some. times_few live live a b (omega arith) (less some)) (λ none. no_live live (omega (arith, none))) (cases_lt 0 live)
  where
    no_live : (l : ℕ) → l ≡ 0 → l * a ≤ l * b
    no_live l e = omega (arith, ap (λ m. m * a) e, ap (λ m. m * b) e)

module _ (melds : List Meld) (melded : (kind : ℕ) → kind < 34 → tiles melds kind ≤ 4) where
  -- where no reward is more than so much, and no value of what is left
  module _ (goal most : ℕ) (reward : ℕ → ℕ) (value : ShapeParts → ℕ) (hand seen told : List ℕ) (know : AgreeOnLacked hand melds seen told) (n : ℕ) (n_is : n ≡ unseen_of (parts_of hand melds seen)) (reward_few : (kind : ℕ) → reward kind ≤ most)
      (later : (hand seen told : List ℕ) → AgreeOnLacked hand melds seen told → n - 1 ≡ unseen_of (parts_of hand melds seen) → value (parts_of hand melds seen) ≤ most) where
    abbrev copies : ℕ → ℕ
    copies = live_of hand melds seen

    abbrev after : ℕ → ℕ
    after kind = value_behind goal (reward kind) value (parts_of hand melds seen) kind

    one_fewer : (m : ℕ) → unseen_of (parts_of hand melds seen) ≡ m + 1 → n - 1 ≡ m
    one_fewer m e = omega (arith, n_is, e)

    kept : (kind : ℕ) → kind < 34 → 0 < copies kind → is_lacked hand melds kind ≡ true → is_there goal (parts_with (parts_of hand melds seen) kind) ≡ false → best_rest value (parts_with (parts_of hand melds seen) kind) ≤ most
    kept kind inside some nearer not = greatest_few (λ thrown. value (parts_without (parts_with (parts_of hand melds seen) kind) thrown)) most (filter (is_discard (with_one hand kind) melds) every_kind) each
      where
        not_there : 0 < distance_of (with_one hand kind) melds
        not_there = omega (arith, leb-false (distance_of (with_one hand kind) melds) goal not)

        each : (thrown : ℕ) → IsIn thrown (filter (is_discard (with_one hand kind) melds) every_kind) → value (parts_without (parts_with (parts_of hand melds seen) kind) thrown) ≤ most
        each thrown there =
            let chosen = in-filter-inv (is_discard (with_one hand kind) melds) thrown every_kind there in
            let low : thrown < 34 = omega (arith, (in-range-inv 34 0 thrown chosen.0).1) in
            later (without_one (with_one hand kind) thrown) (with_one seen thrown) told (thrown_left melds melded AreSame one_less_same hand seen told know kind inside some nearer not_there thrown low chosen.1)
            (one_fewer (unseen_of (parts_of (without_one (with_one hand kind) thrown) melds (with_one seen thrown))) (thrown_unseen melds melded AreSame one_less_same hand seen told know kind inside some nearer not_there thrown low chosen.1))

    by_tests : (t u v : Bool) → u ≡ (true && v) → (a b c : ℕ) → a ≤ most → (t ≡ false → v ≡ true → b ≤ most) → (v ≡ false → c ≤ most) → cond t a (cond u b c) ≤ most
    by_tests true u v e a b c here kept_few passed_few = here
    by_tests false true true e a b c here kept_few passed_few = kept_few refl refl
    by_tests false false false e a b c here kept_few passed_few = passed_few refl
    by_tests false true false e a b c here kept_few passed_few = absurd (cc)
    by_tests false false true e a b c here kept_few passed_few = absurd (cc)

    each_few : (kind : ℕ) → kind < 34 → copies kind * after kind ≤ copies kind * most
    each_few kind inside = with_some (copies kind) (after kind) most some_live
      where
        some_live : 0 < copies kind → after kind ≤ most
        some_live some =
            by_tests (is_there goal (parts_with (parts_of hand melds seen) kind)) (is_accepted hand melds seen kind) (is_lacked hand melds kind) (ap (λ t. t && is_lacked hand melds kind) (lt-ltb 0 (copies kind) some))
            (reward kind) (best_rest value (parts_with (parts_of hand melds seen) kind)) (value (parts_passed (parts_of hand melds seen) kind))
            (reward_few kind) (λ not nearer. kept kind inside some nearer not)
            (λ alone. later hand (with_one seen kind) told (passed melds melded AreSame one_less_same hand seen told know kind inside alone) (one_fewer (unseen_of (parts_of hand melds (with_one seen kind))) (passed_unseen melds melded AreSame one_less_same hand seen told know kind inside some)))

    pub sum_few : sum_by (λ kind. copies kind * after kind) every_kind ≤ n * most
    unfolding unseen_of
    sum_few = omega (arith, sum_range (λ kind. copies kind * after kind) 0 34, sum_range copies 0 34, spread_most copies after most 0 34 (λ k low. each_few k (omega arith)), ap (λ m. m * most) (n_is ∙ sum_range copies 0 34))

  draws_few : (goal turns : ℕ) (hand seen told : List ℕ) (n : ℕ) → AgreeOnLacked hand melds seen told → n ≡ unseen_of (parts_of hand melds seen) → draws goal (parts_of hand melds seen) turns ≤ all_draws n turns
  unfolding draws
  draws_few goal zero hand seen told n know n_is = by_test (is_there goal (parts_of hand melds seen)) (all_none n)
    where
      by_test : {m : ℕ} (t : Bool) → m ≡ 1 → cond t 1 0 ≤ m
      by_test true e = omega (arith, e)
      by_test false e = omega arith
  draws_few goal (suc left) hand seen told n know n_is =
      by_test (is_there goal (parts_of hand melds seen)) (omega (arith, ap (λ m. all_draws m (suc left)) n_is))
      (omega (arith, all_more n left, sum_few goal (all_draws (n - 1) left) (λ kind. all_draws (unseen_of (parts_of hand melds seen) - 1) left) (λ rest. draws goal rest left) hand seen told know n n_is (λ kind. omega (arith, ap (λ m. all_draws (m - 1) left) n_is)) (λ h s t. draws_few goal left h s t (n - 1))))
    where
      by_test : {a b m : ℕ} (t : Bool) → a ≤ m → b ≤ m → cond t a b ≤ m
      by_test true here there = here
      by_test false here there = there

pub chance_law : ChanceLaw
chance_law goal parts turns is =
    draws_few parts.melds is.melded goal turns parts.tiles parts.seen parts.seen (unseen_of parts) (record { long = is.each_kind; seen_long = is.each_seen; told_long = is.each_seen; thirteen = is.thirteen; alike = λ kind low lacked. refl }) refl
