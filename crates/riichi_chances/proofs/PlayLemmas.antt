-- No play that keeps only what brings the hand nearer has more draws than the upper end.
use Rattle.std.proofs.Common.{◌≡◌, ℕ, zero, suc, ◌+◌, ◌-◌, ◌*◌, ◌<◌, ◌≤◌, Bool, true, false, cond, Option, Some, None, List, [], ◌∷◌, length, refl, sym, ap, ◌∙◌, ⊎_elim, arith}
use Rattle.std.proofs.lemmas.Bool.{and_parts, cases_lt, leb-false, lt-ltb, ltb-true}
use Rattle.std.proofs.lemmas.List.{get_or_past}
use Rattle.std.proofs.lemmas.List.Sums.{sum_by-cons}
use Rattle.std.specs.List.{filter}
use Rattle.std.specs.Prelude.{nat_lt, slice_index, sum_by, ◌&&◌}
use Rattle.riichi_hand.specs.HandParts.{ShapeParts}
use Rattle.riichi_tiles.specs.Melds.{every_kind, tiles}
use Rattle.riichi_tiles.specs.Tiles.{has_tile}
use Rattle.riichi_tiles.specs.declared.meld.Meld.{Meld}
use Rattle.riichi_tiles.proofs.Members.{in-filter, in-range}
use Rattle.riichi_rows.proofs.Spread.{spread, sum_range}
use Rattle.riichi_shape.specs.Accepted.{is_accepted, live_of, with_one, without_one}
use Rattle.riichi_shape.specs.Discards.{is_best, is_discard}
use Rattle.riichi_shape.specs.EveryWinning.{distance_of}
use Rattle.riichi_shape.specs.LiveCopies.{live_in}
use Rattle.riichi_deeper.specs.Drawn.{parts_with, parts_without}
use Rattle.riichi_chances.specs.AtMost.{accepted_most, counted_most, most_by, most_of_all, most_with}
use Rattle.riichi_chances.specs.Counted.{accepted_draws, accepts, counted_by, counted_draws, counted_rest, counted_with, parts_less}
use Rattle.riichi_chances.specs.Draws.{all_draws, greatest, is_there, parts_passed, unseen_of}
use Rattle.riichi_chances.specs.Laws.{MostLaw, PlayLaw}
use Rattle.riichi_chances.specs.Plays.{DrawPlay, draws_by, parts_chosen, parts_played, played_behind}
use Rattle.riichi_chances.proofs.BoundLemmas.{times_few}
use Rattle.riichi_chances.proofs.ChanceLemmas.{chance_law, spread_most, with_some}
use Rattle.riichi_chances.proofs.CountedLemmas.{KnowsLacked, accepted_sum, counted_law, is_lacked, no_nearer, parts_of, passed_unseen, thrown_left, thrown_unseen}
use Rattle.riichi_chances.proofs.CountingLemmas.{far_with, near_with}
use Rattle.riichi_chances.proofs.LiveDraws.{passed_live}
use Rattle.riichi_chances.proofs.NearestLemmas.{more_long}
use Rattle.riichi_chances.proofs.RowLemmas.{greatest_some}
use Rattle.riichi_chances.proofs.SpanLemmas.{all_more, all_none}

-- ---- fewer live copies move weight from the greater number to the lesser

cross : (l x v y : ℕ) → l * (v + y) + (l + x) * v ≤ l * v + (l + x) * (v + y)
cross l x v y = omega arith

part_most : (l a many v m : ℕ) (t : Bool) → v ≤ m → (t ≡ true → (l ≤ many) × (l * a ≤ l * m)) → (t ≡ false → l * a ≤ l * v) → l * a + cond t many 0 * v ≤ l * v + cond t (many * m) 0
part_most l a many v m true less is not = by_rest (many - l) (m - v) (omega (arith, (is refl).0)) (omega (arith, less)) (is refl).1
  where
    by_rest : (x y : ℕ) → many ≡ l + x → m ≡ v + y → l * a ≤ l * m → l * a + many * v ≤ l * v + many * m
    by_rest x y e f few = omega (arith, few, cross l x v y, ap (λ n. l * n) f, ap (λ n. n * v) e, ap (λ n. n * m) e ∙ ap (λ n. (l + x) * n) f)
part_most l a many v m false less is not = omega (arith, not refl)

module _ (live after many most : ℕ → ℕ) (chosen : ℕ → Bool) (common : ℕ) where
  sums_most : (a n : ℕ) → ((k : ℕ) → k < a + n → live k * after k + cond (chosen k) (many k) 0 * common ≤ live k * common + cond (chosen k) (many k * most k) 0)
      → spread (λ k. live k * after k) a n + spread (λ k. cond (chosen k) (many k) 0) a n * common ≤ spread live a n * common + spread (λ k. cond (chosen k) (many k * most k) 0) a n
  unfolding spread
  sums_most a zero each = omega arith
  sums_most a (suc n) each = omega (arith, each a (omega arith), sums_most (a + 1) n (λ k low. each k (omega arith)))

without_most : (total few all common some : ℕ) → total + few * common ≤ all * common + some → total ≤ (all - few) * common + some
without_most total few all common some less = ⊎_elim (λ fewer. omega (arith, less, times_few all few common common (omega (arith, fewer)) (omega arith))) (λ more. by_rest (all - few) (omega (arith, more))) (cases_lt all few)
  where
    by_rest : (rest : ℕ) → all ≡ rest + few → total ≤ rest * common + some
    by_rest rest is = omega (arith, less, ap (λ n. n * common) is)

-- ---- two accounts of what is seen, of which one has no more live copies of what is lacked

abbrev pub NoMore : ℕ → ℕ → Type 0
NoMore a b = a ≤ b

one_less_few : (a b : ℕ) → NoMore a b → NoMore (a - 1) (b - 1)
one_less_few a b few = omega (arith, few)

held_inside : (hand : List ℕ) (kind : ℕ) → length hand ≡ 34 → 0 < slice_index hand kind → kind < 34
held_inside hand kind long held = ⊎_elim (λ low. low) (λ past. absurd (omega (arith, held, get_or_past hand kind 0 (omega (arith, long, past))))) (cases_lt kind 34)

held_then : (hand : List ℕ) (melds : List Meld) (thrown : ℕ) → length hand ≡ 34 → is_discard hand melds thrown ≡ true → thrown < 34
held_then hand melds thrown long best = held_inside hand thrown long (ltb-true 0 (slice_index hand thrown) (and_parts (has_tile hand thrown) (is_best hand melds thrown) best).0)

-- ---- what is left once a tile was drawn, where the draws of what is left are bounded

module _ (melds : List Meld) (melded : (kind : ℕ) → kind < 34 → tiles melds kind ≤ 4) (play : DrawPlay) (goal left : ℕ) (bound : List ℕ → List ℕ → ℕ → ℕ)
    (later : (drawn hand seen told : List ℕ) (n : ℕ) → KnowsLacked NoMore hand melds seen told → n ≡ unseen_of (parts_of hand melds seen) → draws_by play drawn goal (parts_of hand melds seen) left ≤ bound told hand n)
    (drawn hand seen told : List ℕ) (know : KnowsLacked NoMore hand melds seen told) (n : ℕ) (n_is : n ≡ unseen_of (parts_of hand melds seen)) (kind : ℕ) (inside : kind < 34) (some : 0 < live_of hand melds seen kind) where
  one_fewer : (m : ℕ) → unseen_of (parts_of hand melds seen) ≡ m + 1 → n - 1 ≡ m
  one_fewer m e = omega (arith, n_is, e)

  -- a tile that is thrown has fewer live copies then
  thrown_at_once : KnowsLacked NoMore hand melds (with_one seen kind) told
  thrown_at_once = record {
    long = know.long;
    seen_long = more_long seen kind know.seen_long;
    told_long = know.told_long;
    thirteen = know.thirteen;
    alike = λ other low lacked. omega (arith, know.alike other low lacked, passed_live hand melds seen kind (omega (arith, know.seen_long, inside)) some other);
  }

  passed_bound : draws_by play (kind ∷ drawn) goal (parts_passed (parts_of hand melds seen) kind) left ≤ bound told hand (n - 1)
  passed_bound = later (kind ∷ drawn) hand (with_one seen kind) told (n - 1) thrown_at_once (one_fewer (unseen_of (parts_passed (parts_of hand melds seen) kind)) (passed_unseen melds melded NoMore one_less_few hand seen told know kind inside some))

  kept_bound : is_lacked hand melds kind ≡ true → 0 < distance_of (with_one hand kind) melds → (thrown : ℕ) → thrown < 34 → is_discard (with_one hand kind) melds thrown ≡ true
      → draws_by play (kind ∷ drawn) goal (parts_without (parts_with (parts_of hand melds seen) kind) thrown) left ≤ bound told (without_one (with_one hand kind) thrown) (n - 1)
  kept_bound nearer far thrown low best =
      later (kind ∷ drawn) (without_one (with_one hand kind) thrown) (with_one seen thrown) told (n - 1) (thrown_left melds melded NoMore one_less_few hand seen told know kind inside some nearer far thrown low best)
      (one_fewer (unseen_of (parts_without (parts_with (parts_of hand melds seen) kind) thrown)) (thrown_unseen melds melded NoMore one_less_few hand seen told know kind inside some nearer far thrown low best))

module _ (melds : List Meld) (melded : (kind : ℕ) → kind < 34 → tiles melds kind ≤ 4) (play : DrawPlay) (goal left : ℕ)
    (later : (drawn hand seen told : List ℕ) (n : ℕ) → KnowsLacked NoMore hand melds seen told → n ≡ unseen_of (parts_of hand melds seen) → draws_by play drawn goal (parts_of hand melds seen) left ≤ counted_most goal (parts_of hand melds told) n left)
    (drawn hand seen told : List ℕ) (know : KnowsLacked NoMore hand melds seen told) (n : ℕ) (n_is : n ≡ unseen_of (parts_of hand melds seen)) (far : is_there goal (parts_of hand melds seen) ≡ false) where
  abbrev parts : ShapeParts
  parts = parts_of hand melds seen

  abbrev copies : ℕ → ℕ
  copies = live_of hand melds seen

  abbrev many : ℕ → ℕ
  many = live_of hand melds told

  abbrev value : ShapeParts → ℕ
  value rest = counted_most goal rest (n - 1) left

  abbrev common : ℕ
  common = value (parts_of hand melds told)

  abbrev most : ℕ → ℕ
  most kind = most_with goal (n - 1) left value (parts_of hand melds told) kind

  abbrev by : ℕ → ShapeParts → ℕ
  by kind rest = draws_by play (kind ∷ drawn) goal rest left

  abbrev after : ℕ → ℕ
  after kind = played_behind goal left (by kind) play drawn parts kind

  abbrev bound : List ℕ → List ℕ → ℕ → ℕ
  bound account rest m = counted_most goal (parts_of rest melds account) m left

  module _ (kind : ℕ) (inside : kind < 34) where
    module _ (some : 0 < copies kind) where
      passed_few : by kind (parts_passed parts kind) ≤ common
      passed_few = passed_bound melds melded play goal left bound later drawn hand seen told know n n_is kind inside some

      module _ (nearer : is_lacked hand melds kind ≡ true) where
        there_few : is_there goal (parts_with parts kind) ≡ true → all_draws (unseen_of parts - 1) left ≤ most kind
        there_few near = omega (arith, near_with goal (n - 1) left value (parts_with (parts_of hand melds told) kind) near, ap (λ m. all_draws (m - 1) left) n_is)

        module _ (not : is_there goal (parts_with parts kind) ≡ false) where
          kept_few : (thrown : ℕ) → is_discard (with_one hand kind) melds thrown ≡ true → by kind (parts_without (parts_with parts kind) thrown) ≤ most kind
          unfolding counted_rest
          kept_few thrown best =
              let low = held_then (with_one hand kind) melds thrown (more_long hand kind know.long) best in
              let not_there : 0 < distance_of (with_one hand kind) melds = omega (arith, leb-false (distance_of (with_one hand kind) melds) goal not) in
              omega (
                arith,
                kept_bound melds melded play goal left bound later drawn hand seen told know n n_is kind inside some nearer not_there thrown low best,
                far_with goal (n - 1) left value (parts_with (parts_of hand melds told) kind) not,
                greatest_some (λ k. value (parts_less (parts_with (parts_of hand melds told) kind) k)) (filter (is_discard (with_one hand kind) melds) every_kind) thrown (in-filter (is_discard (with_one hand kind) melds) thrown every_kind (in-range 34 0 thrown (omega arith) (omega (arith, low))) best),
              )

          chosen_few : (choice : Option ℕ) → by kind (parts_chosen choice parts kind) ≤ most kind
          chosen_few None = omega (arith, passed_few)
          chosen_few (Some thrown) = by_test (is_discard (with_one hand kind) melds thrown) (kept_few thrown)
            where
              by_test : (t : Bool) → (t ≡ true → by kind (parts_without (parts_with parts kind) thrown) ≤ most kind) → by kind (cond t (parts_without (parts_with parts kind) thrown) (parts_passed parts kind)) ≤ most kind
              by_test true kept = kept refl
              by_test false kept = omega (arith, passed_few)

          played_few : by kind (parts_played play drawn parts kind) ≤ most kind
          played_few = by_test (is_accepted hand melds seen kind)
            where
              by_test : (t : Bool) → by kind (cond t (parts_chosen (play drawn kind) parts kind) (parts_passed parts kind)) ≤ most kind
              by_test true = chosen_few (play drawn kind)
              by_test false = omega (arith, passed_few)

        accepted_few : after kind ≤ most kind
        accepted_few = by_test (is_there goal (parts_with parts kind)) there_few played_few
          where
            by_test : (t : Bool) → (t ≡ true → all_draws (unseen_of parts - 1) left ≤ most kind) → (t ≡ false → by kind (parts_played play drawn parts kind) ≤ most kind) → cond t (all_draws (unseen_of parts - 1) left) (by kind (parts_played play drawn parts kind)) ≤ most kind
            by_test true here there = here refl
            by_test false here there = there refl

      other_few : is_lacked hand melds kind ≡ false → after kind ≤ common
      other_few alone = by_tests (is_there goal (parts_with parts kind)) (is_accepted hand melds seen kind) (no_nearer goal hand melds seen far kind alone) (ap (λ t. nat_lt 0 (copies kind) && t) alone ∙ none (nat_lt 0 (copies kind)))
        where
          none : (t : Bool) → (t && false) ≡ false
          none true = refl
          none false = refl

          by_tests : (t u : Bool) → t ≡ false → u ≡ false → cond t (all_draws (unseen_of parts - 1) left) (by kind (cond u (parts_chosen (play drawn kind) parts kind) (parts_passed parts kind))) ≤ common
          by_tests false false e f = passed_few
          by_tests true u e f = absurd (cc)
          by_tests false true e f = absurd (cc)

    with_live : (a b : ℕ) → (0 < copies kind → a ≤ b) → copies kind * a ≤ copies kind * b
    with_live = with_some (copies kind)

    fewer : is_lacked hand melds kind ≡ true → copies kind ≤ many kind
    fewer lacked = know.alike kind inside lacked

    each_most : copies kind * after kind + cond (is_accepted hand melds told kind) (many kind) 0 * common ≤ copies kind * common + cond (is_accepted hand melds told kind) (many kind * most kind) 0
    each_most = part_most (copies kind) (after kind) (many kind) common (most kind) (is_accepted hand melds told kind) (omega arith) accepted other
      where
        accepted : is_accepted hand melds told kind ≡ true → (copies kind ≤ many kind) × (copies kind * after kind ≤ copies kind * most kind)
        accepted is = let lacked = (and_parts (nat_lt 0 (many kind)) (is_lacked hand melds kind) is).1 in (fewer lacked, with_live (after kind) (most kind) (λ some. accepted_few some lacked))

        not_lacked : (t : Bool) → t ≡ is_lacked hand melds kind → (nat_lt 0 (many kind) && t) ≡ false → 0 < copies kind → t ≡ false
        not_lacked false e f some = refl
        not_lacked true e f some = absurd (clash (nat_lt 0 (many kind)) (lt-ltb 0 (many kind) (omega (arith, some, fewer (sym e)))) f)
          where
            clash : (u : Bool) → u ≡ true → (u && true) ≡ false → ⊥
            clash true e f = cc
            clash false e f = cc

        other : is_accepted hand melds told kind ≡ false → copies kind * after kind ≤ copies kind * common
        other not = with_live (after kind) common (λ some. other_few some (not_lacked (is_lacked hand melds kind) refl not some))

  one_turn_most : sum_by (λ kind. copies kind * after kind) every_kind ≤ (n - live_in (accepts (parts_of hand melds told))) * common + accepted_most goal (n - 1) left value (parts_of hand melds told)
  unfolding accepted_most unseen_of
  one_turn_most =
      let few = spread (λ k. cond (is_accepted hand melds told k) (many k) 0) 0 34 in
      let some = spread (λ k. cond (is_accepted hand melds told k) (many k * most k) 0) 0 34 in
      omega (
        arith,
        sum_range (λ kind. copies kind * after kind) 0 34,
        without_most (spread (λ kind. copies kind * after kind) 0 34) few (spread copies 0 34) common some (sums_most copies after many most (is_accepted hand melds told) common 0 34 (λ k low. each_most k (omega arith))),
        ap (λ m. (m - few) * common) (sym (n_is ∙ sum_range copies 0 34)) ∙ ap (λ m. (n - m) * common) (sym (accepted_sum (λ pair. pair.1) hand melds told)),
        accepted_sum (most_by goal (n - 1) left value (parts_of hand melds told)) hand melds told,
      )

module _ (melds : List Meld) (melded : (kind : ℕ) → kind < 34 → tiles melds kind ≤ 4) (play : DrawPlay) (goal : ℕ) where
  pub plays_few : (turns : ℕ) (drawn hand seen told : List ℕ) (n : ℕ) → KnowsLacked NoMore hand melds seen told → n ≡ unseen_of (parts_of hand melds seen) → draws_by play drawn goal (parts_of hand melds seen) turns ≤ counted_most goal (parts_of hand melds told) n turns
  unfolding draws_by counted_most
  plays_few zero drawn hand seen told n know n_is = omega arith
  plays_few (suc left) drawn hand seen told n know n_is =
      by_test (is_there goal (parts_of hand melds seen)) (omega (arith, ap (λ m. all_draws m (suc left)) n_is)) (one_turn_most melds melded play goal left (plays_few left) drawn hand seen told know n n_is)
    where
      by_test : {a b c d : ℕ} (t : Bool) → a ≤ c → (t ≡ false → b ≤ d) → cond t a b ≤ cond t c d
      by_test true here there = here
      by_test false here there = there refl

-- ---- no play has more than all draws

module _ (melds : List Meld) (melded : (kind : ℕ) → kind < 34 → tiles melds kind ≤ 4) (play : DrawPlay) (goal left : ℕ)
    (later : (drawn hand seen told : List ℕ) (n : ℕ) → KnowsLacked NoMore hand melds seen told → n ≡ unseen_of (parts_of hand melds seen) → draws_by play drawn goal (parts_of hand melds seen) left ≤ all_draws n left)
    (drawn hand seen told : List ℕ) (know : KnowsLacked NoMore hand melds seen told) (n : ℕ) (n_is : n ≡ unseen_of (parts_of hand melds seen)) where
  module _ (kind : ℕ) (inside : kind < 34) (some : 0 < live_of hand melds seen kind) where
    abbrev first_parts : ShapeParts
    first_parts = parts_of hand melds seen

    abbrev rest_draws : ShapeParts → ℕ
    rest_draws rest = draws_by play (kind ∷ drawn) goal rest left

    abbrev all_bound : List ℕ → List ℕ → ℕ → ℕ
    all_bound account rest m = all_draws m left

    passed_all : rest_draws (parts_passed first_parts kind) ≤ all_draws (n - 1) left
    passed_all = passed_bound melds melded play goal left all_bound later drawn hand seen told know n n_is kind inside some

    module _ (nearer : is_lacked hand melds kind ≡ true) (not : is_there goal (parts_with first_parts kind) ≡ false) where
      chosen_all : (choice : Option ℕ) → rest_draws (parts_chosen choice first_parts kind) ≤ all_draws (n - 1) left
      chosen_all None = passed_all
      chosen_all (Some thrown) = by_test (is_discard (with_one hand kind) melds thrown) kept
        where
          kept : is_discard (with_one hand kind) melds thrown ≡ true → rest_draws (parts_without (parts_with first_parts kind) thrown) ≤ all_draws (n - 1) left
          kept best =
              let not_there : 0 < distance_of (with_one hand kind) melds = omega (arith, leb-false (distance_of (with_one hand kind) melds) goal not) in
              kept_bound melds melded play goal left all_bound later drawn hand seen told know n n_is kind inside some nearer not_there thrown (held_then (with_one hand kind) melds thrown (more_long hand kind know.long) best) best

          by_test : (t : Bool) → (t ≡ true → rest_draws (parts_without (parts_with first_parts kind) thrown) ≤ all_draws (n - 1) left) → rest_draws (cond t (parts_without (parts_with first_parts kind) thrown) (parts_passed first_parts kind)) ≤ all_draws (n - 1) left
          by_test true here = here refl
          by_test false here = passed_all

    after_all : played_behind goal left rest_draws play drawn first_parts kind ≤ all_draws (n - 1) left
    after_all = by_tests (is_there goal (parts_with first_parts kind)) (is_accepted hand melds seen kind) (λ is. (and_parts (nat_lt 0 (live_of hand melds seen kind)) (is_lacked hand melds kind) is).1) chosen_all
      where
        by_tests : (t u : Bool) → (u ≡ true → is_lacked hand melds kind ≡ true) → (is_lacked hand melds kind ≡ true → t ≡ false → (choice : Option ℕ) → rest_draws (parts_chosen choice first_parts kind) ≤ all_draws (n - 1) left)
            → cond t (all_draws (unseen_of first_parts - 1) left) (rest_draws (cond u (parts_chosen (play drawn kind) first_parts kind) (parts_passed first_parts kind))) ≤ all_draws (n - 1) left
        by_tests true u lacked chosen = omega (arith, ap (λ m. all_draws (m - 1) left) n_is)
        by_tests false true lacked chosen = chosen (lacked refl) refl (play drawn kind)
        by_tests false false lacked chosen = passed_all

  one_turn_all : sum_by (λ kind. live_of hand melds seen kind * played_behind goal left (λ rest. draws_by play (kind ∷ drawn) goal rest left) play drawn (parts_of hand melds seen) kind) every_kind ≤ n * all_draws (n - 1) left
  unfolding unseen_of
  one_turn_all =
      let live = live_of hand melds seen in
      let after = λ (kind : ℕ). played_behind goal left (λ rest. draws_by play (kind ∷ drawn) goal rest left) play drawn (parts_of hand melds seen) kind in
      omega (
        arith,
        sum_range (λ kind. live kind * after kind) 0 34,
        sum_range live 0 34,
        spread_most live after (all_draws (n - 1) left) 0 34 (λ k low. with_some (live k) (after k) (all_draws (n - 1) left) (λ some. after_all k (omega (arith, low)) some)),
        ap (λ m. m * all_draws (n - 1) left) (n_is ∙ sum_range live 0 34),
      )

module _ (melds : List Meld) (melded : (kind : ℕ) → kind < 34 → tiles melds kind ≤ 4) (play : DrawPlay) (goal : ℕ) where
  pub plays_all : (turns : ℕ) (drawn hand seen told : List ℕ) (n : ℕ) → KnowsLacked NoMore hand melds seen told → n ≡ unseen_of (parts_of hand melds seen) → draws_by play drawn goal (parts_of hand melds seen) turns ≤ all_draws n turns
  unfolding draws_by
  plays_all zero drawn hand seen told n know n_is = by_test (is_there goal (parts_of hand melds seen)) (all_none n)
    where
      by_test : {m : ℕ} (t : Bool) → m ≡ 1 → cond t 1 0 ≤ m
      by_test true e = omega (arith, e)
      by_test false e = omega arith
  plays_all (suc left) drawn hand seen told n know n_is =
      by_test (is_there goal (parts_of hand melds seen)) (omega (arith, ap (λ m. all_draws m (suc left)) n_is)) (omega (arith, all_more n left, one_turn_all melds melded play goal left (plays_all left) drawn hand seen told know n n_is))
    where
      by_test : {a b m : ℕ} (t : Bool) → a ≤ m → b ≤ m → cond t a b ≤ m
      by_test true here there = here
      by_test false here there = there

  pub plays_most : (turns : ℕ) (drawn hand seen told : List ℕ) (n : ℕ) → KnowsLacked NoMore hand melds seen told → n ≡ unseen_of (parts_of hand melds seen) → draws_by play drawn goal (parts_of hand melds seen) turns ≤ most_of_all goal (parts_of hand melds told) n turns
  plays_most turns drawn hand seen told n know n_is = omega (arith, plays_few melds melded play goal turns drawn hand seen told n know n_is, plays_all turns drawn hand seen told n know n_is)

pub play_law : PlayLaw
play_law play goal parts turns is =
    plays_most parts.melds is.melded play goal turns [] parts.tiles parts.seen parts.seen (unseen_of parts) (record { long = is.each_kind; seen_long = is.each_seen; told_long = is.each_seen; thirteen = is.thirteen; alike = λ kind low lacked. omega arith }) refl

-- ---- the draws that are reached

greatest_less : (f g : ℕ → ℕ) (kinds : List ℕ) → ((k : ℕ) → f k ≤ g k) → greatest f kinds ≤ greatest g kinds
unfolding greatest
greatest_less f g [] each = omega arith
greatest_less f g (kind ∷ kinds) each = omega (arith, each kind, greatest_less f g kinds each)

module _ (goal unseen left : ℕ) (lower upper : ShapeParts → ℕ) (each : (parts : ShapeParts) → lower parts ≤ upper parts) where
  with_less : (drawn : ShapeParts) → counted_with goal unseen left lower drawn ≤ counted_with goal unseen left upper drawn
  unfolding counted_with counted_rest
  with_less drawn = by_test (is_there goal drawn) (greatest_less (λ kind. lower (parts_less drawn kind)) (λ kind. upper (parts_less drawn kind)) (filter (is_discard drawn.tiles drawn.melds) every_kind) (λ k. each (parts_less drawn k)))
    where
      by_test : {m n : ℕ} (t : Bool) → m ≤ n → cond t (all_draws unseen left) m ≤ cond t (all_draws unseen left) n
      by_test true less = omega arith
      by_test false less = less

  pairs_less : (parts : ShapeParts) (pairs : List (ℕ × ℕ)) → sum_by (counted_by goal unseen left lower parts) pairs ≤ sum_by (most_by goal unseen left upper parts) pairs
  pairs_less parts [] = omega arith
  pairs_less parts (pair ∷ pairs) =
      omega (
        arith,
        sum_by-cons (counted_by goal unseen left lower parts) pair pairs,
        sum_by-cons (most_by goal unseen left upper parts) pair pairs,
        pairs_less parts pairs,
        times_few (pair.1) (pair.1) (counted_with goal unseen left lower (parts_with parts pair.0)) (most_with goal unseen left upper parts pair.0) (omega arith) (omega (arith, with_less (parts_with parts pair.0))),
      )

pub counted_less : (goal turns unseen : ℕ) (parts : ShapeParts) → counted_draws goal parts unseen turns ≤ counted_most goal parts unseen turns
unfolding counted_draws counted_most accepted_draws accepted_most
counted_less goal zero unseen parts = omega arith
counted_less goal (suc left) unseen parts = by_test (is_there goal parts)
    (omega (
      arith,
      times_few (unseen - live_in (accepts parts)) (unseen - live_in (accepts parts)) (counted_draws goal parts (unseen - 1) left) (counted_most goal parts (unseen - 1) left) (omega arith) (counted_less goal left (unseen - 1) parts),
      pairs_less goal (unseen - 1) left (λ rest. counted_draws goal rest (unseen - 1) left) (λ rest. counted_most goal rest (unseen - 1) left) (counted_less goal left (unseen - 1)) parts (accepts parts),
    ))
  where
    by_test : {m n : ℕ} (t : Bool) → m ≤ n → cond t (all_draws unseen (suc left)) m ≤ cond t (all_draws unseen (suc left)) n
    by_test true less = omega arith
    by_test false less = less

pub most_law : MostLaw
most_law goal parts turns is = omega (arith, counted_law goal parts turns is, counted_less goal turns (unseen_of parts) parts, chance_law goal parts turns is)
