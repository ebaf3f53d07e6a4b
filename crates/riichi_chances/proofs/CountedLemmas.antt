-- The draws of the game are those that the accepted kinds tell.
use Rattle.std.proofs.Common.{◌≡◌, ◌≢◌, ℕ, zero, suc, ◌+◌, ◌-◌, ◌*◌, ◌<◌, ◌≤◌, Bool, true, false, cond, List, length, get_or-set_other, refl, sym, ap, subst, ◌∙◌, ⊎_elim, arith}
use Rattle.std.proofs.lemmas.Bool.{and_parts, cases_eq, cases_lt, leb-false, lt-ltb, ltb-true, ltb-false}
use Rattle.std.proofs.lemmas.Bool.Decides.{nat_tests}
use Rattle.std.proofs.lemmas.List.Sums.{sum_by-set}
use Rattle.std.specs.Prelude.{nat_le, nat_lt, slice_index, sum_by, ◌&&◌}
use Rattle.std.specs.List.{filter}
use Rattle.riichi_hand.specs.Hand.{size}
use Rattle.riichi_hand.specs.HandParts.{ShapeParts}
use Rattle.riichi_tiles.specs.Melds.{every_kind, tiles}
use Rattle.riichi_tiles.specs.declared.meld.Meld.{Meld}
use Rattle.riichi_tiles.proofs.Members.{IsIn, in-filter-inv, in-range-inv}
use Rattle.riichi_rows.proofs.Spread.{spread, spread_shift, sum_range}
use Rattle.riichi_shape.specs.Accepted.{accepted_of, is_accepted, live_of, with_one, without_one}
use Rattle.riichi_shape.specs.Discards.{is_discard}
use Rattle.riichi_shape.specs.EveryWinning.{distance_of}
use Rattle.riichi_shape.specs.LiveCopies.{live_in}
use Rattle.riichi_shape.proofs.Choices.{leaves_least}
use Rattle.riichi_shape.proofs.LiveLemmas.{sum_filtered}
use Rattle.riichi_deeper.proofs.DrawnLemmas.{more_here, more_other, size_with}
use Rattle.riichi_deeper.specs.Drawn.{parts_with, parts_without}
use Rattle.riichi_chances.specs.Counted.{accepts, counted_behind, counted_draws, counted_rest, counted_with, accepted_draws, parts_less}
use Rattle.riichi_chances.specs.Draws.{all_draws, best_rest, draws, is_there, parts_passed, unseen_of, value_behind}
use Rattle.riichi_chances.specs.Laws.{CountedLaw, IsFourteen}
use Rattle.riichi_chances.proofs.LiveDraws.{discard_live, drawn_live, every_but_one, every_same, passed_live}
use Rattle.riichi_chances.proofs.NearestLemmas.{best_keeps, less_long, lowered_before, more_long, not_thrown}
use Rattle.riichi_chances.proofs.SumLemmas.{chosen_few, greatest_same, parted, without_chosen}

-- ---- sums over what a hand accepts

pub accepted_sum : (f : ℕ × ℕ → ℕ) (hand : List ℕ) (melds : List Meld) (seen : List ℕ) → sum_by f (accepted_of hand melds seen) ≡ spread (λ k. cond (is_accepted hand melds seen k) (f (k, live_of hand melds seen k)) 0) 0 34
unfolding accepted_of
accepted_sum f hand melds seen = sum_filtered (λ k. (k, live_of hand melds seen k)) (is_accepted hand melds seen) f 0 34

-- ---- two accounts of what is seen

abbrev pub parts_of : List ℕ → List Meld → List ℕ → ShapeParts
parts_of hand melds seen = record { tiles = hand; melds = melds; seen = seen }

-- one more tile of the kind lowers the distance
abbrev pub is_lacked : List ℕ → List Meld → ℕ → Bool
is_lacked hand melds kind = nat_lt (distance_of (with_one hand kind) melds) (distance_of hand melds)

-- a hand of thirteen tiles, and two accounts of what is seen, by which the live copies of the kinds that bring it nearer are alike
pub record KnowsLacked (Alike : ℕ → ℕ → Type 0) (hand : List ℕ) (melds : List Meld) (seen told : List ℕ) : Type 0 where
  pub long : length hand ≡ 34
  pub seen_long : length seen ≡ 34
  pub told_long : length told ≡ 34
  pub thirteen : size hand melds ≡ 13
  pub alike : (kind : ℕ) → kind < 34 → is_lacked hand melds kind ≡ true → Alike (live_of hand melds seen kind) (live_of hand melds told kind)

abbrev pub AreSame : ℕ → ℕ → Type 0
AreSame a b = a ≡ b

-- they agree
abbrev pub AgreeOnLacked : List ℕ → List Meld → List ℕ → List ℕ → Type 0
AgreeOnLacked = KnowsLacked AreSame

pub one_less_same : (a b : ℕ) → AreSame a b → AreSame (a - 1) (b - 1)
one_less_same a b e = ap (λ n. n - 1) e

-- a tile that is not lacked brings nothing there
pub no_nearer : (goal : ℕ) (hand : List ℕ) (melds : List Meld) (seen : List ℕ) → is_there goal (parts_of hand melds seen) ≡ false → (kind : ℕ) → is_lacked hand melds kind ≡ false → is_there goal (parts_with (parts_of hand melds seen) kind) ≡ false
no_nearer goal hand melds seen far kind not = told_far (distance_of (with_one hand kind) melds) (omega (arith, leb-false (distance_of hand melds) goal far, ltb-false (distance_of (with_one hand kind) melds) (distance_of hand melds) not))
  where
    told_far : (d : ℕ) → goal < d → nat_le d goal ≡ false
    told_far d more = grind (arith, nat_tests)

module _ (melds : List Meld) (melded : (kind : ℕ) → kind < 34 → tiles melds kind ≤ 4) (Alike : ℕ → ℕ → Type 0) where
  -- a best discard of fourteen tiles that are not complete: what is lacked then was not thrown
  module _ (drawn seen told : List ℕ) (long : length drawn ≡ 34) (seen_long : length seen ≡ 34) (told_long : length told ≡ 34) (fourteen : size drawn melds ≡ 14) (far : 0 < distance_of drawn melds) (thrown : ℕ) (low : thrown < 34) (best : is_discard drawn melds thrown ≡ true)
      (alike : (other : ℕ) → other < 34 → is_lacked (without_one drawn thrown) melds other ≡ true → Alike (live_of drawn melds seen other) (live_of drawn melds told other)) where
    few : length melds ≤ 4
    few = omega (arith, fourteen)

    held : 0 < slice_index drawn thrown
    held = (leaves_least drawn melds thrown low best).held

    thirteen_left : size (without_one drawn thrown) melds ≡ 13
    thirteen_left = omega (arith, sum_by-set (λ (n : ℕ). n) drawn thrown (slice_index drawn thrown - 1) 0 (omega (arith, long, low)), fourteen, held)

    alike_left : (other : ℕ) → other < 34 → is_lacked (without_one drawn thrown) melds other ≡ true → Alike (live_of (without_one drawn thrown) melds (with_one seen thrown) other) (live_of (without_one drawn thrown) melds told other)
    alike_left other small lacked =
        let lowers = ltb-true (distance_of (with_one (without_one drawn thrown) other) melds) (distance_of (without_one drawn thrown) melds) lacked in
        subst (λ n. Alike n (live_of (without_one drawn thrown) melds told other)) (sym (discard_live drawn melds seen thrown (omega (arith, long, low)) (omega (arith, seen_long, low)) held other))
        (subst (Alike (live_of drawn melds seen other)) (sym (kept_live (not_thrown drawn melds few melded long thrown low held (best_keeps drawn melds long fourteen melded thrown low best far) other small lowers))) (alike other small lacked))
      where
        kept_live : other ≢ thrown → live_of (without_one drawn thrown) melds told other ≡ live_of drawn melds told other
        kept_live ne = omega (arith, get_or-set_other drawn thrown other (slice_index drawn thrown - 1) 0 ne)

    pub knows_left : KnowsLacked Alike (without_one drawn thrown) melds (with_one seen thrown) told
    knows_left = record {
      long = less_long drawn thrown long;
      seen_long = more_long seen thrown seen_long;
      told_long = told_long;
      thirteen = thirteen_left;
      alike = alike_left;
    }

  module _ (one_less : (a b : ℕ) → Alike a b → Alike (a - 1) (b - 1)) (hand seen told : List ℕ) (know : KnowsLacked Alike hand melds seen told) where
    few_melds : length melds ≤ 4
    few_melds = omega (arith, know.thirteen)

    abbrev live : ℕ → ℕ
    live = live_of hand melds seen

    -- a tile that is thrown at once is not lacked
    pub passed : (kind : ℕ) → kind < 34 → is_lacked hand melds kind ≡ false → KnowsLacked Alike hand melds (with_one seen kind) told
    passed kind inside not = record {
      long = know.long;
      seen_long = more_long seen kind know.seen_long;
      told_long = know.told_long;
      thirteen = know.thirteen;
      alike = λ other low lacked. subst (λ n. Alike n (live_of hand melds told other)) (sym (same_live other (λ same. differ other lacked same))) (know.alike other low lacked);
    }
      where
        differ : (other : ℕ) → is_lacked hand melds other ≡ true → other ≡ kind → ⊥
        differ other lacked same = no (sym lacked ∙ ap (is_lacked hand melds) same ∙ not)
          where
            no : true ≡ false → ⊥
            no e = cc

        same_live : (other : ℕ) → other ≢ kind → live_of hand melds (with_one seen kind) other ≡ live_of hand melds seen other
        same_live other ne = omega (arith, more_other seen kind other ne)

    pub passed_unseen : (kind : ℕ) → kind < 34 → 0 < live kind → unseen_of (parts_of hand melds seen) ≡ unseen_of (parts_of hand melds (with_one seen kind)) + 1
    unfolding unseen_of
    passed_unseen kind inside some =
        every_but_one live (live_of hand melds (with_one seen kind)) kind inside (passed_live hand melds seen kind (omega (arith, know.seen_long, inside)) some)

    -- a tile that brings the hand nearer is kept, and a best discard is made
    module _ (kind : ℕ) (inside : kind < 34) (some : 0 < live kind) (nearer : is_lacked hand melds kind ≡ true) (far : 0 < distance_of (with_one hand kind) melds) (thrown : ℕ) (low : thrown < 34) (best : is_discard (with_one hand kind) melds thrown ≡ true) where
      abbrev drawn : List ℕ
      drawn = with_one hand kind

      drawn_long : length drawn ≡ 34
      drawn_long = more_long hand kind know.long

      fourteen : size drawn melds ≡ 14
      fourteen = omega (arith, size_with hand melds kind (omega (arith, know.long, inside)), know.thirteen)

      held_then : 0 < slice_index drawn thrown
      held_then = (leaves_least drawn melds thrown low best).held

      one_drawn : (other : ℕ) → Alike (live_of hand melds seen other) (live_of hand melds told other) → Alike (live_of drawn melds seen other) (live_of drawn melds told other)
      one_drawn other same = ⊎_elim here there (cases_eq other kind)
        where
          here : other ≡ kind → Alike (live_of drawn melds seen other) (live_of drawn melds told other)
          here e = subst (λ n. Alike n (live_of drawn melds told other)) (sym (fewer seen)) (subst (Alike (live_of hand melds seen other - 1)) (sym (fewer told)) (one_less (live_of hand melds seen other) (live_of hand melds told other) same))
            where
              fewer : (elsewhere : List ℕ) → live_of drawn melds elsewhere other ≡ live_of hand melds elsewhere other - 1
              fewer elsewhere = omega (arith, more_here hand kind (omega (arith, know.long, inside)), ap (slice_index hand) e, ap (slice_index drawn) e)

          there : other ≢ kind → Alike (live_of drawn melds seen other) (live_of drawn melds told other)
          there ne = subst (λ n. Alike n (live_of drawn melds told other)) (sym (as_many seen)) (subst (Alike (live_of hand melds seen other)) (sym (as_many told)) same)
            where
              as_many : (elsewhere : List ℕ) → live_of drawn melds elsewhere other ≡ live_of hand melds elsewhere other
              as_many elsewhere = omega (arith, more_other hand kind other ne)

      lacked_then : (other : ℕ) → other < 34 → is_lacked (without_one drawn thrown) melds other ≡ true → Alike (live_of drawn melds seen other) (live_of drawn melds told other)
      lacked_then other small lacked =
          let lowers = ltb-true (distance_of (with_one (without_one drawn thrown) other) melds) (distance_of (without_one drawn thrown) melds) lacked in
          let closer = ltb-true (distance_of drawn melds) (distance_of hand melds) nearer in
          let keeps = best_keeps drawn melds drawn_long fourteen melded thrown low best far in
          let before = lowered_before hand melds few_melds melded know.long kind thrown inside low held_then closer keeps other small lowers in
          one_drawn other (know.alike other small (lt-ltb (distance_of (with_one hand other) melds) (distance_of hand melds) before))

      pub thrown_left : KnowsLacked Alike (without_one drawn thrown) melds (with_one seen thrown) told
      thrown_left = knows_left drawn seen told drawn_long know.seen_long know.told_long fourteen far thrown low best lacked_then

      pub thrown_unseen : unseen_of (parts_of hand melds seen) ≡ unseen_of (parts_of (without_one drawn thrown) melds (with_one seen thrown)) + 1
      unfolding unseen_of
      thrown_unseen =
          every_but_one live (live_of drawn melds seen) kind inside (drawn_live hand melds seen kind (omega (arith, know.long, inside)) some)
          ∙ ap (λ n. n + 1) (sym (every_same (live_of (without_one drawn thrown) melds (with_one seen thrown)) (live_of drawn melds seen) (λ k small. discard_live drawn melds seen thrown (omega (arith, drawn_long, low)) (omega (arith, know.seen_long, low)) held_then k)))

module _ (melds : List Meld) (melded : (kind : ℕ) → kind < 34 → tiles melds kind ≤ 4) where
  -- ---- both accounts accept the same

  module _ (hand seen told : List ℕ) (know : AgreeOnLacked hand melds seen told) where
    same_at : (kind : ℕ) (f : ℕ → ℕ) (l m : ℕ) (t : Bool) → (t ≡ true → l ≡ m) → cond (nat_lt 0 l && t) (f l) 0 ≡ cond (nat_lt 0 m && t) (f m) 0
    same_at kind f l m true same = ap (λ n. cond (nat_lt 0 n && true) (f n) 0) (same refl)
    same_at kind f l m false same = none (nat_lt 0 l) (f l) ∙ sym (none (nat_lt 0 m) (f m))
      where
        none : (t : Bool) (n : ℕ) → cond (t && false) n 0 ≡ 0
        none true n = refl
        none false n = refl

    pub same_accepted : (f : ℕ → ℕ → ℕ) → spread (λ k. cond (is_accepted hand melds seen k) (f k (live_of hand melds seen k)) 0) 0 34 ≡ spread (λ k. cond (is_accepted hand melds told k) (f k (live_of hand melds told k)) 0) 0 34
    same_accepted f =
        spread_shift (λ k. cond (is_accepted hand melds seen k) (f k (live_of hand melds seen k)) 0) (λ k. cond (is_accepted hand melds told k) (f k (live_of hand melds told k)) 0) 0 0 34
        (λ k low. same_at (0 + k) (f (0 + k)) (live_of hand melds seen (0 + k)) (live_of hand melds told (0 + k)) (is_lacked hand melds (0 + k)) (know.alike (0 + k) (omega arith)))

  -- ---- one turn: each kind has a reward, and thirteen tiles have a value by both accounts

  module _ (goal : ℕ) (reward : ℕ → ℕ) (value told_value : ShapeParts → ℕ)
      (hand seen told : List ℕ) (know : AgreeOnLacked hand melds seen told) (n : ℕ) (n_is : n ≡ unseen_of (parts_of hand melds seen)) (far : is_there goal (parts_of hand melds seen) ≡ false)
      (later : (hand seen told : List ℕ) → AgreeOnLacked hand melds seen told → n - 1 ≡ unseen_of (parts_of hand melds seen) → value (parts_of hand melds seen) ≡ told_value (parts_of hand melds told)) where
    abbrev copies : ℕ → ℕ
    copies = live_of hand melds seen

    abbrev after : ℕ → ℕ
    after kind = value_behind goal (reward kind) value (parts_of hand melds seen) kind

    abbrev by : ℕ → ℕ
    by kind = counted_behind goal (reward kind) told_value (parts_with (parts_of hand melds told) kind)

    abbrev common : ℕ
    common = told_value (parts_of hand melds told)

    one_fewer : (m : ℕ) → unseen_of (parts_of hand melds seen) ≡ m + 1 → n - 1 ≡ m
    one_fewer m e = omega (arith, n_is, e)

    kept : (kind : ℕ) → kind < 34 → 0 < copies kind → is_lacked hand melds kind ≡ true → is_there goal (parts_with (parts_of hand melds told) kind) ≡ false
        → best_rest value (parts_with (parts_of hand melds seen) kind) ≡ counted_rest told_value (parts_with (parts_of hand melds told) kind)
    unfolding counted_rest
    kept kind inside some nearer not =
        greatest_same (λ thrown. value (parts_without (parts_with (parts_of hand melds seen) kind) thrown)) (λ thrown. told_value (parts_less (parts_with (parts_of hand melds told) kind) thrown)) (filter (is_discard (with_one hand kind) melds) every_kind) each
      where
        not_there : 0 < distance_of (with_one hand kind) melds
        not_there = omega (arith, leb-false (distance_of (with_one hand kind) melds) goal not)

        each : (thrown : ℕ) → IsIn thrown (filter (is_discard (with_one hand kind) melds) every_kind) → value (parts_without (parts_with (parts_of hand melds seen) kind) thrown) ≡ told_value (parts_less (parts_with (parts_of hand melds told) kind) thrown)
        each thrown there =
            let chosen = in-filter-inv (is_discard (with_one hand kind) melds) thrown every_kind there in
            let low : thrown < 34 = omega (arith, (in-range-inv 34 0 thrown chosen.0).1) in
            later (without_one (with_one hand kind) thrown) (with_one seen thrown) told (thrown_left melds melded AreSame one_less_same hand seen told know kind inside some nearer not_there thrown low chosen.1)
            (one_fewer (unseen_of (parts_of (without_one (with_one hand kind) thrown) melds (with_one seen thrown))) (thrown_unseen melds melded AreSame one_less_same hand seen told know kind inside some nearer not_there thrown low chosen.1))

    accepted_value : (kind : ℕ) → kind < 34 → is_accepted hand melds seen kind ≡ true → after kind ≡ by kind
    accepted_value kind inside accepted =
        let tests = and_parts (nat_lt 0 (copies kind)) (is_lacked hand melds kind) accepted in
        by_test (reward kind) (is_there goal (parts_with (parts_of hand melds told) kind)) (is_accepted hand melds seen kind) accepted
        (value (parts_passed (parts_of hand melds seen) kind)) (kept kind inside (ltb-true 0 (copies kind) tests.0) tests.1)
      where
        by_test : (a : ℕ) {b d : ℕ} (t u : Bool) → u ≡ true → (e : ℕ) → (t ≡ false → b ≡ d) → cond t a (cond u b e) ≡ cond t a d
        by_test a true u is e there = refl
        by_test a false true is e there = there refl
        by_test a false false is e there = absurd (cc)

    other_value : (kind : ℕ) → kind < 34 → is_accepted hand melds seen kind ≡ false → copies kind * after kind ≡ copies kind * common
    other_value kind inside not = ⊎_elim some_live (λ none. no_live (copies kind) (after kind) common (omega (arith, none))) (cases_lt 0 (copies kind))
      where
        no_live : (l a b : ℕ) → l ≡ 0 → l * a ≡ l * b
        no_live l a b e = let zeros : 0 * a ≡ 0 * b = omega arith in ap (λ m. m * a) e ∙ zeros ∙ sym (ap (λ m. m * b) e)

        not_lacked : (t u : Bool) → (t && u) ≡ false → t ≡ true → u ≡ false
        not_lacked true u e f = e
        not_lacked false u e f = absurd (cc)

        by_test : (a b : ℕ) {c d : ℕ} (t u : Bool) → t ≡ false → u ≡ false → c ≡ d → cond t a (cond u b c) ≡ d
        by_test a b false false e f g = g
        by_test a b true u e f g = absurd (cc)
        by_test a b false true e f g = absurd (cc)

        some_live : 0 < copies kind → copies kind * after kind ≡ copies kind * common
        some_live some =
            let alone = not_lacked (nat_lt 0 (copies kind)) (is_lacked hand melds kind) not (lt-ltb 0 (copies kind) some) in
            ap (λ m. copies kind * m)
            (by_test (reward kind) (best_rest value (parts_with (parts_of hand melds seen) kind)) (is_there goal (parts_with (parts_of hand melds seen) kind)) (is_accepted hand melds seen kind) (no_nearer goal hand melds seen far kind alone) not
            (later hand (with_one seen kind) told (passed melds melded AreSame one_less_same hand seen told know kind inside alone) (one_fewer (unseen_of (parts_of hand melds (with_one seen kind))) (passed_unseen melds melded AreSame one_less_same hand seen told know kind inside some))))

    pub one_turn : sum_by (λ kind. copies kind * after kind) every_kind ≡ (n - live_in (accepts (parts_of hand melds told))) * common + sum_by (λ (accepted : ℕ × ℕ). accepted.1 * by accepted.0) (accepts (parts_of hand melds told))
    unfolding unseen_of
    one_turn =
        let few = spread (λ k. cond (is_accepted hand melds seen k) (copies k) 0) 0 34 in
        let some = spread (λ k. cond (is_accepted hand melds seen k) (copies k * by k) 0) 0 34 in
        let all = spread copies 0 34 in
        sum_range (λ kind. copies kind * after kind) 0 34
        ∙ without_chosen (spread (λ kind. copies kind * after kind) 0 34) few all common some (chosen_few copies after by (is_accepted hand melds seen) common 0 34)
        (parted copies after by (is_accepted hand melds seen) common 0 34 (λ k low. (accepted_value k (omega arith), other_value k (omega arith))))
        ∙ ap (λ m. (m - few) * common + some) (sym (n_is ∙ sum_range copies 0 34))
        ∙ ap (λ m. (n - m) * common + some) (same_accepted hand seen told know (λ k l. l) ∙ sym (accepted_sum (λ pair. pair.1) hand melds told))
        ∙ ap (λ m. (n - live_in (accepts (parts_of hand melds told))) * common + m) (same_accepted hand seen told know (λ k l. l * by k) ∙ sym (accepted_sum (λ accepted. accepted.1 * by accepted.0) hand melds told))

  -- ---- any number of turns

  pub draws_counted : (goal turns : ℕ) (hand seen told : List ℕ) (n : ℕ) → AgreeOnLacked hand melds seen told → n ≡ unseen_of (parts_of hand melds seen) → draws goal (parts_of hand melds seen) turns ≡ counted_draws goal (parts_of hand melds told) n turns
  unfolding draws counted_draws counted_with accepted_draws
  draws_counted goal zero hand seen told n know n_is = refl
  draws_counted goal (suc left) hand seen told n know n_is =
      by_test (is_there goal (parts_of hand melds seen)) (ap (λ m. all_draws m (suc left)) (sym n_is))
      (λ far. ap (λ m. sum_by (λ kind. live_of hand melds seen kind * value_behind goal (all_draws (m - 1) left) (λ rest. draws goal rest left) (parts_of hand melds seen) kind) every_kind) (sym n_is)
      ∙ one_turn goal (λ kind. all_draws (n - 1) left) (λ rest. draws goal rest left) (λ rest. counted_draws goal rest (n - 1) left) hand seen told know n n_is far (λ h s t. draws_counted goal left h s t (n - 1)))
    where
      by_test : {a b c d : ℕ} (t : Bool) → a ≡ c → (t ≡ false → b ≡ d) → cond t a b ≡ cond t c d
      by_test true here there = here
      by_test false here there = there refl

pub counted_law : CountedLaw
counted_law goal parts turns is =
    draws_counted parts.melds is.melded goal turns parts.tiles parts.seen parts.seen (unseen_of parts) (record { long = is.each_kind; seen_long = is.each_seen; told_long = is.each_seen; thirteen = is.thirteen; alike = λ kind low lacked. refl }) refl

pub discard_unseen : (drawn : ShapeParts) → IsFourteen drawn → (kind : ℕ) → kind < 34 → 0 < slice_index drawn.tiles kind → unseen_of drawn ≡ unseen_of (parts_without drawn kind)
unfolding unseen_of
discard_unseen drawn is kind low held =
    sym (every_same (live_of (without_one drawn.tiles kind) drawn.melds (with_one drawn.seen kind)) (live_of drawn.tiles drawn.melds drawn.seen) (λ k small. discard_live drawn.tiles drawn.melds drawn.seen kind (omega (arith, is.each_kind, low)) (omega (arith, is.each_seen, low)) held k))

-- after a best discard of fourteen tiles that are not complete, which is seen then: what it took is accepted no more
pub discard_counted : (goal turns kind : ℕ) (drawn : ShapeParts) → IsFourteen drawn → 0 < distance_of drawn.tiles drawn.melds → kind < 34 → is_discard drawn.tiles drawn.melds kind ≡ true →
    draws goal (parts_without drawn kind) turns ≡ counted_draws goal (parts_less drawn kind) (unseen_of drawn) turns
discard_counted goal turns kind drawn is far low best =
    draws_counted drawn.melds is.melded goal turns (without_one drawn.tiles kind) (with_one drawn.seen kind) drawn.seen (unseen_of drawn) (knows_left drawn.melds is.melded AreSame drawn.tiles drawn.seen drawn.seen is.each_kind is.each_seen is.each_seen is.fourteen far kind low best (λ other small lacked. refl))
    (discard_unseen drawn is kind low (leaves_least drawn.tiles drawn.melds kind low best).held)
