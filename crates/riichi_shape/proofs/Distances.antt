-- The least of the three distances is the distance.
use Rattle.std.proofs.Common.{◌≡◌, ℕ, ◌+◌, ◌-◌, ◌<◌, ◌≤◌, min, ◌⊎◌, inl, inr, List, zero, suc, Some, None, refl, ap, ⊎_elim, sym, ◌∙◌, length, subst, Option, arith}
use Rattle.std.proofs.lemmas.Bool.{cases_lt}
use Rattle.std.specs.Prelude.{slice_index}
use Rattle.riichi_tiles.specs.Melds.{tiles}
use Rattle.riichi_tiles.specs.declared.meld.Meld.{Meld}
use Rattle.riichi_rows.proofs.Joins.{min_is}
use Rattle.riichi_rows.proofs.Spread.{spread, sum_range}
use Rattle.riichi_shape.specs.Distance.{IsDistance, IsLeastStandard}
use Rattle.riichi_tiles.specs.Forms.{IsSevenPairs, IsThirteenOrphans}
use Rattle.riichi_shape.specs.Special.{IsSpecialDistance, SpecialLacks}
use Rattle.riichi_shape.specs.Winning.{IsWinning, lacking}
use Rattle.riichi_tiles.proofs.EverySet.{few-orphans}
use Rattle.riichi_shape.proofs.Exists.{StandardExists, standard_exists, melds_few}

pub each_below : (f : ℕ → ℕ) (a n k : ℕ) → a ≤ k → k < a + n → f k ≤ spread f a n
unfolding spread
each_below f a zero k low high = absurd (omega arith)
each_below f a (suc n) k low high = ⊎_elim (λ later. omega (arith, each_below f (a + 1) n k (omega arith) (omega arith))) (λ here. omega (arith, ap f (same here))) (cases_lt a k)
  where
    same : k ≤ a → k ≡ a
    same here = omega arith

-- a sum that is not 0 has a term
pub record SomePlace (d : ℕ → ℕ) (a n : ℕ) : Type 0 where
  pub place : ℕ
  pub high : place < a + n
  pub some : 0 < d place

pub some_place : (d : ℕ → ℕ) (a n : ℕ) → 0 < spread d a n → SomePlace d a n
unfolding spread
some_place d a zero some = absurd (omega arith)
some_place d a (suc n) some =
    ⊎_elim (λ here. record { place = a; high = omega arith; some = here })
    (λ none. (let p = some_place d (a + 1) n (omega (arith, some, none)) in record { place = p.place; high = omega (arith, p.high); some = p.some })) (cases_lt 0 (d a))

-- ---- without melds

pub no_tiles : (melds : List Meld) → length melds ≡ 0 → (kind : ℕ) → kind < 34 → tiles melds kind ≡ 0
no_tiles melds none kind low = omega (arith, each_below (tiles melds) 0 34 kind (omega arith) (omega (arith, low)), melds_few melds 0 34, none)

-- none or two of a kind that is not melded are within four
pub pair_few : (w m : ℕ) → (w ≡ 0) ⊎ (w ≡ 2) → m ≡ 0 → w + m ≤ 4
pair_few w m h none = ⊎_elim (λ e. omega (arith, e, none)) (λ e. omega (arith, e, none)) h

pub pairs_winning : (melds : List Meld) → length melds ≡ 0 → (wanted : List ℕ) → IsSevenPairs wanted → IsWinning melds wanted
pairs_winning melds none wanted is = record {
  form = inr (inl (none, is));
  within_four = record { at = λ k low. pair_few (slice_index wanted k) (tiles melds k) (is.two_or_none k low) (no_tiles melds none k low) };
}

pub orphans_winning : (melds : List Meld) → length melds ≡ 0 → (wanted : List ℕ) → IsThirteenOrphans wanted → IsWinning melds wanted
orphans_winning melds none wanted is = record {
  form = inr (inr (none, is));
  within_four = record { at = λ k low. (let few = few-orphans is.doubled k in omega (arith, few, is.at k low, no_tiles melds none k low)) };
}

pub least_beside : (hand : List ℕ) (melds : List Meld) (melded : ℕ) (o : Option ℕ) → melded ≡ length melds → IsLeastStandard hand melds (4 - melded) o → IsLeastStandard hand melds (4 - length melds) o
least_beside hand melds melded o e least = subst (λ (n : ℕ). IsLeastStandard hand melds (4 - n) o) e least

module _ (hand : List ℕ) (melds : List Meld) (at_most_four : length melds ≤ 4) (of_a_kind : (kind : ℕ) → kind < 34 → tiles melds kind ≤ 4) where
  pub exists : StandardExists hand melds (4 - length melds)
  exists = standard_exists hand melds (4 - length melds) (omega arith) of_a_kind (omega (arith, sum_range (tiles melds) 0 34, melds_few melds 0 34))

  pub never_none : IsLeastStandard hand melds (4 - length melds) None → ⊥
  never_none least = least exists.wanted exists.sets_and_pair exists.within_four

  module _ (n : ℕ) (least : IsLeastStandard hand melds (4 - length melds) (Some n)) where
    pub standard_few : n ≤ 14
    standard_few = omega (arith, least.1 exists.wanted exists.sets_and_pair exists.within_four, exists.lacks)

    -- what is above neither the least standard lack nor the special forms' is above no lack
    none_below : (r floor : ℕ) → SpecialLacks hand melds floor → r ≤ n → r ≤ floor → (other : List ℕ) → IsWinning melds other → r ≤ lacking hand other
    none_below r floor special below under other is =
        ⊎_elim (λ standard. (let b = least.1 other standard is.within_four in omega (arith, b, below))) (λ forms. (let b = special.bound other forms in omega (arith, b, under))) is.form

    by_standard : (r floor : ℕ) → SpecialLacks hand melds floor → r ≡ n → r ≤ floor → IsDistance hand melds r
    by_standard r floor special e under = record {
      wanted = least.0.wanted;
      is_winning = record { form = inl least.0.sets_and_pair; within_four = least.0.within_four };
      reached = least.0.lacks ∙ sym e;
      none_less = none_below r floor special (omega (arith, e)) under;
    }

    -- where the special forms can lack no fewer
    pub low_distance : (floor : ℕ) → SpecialLacks hand melds floor → n ≤ floor → IsDistance hand melds n
    low_distance floor special under = by_standard n floor special refl under

    module _ (q r : ℕ) (special : IsSpecialDistance hand melds q) (r_is : r ≡ min n q) where
      by_form : (wanted : List ℕ) → IsWinning melds wanted → lacking hand wanted ≡ q → r ≡ q → IsDistance hand melds r
      by_form wanted is lacks e = record { wanted = wanted; is_winning = is; reached = lacks ∙ sym e; none_less = none_below r q special.none_less (omega (arith, r_is)) (omega (arith, r_is)) }

      by_special : r ≡ q → IsDistance hand melds r
      by_special e = ⊎_elim (λ some. absurd (let far = special.beside some in let few = standard_few in omega (arith, far, few, r_is, e)))
          (λ none.
          (let no : length melds ≡ 0 = omega (arith, none) in
          ⊎_elim (λ pairs. by_form pairs.wanted (pairs_winning melds no pairs.wanted pairs.seven_pairs) pairs.lacks e)
          (λ orphans. by_form orphans.wanted (orphans_winning melds no orphans.wanted orphans.thirteen_orphans) orphans.lacks e) (special.reached no))) (cases_lt 0 (length melds))

      pub whole_distance : IsDistance hand melds r
      whole_distance = ⊎_elim (λ standard. by_standard r q special.none_less (r_is ∙ standard) (omega (arith, r_is))) (λ least_special. by_special (r_is ∙ least_special)) (min_is n q)
