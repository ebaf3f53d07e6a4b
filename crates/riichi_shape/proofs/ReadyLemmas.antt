-- Thirteen tiles, and the fourteen of a winning multiset.
use Rattle.std.proofs.Common.{◌≡◌, ◌≢◌, ℕ, ◌+◌, ◌-◌, ◌*◌, ◌<◌, ◌≤◌, Bool, true, false, cond, inl, inr, List, [], length, eqb, get_or-set_other, get_or-set_same, refl, sym, ap, ◌∙◌, ⊎_elim, arith}
use Rattle.std.proofs.lemmas.Bool.{false≢true, eqb-true, eq-eqb, ne_eqb}
use Rattle.std.specs.List.{sum}
use Rattle.std.specs.Prelude.{slice_index}
use Rattle.riichi_tiles.specs.declared.block.Block.{Block}
use Rattle.riichi_tiles.specs.declared.meld.Meld.{Meld}
use Rattle.riichi_hand.specs.Hand.{size}
use Rattle.riichi_tiles.proofs.KindSums.{made-tiles}
use Rattle.riichi_rows.proofs.Spread.{spread, spread_none, spread_shift, spread_sum, spread_with, sum_range}
use Rattle.riichi_shape.specs.Accepted.{with_one}
use Rattle.riichi_shape.specs.Distance.{IsDistance}
use Rattle.riichi_tiles.specs.Forms.{AreMadeOf, IsSetsAndPair, IsSevenPairs, IsThirteenOrphans}
use Rattle.riichi_shape.specs.Ready.{IsReady, ReadyLaw}
use Rattle.riichi_shape.specs.Winning.{IsWinning, lacking}
use Rattle.riichi_shape.proofs.Distances.{SomePlace, each_below, some_place}
use Rattle.riichi_shape.proofs.OrphanLemmas.{lack_is}
use Rattle.riichi_shape.proofs.PairLemmas.{sum_spread, total_of}
use Rattle.riichi_shape.proofs.Uniqueness.{SameTiles}

-- ---- how many tiles a winning multiset has

abbrev point : ℕ → ℕ → ℕ → ℕ
point place n k = cond (eqb k place) n 0

point_sum : (place n : ℕ) → place < 34 → spread (point place n) 0 34 ≡ n
point_sum place n inside =
    spread_with (point place n) (λ k. 0) (λ k. n) place (λ k. sums (point place n k)) 0 34 (omega arith) (omega arith) ∙ ap (λ m. m + n) (spread_none (λ k. 0) 0 34 (λ k low high. refl)) ∙ omega arith
  where
    sums : (m : ℕ) → m ≡ 0 + m
    sums m = omega arith

standard_tiles : (sets : ℕ) (wanted : List ℕ) → IsSetsAndPair sets wanted → spread (slice_index wanted) 0 34 ≡ 3 * sets + 2
standard_tiles sets wanted is = omega (arith, sum_range (slice_index wanted) 0 34, made-tiles wanted is.blocks is.pair is.made_of, is.has_sets)

orphans_tiles : (wanted : List ℕ) → IsThirteenOrphans wanted → spread (slice_index wanted) 0 34 ≡ 14
unfolding total_of
orphans_tiles wanted is =
    spread_shift (slice_index wanted) (λ k. slice_index wanted k - slice_index [] k) 0 0 34 (λ k low. all_of (slice_index wanted (0 + k)))
    ∙ sym (sum_range (λ k. slice_index wanted k - slice_index [] k) 0 34) ∙ lack_is [] is.doubled is.is_kind is.doubles_orphan wanted is.at
  where
    all_of : (n : ℕ) → n ≡ n - 0
    all_of n = omega arith

pub tiles_of_winning : (melds : List Meld) (wanted : List ℕ) → length melds ≤ 4 → IsWinning melds wanted → spread (slice_index wanted) 0 34 + 3 * length melds ≡ 14
tiles_of_winning melds wanted few is =
    ⊎_elim (λ standard. omega (arith, standard_tiles (4 - length melds) wanted standard, few))
    (λ special. ⊎_elim (λ pairs. omega (arith, pairs.0, pairs.1.fourteen, sum_range (slice_index wanted) 0 34)) (λ orphans. omega (arith, orphans.0, orphans_tiles wanted orphans.1)) special) is.form

-- ---- what is lacked, and what is left over

pub balance : (w h : ℕ → ℕ) (a n : ℕ) → spread (λ k. w k - h k) a n + spread h a n ≡ spread (λ k. h k - w k) a n + spread w a n
balance w h a n =
    let left = spread_sum (λ k. w k - h k) h (λ k. (w k - h k) + h k) (λ k. refl) a n in
    let right = spread_sum (λ k. h k - w k) w (λ k. (w k - h k) + h k) (λ k. greater (w k) (h k)) a n in
    omega (arith, left, right)
  where
    greater : (w h : ℕ) → (w - h) + h ≡ (h - w) + w
    greater w h = omega arith

-- a sum of 1 has one term
record OnePlace (d : ℕ → ℕ) (n : ℕ) : Type 0 where
  pub place : ℕ
  pub high : place < n
  pub one : d place ≡ 1
  pub others : (k : ℕ) → k < n → k ≢ place → d k ≡ 0

one_place : (d : ℕ → ℕ) (n : ℕ) → spread d 0 n ≡ 1 → OnePlace d n
one_place d n one = record {
  place = p.place;
  high = omega (arith, p.high);
  one = omega (arith, each_below d 0 n p.place (omega arith) (omega (arith, p.high)), p.some, one);
  others = λ k low ne. ap (λ b. cond b 0 (d k)) (sym (ne_eqb k p.place ne))
      ∙ none (each_below rest 0 n k (omega arith) (omega (arith, low)));
}
  where
    p : SomePlace d 0 n
    p = some_place d 0 n (omega (arith, one))

    rest : ℕ → ℕ
    rest k = cond (eqb k p.place) 0 (d k)

    parted : (t : Bool) (h : ℕ) → h ≡ cond t 0 h + cond t h 0
    parted true h = omega arith
    parted false h = omega arith

    none : {m : ℕ} → m ≤ spread rest 0 n → m ≡ 0
    none below =
        let whole = spread_with d rest d p.place (λ k. parted (eqb k p.place) (d k)) 0 n (omega arith) (omega (arith, p.high)) in
        omega (arith, whole, below, p.some, one)

-- ---- the same tiles win alike

winning_same : (melds : List Meld) (wanted same : List ℕ) → SameTiles same wanted → IsWinning melds wanted → IsWinning melds same
winning_same melds wanted same are is = record {
  form = ⊎_elim (λ s. inl (record { blocks = s.blocks; pair = s.pair; made_of = made s.blocks s.pair s.made_of; has_sets = s.has_sets }))
      (λ special. ⊎_elim (λ p. inr (inl (p.0, pairs p.1))) (λ o. inr (inr (o.0, orphans o.1))) special) is.form;
  within_four = record { at = λ kind low. omega (arith, are.at kind low, is.within_four.at kind low) };
}
  where
    made : (sets : List Block) (pair : ℕ) → AreMadeOf wanted sets pair → AreMadeOf same sets pair
    made sets pair of = record { are_sets = of.are_sets; is_kind = of.is_kind; adds_up = λ kind low. are.at kind low ∙ of.adds_up kind low }

    pairs : IsSevenPairs wanted → IsSevenPairs same
    pairs p = record {
      two_or_none = λ kind low. ⊎_elim (λ none. inl (are.at kind low ∙ none)) (λ two. inr (are.at kind low ∙ two)) (p.two_or_none kind low);
      fourteen = sum_range (slice_index same) 0 34 ∙ spread_shift (slice_index same) (slice_index wanted) 0 0 34 (λ k low. are.at (0 + k) (omega arith)) ∙ sym (sum_range (slice_index wanted) 0 34) ∙ p.fourteen;
    }

    orphans : IsThirteenOrphans wanted → IsThirteenOrphans same
    orphans o = record { doubled = o.doubled; is_kind = o.is_kind; doubles_orphan = o.doubles_orphan; at = λ kind low. are.at kind low ∙ o.at kind low }

-- ---- a hand of thirteen

apart : (k place : ℕ) → eqb k place ≡ false → k ≢ place
apart k place e same = false≢true (sym e ∙ eq-eqb k place same)

pub one_more_at : (hand : List ℕ) (kind : ℕ) → kind < length hand → slice_index (with_one hand kind) kind ≡ slice_index hand kind + 1
one_more_at hand kind low = rw get_or-set_same refl

pub one_more_past : (hand : List ℕ) (kind other : ℕ) → other ≢ kind → slice_index (with_one hand kind) other ≡ slice_index hand other
one_more_past hand kind other ne = rw get_or-set_other refl

module _ (hand : List ℕ) (melds : List Meld) (n : ℕ) (long : length hand ≡ 34) (thirteen : size hand melds ≡ 13) (is : IsDistance hand melds n) where
  few : length melds ≤ 4
  few = omega arith

  held : spread (slice_index hand) 0 34 ≡ sum hand
  held = sum_spread hand long

  -- a winning multiset lacks one more than what is left over of the hand
  lacks_more : (wanted : List ℕ) → IsWinning melds wanted → lacking hand wanted ≡ spread (λ k. slice_index hand k - slice_index wanted k) 0 34 + 1
  lacks_more wanted winning =
      omega (arith, balance (slice_index wanted) (slice_index hand) 0 34, tiles_of_winning melds wanted few winning, held, thirteen, sum_range (λ k. slice_index wanted k - slice_index hand k) 0 34)

  some_lack : 0 < n
  some_lack = omega (arith, lacks_more is.wanted is.is_winning, is.reached)

  ready : n ≡ 1 → IsReady hand melds
  ready one = record { kind = p.place; is_kind = p.high; is_winning = winning_same melds is.wanted (with_one hand p.place) (record { at = at }) is.is_winning }
    where
      none_left : spread (λ k. slice_index hand k - slice_index is.wanted k) 0 34 ≡ 0
      none_left = omega (arith, lacks_more is.wanted is.is_winning, is.reached, one)

      one_lacked : spread (λ k. slice_index is.wanted k - slice_index hand k) 0 34 ≡ 1
      one_lacked = omega (arith, sum_range (λ k. slice_index is.wanted k - slice_index hand k) 0 34, is.reached, one)

      p : OnePlace (λ k. slice_index is.wanted k - slice_index hand k) 34
      p = one_place (λ k. slice_index is.wanted k - slice_index hand k) 34 one_lacked

      left_at : (k : ℕ) → k < 34 → slice_index hand k - slice_index is.wanted k ≡ 0
      left_at k low =
          omega (arith, each_below (λ k. slice_index hand k - slice_index is.wanted k) 0 34 k (omega arith) (omega (arith, low)), none_left)

      at : (k : ℕ) → k < 34 → slice_index (with_one hand p.place) k ≡ slice_index is.wanted k
      at k low = by_test (eqb k p.place) refl
        where
          by_test : (t : Bool) → eqb k p.place ≡ t → slice_index (with_one hand p.place) k ≡ slice_index is.wanted k
          by_test true e = let here = eqb-true k p.place e in ap (slice_index (with_one hand p.place)) here ∙ omega (arith, one_more_at hand p.place (omega (arith, p.high)), p.one, left_at p.place p.high) ∙ sym (ap (slice_index is.wanted) here)
          by_test false e = omega (arith, one_more_past hand p.place k (apart k p.place e), p.others k low (apart k p.place e), left_at k low)

  completes : IsReady hand melds → n ≡ 1
  completes r = omega (arith, some_lack, is.none_less (with_one hand r.kind) r.is_winning, lacks_one)
    where
      lacks_at : (k : ℕ) (t : Bool) → eqb k r.kind ≡ t → slice_index (with_one hand r.kind) k - slice_index hand k ≡ cond t 1 0
      lacks_at k true e = let here = eqb-true k r.kind e in omega (arith, ap (slice_index (with_one hand r.kind)) here, ap (slice_index hand) here, one_more_at hand r.kind (omega (arith, r.is_kind)))
      lacks_at k false e = omega (arith, one_more_past hand r.kind k (apart k r.kind e))

      lacks_one : lacking hand (with_one hand r.kind) ≡ 1
      lacks_one =
          sum_range (λ k. slice_index (with_one hand r.kind) k - slice_index hand k) 0 34
          ∙ spread_shift (λ k. slice_index (with_one hand r.kind) k - slice_index hand k) (point r.kind 1) 0 0 34 (λ k low. lacks_at (0 + k) (eqb (0 + k) r.kind) refl)
          ∙ point_sum r.kind 1 r.is_kind

pub ready_is : ReadyLaw
ready_is hand melds n long thirteen is = (some_lack hand melds n long thirteen is, (ready hand melds n long thirteen is, completes hand melds n long thirteen is))
