-- The least sum of two rows, entry by entry of the first.
use Rattle.std.proofs.Common.{◌≡◌, ℕ, zero, suc, ◌+◌, ◌-◌, ◌<◌, ◌≤◌, min, Bool, true, false, cond, ◌⊎◌, refl, sym, ap, ◌∙◌, ⊎_elim, subst, ltb, Option, Some, None, arith}
use Rattle.std.proofs.lemmas.Bool.{cases_lt, ltb-true, ltb-false, lt-ltb}
use Rattle.riichi_rows.specs.Lanes.{capped, with_set, with_pair}
use Rattle.riichi_rows.specs.Join.{IsLeastSum, SumReached, EntriesSum, IsLeastJoin}
use Rattle.riichi_rows.specs.Suit.{entry_of}
use Rattle.riichi_tiles.specs.Suits.{over_suits, first_far, last_far, partner}
use Rattle.riichi_tiles.specs.declared.suit.Suit.{Suit}
use Rattle.riichi_tiles.proofs.Suits.{le_over, one_of, same_over, over_from, over_placed, placed, placed-own}

-- the values with n sets more
pub record IsMoved (g moved : ℕ → ℕ → ℕ) (n : ℕ) : Type 0 where
  pub at : (s p : ℕ) → n + s ≤ 4 → p ≤ 1 → moved (n + s) p ≡ g s p
  pub before : (s p : ℕ) → s < n → s ≤ 4 → p ≤ 1 → moved s p ≡ 255

-- the least sums with fewer than n sets from f
pub record LeastSoFar (f g h : ℕ → ℕ → ℕ) (n : ℕ) : Type 0 where
  pub bound : (s p s' p' : ℕ) → s < n → s + s' ≤ 4 → p + p' ≤ 1 → h (s + s') (p + p') ≤ f s p + g s' p'
  pub reached : (s p : ℕ) → s ≤ 4 → p ≤ 1 → h s p < 255 → SumReached f g s p (h s p)

pub at_same : (h : ℕ → ℕ → ℕ) (s s' p p' : ℕ) → s ≡ s' → p ≡ p' → h s p ≡ h s' p'
at_same h s s' p p' es ep = cc

pub moved_first : (g : ℕ → ℕ → ℕ) → IsMoved g g 0
moved_first g = record { at = λ s p hs hp. at_same g (0 + s) s p p (omega arith) refl; before = λ s p h hs hp. absurd (omega arith) }

pub moved_more : (g moved next : ℕ → ℕ → ℕ) (n : ℕ) → IsMoved g moved n → ((s p : ℕ) → s < 5 → p < 2 → next s p ≡ with_set moved s p) → IsMoved g next (n + 1)
moved_more g moved next n is same = record { at = later; before = earlier }
  where
    later : (s p : ℕ) → n + 1 + s ≤ 4 → p ≤ 1 → next (n + 1 + s) p ≡ g s p
    later s p hs hp =
        at_same next (n + 1 + s) (suc (n + s)) p p (omega arith) refl ∙ same (suc (n + s)) p (omega arith) (omega arith) ∙ is.at s p (omega arith) hp

    earlier : (s p : ℕ) → s < n + 1 → s ≤ 4 → p ≤ 1 → next s p ≡ 255
    earlier zero p h hs hp = same 0 p (omega arith) (omega arith)
    earlier (suc s) p h hs hp = same (suc s) p (omega arith) (omega arith) ∙ is.before s p (omega arith) (omega arith) hp

pub min_is : (a b : ℕ) → (min a b ≡ a) ⊎ (min a b ≡ b)
min_is a b = grind arith

module _ (f g h moved next : ℕ → ℕ → ℕ) (n x y : ℕ) (few : n ≤ 4) (is : IsMoved g moved n) (so_far : LeastSoFar f g h n) (x_is : x ≡ f n 0) (y_is : y ≡ f n 1)
    (same : (s p : ℕ) → s < 5 → p < 2 → next s p ≡ min (min (h s p) (capped (moved s p + x))) (capped (with_pair moved s p + y))) where
  more_bound : (s p s' p' : ℕ) → s < n + 1 → s + s' ≤ 4 → p + p' ≤ 1 → next (s + s') (p + p') ≤ f s p + g s' p'
  more_bound s p s' p' hs ss pp = ⊎_elim (λ lower. old lower) (λ here. new p p' pp here) (cases_lt s n)
    where
      old : s < n → next (s + s') (p + p') ≤ f s p + g s' p'
      old lower = omega (arith, same (s + s') (p + p') (omega arith) (omega arith), so_far.bound s p s' p' lower ss pp)

      new : (p p' : ℕ) → p + p' ≤ 1 → n ≤ s → next (s + s') (p + p') ≤ f s p + g s' p'
      new zero p' pp here =
          let s_is : s ≡ n = omega arith in
          let place = at_same moved (s + s') (n + s') (0 + p') p' (omega arith) (omega arith) in
          omega (arith, same (s + s') (0 + p') (omega arith) (omega arith), place, is.at s' p' (omega arith) (omega arith), at_same f s n 0 0 s_is refl)
      new (suc zero) zero pp here =
          let s_is : s ≡ n = omega arith in
          let place = at_same next (s + s') (n + s') (1 + 0) 1 (omega arith) (omega arith) in
          omega (arith, place, same (n + s') 1 (omega arith) (omega arith), is.at s' 0 (omega arith) (omega arith), at_same f s n 1 1 s_is refl)
      new (suc zero) (suc p') pp here = absurd (omega arith)
      new (suc (suc p)) p' pp here = absurd (omega arith)

  plain_reached : (s p v : ℕ) → s ≤ 4 → p ≤ 1 → v < 255 → v ≡ capped (moved s p + x) → SumReached f g s p v
  plain_reached s p v hs hp low e = ⊎_elim (λ lower. absurd (omega (arith, is.before s p lower hs hp))) (λ here. found here) (cases_lt s n)
    where
      found : n ≤ s → SumReached f g s p v
      found here =
          let place = at_same moved s (n + (s - n)) p p (omega arith) refl in
          record { left_sets = n; left_pairs = 0; right_sets = s - n; right_pairs = p; sets = omega arith; pairs = omega arith; value = omega (arith, place, is.at (s - n) p (omega arith) hp) }

  pair_reached : (s p v : ℕ) → s ≤ 4 → p ≤ 1 → v < 255 → v ≡ capped (with_pair moved s p + y) → SumReached f g s p v
  pair_reached s zero v hs hp low e = absurd (omega arith)
  pair_reached s (suc p) v hs hp low e = ⊎_elim (λ lower. absurd (omega (arith, is.before s p lower hs (omega arith)))) (λ here. found here) (cases_lt s n)
    where
      found : n ≤ s → SumReached f g s (suc p) v
      found here =
          let place = at_same moved s (n + (s - n)) p p (omega arith) refl in
          record { left_sets = n; left_pairs = 1; right_sets = s - n; right_pairs = p; sets = omega arith; pairs = omega arith; value = omega (arith, place, is.at (s - n) p (omega arith) (omega arith)) }

  more_reached : (s p : ℕ) → s ≤ 4 → p ≤ 1 → next s p < 255 → SumReached f g s p (next s p)
  more_reached s p hs hp low =
      let e = same s p (omega arith) (omega arith) in
      let old : ℕ = h s p in
      let plain : ℕ = capped (moved s p + x) in
      let pair : ℕ = capped (with_pair moved s p + y) in
      ⊎_elim (λ outer. ⊎_elim (λ inner. kept (e ∙ outer ∙ inner)) (λ inner. plain_reached s p (next s p) hs hp low (e ∙ outer ∙ inner)) (min_is old plain))
      (λ outer. pair_reached s p (next s p) hs hp low (e ∙ outer)) (min_is (min old plain) pair)
    where
      kept : next s p ≡ h s p → SumReached f g s p (next s p)
      kept same_value = subst (λ (v : ℕ). SumReached f g s p v) (sym same_value) (so_far.reached s p hs hp (omega arith))

  pub more : LeastSoFar f g next (n + 1)
  more = record { bound = more_bound; reached = more_reached }

pub none_so_far : (f g h : ℕ → ℕ → ℕ) → ((s p : ℕ) → s < 5 → p < 2 → h s p ≡ 255) → LeastSoFar f g h 0
none_so_far f g h none = record {
  bound = λ s p s' p' low ss pp. absurd (omega arith);
  reached = λ s p hs hp low. absurd (omega (arith, none s p (omega arith) (omega arith)));
}

-- all sets of f were joined
pub least_sum : (f g h : ℕ → ℕ → ℕ) → LeastSoFar f g h 5 → IsLeastSum f g h
least_sum f g h so_far = record {
  bound = λ s p s' p' ss pp. so_far.bound s p s' p' (omega arith) ss pp;
  reached = so_far.reached;
}

-- ---- entries

pub entry_is : (v n : ℕ) → entry_of v ≡ Some n → (v ≡ n) × (v < 255)
entry_is v n e = by_test (ltb v 255) refl
  where
    by_test : (t : Bool) → ltb v 255 ≡ t → (v ≡ n) × (v < 255)
    by_test true l = let e' : Some v ≡ Some n = ap (λ t. cond t (Some v) None) (sym l) ∙ e in (cc, ltb-true v 255 l)
    by_test false l = let e' : None ≡ Some n = ap (λ t. cond t (Some v) None) (sym l) ∙ e in cc

pub entry_some : (v : ℕ) → v < 255 → entry_of v ≡ Some v
entry_some v low = ap (λ t. cond t (Some v) None) (lt-ltb v 255 low)

abbrev pub entries : (ℕ → ℕ → ℕ) → ℕ → ℕ → Option ℕ
entries f s p = entry_of (f s p)

abbrev pub IsSmall : (ℕ → ℕ → ℕ) → Type 0
IsSmall f = (s p : ℕ) → s < 5 → p < 2 → f s p < 255 → f s p ≤ 36

-- ---- the rows of the suits

abbrev pub each_entries : (Suit → ℕ → ℕ → ℕ) → Suit → ℕ → ℕ → Option ℕ
each_entries rows suit = entries (rows suit)

module _ (rows : Suit → ℕ → ℕ → ℕ) (sets n : ℕ) where
  -- an entry of each, by so many sets and pairs of each suit
  unfoldable pub entries_at : (sets_of pairs_of : Suit → ℕ) → over_suits sets_of ≡ sets → over_suits pairs_of ≡ 1 → over_suits (λ suit. rows suit (sets_of suit) (pairs_of suit)) ≡ n → n < 255
      → EntriesSum (each_entries rows) sets n
  entries_at sets_of pairs_of has_sets has_pair total low = record {
    sets_of = sets_of;
    pairs_of = pairs_of;
    lack_of = λ suit. rows suit (sets_of suit) (pairs_of suit);
    has_sets = has_sets;
    has_pair = has_pair;
    entry = λ suit. entry_some (rows suit (sets_of suit) (pairs_of suit)) (omega (arith, one_of (λ suit. rows suit (sets_of suit) (pairs_of suit)) suit, total, low));
    total = total;
  }

  module _ (e : EntriesSum (each_entries rows) sets n) (few : sets ≤ 4) (small : (suit : Suit) → IsSmall (rows suit)) where
    few_sets : (suit : Suit) → e.sets_of suit ≤ 4
    few_sets suit = omega (arith, one_of e.sets_of suit, e.has_sets)

    few_pairs : (suit : Suit) → e.pairs_of suit ≤ 1
    few_pairs suit = omega (arith, one_of e.pairs_of suit, e.has_pair)

    pub entries_total : (over_suits (λ suit. rows suit (e.sets_of suit) (e.pairs_of suit)) ≡ n) × (n ≤ 144)
    entries_total =
        let lacks : Suit → ℕ = λ suit. rows suit (e.sets_of suit) (e.pairs_of suit) in
        let is : (suit : Suit) → (lacks suit ≡ e.lack_of suit) × (lacks suit < 255) = λ suit. entry_is (lacks suit) (e.lack_of suit) (e.entry suit) in
        let sum = same_over lacks e.lack_of (λ suit. (is suit).0) in
        let most = le_over lacks (λ suit. 36) (λ suit. small suit (e.sets_of suit) (e.pairs_of suit) (omega (arith, few_sets suit)) (omega (arith, few_pairs suit)) (is suit).1) in
        (sum ∙ e.total, omega (arith, sum, e.total, most))

-- a lane that no sum is below, and that is reached unless it stands for none
pub entry_join : (rows : Suit → ℕ → ℕ → Option ℕ) (sets n : ℕ) → ((m : ℕ) → EntriesSum rows sets m → (n ≤ m) × (m ≤ 144)) → (n < 255 → EntriesSum rows sets n) → IsLeastJoin rows sets (entry_of n)
entry_join rows sets n bound reached = by_test (ltb n 255) refl
  where
    by_test : (t : Bool) → ltb n 255 ≡ t → IsLeastJoin rows sets (cond t (Some n) None)
    by_test true low = (reached (ltb-true n 255 low), λ m e. (bound m e).0)
    by_test false high = λ m e. (let below = bound m e in omega (arith, ltb-false n 255 high, below.0, below.1))

-- ---- one row joined with the kept join of the other three

-- the least sum of so many sets and one pair
pub record LeastTaken (f g : ℕ → ℕ → ℕ) (sets least : ℕ) : Type 0 where
  pub bound : (s p s' p' : ℕ) → s + s' ≡ sets → p + p' ≡ 1 → least ≤ f s p + g s' p'
  pub reached : least < 255 → SumReached f g sets 1 least

-- an entry of each, of the suit that of so many sets and pairs
pub record EntriesFrom (rows : Suit → ℕ → ℕ → ℕ) (suit : Suit) (sets n s p : ℕ) : Type 0 where
  pub entries : EntriesSum (each_entries rows) sets n
  pub own_sets : entries.sets_of suit ≡ s
  pub own_pairs : entries.pairs_of suit ≡ p

module _ (rows : Suit → ℕ → ℕ → ℕ) (suit : Suit) (two rest : ℕ → ℕ → ℕ) (two_least : IsLeastSum (rows (first_far suit)) (rows (last_far suit)) two) (rest_least : IsLeastSum (rows (partner suit)) two rest) (sets : ℕ) (few : sets ≤ 4) where
  -- what the other three have together, their join does not pass
  pub others_bound : (n : ℕ) (e : EntriesSum (each_entries rows) sets n) → (let others = λ (f : Suit → ℕ). f (partner suit) + (f (first_far suit) + f (last_far suit)) in
      rest (others e.sets_of) (others e.pairs_of) ≤ others (λ other. rows other (e.sets_of other) (e.pairs_of other)))
  others_bound n e =
      let sum = over_from e.sets_of suit in
      let pair = over_from e.pairs_of suit in
      let t = two_least.bound (e.sets_of (first_far suit)) (e.pairs_of (first_far suit)) (e.sets_of (last_far suit)) (e.pairs_of (last_far suit)) (omega (arith, sum, e.has_sets)) (omega (arith, pair, e.has_pair)) in
      let r = rest_least.bound (e.sets_of (partner suit)) (e.pairs_of (partner suit)) (e.sets_of (first_far suit) + e.sets_of (last_far suit)) (e.pairs_of (first_far suit) + e.pairs_of (last_far suit)) (omega (arith, sum, e.has_sets)) (omega (arith, pair, e.has_pair)) in
      omega (arith, t, r)

  -- an entry of the suit, with what the join of the others has beside it
  pub entries_with : (n s p s' p' : ℕ) → s + s' ≡ sets → p + p' ≡ 1 → n ≡ rows suit s p + rest s' p' → n < 255 → EntriesFrom rows suit sets n s p
  unfolding entries_at
  entries_with n s p s' p' all_sets one_pair is low =
      let l = rest_least.reached s' p' (omega (arith, all_sets)) (omega (arith, one_pair)) (omega (arith, is)) in
      let r = two_least.reached l.right_sets l.right_pairs (omega (arith, all_sets, l.sets)) (omega (arith, one_pair, l.pairs)) (omega (arith, is, l.value)) in
      let sets_of : Suit → ℕ = placed suit s l.left_sets r.left_sets r.right_sets in
      let pairs_of : Suit → ℕ = placed suit p l.left_pairs r.left_pairs r.right_pairs in
      record {
        entries = entries_at rows sets n sets_of pairs_of
            (omega (arith, over_placed (λ other x y. x) suit s l.left_sets r.left_sets r.right_sets p l.left_pairs r.left_pairs r.right_pairs, all_sets, l.sets, r.sets))
            (omega (arith, over_placed (λ other x y. y) suit s l.left_sets r.left_sets r.right_sets p l.left_pairs r.left_pairs r.right_pairs, one_pair, l.pairs, r.pairs))
            (omega (arith, over_placed rows suit s l.left_sets r.left_sets r.right_sets p l.left_pairs r.left_pairs r.right_pairs, is, l.value, r.value)) low;
        own_sets = placed-own suit s l.left_sets r.left_sets r.right_sets;
        own_pairs = placed-own suit p l.left_pairs r.left_pairs r.right_pairs;
      }

  pub taken_entry : (n : ℕ) → LeastTaken (rows suit) rest sets n → ((suit : Suit) → IsSmall (rows suit)) → IsLeastJoin (each_entries rows) sets (entry_of n)
  taken_entry n is small = entry_join (each_entries rows) sets n bound (λ low. let t = is.reached low in (entries_with n t.left_sets t.left_pairs t.right_sets t.right_pairs t.sets t.pairs t.value low).entries)
    where
      bound : (m : ℕ) → EntriesSum (each_entries rows) sets m → (n ≤ m) × (m ≤ 144)
      bound m e =
          let sum = entries_total rows sets m e few small in
          let others = others_bound m e in
          let own = is.bound (e.sets_of suit) (e.pairs_of suit) (e.sets_of (partner suit) + (e.sets_of (first_far suit) + e.sets_of (last_far suit))) (e.pairs_of (partner suit) + (e.pairs_of (first_far suit) + e.pairs_of (last_far suit)))
          (omega (arith, over_from e.sets_of suit, e.has_sets)) (omega (arith, over_from e.pairs_of suit, e.has_pair)) in
          (omega (arith, others, own, sum.0, over_from (λ other. rows other (e.sets_of other) (e.pairs_of other)) suit), sum.1)
