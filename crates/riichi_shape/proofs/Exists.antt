-- A winning multiset always exists: kinds of which the melds hold at most one give triplets and the pair.
use Rattle.std.proofs.Common.{◌≡◌, Bool, true, false, cond, eqb, leb, length, refl, ℕ, zero, suc, ◌+◌, ◌-◌, ◌*◌, ◌<◌, ◌≤◌, ◌⊎◌, inl, inr, List, [], ◌∷◌, sym, ap, ◌∙◌, ⊎_elim, arith}
use Rattle.std.proofs.lemmas.Bool.{cases_lt}
use Rattle.std.proofs.lemmas.Bool.Decides.{nat_tests}
use Rattle.std.proofs.lemmas.List.Elements.{All-nil, All-cons}
use Rattle.std.proofs.lemmas.List.Sums.{sum_by-cons}
use Rattle.std.specs.Prelude.{All, slice_index, sum_by}
use Rattle.std.specs.List.{range_with_len}
use Rattle.riichi_tiles.specs.Melds.{tiles, tiles_of as tiles_of_meld}
use Rattle.riichi_tiles.specs.declared.meld.Meld.TheVariants.{Chi, Pon, Kan, Ankan}
use Rattle.riichi_tiles.specs.declared.block.Block.{Block}
use Rattle.riichi_tiles.specs.declared.meld.Meld.{Meld}
use Rattle.riichi_tiles.specs.declared.block.Block.TheVariants.{Triplet, Pair}
use Rattle.riichi_tiles.specs.Forms.{IsSetsAndPair}
use Rattle.riichi_shape.specs.Winning.{WithinFour, lacking}
use Rattle.riichi_shape.proofs.Counted.{IsOfKinds, uncounted}
use Rattle.riichi_rows.proofs.Blocks.{tiles_of, tiles_is_sum, set_of, has_pair}
use Rattle.riichi_rows.proofs.Spread.{spread, spread_sum, sum_range, spread_shift, spread_none, table, table_at, at_same_number}

-- triplets and pairs of kinds from a on, that fit beside the melds m
record Free (m h : ℕ → ℕ) (a n t p : ℕ) : Type 0 where
  pub blocks : List Block
  pub of_kinds : All IsOfKinds blocks
  pub has_sets : sum_by set_of blocks ≡ t
  pub has_pairs : sum_by has_pair blocks ≡ p
  pub none_before : (k : ℕ) → k < a → sum_by (tiles_of k) blocks ≡ 0
  pub within : (k : ℕ) → k < a + n → sum_by (tiles_of k) blocks + m k ≤ 4
  pub lacks : spread (λ k. sum_by (tiles_of k) blocks - h k) a n ≤ 3 * t + 2 * p

no_blocks : (m h : ℕ → ℕ) (a n : ℕ) → ((k : ℕ) → k < a + n → m k ≤ 4) → Free m h a n 0 0
no_blocks m h a n few = record {
  blocks = [];
  of_kinds = All-nil IsOfKinds;
  has_sets = refl;
  has_pairs = refl;
  none_before = λ k low. refl;
  within = λ k low. omega (arith, few k low);
  lacks = omega (arith, spread_none (λ k. 0 - h k) a n (λ k low high. omega arith));
}

-- a kind that is left out
skip : (m h : ℕ → ℕ) (a n t p : ℕ) → m a ≤ 4 → Free m h (a + 1) n t p → Free m h a (suc n) t p
unfolding spread
skip m h a n t p few rest = record {
  blocks = rest.blocks;
  of_kinds = rest.of_kinds;
  has_sets = rest.has_sets;
  has_pairs = rest.has_pairs;
  none_before = λ k low. rest.none_before k (omega arith);
  within = λ k low. rest.within k (omega arith);
  lacks = omega (arith, rest.none_before a (omega arith), rest.lacks);
}

-- a block of one kind
with_block : (m h : ℕ → ℕ) (a n t p t' p' : ℕ) (b : Block) → set_of b + t ≡ t' → has_pair b + p ≡ p' → IsOfKinds b → tiles_of a b ≡ 3 * set_of b + 2 * has_pair b → ((k : ℕ) → (k < a) ⊎ (a < k) → tiles_of k b ≡ 0) → tiles_of a b + m a ≤ 4 →
    Free m h (a + 1) n t p → Free m h a (suc n) t' p'
unfolding spread
with_block m h a n t p t' p' b more_sets more_pairs kind here elsewhere fits rest =
    let after = spread_shift (λ k. sum_by (tiles_of k) (b ∷ rest.blocks) - h k) (λ k. sum_by (tiles_of k) rest.blocks - h k) (a + 1) (a + 1) n
    (λ r low. ap (λ w. w - h (a + 1 + r)) (same (a + 1 + r) (inr (omega arith)))) in
    record {
      blocks = b ∷ rest.blocks;
      of_kinds = All-cons IsOfKinds b rest.blocks kind rest.of_kinds;
      has_sets = sum_by-cons set_of b rest.blocks ∙ ap (λ n. set_of b + n) rest.has_sets ∙ more_sets;
      has_pairs = sum_by-cons has_pair b rest.blocks ∙ ap (λ n. has_pair b + n) rest.has_pairs ∙ more_pairs;
      none_before = λ k low. same k (inl low) ∙ rest.none_before k (omega arith);
      within = λ k low. ⊎_elim (λ below. omega (arith, same k (inl below), rest.within k (omega arith))) (λ not_below. ⊎_elim (λ above. omega (arith, same k (inr above), rest.within k (omega arith))) (λ not_above. at_place k (omega arith)) (cases_lt a k)) (cases_lt k a);
      lacks = omega (arith, after, sum_by-cons (tiles_of a) b rest.blocks, here, rest.none_before a (omega arith), rest.lacks, more_sets, more_pairs);
    }
  where
    same : (k : ℕ) → (k < a) ⊎ (a < k) → sum_by (tiles_of k) (b ∷ rest.blocks) ≡ sum_by (tiles_of k) rest.blocks
    same k other = omega (arith, sum_by-cons (tiles_of k) b rest.blocks, elsewhere k other)

    at_place : (k : ℕ) → k ≡ a → sum_by (tiles_of k) (b ∷ rest.blocks) + m k ≤ 4
    at_place k e = omega (arith, ap (λ k. sum_by (tiles_of k) (b ∷ rest.blocks)) e, ap m e, sum_by-cons (tiles_of a) b rest.blocks, rest.none_before a (omega arith), fits)

triplet_alone : (a : ℕ) → (tiles_of a (Triplet a) ≡ 3) × ((k : ℕ) → (k < a) ⊎ (a < k) → tiles_of k (Triplet a) ≡ 0)
triplet_alone a = (grind (arith, nat_tests), λ k h. grind (arith, nat_tests))

pair_alone : (a : ℕ) → (tiles_of a (Pair a) ≡ 2) × ((k : ℕ) → (k < a) ⊎ (a < k) → tiles_of k (Pair a) ≡ 0)
pair_alone a = (grind (arith, nat_tests), λ k h. grind (arith, nat_tests))

free_blocks : (m h : ℕ → ℕ) (a n t p : ℕ) → ((k : ℕ) → k < a + n → m k ≤ 4) → a + n ≤ 34 → spread m a n + 2 * (t + p) ≤ 2 * n → Free m h a n t p
unfolding spread
free_blocks m h a n zero zero few inside room = no_blocks m h a n few
free_blocks m h a zero (suc t) p few inside room = absurd (omega arith)
free_blocks m h a zero zero (suc p) few inside room = absurd (omega arith)
free_blocks m h a (suc n) (suc t) p few inside room =
    ⊎_elim (λ low. with_block m h a n t p (suc t) p (Triplet a) (omega arith) (omega arith) (omega arith) (triplet_alone a).0 (triplet_alone a).1 (omega (arith, (triplet_alone a).0))
    (free_blocks m h (a + 1) n t p (λ k l. few k (omega arith)) (omega arith) (omega arith)))
    (λ high. skip m h a n (suc t) p (few a (omega arith)) (free_blocks m h (a + 1) n (suc t) p (λ k l. few k (omega arith)) (omega arith) (omega arith))) (cases_lt (m a) 2)
free_blocks m h a (suc n) zero (suc p) few inside room =
    ⊎_elim (λ low. with_block m h a n zero p zero (suc p) (Pair a) (omega arith) (omega arith) (omega arith) (pair_alone a).0 (pair_alone a).1 (omega (arith, (pair_alone a).0))
    (free_blocks m h (a + 1) n zero p (λ k l. few k (omega arith)) (omega arith) (omega arith)))
    (λ high. skip m h a n zero (suc p) (few a (omega arith)) (free_blocks m h (a + 1) n zero (suc p) (λ k l. few k (omega arith)) (omega arith) (omega arith))) (cases_lt (m a) 2)

pub record StandardExists (hand : List ℕ) (melds : List Meld) (sets : ℕ) : Type 0 where
  pub wanted : List ℕ
  pub sets_and_pair : IsSetsAndPair sets wanted
  pub within_four : WithinFour melds wanted
  pub lacks : lacking hand wanted ≤ 3 * sets + 2

-- ---- the tiles of melds

-- so many tiles of one kind
abbrev point : ℕ → ℕ → ℕ → ℕ
point held c k = cond (eqb held k) c 0

point_step : (held c a rest : ℕ) → rest ≤ cond (leb (a + 1) held) c 0 → point held c a + rest ≤ cond (leb a held) c 0
point_step held c a rest h = grind (arith, nat_tests)

point_within : (held c a n : ℕ) → spread (point held c) a n ≤ cond (leb a held) c 0
unfolding spread
point_within held c a zero = omega arith
point_within held c a (suc n) = point_step held c a (spread (point held c) (a + 1) n) (point_within held c (a + 1) n)

point_few : (held c a n : ℕ) → spread (point held c) a n ≤ c
point_few held c a n = within (leb a held) (point_within held c a n)
  where
    within : {m : ℕ} (t : Bool) → m ≤ cond t c 0 → m ≤ c
    within true h = h
    within false h = omega arith

meld_few : (m : Meld) (a n : ℕ) → spread (tiles_of_meld m) a n ≤ 4
meld_few (Chi low) a n =
    let one = point_few low 1 a n in
    let two = point_few (low + 1) 1 a n in
    let three = point_few (low + 2) 1 a n in
    let front = spread_sum (point low 1) (point (low + 1) 1) (λ k. point low 1 k + point (low + 1) 1 k) (λ k. refl) a n in
    let all = spread_sum (λ k. point low 1 k + point (low + 1) 1 k) (point (low + 2) 1) (tiles_of_meld (Chi low)) (λ k. run_is low k) a n in
    omega (arith, one, two, three, front, all)
  where
    run_is : (low k : ℕ) → tiles_of_meld (Chi low) k ≡ point low 1 k + point (low + 1) 1 k + point (low + 2) 1 k
    run_is low k = grind (arith, nat_tests)
meld_few (Pon held) a n = omega (arith, point_few held 3 a n)
meld_few (Kan held) a n = point_few held 4 a n
meld_few (Ankan held) a n = point_few held 4 a n

pub melds_few : (melds : List Meld) (a n : ℕ) → spread (tiles melds) a n ≤ 4 * length melds
melds_few [] a n = omega (arith, spread_none (tiles []) a n (λ k low high. refl))
melds_few (m ∷ melds) a n = omega (arith, meld_few m a n, melds_few melds a n, spread_sum (tiles_of_meld m) (tiles melds) (tiles (m ∷ melds)) (λ k. refl) a n)

pub standard_exists : (hand : List ℕ) (melds : List Meld) (sets : ℕ) → sets ≤ 4 → ((k : ℕ) → k < 34 → tiles melds k ≤ 4) → sum_by (tiles melds) (range_with_len 0 34) ≤ 16 → StandardExists hand melds sets
standard_exists hand melds sets few within all =
    let f = free_blocks (tiles melds) (slice_index hand) 0 34 sets 1 (λ k low. within k (omega arith)) (omega arith) (omega (arith, sum_range (tiles melds) 0 34)) in
    record {
      wanted = table (λ k. sum_by (tiles_of k) f.blocks) 0 34;
      sets_and_pair = uncounted sets (table (λ k. sum_by (tiles_of k) f.blocks) 0 34) (record {
        blocks = f.blocks;
        of_kinds = f.of_kinds;
        has_sets = f.has_sets;
        has_pair = f.has_pairs;
        adds_up = λ k low. at_kind f.blocks k low ∙ sym (tiles_is_sum k f.blocks);
      });
      within_four = record { at = λ k low. omega (arith, at_kind f.blocks k low, f.within k (omega arith)) };
      lacks = (let same = spread_shift (λ k. slice_index (table (λ k. sum_by (tiles_of k) f.blocks) 0 34) k - slice_index hand k) (λ k. sum_by (tiles_of k) f.blocks - slice_index hand k) 0 0 34 (λ r low. ap (λ w. w - slice_index hand (0 + r)) (at_kind f.blocks (0 + r) (omega arith))) in
          omega (arith, sum_range (λ k. slice_index (table (λ k. sum_by (tiles_of k) f.blocks) 0 34) k - slice_index hand k) 0 34, same, f.lacks));
    }
  where
    at_kind : (bs : List Block) (k : ℕ) → k < 34 → slice_index (table (λ k. sum_by (tiles_of k) bs) 0 34) k ≡ sum_by (tiles_of k) bs
    at_kind bs k low = table_at (λ k. sum_by (tiles_of k) bs) 0 34 k low ∙ at_same_number (λ k. sum_by (tiles_of k) bs) (0 + k) k (omega arith)
