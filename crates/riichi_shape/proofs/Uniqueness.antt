-- The distance is one number: the least lack over the list of every winning multiset.
use Rattle.std.proofs.Common.{◌≡◌, ℕ, zero, suc, ◌≤◌, inl, inr, List, [], ◌∷◌, map, length, refl, sym, ap, ⊎_elim, subst, arith, ◌+◌, ◌-◌, ◌<◌, true, ◌++◌, ◌∙◌}
use Rattle.riichi_tiles.proofs.Members.{IsIn, in-flat_map, in-flat_map-inv, in-map, in-map-inv, All-in, in-All, all-from, all-in, get_or-in, in-cases, in-filter, in-filter-inv, in-left, in-range, in-range-inv, in-right}
use Rattle.riichi_shape.specs.EveryWinning.{lists_of, least_with, least, counts_of_blocks, every_sets_and_pair, every_seven_pairs, every_orphans, every_special, is_within_four, every_winning, distance_of}
use Rattle.riichi_rows.proofs.Joins.{min_is}
use Rattle.std.proofs.lemmas.List.FromFn.{get_or-map-range_with_len, length-map-range_with_len}
use Rattle.std.proofs.lemmas.Bool.{eq-eqb, eqb-true, le-leb, leb-true}
use Rattle.std.specs.Prelude.{slice_index, sum_by, nat_le, ◌==◌}
use Rattle.riichi_tiles.specs.Sets.{every_set}
use Rattle.riichi_tiles.specs.Blocks.{IsSet, total}
use Rattle.riichi_tiles.specs.Melds.{every_kind, tiles}
use Rattle.riichi_tiles.specs.declared.block.Block.{Block}
use Rattle.riichi_tiles.specs.declared.block.Block.TheVariants.{Pair}
use Rattle.riichi_tiles.specs.declared.meld.Meld.{Meld}
use Rattle.riichi_rows.proofs.Spread.{sum_range, spread_shift}
use Rattle.riichi_shape.specs.Distance.{IsDistance}
use Rattle.riichi_tiles.specs.Forms.{HasWinningForm, IsSetsAndPair, IsSevenPairs, IsThirteenOrphans, orphan_copies, orphan_kinds}
use Rattle.riichi_shape.specs.Winning.{IsWinning, WithinFour, lacking}
use Rattle.riichi_shape.proofs.OrphanLemmas.{is_listed, listed}
use Rattle.riichi_tiles.proofs.EverySet.{every_set-inv, in-every_set}

-- ---- lists of things

pub among_lists : {A : Type 0} (things : List A) (n : ℕ) (ys : List A) → length ys ≡ n → ((y : A) → IsIn y ys → IsIn y things) → IsIn ys (lists_of things n)
unfolding lists_of
among_lists things zero [] long each = inl refl
among_lists things zero (y ∷ ys) long each = absurd (omega arith)
among_lists things (suc n) [] long each = absurd (omega arith)
among_lists things (suc n) (y ∷ ys) long each =
    in-flat_map (λ first. map (λ rest. first ∷ rest) (lists_of things n)) y (y ∷ ys) things (each y (inl refl))
    (in-map (λ rest. y ∷ rest) ys (lists_of things n) (among_lists things n ys (omega arith) (λ z h. each z (inr h))))

-- a list of so many of the things
pub record IsListOf {A : Type 0} (things : List A) (n : ℕ) (ys : List A) : Type 0 where
  pub long : length ys ≡ n
  pub each : (y : A) → IsIn y ys → IsIn y things

longer : {A : Type 0} (things : List A) (n : ℕ) (first : A) (rest : List A) → IsIn first things → IsListOf things n rest → IsListOf things (suc n) (first ∷ rest)
longer things n first rest here is = record {
  long = ap suc is.long;
  each = λ y h. ⊎_elim (λ e. subst (λ (v : _). IsIn v things) e here) (λ later. is.each y later) h;
}

pub from_lists : {A : Type 0} (things : List A) (n : ℕ) (ys : List A) → IsIn ys (lists_of things n) → IsListOf things n ys
unfolding lists_of
from_lists {A} things zero ys h = ⊎_elim (λ e. subst (λ (zs : List A). IsListOf things 0 zs) e (record { long = refl; each = λ y h. absurd h })) (λ none. absurd none) h
from_lists {A} things (suc n) ys h =
    let by_first = in-flat_map-inv (λ first. map (λ rest. first ∷ rest) (lists_of things n)) ys things h in
    let by_rest = in-map-inv (λ rest. by_first.0 ∷ rest) ys (lists_of things n) by_first.2 in
    subst (λ (zs : List A). IsListOf things (suc n) zs) by_rest.2 (longer things n by_first.0 by_rest.0 by_first.1 (from_lists things n by_rest.0 by_rest.1))

-- ---- the least

least_with_below : (first : ℕ) (rest : List ℕ) (m : ℕ) → IsIn m (first ∷ rest) → least_with first rest ≤ m
unfolding least_with
least_with_below first [] m h = ⊎_elim (λ e. omega (arith, e)) (λ none. absurd none) h
least_with_below first (next ∷ rest) m h = ⊎_elim (λ e. omega (arith, e)) (λ later. omega (arith, least_with_below next rest m later)) h

least_with_among : (first : ℕ) (rest : List ℕ) → IsIn (least_with first rest) (first ∷ rest)
unfolding least_with
least_with_among first [] = inl refl
least_with_among first (next ∷ rest) =
    ⊎_elim (λ e. inl (sym e)) (λ e. inr (subst (λ (n : ℕ). IsIn n (next ∷ rest)) (sym e) (least_with_among next rest))) (min_is first (least_with next rest))

pub least_is : (xs : List ℕ) (m : ℕ) → IsIn m xs → (least xs ≤ m) × IsIn (least xs) xs
unfolding least
least_is [] m h = absurd h
least_is (first ∷ rest) m h = (least_with_below first rest m h, least_with_among first rest)

-- ---- multisets that are listed

-- two multisets with the same tiles
pub record SameTiles (w v : List ℕ) : Type 0 where
  pub at : (kind : ℕ) → kind < 34 → slice_index w kind ≡ slice_index v kind

-- some element has the same tiles
pub record Listed (ws : List (List ℕ)) (wanted : List ℕ) : Type 0 where
  pub listed : List ℕ
  pub among : IsIn listed ws
  pub same : SameTiles listed wanted

pub lacking_same : (hand w v : List ℕ) → SameTiles w v → lacking hand w ≡ lacking hand v
lacking_same hand w v same =
    sum_range (λ k. slice_index w k - slice_index hand k) 0 34
    ∙ spread_shift (λ k. slice_index w k - slice_index hand k) (λ k. slice_index v k - slice_index hand k) 0 0 34 (λ k low. ap (λ n. n - slice_index hand (0 + k)) (same.at (0 + k) (omega arith)))
    ∙ sym (sum_range (λ k. slice_index v k - slice_index hand k) 0 34)

-- ---- sets

counts_at : (bs : List Block) (k : ℕ) → k < 34 → slice_index (counts_of_blocks bs) k ≡ total bs k
unfolding counts_of_blocks
counts_at bs k h = get_or-map-range_with_len (total bs) 0 34 k k 0 h (omega arith)

listed_sets : (sets : ℕ) (wanted : List ℕ) → IsSetsAndPair sets wanted → Listed (every_sets_and_pair sets) wanted
unfolding every_sets_and_pair
listed_sets sets wanted is = record {
  listed = counts_of_blocks (Pair is.pair ∷ is.blocks);
  among = in-flat_map (λ pair. map (λ blocks. counts_of_blocks (Pair pair ∷ blocks)) (lists_of every_set sets)) is.pair (counts_of_blocks (Pair is.pair ∷ is.blocks)) every_kind (in-range 34 0 is.pair (omega arith) (omega (arith, is.made_of.is_kind)))
      (in-map (λ blocks. counts_of_blocks (Pair is.pair ∷ blocks)) is.blocks (lists_of every_set sets) (among_lists every_set sets is.blocks is.has_sets (λ set here. in-every_set set (in-All IsSet is.blocks is.made_of.are_sets set here))));
  same = record { at = λ kind low. counts_at (Pair is.pair ∷ is.blocks) kind low ∙ sym (is.made_of.adds_up kind low) };
}

sets_listed : (sets : ℕ) (wanted : List ℕ) → IsIn wanted (every_sets_and_pair sets) → IsSetsAndPair sets wanted
unfolding every_sets_and_pair
sets_listed sets wanted h =
    let by_pair = in-flat_map-inv (λ pair. map (λ blocks. counts_of_blocks (Pair pair ∷ blocks)) (lists_of every_set sets)) wanted every_kind h in
    let by_blocks = in-map-inv (λ blocks. counts_of_blocks (Pair by_pair.0 ∷ blocks)) wanted (lists_of every_set sets) by_pair.2 in
    let list = from_lists every_set sets by_blocks.0 by_blocks.1 in
    record {
      blocks = by_blocks.0;
      pair = by_pair.0;
      made_of = record {
        are_sets = All-in IsSet by_blocks.0 (λ set here. every_set-inv set (list.each set here));
        is_kind = (in-range-inv 34 0 by_pair.0 by_pair.1).1;
        adds_up = λ kind low. ap (λ w. slice_index w kind) (sym by_blocks.2) ∙ counts_at (Pair by_pair.0 ∷ by_blocks.0) kind low;
      };
      has_sets = list.long;
    }

-- ---- seven pairs

abbrev tiles_of_all : List ℕ → ℕ
tiles_of_all wanted = sum_by (slice_index wanted) every_kind

all_same : (w v : List ℕ) → SameTiles w v → tiles_of_all w ≡ tiles_of_all v
all_same w v same = sum_range (slice_index w) 0 34 ∙ spread_shift (slice_index w) (slice_index v) 0 0 34 (λ k low. same.at (0 + k) (omega arith)) ∙ sym (sum_range (slice_index v) 0 34)

copied : (wanted : List ℕ) → SameTiles (map (slice_index wanted) every_kind) wanted
copied wanted = record { at = λ kind low. get_or-map-range_with_len (slice_index wanted) 0 34 kind kind 0 low (omega arith) }

listed_pairs : (wanted : List ℕ) → IsSevenPairs wanted → Listed every_seven_pairs wanted
unfolding every_seven_pairs
listed_pairs wanted is = record {
  listed = map (slice_index wanted) every_kind;
  among = in-filter (λ w. tiles_of_all w == 14) (map (slice_index wanted) every_kind) (lists_of (0 ∷ 2 ∷ []) 34)
      (among_lists (0 ∷ 2 ∷ []) 34 (map (slice_index wanted) every_kind) (length-map-range_with_len (slice_index wanted) 0 34) each)
      (eq-eqb (tiles_of_all (map (slice_index wanted) every_kind)) 14 (all_same (map (slice_index wanted) every_kind) wanted (copied wanted) ∙ is.fourteen));
  same = copied wanted;
}
  where
    each : (n : ℕ) → IsIn n (map (slice_index wanted) every_kind) → IsIn n (0 ∷ 2 ∷ [])
    each n h =
        let r = in-map-inv (slice_index wanted) n every_kind h in
        ⊎_elim (λ none. inl (sym none ∙ r.2)) (λ two. inr (inl (sym two ∙ r.2))) (is.two_or_none r.0 (in-range-inv 34 0 r.0 r.1).1)

pairs_listed : (wanted : List ℕ) → IsIn wanted every_seven_pairs → IsSevenPairs wanted
unfolding every_seven_pairs
pairs_listed wanted h =
    let r = in-filter-inv (λ w. tiles_of_all w == 14) wanted (lists_of (0 ∷ 2 ∷ []) 34) h in
    let list = from_lists (0 ∷ 2 ∷ []) 34 wanted r.0 in
    record {
      two_or_none = λ kind low. ⊎_elim (λ none. inl (sym none)) (λ rest. ⊎_elim (λ two. inr (sym two)) (λ no. absurd no) rest) (list.each (slice_index wanted kind) (get_or-in wanted kind 0 (omega (arith, list.long))));
      fourteen = eqb-true (tiles_of_all wanted) 14 r.1;
    }

-- ---- orphans

listed_orphans : (wanted : List ℕ) → IsThirteenOrphans wanted → Listed every_orphans wanted
unfolding every_orphans
listed_orphans wanted is = record {
  listed = map (orphan_copies is.doubled) every_kind;
  among = in-map (λ doubled. map (orphan_copies doubled) every_kind) is.doubled orphan_kinds (listed is.doubled is.is_kind is.doubles_orphan);
  same = record { at = λ kind low. get_or-map-range_with_len (orphan_copies is.doubled) 0 34 kind kind 0 low (omega arith) ∙ sym (is.at kind low) };
}

orphans_listed : (wanted : List ℕ) → IsIn wanted every_orphans → IsThirteenOrphans wanted
unfolding every_orphans
orphans_listed wanted h =
    let r = in-map-inv (λ doubled. map (orphan_copies doubled) every_kind) wanted orphan_kinds h in
    let is = is_listed r.0 r.1 in
    record {
      doubled = r.0;
      is_kind = is.0;
      doubles_orphan = is.1;
      at = λ kind low. ap (λ w. slice_index w kind) (sym r.2) ∙ get_or-map-range_with_len (orphan_copies r.0) 0 34 kind kind 0 low (omega arith);
    }

-- ---- all forms

listed_form : (melds : ℕ) (wanted : List ℕ) → HasWinningForm melds wanted → Listed (every_sets_and_pair (4 - melds) ++ every_special melds) wanted
unfolding every_special
listed_form melds wanted form = ⊎_elim by_sets (λ special. ⊎_elim (λ pairs. by_pairs melds pairs.0 pairs.1) (λ orphans. by_orphans melds orphans.0 orphans.1) special) form
  where
    by_sets : IsSetsAndPair (4 - melds) wanted → Listed (every_sets_and_pair (4 - melds) ++ every_special melds) wanted
    by_sets is = let l = listed_sets (4 - melds) wanted is in record { listed = l.listed; among = in-left l.listed (every_sets_and_pair (4 - melds)) (every_special melds) l.among; same = l.same }

    by_pairs : (melds : ℕ) → melds ≡ 0 → IsSevenPairs wanted → Listed (every_sets_and_pair (4 - melds) ++ every_special melds) wanted
    by_pairs zero none is =
        let l = listed_pairs wanted is in
        record { listed = l.listed; among = in-right l.listed (every_sets_and_pair 4) (every_seven_pairs ++ every_orphans) (in-left l.listed every_seven_pairs every_orphans l.among); same = l.same }
    by_pairs (suc melds) none is = absurd (omega arith)

    by_orphans : (melds : ℕ) → melds ≡ 0 → IsThirteenOrphans wanted → Listed (every_sets_and_pair (4 - melds) ++ every_special melds) wanted
    by_orphans zero none is =
        let l = listed_orphans wanted is in
        record { listed = l.listed; among = in-right l.listed (every_sets_and_pair 4) (every_seven_pairs ++ every_orphans) (in-right l.listed every_seven_pairs every_orphans l.among); same = l.same }
    by_orphans (suc melds) none is = absurd (omega arith)

special_listed : (melds : ℕ) (wanted : List ℕ) → IsIn wanted (every_special melds) → HasWinningForm melds wanted
unfolding every_special
special_listed zero wanted h =
    ⊎_elim (λ pairs. inr (inl (refl, pairs_listed wanted pairs))) (λ orphans. inr (inr (refl, orphans_listed wanted orphans))) (in-cases wanted every_seven_pairs every_orphans h)
special_listed (suc melds) wanted h = absurd h

form_listed : (melds : ℕ) (wanted : List ℕ) → IsIn wanted (every_sets_and_pair (4 - melds) ++ every_special melds) → HasWinningForm melds wanted
form_listed melds wanted h =
    ⊎_elim (λ sets. inl (sets_listed (4 - melds) wanted sets)) (λ special. special_listed melds wanted special) (in-cases wanted (every_sets_and_pair (4 - melds)) (every_special melds) h)

four_of : (melds : List Meld) (wanted listed : List ℕ) → SameTiles listed wanted → WithinFour melds wanted → is_within_four melds listed ≡ true
unfolding is_within_four
four_of melds wanted listed same four =
    all-from (λ kind. nat_le (slice_index listed kind + tiles melds kind) 4) every_kind (λ kind h. (let inside = (in-range-inv 34 0 kind h).1 in le-leb (slice_index listed kind + tiles melds kind) 4 (omega (arith, four.at kind inside, same.at kind inside))))

of_four : (melds : List Meld) (wanted : List ℕ) → is_within_four melds wanted ≡ true → WithinFour melds wanted
unfolding is_within_four
of_four melds wanted e = record {
  at = λ kind low. leb-true (slice_index wanted kind + tiles melds kind) 4 (all-in (λ kind. nat_le (slice_index wanted kind + tiles melds kind) 4) every_kind e kind (in-range 34 0 kind (omega arith) (omega arith)));
}

pub listed_winning : (melds : List Meld) (wanted : List ℕ) → IsWinning melds wanted → Listed (every_winning melds) wanted
unfolding every_winning
listed_winning melds wanted is =
    let l = listed_form (length melds) wanted is.form in
    record {
      listed = l.listed;
      among = in-filter (is_within_four melds) l.listed (every_sets_and_pair (4 - length melds) ++ every_special (length melds)) l.among (four_of melds wanted l.listed l.same is.within_four);
      same = l.same;
    }

pub winning_listed : (melds : List Meld) (wanted : List ℕ) → IsIn wanted (every_winning melds) → IsWinning melds wanted
unfolding every_winning
winning_listed melds wanted h =
    let r = in-filter-inv (is_within_four melds) wanted (every_sets_and_pair (4 - length melds) ++ every_special (length melds)) h in
    record { form = form_listed (length melds) wanted r.0; within_four = of_four melds wanted r.1 }

-- ---- the least

pub distance_is : (hand : List ℕ) (melds : List Meld) (n : ℕ) → IsDistance hand melds n → n ≡ distance_of hand melds
unfolding distance_of
distance_is hand melds n is =
    let l = listed_winning melds is.wanted is.is_winning in
    let among = in-map (lacking hand) l.listed (every_winning melds) l.among in
    let least_one = least_is (map (lacking hand) (every_winning melds)) (lacking hand l.listed) among in
    let back = in-map-inv (lacking hand) (least (map (lacking hand) (every_winning melds))) (every_winning melds) least_one.1 in
    omega (arith, least_one.0, lacking_same hand l.listed is.wanted l.same, is.reached, is.none_less back.0 (winning_listed melds back.0 back.1), back.2)

-- where there is a winning multiset at all, the least lack is reached
pub distance_from : (hand : List ℕ) (melds : List Meld) (wanted : List ℕ) → IsWinning melds wanted → IsDistance hand melds (distance_of hand melds)
unfolding distance_of
distance_from hand melds wanted is =
    let lacks = map (lacking hand) (every_winning melds) in
    let l = listed_winning melds wanted is in
    let least_one = least_is lacks (lacking hand l.listed) (in-map (lacking hand) l.listed (every_winning melds) l.among) in
    let back = in-map-inv (lacking hand) (least lacks) (every_winning melds) least_one.1 in
    record {
      wanted = back.0;
      is_winning = winning_listed melds back.0 back.1;
      reached = back.2;
      none_less = λ other is_other.
          (let o = listed_winning melds other is_other in
          let below = least_is (map (lacking hand) (every_winning melds)) (lacking hand o.listed) (in-map (lacking hand) o.listed (every_winning melds) o.among) in
          omega (arith, below.0, lacking_same hand o.listed other o.same));
    }
