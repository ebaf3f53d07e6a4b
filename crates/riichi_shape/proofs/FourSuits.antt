-- The join of four suit rows is the least lack over the winning multisets by sets and a pair.
use Rattle.std.proofs.Common.{◌≡◌, ℕ, ◌+◌, ◌-◌, ◌<◌, ◌≤◌, Bool, List, refl, sym, ap, ◌∙◌, ⊎_elim, subst, Option, Some, None, arith}
use Rattle.std.proofs.lemmas.Bool.{cases_lt}
use Rattle.std.proofs.lemmas.Bool.Decides.{nat_tests}
use Rattle.std.specs.Prelude.{All, slice_index, count_by, sum_by, ◌↔◌}
use Rattle.riichi_shape.specs.Lacked.{EntryLacks, StandardLacks}
use Rattle.riichi_rows.specs.Join.{EntriesSum, IsLeastJoin}
use Rattle.riichi_tiles.specs.Blocks.{total, is_pair}
use Rattle.riichi_tiles.specs.Kinds.{first_of, has_runs, kinds_of, rank_of, suit_of}
use Rattle.riichi_tiles.specs.Melds.{tiles}
use Rattle.riichi_tiles.specs.Suits.{over_suits}
use Rattle.riichi_tiles.specs.declared.suit.Suit.{Suit}
use Rattle.riichi_tiles.proofs.Suits.{all_side_by_side, but_for, but_for-own, clear_of, kinds_end, kinds_few, kinds_last, le_over, nine_suit, one_of, only_over, own_suit, same_from_sums, same_over, side_by_side, sum_side_by_side}
use Rattle.riichi_tiles.specs.declared.block.Block.{Block}
use Rattle.riichi_tiles.specs.declared.meld.Meld.{Meld}
use Rattle.riichi_rows.specs.Suit.{is_set, IsInSuit, IsChoice, lack, LackReached, IsLeastLack, IsSuitRow}
use Rattle.riichi_tiles.specs.declared.block.Block.TheVariants.{Run, Triplet, Pair}
use Rattle.riichi_shape.specs.Distance.{StandardReached, IsLeastStandard}
use Rattle.riichi_shape.specs.Suits.{IsSuitOf}
use Rattle.riichi_tiles.specs.Forms.{IsSetsAndPair}
use Rattle.riichi_shape.specs.Winning.{WithinFour, lacking}
use Rattle.riichi_shape.proofs.Counted.{AreCounted, IsOfKinds, counted, uncounted}
use Rattle.riichi_rows.proofs.Blocks.{has_pair, no_block, set_of, sum_by-none, sum_by-same_of, tiles_is_sum, tiles_of}
use Rattle.riichi_rows.proofs.Spread.{same_spread, spread, sum_range, spread_add, at_same_number, spread_shift, spread_none, table, table_at}
use Rattle.riichi_shape.proofs.BySuit.{part, tiles_part, sets_by_suit, pairs_by_suit, part_in_suit, raised, tiles_within, tiles_outside, sets_raised, pairs_raised, raised_kinds}

-- ---- a suit of a hand

pub tiles_beyond : (k : ℕ) (bs : List Block) → 34 ≤ k → All IsOfKinds bs → total bs k ≡ 0
tiles_beyond k bs h all = tiles_is_sum k bs ∙ sum_by-same_of IsOfKinds (tiles_of k) no_block block bs all ∙ sum_by-none bs
  where
    block : (b : Block) → IsOfKinds b → tiles_of k b ≡ 0
    block (Run q) kind = grind (arith, nat_tests)
    block (Triplet q) kind = grind (arith, nat_tests)
    block (Pair q) kind = grind (arith, nat_tests)

-- the lack of one suit, as a part of the whole
module _ (hand : List ℕ) (melds : List Meld) (wanted : List ℕ) (own : Suit) (counts caps : List ℕ) (suit : IsSuitOf own hand melds counts caps) (blocks : List Block)
    (in_caps : (r : ℕ) → r < 9 → total blocks r ≤ slice_index caps r) (wanted_at : (r : ℕ) → r < kinds_of own → slice_index wanted (first_of own + r) ≡ total blocks r) where
  abbrev base : ℕ
  base = first_of own

  abbrev width : ℕ
  width = kinds_of own

  nine : width ≤ 9
  nine = kinds_few own

  suit_sum : lack counts blocks ≡ spread (λ k. slice_index wanted k - slice_index hand k) base width
  suit_sum =
      let whole = sum_range (λ r. total blocks r - slice_index counts r) 0 9 in
      let split = spread_add (λ r. total blocks r - slice_index counts r) 0 width (9 - width) in
      let cut = same_spread (λ r. total blocks r - slice_index counts r) 0 0 9 (width + (9 - width)) refl (omega (arith, nine)) in
      let front = spread_shift (λ r. total blocks r - slice_index counts r) (λ k. slice_index wanted k - slice_index hand k) 0 base width at in
      let back = spread_none (λ r. total blocks r - slice_index counts r) (0 + width) (9 - width) past in
      whole ∙ cut ∙ split ∙ omega (arith, front, back)
    where
      sub_same : (a b c d : ℕ) → a ≡ b → c ≡ d → a - c ≡ b - d
      sub_same a b c d e e' = cc

      at : (r : ℕ) → r < width → total blocks (0 + r) - slice_index counts (0 + r) ≡ slice_index wanted (base + r) - slice_index hand (base + r)
      at r h =
          at_same_number (λ r. total blocks r - slice_index counts r) (0 + r) r (omega arith)
          ∙ sub_same (total blocks r) (slice_index wanted (base + r)) (slice_index counts r) (slice_index hand (base + r)) (sym (wanted_at r h)) (suit.counts_at r h)

      past : (r : ℕ) → 0 + width ≤ r → r < 0 + width + (9 - width) → total blocks r - slice_index counts r ≡ 0
      past r low high = omega (arith, in_caps r (omega (arith, nine, high)), suit.are_caps.none_past r (omega (arith, low)))

-- ---- the entries of a row

row_below : (runs : Bool) (counts caps : List ℕ) (row : ℕ → ℕ → Option ℕ) → IsSuitRow runs counts caps row → (s p : ℕ) → s ≤ 4 → p ≤ 1 → (bs : List Block) → IsChoice runs caps s p bs → (l : ℕ) × (row s p ≡ Some l) × (l ≤ lack counts bs)
row_below runs counts caps row is s p hs hp bs choice = by_value (row s p) refl
  where
    by_value : (o : Option ℕ) → row s p ≡ o → (l : ℕ) × (row s p ≡ Some l) × (l ≤ lack counts bs)
    by_value (Some l) e = let least = subst (λ (o : Option ℕ). IsLeastLack runs counts caps s p o) e (is.entry s p hs hp) in (l, e, least.1.bound bs choice)
    by_value None e = let least = subst (λ (o : Option ℕ). IsLeastLack runs counts caps s p o) e (is.entry s p hs hp) in absurd (least bs choice)

row_chosen : (runs : Bool) (counts caps : List ℕ) (row : ℕ → ℕ → Option ℕ) → IsSuitRow runs counts caps row → (s p l : ℕ) → s ≤ 4 → p ≤ 1 → row s p ≡ Some l → LackReached runs counts caps s p l
row_chosen runs counts caps row is s p l hs hp e = (subst (λ (o : Option ℕ). IsLeastLack runs counts caps s p o) e (is.entry s p hs hp)).0

-- ---- one suit of a winning multiset

-- what one suit gives to a winning multiset: a choice of its blocks, what that lacks, and the entry of the suit's row
record PartOf (runs : Bool) (base width : ℕ) (hand wanted counts caps : List ℕ) (row : ℕ → ℕ → Option ℕ) (blocks : List Block) : Type 0 where
  pub choice : IsChoice runs caps (count_by is_set blocks) (count_by is_pair blocks) blocks
  pub lacks : lack counts blocks ≡ spread (λ k. slice_index wanted k - slice_index hand k) base width
  pub entry : ℕ
  pub is_entry : row (count_by is_set blocks) (count_by is_pair blocks) ≡ Some entry
  pub below : entry ≤ lack counts blocks

module _ (hand : List ℕ) (melds : List Meld) (wanted : List ℕ) (sets : ℕ) (is : AreCounted sets wanted) (four : WithinFour melds wanted) (own : Suit) (counts caps : List ℕ) (suit : IsSuitOf own hand melds counts caps) where
  abbrev suit_blocks : List Block
  suit_blocks = part (first_of own) is.blocks

  suit_tiles : (r : ℕ) → r < 9 → total suit_blocks r ≡ total is.blocks (first_of own + r)
  suit_tiles r h = tiles_part own r is.blocks h is.of_kinds

  suit_choice : IsChoice (has_runs own) caps (count_by is_set suit_blocks) (count_by is_pair suit_blocks) suit_blocks
  suit_choice = record {
    in_suit = part_in_suit own is.blocks is.of_kinds;
    has_sets = refl;
    has_pairs = refl;
    in_caps = capped_at;
  }
    where
      capped_at : (r : ℕ) → r < 9 → total suit_blocks r ≤ slice_index caps r
      capped_at r h = ⊎_elim within past (cases_lt r (kinds_of own))
        where
          within : r < kinds_of own → total suit_blocks r ≤ slice_index caps r
          within low = omega (arith, kinds_end own, suit_tiles r h, is.adds_up (first_of own + r) (omega (arith, kinds_end own)), four.at (first_of own + r) (omega (arith, kinds_end own)), suit.are_caps.caps_at r low)

          past : kinds_of own ≤ r → total suit_blocks r ≤ slice_index caps r
          past high = omega (arith, suit_tiles r h, tiles_beyond (first_of own + r) is.blocks (⊎_elim (λ e. absurd (omega (arith, e))) (λ e. omega (arith, e)) (kinds_last own)) is.of_kinds)

  suit_part : (row : ℕ → ℕ → Option ℕ) → IsSuitRow (has_runs own) counts caps row → count_by is_set suit_blocks ≤ 4 → count_by is_pair suit_blocks ≤ 1 → PartOf (has_runs own) (first_of own) (kinds_of own) hand wanted counts caps row suit_blocks
  suit_part row is_row few_sets few_pairs =
      let entry = row_below (has_runs own) counts caps row is_row (count_by is_set suit_blocks) (count_by is_pair suit_blocks) few_sets few_pairs suit_blocks suit_choice in
      record {
        choice = suit_choice;
        lacks = suit_sum hand melds wanted own counts caps suit suit_blocks suit_choice.in_caps
            (λ r h. omega (arith, suit_tiles r (omega (arith, kinds_few own)), is.adds_up (first_of own + r) (omega (arith, kinds_end own))));
        entry = entry.0;
        is_entry = entry.1;
        below = entry.2;
      }

lacking_by_suit : (hand wanted : List ℕ) → (let f = λ (k : ℕ). slice_index wanted k - slice_index hand k in lacking hand wanted ≡ over_suits (λ suit. spread f (first_of suit) (kinds_of suit)))
lacking_by_suit hand wanted =
    let f : ℕ → ℕ = λ k. slice_index wanted k - slice_index hand k in
    omega (arith, sum_range f 0 34, spread_add f 0 9 25, spread_add f 9 9 16, spread_add f 18 9 7)

-- the blocks of four suits together
module _ (blocks : Suit → List Block) (in_suit : (suit : Suit) → All (IsInSuit (has_runs suit)) (blocks suit)) where
  abbrev at_suit : Suit → List Block
  at_suit suit = raised (first_of suit) (blocks suit)

  abbrev together : List Block
  together = side_by_side at_suit

  tiles_at : (suit : Suit) (r : ℕ) → r < 9 → total together (first_of suit + r) ≡ total (blocks suit) r
  tiles_at suit r h =
      let k = first_of suit + r in
      let own = nine_suit suit k (omega arith) (omega arith) in
      tiles_is_sum k together ∙ sum_side_by_side (tiles_of k) at_suit
      ∙ only_over (λ other. sum_by (tiles_of k) (at_suit other)) suit (λ other ne. sym (tiles_is_sum k (at_suit other)) ∙ tiles_outside (has_runs other) (first_of other) k (blocks other) (clear_of other k (λ e. ne (e ∙ own))) (in_suit other))
      ∙ sym (tiles_is_sum k (at_suit suit)) ∙ tiles_within (has_runs suit) (first_of suit) r (blocks suit) h (in_suit suit)

  kinds_together : ((suit : Suit) (r : ℕ) → kinds_of suit ≤ r → r < 9 → total (blocks suit) r ≡ 0) → All IsOfKinds together
  kinds_together none = all_side_by_side IsOfKinds at_suit (λ suit. raised_kinds suit (blocks suit) (none suit) (in_suit suit))

module _ (hand : List ℕ) (melds : List Meld) (counts caps : Suit → List ℕ) (suits : (suit : Suit) → IsSuitOf suit hand melds (counts suit) (caps suit))
    (rows : Suit → ℕ → ℕ → Option ℕ) (are : (suit : Suit) → IsSuitRow (has_runs suit) (counts suit) (caps suit) (rows suit))
    (sets : ℕ) (few : sets ≤ 4) (melds_few : (k : ℕ) → k < 34 → tiles melds k ≤ 4) where
  -- ---- a winning multiset gives four entries

  module _ (wanted : List ℕ) (is : AreCounted sets wanted) (four : WithinFour melds wanted) where
    abbrev blocks_of : Suit → List Block
    blocks_of suit = part (first_of suit) is.blocks

    sets_split : over_suits (λ suit. count_by is_set (blocks_of suit)) ≡ sets
    sets_split = sets_by_suit is.blocks is.of_kinds ∙ is.has_sets

    pairs_split : over_suits (λ suit. count_by is_pair (blocks_of suit)) ≡ 1
    pairs_split = pairs_by_suit is.blocks is.of_kinds ∙ is.has_pair

    part_of : (suit : Suit) → PartOf (has_runs suit) (first_of suit) (kinds_of suit) hand wanted (counts suit) (caps suit) (rows suit) (blocks_of suit)
    part_of suit =
        suit_part hand melds wanted sets is four suit (counts suit) (caps suit) (suits suit) (rows suit) (are suit)
        (omega (arith, one_of (λ s. count_by is_set (blocks_of s)) suit, sets_split)) (omega (arith, one_of (λ s. count_by is_pair (blocks_of s)) suit, pairs_split))

    abbrev all_entries : ℕ
    all_entries = over_suits (λ suit. (part_of suit).entry)

    entries_of : (n : ℕ) → all_entries ≡ n → EntriesSum rows sets n
    entries_of n total = record {
      sets_of = λ suit. count_by is_set (blocks_of suit);
      pairs_of = λ suit. count_by is_pair (blocks_of suit);
      lack_of = λ suit. (part_of suit).entry;
      has_sets = sets_split;
      has_pair = pairs_split;
      entry = λ suit. (part_of suit).is_entry;
      total = total;
    }

    all_lacks : lacking hand wanted ≡ over_suits (λ suit. lack (counts suit) (blocks_of suit))
    all_lacks = lacking_by_suit hand wanted ∙ sym (same_over (λ suit. lack (counts suit) (blocks_of suit)) (λ suit. spread (λ k. slice_index wanted k - slice_index hand k) (first_of suit) (kinds_of suit)) (λ suit. (part_of suit).lacks))

    sum_below : all_entries ≤ lacking hand wanted
    sum_below = omega (arith, all_lacks, le_over (λ suit. (part_of suit).entry) (λ suit. lack (counts suit) (blocks_of suit)) (λ suit. (part_of suit).below))

    -- where the multiset lacks least, so does each suit's part of it
    module _ (n x : ℕ) (inside : x < 34) (least : IsLeastJoin rows sets (Some n)) (lacks : lacking hand wanted ≡ n) (lacks_kind : slice_index hand x < slice_index wanted x) where
      sum_least : n ≤ all_entries
      sum_least = least.1 all_entries (entries_of all_entries refl)

      abbrev own : Suit
      own = suit_of x

      place : first_of own + rank_of x ≡ x
      place = omega (arith, (own_suit x inside).low)

      here : rank_of x < kinds_of own
      here = omega (arith, (own_suit x inside).low, (own_suit x inside).high)

      entry_lacks : EntryLacks rows counts caps sets n x
      unfolding entries_of
      entry_lacks =
          let exact = same_from_sums (λ suit. (part_of suit).entry) (λ suit. lack (counts suit) (blocks_of suit)) (λ suit. (part_of suit).below) (omega (arith, all_lacks, sum_least, lacks)) own in
          let tiles = tiles_part own (rank_of x) is.blocks (omega (arith, here, kinds_few own)) is.of_kinds in
          record {
            entries = entries_of n (omega (arith, sum_least, sum_below, lacks));
            lacks_kind = record {
              blocks = blocks_of own;
              is_choice = (part_of own).choice;
              lacks = exact;
              lacks_rank = omega (arith, tiles, (suits own).counts_at (rank_of x) here, is.adds_up x inside, lacks_kind, ap (total is.blocks) place, ap (slice_index hand) place);
            };
          }

  -- ---- four choices make a winning multiset

  abbrev Chosen : (n : ℕ) → EntriesSum rows sets n → Suit → Type 0
  Chosen n e suit = LackReached (has_runs suit) (counts suit) (caps suit) (e.sets_of suit) (e.pairs_of suit) (e.lack_of suit)

  reached : (n : ℕ) (e : EntriesSum rows sets n) (suit : Suit) → Chosen n e suit
  reached n e suit =
      row_chosen (has_runs suit) (counts suit) (caps suit) (rows suit) (are suit) (e.sets_of suit) (e.pairs_of suit) (e.lack_of suit)
      (omega (arith, one_of e.sets_of suit, e.has_sets)) (omega (arith, one_of e.pairs_of suit, e.has_pair)) (e.entry suit)

  module _ (n : ℕ) (e : EntriesSum rows sets n) (chosen_of : (suit : Suit) → Chosen n e suit) where
    abbrev blocks_at : Suit → List Block
    blocks_at suit = (chosen_of suit).blocks

    in_suit_at : (suit : Suit) → All (IsInSuit (has_runs suit)) (blocks_at suit)
    in_suit_at suit = (chosen_of suit).is_choice.in_suit

    abbrev chosen_blocks : List Block
    chosen_blocks = together blocks_at in_suit_at

    chosen_wanted : List ℕ
    chosen_wanted = table (total chosen_blocks) 0 34

    wanted_is : (k : ℕ) → k < 34 → slice_index chosen_wanted k ≡ total chosen_blocks k
    unfolding chosen_wanted
    wanted_is k h = table_at (total chosen_blocks) 0 34 k h ∙ at_same_number (total chosen_blocks) (0 + k) k (omega arith)

    wanted_at : (suit : Suit) (r : ℕ) → r < kinds_of suit → slice_index chosen_wanted (first_of suit + r) ≡ total (blocks_at suit) r
    wanted_at suit r h = wanted_is (first_of suit + r) (omega (arith, kinds_end suit)) ∙ tiles_at blocks_at in_suit_at suit r (omega (arith, kinds_few suit))

    chosen_sets_and_pair : IsSetsAndPair sets chosen_wanted
    chosen_sets_and_pair = uncounted sets chosen_wanted (record {
      blocks = chosen_blocks;
      of_kinds = kinds_together blocks_at in_suit_at (λ suit r high low. omega (arith, (chosen_of suit).is_choice.in_caps r low, (suits suit).are_caps.none_past r high));
      has_sets = sum_side_by_side set_of (at_suit blocks_at in_suit_at) ∙ same_over _ e.sets_of (λ suit. sets_raised (first_of suit) (blocks_at suit) ∙ (chosen_of suit).is_choice.has_sets) ∙ e.has_sets;
      has_pair = sum_side_by_side has_pair (at_suit blocks_at in_suit_at) ∙ same_over _ e.pairs_of (λ suit. pairs_raised (first_of suit) (blocks_at suit) ∙ (chosen_of suit).is_choice.has_pairs) ∙ e.has_pair;
      adds_up = wanted_is;
    })

    chosen_within : (k : ℕ) → k < 34 → slice_index chosen_wanted k + tiles melds k ≤ 4
    chosen_within k h =
        let suit = suit_of k in
        let is = own_suit k h in
        let place = at_same_number (slice_index chosen_wanted) k (first_of suit + (k - first_of suit)) (omega (arith, is.low)) in
        let meld_place = at_same_number (tiles melds) k (first_of suit + (k - first_of suit)) (omega (arith, is.low)) in
        let low : k - first_of suit < kinds_of suit = omega (arith, is.low, is.high) in
        omega (arith, place, meld_place, wanted_at suit (k - first_of suit) low, (chosen_of suit).is_choice.in_caps (k - first_of suit) (omega (arith, low, kinds_few suit)), (suits suit).are_caps.caps_at (k - first_of suit) low, melds_few k h)

    chosen : StandardReached hand melds sets n
    chosen = record {
      wanted = chosen_wanted;
      sets_and_pair = chosen_sets_and_pair;
      within_four = record { at = chosen_within };
      lacks = lacking_by_suit hand chosen_wanted
          ∙ same_over _ e.lack_of (λ suit. sym (suit_sum hand melds chosen_wanted suit (counts suit) (caps suit) (suits suit) (blocks_at suit) (chosen_of suit).is_choice.in_caps (wanted_at suit)) ∙ (chosen_of suit).lacks)
          ∙ e.total;
    }

    lacks_at : (x : ℕ) → x < 34 → (let suit = suit_of x in slice_index (counts suit) (rank_of x) < total (blocks_at suit) (rank_of x)) → StandardLacks hand melds sets n x
    unfolding chosen
    lacks_at x inside more =
        let suit = suit_of x in
        let is = own_suit x inside in
        let place : x ≡ first_of suit + rank_of x = omega (arith, is.low) in
        let low : rank_of x < kinds_of suit = omega (arith, is.low, is.high) in
        record {
          wanted = chosen.wanted;
          is_form = chosen.sets_and_pair;
          within_four = chosen.within_four;
          lacks = chosen.lacks;
          lacks_kind = omega (arith, wanted_at suit (rank_of x) low, (suits suit).counts_at (rank_of x) low, more, ap (slice_index hand) place, ap (slice_index chosen_wanted) place);
        }

  -- the join of the rows is the least lack
  pub standard_least : (o : Option ℕ) → IsLeastJoin rows sets o → IsLeastStandard hand melds sets o
  standard_least (Some n) join = (
    chosen n join.0 (reached n join.0),
    λ wanted is four. (let below = sum_below wanted (counted sets wanted is) four in let least = join.1 _ (entries_of wanted (counted sets wanted is) four _ refl) in omega (arith, below, least)),
  )
  standard_least None join = λ wanted is four. join _ (entries_of wanted (counted sets wanted is) four _ refl)

  -- a kind is lacked by some least winning multiset exactly where a least choice of its suit lacks it, in some least join
  pub join_lacks : (n : ℕ) → IsLeastJoin rows sets (Some n) → (x : ℕ) → x < 34 → StandardLacks hand melds sets n x ↔ EntryLacks rows counts caps sets n x
  join_lacks n join x inside = (λ w. entry_lacks w.wanted (counted sets w.wanted w.is_form) w.within_four n x inside join w.lacks w.lacks_kind, back)
    where
      back : EntryLacks rows counts caps sets n x → StandardLacks hand melds sets n x
      back k =
          let e = k.entries in
          let own = suit_of x in
          let mine : Chosen n e own = record { blocks = k.lacks_kind.blocks; is_choice = k.lacks_kind.is_choice; lacks = k.lacks_kind.lacks } in
          let each = but_for (Chosen n e) (reached n e) own mine in
          lacks_at n e each x inside
          (subst (λ (c : Chosen n e own). slice_index (counts own) (rank_of x) < total c.blocks (rank_of x)) (sym (but_for-own (Chosen n e) (reached n e) own mine)) k.lacks_kind.lacks_rank)

  -- where no sets and a pair lack fewer than n, no four entries sum to less
  module _ (n : ℕ) (none_less : (wanted : List ℕ) → IsSetsAndPair sets wanted → WithinFour melds wanted → n ≤ lacking hand wanted) where
    sums_bound : (m : ℕ) → EntriesSum rows sets m → n ≤ m
    sums_bound m e =
        let w = chosen m e (reached m e) in
        omega (arith, none_less w.wanted w.sets_and_pair w.within_four, w.lacks)

    lacks_by_entries : (x : ℕ) → x < 34 → StandardLacks hand melds sets n x ↔ EntryLacks rows counts caps sets n x
    lacks_by_entries x inside = (
      λ w. (join_lacks n (join_of w.wanted (counted sets w.wanted w.is_form) w.within_four w.lacks) x inside).0 w,
      λ k. (join_lacks n (k.entries, sums_bound) x inside).1 k,
    )
      where
        join_of : (wanted : List ℕ) (is : AreCounted sets wanted) (four : WithinFour melds wanted) → lacking hand wanted ≡ n → IsLeastJoin rows sets (Some n)
        join_of wanted is four lacks =
            let below = sum_below wanted is four in
            let least = sums_bound _ (entries_of wanted is four _ refl) in
            (entries_of wanted is four n (omega (arith, below, least, lacks)), sums_bound)

    pub entries_laws : ((m : ℕ) → EntriesSum rows sets m → n ≤ m) × ((x : ℕ) → x < 34 → StandardLacks hand melds sets n x ↔ EntryLacks rows counts caps sets n x)
    entries_laws = (sums_bound, lacks_by_entries)
