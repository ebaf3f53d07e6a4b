-- What stands after a call: how many tiles, and how many copies of each kind.
use Rattle.std.proofs.Common.{◌≡◌, ℕ, suc, ◌+◌, ◌-◌, ◌<◌, ◌≤◌, Bool, true, false, cond, eqb, List, [], ◌∷◌, ◌++◌, length, Option, Some, None, Result, Ok, length-set, refl, sym, ap, ◌∙◌, ⊎_elim, arith}
use Rattle.std.proofs.lemmas.Bool.{and_from, cases_eq, cases_lt, leb-true, le-leb}
use Rattle.std.proofs.lemmas.Bool.Decides.{nat_tests}
use Rattle.std.proofs.lemmas.List.{ext_get_or, get_or_past}
use Rattle.std.proofs.lemmas.List.FromFn.{get_or-map-range_with_len, length-map-range_with_len}
use Rattle.std.specs.List.{list_all, sum}
use Rattle.std.specs.Prelude.{nat_le, slice_index, sum_by, if◌then◌else◌}
use Rattle.riichi_hand.specs.declared.fault.LineFault.{LineFault}
use Rattle.riichi_hand.specs.Hand.{IsShape, copies_with, is_thirteen, shape_of, size}
use Rattle.riichi_hand.specs.HandParts.{ShapeParts}
use Rattle.riichi_tiles.specs.Blocks.{copies}
use Rattle.riichi_tiles.specs.Melds.{every_kind, is_meld, tiles, tiles_of}
use Rattle.riichi_tiles.specs.declared.block.Block.TheVariants.{Run, Triplet}
use Rattle.riichi_tiles.specs.declared.meld.Meld.{Meld}
use Rattle.riichi_tiles.specs.declared.meld.Meld.TheVariants.{Chi, Pon, Kan, Ankan}
use Rattle.riichi_tiles.proofs.KindSums.{one, over-kinds, same-in, sum-run, sum-triplet, tiles-by-kind}
use Rattle.riichi_tiles.proofs.Members.{all-from, all-in, in-range, in-range-inv}
use Rattle.riichi_rows.proofs.Spread.{spread_none, spread_with, sum_range}
use Rattle.riichi_shape.specs.Accepted.{with_one}
use Rattle.riichi_shape.proofs.ShapeFacts.{copies_few}
use Rattle.riichi_deeper.specs.Calls.{has_meld, laid_down, parts_after}
use Rattle.riichi_deeper.specs.CallLaws.{CanCall}
use Rattle.riichi_deeper.proofs.DrawnLemmas.{more_here, more_other, shape_fourteen, shape_thirteen, size_with, thirteen_is}

-- ---- the tiles that are laid down, and those that are left

pub left_at : (held : List ℕ) (meld : Meld) (kind : ℕ) → kind < 34 → slice_index (laid_down held meld) kind ≡ slice_index held kind - tiles_of meld kind
unfolding laid_down
left_at held meld kind low = get_or-map-range_with_len (λ k. slice_index held k - tiles_of meld k) 0 34 kind kind 0 low (omega arith)

pub left_long : (held : List ℕ) (meld : Meld) → length (laid_down held meld) ≡ 34
unfolding laid_down
left_long held meld = length-map-range_with_len (λ k. slice_index held k - tiles_of meld k) 0 34

pub left_is : (left held : List ℕ) (meld : Meld) → length left ≡ 34 → ((kind : ℕ) → kind < 34 → slice_index left kind ≡ slice_index held kind - tiles_of meld kind) → left ≡ laid_down held meld
left_is left held meld long each = ext_get_or 0 left (laid_down held meld) (long ∙ sym (left_long held meld)) (λ kind low. each kind (omega (arith, long)) ∙ sym (left_at held meld kind (omega (arith, long))))

pub has_each : (held : List ℕ) (meld : Meld) → has_meld held meld ≡ true → (kind : ℕ) → kind < 34 → tiles_of meld kind ≤ slice_index held kind
unfolding has_meld
has_each held meld has kind low = leb-true (tiles_of meld kind) (slice_index held kind) (all-in (λ k. nat_le (tiles_of meld k) (slice_index held k)) every_kind has kind (in-range 34 0 kind (omega arith) (omega (arith, low))))

pub has_all : (held : List ℕ) (meld : Meld) → ((kind : ℕ) → kind < 34 → tiles_of meld kind ≤ slice_index held kind) → has_meld held meld ≡ true
unfolding has_meld
has_all held meld each = all-from (λ k. nat_le (tiles_of meld k) (slice_index held k)) every_kind (λ k i. le-leb (tiles_of meld k) (slice_index held k) (each k (omega (arith, (in-range-inv 34 0 k i).1))))

pub lacks_one : (held : List ℕ) (meld : Meld) (kind : ℕ) → kind < 34 → slice_index held kind < tiles_of meld kind → has_meld held meld ≡ false
lacks_one held meld kind low short = by_test (has_meld held meld) refl
  where
    by_test : (t : Bool) → has_meld held meld ≡ t → has_meld held meld ≡ false
    by_test false e = e
    by_test true e = absurd (omega (arith, has_each held meld e kind low, short))

pub few_all : (counts : List ℕ) → ((kind : ℕ) → slice_index counts kind ≤ 4) → list_all (λ count. nat_le count 4) counts ≡ true
few_all [] few = refl
few_all (count ∷ counts) few = and_from (nat_le count 4) (list_all (λ count. nat_le count 4) counts) (le-leb count 4 (few 0)) (few_all counts (λ kind. few (suc kind)))

-- ---- how many tiles a meld has

pub chi_as_run : (low k : ℕ) → tiles_of (Chi low) k ≡ copies (Run low) k
chi_as_run low k = grind (arith, nat_tests)

pub pon_as_triplet : (held k : ℕ) → tiles_of (Pon held) k ≡ copies (Triplet held) k
pon_as_triplet held k = grind (arith, nat_tests)

kan_as_four : (held k : ℕ) → tiles_of (Kan held) k ≡ copies (Triplet held) k + one held k
kan_as_four held k = grind (arith, nat_tests)

one_kind : (kind : ℕ) → kind < 34 → sum_by (one kind) every_kind ≡ 1
one_kind kind low =
    sum_range (one kind) 0 34 ∙ spread_with (one kind) (λ k. 0) (λ k. 1) kind (λ k. zero_more (one kind k)) 0 34 (omega arith) (omega (arith, low)) ∙ ap (λ n. n + 1) (spread_none (λ k. 0) 0 34 (λ k l h. refl))
  where
    zero_more : (n : ℕ) → n ≡ 0 + n
    zero_more n = omega arith

abbrev of_kinds : (ℕ → ℕ) → ℕ
of_kinds f = sum_by f every_kind

-- so many tiles are laid down
abbrev pub meld_size : Meld → ℕ
meld_size (Chi low) = 3
meld_size (Pon held) = 3
meld_size (Kan held) = 4
meld_size (Ankan held) = 4

pub run_in : (low : ℕ) → is_meld (Chi low) ≡ true → low < 27
run_in low proper = grind (arith, nat_tests)

pub held_in : (held tile n : ℕ) → tile < 34 → 0 < cond (eqb held tile) n 0 → held < 34
held_in held tile n low has = grind (arith, nat_tests)

pub meld_tiles : (meld : Meld) (tile : ℕ) → is_meld meld ≡ true → tile < 34 → 0 < tiles_of meld tile → of_kinds (tiles_of meld) ≡ meld_size meld
meld_tiles (Chi low) tile proper inside has =
    let small = run_in low proper in
    omega (arith, same-in (tiles_of (Chi low)) (copies (Run low)) every_kind (λ k i. chi_as_run low k), sum-run of_kinds over-kinds low, one_kind low (omega (arith, small)), one_kind (low + 1) (omega (arith, small)), one_kind (low + 2) (omega (arith, small)))
meld_tiles (Pon held) tile proper inside has =
    let low = held_in held tile 3 inside has in omega (arith, same-in (tiles_of (Pon held)) (copies (Triplet held)) every_kind (λ k i. pon_as_triplet held k), sum-triplet of_kinds over-kinds held, one_kind held low)
meld_tiles (Kan held) tile proper inside has = four held (held_in held tile 4 inside has)
  where
    four : (held : ℕ) → held < 34 → of_kinds (tiles_of (Kan held)) ≡ 4
    four held low = omega (arith, same-in (tiles_of (Kan held)) (λ k. copies (Triplet held) k + one held k) every_kind (λ k i. kan_as_four held k), over-kinds.add (copies (Triplet held)) (one held), sum-triplet of_kinds over-kinds held, one_kind held low)
meld_tiles (Ankan held) tile proper inside has = four held (held_in held tile 4 inside has)
  where
    four : (held : ℕ) → held < 34 → of_kinds (tiles_of (Kan held)) ≡ 4
    four held low = omega (arith, same-in (tiles_of (Kan held)) (λ k. copies (Triplet held) k + one held k) every_kind (λ k i. kan_as_four held k), over-kinds.add (copies (Triplet held)) (one held), sum-triplet of_kinds over-kinds held, one_kind held low)

-- ---- one meld more

pub melds_with : (melds : List Meld) (meld : Meld) (kind : ℕ) → tiles (melds ++ meld ∷ []) kind ≡ tiles melds kind + tiles_of meld kind
melds_with [] meld kind = omega arith
melds_with (first ∷ melds) meld kind = omega (arith, melds_with melds meld kind)

pub count_with : (melds : List Meld) (meld : Meld) → length (melds ++ meld ∷ []) ≡ length melds + 1
count_with [] meld = refl
count_with (first ∷ melds) meld = omega (arith, count_with melds meld)

-- ---- a hand after a call

module _ (parts : ShapeParts) (tile : ℕ) (meld : Meld) (can : CanCall parts tile meld) where
  abbrev more : List ℕ
  more = with_one parts.tiles tile

  more_long : length more ≡ 34
  more_long = more_length parts.tiles tile ∙ can.each_kind
    where
      more_length : (counts : List ℕ) (kind : ℕ) → length (with_one counts kind) ≡ length counts
      more_length counts kind = simp length-set

  -- the tiles that are left and those laid down are the hand with the tile
  whole : sum more ≡ sum (laid_down more meld) + of_kinds (tiles_of meld)
  whole =
      let all = same-in (slice_index more) (λ k. slice_index (laid_down more meld) k + tiles_of meld k) every_kind (λ k i. both k (omega (arith, (in-range-inv 34 0 k i).1))) in
      omega (arith, all, over-kinds.add (slice_index (laid_down more meld)) (tiles_of meld), tiles-by-kind more more_long, tiles-by-kind (laid_down more meld) (left_long more meld))
    where
      both : (k : ℕ) → k < 34 → slice_index more k ≡ slice_index (laid_down more meld) k + tiles_of meld k
      both k low = omega (arith, left_at more meld k low, has_each more meld can.held k low)

  sized : size more parts.melds ≡ 14
  sized = omega (arith, size_with parts.tiles parts.melds tile (omega (arith, can.each_kind, can.is_kind)), thirteen_is parts.tiles parts.melds can.thirteen)

  laid : of_kinds (tiles_of meld) ≡ meld_size meld
  laid = meld_tiles meld tile can.proper can.is_kind can.has_tile

  three_or_four : (m : Meld) → 3 ≤ meld_size m
  three_or_four (Chi low) = omega arith
  three_or_four (Pon held) = omega arith
  three_or_four (Kan held) = omega arith
  three_or_four (Ankan held) = omega arith

  pub room : length parts.melds < 4
  room = omega (arith, sized, whole, laid, three_or_four meld)

  pub size_after : size (laid_down more meld) (parts.melds ++ meld ∷ []) + meld_size meld ≡ 17
  size_after = omega (arith, sized, whole, laid, count_with parts.melds meld)

  pub few_after : (kind : ℕ) → kind < 34 → copies_with (parts_after parts tile meld) kind ≤ 4
  few_after kind low = omega (arith, left_at more meld kind low, has_each more meld can.held kind low, melds_with parts.melds meld kind, few_more)
    where
      few_more : slice_index more kind + tiles parts.melds kind + slice_index parts.seen kind ≤ 4
      few_more = ⊎_elim at_tile (λ ne. omega (arith, more_other parts.tiles tile kind ne, copies_few parts can.is_shape kind low)) (cases_eq kind tile)
        where
          at_tile : kind ≡ tile → slice_index more kind + tiles parts.melds kind + slice_index parts.seen kind ≤ 4
          at_tile same = omega (arith, ap (λ k. slice_index more k + tiles parts.melds k + slice_index parts.seen k) same, more_here parts.tiles tile (omega (arith, can.each_kind, can.is_kind)), can.left)

  pub after_is : shape_of (parts_after parts tile meld) ≡ Ok (parts_after parts tile meld)
  after_is = by_size (meld_size meld) refl (three_or_four meld) (four_at_most meld)
    where
      four_at_most : (m : Meld) → meld_size m ≤ 4
      four_at_most (Chi low) = omega arith
      four_at_most (Pon held) = omega arith
      four_at_most (Kan held) = omega arith
      four_at_most (Ankan held) = omega arith

      by_size : (n : ℕ) → meld_size meld ≡ n → 3 ≤ n → n ≤ 4 → shape_of (parts_after parts tile meld) ≡ Ok (parts_after parts tile meld)
      by_size n e low high = ⊎_elim (λ three. shape_fourteen (parts_after parts tile meld) (omega (arith, size_after, e, three, low)) few_after) (λ four. shape_thirteen (parts_after parts tile meld) (omega (arith, size_after, e, four, high)) few_after) (cases_lt n 4)

-- ---- what the program lays down

pub laid_all : (held left : List ℕ) (meld : Meld) → ((kind : ℕ) → slice_index held kind ≤ 4) → length left ≡ 34 → ((kind : ℕ) → kind < 34 → (slice_index left kind ≡ slice_index held kind - tiles_of meld kind) × (tiles_of meld kind ≤ slice_index held kind))
    → (if list_all (λ count. nat_le count 4) left then Some left else None) ≡ (if has_meld held meld then Some (laid_down held meld) else None)
laid_all held left meld few long each =
    ap (λ t. if t then Some left else None) (few_all left few_left) ∙ ap Some (left_is left held meld long (λ kind low. (each kind low).0))
    ∙ sym (ap (λ t. if t then Some (laid_down held meld) else None) (has_all held meld (λ kind low. (each kind low).1)))
  where
    few_left : (kind : ℕ) → slice_index left kind ≤ 4
    few_left kind = ⊎_elim (λ low. (let e = (each kind low).0 in omega (arith, e, few kind))) (λ past. omega (arith, get_or_past left kind 0 (omega (arith, long, past)))) (cases_lt kind 34)

none_chosen : {X : Type 0} (t : Bool) (x : X) → t ≡ false → None ≡ (if t then Some x else None)
none_chosen true x e = absurd (cc)
none_chosen false x e = refl

some_chosen : {X : Type 0} (t : Bool) (x : X) → t ≡ true → Some x ≡ (if t then Some x else None)
some_chosen true x e = refl
some_chosen false x e = absurd (cc)

chosen_none : {X : Type 0} (t : Bool) (x : X) → None ≡ (if t then Some x else None) → t ≡ false
chosen_none true x e = absurd (cc)
chosen_none false x e = refl

chosen_some : {X : Type 0} (t : Bool) (x y : X) → Some y ≡ (if t then Some x else None) → (t ≡ true) × (y ≡ x)
chosen_some true x y e = (refl, cc)
chosen_some false x y e = absurd (cc)

pub laid_none : (held : List ℕ) (meld : Meld) (kind : ℕ) → kind < 34 → slice_index held kind < tiles_of meld kind → None ≡ (if has_meld held meld then Some (laid_down held meld) else None)
laid_none held meld kind low short = none_chosen (has_meld held meld) (laid_down held meld) (lacks_one held meld kind low short)

module _ (parts : ShapeParts) (is : IsShape parts) (tile : ℕ) (inside : tile < 34) (meld : Meld) (tiles more : List ℕ) (tiles_is : tiles ≡ parts.tiles) (more_is : more ≡ with_one tiles tile) (long : length more ≡ 34)
    (thirteen : is_thirteen parts.tiles parts.melds ≡ true) (copy_left : copies_with parts tile < 4) (proper : is_meld meld ≡ true) (has_it : 0 < tiles_of meld tile) where
  drawn_is : more ≡ with_one parts.tiles tile
  drawn_is = more_is ∙ ap (λ (counts : List ℕ). with_one counts tile) tiles_is

  parts_long : length parts.tiles ≡ 34
  parts_long = ap length (sym tiles_is) ∙ sym (length-set tiles tile (slice_index tiles tile + 1)) ∙ ap length (sym more_is) ∙ long

  abbrev pub after_or_none : Option ShapeParts
  after_or_none = if has_meld (with_one parts.tiles tile) meld then Some (parts_after parts tile meld) else None

  pub call_none : None ≡ (if has_meld more meld then Some (laid_down more meld) else None) → None ≡ after_or_none
  call_none e = none_chosen (has_meld (with_one parts.tiles tile) meld) (parts_after parts tile meld) (ap (λ (counts : List ℕ). has_meld counts meld) (sym drawn_is) ∙ chosen_none (has_meld more meld) (laid_down more meld) e)

  module _ (left : List ℕ) (some : Some left ≡ (if has_meld more meld then Some (laid_down more meld) else None)) where
    holds : has_meld (with_one parts.tiles tile) meld ≡ true
    holds = ap (λ (counts : List ℕ). has_meld counts meld) (sym drawn_is) ∙ (chosen_some (has_meld more meld) (laid_down more meld) left some).0

    left_after : left ≡ laid_down (with_one parts.tiles tile) meld
    left_after = (chosen_some (has_meld more meld) (laid_down more meld) left some).1 ∙ ap (λ (counts : List ℕ). laid_down counts meld) drawn_is

    pub can_call : CanCall parts tile meld
    can_call = record { each_kind = parts_long; is_shape = is; thirteen = thirteen; is_kind = inside; left = copy_left; proper = proper; has_tile = has_it; held = holds }

    pub call_room : length parts.melds < 4
    call_room = room parts tile meld can_call

    pub call_some : (made : ShapeParts) → made ≡ parts_after parts tile meld → Some made ≡ after_or_none
    call_some made e = ap Some e ∙ some_chosen (has_meld (with_one parts.tiles tile) meld) (parts_after parts tile meld) holds

    module _ (melds more_melds : List Meld) (seen : List ℕ) (melds_is : melds ≡ parts.melds) (more_melds_is : more_melds ≡ melds ++ meld ∷ []) (seen_is : seen ≡ parts.seen) where
      after_parts : ◌≡◌ {A = ShapeParts} (record { tiles = left; melds = more_melds; seen = seen }) (parts_after parts tile meld)
      after_parts = same_parts left_after (more_melds_is ∙ ap (λ (ms : List Meld). ms ++ meld ∷ []) melds_is)
        where
          same_parts : left ≡ laid_down (with_one parts.tiles tile) meld → more_melds ≡ parts.melds ++ meld ∷ [] → ◌≡◌ {A = ShapeParts} (record { tiles = left; melds = more_melds; seen = seen }) (parts_after parts tile meld)
          same_parts e f = cc

      pub call_answer : (r : Result ShapeParts LineFault) → r ≡ shape_of (record { tiles = left; melds = more_melds; seen = seen }) → r ≡ Ok (parts_after parts tile meld)
      call_answer r e = e ∙ ap shape_of after_parts ∙ after_is parts tile meld can_call
