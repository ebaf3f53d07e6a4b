-- A call lays down a set that the hand with the tile had: what it then lacks of a winning multiset, the hand lacked with that set.
use Rattle.std.proofs.Common.{◌≡◌, ◌≢◌, ℕ, zero, suc, ◌+◌, ◌-◌, ◌<◌, ◌≤◌, ◌%◌, inl, true, false, List, [], ◌∷◌, ◌++◌, map, length, length-set, get_or-set_same, get_or-set_other, refl, sym, ap, ◌∙◌, ⊎_elim, arith}
use Rattle.std.proofs.lemmas.Bool.{and_from, and_parts, cases_eq, cases_lt, eqb-true, lt-ltb, ltb-true, or_cases}
use Rattle.std.proofs.lemmas.Bool.Decides.{nat_tests}
use Rattle.std.proofs.lemmas.List.{get_or_past}
use Rattle.std.proofs.lemmas.List.Elements.{All-cons}
use Rattle.std.proofs.lemmas.List.FromFn.{get_or-map-range_with_len}
use Rattle.std.specs.Prelude.{nat_lt, slice_index, ◌==◌, ◌&&◌}
use Rattle.riichi_hand.specs.HandParts.{ShapeParts}
use Rattle.riichi_tiles.specs.Blocks.{IsSet, copies}
use Rattle.riichi_tiles.specs.Forms.{IsSetsAndPair}
use Rattle.riichi_tiles.specs.Kinds.{begins_run}
use Rattle.riichi_tiles.specs.Melds.{every_kind, is_kong, tiles, tiles_of}
use Rattle.riichi_tiles.specs.declared.block.Block.{Block}
use Rattle.riichi_tiles.specs.declared.block.Block.TheVariants.{Run, Triplet}
use Rattle.riichi_tiles.specs.declared.meld.Meld.{Meld}
use Rattle.riichi_tiles.specs.declared.meld.Meld.TheVariants.{Chi, Pon, Kan, Ankan}
use Rattle.riichi_tiles.proofs.KindSums.{one, same-in}
use Rattle.riichi_tiles.proofs.Members.{in-range-inv}
use Rattle.riichi_rows.specs.Lacked.{IsOneMore}
use Rattle.riichi_rows.proofs.Spread.{spread, sum_range}
use Rattle.riichi_shape.specs.Accepted.{live_of, with_one, without_one}
use Rattle.riichi_shape.specs.Distance.{IsDistance}
use Rattle.riichi_shape.specs.EveryWinning.{distance_of}
use Rattle.riichi_shape.specs.Winning.{IsWinning, lacking}
use Rattle.riichi_shape.proofs.Nearer.{distance_reached}
use Rattle.riichi_shape.proofs.AcceptedLemmas.{held_inside}
use Rattle.riichi_shape.proofs.OneMore.{hand_falls, one_less}
use Rattle.riichi_shape.proofs.ShapeFacts.{melds_few}
use Rattle.riichi_deeper.specs.Calls.{laid_down}
use Rattle.riichi_deeper.specs.CallLaws.{AcceptedCallLaw, CanCall, KongLaw, NearerByOneLaw, SwapLaw, distance_after, is_other_end}
use Rattle.riichi_deeper.proofs.AfterLemmas.{chi_as_run, count_with, few_after, has_each, left_at, left_long, melds_with, pon_as_triplet, room, held_in}
use Rattle.riichi_deeper.proofs.DrawnLemmas.{more_here, more_other}

-- ---- a set that is laid down

module _ (more rest : List ℕ) (melds : List Meld) (meld : Meld) (set : Block) (few : length melds < 4) (within : (k : ℕ) → k < 34 → tiles melds k ≤ 4) (n : ℕ) (after : IsDistance rest (melds ++ meld ∷ []) n)
    (is_set : IsSet set) (four : (k : ℕ) → k < 34 → slice_index after.wanted k + copies set k + tiles melds k ≤ 4) (parted : (k : ℕ) → k < 34 → slice_index more k ≡ slice_index rest k + copies set k) where
  before : IsDistance more melds (distance_of more melds)
  before = distance_reached more melds (omega (arith, few)) within

  -- the nearest multiset beside the call, and the set
  with_set : List ℕ
  with_set = map (λ k. slice_index after.wanted k + copies set k) every_kind

  set_at : (k : ℕ) → k < 34 → slice_index with_set k ≡ slice_index after.wanted k + copies set k
  unfolding with_set
  set_at k low = get_or-map-range_with_len (λ k. slice_index after.wanted k + copies set k) 0 34 k k 0 low (omega arith)

  sets_and_pair : IsSetsAndPair (4 - length (melds ++ meld ∷ [])) after.wanted
  sets_and_pair = ⊎_elim (λ s. s) (λ special. ⊎_elim (λ p. absurd (omega (arith, p.0, count_with melds meld))) (λ o. absurd (omega (arith, o.0, count_with melds meld))) special) after.is_winning.form

  with_set_wins : IsWinning melds with_set
  with_set_wins = record {
    form = inl (record {
      blocks = set ∷ sets_and_pair.blocks;
      pair = sets_and_pair.pair;
      made_of = record {
        are_sets = All-cons IsSet set sets_and_pair.blocks is_set sets_and_pair.made_of.are_sets;
        is_kind = sets_and_pair.made_of.is_kind;
        adds_up = λ k low. omega (arith, set_at k low, sets_and_pair.made_of.adds_up k low);
      };
      has_sets = omega (arith, sets_and_pair.has_sets, count_with melds meld, few);
    });
    within_four = record { at = λ k low. omega (arith, set_at k low, four k low) };
  }

  lacks_same : lacking more with_set ≡ lacking rest after.wanted
  lacks_same = same-in (λ k. slice_index with_set k - slice_index more k) (λ k. slice_index after.wanted k - slice_index rest k) every_kind (λ k i. at k (omega (arith, (in-range-inv 34 0 k i).1)))
    where
      at : (k : ℕ) → k < 34 → slice_index with_set k - slice_index more k ≡ slice_index after.wanted k - slice_index rest k
      at k low = omega (arith, set_at k low, parted k low)

  pub no_nearer : distance_of more melds ≤ n
  no_nearer = omega (arith, before.none_less with_set with_set_wins, lacks_same, after.reached)

-- ---- fewer tiles lack no fewer

more_lacking : (f g : ℕ → ℕ) (a n : ℕ) → ((k : ℕ) → f k ≤ g k) → spread f a n ≤ spread g a n
unfolding spread
more_lacking f g a zero each = omega arith
more_lacking f g a (suc n) each = omega (arith, each a, more_lacking f g (a + 1) n each)

lacks_more : (hand less wanted : List ℕ) → ((k : ℕ) → slice_index less k ≤ slice_index hand k) → lacking hand wanted ≤ lacking less wanted
lacks_more hand less wanted each =
    omega (arith, sum_range (λ k. slice_index wanted k - slice_index hand k) 0 34, sum_range (λ k. slice_index wanted k - slice_index less k) 0 34, more_lacking (λ k. slice_index wanted k - slice_index hand k) (λ k. slice_index wanted k - slice_index less k) 0 34 (λ k. omega (arith, each k)))

less_than : (hand : List ℕ) (kind k : ℕ) → slice_index (without_one hand kind) k ≤ slice_index hand k
less_than hand kind k = ⊎_elim at_kind (λ ne. omega (arith, get_or-set_other hand kind k (slice_index hand kind - 1) 0 ne)) (cases_eq k kind)
  where
    at_kind : k ≡ kind → slice_index (without_one hand kind) k ≤ slice_index hand k
    at_kind same =
        ⊎_elim (λ inside. omega (arith, ap (slice_index (without_one hand kind)) same, ap (slice_index hand) same, get_or-set_same hand kind (slice_index hand kind - 1) 0 inside))
        (λ past. omega (arith, ap (slice_index (without_one hand kind)) same, get_or_past (without_one hand kind) kind 0 (omega (arith, past, length-set hand kind (slice_index hand kind - 1))))) (cases_lt kind (length hand))

module _ (hand : List ℕ) (melds : List Meld) (few : length melds ≤ 4) (within : (k : ℕ) → k < 34 → tiles melds k ≤ 4) where
  reached : (h : List ℕ) → IsDistance h melds (distance_of h melds)
  reached h = distance_reached h melds few within

  pub none_nearer : (kind : ℕ) → distance_of hand melds ≤ distance_of (without_one hand kind) melds
  none_nearer kind =
      let less = reached (without_one hand kind) in
      omega (arith, (reached hand).none_less less.wanted less.is_winning, less.reached, lacks_more hand (without_one hand kind) less.wanted (less_than hand kind))

  pub nearer_by_one : (kind : ℕ) → length hand ≡ 34 → kind < 34 → distance_of hand melds ≤ distance_of (with_one hand kind) melds + 1
  nearer_by_one kind long inside =
      let more = reached (with_one hand kind) in
      let bound = (reached hand).none_less more.wanted more.is_winning in
      let one : IsOneMore kind hand (with_one hand kind) = record { here = more_here hand kind (omega (arith, long, inside)); elsewhere = λ other ne. more_other hand kind other ne } in
      ⊎_elim (λ lacks. (let e = lacks.1 in omega (arith, e, bound, more.reached))) (λ not. (let e = not.1 in omega (arith, e, bound, more.reached))) (hand_falls hand (with_one hand kind) more.wanted kind inside one)

-- ---- the laws

module _ (parts : ShapeParts) (tile : ℕ) (meld : Meld) (can : CanCall parts tile meld) where
  abbrev drawn : List ℕ
  drawn = with_one parts.tiles tile

  abbrev left : List ℕ
  left = laid_down drawn meld

  within_after : (k : ℕ) → k < 34 → tiles (parts.melds ++ meld ∷ []) k ≤ 4
  within_after k low = omega (arith, few_after parts tile meld can k low)

  few_melds : length (parts.melds ++ meld ∷ []) ≤ 4
  few_melds = omega (arith, room parts tile meld can, count_with parts.melds meld)

  within_before : (k : ℕ) → k < 34 → tiles parts.melds k ≤ 4
  within_before k low = omega (arith, within_after k low, melds_with parts.melds meld k)

  -- beside the call, with whatever tiles
  reached_after : (rest : List ℕ) → IsDistance rest (parts.melds ++ meld ∷ []) (distance_of rest (parts.melds ++ meld ∷ []))
  reached_after rest = distance_reached rest (parts.melds ++ meld ∷ []) few_melds within_after

  -- a set with no tile that the meld has not
  fitting : (more rest : List ℕ) (set : Block) → IsSet set → ((k : ℕ) → copies set k ≤ tiles_of meld k) → ((k : ℕ) → k < 34 → slice_index more k ≡ slice_index rest k + copies set k) → distance_of more parts.melds ≤ distance_of rest (parts.melds ++ meld ∷ [])
  fitting more rest set is_set fits parted =
      no_nearer more rest parts.melds meld set (room parts tile meld can) within_before (distance_of rest (parts.melds ++ meld ∷ [])) (reached_after rest) is_set
      (λ k low. omega (arith, (reached_after rest).is_winning.within_four.at k low, melds_with parts.melds meld k, fits k)) parted

  pub set_laid : (set : Block) → IsSet set → ((k : ℕ) → tiles_of meld k ≡ copies set k) → distance_of drawn parts.melds ≤ distance_of left (parts.melds ++ meld ∷ [])
  set_laid set is_set same = fitting drawn left set is_set (λ k. omega (arith, same k)) (λ k low. omega (arith, left_at drawn meld k low, has_each drawn meld can.held k low, same k))

run_of : (low : ℕ) → begins_run low ≡ true → IsSet (Run low)
run_of low e = let tests = and_parts (nat_lt low 27) (nat_lt (low % 9) 7) e in (ltb-true low 27 tests.0, ltb-true (low % 9) 7 tests.1)

laid_nearer : (parts : ShapeParts) (tile : ℕ) (meld : Meld) → CanCall parts tile meld → is_kong meld ≡ false → distance_of (with_one parts.tiles tile) parts.melds ≤ distance_of (laid_down (with_one parts.tiles tile) meld) (parts.melds ++ meld ∷ [])
laid_nearer parts tile (Chi low) can plain = set_laid parts tile (Chi low) can (Run low) (run_of low can.proper) (chi_as_run low)
laid_nearer parts tile (Pon held) can plain = set_laid parts tile (Pon held) can (Triplet held) (held_in held tile 3 can.is_kind can.has_tile) (pon_as_triplet held)
laid_nearer parts tile (Kan held) can plain = absurd (cc)
laid_nearer parts tile (Ankan held) can plain = absurd (cc)

after_nearer : (parts : ShapeParts) (tile : ℕ) (meld : Meld) (discard : ℕ) → CanCall parts tile meld → is_kong meld ≡ false → distance_of (with_one parts.tiles tile) parts.melds ≤ distance_after parts tile meld discard
after_nearer parts tile meld discard can plain =
    omega (arith, laid_nearer parts tile meld can plain, none_nearer (laid_down (with_one parts.tiles tile) meld) (parts.melds ++ meld ∷ []) (few_melds parts tile meld can) (within_after parts tile meld can) discard)

pub accepted_calls : AcceptedCallLaw
accepted_calls parts tile meld discard can plain nearer =
    and_from (nat_lt 0 (live_of parts.tiles parts.melds parts.seen tile)) (nat_lt (distance_of (with_one parts.tiles tile) parts.melds) (distance_of parts.tiles parts.melds))
    (lt-ltb 0 (live_of parts.tiles parts.melds parts.seen tile) (omega (arith, can.left)))
    (lt-ltb (distance_of (with_one parts.tiles tile) parts.melds) (distance_of parts.tiles parts.melds) (omega (arith, after_nearer parts tile meld discard can plain, nearer)))

pub by_one : NearerByOneLaw
by_one parts tile meld discard can plain =
    omega (arith, after_nearer parts tile meld discard can plain, nearer_by_one parts.tiles parts.melds (omega (arith, room parts tile meld can)) (melds_few parts can.is_shape) tile can.each_kind can.is_kind)

triplet_fits : (tile k : ℕ) → copies (Triplet tile) k ≤ tiles_of (Kan tile) k
triplet_fits tile k = grind (arith, nat_tests)

kong_here : (tile : ℕ) → (copies (Triplet tile) tile ≡ 3) × (tiles_of (Kan tile) tile ≡ 4)
kong_here tile = (grind (arith, nat_tests), grind (arith, nat_tests))

kong_other : (tile k : ℕ) → k ≢ tile → (copies (Triplet tile) k ≡ 0) × (tiles_of (Kan tile) k ≡ 0)
kong_other tile k ne = (grind (arith, nat_tests), grind (arith, nat_tests))

pub kongs : KongLaw
kongs parts tile can =
    fitting parts tile (Kan tile) can parts.tiles (laid_down (with_one parts.tiles tile) (Kan tile)) (Triplet tile) can.is_kind (triplet_fits tile) parted
  where
    parted : (k : ℕ) → k < 34 → slice_index parts.tiles k ≡ slice_index (laid_down (with_one parts.tiles tile) (Kan tile)) k + copies (Triplet tile) k
    parted k low = ⊎_elim here (λ ne. omega (arith, left_at (with_one parts.tiles tile) (Kan tile) k low, more_other parts.tiles tile k ne, (kong_other tile k ne).0, (kong_other tile k ne).1)) (cases_eq k tile)
      where
        at_tile : slice_index parts.tiles tile ≡ slice_index (laid_down (with_one parts.tiles tile) (Kan tile)) tile + copies (Triplet tile) tile
        at_tile = omega (arith, left_at (with_one parts.tiles tile) (Kan tile) tile can.is_kind, has_each (with_one parts.tiles tile) (Kan tile) can.held tile can.is_kind, more_here parts.tiles tile (omega (arith, can.each_kind, can.is_kind)), (kong_here tile).0, (kong_here tile).1)

        here : k ≡ tile → slice_index parts.tiles k ≡ slice_index (laid_down (with_one parts.tiles tile) (Kan tile)) k + copies (Triplet tile) k
        here same = ap (slice_index parts.tiles) same ∙ at_tile ∙ sym (ap (λ k. slice_index (laid_down (with_one parts.tiles tile) (Kan tile)) k + copies (Triplet tile) k) same)

-- ---- the rule against swap calling

one_at : (kind k : ℕ) → k ≡ kind → one kind k ≡ 1
one_at kind k e = grind (arith, nat_tests)

one_past : (kind k : ℕ) → k ≢ kind → one kind k ≡ 0
one_past kind k ne = grind (arith, nat_tests)

-- a run of which the thrown tile is the other end
run_up : (low k : ℕ) → tiles_of (Chi low) k + one (low + 3) k ≡ copies (Run (low + 1)) k + one low k
run_up low k = grind (arith, nat_tests)

run_down : (kind k : ℕ) → tiles_of (Chi (kind + 1)) k + one kind k ≡ copies (Run kind) k + one (kind + 3) k
run_down kind k = grind (arith, nat_tests)

module _ (parts : ShapeParts) (tile : ℕ) (meld : Meld) (can : CanCall parts tile meld) (plain : is_kong meld ≡ false) (kind : ℕ) (held : 0 < slice_index (laid_down (with_one parts.tiles tile) meld) kind) where
  abbrev before_call : List ℕ
  before_call = with_one parts.tiles tile

  abbrev laid : List ℕ
  laid = laid_down before_call meld

  abbrev rest : List ℕ
  rest = without_one laid kind

  inside : kind < 34
  inside = held_inside laid kind (left_long before_call meld) held

  one_more_laid : IsOneMore kind rest laid
  one_more_laid = one_less laid rest kind (slice_index laid kind - 1) (omega (arith, inside, left_long before_call meld)) refl (omega (arith, held))

  rest_at : (k : ℕ) → slice_index rest k + one kind k ≡ slice_index laid k
  rest_at k = ⊎_elim here (λ ne. omega (arith, one_past kind k ne, one_more_laid.elsewhere k ne)) (cases_eq k kind)
    where
      here : k ≡ kind → slice_index rest k + one kind k ≡ slice_index laid k
      here same = omega (arith, one_at kind k same, ap (slice_index rest) same, ap (slice_index laid) same, one_more_laid.here)

  drawn_at : (k : ℕ) → slice_index before_call k ≡ slice_index parts.tiles k + one tile k
  drawn_at k = ⊎_elim here (λ ne. omega (arith, one_past tile k ne, more_other parts.tiles tile k ne)) (cases_eq k tile)
    where
      here : k ≡ tile → slice_index before_call k ≡ slice_index parts.tiles k + one tile k
      here same = omega (arith, one_at tile k same, ap (slice_index before_call) same, ap (slice_index parts.tiles) same, more_here parts.tiles tile (omega (arith, can.each_kind, can.is_kind)))

  nearest : IsDistance rest (parts.melds ++ meld ∷ []) (distance_of rest (parts.melds ++ meld ∷ []))
  nearest = reached_after parts tile meld can rest

  -- where the thrown tile is wanted, it was better kept
  wanted_kind : slice_index rest kind < slice_index nearest.wanted kind → distance_of parts.tiles parts.melds ≤ distance_of rest (parts.melds ++ meld ∷ [])
  wanted_kind lacks =
      let kept = (reached_after parts tile meld can laid).none_less nearest.wanted nearest.is_winning in
      let called = laid_nearer parts tile meld can plain in
      let drawn_one = nearer_by_one parts.tiles parts.melds (omega (arith, room parts tile meld can)) (melds_few parts can.is_shape) tile can.each_kind can.is_kind in
      ⊎_elim (λ fewer. (let e = fewer.1 in omega (arith, e, kept, called, drawn_one, nearest.reached))) (λ not. absurd (let few = not.0 in omega (arith, few, lacks))) (hand_falls rest laid nearest.wanted kind inside one_more_laid)

  -- the hand had a set of the other tiles and the thrown one
  module _ (set : Block) (is_set : IsSet set) (swapped : (k : ℕ) → tiles_of meld k + one kind k ≡ copies set k + one tile k) where
    parted : (k : ℕ) → k < 34 → slice_index parts.tiles k ≡ slice_index rest k + copies set k
    parted k low = omega (arith, swapped k, rest_at k, drawn_at k, left_at before_call meld k low, has_each before_call meld can.held k low)

    four : slice_index nearest.wanted kind ≤ slice_index rest kind → (k : ℕ) → k < 34 → slice_index nearest.wanted k + copies set k + tiles parts.melds k ≤ 4
    four enough k low = ⊎_elim here (λ ne. omega (arith, nearest.is_winning.within_four.at k low, melds_with parts.melds meld k, swapped k, one_past kind k ne)) (cases_eq k kind)
      where
        at_kind : slice_index nearest.wanted kind + copies set kind + tiles parts.melds kind ≤ 4
        at_kind = omega (arith, enough, swapped kind, one_at kind kind refl, rest_at kind, few_after parts tile meld can kind inside, melds_with parts.melds meld kind)

        here : k ≡ kind → slice_index nearest.wanted k + copies set k + tiles parts.melds k ≤ 4
        here same = omega (arith, ap (λ k. slice_index nearest.wanted k + copies set k + tiles parts.melds k) same, at_kind)

    pub set_swapped : distance_of parts.tiles parts.melds ≤ distance_of rest (parts.melds ++ meld ∷ [])
    set_swapped =
        ⊎_elim wanted_kind
        (λ enough. no_nearer parts.tiles rest parts.melds meld set (room parts tile meld can) (melds_few parts can.is_shape) (distance_of rest (parts.melds ++ meld ∷ [])) nearest is_set (four enough) parted)
        (cases_lt (slice_index rest kind) (slice_index nearest.wanted kind))

same_kind : (held kind tile k : ℕ) → kind ≡ tile → held + one kind k ≡ held + one tile k
same_kind held kind tile k e = ap (λ kind. held + one kind k) e

pub swap_calls : SwapLaw
swap_calls parts tile (Chi low) kind can is held = ⊎_elim by_kind (λ end. ⊎_elim by_up by_down (or_cases ((tile == low) && (kind == low + 3) && begins_run (low + 1)) ((tile == low + 2) && (kind + 1 == low) && begins_run kind) end)) (or_cases (kind == tile) (is_other_end low tile kind) is)
  where
    by_kind : (kind == tile) ≡ true → distance_of parts.tiles parts.melds ≤ distance_after parts tile (Chi low) kind
    by_kind e = set_swapped parts tile (Chi low) can refl kind held (Run low) (run_of low can.proper) (λ k. ap (λ n. n + one kind k) (chi_as_run low k) ∙ same_kind (copies (Run low) k) kind tile k (eqb-true kind tile e))

    by_up : ((tile == low) && (kind == low + 3) && begins_run (low + 1)) ≡ true → distance_of parts.tiles parts.melds ≤ distance_after parts tile (Chi low) kind
    by_up e =
        let ends = and_parts ((tile == low) && (kind == low + 3)) (begins_run (low + 1)) e in
        let both = and_parts (tile == low) (kind == low + 3) ends.0 in
        set_swapped parts tile (Chi low) can refl kind held (Run (low + 1)) (run_of (low + 1) ends.1)
        (λ k. ap (λ n. tiles_of (Chi low) k + one n k) (eqb-true kind (low + 3) both.1) ∙ run_up low k ∙ sym (ap (λ n. copies (Run (low + 1)) k + one n k) (eqb-true tile low both.0)))

    by_down : ((tile == low + 2) && (kind + 1 == low) && begins_run kind) ≡ true → distance_of parts.tiles parts.melds ≤ distance_after parts tile (Chi low) kind
    by_down e =
        let ends = and_parts ((tile == low + 2) && (kind + 1 == low)) (begins_run kind) e in
        let both = and_parts (tile == low + 2) (kind + 1 == low) ends.0 in
        let low_is : kind + 1 ≡ low = eqb-true (kind + 1) low both.1 in
        let high_is : kind + 3 ≡ tile = omega (arith, eqb-true tile (low + 2) both.0, low_is) in
        set_swapped parts tile (Chi low) can refl kind held (Run kind) (run_of kind ends.1)
        (λ k. ap (λ n. tiles_of (Chi n) k + one kind k) (sym low_is) ∙ run_down kind k ∙ ap (λ n. copies (Run kind) k + one n k) high_is)
swap_calls parts tile (Pon triplet) kind can is held =
    set_swapped parts tile (Pon triplet) can refl kind held (Triplet triplet) (held_in triplet tile 3 can.is_kind can.has_tile) (λ k. ap (λ n. n + one kind k) (pon_as_triplet triplet k) ∙ same_kind (copies (Triplet triplet) k) kind tile k (eqb-true kind tile is))
swap_calls parts tile (Kan quad) kind can is held = absurd (cc)
swap_calls parts tile (Ankan quad) kind can is held = absurd (cc)
