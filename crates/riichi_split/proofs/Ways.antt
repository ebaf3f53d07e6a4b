-- All ways to cut a line of counts into sets and a pair, kind by kind, each with the block that a winning kind completes. Every reading is among them, and since a run may here begin at any kind, no suit is looked at.
use Rattle.std.proofs.Common.{ℕ, zero, suc, ◌+◌, ◌-◌, ◌*◌, Bool, true, false, ◌&&◌, ◌||◌, not, cond, Option, Some, None, List, [], ◌∷◌, ◌++◌, ltb, leb, eqb, map, flat_map, replicate}
use Rattle.std.specs.List.{list_all, sum_by}
use Rattle.riichi_tiles.specs.declared.block.Block.{Block}
use Rattle.riichi_tiles.specs.declared.block.Block.TheVariants.{Run, Triplet, Pair}
use Rattle.riichi_split.specs.ReadingsOf.{when}

-- what is known at a kind: how many runs began one kind below and two kinds below, how many sets are still to begin, and whether the pair was taken
pub record At : Type 0 where
  pub one : ℕ
  pub two : ℕ
  pub left : ℕ
  pub paired : Bool

-- what begins at a kind
pub record Begun : Type 0 where
  pub triplets : ℕ
  pub runs : ℕ
  pub pair : Bool

-- sets and a pair from a kind on, and the completed block where the winning kind is not below
pub record Way : Type 0 where
  pub sets : List Block
  pub pair : Option ℕ
  pub done : Option Block

-- the tiles of a kind that aren't those of runs that begin there
abbrev pub needed : At → ℕ → Bool → ℕ
needed at triplets pair = at.one + at.two + 3 * triplets + cond pair 2 0

-- so many triplets and the pair or not begin at a kind with so many tiles, and the other tiles begin runs
abbrev pub may_begin : ℕ → At → ℕ → Bool → Bool
may_begin held at triplets pair = leb (needed at triplets pair) held && (leb (triplets + (held - needed at triplets pair)) at.left && not (at.paired && pair))

abbrev pub beginning : ℕ → At → ℕ → Bool → List Begun
beginning held at triplets pair = when (may_begin held at triplets pair) (record { triplets = triplets; runs = held - needed at triplets pair; pair = pair } ∷ [])

unfoldable pub beginnings : ℕ → At → List Begun
beginnings held at = beginning held at 0 false ++ (beginning held at 1 false ++ beginning held at 0 true)

abbrev pub next : At → Begun → At
next at begun = record { one = begun.runs; two = at.one; left = at.left - (begun.triplets + begun.runs); paired = at.paired || begun.pair }

-- the different blocks with a tile of the kind
unfoldable pub completed : ℕ → At → Begun → List Block
completed kind at begun = when (ltb 0 at.two) (Run (kind - 2) ∷ []) ++ (when (ltb 0 at.one) (Run (kind - 1) ∷ []) ++ (when (ltb 0 begun.runs) (Run kind ∷ []) ++ (when (ltb 0 begun.triplets) (Triplet kind ∷ []) ++ when begun.pair (Pair kind ∷ []))))

unfoldable pub dones_here : Bool → ℕ → At → Begun → List (Option Block)
dones_here true kind at begun = map Some (completed kind at begun)
dones_here false kind at begun = None ∷ []

abbrev pub done_or : Option Block → Option Block → Option Block
done_or (Some done) other = Some done
done_or None other = other

abbrev pub extended : ℕ → Begun → Option Block → Way → Way
extended kind begun done way = record {
  sets = (replicate begun.triplets (Triplet kind) ++ replicate begun.runs (Run kind)) ++ way.sets;
  pair = cond begun.pair (Some kind) way.pair;
  done = done_or done way.done;
}

abbrev pub is_over : At → Bool
is_over at = eqb (at.one + at.two + at.left) 0 && at.paired

unfoldable pub ways : ℕ → ℕ → List ℕ → At → List Way
ways kind winning [] at = when (is_over at) (record { sets = []; pair = None; done = None } ∷ [])
ways kind winning (held ∷ counts) at =
    flat_map (λ begun. flat_map (λ done. map (extended kind begun done) (ways (kind + 1) winning counts (next at begun))) (dones_here (eqb kind winning) kind at begun)) (beginnings held at)

-- ---- how many ways there are, by numbers alone

abbrev pub one_if : Bool → ℕ
one_if holds = cond holds 1 0

unfoldable pub dones_number : Bool → At → Begun → ℕ
dones_number true at begun = one_if (ltb 0 at.two) + (one_if (ltb 0 at.one) + (one_if (ltb 0 begun.runs) + (one_if (ltb 0 begun.triplets) + one_if begun.pair)))
dones_number false at begun = 1

-- where the ways go on at the next kind, as often as a block is completed here
unfoldable pub steps : ℕ → Bool → At → List At
steps held is_winning at = flat_map (λ begun. replicate (dones_number is_winning at begun) (next at begun)) (beginnings held at)

abbrev pub pending : At → ℕ
pending at = one_if (ltb 0 at.one) + one_if (ltb 0 at.two)

-- so many ways at most with a winning kind that is still to come: of so many sets to begin without the pair, and so many runs that go on
unfoldable pub most_unpaired : ℕ → ℕ → ℕ → ℕ
most_unpaired top zero pending = 1 + pending
most_unpaired top (suc zero) pending = cond (ltb 3 (2 + pending)) 3 (2 + pending)
most_unpaired top (suc (suc zero)) pending = 4 + pending
most_unpaired top (suc (suc (suc zero))) pending = cond (ltb 7 (6 + pending)) 7 (6 + pending)
most_unpaired top (suc (suc (suc (suc left)))) pending = top

abbrev pub at_least_one : ℕ → ℕ
at_least_one n = cond (ltb 1 n) n 1

-- so many ways at most, from there on
unfoldable pub most : ℕ → Bool → At → ℕ
most top false at = at_least_one at.left
most top true at = cond at.paired (cond (ltb (at.left + pending at) 4) (at_least_one (at.left + pending at)) 4) (at_least_one (most_unpaired top at.left (pending at)))

-- ---- the test that there are no more

-- at the next kind, of each of these numbers of tiles, whether the winning kind is this one or comes later
abbrev pub goes_on : (Bool → List At → Bool) → List ℕ → Bool → List At → Bool
goes_on holds numbers is_ahead places =
    list_all (λ held. let won = holds false (flat_map (steps held true) places) in holds is_ahead (flat_map (steps held false) places) && cond is_ahead won true) numbers

-- after so many kinds at most the numbers above add up to no more than that
unfoldable pub stays_below : ℕ → ℕ → List ℕ → Bool → List At → ℕ → Bool
stays_below zero top numbers is_ahead places bound = leb (sum_by (most top is_ahead) places) bound
stays_below (suc more) top numbers is_ahead places bound =
    let later = leb (sum_by (λ at. one_if (is_over at)) places) bound && goes_on (λ ahead others. stays_below more top numbers ahead others bound) numbers is_ahead places in
    cond (leb (sum_by (most top is_ahead) places) bound) true later

abbrev pub is_bound : ℕ → List ℕ → Bool → At → Bool
is_bound top numbers is_ahead at = goes_on (λ ahead others. stays_below 8 top numbers ahead others (most top is_ahead at)) numbers is_ahead (at ∷ [])

abbrev pub each_below : ℕ → (ℕ → Bool) → Bool
each_below zero holds = true
each_below (suc number) holds = holds number && each_below number holds

-- of a place with four sets at most, those that still go on among them
abbrev pub are_bounds_at : ℕ → List ℕ → ℕ → ℕ → ℕ → Bool
are_bounds_at top numbers one two left =
    let both = is_bound top numbers false (record { one = one; two = two; left = left; paired = true })
    && (is_bound top numbers false (record { one = one; two = two; left = left; paired = false })
    && (is_bound top numbers true (record { one = one; two = two; left = left; paired = true })
    && is_bound top numbers true (record { one = one; two = two; left = left; paired = false }))) in
    cond (leb (one + two + left) 4) both true

unfoldable pub are_bounds : ℕ → List ℕ → Bool
are_bounds top numbers = each_below 5 (λ one. each_below 5 (λ two. each_below 5 (λ left. are_bounds_at top numbers one two left)))
