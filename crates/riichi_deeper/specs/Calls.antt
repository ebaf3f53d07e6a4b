-- Which calls of a thrown tile bring a hand of thirteen tiles nearer.
use Rattle.std.specs.Prelude.{ℕ, ◌-◌, ◌&&◌, ◌||◌, Bool, true, false, nat_le, nat_lt, if◌then◌else◌, List, [], ◌∷◌, ◌++◌, filter, map, slice_index, Option, Some, None}
use Rattle.std.specs.List.{list_all, list_any}
use Rattle.riichi_tiles.specs.Kinds.{begins_run}
use Rattle.riichi_tiles.specs.Melds.{every_kind, tiles_of}
use Rattle.riichi_tiles.specs.Tiles.{has_tile}
use Rattle.riichi_tiles.specs.declared.meld.Meld.{Meld}
use Rattle.riichi_tiles.specs.declared.meld.Meld.TheVariants.{Chi, Pon, Kan}
use Rattle.riichi_hand.specs.HandParts.{ShapeParts}
use Rattle.riichi_shape.specs.Accepted.{with_one}
use Rattle.riichi_shape.specs.Answer.{shape_answer_of}
use Rattle.riichi_shape.specs.Discards.{discards_of, distance_without}
use Rattle.riichi_shape.specs.EveryWinning.{distance_of}
use Rattle.riichi_shape.specs.declared.shape_answer.ShapeAnswer.{ShapeAnswer}
use Rattle.riichi_deeper.specs.declared.thrown.Claim.{Claim}
use Rattle.riichi_deeper.specs.declared.thrown.Claim.TheVariants as claims
use Rattle.riichi_deeper.specs.declared.thrown.Thrower.{Thrower}
use Rattle.riichi_deeper.specs.declared.thrown.Thrower.TheVariants.{Left, Across, Right}
use Rattle.riichi_deeper.specs.declared.thrown.Thrown.{Thrown}
use Rattle.riichi_deeper.specs.declared.gains.Call.{Call}

-- ---- what a tile can be called for

-- the run that begins with a kind, where one does
abbrev pub run_from : Bool → ℕ → Option Meld
run_from inside low = if inside && begins_run low then Some (Chi low) else None

-- the run whose highest, middle or lowest tile the thrown one is, or the triplet
abbrev pub meld_claimed : Claim → ℕ → Option Meld
meld_claimed claims.Highest tile = run_from (nat_le 2 tile) (tile - 2)
meld_claimed claims.Middle tile = run_from (nat_le 1 tile) (tile - 1)
meld_claimed claims.Lowest tile = run_from true tile
meld_claimed claims.Triplet tile = Some (Pon tile)

-- a run is called from the left alone
abbrev pub is_from_left : Thrower → Bool
is_from_left Left = true
is_from_left Across = false
is_from_left Right = false

abbrev pub is_triplet : Claim → Bool
is_triplet claims.Highest = false
is_triplet claims.Middle = false
is_triplet claims.Lowest = false
is_triplet claims.Triplet = true

unfoldable pub called : Claim → Thrown → Option Meld
called claim thrown = if is_triplet claim || is_from_left thrown.by then meld_claimed claim thrown.tile else None

-- ---- what stands after a call

-- all tiles of the meld are there
unfoldable pub has_meld : List ℕ → Meld → Bool
has_meld tiles meld = list_all (λ kind. nat_le (tiles_of meld kind) (slice_index tiles kind)) every_kind

-- the tiles without those of the meld
unfoldable pub laid_down : List ℕ → Meld → List ℕ
laid_down tiles meld = map (λ kind. slice_index tiles kind - tiles_of meld kind) every_kind

-- the tile comes to the hand, and the meld is laid down
abbrev pub parts_after : ShapeParts → ℕ → Meld → ShapeParts
parts_after parts tile meld = record { tiles = laid_down (with_one parts.tiles tile) meld; melds = parts.melds ++ meld ∷ []; seen = parts.seen }

-- ---- the calls

-- some discard leaves fewer tiles lacking than the hand lacked before the call
abbrev pub is_nearer : ShapeParts → ShapeParts → Bool
is_nearer parts after = list_any (λ kind. nat_lt (distance_without after.tiles after.melds kind) (distance_of parts.tiles parts.melds)) (filter (has_tile after.tiles) every_kind)

-- the hand has the other tiles of the meld, and is then nearer
unfoldable pub is_gain : ShapeParts → ℕ → Meld → Bool
is_gain parts tile meld = has_meld (with_one parts.tiles tile) meld && is_nearer parts (parts_after parts tile meld)

-- the call, with the best discards of what stands after it
abbrev pub call_with : ShapeParts → ℕ → Meld → Call
call_with parts tile meld = let after = parts_after parts tile meld in record { meld = meld; discards = discards_of after.tiles after.melds after.seen }

abbrev pub gaining_call : ShapeParts → ℕ → Option Meld → Option Call
gaining_call parts tile None = None
gaining_call parts tile (Some meld) = if is_gain parts tile meld then Some (call_with parts tile meld) else None

unfoldable pub call_of : ShapeParts → Thrown → Claim → Option Call
call_of parts thrown claim = gaining_call parts thrown.tile (called claim thrown)

-- of each claim the call, where it brings the hand nearer
unfoldable pub calls_of : ShapeParts → Thrown → List (Option Call)
calls_of parts thrown = map (call_of parts thrown) (claims.Highest ∷ claims.Middle ∷ claims.Lowest ∷ claims.Triplet ∷ [])

-- ---- a kong

-- what stands after the tile is called for a kong, where the hand has the other three: thirteen tiles, before one is drawn
unfoldable pub kong_of : ShapeParts → ℕ → Option ShapeAnswer
kong_of parts tile = if has_meld (with_one parts.tiles tile) (Kan tile) then Some (shape_answer_of (parts_after parts tile (Kan tile))) else None
