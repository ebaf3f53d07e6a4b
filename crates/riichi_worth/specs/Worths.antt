-- What a hand is worth: the points that all ordered draws of so many unseen tiles bring, shared equally among these draws. The player
-- is alone at the table, and plays as where chances are counted: a tile that brings the hand nearer is kept, and one of the best
-- discards is made; any other tile is thrown at once. Among the best discards the player makes the one after which the draws bring
-- the most points. A tile that completes the hand ends the count, and brings what the hand gains by it.
use Rattle.std.specs.Prelude.{ℕ, zero, suc, ◌-◌, ◌*◌, ◌/◌, ◌%◌, ◌<◌, ◌≤◌, List, [], ◌∷◌, length, map, slice_index, sum_by}
use Rattle.riichi_hand.specs.HandParts.{ShapeParts}
use Rattle.riichi_tiles.specs.Melds.{every_kind}
use Rattle.riichi_shape.specs.Accepted.{live_of}
use Rattle.riichi_shape.specs.Discards.{discards_of}
use Rattle.riichi_deeper.specs.Drawn.{parts_without}
use Rattle.riichi_chances.specs.Draws.{all_draws, unseen_of, value_behind}
use Rattle.riichi_chances.specs.Graph.{discard_kinds}
use Rattle.riichi_chances.specs.declared.span.Span.{Span}
use Rattle.riichi_worth.specs.Prizes.{prize_of}
use Rattle.riichi_worth.specs.Rows.{placed_points}
use Rattle.riichi_worth.specs.declared.discards.DiscardWorth.{DiscardWorth}
use Rattle.riichi_worth.specs.PointRows.{PointRow}
use Rattle.riichi_worth.specs.declared.stakes.Stakes.{Stakes}
use Rattle.riichi_worth.specs.declared.stakes.TheConstants.{MOST_PRIZE}
use Rattle.riichi_worth.specs.declared.worth.Worth.{Worth}

-- of the draws that begin with a tile of the kind, the points that they bring, by the value of thirteen tiles with the turns that are left
abbrev pub points_behind : Stakes → ℕ → (ShapeParts → ℕ) → ShapeParts → ℕ → ℕ
points_behind stakes left value parts kind = value_behind 0 (prize_of stakes parts.tiles parts.melds kind * all_draws (unseen_of parts - 1) left) value parts kind

-- of all ordered draws, the points that they bring together
unfoldable pub total_points : Stakes → ShapeParts → ℕ → ℕ
total_points stakes parts zero = 0
total_points stakes parts (suc left) = sum_by (λ kind. live_of parts.tiles parts.melds parts.seen kind * points_behind stakes left (λ rest. total_points stakes rest left) parts kind) every_kind

-- so many points among so many draws
abbrev pub shared : ℕ → ℕ → Worth
shared total all = record { points = total / all; rest = record { part = total % all; whole = all } }

unfoldable pub worth_of : Stakes → ShapeParts → ℕ → Worth
worth_of stakes parts turns = shared (total_points stakes parts turns) (all_draws (unseen_of parts) turns)

-- ---- of each best discard of fourteen tiles

abbrev pub worth_after : Stakes → ShapeParts → ℕ → ℕ → DiscardWorth
worth_after stakes drawn turns kind = record { kind = kind; worth = worth_of stakes (parts_without drawn kind) turns }

unfoldable pub best_worths : Stakes → ShapeParts → ℕ → List DiscardWorth
best_worths stakes drawn turns = map (worth_after stakes drawn turns) (discard_kinds (discards_of drawn.tiles drawn.melds drawn.seen))

-- ---- as they are told

-- the points of the hand at a place for all turns of a span
abbrev pub total_at : List PointRow → ℕ → Span → ℕ
total_at rows place span = placed_points rows span.turns place

abbrev pub draws_of : Span → ℕ
draws_of span = all_draws span.unseen span.turns

-- places of hands, of which none has more points than the dearest win for each draw
abbrev pub AreFew : List PointRow → List ℕ → Span → Type 0
AreFew rows places span = (at : ℕ) → at < length places → (slice_index places at < length rows) × (total_at rows (slice_index places at) span ≤ MOST_PRIZE * draws_of span)

-- what they are worth, each with a kind
abbrev pub told_at : List PointRow → Span → List ℕ → List ℕ → List DiscardWorth
told_at rows span [] kinds = []
told_at rows span (place ∷ places) [] = []
told_at rows span (place ∷ places) (kind ∷ kinds) = record { kind = kind; worth = shared (total_at rows place span) (draws_of span) } ∷ told_at rows span places kinds
