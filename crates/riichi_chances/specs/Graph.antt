-- The hands that a hand may come to, each once, and what each leads to.
use Rattle.std.specs.Prelude.{◌≡◌, ℕ, ◌*◌, ◌<◌, ◌≤◌, false, max, min, nat_eq, nat_le, List, [], ◌++◌, ◌∷◌, length, map, slice_index, slice_index_or, sum_by, take}
use Rattle.std.specs.Cmp.Lexicographic.{pointwise}
use Rattle.std.specs.List.{IsDistinct}
use Rattle.riichi_hand.specs.Hand.{IsShape}
use Rattle.riichi_hand.specs.HandParts.{ShapeParts}
use Rattle.riichi_shape.specs.Accepted.{without_one}
use Rattle.riichi_shape.specs.EveryWinning.{distance_of}
use Rattle.riichi_shape.specs.LiveCopies.{live_in}
use Rattle.riichi_shape.specs.declared.discard.Discard.{Discard}
use Rattle.riichi_deeper.specs.Drawn.{parts_with}
use Rattle.riichi_chances.specs.Aims.{HasRows, numbers_for}
use Rattle.riichi_chances.specs.Counted.{accepts, counted_rest}
use Rattle.riichi_chances.specs.Draws.{greatest}
use Rattle.riichi_chances.specs.Laws.{IsThirteen}
use Rattle.riichi_chances.specs.declared.node.Draw.{Draw}
use Rattle.riichi_chances.specs.declared.node.Draws.{Draws}
use Rattle.riichi_chances.specs.declared.node.Node.{Node}
use Rattle.riichi_chances.specs.declared.rests.Rests.{Rests}
use Rattle.riichi_chances.specs.declared.rows.Column.{Column}
use Rattle.riichi_chances.specs.Rows.{Rows}
use Rattle.riichi_chances.specs.declared.span.Span.{Span}

-- hands with their nodes at the same places, and how many there are at most
pub record HandGraph : Type 0 where
  pub hands : List (List ℕ)
  pub nodes : List Node
  pub most_hands : ℕ

-- as many as there are places, and no more than a number of 16 bits tells
abbrev pub most_hands_in : ℕ → ℕ → ℕ
most_hands_in places most = min (min places most) 65535

-- the places of a list, and the draws of another
abbrev pub places_in : Rests → List ℕ
places_in rests = take rests.count rests.places

abbrev pub draws_in : Draws → List Draw
draws_in draws = take draws.count draws.each

-- the hand at a place, with the melds of a first one and what that sees
abbrev pub placed_hand : ShapeParts → List (List ℕ) → ℕ → ShapeParts
placed_hand root hands place = record { tiles = slice_index_or hands place []; melds = root.melds; seen = root.seen }

-- the live copies of a draw times the greatest value of a place that it leads to, or times a least one
abbrev pub draw_value : (ℕ → ℕ) → ℕ → Draw → ℕ
draw_value value least draw = draw.live * max (greatest value (places_in draw.rests)) least

-- the sum over some draws
abbrev pub draws_value : (ℕ → ℕ) → ℕ → List Draw → ℕ
draws_value value least draws = sum_by (draw_value value least) draws

-- over the kinds that thirteen tiles accept, the live copies times the greatest value of a hand that a best discard then leaves
abbrev pub rest_by : (ShapeParts → ℕ) → ℕ → ShapeParts → ℕ × ℕ → ℕ
rest_by value least parts accepted = accepted.1 * max (counted_rest value (parts_with parts accepted.0)) least

abbrev pub rests_value : (ShapeParts → ℕ) → ℕ → ShapeParts → ℕ
rests_value value least parts = sum_by (rest_by value least parts) (accepts parts)

-- all of these places are before one
abbrev pub AreBefore : ℕ → List ℕ → Type 0
AreBefore place places = (k : ℕ) → k < length places → slice_index places k < place

-- the draws lead to places before one
abbrev pub LeadBefore : ℕ → List Draw → Type 0
LeadBefore place draws = (at : ℕ) (draw : Draw) → at < length draws → AreBefore place (places_in (slice_index_or draws at draw).rests)

-- the draws are those that the hand accepts, whatever the value of a hand
abbrev pub LeadTo : List (List ℕ) → List Draw → ShapeParts → Type 0
LeadTo hands draws parts = (value : ShapeParts → ℕ) (least : ℕ) → draws_value (λ place. value (placed_hand parts hands place)) least draws ≡ rests_value value least parts

-- the kinds of some discards
abbrev pub discard_kinds : List Discard → List ℕ
discard_kinds discards = map (λ discard. discard.kind) discards

-- at the places, one after the other, stand the hands that tiles leave once one of the kinds is thrown
abbrev pub AreLeft : List (List ℕ) → List ℕ → List ℕ → List ℕ → Type 0
AreLeft hands places tiles kinds = map (λ place. slice_index_or hands place []) places ≡ map (without_one tiles) kinds

-- the places are those of what the best discards of fourteen tiles leave
abbrev pub AreRests : List (List ℕ) → List ℕ → ShapeParts → Type 0
AreRests hands places drawn = (value : ShapeParts → ℕ) → greatest (λ place. value (placed_hand drawn hands place)) places ≡ counted_rest value drawn

-- what stands at a place for the hand there
pub record IsNode (hands : List (List ℕ)) (place : ℕ) (parts : ShapeParts) (node : Node) : Type 0 where
  pub whole : IsThirteen parts
  pub shape : IsShape parts
  pub ready : node.is_ready ≡ nat_le (distance_of parts.tiles parts.melds) 1
  pub live : node.live ≡ live_in (accepts parts)
  pub before : LeadBefore place (draws_in node.draws)
  pub leads : node.is_ready ≡ false → LeadTo hands (draws_in node.draws) parts

-- the same of a place
abbrev pub IsNodeAt : ShapeParts → List (List ℕ) → ℕ → Node → Type 0
IsNodeAt root hands place = IsNode hands place (placed_hand root hands place)

pub record IsGraph (root : ShapeParts) (graph : HandGraph) : Type 0 where
  pub each : length graph.hands ≡ length graph.nodes
  pub once : IsDistinct (pointwise nat_eq) graph.hands
  pub few : length graph.nodes ≤ graph.most_hands
  pub node : (place : ℕ) (node : Node) → place < length graph.nodes → IsNode graph.hands place (placed_hand root graph.hands place) (slice_index_or graph.nodes place node)

-- hands came behind those that were there
pub record IsMore (before after : List (List ℕ)) : Type 0 where
  pub longer : length before ≤ length after
  pub same : (place : ℕ) → place < length before → slice_index_or after place [] ≡ slice_index_or before place []

-- it is one still, and has more hands
pub record Grows (root : ShapeParts) (before after : HandGraph) : Type 0 where
  pub whole : IsGraph root after
  pub more : IsMore before.hands after.hands
  pub most : after.most_hands ≡ before.most_hands

-- the hand stands there
pub record IsPlaceOf (graph : HandGraph) (parts : ShapeParts) (place : ℕ) : Type 0 where
  pub inside : place < length graph.nodes
  pub is : slice_index_or graph.hands place [] ≡ parts.tiles

-- a hand came to the next place
pub record IsPushed (tiles : List ℕ) (node : Node) (before after : HandGraph) : Type 0 where
  pub hands : after.hands ≡ before.hands ++ tiles ∷ []
  pub nodes : after.nodes ≡ before.nodes ++ node ∷ []
  pub most : after.most_hands ≡ before.most_hands

-- ---- the numbers of all hands

abbrev pub no_rows : Rows
no_rows = record { ready = []; win = []; ready_at_most = []; win_at_most = [] }

-- the number of a place where so many turns are left
abbrev pub placed_number : Column → List Rows → ℕ → ℕ → ℕ
placed_number column rows left place = slice_index (numbers_for column (slice_index_or rows place no_rows)) left

-- the rows of so many places have the numbers of the hands there
abbrev pub AreRows : Span → ShapeParts → List (List ℕ) → ℕ → List Rows → Type 0
AreRows span root hands count rows = (place : ℕ) → place < count → HasRows span (placed_hand root hands place) (slice_index_or rows place no_rows)

-- the greatest number of some places where so many turns are left, and no less than a least one
abbrev pub greatest_of : Column → List Rows → ℕ → ℕ → List ℕ → ℕ
greatest_of column rows left least places = max (greatest (placed_number column rows left) places) least

-- the sum over some draws of their live copies times this
abbrev pub begun_with : Column → List Rows → ℕ → ℕ → List Draw → ℕ
begun_with column rows left least draws = draws_value (placed_number column rows left) least draws
