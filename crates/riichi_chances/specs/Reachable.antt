-- Which hands a hand may come to, and how many they are.
use Rattle.std.specs.Prelude.{◌≡◌, ℕ, ◌<◌, ◌≤◌, true, nat_eq, if◌then◌else◌, List, [], ◌∷◌, length, map, All, Contains, OnErr, OnOk, Result}
use Rattle.std.specs.Cmp.Lexicographic.{pointwise}
use Rattle.std.specs.List.{IsDistinct}
use Rattle.riichi_hand.specs.Hand.{is_thirteen}
use Rattle.riichi_hand.specs.HandParts.{ShapeParts}
use Rattle.riichi_shape.specs.Accepted.{is_accepted, with_one, without_one}
use Rattle.riichi_shape.specs.Discards.{discards_of, is_discard}
use Rattle.riichi_shape.specs.EveryWinning.{distance_of}
use Rattle.riichi_deeper.specs.Drawn.{parts_without}
use Rattle.riichi_chances.specs.Draws.{is_there}
use Rattle.riichi_chances.specs.Graph.{HandGraph, discard_kinds, most_hands_in}

-- some hands of thirteen tiles, with the melds of one and what that sees
pub record HandGroup : Type 0 where
  pub root : ShapeParts
  pub firsts : List (List ℕ)

-- a hand that isn't ready draws a tile that it accepts, and makes a best discard
pub record IsStep (root : ShapeParts) (hand : List ℕ) (kind thrown : ℕ) : Type 0 where
  pub far : 1 < distance_of hand root.melds
  pub is_kind : kind < 34
  pub accepted : is_accepted hand root.melds root.seen kind ≡ true
  pub is_thrown : thrown < 34
  pub best : is_discard (with_one hand kind) root.melds thrown ≡ true

-- the hands of a group, and all that such steps lead to
pub data MayCome (group : HandGroup) : List ℕ → Type 0 where
  AtFirst : (hand : List ℕ) → Contains group.firsts hand → MayCome group hand
  ByStep : (hand : List ℕ) (kind thrown : ℕ) → MayCome group hand → IsStep group.root hand kind thrown → MayCome group (without_one (with_one hand kind) thrown)

-- all of them are among so many hands
pub record ComesToFew (most : ℕ) (group : HandGroup) : Type 0 where
  pub hands : List (List ℕ)
  pub few : length hands ≤ most
  pub all : (hand : List ℕ) → MayCome group hand → Contains hands hand

-- they are more than so many
pub record ComesToMore (most : ℕ) (group : HandGroup) : Type 0 where
  pub hands : List (List ℕ)
  pub more : most < length hands
  pub different : IsDistinct (pointwise nat_eq) hands
  pub each : All (MayCome group) hands

-- all of them have room in some places, of which each wants a row beside it; or they have none
abbrev pub HaveRoom : {A B : Type 0} → List A → List B → HandGroup → Type 0
HaveRoom places rows = ComesToFew (most_hands_in (length places) (length rows))

abbrev pub HaveNoRoom : {A B : Type 0} → List A → List B → HandGroup → Type 0
HaveNoRoom places rows = ComesToMore (most_hands_in (length places) (length rows))

-- a hand by itself
abbrev pub by_itself : ShapeParts → HandGroup
by_itself parts = record { root = parts; firsts = parts.tiles ∷ [] }

-- what the best discards of fourteen tiles leave
abbrev pub together : ShapeParts → HandGroup
together drawn = record { root = drawn; firsts = map (without_one drawn.tiles) (discard_kinds (discards_of drawn.tiles drawn.melds drawn.seen)) }

-- of a won hand each by itself, since it may accept what was thrown
abbrev pub groups_of : ShapeParts → List HandGroup
groups_of drawn = if is_there 0 drawn then map (λ kind. by_itself (parts_without drawn kind)) (discard_kinds (discards_of drawn.tiles drawn.melds drawn.seen)) else together drawn ∷ []

-- thirteen tiles by themselves, or fourteen by what they leave: some of these come to more than so many
abbrev pub groups_asked : ShapeParts → List HandGroup
groups_asked parts = if is_thirteen parts.tiles parts.melds then by_itself parts ∷ [] else groups_of parts

abbrev pub ComesToTooMany : ℕ → ShapeParts → Type 0
ComesToTooMany most parts = (group : HandGroup) × Contains (groups_asked parts) group × ComesToMore most group

-- of fourteen tiles: some of the groups have none
abbrev pub SomeHaveNoRoom : {A B : Type 0} → List A → List B → ShapeParts → Type 0
SomeHaveNoRoom places rows drawn = (group : HandGroup) × Contains (groups_of drawn) group × HaveNoRoom places rows group

-- ---- while the hands are taken

-- all that were taken may be come to
pub record IsWithin (group : HandGroup) (parts : ShapeParts) (graph : HandGraph) : Type 0 where
  pub melds : group.root.melds ≡ parts.melds
  pub seen : group.root.seen ≡ parts.seen
  pub each : All (MayCome group) graph.hands

-- a hand may be come to
abbrev pub HandMayCome : ShapeParts → HandGroup → Type 0
HandMayCome parts group = MayCome group parts.tiles

-- what the best discards leave may be come to
abbrev pub RestsMayCome : ShapeParts → HandGroup → Type 0
RestsMayCome drawn group = (thrown : ℕ) → thrown < 34 → is_discard drawn.tiles drawn.melds thrown ≡ true → MayCome group (without_one drawn.tiles thrown)

-- where a group may come to what is asked, none of its hands is taken that it may not come to
abbrev pub StaysWithin : {A E : Type 0} → (ShapeParts → HandGroup → Type 0) → ShapeParts → HandGraph → HandGraph → Result A E → Type 0
StaysWithin MayBe parts before after result = (group : HandGroup) → IsWithin group parts before → MayBe parts group → OnOk result (All (MayCome group) after.hands)

-- and an answer is refused only where the group comes to more
abbrev pub RefusesMore : {A E : Type 0} → (ShapeParts → HandGroup → Type 0) → ShapeParts → HandGraph → Result A E → Type 0
RefusesMore MayBe parts before result = (group : HandGroup) → IsWithin group parts before → MayBe parts group → OnErr result (ComesToMore before.most_hands group)
