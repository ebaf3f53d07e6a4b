-- Which discards the list of a hand of fourteen tiles has.
use Rattle.std.specs.Prelude.{◌≡◌, ℕ, ◌<◌, ◌≤◌, ◌↔◌, List, Contains, slice_index}
use Rattle.riichi_hand.specs.HandParts.{ShapeParts}
use Rattle.riichi_tiles.specs.declared.meld.Meld.{Meld}
use Rattle.riichi_shape.specs.Discards.{discard_of, discards_of, distance_without}
use Rattle.riichi_shape.specs.declared.accepts.Accepts.{Accepts}
use Rattle.riichi_shape.specs.declared.accepts.Accepts.TheVariants.{Thirteen, Fourteen}
use Rattle.riichi_shape.specs.declared.discard.Discard.{Discard}

-- The hand holds the kind, and without a tile of no other kind that it holds it lacks fewer.
pub record LeavesLeast (hand : List ℕ) (melds : List Meld) (kind : ℕ) : Type 0 where
  pub is_kind : kind < 34
  pub held : 0 < slice_index hand kind
  pub none_less : (other : ℕ) → other < 34 → 0 < slice_index hand other → distance_without hand melds kind ≤ distance_without hand melds other

-- the list has the discards of just these kinds
abbrev pub AreDiscards : List ℕ → List Meld → List ℕ → List Discard → Type 0
AreDiscards hand melds seen discards =
    (discard : Discard) → Contains discards discard ↔ (LeavesLeast hand melds discard.kind × (discard ≡ discard_of hand melds seen discard.kind))

-- the answer to fourteen tiles has just these discards
abbrev pub HasDiscards : ShapeParts → Accepts → Type 0
HasDiscards parts (Thirteen live) = Unit {0}
HasDiscards parts (Fourteen discards) = AreDiscards parts.tiles parts.melds parts.seen discards

abbrev pub DiscardsLaw : Type 0
DiscardsLaw = (hand : List ℕ) (melds : List Meld) (seen : List ℕ) → AreDiscards hand melds seen (discards_of hand melds seen)
