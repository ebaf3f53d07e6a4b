-- The order of the discards of a hand.
use Rattle.std.specs.Prelude.{◌≡◌, ℕ, ◌<◌, ◌⊎◌, List, [], ◌∷◌}
use Rattle.std.specs.List.{AllByRecursion}
use Rattle.riichi_tiles.specs.declared.meld.Meld.{Meld}
use Rattle.riichi_shape.specs.Discards.{discards_of, live_with}
use Rattle.riichi_shape.specs.declared.discard.Discard.{Discard}

-- more live copies in all, or as many and a lesser kind
abbrev pub StandsBefore : Discard → Discard → Type 0
StandsBefore discard next = (live_with next < live_with discard) ⊎ ((live_with next ≡ live_with discard) × (discard.kind < next.kind))

-- a discard stands before each of these
abbrev pub StandsBeforeAll : Discard → List Discard → Type 0
StandsBeforeAll discard rest = AllByRecursion (StandsBefore discard) rest

-- each stands before all later ones
abbrev pub AreOrdered : List Discard → Type 0
AreOrdered [] = Unit {0}
AreOrdered (discard ∷ rest) = StandsBeforeAll discard rest × AreOrdered rest

abbrev pub OrderLaw : Type 0
OrderLaw = (hand : List ℕ) (melds : List Meld) (seen : List ℕ) → AreOrdered (discards_of hand melds seen)
