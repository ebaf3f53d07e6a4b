-- The best discards of a hand with what stands beyond the next step, in an order.
use Rattle.std.specs.Prelude.{ℕ, Bool, true, nat_le, List, [], ◌∷◌, map, Option, Some, None, codes}
use Rattle.riichi_hand.specs.HandParts.{ShapeParts}
use Rattle.riichi_shape.specs.Discards.{discards_of, inserted_by}
use Rattle.riichi_shape.specs.declared.discard.Discard.{Discard}
use Rattle.riichi_deeper.specs.Deeper.{deeper_without}
use Rattle.riichi_deeper.specs.declared.outlook.Outlook.{Outlook}
use Rattle.riichi_study.specs.declared.order.Order.{Order}
use Rattle.riichi_study.specs.declared.order.Order.TheVariants.{Live, Second, Good}
use Rattle.riichi_study.specs.declared.prospect.Prospect.{Prospect}

-- a discard, with what stands beyond the next step after it
abbrev pub prospect_of : ShapeParts → Discard → Prospect
prospect_of parts discard = record { discard = discard; outlook = deeper_without parts discard.kind }

-- by live copies all figures are alike, since the discards of a hand stand in that order
abbrev pub figure_of : Order → Option Outlook → ℕ
figure_of order None = 0
figure_of Live (Some outlook) = 0
figure_of Second (Some outlook) = outlook.second
figure_of Good (Some outlook) = outlook.good

abbrev pub figure : ShapeParts → Order → Discard → ℕ
figure parts order discard = figure_of order (deeper_without parts discard.kind)

-- each put before the first of those behind it whose figure is no greater: so the greatest come first, and equals stay as they stood
unfoldable pub ordered_by : (Discard → ℕ) → List Discard → List Discard
ordered_by key [] = []
ordered_by key (discard ∷ rest) = inserted_by key discard (ordered_by key rest)

-- the best discards of a hand
unfoldable pub ordered_discards : ShapeParts → Order → List Discard
ordered_discards parts order = ordered_by (figure parts order) (discards_of parts.tiles parts.melds parts.seen)

-- the best discards of a hand in an order, each with what stands beyond
abbrev pub prospects_of : ShapeParts → Order → List Prospect
prospects_of parts order = map (prospect_of parts) (ordered_discards parts order)

-- the word of an order, as a line says it
abbrev pub order_word : Order → List ℕ
order_word Live = codes "live"
order_word Second = codes "second"
order_word Good = codes "good"

-- ---- as they are kept

abbrev pub kept_prospect : ShapeParts → Discard → Option Prospect
kept_prospect parts discard = Some (prospect_of parts discard)

abbrev pub gives_way_to : Order → ℕ → Option Prospect → Bool
gives_way_to order least None = true
gives_way_to order least (Some prospect) = nat_le (figure_of order prospect.outlook) least
