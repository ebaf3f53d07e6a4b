-- What is told of the hands of some rows, a column for each part.
use Rattle.std.specs.Prelude.{◌≡◌, ℕ, Bool, ◌-◌, ◌^◌, ◌==◌, if◌then◌else◌, ℤ, negsuc, List, [], ◌∷◌, ◌++◌, Option, Some, None, drop, map, slice_index_or}
use Rattle.std.specs.List.{list_any, range_with_len}
use Rattle.riichi_arrays.specs.Hands.{hand_in, no_melds, no_tiles, shape_in}
use Rattle.riichi_arrays.specs.declared.shape_columns.ShapeRow.{ShapeRow}
use Rattle.riichi_arrays.specs.declared.discard_columns.DiscardsRow.{DiscardsRow}
use Rattle.riichi_arrays.specs.declared.hands.Hands.{Hands}
use Rattle.riichi_hand.specs.HandParts.{HandParts, ShapeParts}
use Rattle.riichi_shape.specs.Answer.{shape_answer_of}
use Rattle.riichi_shape.specs.EveryWinning.{shanten_of}
use Rattle.riichi_shape.specs.KeptDiscards.{kinds_in}
use Rattle.riichi_shape.specs.LiveCopies.{copies_from, live_in}
use Rattle.riichi_shape.specs.declared.accepts.Accepts.{Accepts}
use Rattle.riichi_shape.specs.declared.accepts.Accepts.TheVariants.{Thirteen, Fourteen}
use Rattle.riichi_shape.specs.declared.discard.Discard.{Discard}
use Rattle.riichi_split.specs.Waits.{waits_of}
use Rattle.riichi_tiles.specs.HeldKinds.{kinds_where}
use Rattle.riichi_tiles.specs.Melds.{every_kind}

-- The first places of a column have the values of their rows, the others what they had.
abbrev pub IsFilled : {A : Type 0} → (ℕ → A) → ℕ → List A → List A → Type 0
IsFilled value rows before after = after ≡ map value (range_with_len 0 rows) ++ drop rows before

-- the hand of a row; where an array has no more rows, the row has no melds or no tiles
abbrev pub shape_at : List (List ℕ) → List (List ℕ) → List (List ℕ) → ℕ → Option ShapeParts
shape_at counts melds seen row = shape_in (slice_index_or counts row no_tiles) (slice_index_or melds row no_melds) (slice_index_or seen row no_tiles)

abbrev pub hand_at : List (List ℕ) → List (List ℕ) → ℕ → Option HandParts
hand_at counts melds row = hand_in (slice_index_or counts row no_tiles) (slice_index_or melds row no_melds)

-- the same of many hands that stand together
abbrev pub shape_of_row : Hands → ℕ → Option ShapeParts
shape_of_row hands row = shape_at hands.counts.now hands.melds.now hands.seen.now row

abbrev pub hand_of_row : Hands → ℕ → Option HandParts
hand_of_row hands row = hand_at hands.counts.now hands.melds.now row

-- ---- the shanten

-- what a row that is no hand has for a shanten
abbrev pub no_hand : ℤ
no_hand = negsuc 127

abbrev pub shanten_by : Option ShapeParts → ℤ
shanten_by None = no_hand
shanten_by (Some parts) = shanten_of parts.tiles parts.melds

-- ---- what thirteen tiles accept

abbrev pub no_shape : ShapeRow
no_shape = record { shanten = no_hand; accepts = 0; live = no_tiles }

abbrev pub shape_told : ℤ → Accepts → ShapeRow
shape_told shanten (Thirteen accepted) = record { shanten = shanten; accepts = kinds_in accepted; live = copies_from accepted }
shape_told shanten (Fourteen discards) = no_shape

-- the parts of the answer to thirteen tiles
abbrev pub shape_by : Option ShapeParts → ShapeRow
shape_by None = no_shape
shape_by (Some parts) = shape_told (shape_answer_of parts).shanten (shape_answer_of parts).accepts

-- what is told of a row
abbrev pub told_shape : List (List ℕ) → List (List ℕ) → List (List ℕ) → ℕ → ShapeRow
told_shape counts melds seen row = shape_by (shape_at counts melds seen row)

-- ---- the discards of fourteen tiles

-- what is accepted after the discard of a kind, if that is one of these discards
abbrev pub accepted_after : List Discard → ℕ → List (ℕ × ℕ)
accepted_after [] kind = []
accepted_after (discard ∷ discards) kind = if discard.kind == kind then discard.accepted else accepted_after discards kind

abbrev pub has_discard : List Discard → ℕ → Bool
has_discard discards kind = list_any (λ discard. discard.kind == kind) discards

abbrev pub discards_row : ℤ → List Discard → DiscardsRow
discards_row shanten discards = record {
  shanten = shanten;
  kinds = kinds_where (has_discard discards);
  accepts = map (λ kind. kinds_in (accepted_after discards kind)) every_kind;
  live = map (λ kind. live_in (accepted_after discards kind)) every_kind;
}

abbrev pub discards_told : ℤ → Accepts → DiscardsRow
discards_told shanten (Thirteen accepted) = discards_row no_hand []
discards_told shanten (Fourteen discards) = discards_row shanten discards

-- the parts of the answer to fourteen tiles
abbrev pub discards_by : Option ShapeParts → DiscardsRow
discards_by None = discards_row no_hand []
discards_by (Some parts) = discards_told (shape_answer_of parts).shanten (shape_answer_of parts).accepts

abbrev pub told_discards : List (List ℕ) → List (List ℕ) → List (List ℕ) → ℕ → DiscardsRow
told_discards counts melds seen row = discards_by (shape_at counts melds seen row)

-- ---- waits

-- what a row that is no hand of thirteen tiles has for its waits
abbrev pub no_waits : ℕ
no_waits = 2 ^ 64 - 1

abbrev pub waits_by : Option HandParts → ℕ
waits_by None = no_waits
waits_by (Some hand) = waits_of hand
