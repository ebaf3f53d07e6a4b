-- The text of a shape's answer.
use Rattle.std.specs.Prelude.{ℕ, ◌+◌, List, [], ◌∷◌, ◌++◌, codes, decimal}
use Rattle.std.specs.Fmt.{signed_decimal}
use Rattle.std.specs.List.{flat_map}
use Rattle.riichi_text.specs.Tiles.{digit_of, letter_of, kind_text}
use Rattle.riichi_shape.specs.LiveCopies.{live_in}
use Rattle.riichi_shape.specs.declared.accepts.Accepts.{Accepts}
use Rattle.riichi_shape.specs.declared.accepts.Accepts.TheVariants.{Thirteen, Fourteen}
use Rattle.riichi_shape.specs.declared.discard.Discard.{Discard}
use Rattle.riichi_shape.specs.declared.shape_answer.ShapeAnswer.{ShapeAnswer}

-- a space, the kind, a colon, and one digit for its live copies
abbrev pub pair_text : ℕ × ℕ → List ℕ
pair_text pair = 32 ∷ digit_of pair.0 ∷ letter_of pair.0 ∷ 58 ∷ (48 + pair.1) ∷ []

-- the accepted kinds, or a dash where there is none
abbrev pub kinds_text : List (ℕ × ℕ) → List ℕ
kinds_text [] = codes " -"
kinds_text (pair ∷ pairs) = flat_map pair_text (pair ∷ pairs)

unfoldable pub list_text : List (ℕ × ℕ) → List ℕ
list_text pairs = codes " accepts" ++ kinds_text pairs ++ codes " live " ++ decimal (live_in pairs)

unfoldable pub discard_text : Discard → List ℕ
discard_text discard = codes " discard " ++ kind_text discard.kind ++ list_text discard.accepted

unfoldable pub accepts_text : Accepts → List ℕ
accepts_text (Thirteen accepted) = list_text accepted
accepts_text (Fourteen discards) = flat_map discard_text discards

unfoldable pub shape_text : ShapeAnswer → List ℕ
shape_text answer = codes "shanten " ++ signed_decimal answer.shanten ++ accepts_text answer.accepts
