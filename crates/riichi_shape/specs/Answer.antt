-- The answer of a shape.
use Rattle.std.specs.Prelude.{if◌then◌else◌}
use Rattle.riichi_hand.specs.Hand.{is_thirteen}
use Rattle.riichi_hand.specs.HandParts.{ShapeParts}
use Rattle.riichi_shape.specs.Accepted.{accepted_of}
use Rattle.riichi_shape.specs.Discards.{discards_of}
use Rattle.riichi_shape.specs.EveryWinning.{shanten_of}
use Rattle.riichi_shape.specs.declared.accepts.Accepts.{Accepts}
use Rattle.riichi_shape.specs.declared.accepts.Accepts.TheVariants.{Thirteen, Fourteen}
use Rattle.riichi_shape.specs.declared.shape_answer.ShapeAnswer.{ShapeAnswer}

-- thirteen tiles accept kinds; of fourteen one is discarded
unfoldable pub accepts_of : ShapeParts → Accepts
accepts_of parts =
    if is_thirteen parts.tiles parts.melds then Thirteen (accepted_of parts.tiles parts.melds parts.seen)
    else Fourteen (discards_of parts.tiles parts.melds parts.seen)

unfoldable pub shape_answer_of : ShapeParts → ShapeAnswer
shape_answer_of parts = record { shanten = shanten_of parts.tiles parts.melds; accepts = accepts_of parts }
