-- What a question finds, before it is told in any form.
use Rattle.std.specs.Prelude.{ℕ, ℤ, List, Option, if◌then◌else◌}
use Rattle.riichi_hand.specs.Hand.{is_thirteen}
use Rattle.riichi_hand.specs.HandParts.{ShapeParts}
use Rattle.riichi_shape.specs.Accepted.{accepted_of}
use Rattle.riichi_shape.specs.EveryWinning.{shanten_of}
use Rattle.riichi_shape.specs.declared.shape_answer.ShapeAnswer.{ShapeAnswer}
use Rattle.riichi_deeper.specs.Calls.{calls_of, kong_of}
use Rattle.riichi_deeper.specs.Deeper.{deeper_of}
use Rattle.riichi_deeper.specs.declared.gains.Call.{Call}
use Rattle.riichi_deeper.specs.declared.outlook.Outlook.{Outlook}
use Rattle.riichi_safe.specs.SafeParts.{SafeParts}
use Rattle.riichi_study.specs.declared.order.Order.{Order}
use Rattle.riichi_study.specs.declared.prospect.Prospect.{Prospect}
use Rattle.riichi_study.specs.declared.study.Study.{Study}
use Rattle.riichi_study.specs.declared.study.Study.TheVariants as asks
use Rattle.riichi_study.specs.CallParts.{CallParts}
use Rattle.riichi_study.specs.Prospects.{prospects_of}
use Rattle.riichi_study.specs.WorthParts.{WorthParts}

-- Thirteen tiles: their shanten, what they accept, and what stands beyond their next step. Fourteen: their shanten, and the best discards
-- in an order. Calls: the shanten, the thrown tile, the calls that bring nearer, and what a kong leads to. Safety: the record, chances: the hand
-- and the turns that are to come, and worth: its record and these, of which all that is told is found by itself.
pub data Finding : Type 0 where
  Hand : ℤ → List (ℕ × ℕ) → Option Outlook → Finding
  Discards : ℤ → Order → List Prospect → Finding
  Calls : ℤ → ℕ → List (Option Call) → Option ShapeAnswer → Finding
  Safety : SafeParts → Finding
  Chances : ShapeParts → ℕ → Finding
  Worth : WorthParts → ℕ → Finding

unfoldable pub shape_finding : ShapeParts → Order → Finding
shape_finding parts order =
    if is_thirteen parts.tiles parts.melds
    then Hand (shanten_of parts.tiles parts.melds) (accepted_of parts.tiles parts.melds parts.seen) (deeper_of parts)
    else Discards (shanten_of parts.tiles parts.melds) order (prospects_of parts order)

unfoldable pub calls_finding : CallParts → Finding
calls_finding parts =
    Calls (shanten_of parts.hand.tiles parts.hand.melds) parts.thrown.tile (calls_of parts.hand parts.thrown) (kong_of parts.hand parts.thrown.tile)

abbrev pub finding_of : Study → Finding
finding_of (asks.Shape parts order) = shape_finding parts order
finding_of (asks.Calls parts) = calls_finding parts
finding_of (asks.Safe parts) = Safety parts
finding_of (asks.Chances parts turns) = Chances parts turns
finding_of (asks.Worth parts turns) = Worth parts turns
