-- Why a program is answered as it is.
use Rattle.std.specs.Prelude.{◌≡◌, ◌≤◌, ◌<◌, ◌++◌, ℕ, List, Option, None, Some, length, drop, codes}
use Rattle.riichi_hand.specs.Rules.{Rules}
use Rattle.riichi_explain.specs.declared.explaining.Shown.TheVariants.{BestReading}
use Rattle.riichi_explain.specs.Explanation.{IsExplanation}
use Rattle.riichi_desk_c.specs.Replies.{rules_numbered}

abbrev pub IsReasonUnder : Option Rules → List ℕ → List ℕ → Type 0
IsReasonUnder None line text = text ≡ codes "refused rules"
IsReasonUnder (Some rules) line text = IsExplanation BestReading rules line text

-- The text says why a line is answered as it is under the profile of this number.
abbrev pub IsReason : ℕ → List ℕ → List ℕ → Type 0
IsReason number line text = IsReasonUnder (rules_numbered number) line text

-- A text was put at the start of a room if all of it fits there; `needed` are its bytes.
pub record IsPlaced (text : List ℕ) (needed : ℕ) (before after : List ℕ) : Type 0 where
  pub needed_is : needed ≡ length text
  pub fits : length text ≤ length before → after ≡ text ++ drop (length text) before
  pub untouched : length before < length text → after ≡ before

-- Into the room was put a text that says why the line is answered as it is.
abbrev pub PlacesReason : ℕ → List ℕ → ℕ → List ℕ → List ℕ → Type 0
PlacesReason number line needed before after = (text : List ℕ) × IsReason number line text × IsPlaced text needed before after
