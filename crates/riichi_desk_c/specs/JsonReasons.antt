-- What a program is answered as JSON, with why a win is answered so.
use Rattle.std.specs.Prelude.{◌≡◌, ℕ, List, Option, None, Some}
use Rattle.riichi_hand.specs.Rules.{Rules}
use Rattle.riichi_hand.specs.declared.win.WinParts.{WinParts}
use Rattle.riichi_hand.specs.Lines.{outcome_of}
use Rattle.desk_lines.specs.Reasoned.{win_in}
use Rattle.desk_reasons.specs.Reasons.{IsExplainedWin}
use Rattle.riichi_desk_c.specs.JsonReplies.{json_reply_to}
use Rattle.riichi_desk_c.specs.Reasons.{IsPlaced}
use Rattle.riichi_desk_c.specs.Replies.{rules_numbered}

-- the win that a line is under a profile, if it is one
abbrev pub win_under : Option Rules → List ℕ → Option WinParts
win_under None line = None
win_under (Some rules) line = win_in (outcome_of rules line)

-- a win is answered with its reasons, and any other line as it is without
abbrev pub IsReasonedReply : ℕ → List ℕ → Option WinParts → List ℕ → Type 0
IsReasonedReply number line None text = text ≡ json_reply_to number line
IsReasonedReply number line (Some win) text = IsExplainedWin win text

-- Into the room was put such an answer under the profile of this number.
abbrev pub PlacesReasoned : ℕ → List ℕ → ℕ → List ℕ → List ℕ → Type 0
PlacesReasoned number line needed before after =
    (text : List ℕ) × IsReasonedReply number line (win_under (rules_numbered number) line) text × IsPlaced text needed before after
