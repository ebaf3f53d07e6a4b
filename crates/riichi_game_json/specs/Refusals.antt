-- The answer to a line that is refused.
use Rattle.std.specs.Prelude.{ℕ, List, [], ◌++◌, codes, decimal}
use Rattle.riichi_hand.specs.FaultTexts.{line_code_text, notation_code_text, name_text}
use Rattle.riichi_hand.specs.declared.fault.LineFault.{LineFault}
use Rattle.riichi_hand.specs.declared.fault.LineFault.TheVariants.{Line, Notation}
use Rattle.riichi_game_text.specs.FaultTexts.{code_text}
use Rattle.riichi_game_text.specs.declared.fault.GameFault.{GameFault}
use Rattle.riichi_game_text.specs.declared.fault.GameFault.TheVariants.{G7}
use Rattle.riichi_game_text.specs.declared.fault.HandFault.{HandFault}
use Rattle.riichi_game_text.specs.declared.fault.HandFault.TheVariants.{Words, NoYaku, NoWin}

-- the code of a fault of the line, and for a text of tiles its name and the place in it
abbrev pub line_fault_members : LineFault → List ℕ
line_fault_members (Line code) = line_code_text code ++ codes "\""
line_fault_members (Notation name fault) =
    notation_code_text fault.code ++ codes "\",\"text\":\"" ++ name_text name ++ codes "\",\"place\":" ++ decimal fault.place

-- a hand's own answer
abbrev pub hand_members : HandFault → List ℕ
hand_members (Words fault) = codes "\"refused\",\"code\":\"" ++ line_fault_members fault
hand_members NoYaku = codes "\"no yaku\""
hand_members NoWin = codes "\"no win\""

-- the same, where a hand is at fault
abbrev pub hand_member : GameFault → List ℕ
hand_member (G7 hand) = codes ",\"hand\":{\"answer\":" ++ hand_members hand ++ codes "}"
hand_member other = []

abbrev pub refused_members : GameFault → List ℕ
refused_members fault = codes "\"answer\":\"refused\",\"code\":\"" ++ code_text fault ++ codes "\"" ++ hand_member fault ++ codes "}"
