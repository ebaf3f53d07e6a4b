-- The answer to a line that is refused.
use Rattle.std.specs.Prelude.{ℕ, List, [], ◌++◌, codes}
use Rattle.riichi_hand.specs.FaultTexts.{fault_text}
use Rattle.riichi_game_text.specs.declared.fault.GameFault.{GameFault}
use Rattle.riichi_game_text.specs.declared.fault.GameFault.TheVariants.{G1, G2, G3, G4, G5, G6, G7, G8, G9, G10, G11, G12, G13, G14}
use Rattle.riichi_game_text.specs.declared.fault.HandFault.{HandFault}
use Rattle.riichi_game_text.specs.declared.fault.HandFault.TheVariants.{Words, NoYaku, NoWin}

abbrev pub code_text : GameFault → List ℕ
code_text G1 = codes "G1"
code_text G2 = codes "G2"
code_text G3 = codes "G3"
code_text G4 = codes "G4"
code_text G5 = codes "G5"
code_text G6 = codes "G6"
code_text (G7 hand) = codes "G7"
code_text G8 = codes "G8"
code_text G9 = codes "G9"
code_text G10 = codes "G10"
code_text G11 = codes "G11"
code_text G12 = codes "G12"
code_text G13 = codes "G13"
code_text G14 = codes "G14"

-- the hand's own answer, behind a space
abbrev pub hand_fault_text : HandFault → List ℕ
hand_fault_text (Words fault) = codes " " ++ fault_text fault
hand_fault_text NoYaku = codes " no yaku"
hand_fault_text NoWin = codes " no win"

abbrev pub behind_code : GameFault → List ℕ
behind_code (G7 hand) = hand_fault_text hand
behind_code other = []

-- `refused G4`, or `refused G7 no win`
abbrev pub refused_text : GameFault → List ℕ
refused_text fault = codes "refused " ++ code_text fault ++ behind_code fault
