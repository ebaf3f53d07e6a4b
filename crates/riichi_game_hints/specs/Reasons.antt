-- What is wrong with a line, in words.
use Rattle.std.specs.Prelude.{◌≡◌, ◌≤◌, ℕ, length, Bool, true, false, List, [], ◌∷◌, ◌++◌, codes, decimal, Option, None, Some}
use Rattle.std.specs.Str.{bytes_eq}
use Rattle.riichi_table.specs.Players.{of_player}
use Rattle.riichi_table.specs.declared.player.Player.{Player}
use Rattle.riichi_table.specs.declared.player.ByPlayer.{ByPlayer}
use Rattle.riichi_game_text.specs.Names.{player_named}
use Rattle.riichi_game_text.specs.Words.{said_in}
use Rattle.riichi_game_text.specs.declared.fault.GameFault.{GameFault}
use Rattle.riichi_game_text.specs.declared.fault.GameFault.TheVariants.{G1, G2, G3, G4, G5, G6, G7, G8, G9, G10, G11, G12, G13, G14}
use Rattle.riichi_game_text.specs.declared.fault.HandFault.{HandFault}
use Rattle.riichi_game_text.specs.declared.fault.HandFault.TheVariants.{Words, NoYaku, NoWin}
use Rattle.riichi_game_drafts.specs.Nearest.{nearest_player}
use Rattle.riichi_game_hints.specs.declared.reason.Reason.{Reason}
use Rattle.riichi_game_hints.specs.declared.reason.Reason.TheVariants.{First, Undone, Points, Stranger, Unknown, Payment, Value, Hundreds, Code}
use Rattle.riichi_game_hints.specs.declared.sums.Sum.{Sum}
use Rattle.riichi_game_hints.specs.declared.sums.Sum.TheVariants.{Right, More, Less}

-- ---- what a code says

abbrev pub hand_fault_words : HandFault → List ℕ
hand_fault_words (Words fault) = codes "the words of the hand are at fault: its tiles, on= and the tile that it was won on, open=, dora="
hand_fault_words NoYaku = codes "the hand has no yaku"
hand_fault_words NoWin = codes "the tiles and the one of on= are no winning hand"

abbrev pub game_fault_words : GameFault → List ℕ
game_fault_words G1 = codes "the line is over 4096 bytes, no UTF-8, or has a control byte, as a tab"
game_fault_words G2 = codes "a line begins with ron, tsumo, draw, abort, chombo, penalty, stands, end, undo or game"
game_fault_words G3 = codes "behind game stand four names that differ, or none, and words of the rules, each once"
game_fault_words G4 = codes "words are missing, too many or out of order, or a number can't be"
game_fault_words G5 = codes "a name stands twice, or a player can't be what it says: a winner is neither the discarder nor liable"
game_fault_words G6 = codes "no hand has this value: fu are 20, 25 or a ten from 30 on, by han"
game_fault_words (G7 hand) = hand_fault_words hand
game_fault_words G8 = codes "the rules of this game have it off: behind game, liable=on or nagashi=on turns it on"
game_fault_words G9 = codes "who has fewer than 1000 points can't bet in this game"
game_fault_words G10 = codes "who declared riichi is ready"
game_fault_words G11 = codes "the points and 1000 for each stick aren't four times the start, or the rules have no such round"
game_fault_words G12 = codes "there would be over 99 counters or sticks, or more points than are kept"
game_fault_words G13 = codes "the game is over: only a penalty may follow, an undo or another game"
game_fault_words G14 = codes "a line of this game is refused: undo takes it back, and those behind it"

-- by how much the points of a written state are said to miss
abbrev pub missed_words : ℕ → List ℕ → List ℕ
missed_words points side = codes "the points with 1000 for each stick are " ++ decimal points ++ side ++ codes " than four times the start"

abbrev pub sum_words : Option Sum → List ℕ
sum_words None = codes "the points don't add up, or the rules of this game have no such round"
sum_words (Some Right) = codes "the rules of this game have no such round"
sum_words (Some (More points)) = missed_words points (codes " more")
sum_words (Some (Less points)) = missed_words points (codes " less")

-- the word `undo` alone
unfoldable pub is_undo_line : List (List ℕ) → Bool
is_undo_line (word ∷ []) = bytes_eq word (codes "undo")
is_undo_line words = false

-- ---- a word at fault

-- `no line begins with Ron`
abbrev pub first_words : List ℕ → List ℕ
first_words word = codes "no line begins with " ++ word ++ codes ": ron, tsumo, draw, abort, chombo, penalty, stands, end, undo and game do"

-- the names of the four
abbrev pub all_names : ByPlayer (List ℕ) → List ℕ
all_names names =
    (names.first ++ codes ", ") ++ (names.second ++ codes ", ") ++ (names.third ++ codes " or ") ++ (names.fourth ++ codes "")

-- the nearest name, where there is one
abbrev pub nearest_words : ByPlayer (List ℕ) → Option Player → List ℕ
nearest_words names None = all_names names
nearest_words names (Some player) = of_player names player ++ codes "?"

-- `Bob is no player: Bo?`
abbrev pub stranger_words : ByPlayer (List ℕ) → List ℕ → List ℕ
stranger_words names word = word ++ codes " is no player: " ++ nearest_words names (nearest_player names word)

abbrev pub unknown_words : List ℕ → List ℕ
unknown_words word = word ++ codes " is no word of such a line"

abbrev pub payment_words : List ℕ → List ℕ
payment_words points = points ++ codes " are points: a value is HAN.FU, as 3.40, or a limit hand, as mangan"

-- ---- the reason

abbrev pub line_fault_words : ByPlayer (List ℕ) → GameFault → Reason → List ℕ
line_fault_words names fault (First word) = first_words word.now
line_fault_words names fault Undone = codes "there is no line to take back"
line_fault_words names fault (Points sum) = sum_words sum
line_fault_words names fault (Stranger word) = stranger_words names word.now
line_fault_words names fault (Unknown word) = unknown_words word.now
line_fault_words names fault (Payment points) = payment_words points.now
line_fault_words names fault Value = codes "a value is HAN.FU, as 3.40, a limit hand, as mangan, or a hand with on= and its last tile"
line_fault_words names fault Hundreds = codes "points are whole hundreds, up to 1000000"
line_fault_words names fault Code = game_fault_words fault

-- What is promised of a reason: the first word of a line is told that is refused for its first word; a lone `undo` is said to take nothing
-- back; points are added up of a written state that doesn't add up; who is told to be no player is none.
abbrev pub Holds : ByPlayer (List ℕ) → List ℕ → GameFault → Reason → Type 0
Holds names line fault (First word) = (others : List (List ℕ)) × (fault ≡ G2) × (said_in line ≡ word.now ∷ others)
Holds names line fault Undone = (fault ≡ G4) × (is_undo_line (said_in line) ≡ true)
Holds names line fault (Points sum) = fault ≡ G11
Holds names line fault (Stranger word) = player_named names word.now ≡ None
Holds names line fault (Unknown word) = Unit {0}
Holds names line fault (Payment points) = Unit {0}
Holds names line fault Value = Unit {0}
Holds names line fault Hundreds = Unit {0}
Holds names line fault Code = Unit {0}

-- so it is whoever plays
abbrev pub HoldsByLine : List ℕ → GameFault → Reason → Type 0
HoldsByLine line fault reason = (names : ByPlayer (List ℕ)) → Holds names line fault reason

-- The text says what is wrong with a line that is refused for this fault.
abbrev pub IsLineReason : ByPlayer (List ℕ) → List ℕ → GameFault → List ℕ → Type 0
IsLineReason names line fault text = (reason : Reason) × Holds names line fault reason × (text ≡ line_fault_words names fault reason)

-- the word that is told is a short one
abbrev pub IsShort : Reason → Type 0
IsShort (First word) = length word.now ≤ 40
IsShort Undone = Unit {0}
IsShort (Points sum) = Unit {0}
IsShort (Stranger word) = length word.now ≤ 40
IsShort (Unknown word) = length word.now ≤ 40
IsShort (Payment points) = length points.now ≤ 40
IsShort Value = Unit {0}
IsShort Hundreds = Unit {0}
IsShort Code = Unit {0}
