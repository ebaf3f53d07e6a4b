-- What is told of a word with a wrong number of tiles.
use Rattle.std.specs.Prelude.{◌≡◌, ℕ, ◌≤◌, ◌==◌, ◌+◌, ◌-◌, ◌*◌, List, [], ◌++◌, Bool, false, ◌&&◌, Option, None, Some, length, nat_le, nat_lt, count_by, decimal, codes, option_and_then, slice_index, if◌then◌else◌}
use Rattle.std.specs.Option.{option_map_or}
use Rattle.riichi_tiles.specs.Notation.{is_digit}
use Rattle.riichi_hand.specs.declared.line.job_name.JobName.{JobName}
use Rattle.riichi_hand.specs.declared.line.job_name.JobName.TheVariants.{Win, Shape}
use Rattle.riichi_hand.specs.declared.line.key.Key.{Key}
use Rattle.riichi_hand.specs.declared.line.key.Key.TheVariants as key
use Rattle.riichi_hand.specs.Keys.{key_name}
use Rattle.riichi_hand.specs.Words.{word_of}
use Rattle.riichi_hand.specs.Places.{from_key}
use Rattle.riichi_hints.specs.declared.text.TheConstants.{PART}
use Rattle.riichi_hints.specs.declared.tiles.Tile.{Tile}
use Rattle.riichi_hints.specs.Crowd.{copies_on_line, count_text}

-- ---- the numbers of a line

-- each digit of a word that spells tiles is one
abbrev pub tiles_in : List ℕ → ℕ
tiles_in word = count_by is_digit word

-- each meld of a word has one `:`, between its name and its tiles
abbrev pub melds_in_word : List ℕ → ℕ
melds_in_word word = count_by (λ byte. byte == 58) word

abbrev pub melds_on_line : List ℕ → ℕ
melds_on_line line = option_map_or (λ from. melds_in_word (word_of from)) (from_key key.Open 0 line) 0

-- thirteen tiles stand in a hand before the last is drawn, three fewer for each meld
abbrev pub wanted_in_hand : List ℕ → ℕ
wanted_in_hand line = 13 - 3 * melds_on_line line

-- ---- the winning tile

-- the digit and the letter with which a text ends
abbrev pub last_tile : List ℕ → Option Tile
last_tile text = if nat_le 2 (length text) then Some (record { digit = slice_index text (length text - 2); suit = slice_index text (length text - 1) }) else None

abbrev pub winning_tile : List ℕ → Option Tile
winning_tile line = option_and_then (λ from. last_tile (word_of from)) (from_key key.On 0 line)

abbrev pub holds_tile : List ℕ → Option Tile → Bool
holds_tile hand None = false
holds_tile hand (Some tile) = nat_lt 0 (copies_on_line tile.digit tile.suit hand)

-- the hand has one tile more than is wanted, and the winning tile is among them
abbrev pub may_have_counted : List ℕ → List ℕ → Bool
may_have_counted line hand = (tiles_in hand == wanted_in_hand line + 1) && holds_tile hand (winning_tile line)

-- ---- what is told

-- how many tiles a key wants
abbrev pub wanted_of : Key → List ℕ
wanted_of key.On = codes ": 1 wanted"
wanted_of key = codes ": at most 5 wanted"

abbrev pub doubt_text : List ℕ → List ℕ → List ℕ
doubt_text line hand = if may_have_counted line hand then codes "; it may have been counted in the hand too" else []

abbrev pub wanted_by_win_text : List ℕ → List ℕ → List ℕ
wanted_by_win_text line hand = codes " wanted beside the winning tile of on=" ++ doubt_text line hand

-- what follows the number of tiles that is wanted: a shape may have one more, a win has its winning tile beside the hand
abbrev pub job_text : Option JobName → List ℕ → List ℕ → List ℕ
job_text (Some Shape) line hand = codes " or " ++ (decimal (wanted_in_hand line + 1) ++ codes " wanted")
job_text (Some Win) line hand = wanted_by_win_text line hand
job_text job line hand = codes " wanted"

abbrev pub wanted_in_hand_text : Option JobName → List ℕ → List ℕ → List ℕ
wanted_in_hand_text job line hand = (codes " and " ++ count_text (melds_on_line line) (codes "meld")) ++ (codes ": " ++ (decimal (wanted_in_hand line) ++ job_text job line hand))

-- a word without a key is the hand
abbrev pub subject : Option Key → List ℕ
subject None = codes "hand"
subject (Some key) = key_name key

abbrev pub wanted_text : Option Key → Option JobName → List ℕ → List ℕ → List ℕ
wanted_text None job line word = wanted_in_hand_text job line word
wanted_text (Some key) job line word = wanted_of key

-- how many tiles the word has, and how many are wanted
abbrev pub number_text : Option Key → Option JobName → List ℕ → List ℕ → List ℕ
number_text key job line word = subject key ++ ((codes " has " ++ count_text (tiles_in word) (codes "tile")) ++ wanted_text key job line word)

-- The note tells this of the word, where there is room.
abbrev pub IsNumberNote : Option Key → Option JobName → List ℕ → List ℕ → List ℕ → Type 0
IsNumberNote key job line word note = let text = number_text key job line word in length text ≤ PART → note ≡ text
