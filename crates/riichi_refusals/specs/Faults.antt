-- What a refusal asks for, in words.
use Rattle.std.specs.Prelude.{ℕ, ◌==◌, List, [], ◌∷◌, nat_eq, codes, slice_index_or, Option, None, Some, unwrap_or, if◌then◌else◌}
use Rattle.std.specs.List.{starts_with}
use Rattle.riichi_tiles.specs.declared.notation.NotationCode.{NotationCode}
use Rattle.riichi_tiles.specs.declared.notation.NotationCode.TheVariants.{N1, N2, N3, N4, N5, N6}
use Rattle.riichi_hand.specs.declared.fault.LineCode.{LineCode}
use Rattle.riichi_hand.specs.declared.fault.LineCode.TheVariants.{H1, H2, H3, H4, H5, H6, H7, H8, H9, H10, H11, H12, H13, H14, H15, H16}
use Rattle.riichi_hand.specs.declared.fault.LineFault.{LineFault}
use Rattle.riichi_hand.specs.declared.fault.LineFault.TheVariants.{Line, Notation}
use Rattle.riichi_hand.specs.declared.line.job_name.JobName.{JobName}
use Rattle.riichi_hand.specs.declared.line.job_name.JobName.TheVariants.{Win, Waits, Shape}
use Rattle.riichi_hand.specs.declared.line.key.Key.{Key}
use Rattle.riichi_hand.specs.Keys.{has_key, key_meaning}

-- what holds of a line without this fault
abbrev pub line_words : LineCode → List ℕ
line_words H1 = codes "a line has at most 4096 bytes, all of them printable ASCII"
line_words H2 = codes "the first word is win, waits or shape"
line_words H3 = codes "the second word is the hand, and has no ="
line_words H4 = codes "a further word is a key that the job has, =, and a value that the key may have"
line_words H5 = codes "no key stands twice"
line_words H6 = codes "a win tells on, by, seat and round"
line_words H7 = codes "open is one to four melds joined by commas: chi:, pon:, kan: or ankan: and their tiles"
line_words H8 = codes "a hand has 13 tiles, a shape 13 or 14, three fewer for each meld; on has one tile, dora and ura at most five"
line_words H9 = codes "there are four tiles of a kind in all"
line_words H10 = codes "riichi needs a concealed hand"
line_words H11 = codes "ippatsu and ura need riichi"
line_words H12 = codes "rinshan is a win by tsumo, beside a kong"
line_words H13 = codes "chankan is a win by ron"
line_words H14 = codes "rinshan goes with neither last nor ippatsu, chankan not with last"
line_words H15 = codes "first is a win by tsumo, or under blessing-of-man by ron of any seat but East, without melds, riichi or another flag"
line_words H16 = codes "a red five is one of the fives"

-- what holds of a text of tiles without this fault
abbrev pub notation_words : NotationCode → List ℕ
notation_words N1 = codes "a text of tiles is not empty"
notation_words N2 = codes "a digit or one of m p s z stands here"
notation_words N3 = codes "a letter m, p, s or z stands after the digits"
notation_words N4 = codes "a digit stands before the letter"
notation_words N5 = codes "honours are 1z to 7z"
notation_words N6 = codes "there are four tiles of a kind"

abbrev pub fault_words : LineFault → List ℕ
fault_words (Line code) = line_words code
fault_words (Notation name fault) = notation_words fault.code

-- ---- what may stand in a place

-- `rules` begins no record
abbrev pub first_word_words : Option (List ℕ) → List ℕ
first_word_words None = line_words H2
first_word_words (Some word) = if starts_with nat_eq word (codes "rules") then codes "rules 1 or rules 2 stands alone, in the first line" else line_words H2

abbrev pub keys_words : JobName → List ℕ
keys_words Waits = codes "after the hand of waits stands open= alone"
keys_words Shape = codes "after the hand of shape stand open= and seen= alone"
keys_words Win = codes "after the hand of win stand on=, by=, seat=, round=, open=, riichi=, flags=, dora=, ura=, counters= and sticks= alone"

-- the values of a key that the job can have, where another value is a fault; else the keys
abbrev pub job_words : JobName → Option Key → List ℕ
job_words job None = keys_words job
job_words job (Some key) = if has_key job key then unwrap_or (key_meaning key) (keys_words job) else keys_words job

-- what may stand after the hand in place of a word of this key
unfoldable pub entry_words : Option JobName → Option Key → List ℕ
entry_words None key = line_words H4
entry_words (Some job) key = job_words job key

-- a byte that is no printable ASCII
unfoldable pub byte_words : List ℕ → ℕ → List ℕ
byte_words line place =
    if starts_with nat_eq line (239 ∷ 187 ∷ 191 ∷ []) then codes "a byte order mark stands here: save the text without it"
    else (if slice_index_or line place 0 == 9 then codes "a tab stands here: words are parted by spaces"
    else codes "a byte outside printable ASCII stands here")
