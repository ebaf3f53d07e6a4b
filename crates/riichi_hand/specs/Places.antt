-- At which word of a line a fault stands. A place is the text of the line from there on.
use Rattle.std.specs.Prelude.{ℕ, ◌-◌, List, [], ◌∷◌, ◌++◌, Bool, false, ◌&&◌, Option, None, Some, option_map, nat_le, drop, length, count_by, if◌then◌else◌}
use Rattle.std.specs.List.{find}
use Rattle.riichi_tiles.specs.Notation.{is_digit}
use Rattle.riichi_hand.specs.declared.fault.LineCode.{LineCode}
use Rattle.riichi_hand.specs.declared.fault.LineCode.TheVariants.{H1, H2, H3, H4, H5, H6, H7, H8, H9, H10, H11, H12, H13, H14, H15, H16}
use Rattle.riichi_hand.specs.declared.fault.LineFault.{LineFault}
use Rattle.riichi_hand.specs.declared.fault.LineFault.TheVariants.{Line, Notation}
use Rattle.riichi_hand.specs.declared.fault.TextName.{TextName}
use Rattle.riichi_hand.specs.declared.fault.TextName.TheVariants as text
use Rattle.riichi_hand.specs.declared.line.job_name.JobName.{JobName}
use Rattle.riichi_hand.specs.declared.line.key.Key.{Key}
use Rattle.riichi_hand.specs.declared.line.key.Key.TheVariants.{On, Dora, Ura, Seen, Open, Riichi, Flags}
use Rattle.riichi_hand.specs.declared.line.record.Place.{Place}
use Rattle.riichi_hand.specs.Words.{from_words, word_of, words_of}
use Rattle.riichi_hand.specs.Keys.{is_same}
use Rattle.riichi_hand.specs.Entries.{is_bad, entries_of, first_item, key_in}
use Rattle.riichi_hand.specs.Parts.{parts_of}

-- ---- words by their key

abbrev pub is_that : Key → Option Key → Bool
is_that key None = false
is_that key (Some other) = is_same key other

-- In a word that spells tiles each digit is one.
abbrev pub has_digits : Key → ℕ → List ℕ → Bool
has_digits key least word = is_that key (key_in word) && nat_le least (count_by is_digit word)

-- from the first word of the key on that has at least so many digits
abbrev pub from_key : Key → ℕ → List ℕ → Option (List ℕ)
from_key key least line = find (λ from. has_digits key least (word_of from)) (from_words line)

-- the first of two, where it is there
abbrev pub or_other : {X : Type 0} → Option X → Option X → Option X
or_other (Some first) other = Some first
or_other None other = other

-- ---- words after the hand

-- from the word on with which the words first pass a test
abbrev pub first_at : (List (List ℕ) → Bool) → List (List ℕ) → List (List ℕ) → Option (List ℕ)
first_at test before [] = None
first_at test before (from ∷ froms) =
    if test (before ++ word_of from ∷ []) then Some from else first_at test (before ++ word_of from ∷ []) froms

-- from the first word on that is no entry of the job
abbrev pub bad_from : JobName → List (List ℕ) → Option (List ℕ)
bad_from job froms = find (λ from. is_bad job (word_of from)) froms

abbrev pub has_doubled : JobName → List (List ℕ) → Bool
has_doubled job words = (entries_of job words).has_doubled_key

-- from the word on with which a key first stands twice
abbrev pub doubled_from : JobName → List (List ℕ) → Option (List ℕ)
doubled_from job froms = first_at (has_doubled job) [] froms

-- where the entries have this fault
abbrev pub entry_from : JobName → LineFault → List (List ℕ) → Option (List ℕ)
entry_from job (Line H4) froms = bad_from job froms
entry_from job (Line H5) froms = doubled_from job froms
entry_from job fault froms = None

-- ---- the word of each fault

-- Of `on`, `dora`, `ura` and the hand the first with a wrong number of tiles: of the others it is the hand that has.
unfoldable pub wrong_number : List ℕ → Option (List ℕ)
wrong_number line =
    or_other (from_key On 2 line)
    (or_other (from_key Dora 6 line)
    (or_other (from_key Ura 6 line) (first_item (drop 1 (from_words line)))))

-- from the word on with a text of tiles
unfoldable pub text_from : TextName → List ℕ → Option (List ℕ)
text_from text.Hand line = first_item (drop 1 (from_words line))
text_from text.On line = from_key On 0 line
text_from text.Dora line = from_key Dora 0 line
text_from text.Ura line = from_key Ura 0 line
text_from text.Seen line = from_key Seen 0 line

-- Where a byte is at fault, a key is missing, or tiles of several words are too many, that is no one word.
unfoldable pub code_from : LineCode → List ℕ → Option (List ℕ)
code_from H1 line = None
code_from H2 line = first_item (from_words line)
code_from H3 line = first_item (drop 1 (from_words line))
code_from H4 line = bad_from (parts_of (words_of line)).job (drop 2 (from_words line))
code_from H5 line = doubled_from (parts_of (words_of line)).job (drop 2 (from_words line))
code_from H6 line = None
code_from H7 line = from_key Open 0 line
code_from H8 line = wrong_number line
code_from H9 line = None
code_from H10 line = from_key Riichi 0 line
code_from H11 line = or_other (from_key Ura 0 line) (from_key Flags 0 line)
code_from H12 line = from_key Flags 0 line
code_from H13 line = from_key Flags 0 line
code_from H14 line = from_key Flags 0 line
code_from H15 line = from_key Flags 0 line
code_from H16 line = None

-- from the word on at which the fault of a line stands, where it is one word
abbrev pub fault_from : LineFault → List ℕ → Option (List ℕ)
fault_from (Line code) line = code_from code line
fault_from (Notation name fault) line = text_from name line

-- where that word stands, in bytes
abbrev pub place_of : LineFault → List ℕ → Option Place
place_of fault line = option_map (λ from. record { at = length line - length from; length = length (word_of from) }) (fault_from fault line)
