-- The rule profile of a stream. Its first line may set it, and is no record then.
use Rattle.std.specs.Prelude.{ℕ, List, [], ◌∷◌, length, ◌||◌, Option, None, Some, is_some, unwrap_or, nat_lt, if◌then◌else◌, codes}
use Rattle.std.specs.List.{list_any}
use Rattle.std.specs.Str.{bytes_eq}
use Rattle.riichi_hand.specs.Rules.{Rules, first_profile, second_profile}
use Rattle.riichi_hand.specs.Words.{words_of}
use Rattle.riichi_hand.specs.Lines.{is_other_byte}

-- the profile of a number
abbrev pub profile_numbered : List ℕ → Option Rules
profile_numbered number = if bytes_eq number (codes "1") then Some first_profile else if bytes_eq number (codes "2") then Some second_profile else None

-- the profile that the words `rules 1` or `rules 2` name
abbrev pub profile_of_words : List (List ℕ) → Option Rules
profile_of_words (word ∷ number ∷ []) = if bytes_eq word (codes "rules") then profile_numbered number else None
profile_of_words words = None

-- `rules 1` or `rules 2`, in a line of at most 4,096 bytes, all of them printed ASCII
unfoldable pub profile_of : List ℕ → Option Rules
profile_of line = if nat_lt 4096 (length line) || list_any is_other_byte line then None else profile_of_words (words_of line)

-- the profile of a stream with these lines: the given one, where the first line sets none
abbrev pub rules_of : Rules → List (List ℕ) → Rules
rules_of given [] = given
rules_of given (line ∷ lines) = unwrap_or (profile_of line) given

-- the lines that can be records
abbrev pub record_lines : List (List ℕ) → List (List ℕ)
record_lines [] = []
record_lines (line ∷ lines) = if is_some (profile_of line) then lines else line ∷ lines

-- the number of the first line that can be a record, where the first of all has the number 1
abbrev pub first_number : List (List ℕ) → ℕ
first_number [] = 1
first_number (line ∷ lines) = if is_some (profile_of line) then 2 else 1

-- the profile once one more line was read; `None` before the first line
abbrev pub rules_by : Rules → Option Rules → List ℕ → Rules
rules_by given None line = unwrap_or (profile_of line) given
rules_by given (Some rules) line = rules

-- the profile under which one more line is answered; `None` where the line sets the profile, and is no record
abbrev pub record_rules : Rules → Option Rules → List ℕ → Option Rules
record_rules given None line = if is_some (profile_of line) then None else Some given
record_rules given (Some rules) line = Some rules
