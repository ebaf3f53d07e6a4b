-- What a refusal means: what may stand at the fault, the key that is at fault, and its place in the line.
use Rattle.std.specs.Prelude.{◌≡◌, ℕ, ◌<◌, List, Bool, length, nat_lt, true, Option, None, Some, option_map, unwrap_or, codes, if◌then◌else◌}
use Rattle.std.specs.List.{position}
use Rattle.std.proofs.Common.{refl, sym, ap, ◌∙◌}
use Rattle.std.proofs.lemmas.Bool.{lt-ltb}
use Rattle.riichi_hand.specs.declared.fault.LineCode.{LineCode}
use Rattle.riichi_hand.specs.declared.fault.LineCode.TheVariants.{H1, H2, H3, H4, H8}
use Rattle.riichi_hand.specs.declared.fault.LineFault.{LineFault}
use Rattle.riichi_hand.specs.declared.fault.LineFault.TheVariants.{Line, Notation}
use Rattle.riichi_hand.specs.declared.line.record.Place.{Place}
use Rattle.riichi_hand.specs.declared.line.key.Key.{Key}
use Rattle.riichi_hand.specs.Keys.{key_name}
use Rattle.riichi_hand.specs.Lines.{is_other_byte}
use Rattle.riichi_hand.specs.Places.{code_from, place_of}
use Rattle.riichi_hand.specs.Refusals.{key_at, job_at}
use Rattle.riichi_refusals.specs.Faults.{line_words, notation_words, first_word_words, entry_words, byte_words}
use Rattle.riichi_refusals.specs.LineWords.{word_at_fault}

-- a line that is too long isn't looked at
abbrev pub is_long : List ℕ → Bool
is_long line = nat_lt 4096 (length line)

-- the place of the first byte that is no printable ASCII
abbrev pub foreign_at : List ℕ → Option ℕ
foreign_at line = position is_other_byte line

-- ---- what may stand at the fault

unfoldable pub foreign_words : List ℕ → List ℕ
foreign_words line = if is_long line then line_words H1 else byte_words line (unwrap_or (foreign_at line) 0)

unfoldable pub code_words : LineCode → List ℕ → List ℕ
code_words H1 line = foreign_words line
code_words H2 line = first_word_words (word_at_fault H2 line)
code_words H4 line = entry_words (job_at (Line H4) line) (key_at (Line H4) line)
code_words code line = line_words code

unfoldable pub refusal_words : List ℕ → LineFault → List ℕ
refusal_words line (Line code) = code_words code line
refusal_words line (Notation name fault) = notation_words fault.code

-- ---- the key at fault

-- The name of the key. Without one these are faults of the hand.
unfoldable pub key_text : LineFault → Option Key → Option (List ℕ)
key_text fault (Some key) = Some (key_name key)
key_text (Line H3) None = Some (codes "hand")
key_text (Line H8) None = Some (codes "hand")
key_text (Line code) None = None
key_text (Notation name fault) None = Some (codes "hand")

abbrev pub refusal_key : List ℕ → LineFault → Option (List ℕ)
refusal_key line fault = key_text fault (key_at fault line)

-- ---- the place of the fault

-- one byte
abbrev pub byte_place : ℕ → Place
byte_place at = record { at = at; length = 1 }

unfoldable pub foreign_place : List ℕ → Option Place
foreign_place line = if is_long line then None else option_map byte_place (foreign_at line)

-- that of a byte, or of the word at fault
unfoldable pub refusal_place : List ℕ → LineFault → Option Place
refusal_place line (Line H1) = foreign_place line
refusal_place line fault = place_of fault line

-- ---- lines of more than 4,096 bytes are refused alike

long_is : (line : List ℕ) → 4096 < length line → is_long line ≡ true
long_is line long = lt-ltb 4096 (length line) long

long_words : (line : List ℕ) → 4096 < length line → refusal_words line (Line H1) ≡ line_words H1
unfolding refusal_words code_words foreign_words
long_words line long = ap (λ (is : Bool). if is then line_words H1 else byte_words line (unwrap_or (foreign_at line) 0)) (long_is line long)

long_place : (line : List ℕ) → 4096 < length line → refusal_place line (Line H1) ≡ None
unfolding refusal_place foreign_place
long_place line long = ap (λ (is : Bool). if is then None else option_map byte_place (foreign_at line)) (long_is line long)

pub long_words_alike : (line other : List ℕ) → 4096 < length line → 4096 < length other → refusal_words line (Line H1) ≡ refusal_words other (Line H1)
long_words_alike line other long long_other = long_words line long ∙ sym (long_words other long_other)

pub long_places_alike : (line other : List ℕ) → 4096 < length line → 4096 < length other → refusal_place line (Line H1) ≡ refusal_place other (Line H1)
long_places_alike line other long long_other = long_place line long ∙ sym (long_place other long_other)

pub long_keys_alike : (line other : List ℕ) → refusal_key line (Line H1) ≡ refusal_key other (Line H1)
unfolding key_at code_from
long_keys_alike line other = refl
