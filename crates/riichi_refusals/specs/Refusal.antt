-- The lines that follow a refusal: the word at fault, and what may stand there.
use Rattle.std.specs.Prelude.{◌≡◌, ℕ, ◌+◌, ◌<◌, List, [], ◌++◌, Bool, length, min, take, Option, None, Some, unwrap_or, codes, if◌then◌else◌}
use Rattle.std.proofs.Common.{sym, ap, ◌∙◌}
use Rattle.std.proofs.lemmas.Bool.{lt-ltb}
use Rattle.riichi_hand.specs.declared.fault.LineCode.{LineCode}
use Rattle.riichi_hand.specs.declared.fault.LineCode.TheVariants.{H1, H6}
use Rattle.riichi_hand.specs.declared.fault.LineFault.{LineFault}
use Rattle.riichi_hand.specs.declared.fault.LineFault.TheVariants.{Line, Notation}
use Rattle.riichi_hand.specs.declared.line.key.Key.{Key}
use Rattle.riichi_hand.specs.Keys.{key_name, text_key}
use Rattle.riichi_hand.specs.Refusals.{key_at}
use Rattle.riichi_refusals.specs.LineWords.{word_at_fault, text_word}
use Rattle.riichi_refusals.specs.Meaning.{is_long, foreign_at, refusal_words, long_words_alike}
use Rattle.riichi_refusals.specs.Shown.{shown, marked_lines, foreign_marked}

-- the first 72 bytes of a word that is at fault
unfoldable pub named_word : Option (List ℕ) → List ℕ
named_word None = []
named_word (Some word) = shown (take 72 word) ++ codes ": "

unfoldable pub word_line : Option (List ℕ) → List ℕ → List ℕ
word_line word words = codes "  " ++ named_word word ++ words ++ codes "\n"

-- the place of the first byte that is no printable ASCII; a line that is too long isn't shown
unfoldable pub foreign_lines : List ℕ → List ℕ → List ℕ
foreign_lines line words = if is_long line then word_line None words else foreign_marked (unwrap_or (foreign_at line) 0) line words

abbrev pub missing_text : Option Key → List ℕ
missing_text None = []
missing_text (Some key) = key_name key ++ codes " is missing: "

unfoldable pub missing_line : Option Key → List ℕ → List ℕ
missing_line key words = codes "  " ++ missing_text key ++ words ++ codes "\n"

unfoldable pub code_lines : LineCode → List ℕ → List ℕ → List ℕ
code_lines H1 line words = foreign_lines line words
code_lines H6 line words = missing_line (key_at (Line H6) line) words
code_lines code line words = word_line (word_at_fault code line) words

-- how many bytes stand in a word before the value of its key
abbrev pub value_begins : Option Key → ℕ
value_begins None = 0
value_begins (Some key) = length (key_name key) + 1

-- the place of a text's fault in its word
abbrev pub place_in : ℕ → Option Key → List ℕ → ℕ
place_in place key word = value_begins key + min place (length word)

unfoldable pub notation_lines : ℕ → Option Key → List ℕ → List ℕ → List ℕ
notation_lines place key word words = marked_lines 36 (place_in place key word) word words

unfoldable pub fault_lines : List ℕ → LineFault → List ℕ → List ℕ
fault_lines line (Line code) words = code_lines code line words
fault_lines line (Notation name fault) words = notation_lines fault.place (text_key name) (unwrap_or (text_word name line) []) words

unfoldable pub refusal_lines : List ℕ → LineFault → List ℕ
refusal_lines line fault = fault_lines line fault (refusal_words line fault)

-- lines of more than 4,096 bytes are answered alike
long_foreign : (line words : List ℕ) → 4096 < length line → foreign_lines line words ≡ word_line None words
unfolding foreign_lines
long_foreign line words long = ap (λ (is : Bool). if is then word_line None words else foreign_marked (unwrap_or (foreign_at line) 0) line words) (lt-ltb 4096 (length line) long)

pub long_refusals_alike : (line other : List ℕ) → 4096 < length line → 4096 < length other → refusal_lines line (Line H1) ≡ refusal_lines other (Line H1)
unfolding refusal_lines fault_lines code_lines
long_refusals_alike line other long long_other =
    long_foreign line (refusal_words line (Line H1)) long ∙ ap (word_line None) (long_words_alike line other long long_other) ∙ sym (long_foreign other (refusal_words other (Line H1)) long_other)
