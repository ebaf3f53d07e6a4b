-- The lines of a refusal begin with two spaces, and each ends with its line feed.
use Rattle.std.proofs.Common.{◌≡◌, ℕ, ◌+◌, ◌-◌, ◌/◌, ◌%◌, ◌<◌, List, [], ◌∷◌, ◌++◌, Bool, true, false, cond, nat_lt, take, replicate, Option, Some, None, inl, inr, refl, ap, ◌∙◌, arith}
use Rattle.std.specs.Prelude.{not, codes, ◌||◌, unwrap_or, IfSome}
use Rattle.std.specs.List.{list_all, list_any}
use Rattle.std.specs.Option.{option_or}
use Rattle.std.specs.Str.{is_utf8}
use Rattle.std.proofs.lemmas.Bool.{and_parts, or_parts, not-true}
use Rattle.std.proofs.lemmas.Bool.Decides.{nat_tests}
use Rattle.riichi_hand.specs.declared.fault.LineCode.{LineCode}
use Rattle.riichi_hand.specs.declared.fault.LineCode.TheVariants.{H1, H6}
use Rattle.riichi_hand.specs.declared.fault.LineFault.{LineFault}
use Rattle.riichi_hand.specs.declared.fault.LineFault.TheVariants.{Line, Notation}
use Rattle.riichi_hand.specs.Lines.{is_other_byte}
use Rattle.riichi_hand.specs.declared.line.key.Key.{Key}
use Rattle.riichi_hand.specs.Keys.{key_name, text_key}
use Rattle.riichi_hand.specs.Refusals.{key_at}
use Rattle.riichi_hand.specs.Rules.{Rules}
use Rattle.riichi_refusals.specs.LineWords.{word_at_fault, text_word}
use Rattle.riichi_refusals.specs.Meaning.{is_long, foreign_at, refusal_words}
use Rattle.riichi_refusals.specs.Refusal.{named_word, word_line, foreign_lines, missing_text, missing_line, code_lines, place_in, notation_lines, fault_lines, refusal_lines}
use Rattle.riichi_refusals.specs.Shown.{hex_digit, byte_text, shown, hides, has_hidden, is_seen, seen_as_is, around, shown_line, seen_around, foreign_text, foreign_line, mark_line, marked_lines, foreign_marked}
use Rattle.riichi_refusals.proofs.QuietWords.{is_quiet, quiet, refusal_words-quiet, key_name-quiet}
use Rattle.riichi_explain.proofs.PlainTexts.{plain, after, after3, byte-plain, flat_map-plain, replicate-plain, are_indented, pass, lines-append}
use Rattle.riichi_hints.specs.Hint.{IsNote, IsPrintable, told_line, said_if, mark_of, IsHintOrNone, IsRefusalText}

-- ---- what is shown of a line

glyph_big : (number : ℕ) → 10 < hex_digit number
glyph_big number = elim (nat_lt number 10) as (λ test. 10 < cond test (48 + number) (87 + number)) [ true ↦ omega arith | false ↦ omega arith ]

escape-plain : (byte : ℕ) → plain (92 ∷ 120 ∷ hex_digit (byte / 16) ∷ hex_digit (byte % 16) ∷ []) ≡ true
escape-plain byte =
    let low = byte-plain (hex_digit (byte % 16)) [] (glyph_big (byte % 16)) refl in
    byte-plain (hex_digit (byte / 16)) (hex_digit (byte % 16) ∷ []) (glyph_big (byte / 16)) low

printable-big : (byte : ℕ) → nat_lt byte 32 ≡ false → 10 < byte
printable-big byte e = grind (arith, nat_tests)

byte-cases : (byte : ℕ) (low high : Bool) → nat_lt byte 32 ≡ low → plain (cond (low || high) (92 ∷ 120 ∷ hex_digit (byte / 16) ∷ hex_digit (byte % 16) ∷ []) (byte ∷ [])) ≡ true
byte-cases byte true high e = escape-plain byte
byte-cases byte false true e = escape-plain byte
byte-cases byte false false e = byte-plain byte [] (printable-big byte e) refl

byte_text-plain : (byte : ℕ) → plain (byte_text byte) ≡ true
unfolding byte_text
byte_text-plain byte = byte-cases byte (nat_lt byte 32) (nat_lt 126 byte) refl

shown-plain : (text : List ℕ) → plain (shown text) ≡ true
shown-plain text = flat_map-plain byte_text text byte_text-plain

shown_line-lines : (text : List ℕ) → are_indented (shown_line text) ≡ true
unfolding shown_line
shown_line-lines text = pass (shown text) (10 ∷ []) (shown-plain text)

mark_line-lines : (column : ℕ) (words : List ℕ) → plain words ≡ true → are_indented (mark_line column words) ≡ true
unfolding mark_line
mark_line-lines column words p =
    let printable : 10 < 32 = omega arith in
    pass (replicate column 32 ++ codes "^ " ++ words) (10 ∷ []) (after3 (replicate column 32) (codes "^ ") words (replicate-plain column 32 printable) refl p)

-- ---- texts that are seen as they are

hidden-big : (before byte : ℕ) → hides before byte ≡ false → 10 < byte
hidden-big before byte e = printable-big byte (or_parts (nat_lt byte 32) _ e).0

unhidden-plain : (before : ℕ) (text : List ℕ) → has_hidden before text ≡ false → plain text ≡ true
unhidden-plain before [] p = refl
unhidden-plain before (byte ∷ text) p =
    let parts = or_parts (hides before byte) (has_hidden byte text) p in
    byte-plain byte text (hidden-big before byte parts.0) (unhidden-plain byte text parts.1)

seen-plain : (text : List ℕ) → is_seen text ≡ true → plain text ≡ true
seen-plain text p = unhidden-plain 0 text (not-true _ (and_parts (not (has_hidden 0 text)) (is_utf8 text) p).0)

-- a text, where there is one, has no line feed
abbrev IsPlainIfAny : Option (List ℕ) → Type 0
IsPlainIfAny text = IfSome text (λ words. plain words ≡ true)

seen_if-plain : (text : List ℕ) (is : Bool) → is_seen text ≡ is → IsPlainIfAny (cond is (Some text) None)
seen_if-plain text true e = seen-plain text e
seen_if-plain text false e = tt

either_seen : (one other : Option (List ℕ)) → IsPlainIfAny one → IsPlainIfAny other → IsPlainIfAny (option_or one other)
either_seen None other p q = q
either_seen (Some text) other p q = p

unwrapped-plain : (text : Option (List ℕ)) (other : List ℕ) → IsPlainIfAny text → plain other ≡ true → plain (unwrap_or text other) ≡ true
unwrapped-plain None other p q = q
unwrapped-plain (Some text) other p q = p

seen_at-plain : (more place : ℕ) (text : List ℕ) → IsPlainIfAny (seen_as_is (around more place text))
seen_at-plain more place text = seen_if-plain (around more place text) (is_seen (around more place text)) refl

seen_around-plain : (place : ℕ) (text : List ℕ) → IsPlainIfAny (seen_around place text)
seen_around-plain place text =
    either_seen (seen_as_is (around 36 place text)) _ (seen_at-plain 36 place text)
    (either_seen (seen_as_is (around 35 place text)) _ (seen_at-plain 35 place text)
    (either_seen (seen_as_is (around 34 place text)) (seen_as_is (around 33 place text)) (seen_at-plain 34 place text) (seen_at-plain 33 place text)))

foreign_line-lines : (place : ℕ) (text : List ℕ) → are_indented (foreign_line place text) ≡ true
unfolding foreign_line
foreign_line-lines place text =
    pass (foreign_text place text) (10 ∷ []) (unwrapped-plain (seen_around place text) (shown (around 9 place text)) (seen_around-plain place text) (shown-plain (around 9 place text)))

foreign_marked-lines : (place : ℕ) (text words : List ℕ) → plain words ≡ true → are_indented (foreign_marked place text words) ≡ true
unfolding foreign_marked
foreign_marked-lines place text words p =
    let column = place - (place - 36) in
    lines-append (foreign_line place text) (mark_line column words) (foreign_line-lines place text) (mark_line-lines column words p)

marked_lines-lines : (more place : ℕ) (text words : List ℕ) → plain words ≡ true → are_indented (marked_lines more place text words) ≡ true
unfolding marked_lines
marked_lines-lines more place text words p =
    let column = place - (place - 36) in
    lines-append (shown_line (around more place text)) (mark_line column words) (shown_line-lines (around more place text)) (mark_line-lines column words p)

-- ---- what may stand in a place

quiet-plain : (text : List ℕ) → quiet text ≡ true → plain text ≡ true
quiet-plain [] p = refl
quiet-plain (byte ∷ text) p =
    let parts = and_parts (is_quiet byte) (list_all is_quiet text) p in
    let none = or_parts _ (nat_lt byte 32) (not-true _ parts.0) in
    byte-plain byte text (printable-big byte none.1) (quiet-plain text parts.1)

-- ---- the lines

named_word-plain : (word : Option (List ℕ)) → plain (named_word word) ≡ true
unfolding named_word
named_word-plain None = refl
named_word-plain (Some word) = after (shown (take 72 word)) (codes ": ") (shown-plain (take 72 word)) refl

word_line-lines : (word : Option (List ℕ)) (words : List ℕ) → plain words ≡ true → are_indented (word_line word words) ≡ true
unfolding word_line
word_line-lines word words p = pass (named_word word ++ words) (10 ∷ []) (after (named_word word) words (named_word-plain word) p)

foreign_lines-lines : (line words : List ℕ) → plain words ≡ true → are_indented (foreign_lines line words) ≡ true
unfolding foreign_lines
foreign_lines-lines line words p =
    let place = unwrap_or (foreign_at line) 0 in
    elim (is_long line) as (λ test. are_indented (cond test (word_line None words) (foreign_marked place line words)) ≡ true)
    [ true ↦ word_line-lines None words p | false ↦ foreign_marked-lines place line words p ]

missing_text-plain : (key : Option Key) → plain (missing_text key) ≡ true
missing_text-plain None = refl
missing_text-plain (Some key) = after (key_name key) (codes " is missing: ") (quiet-plain (key_name key) (key_name-quiet key)) refl

missing_line-lines : (key : Option Key) (words : List ℕ) → plain words ≡ true → are_indented (missing_line key words) ≡ true
unfolding missing_line
missing_line-lines key words p = pass (missing_text key ++ words) (10 ∷ []) (after (missing_text key) words (missing_text-plain key) p)

code_lines-lines : (code : LineCode) (line words : List ℕ) → plain words ≡ true → are_indented (code_lines code line words) ≡ true
unfolding code_lines
code_lines-lines H1 line words p = foreign_lines-lines line words p
code_lines-lines H6 line words p = missing_line-lines (key_at (Line H6) line) words p
code_lines-lines code line words p = word_line-lines (word_at_fault code line) words p

notation_lines-lines : (place : ℕ) (key : Option Key) (word words : List ℕ) → plain words ≡ true → are_indented (notation_lines place key word words) ≡ true
unfolding notation_lines
notation_lines-lines place key word words p = marked_lines-lines 36 (place_in place key word) word words p

fault_lines-lines : (line words : List ℕ) (fault : LineFault) → plain words ≡ true → are_indented (fault_lines line fault words) ≡ true
unfolding fault_lines
fault_lines-lines line words (Line code) p = code_lines-lines code line words p
fault_lines-lines line words (Notation name fault) p = notation_lines-lines fault.place (text_key name) (unwrap_or (text_word name line) []) words p

refusal_lines-lines : (line : List ℕ) (fault : LineFault) → are_indented (refusal_lines line fault) ≡ true
unfolding refusal_lines
refusal_lines-lines line fault = fault_lines-lines line (refusal_words line fault) fault (quiet-plain (refusal_words line fault) (refusal_words-quiet line fault))

-- ---- what is told below them

printable-plain : (text : List ℕ) → IsPrintable text → plain text ≡ true
printable-plain [] p = refl
printable-plain (byte ∷ text) p =
    let parts = or_parts (is_other_byte byte) (list_any is_other_byte text) p in
    byte-plain byte text (printable-big byte (or_parts (nat_lt byte 32) (nat_lt 126 byte) parts.0).0) (printable-plain text parts.1)

note-lines : (P : List ℕ → Type 0) (note : Option (List ℕ)) → IfSome note (λ words. P words × IsPrintable words) → are_indented (told_line (codes "  ") note) ≡ true
note-lines P None p = refl
note-lines P (Some words) p = pass words (10 ∷ []) (printable-plain words p.1)

account-lines : (account : List ℕ) → is_seen account ≡ true → are_indented (told_line (codes "  here") (said_if account)) ≡ true
account-lines [] p = refl
account-lines (byte ∷ account) p = pass (codes "here" ++ (byte ∷ account)) (10 ∷ []) (after (codes "here") (byte ∷ account) refl (seen-plain (byte ∷ account) p))

shown-lines : (guess : Bool) (shown : List ℕ) → IsPrintable shown → are_indented (told_line (mark_of guess) (Some shown)) ≡ true
shown-lines true shown p = pass (codes "guess: " ++ shown) (10 ∷ []) (after (codes "guess: ") shown refl (printable-plain shown p))
shown-lines false shown p = pass (codes "try: " ++ shown) (10 ∷ []) (after (codes "try: ") shown refl (printable-plain shown p))

hint-lines : (rules : Rules) (line hint : List ℕ) → IsHintOrNone rules line hint → are_indented hint ≡ true
hint-lines rules line hint (inl none) = ap are_indented none
hint-lines rules line hint (inr is) =
    let told = is.told in
    let account = told_line (codes "  here") (said_if is.account) in
    let shown = told_line (mark_of is.guess) (Some is.shown) in
    ap are_indented told.text_is ∙ lines-append account shown (account-lines is.account told.account_is_seen) (shown-lines is.guess is.shown told.is_printable)

pub refusal_text-lines : (rules : Rules) (line : List ℕ) (fault : LineFault) (said : List ℕ) → IsRefusalText rules line fault said → are_indented said ≡ true
refusal_text-lines rules line fault said is =
    let note = told_line (codes "  ") is.note in
    let below = lines-append note is.hint (note-lines (IsNote fault line) is.note is.is_note) (hint-lines rules line is.hint is.is_hint) in
    ap are_indented is.text_is ∙ lines-append (refusal_lines line fault) (note ++ is.hint) (refusal_lines-lines line fault) below
