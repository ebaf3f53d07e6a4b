-- The numbers of a line are in range, so H4 comes of its words alone.
use Rattle.std.proofs.Common.{◌≡◌, ℕ, ◌+◌, ◌-◌, ◌*◌, ◌≤◌, List, [], ◌∷◌, ◌++◌, Bool, true, false, Option, Some, None, Ok, Err, nat_lt, refl, sym, ap, ◌∙◌, arith, inl, inr, ◌⊎◌}
use Rattle.std.specs.Prelude.{◌&&◌, nat_le, length, not, is_some, option_map, unwrap_or, drop, codes}
use Rattle.std.specs.Str.{bytes_eq}
use Rattle.std.specs.List.{cons_option, filter_map}
use Rattle.std.proofs.lemmas.Bool.{cases_Bool, and_parts, leb-true, le-ltb}
use Rattle.riichi_tiles.specs.Notation.{is_digit}
use Rattle.riichi_hand.specs.declared.fault.LineCode.TheVariants.{H1, H2, H3, H4, H5, H6, H7, H8, H9, H10, H11, H12, H13, H14, H15, H16}
use Rattle.riichi_hand.specs.declared.fault.LineFault.{LineFault}
use Rattle.riichi_hand.specs.declared.fault.LineFault.TheVariants.{Line}
use Rattle.riichi_hand.specs.declared.line.needed.WinKeys.{WinKeys}
use Rattle.riichi_hand.specs.declared.line.job_name.JobName.{JobName}
use Rattle.riichi_hand.specs.declared.line.job_name.JobName.TheVariants.{Win, Waits, Shape}
use Rattle.riichi_hand.specs.declared.line.key.Key.{Key}
use Rattle.riichi_hand.specs.declared.line.key.Key.TheVariants.{Riichi, Counters, Sticks}
use Rattle.riichi_hand.specs.declared.line.texts.Texts.{Texts}
use Rattle.riichi_hand.specs.Rules.{Rules}
use Rattle.riichi_hand.specs.declared.win.WinParts.{WinParts}
use Rattle.riichi_hand.specs.Faults.{coded, first_fault, fault_or}
use Rattle.riichi_hand.specs.Values.{riichi_of, number_of}
use Rattle.riichi_hand.specs.Keys.{value_for_key, value_at}
use Rattle.riichi_hand.specs.Entries.{keyed_of, value_in, first_item, entries_of}
use Rattle.riichi_hand.specs.Win.{is_out_of_range}
use Rattle.riichi_hand.specs.Words.{words_of}
use Rattle.riichi_hand.specs.Parts.{LineParts, line_parts, parts_of, job_in, hand_word, value}
use Rattle.riichi_hand.specs.Texts.{texts_of, only_kind}
use Rattle.riichi_hand.specs.Jobs.{and_then, win_keys, win_parts, win_of_line, job_of}
use Rattle.riichi_hand.specs.Lines.{entry_faults, need_faults, text_faults, faults_of_win, job_faults, faults_of, outcome_of, is_no_record, has_bad_word}
use Rattle.riichi_hand.proofs.OutcomeLemmas.{after_others, after_texts, first_of_err, size_or_copies}

riichi_small : (text : List ℕ) (n : ℕ) → riichi_of text ≡ Some n → n ≤ 2
riichi_small text n is =
    elim (cases_Bool (bytes_eq text (codes "0"))) [
      | inl zero ↦ let e : Some 0 ≡ Some n = rw zero at is in let k : 0 ≡ n = cc in omega arith
      | inr other ↦ elim (cases_Bool (bytes_eq text (codes "1"))) [
        | inl one ↦ let e : Some 1 ≡ Some n = rw (other, one) at is in let k : 1 ≡ n = cc in omega arith
        | inr neither ↦ elim (cases_Bool (bytes_eq text (codes "2"))) [
          | inl two ↦ let e : Some 2 ≡ Some n = rw (other, neither, two) at is in let k : 2 ≡ n = cc in omega arith
          | inr none ↦ absurd (let e : None ≡ Some n = rw (other, neither, none) at is in cc)
        ]
      ]
    ]

digit_small : (byte : ℕ) → is_digit byte ≡ true → byte - 48 ≤ 9
digit_small byte is = let p = and_parts (nat_le 48 byte) (nat_le byte 57) is in let most : byte ≤ 57 = leb-true byte 57 p.1 in omega arith

number_small : (text : List ℕ) (n : ℕ) → number_of text ≡ Some n → n ≤ 99
number_small [] n is = absurd (cc)
number_small (ones ∷ []) n is =
    elim (cases_Bool (is_digit ones)) [
      | inl digit ↦ let e : Some (ones - 48) ≡ Some n = rw digit at is in let k : ones - 48 ≡ n = cc in omega (arith, k, digit_small ones digit)
      | inr other ↦ absurd (let e : None ≡ Some n = rw other at is in cc)
    ]
number_small (tens ∷ ones ∷ []) n is =
    elim (cases_Bool (is_digit tens && is_digit ones)) [
      | inl digits ↦
          let p = and_parts (is_digit tens) (is_digit ones) digits in
          let e : Some (10 * (tens - 48) + (ones - 48)) ≡ Some n = rw digits at is in
          let k : 10 * (tens - 48) + (ones - 48) ≡ n = cc in
          omega (arith, k, digit_small tens p.0, digit_small ones p.1)
      | inr other ↦ absurd (let e : None ≡ Some n = rw other at is in cc)
    ]
number_small (first ∷ second ∷ third ∷ bytes) n is = absurd (cc)

riichi_at : (key : Key) (text : List ℕ) (n : ℕ) → value_at Riichi key (value_for_key key text) ≡ Some n → n ≤ 2
riichi_at Riichi text n is = riichi_small text n is
riichi_at key text n is = absurd (cc)

counters_at : (key : Key) (text : List ℕ) (n : ℕ) → value_at Counters key (value_for_key key text) ≡ Some n → n ≤ 99
counters_at Counters text n is = number_small text n is
counters_at key text n is = absurd (cc)

sticks_at : (key : Key) (text : List ℕ) (n : ℕ) → value_at Sticks key (value_for_key key text) ≡ Some n → n ≤ 99
sticks_at Sticks text n is = number_small text n is
sticks_at key text n is = absurd (cc)

-- what holds of each value that words give a key holds of the first
first_small : (read : List ℕ → Option ℕ) (most : ℕ) → ((word : List ℕ) (n : ℕ) → read word ≡ Some n → n ≤ most) → (words : List (List ℕ)) → unwrap_or (first_item (filter_map read words)) 0 ≤ most
first_small read most each [] = omega arith
first_small read most each (word ∷ words) =
    let split : (value : Option ℕ) → read word ≡ value → unwrap_or (first_item (cons_option value (filter_map read words))) 0 ≤ most =
    λ value. elim value as (λ (value : Option ℕ). read word ≡ value → unwrap_or (first_item (cons_option value (filter_map read words))) 0 ≤ most) [ None ↦ λ is. first_small read most each words | Some n ↦ λ is. each word n is ] in
    split (read word) refl

in_keyed : (read : Option (Key × List ℕ) → Option ℕ) (most : ℕ) → read None ≡ None → ((keyed : Key × List ℕ) (n : ℕ) → read (Some keyed) ≡ Some n → n ≤ most) → (keyed : Option (Key × List ℕ)) (n : ℕ) → read keyed ≡ Some n → n ≤ most
in_keyed read most none each None n is = absurd (let e : None ≡ Some n = sym none ∙ is in cc)
in_keyed read most none each (Some keyed) n is = each keyed n is

in_range : (job : JobName) (words : List (List ℕ)) → (unwrap_or ((entries_of job words).value Riichi) 0 ≤ 2) × (unwrap_or ((entries_of job words).value Counters) 0 ≤ 99) × (unwrap_or ((entries_of job words).value Sticks) 0 ≤ 99)
in_range job words = (
  first_small (λ word. value_in Riichi (keyed_of job word)) 2 (λ word. in_keyed (value_in Riichi) 2 refl (λ keyed. riichi_at keyed.0 keyed.1) (keyed_of job word)) words,
  first_small (λ word. value_in Counters (keyed_of job word)) 99 (λ word. in_keyed (value_in Counters) 99 refl (λ keyed. counters_at keyed.0 keyed.1) (keyed_of job word)) words,
  first_small (λ word. value_in Sticks (keyed_of job word)) 99 (λ word. in_keyed (value_in Sticks) 99 refl (λ keyed. sticks_at keyed.0 keyed.1) (keyed_of job word)) words,
)

-- H4 as the first of several faults.

front : (bad : Bool) (faults : List (Option LineFault)) → first_fault (coded H4 bad ∷ faults) ≡ Some (Line H4) → (bad ≡ true) ⊎ (first_fault faults ≡ Some (Line H4))
front true faults is = inl refl
front false faults is = inr is

win_not : (only : Bool) (line : Option WinParts) → ((win : WinParts) → line ≡ Some win → is_out_of_range win ≡ false) → first_fault (coded H8 only ∷ faults_of_win line) ≡ Some (Line H4) → ⊥
win_not true line range is = cc
win_not false None range is = cc
win_not false (Some win) range is =
    let none : None ≡ Some (Line H4) = after_others H4 ((H8, _) ∷ (H9, _) ∷ (H10, _) ∷ (H11, _) ∷ (H12, _) ∷ (H13, _) ∷ (H14, _) ∷ (H15, _) ∷ (H16, _) ∷ []) [] refl (rw (range win refl) at is) in cc

made_in_range : (rules : Rules) (parts : LineParts) (texts : Texts) (only : Option ℕ) (keys : Option WinKeys) (win : WinParts) → unwrap_or (value Riichi parts) 0 ≤ 2 → unwrap_or (value Counters parts) 0 ≤ 99
    → unwrap_or (value Sticks parts) 0 ≤ 99 → and_then only (λ winning. option_map (win_parts rules parts texts winning) keys) ≡ Some win → is_out_of_range win ≡ false
made_in_range rules parts texts None keys win riichi counters sticks is = absurd (cc)
made_in_range rules parts texts (Some winning) None win riichi counters sticks is = absurd (cc)
made_in_range rules parts texts (Some winning) (Some keys) win riichi counters sticks is =
    let made : win_parts rules parts texts winning keys ≡ win = cc in
    ap is_out_of_range (sym made) ∙ rw (le-ltb 2 (unwrap_or (value Riichi parts) 0) riichi, le-ltb 99 (unwrap_or (value Counters parts) 0) counters, le-ltb 99 (unwrap_or (value Sticks parts) 0) sticks) refl

job_not : (rules : Rules) (job : JobName) (hand : List ℕ) (words : List (List ℕ)) (texts : Texts) (asked : JobName) → first_fault (job_faults rules (line_parts job hand words) texts asked) ≡ Some (Line H4) → ⊥
job_not rules job hand words texts Win is =
    let parts = line_parts job hand words in
    let range = in_range job words in
    win_not (not (is_some (only_kind texts.on))) (win_of_line rules parts texts) (λ win made. made_in_range rules parts texts (only_kind texts.on) (win_keys parts) win range.0 range.1 range.2 made) is
job_not rules job hand words texts Waits is = size_or_copies H4 _ _ refl is
job_not rules job hand words texts Shape is = size_or_copies H4 _ _ refl is

-- a line is refused with H4 only where a word is no entry of its job
pub bad_word : (rules : Rules) (line : List ℕ) → outcome_of rules line ≡ Err (Line H4) → has_bad_word line ≡ true
unfolding outcome_of
bad_word rules line is =
    let words = words_of line in
    let job = unwrap_or (job_in words) Waits in
    let hand = unwrap_or (hand_word words) [] in
    let parts = parts_of words in
    elim (cases_Bool (nat_lt 4096 (length line))) [
      | inl long ↦ absurd (let e : Err (Line H1) ≡ Err (Line H4) = rw long at is in cc)
      | inr short ↦ elim (cases_Bool (is_no_record line)) [
        | inl none ↦ absurd (let e : Ok None ≡ Err (Line H4) = rw (short, none) at is in cc)
        | inr some ↦
            let e : fault_or (first_fault (faults_of rules line parts)) (job_of rules parts (texts_of parts) parts.job) ≡ Err (Line H4) = rw (short, some) at is in
            let first = first_of_err (first_fault (faults_of rules line parts)) (job_of rules parts (texts_of parts) parts.job) (Line H4) (sym e) in
            let jobs = job_faults rules parts (texts_of parts) parts.job in
            let texts = text_faults parts ++ jobs in
            let entries = after_others H4 ((H1, _) ∷ (H2, _) ∷ (H3, _) ∷ []) (entry_faults parts ++ (need_faults parts ++ texts)) refl first in
            elim (front parts.entries.has_bad_word (coded H5 parts.entries.has_doubled_key ∷ need_faults parts ++ texts) entries) [
              | inl bad ↦ bad
              | inr later ↦
                  let melds = after_texts H4 parts jobs (after_others H4 ((H5, _) ∷ (H6, _) ∷ []) texts refl later) in
                  absurd (job_not rules job hand (drop 2 words) (texts_of parts) parts.job (after_others H4 ((H7, _) ∷ []) jobs refl melds))
            ]
      ]
    ]
