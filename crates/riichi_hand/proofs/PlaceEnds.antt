-- A place is the end of its line.
use Rattle.std.proofs.Common.{◌≡◌, ◌∙◌, inl, inr, ℕ, zero, suc, ◌-◌, ◌≤◌, List, [], ◌∷◌, ◌++◌, Bool, true, false, Option, Some, None, length, drop, refl, sym, ap, subst, append_assoc, length-append, arith}
use Rattle.std.specs.Prelude.{not, if◌then◌else◌}
use Rattle.std.specs.List.{find}
use Rattle.std.proofs.lemmas.Bool.{cases_Bool}
use Rattle.std.proofs.lemmas.List.{drop_at}
use Rattle.riichi_hand.specs.declared.fault.LineCode.{LineCode}
use Rattle.riichi_hand.specs.declared.fault.LineCode.TheVariants.{H1, H2, H3, H4, H5, H6, H7, H8, H9, H10, H11, H12, H13, H14, H15, H16}
use Rattle.riichi_hand.specs.declared.fault.LineFault.{LineFault}
use Rattle.riichi_hand.specs.declared.fault.LineFault.TheVariants.{Line, Notation}
use Rattle.riichi_hand.specs.declared.fault.TextName.{TextName}
use Rattle.riichi_hand.specs.declared.fault.TextName.TheVariants.{Hand, On, Dora, Ura, Seen}
use Rattle.riichi_hand.specs.declared.line.key.Key.{Key}
use Rattle.riichi_hand.specs.declared.line.key.Key.TheVariants as key
use Rattle.riichi_hand.specs.Words.{is_space, words_of, starts, from_words, word_of}
use Rattle.riichi_hand.specs.Entries.{first_item, is_bad}
use Rattle.riichi_hand.specs.Parts.{parts_of}
use Rattle.riichi_hand.specs.Places.{has_digits, from_key, or_other, first_at, has_doubled, wrong_number, text_from, code_from, fault_from}

abbrev IsEnd : List ℕ → List ℕ → Type 0
IsEnd line from = (front : List ℕ) × (line ≡ front ++ from)

abbrev AreEnds : List ℕ → List (List ℕ) → Type 0
AreEnds line [] = Unit {0}
AreEnds line (from ∷ froms) = IsEnd line from × AreEnds line froms

starts-ends : (goes_on : Bool) (front bytes : List ℕ) → AreEnds (front ++ bytes) (starts goes_on bytes)
starts-ends goes_on front [] = tt
starts-ends true front (byte ∷ bytes) =
    subst (λ (line : List ℕ). AreEnds line (starts (not (is_space byte)) bytes)) (append_assoc front (byte ∷ []) bytes) (starts-ends (not (is_space byte)) (front ++ byte ∷ []) bytes)
starts-ends false front (byte ∷ bytes) =
    let later : (goes_on : Bool) → AreEnds (front ++ byte ∷ bytes) (starts goes_on bytes) = λ goes_on. subst (λ (line : List ℕ). AreEnds line (starts goes_on bytes)) (append_assoc front (byte ∷ []) bytes) (starts-ends goes_on (front ++ byte ∷ []) bytes) in
    elim (is_space byte) as (λ (space : Bool). AreEnds (front ++ byte ∷ bytes) (if space then starts false bytes else (byte ∷ bytes) ∷ starts true bytes)) [ true ↦ later false | false ↦ ((front, refl), later true) ]

-- where something was picked, it is an end
abbrev Picks : List ℕ → Option (List ℕ) → Type 0
Picks line None = Unit {0}
Picks line (Some from) = IsEnd line from

find-picks : (test : List ℕ → Bool) (line : List ℕ) (froms : List (List ℕ)) → AreEnds line froms → Picks line (find test froms)
find-picks test line [] ends = tt
find-picks test line (from ∷ froms) ends = elim (cases_Bool (test from)) [ inl here ↦ rw here ends.0 | inr other ↦ rw other (find-picks test line froms ends.1) ]

first_item-picks : (line : List ℕ) (froms : List (List ℕ)) → AreEnds line froms → Picks line (first_item froms)
first_item-picks line [] ends = tt
first_item-picks line (from ∷ froms) ends = ends.0

drop-ends : (n : ℕ) (line : List ℕ) (froms : List (List ℕ)) → AreEnds line froms → AreEnds line (drop n froms)
drop-ends zero line froms ends = ends
drop-ends (suc n) line [] ends = tt
drop-ends (suc n) line (from ∷ froms) ends = drop-ends n line froms ends.1

first_at-picks : (test : List (List ℕ) → Bool) (line : List ℕ) (before froms : List (List ℕ)) → AreEnds line froms → Picks line (first_at test before froms)
first_at-picks test line before [] ends = tt
first_at-picks test line before (from ∷ froms) ends =
    elim (cases_Bool (test (before ++ word_of from ∷ []))) [ inl here ↦ rw here ends.0 | inr later ↦ rw later (first_at-picks test line (before ++ word_of from ∷ []) froms ends.1) ]

or_other-picks : (line : List ℕ) (first other : Option (List ℕ)) → Picks line first → Picks line other → Picks line (or_other first other)
or_other-picks line None other one two = two
or_other-picks line (Some from) other one two = one

module _ (line : List ℕ) where
  all_ends : AreEnds line (from_words line)
  all_ends = starts-ends false [] line

  key-picks : (key : Key) (least : ℕ) → Picks line (from_key key least line)
  key-picks key least = find-picks (λ from. has_digits key least (word_of from)) line (from_words line) all_ends

  hand-picks : Picks line (first_item (drop 1 (from_words line)))
  hand-picks = first_item-picks line (drop 1 (from_words line)) (drop-ends 1 line (from_words line) all_ends)

  number-picks : Picks line (wrong_number line)
  unfolding wrong_number
  number-picks =
      or_other-picks line _ _ (key-picks key.On 2) (or_other-picks line _ _ (key-picks key.Dora 6) (or_other-picks line _ _ (key-picks key.Ura 6) hand-picks))

  text-picks : (name : TextName) → Picks line (text_from name line)
  unfolding text_from
  text-picks Hand = hand-picks
  text-picks On = key-picks key.On 0
  text-picks Dora = key-picks key.Dora 0
  text-picks Ura = key-picks key.Ura 0
  text-picks Seen = key-picks key.Seen 0

  code-picks : (code : LineCode) → Picks line (code_from code line)
  unfolding code_from
  code-picks H1 = tt
  code-picks H2 = first_item-picks line (from_words line) all_ends
  code-picks H3 = hand-picks
  code-picks H4 = find-picks (λ from. is_bad (parts_of (words_of line)).job (word_of from)) line (drop 2 (from_words line)) (drop-ends 2 line (from_words line) all_ends)
  code-picks H5 = first_at-picks (has_doubled (parts_of (words_of line)).job) line [] (drop 2 (from_words line)) (drop-ends 2 line (from_words line) all_ends)
  code-picks H6 = tt
  code-picks H7 = key-picks key.Open 0
  code-picks H8 = number-picks
  code-picks H9 = tt
  code-picks H10 = key-picks key.Riichi 0
  code-picks H11 = or_other-picks line _ _ (key-picks key.Ura 0) (key-picks key.Flags 0)
  code-picks H12 = key-picks key.Flags 0
  code-picks H13 = key-picks key.Flags 0
  code-picks H14 = key-picks key.Flags 0
  code-picks H15 = key-picks key.Flags 0
  code-picks H16 = tt

  fault-picks : (fault : LineFault) → Picks line (fault_from fault line)
  fault-picks (Line code) = code-picks code
  fault-picks (Notation name fault) = text-picks name

-- the line from the place on is what stands there
pub at_place : (fault : LineFault) (line from : List ℕ) → Some from ≡ fault_from fault line → (length from ≤ length line) × (drop (length line - length from) line ≡ from)
at_place fault line from is =
    let end = subst (λ (picked : Option (List ℕ)). Picks line picked) (sym is) (fault-picks line fault) in
    let total = ap length end.1 in
    let sum = length-append end.0 from in (
      omega arith,
      ap (drop (length line - length from)) end.1 ∙ drop_at end.0 from (length line - length from) (omega arith),
    )
