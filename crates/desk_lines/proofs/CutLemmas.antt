-- A text whose lines are cut piece by piece, where of a line that goes on only a front is kept.
use Rattle.std.proofs.Common.{◌≡◌, ℕ, zero, suc, ◌+◌, ◌≤◌, inl, inr, List, [], ◌∷◌, ◌++◌, map, true, false, nat_eq, length, take, refl, sym, subst, ◌∙◌, ap, append_assoc, arith}
use Rattle.std.specs.Prelude.{not}
use Rattle.std.proofs.lemmas.Bool.{cases_Bool, cases_eq, cases_lt, ne_eqb}
use Rattle.std.proofs.lemmas.List.{append-nil, map-append, take_all, length-take, take-append-le}
use Rattle.std.proofs.lemmas.List.Folds.{list_all-append}
use Rattle.desk_lines.specs.Lines.{Cut, byte_in_front, with_front, cut_of, without_return, ended_lines, last_line, lines, is_plain}
use Rattle.desk_lines.specs.Reading.{with_end, AreToldAs, kept}
use Rattle.desk_lines.specs.Telling.{IsToldAs}
use Rattle.desk_lines.proofs.LineLemmas.{plain_is, cut_of_plain}
use Rattle.desk_lines.proofs.TellingLemmas.{told_by_front}

-- a cut, and then the cut of what follows its rest
abbrev then_cut : Cut → Cut → Cut
then_cut cut more = record { ended = cut.ended ++ more.ended; rest = more.rest }

byte_in_front-then : (byte : ℕ) (ended : List (List ℕ)) (rest more : List ℕ) → nat_eq byte 10 ≡ false
    → byte_in_front byte (ended ++ (cut_of (rest ++ more)).ended) (cut_of (rest ++ more)).rest ≡ then_cut (byte_in_front byte ended rest) (cut_of ((byte_in_front byte ended rest).rest ++ more))
byte_in_front-then byte [] rest more other = rw other refl
byte_in_front-then byte (line ∷ ended) rest more other = refl

with_front-then : (byte : ℕ) (cut : Cut) (more : List ℕ) → with_front byte (then_cut cut (cut_of (cut.rest ++ more))) ≡ then_cut (with_front byte cut) (cut_of ((with_front byte cut).rest ++ more))
with_front-then byte cut more = elim (cases_Bool (nat_eq byte 10)) [
  | inl feed ↦ rw feed refl
  | inr other ↦ rw other (byte_in_front-then byte cut.ended cut.rest more other)
]

pub cut_of-append : (text more : List ℕ) → cut_of (text ++ more) ≡ then_cut (cut_of text) (cut_of ((cut_of text).rest ++ more))
cut_of-append [] more = refl
cut_of-append (byte ∷ bytes) more = ap (with_front byte) (cut_of-append bytes more) ∙ with_front-then byte (cut_of bytes) more

-- a line that a line feed ends, and what comes after it
pub cut_of_first : (line after : List ℕ) → is_plain line ≡ true → cut_of (line ++ 10 ∷ after) ≡ (let cut : Cut = record { ended = line ∷ (cut_of after).ended; rest = (cut_of after).rest } in cut)
cut_of_first [] after plain = refl
cut_of_first (byte ∷ bytes) after plain = let first = plain_is byte (is_plain bytes) plain in ap (with_front byte) (cut_of_first bytes after first.1) ∙ rw first.0 refl

byte_in_front-plain : (byte : ℕ) (ended : List (List ℕ)) (rest : List ℕ) → nat_eq byte 10 ≡ false → is_plain rest ≡ true → is_plain (byte_in_front byte ended rest).rest ≡ true
byte_in_front-plain byte [] rest other plain = rw other plain
byte_in_front-plain byte (line ∷ ended) rest other plain = plain

pub plain_rest : (text : List ℕ) → is_plain (cut_of text).rest ≡ true
plain_rest [] = refl
plain_rest (byte ∷ bytes) = elim (cases_Bool (nat_eq byte 10)) [
  | inl feed ↦ rw feed (plain_rest bytes)
  | inr other ↦ rw other (byte_in_front-plain byte (cut_of bytes).ended (cut_of bytes).rest other (plain_rest bytes))
]

plain_front : (n : ℕ) (text : List ℕ) → is_plain text ≡ true → is_plain (take n text) ≡ true
plain_front zero text plain = refl
plain_front (suc n) [] plain = refl
plain_front (suc n) (byte ∷ bytes) plain = let first = plain_is byte (is_plain bytes) plain in rw first.0 (plain_front n bytes first.1)

plain_last : (text : List ℕ) (byte : ℕ) → is_plain text ≡ true → nat_eq byte 10 ≡ false → is_plain (text ++ byte ∷ []) ≡ true
plain_last text byte plain other = list_all-append (λ b. not (nat_eq b 10)) text (byte ∷ []) ∙ rw (plain, other) refl

pub as_same : (most : ℕ) (lines : List (List ℕ)) → AreToldAs most lines lines
as_same most [] = tt
as_same most (line ∷ lines) = (inl refl, as_same most lines)

pub as_none : (most : ℕ) (next : List (List ℕ)) → AreToldAs most [] next → next ≡ []
as_none most [] are = refl
as_none most (other ∷ next) are = absurd are

-- lines that may have the answers of some and of more
pub as_front : (most : ℕ) (lines more next : List (List ℕ)) → AreToldAs most (lines ++ more) next → (front others : List (List ℕ)) × (next ≡ front ++ others) × AreToldAs most lines front × AreToldAs most more others
as_front most [] more next are = ([], next, refl, tt, are)
as_front most (line ∷ lines) more [] are = absurd are
as_front most (line ∷ lines) more (other ∷ next) are =
    let parts = as_front most lines more next are.1 in
    (other ∷ parts.0, parts.1, ap (λ all. other ∷ all) parts.2, (are.0, parts.3), parts.4)

-- a line that may have the answer of the first
pub as_first : (most : ℕ) (line : List ℕ) (lines next : List (List ℕ)) → AreToldAs most (line ∷ lines) next → (other : List ℕ) × (others : List (List ℕ)) × (next ≡ other ∷ others) × IsToldAs most line other
as_first most line lines [] are = absurd are
as_first most line lines (other ∷ others) are = (other, others, refl, are.0)

as_one : (most : ℕ) (line : List ℕ) (next : List (List ℕ)) → AreToldAs most (line ∷ []) next → (other : List ℕ) × (next ≡ other ∷ []) × IsToldAs most line other
as_one most line [] are = absurd are
as_one most line (other ∷ []) are = (other, refl, are.0)
as_one most line (other ∷ more ∷ next) are = absurd are.1

pub as_last : (most : ℕ) (lines : List (List ℕ)) (line : List ℕ) (next : List (List ℕ)) → AreToldAs most (lines ++ line ∷ []) next
    → (front : List (List ℕ)) × (last : List ℕ) × (next ≡ front ++ last ∷ []) × AreToldAs most lines front × IsToldAs most line last
as_last most lines line next are =
    let parts = as_front most lines (line ∷ []) next are in
    let one = as_one most line parts.1 parts.4 in
    (parts.0, one.0, parts.2 ∙ ap (λ all. parts.0 ++ all) one.1, parts.3, one.2)

-- what is kept is enough to go on
kept_front : (n : ℕ) (kept rest bytes : List ℕ) → kept ≡ take n rest → take n (kept ++ bytes) ≡ take n (rest ++ bytes)
kept_front n kept rest bytes is = elim (cases_lt n (length rest)) as (λ _. take n (kept ++ bytes) ≡ take n (rest ++ bytes)) [
  | inl long ↦
      let taken = length-take n rest in let lengths = ap length is in
      take-append-le n kept bytes (omega arith) ∙ take_all n kept (omega arith) ∙ is ∙ sym (take-append-le n rest bytes (omega arith))
  | inr short ↦ ap (λ front. take n (front ++ bytes)) (is ∙ take_all n rest short)
]

front_twice : (n : ℕ) (bytes : List ℕ) → take n (take n bytes) ≡ take n bytes
front_twice n bytes = take_all n (take n bytes) (omega (arith, length-take n bytes))

same_kept : (room : ℕ) (one other more : List ℕ) → take room one ≡ take room other → take room (one ++ more) ≡ take room (other ++ more)
same_kept room one other more same = sym (kept_front room (take room one) one more refl) ∙ ap (λ front. take room (front ++ more)) same ∙ kept_front room (take room other) other more refl

abbrev lines_in : Cut → List (List ℕ)
lines_in cut = map without_return cut.ended

-- Two fronts of a line of which the same is kept: whatever follows, the lines may have the same answers, and the same is kept.
pub record GoAlike (most room : ℕ) (one other : List ℕ) : Type 0 where
  pub tells : AreToldAs most (ended_lines one) (ended_lines other)
  pub keeps : kept room one ≡ kept room other

pub go_alike : (most room : ℕ) → most + 2 ≤ room → (one other more : List ℕ) → is_plain one ≡ true → is_plain other ≡ true → take room one ≡ take room other → GoAlike most room (one ++ more) (other ++ more)
go_alike most room enough one other [] plain plain_other same =
    let cut = cut_of_plain one plain in
    let cut_other = cut_of_plain other plain_other in
    rw (append-nil one, append-nil other) (record {
      tells = told_so (ap lines_in cut) (ap lines_in cut_other) tt;
      keeps = ap (λ (c : Cut). take room c.rest) cut ∙ same ∙ sym (ap (λ (c : Cut). take room c.rest) cut_other);
    })
  where
    told_so : {lines others : List (List ℕ)} {ls os : List (List ℕ)} → lines ≡ ls → others ≡ os → AreToldAs most ls os → AreToldAs most lines others
    told_so e f are = rw (e, f) are
go_alike most room enough one other (byte ∷ more) plain plain_other same = elim (cases_eq byte 10) as (λ _. GoAlike most room (one ++ byte ∷ more) (other ++ byte ∷ more)) [
  | inl feed ↦
      let cut = cut_of_first one more plain in
      let cut_other = cut_of_first other more plain_other in
      rw feed (record {
        tells = subst (λ (ls : List (List ℕ)). AreToldAs most ls (ended_lines (other ++ 10 ∷ more))) (sym (ap lines_in cut))
            (subst (λ (os : List (List ℕ)). AreToldAs most (without_return one ∷ ended_lines more) os) (sym (ap lines_in cut_other)) (told_by_front most room enough one other same, as_same most (ended_lines more)));
        keeps = ap (λ (c : Cut). take room c.rest) cut ∙ sym (ap (λ (c : Cut). take room c.rest) cut_other);
      })
  | inr is_other ↦
      let no_feed = ne_eqb byte 10 is_other in
      rw (← append_assoc one (byte ∷ []) more, ← append_assoc other (byte ∷ []) more)
      (go_alike most room enough (one ++ byte ∷ []) (other ++ byte ∷ []) more (plain_last one byte plain no_feed) (plain_last other byte plain_other no_feed) (same_kept room one other (byte ∷ []) same))
]

-- more text: its lines are those of the text, and then those of its rest and what came
pub ended_lines-more : (text more : List ℕ) → ended_lines (text ++ more) ≡ ended_lines text ++ ended_lines ((cut_of text).rest ++ more)
ended_lines-more text more = ap lines_in (cut_of-append text more) ∙ map-append without_return (cut_of text).ended (cut_of ((cut_of text).rest ++ more)).ended

-- for which what is kept of the rest stands
pub kept_goes_on : (most room : ℕ) → most + 2 ≤ room → (text more : List ℕ) → GoAlike most room (kept room text ++ more) ((cut_of text).rest ++ more)
kept_goes_on most room enough text more =
    let rest = (cut_of text).rest in
    go_alike most room enough (take room rest) rest more (plain_front room rest (plain_rest text)) (plain_rest text) (front_twice room rest)

pub kept-more : (most room : ℕ) → most + 2 ≤ room → (text more : List ℕ) → kept room (text ++ more) ≡ kept room (kept room text ++ more)
kept-more most room enough text more = ap (λ (c : Cut). take room c.rest) (cut_of-append text more) ∙ sym (kept_goes_on most room enough text more).keeps

-- the end of a text ends its last line
pub last_told : (most room : ℕ) → most + 2 ≤ room → (text : List ℕ) → AreToldAs most (ended_lines (with_end (kept room text))) (last_line (cut_of text).rest)
last_told most room enough text = last (cut_of text).rest (plain_rest text)
  where
    last : (rest : List ℕ) → is_plain rest ≡ true → AreToldAs most (ended_lines (with_end (take room rest))) (last_line rest)
    last [] plain = subst (λ (front : List ℕ). AreToldAs most (ended_lines (with_end front)) []) (sym (take_all room [] (omega arith))) tt
    last (byte ∷ bytes) plain =
        let rest = byte ∷ bytes in
        let front = take room rest in
        let alone : ended_lines (rest ++ 10 ∷ []) ≡ without_return rest ∷ [] = ap lines_in (cut_of_first rest [] plain) in
        let alike = (go_alike most room enough front rest (10 ∷ []) (plain_front room rest plain) plain (front_twice room rest)).tells in
        subst (λ (os : List (List ℕ)). AreToldAs most (ended_lines (with_end front)) os) alone (subst (λ (text : List ℕ). AreToldAs most (ended_lines text) (ended_lines (rest ++ 10 ∷ []))) (some room bytes enough) alike)
      where
        some : (n : ℕ) (bytes : List ℕ) → most + 2 ≤ n → take n (byte ∷ bytes) ++ 10 ∷ [] ≡ with_end (take n (byte ∷ bytes))
        some zero bytes within = absurd (omega (arith, within))
        some (suc n) bytes within = refl

pub ruleset add_lines_facts = (as_none, as_front, as_first, as_last)
