-- Numbered answers once one more line is answered.
use Rattle.std.proofs.Common.{◌≡◌, ◌≢◌, ℕ, suc, ◌+◌, List, [], ◌∷◌, ◌++◌, true, false, cond, Option, Some, None, refl, sym, subst, ◌∙◌, ap, append_assoc, length, take, map, arith}
use Rattle.std.proofs.lemmas.List.{append-nil}
use Rattle.std.proofs.Math.Seq.{take-append_seam}
use Rattle.std.specs.Prelude.{is_some, unwrap_or}
use Rattle.riichi_hand.specs.Rules.{Rules}
use Rattle.desk_lines.specs.LongLines.{AreAlike}
use Rattle.desk_lines.specs.Numbered.{AreNumbered, NumberRecords, with_number}
use Rattle.desk_lines.specs.Profile.{profile_of, first_number, rules_of, record_lines}
use Rattle.desk_lines.specs.Records.{rules_after, AnswerKind, IsToldUnder, IsToldBy, AreTold, AnswerRecords}
use Rattle.desk_lines.specs.Telling.{answers_in, has_answer, line_by, IsToldAs}
use Rattle.desk_lines.specs.declared.line_kind.LineKind.{LineKind}
use Rattle.desk_lines.specs.declared.line_kind.LineKind.TheVariants.{NoRecord, Answered, Refused}
use Rattle.desk_lines.specs.declared.records.Records.{Records}
use Rattle.desk_lines.proofs.AnswerLemmas.{record_lines-more, told_next}

AreNumbered-last : (Answers : AnswerKind) (rules : Rules) (number last : ℕ) (lines : List (List ℕ)) (line : List ℕ) (told : List (ℕ × List ℕ)) (answer : Option (List ℕ)) → last ≡ number + length lines
    → AreNumbered Answers rules number lines told → Answers rules line answer → AreNumbered Answers rules number (lines ++ line ∷ []) (told ++ answers_in (with_number last answer))
AreNumbered-last Answers rules number last [] line told answer at are is =
    let here : last ≡ number = omega (arith, at) in
    (answer, [], is, ap (λ (front : List (ℕ × List ℕ)). front ++ answers_in (with_number last answer)) are ∙ ap (λ n. answers_in (with_number n answer)) here ∙ sym (append-nil (answers_in (with_number number answer))), refl)
AreNumbered-last Answers rules number last (first ∷ lines) line told answer at are is =
    let more = answers_in (with_number last answer) in (
      are.0,
      are.1 ++ more,
      are.2,
      ap (λ (front : List (ℕ × List ℕ)). front ++ more) are.3 ∙ append_assoc (answers_in (with_number number are.0)) are.1 more,
      AreNumbered-last Answers rules (suc number) last lines line are.1 answer (omega (arith, at)) are.4 is,
    )

-- the first line may set the profile, and is no record then
first_numbered : (Answers : AnswerKind) (given : Rules) (line : List ℕ) (told : List (ℕ × List ℕ)) (answer : Option (List ℕ)) (profile : Option Rules) → told ≡ []
    → IsToldUnder Answers (cond (is_some profile) None (Some given)) line answer
    → AreNumbered Answers (unwrap_or profile given) (cond (is_some profile) 2 1) (cond (is_some profile) [] (line ∷ [])) (told ++ answers_in (with_number 1 answer))
first_numbered Answers given line told answer None none is =
    (answer, [], is, ap (λ (front : List (ℕ × List ℕ)). front ++ answers_in (with_number 1 answer)) none ∙ sym (append-nil (answers_in (with_number 1 answer))), refl)
first_numbered Answers given line told answer (Some rules) none is =
    ap (λ (front : List (ℕ × List ℕ)). front ++ answers_in (with_number 1 answer)) none ∙ ap (λ (a : Option (List ℕ)). answers_in (with_number 1 a)) is

-- the number of the line behind these
pub next_number : (first : List ℕ) (lines : List (List ℕ)) → length (first ∷ lines) + 1 ≡ first_number (first ∷ lines) + length (record_lines (first ∷ lines))
next_number first lines =
    elim (is_some (profile_of first)) as (λ test. length (first ∷ lines) + 1 ≡ cond test 2 1 + length (cond test lines (first ∷ lines))) [ true ↦ omega arith | false ↦ omega arith ]

pub NumberRecords-last : (Answers : AnswerKind) (given : Rules) (lines : List (List ℕ)) (line : List ℕ) (told : List (ℕ × List ℕ)) (answer : Option (List ℕ)) → NumberRecords Answers given lines told
    → IsToldBy Answers given (rules_after given lines) line answer → NumberRecords Answers given (lines ++ line ∷ []) (told ++ answers_in (with_number (length lines + 1) answer))
NumberRecords-last Answers given [] line told answer are is = first_numbered Answers given line told answer (profile_of line) are is
NumberRecords-last Answers given (first ∷ lines) line told answer are is =
    let rules = rules_of given (first ∷ lines) in
    let number = length (first ∷ lines) + 1 in
    subst (λ (all : List (List ℕ)). AreNumbered Answers rules (first_number (first ∷ lines)) all (told ++ answers_in (with_number number answer))) (sym (record_lines-more first lines (line ∷ [])))
    (AreNumbered-last Answers rules (first_number (first ∷ lines)) number (record_lines (first ∷ lines)) line told answer (next_number first lines) are is)

-- one more line was answered as its records are
pub NumberRecords_line : {A : Type 0} (Answers : AnswerKind) → AreAlike Answers → (old new : Records A) (number : ℕ) (line next : List ℕ) (answer : Option (List ℕ)) (lines : List (List ℕ)) (told : List (ℕ × List ℕ)) → number ≡ length lines + 1
    → IsToldAs 4096 line next → old.rules ≡ rules_after old.given lines → new.given ≡ old.given → IsToldBy Answers old.given old.rules line answer → NumberRecords Answers old.given lines told
    → NumberRecords Answers new.given (lines ++ next ∷ []) (told ++ answers_in (with_number number answer))
NumberRecords_line Answers alike old new number line next answer lines told at as_this before given is are =
    let front = NumberRecords-last Answers old.given lines next told answer are (told_next Answers alike old line next answer lines as_this before is) in
    let numbered = subst (λ n. NumberRecords Answers old.given (lines ++ next ∷ []) (told ++ answers_in (with_number n answer))) (sym at) front in
    subst (λ (g : Rules). NumberRecords Answers g (lines ++ next ∷ []) (told ++ answers_in (with_number number answer))) (sym given) numbered

-- ---- without the numbers

one_without : (number : ℕ) (answer : Option (List ℕ)) (others : List (ℕ × List ℕ)) → map (λ told. told.1) (answers_in (with_number number answer) ++ others) ≡ answers_in answer ++ map (λ told. told.1) others
one_without number None others = refl
one_without number (Some answer) others = refl

AreNumbered-told : (Answers : AnswerKind) (rules : Rules) (number : ℕ) (lines : List (List ℕ)) (told : List (ℕ × List ℕ)) → AreNumbered Answers rules number lines told → AreTold Answers rules lines (map (λ told. told.1) told)
AreNumbered-told Answers rules number [] told are = ap (map (λ told. told.1)) are
AreNumbered-told Answers rules number (line ∷ lines) told are =
    (are.0, map (λ told. told.1) are.1, are.2, ap (map (λ told. told.1)) are.3 ∙ one_without number are.0 are.1, AreNumbered-told Answers rules (suc number) lines are.1 are.4)

pub without_numbers_told : (Answers : AnswerKind) (given : Rules) (lines : List (List ℕ)) (told : List (ℕ × List ℕ)) → NumberRecords Answers given lines told → AnswerRecords Answers given lines (map (λ told. told.1) told)
without_numbers_told Answers given lines told are = AreNumbered-told Answers (rules_of given lines) (first_number lines) (record_lines lines) told are

-- ---- one answer behind its number

pub put_behind : (front : ℕ → List ℕ) (number : ℕ) (answer : Option (List ℕ)) (kind : LineKind) (before : List ℕ) → is_some answer ≡ has_answer kind → kind ≢ NoRecord
    → (before ++ front number) ++ line_by (λ text. text) answer ≡ before ++ line_by (λ told. front told.0 ++ told.1) (with_number number answer)
put_behind front number None NoRecord before has some = absurd (some refl)
put_behind front number None Answered before has some = absurd (let no : ⊥ = cc in no)
put_behind front number None Refused before has some = absurd (let no : ⊥ = cc in no)
put_behind front number (Some answer) kind before has some =
    append_assoc before (front number) (answer ++ 10 ∷ []) ∙ ap (λ (rest : List ℕ). before ++ rest) (sym (append_assoc (front number) answer (10 ∷ [])))

-- without an answer the front is dropped
pub nothing_behind : (front : ℕ → List ℕ) (number : ℕ) (answer : Option (List ℕ)) (before : List ℕ) → is_some answer ≡ false
    → take (length before) ((before ++ front number) ++ line_by (λ text. text) answer) ≡ before ++ line_by (λ told. front told.0 ++ told.1) (with_number number answer)
nothing_behind front number None before none =
    ap (take (length before)) (append-nil (before ++ front number)) ∙ take-append_seam before (front number) ∙ sym (append-nil before)
nothing_behind front number (Some answer) before none = absurd (let no : ⊥ = cc in no)
