-- The answers to one more line.
use Rattle.std.proofs.Common.{◌≡◌, ℕ, ◌+◌, ◌<◌, Bool, List, [], ◌∷◌, ◌++◌, Option, None, Some, Result, Ok, Err, inl, inr, length, refl, sym, subst, ap, ◌∙◌, append_assoc, arith}
use Rattle.std.proofs.lemmas.Bool.{lt-ltb}
use Rattle.std.proofs.lemmas.List.{append-nil}
use Rattle.std.specs.Prelude.{◌==◌, ◌&&◌, is_some, if◌then◌else◌, false}
use Rattle.std.specs.List.{list_any}
use Rattle.riichi_hand.specs.Lines.{is_other_byte}
use Rattle.riichi_hand.specs.Rules.{Rules}
use Rattle.riichi_hand.specs.Words.{words_of}
use Rattle.riichi_hand.specs.declared.fault.LineCode.TheVariants.{H1}
use Rattle.riichi_hand.specs.declared.fault.LineFault.TheVariants.{Line}
use Rattle.riichi_study.specs.Lines.{is_note, line_asked, study_of}
use Rattle.desk_lines.specs.LongLines.{long_profile}
use Rattle.desk_lines.specs.Profile.{profile_of}
use Rattle.desk_lines.specs.Telling.{IsToldAs, answers_in, report_of, report_with}
use Rattle.desk_lines.specs.declared.line_kind.LineKind.{LineKind}
use Rattle.desk_lines.specs.declared.line_kind.LineKind.TheVariants.{NoRecord, Refused}
use Rattle.desk_lines.specs.declared.report.DeskReport.{DeskReport}
use Rattle.desk_lines.proofs.AnswerLemmas.{same_as_told}
use Rattle.desk_lines.proofs.TellingLemmas.{report_of_more}
use Rattle.desk_study.specs.Answers.{question_answer, question_answers, question_kind, question_kinds, studied, studied_kind, number_asked}
use Rattle.desk_study.specs.declared.form.StudiesManner.{StudiesManner}
use Rattle.desk_study.specs.Tellers.{HasAnswered, LineWantsMemory}
use Rattle.desk_study.specs.declared.questions.Questions.{Questions}

-- ---- long lines, which are all answered alike

long_study : (line : List ℕ) → 4096 < length line → study_of line ≡ Err (Line H1)
unfolding study_of
long_study line long =
    ap (λ (is_long : Bool). if is_long then Err (Line H1) else (if is_note line then Ok None else line_asked (list_any is_other_byte line) (words_of line))) (lt-ltb 4096 (length line) long)

no_rules : (t : Bool) → (t && false) ≡ false
no_rules t = elim t as (λ v. (v && false) ≡ false) [ Rattle.std.proofs.Common.true ↦ refl | Rattle.std.proofs.Common.false ↦ refl ]

names_none : (number : ℕ) (line : List ℕ) → 4096 < length line → ((number == 1) && is_some (profile_of line)) ≡ false
names_none number line long = ap (λ (p : Option Rules). (number == 1) && is_some p) (long_profile line long) ∙ no_rules (number == 1)

long_answer : (manner : StudiesManner) (number : ℕ) (line : List ℕ) → 4096 < length line → question_answer manner number line ≡ studied manner.form (number_asked manner.is_numbered number) (Err (Line H1))
unfolding question_answer
long_answer manner number line long =
    let told = studied manner.form (number_asked manner.is_numbered number) in
    ap (λ t. if t then None else told (study_of line)) (names_none number line long) ∙ ap told (long_study line long)

long_kind : (number : ℕ) (line : List ℕ) → 4096 < length line → question_kind number line ≡ Refused
unfolding question_kind
long_kind number line long = ap (λ t. if t then NoRecord else studied_kind (study_of line)) (names_none number line long) ∙ ap studied_kind (long_study line long)

answer_as_told : (manner : StudiesManner) (number : ℕ) (line next : List ℕ) → IsToldAs 4096 line next → question_answer manner number line ≡ question_answer manner number next
answer_as_told manner number line next as_this = same_as_told (question_answer manner number) (long_answer manner number) line next as_this

kind_as_told : (number : ℕ) (line next : List ℕ) → IsToldAs 4096 line next → question_kind number line ≡ question_kind number next
kind_as_told number line next as_this = same_as_told (question_kind number) (long_kind number) line next as_this

-- ---- one line more

none_before : (number : ℕ) → number ≡ number + 0
none_before number = omega arith

one_before : (number count : ℕ) → number + 1 + count ≡ number + (count + 1)
one_before number count = omega arith

length_more : (line : List ℕ) (lines : List (List ℕ)) → length (line ∷ lines) ≡ length lines + 1
length_more line lines = omega arith

-- the answers to more lines follow those to the first
pub answers_on : (manner : StudiesManner) (number : ℕ) (lines more : List (List ℕ)) → question_answers manner number (lines ++ more) ≡ question_answers manner number lines ++ question_answers manner (number + length lines) more
answers_on manner number [] more = ap (λ n. question_answers manner n more) (none_before number)
answers_on manner number (line ∷ lines) more =
    let first = answers_in (question_answer manner number line) in
    ap (λ (others : List (List ℕ)). first ++ others) (answers_on manner (number + 1) lines more)
    ∙ sym (append_assoc first (question_answers manner (number + 1) lines) (question_answers manner (number + 1 + length lines) more))
    ∙ ap (λ n. (first ++ question_answers manner (number + 1) lines) ++ question_answers manner n more) (one_before number (length lines) ∙ ap (λ k. number + k) (sym (length_more line lines)))

answers_more : (manner : StudiesManner) (number : ℕ) (lines : List (List ℕ)) (next : List ℕ) → question_answers manner number (lines ++ next ∷ []) ≡ question_answers manner number lines ++ answers_in (question_answer manner (number + length lines) next)
answers_more manner number lines next =
    answers_on manner number lines (next ∷ []) ∙ ap (λ (last : List (List ℕ)). question_answers manner number lines ++ last) (append-nil (answers_in (question_answer manner (number + length lines) next)))

pub kinds_on : (number : ℕ) (lines more : List (List ℕ)) → question_kinds number (lines ++ more) ≡ question_kinds number lines ++ question_kinds (number + length lines) more
kinds_on number [] more = ap (λ n. question_kinds n more) (none_before number)
kinds_on number (line ∷ lines) more =
    ap (λ (others : List LineKind). question_kind number line ∷ others) (kinds_on (number + 1) lines more)
    ∙ ap (λ n. question_kind number line ∷ question_kinds (number + 1) lines ++ question_kinds n more) (one_before number (length lines) ∙ ap (λ k. number + k) (sym (length_more line lines)))

pub tells_more : (first now after : Questions) (number : ℕ) (line : List ℕ) (kind : LineKind) (lines told : List (List ℕ)) (report : DeskReport) (next : List ℕ) → kind ≡ question_kind number line → number ≡ length lines + 1 → IsToldAs 4096 line next
    → after.manner ≡ now.manner → HasAnswered first now lines told report → HasAnswered first after (lines ++ next ∷ []) (told ++ answers_in (question_answer now.manner number line)) (report_with report kind)
tells_more first now after number line kind lines told report next kind_is counted as_this manner_is tells = record {
  alike = manner_is ∙ tells.alike;
  answers_are =
      ap (λ (t : List (List ℕ)). t ++ answers_in (question_answer now.manner number line)) tells.answers_are
      ∙ ap (λ (a : Option (List ℕ)). question_answers first.manner 1 lines ++ answers_in a) (ap (λ (m : StudiesManner). question_answer m number line) tells.alike ∙ answer_as_told first.manner number line next as_this ∙ ap (λ n. question_answer first.manner n next) number_is)
      ∙ sym (answers_more first.manner 1 lines next);
  report_is =
      ap (λ (r : DeskReport). report_with r kind) tells.report_is
      ∙ ap (λ k. report_with (report_of (question_kinds 1 lines)) k) (kind_is ∙ kind_as_told number line next as_this ∙ ap (λ n. question_kind n next) number_is)
      ∙ sym (report_of_more (question_kinds 1 lines) (question_kind (1 + length lines) next))
      ∙ ap report_of (sym (kinds_on 1 lines (next ∷ [])));
}
  where
    number_is : number ≡ 1 + length lines
    number_is = omega (arith, counted)

-- ---- where memory is wanted

-- a line that is answered as another asks for chances where that one does
pub asks_too : (line next : List ℕ) → IsToldAs 4096 line next → LineWantsMemory line → LineWantsMemory next
asks_too line next (inl e) asks = subst LineWantsMemory e asks
asks_too line next (inr long) asks = absurd (let no = sym (long_study line long.0) ∙ asks.1 in cc)
