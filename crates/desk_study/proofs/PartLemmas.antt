-- Parts of a text of questions, and the lines of each.
use Rattle.std.proofs.Common.{◌≡◌, ℕ, ◌+◌, ◌≤◌, inl, inr, List, [], ◌∷◌, ◌++◌, true, cond, length, length-append, take, drop, refl, sym, subst, ◌∙◌, ap, arith}
use Rattle.std.specs.Prelude.{not, ◌==◌}
use Rattle.std.proofs.lemmas.List.{append-nil, take-append-drop, take-take}
use Rattle.std.proofs.lemmas.List.Folds.{list_all-append}
use Rattle.std.proofs.lemmas.List.Sums.{sum_by-append}
use Rattle.desk_lines.specs.declared.report.DeskReport.{DeskReport}
use Rattle.desk_lines.specs.declared.line_kind.LineKind.{LineKind}
use Rattle.desk_lines.specs.declared.line_kind.LineKind.TheVariants.{NoRecord, Answered, Refused}
use Rattle.desk_lines.specs.Filling.{IsFirstLine}
use Rattle.desk_lines.specs.Lines.{Cut, cut_of, is_plain, lines}
use Rattle.desk_lines.specs.Telling.{answers_in, both_reports, is_answered, is_refused, report_of, report_with, text_of, with_line_feed}
use Rattle.desk_lines.proofs.CutLemmas.{cut_of-append, plain_rest}
use Rattle.desk_lines.proofs.FillingLemmas.{lines-behind}
use Rattle.desk_lines.proofs.LineLemmas.{cut_of_plain}
use Rattle.desk_lines.proofs.TellingLemmas.{text_of_append, text_of_more}
use Rattle.desk_study.specs.Answers.{question_answer, question_answers, question_kinds}
use Rattle.desk_study.specs.Parts.{IsAnswered}
use Rattle.desk_study.specs.declared.form.StudiesManner.{StudiesManner}
use Rattle.desk_study.specs.declared.part.Part.{Part}
use Rattle.desk_study.proofs.QuestionLemmas.{answers_on, kinds_on}

-- ---- the first line of a text

pub lines_first : (text line after : List ℕ) → IsFirstLine text line after → lines text ≡ line ∷ lines after
lines_first text line after first = elim first.cut.whole as (λ _. lines text ≡ line ∷ lines after) [
  | inl none ↦ ap lines first.cut.parts ∙ lines-behind first.front after none ∙ ap (λ ls. ls ++ lines after) first.line_is
  | inr none ↦ ap lines (first.cut.parts ∙ ap (λ more. first.front ++ more) none ∙ append-nil first.front) ∙ first.line_is ∙ ap (λ more. line ∷ lines more) (sym none)
]

-- its answer, and then those to the others
pub text_first : (manner : StudiesManner) (number : ℕ) (line : List ℕ) (others : List (List ℕ))
    → text_of (question_answers manner number (line ∷ others)) ≡ with_line_feed (question_answer manner number line) ++ text_of (question_answers manner (number + 1) others)
text_first manner number line others =
    let answer = question_answer manner number line in
    let more = question_answers manner (number + 1) others in
    text_of_append (answers_in answer) more ∙ ap (λ front. front ++ text_of more) (text_of_more [] answer)

-- ---- reports

both-append : (kinds others : List LineKind) → report_of (kinds ++ others) ≡ both_reports (report_of kinds) (report_of others)
both-append kinds others =
    let answered = sum_by-append (λ kind. cond (is_answered kind) 1 0) kinds others in
    let refused = sum_by-append (λ kind. cond (is_refused kind) 1 0) kinds others in
    λ i. record { answered = answered i; refused = refused i }

one_more : (report others : DeskReport) (kind : LineKind) → both_reports report (both_reports (report_of (kind ∷ [])) others) ≡ both_reports (report_with report kind) others
one_more report others NoRecord =
    let answered : report.answered + (0 + others.answered) ≡ report.answered + others.answered = omega arith in
    let refused : report.refused + (0 + others.refused) ≡ report.refused + others.refused = omega arith in
    λ i. record { answered = answered i; refused = refused i }
one_more report others Answered =
    let answered : report.answered + (1 + others.answered) ≡ (report.answered + 1) + others.answered = omega arith in
    let refused : report.refused + (0 + others.refused) ≡ report.refused + others.refused = omega arith in
    λ i. record { answered = answered i; refused = refused i }
one_more report others Refused =
    let answered : report.answered + (0 + others.answered) ≡ report.answered + others.answered = omega arith in
    let refused : report.refused + (1 + others.refused) ≡ (report.refused + 1) + others.refused = omega arith in
    λ i. record { answered = answered i; refused = refused i }

-- one more line is counted
pub report_first : (report : DeskReport) (kind : LineKind) (kinds : List LineKind) → both_reports report (report_of (kind ∷ kinds)) ≡ both_reports (report_with report kind) (report_of kinds)
report_first report kind kinds = ap (both_reports report) (both-append (kind ∷ []) kinds) ∙ one_more report (report_of kinds) kind

pub none-both : (report : DeskReport) → report ≡ both_reports (record { answered = 0; refused = 0 }) report
none-both report =
    let answered : report.answered ≡ 0 + report.answered = omega arith in
    let refused : report.refused ≡ 0 + report.refused = omega arith in
    λ i. record { answered = answered i; refused = refused i }

pub both-none : (report : DeskReport) → both_reports report (report_of []) ≡ report
both-none report =
    let answered : report.answered + 0 ≡ report.answered = omega arith in
    let refused : report.refused + 0 ≡ report.refused = omega arith in
    λ i. record { answered = answered i; refused = refused i }

-- ---- two parts

-- the answers to the lines of both, one behind the other
pub both_parts : (manner : StudiesManner) (number behind : ℕ) (all front back : List (List ℕ)) (first second both : Part) → all ≡ front ++ back → behind ≡ number + length front
    → IsAnswered manner number front first → IsAnswered manner behind back second → both.answers.items ≡ first.answers.items ++ second.answers.items → both.report ≡ both_reports first.report second.report
    → IsAnswered manner number all both
both_parts manner number behind all front back first second both parts counted one other answers report = record {
  answers_are =
      answers ∙ ap (λ text. text ++ second.answers.items) one.answers_are
      ∙ ap (λ text. text_of (question_answers manner number front) ++ text) (other.answers_are ∙ ap (λ n. text_of (question_answers manner n back)) counted)
      ∙ sym (text_of_append (question_answers manner number front) (question_answers manner (number + length front) back))
      ∙ ap text_of (sym (ap (question_answers manner number) parts ∙ answers_on manner number front back));
  report_is =
      report ∙ ap (λ r. both_reports r second.report) one.report_is
      ∙ ap (both_reports (report_of (question_kinds number front))) (other.report_is ∙ ap (λ n. report_of (question_kinds n back)) counted)
      ∙ sym (both-append (question_kinds number front) (question_kinds (number + length front) back))
      ∙ ap report_of (sym (ap (question_kinds number) parts ∙ kinds_on number front back));
}

-- ---- where a text is cut

plain_parts : (rest more : List ℕ) → is_plain rest ≡ true → is_plain more ≡ true → is_plain (rest ++ more) ≡ true
plain_parts rest more plain others = list_all-append (λ b. not (b == 10)) rest more ∙ rw (plain, others) refl

no_more : (rest more : List ℕ) → more ≡ rest ++ more → rest ≡ []
no_more [] more same = refl
no_more (byte ∷ rest) more same = absurd (omega (arith, ap length same, length-append (byte ∷ rest) more))

-- what comes before the rest of a text ends with a line
ended_front : (text : List ℕ) (place : ℕ) → drop place text ≡ (cut_of text).rest → (cut_of (take place text)).rest ≡ []
ended_front text place is =
    let front = take place text in
    let back = drop place text in
    let held = (cut_of front).rest in
    let plain : is_plain back ≡ true = subst (λ (bytes : List ℕ). is_plain bytes ≡ true) (sym is) (plain_rest text) in
    let cut = ap cut_of (sym (take-append-drop place text)) ∙ cut_of-append front back in
    no_more held back (is ∙ ap (λ (c : Cut). c.rest) cut ∙ ap (λ (c : Cut). c.rest) (cut_of_plain (held ++ back) (plain_parts held back (plain_rest front) plain)))

-- the lines of both sides of a cut
pub lines_cut : (text : List ℕ) (place ended : ℕ) → ended ≤ place → drop ended (take place text) ≡ (cut_of (take place text)).rest → lines text ≡ lines (take ended text) ++ lines (drop ended text)
lines_cut text place ended within is =
    let same : take ended (take place text) ≡ take ended text = take-take ended place text within in
    let none = subst (λ (front : List ℕ). (cut_of front).rest ≡ []) same (ended_front (take place text) ended is) in
    ap lines (sym (take-append-drop ended text)) ∙ lines-behind (take ended text) (drop ended text) none
