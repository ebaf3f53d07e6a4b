-- One more answer, and the front of a line.
use Rattle.std.proofs.Common.{◌≡◌, ℕ, zero, suc, ◌+◌, ◌<◌, ◌≤◌, inl, inr, List, [], ◌∷◌, ◌++◌, Bool, true, false, cond, nat_eq, length, take, Option, Some, None, refl, sym, ◌∙◌, ap, arith, zero-add, add-zero}
use Rattle.std.specs.Prelude.{count_by}
use Rattle.std.proofs.lemmas.List.{append-nil, take_all, take-take, length-take}
use Rattle.std.proofs.lemmas.Grind.{flat_map-append}
use Rattle.std.proofs.lemmas.List.Sums.{sum_by-append}
use Rattle.std.proofs.lemmas.Bool.{cases_lt}
use Rattle.desk_lines.specs.declared.report.DeskReport.{DeskReport}
use Rattle.desk_lines.specs.declared.line_kind.LineKind.{LineKind}
use Rattle.desk_lines.specs.declared.line_kind.LineKind.TheVariants.{NoRecord, Answered, Refused}
use Rattle.desk_lines.specs.Lines.{without_return}
use Rattle.desk_lines.specs.Telling.{text_by, text_of, line_by, with_line_feed, is_answered, is_refused, report_of, report_with, answers_in, IsToldAs}

pub text_of_append : (answers more : List (List ℕ)) → text_of (answers ++ more) ≡ text_of answers ++ text_of more
text_of_append answers more = flat_map-append (λ answer. answer ++ 10 ∷ []) answers more

pub text_by-more : {A : Type 0} (written : A → List ℕ) (answers : List A) (answer : Option A) → text_by written (answers ++ answers_in answer) ≡ text_by written answers ++ line_by written answer
text_by-more written answers None = ap (text_by written) (append-nil answers) ∙ sym (append-nil (text_by written answers))
text_by-more written answers (Some answer) =
    flat_map-append (λ answer. written answer ++ 10 ∷ []) answers (answer ∷ []) ∙ ap (λ more. text_by written answers ++ more) (append-nil (written answer ++ 10 ∷ []))

pub text_of_more : (answers : List (List ℕ)) (answer : Option (List ℕ)) → text_of (answers ++ answers_in answer) ≡ text_of answers ++ with_line_feed answer
text_of_more answers answer = text_by-more (λ text. text) answers answer

counted-last : (test : LineKind → Bool) (kinds : List LineKind) (kind : LineKind) → count_by test (kinds ++ kind ∷ []) ≡ count_by test kinds + cond (test kind) 1 0
counted-last test kinds kind = sum_by-append (λ kind. cond (test kind) 1 0) kinds (kind ∷ []) ∙ ap (λ n. count_by test kinds + n) (zero-add (cond (test kind) 1 0))

counted_so : (answered refused : ℕ) (kind : LineKind) (report : DeskReport) → report.answered ≡ answered + cond (is_answered kind) 1 0 → report.refused ≡ refused + cond (is_refused kind) 1 0
    → report ≡ report_with (record { answered = answered; refused = refused }) kind
counted_so answered refused NoRecord report one other = λ i. record { answered = (one ∙ add-zero answered) i; refused = (other ∙ add-zero refused) i }
counted_so answered refused Answered report one other = λ i. record { answered = one i; refused = (other ∙ add-zero refused) i }
counted_so answered refused Refused report one other = λ i. record { answered = (one ∙ add-zero answered) i; refused = other i }

-- one more line is counted
pub report_of_more : (kinds : List LineKind) (kind : LineKind) → report_of (kinds ++ kind ∷ []) ≡ report_with (report_of kinds) kind
report_of_more kinds kind =
    counted_so (count_by is_answered kinds) (count_by is_refused kinds) kind (report_of (kinds ++ kind ∷ [])) (counted-last is_answered kinds kind) (counted-last is_refused kinds kind)

without_return_short : (line : List ℕ) → length line ≤ length (without_return line) + 1
without_return_short [] = omega arith
without_return_short (byte ∷ []) = elim (nat_eq byte 13) as (λ test. 1 ≤ length (cond test [] (byte ∷ [])) + 1) [ true ↦ omega arith | false ↦ omega arith ]
without_return_short (byte ∷ next ∷ bytes) = let shorter = without_return_short (next ∷ bytes) in omega arith

without_return_front : (n : ℕ) (line : List ℕ) → n < length line → take n (without_return line) ≡ take n line
without_return_front zero line longer = refl
without_return_front (suc n) [] longer = absurd (omega (arith, longer))
without_return_front (suc n) (byte ∷ []) longer = absurd (omega (arith, longer))
without_return_front (suc n) (byte ∷ next ∷ bytes) longer = ap (λ (front : List ℕ). byte ∷ front) (without_return_front n (next ∷ bytes) (omega (arith, longer)))

-- A line of which only a front is held has the answer of the whole: it is no longer than what is held, or so long that it is answered as any such line.
pub told_by_front : (most room : ℕ) → most + 2 ≤ room → (line other : List ℕ) → take room line ≡ take room other → IsToldAs most (without_return line) (without_return other)
told_by_front most room enough line other same = elim (cases_lt (most + 1) (length line)) as (λ _. IsToldAs most (without_return line) (without_return other)) [
  | inl longer ↦
      let kept = length-take room line in let kept_other = length-take room other in let lengths = ap length same in
      let front = without_return_short line in let front_other = without_return_short other in
      let long : most < length line = omega arith in let long_other : most < length other = omega arith in
      inr (
        omega arith,
        omega arith,
        without_return_front most line long ∙ sym (take-take most room line (omega arith)) ∙ ap (take most) same ∙ take-take most room other (omega arith) ∙ sym (without_return_front most other long_other),
      )
  | inr short ↦
      let kept = length-take room line in let kept_other = length-take room other in let lengths = ap length same in
      let whole : take room line ≡ line = take_all room line (omega arith) in
      let whole_other : take room other ≡ other = take_all room other (omega arith) in
      inl (ap without_return (sym whole ∙ same ∙ whole_other))
]
