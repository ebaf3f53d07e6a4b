-- The answer to one more line.
use Rattle.std.proofs.Common.{◌≡◌, ℕ, ◌<◌, inl, inr, List, [], ◌∷◌, ◌++◌, true, false, cond, length, map, Option, Some, None, refl, sym, subst, ◌∙◌, ap, append_assoc}
use Rattle.std.proofs.lemmas.List.{append-nil, map-append}
use Rattle.std.specs.List.{filter_map, cons_option}
use Rattle.std.proofs.lemmas.List.Elements.{filter_map-append}
use Rattle.std.specs.Prelude.{is_some, unwrap_or}
use Rattle.riichi_hand.specs.Rules.{Rules}
use Rattle.desk_lines.specs.Profile.{profile_of, rules_of, record_lines, rules_by, record_rules}
use Rattle.desk_lines.specs.declared.line_kind.LineKind.TheVariants.{Refused}
use Rattle.desk_lines.specs.LineAnswer.{IsBy, line_kind, outcome_kind}
use Rattle.desk_lines.specs.LineAnswers.{answers_by, report_on}
use Rattle.desk_lines.specs.Telling.{text_of, answers_in, report_of, report_with, IsToldAs}
use Rattle.desk_lines.specs.Records.{rules_after, AnswerKind, IsToldUnder, IsToldBy, kind_under, AreTold, AnswerRecords}
use Rattle.desk_lines.specs.declared.records.Records.{Records}
use Rattle.desk_lines.specs.Streams.{StopsWriting}
use Rattle.desk_io.specs.declared.sink.Sink.{Ghosts as OfSink}
use Rattle.desk_lines.proofs.TellingLemmas.{text_of_append, report_of_more}
use Rattle.desk_lines.proofs.StreamLemmas.{StopsWriting_more}
use Rattle.desk_lines.specs.LongLines.{AreAlike, long_outcome, long_profile}

-- what is the same for all long lines is the same for lines with one answer
pub same_as_told : {X : Type 0} {long : X} (of : List ℕ → X) → ((line : List ℕ) → 4096 < length line → of line ≡ long) → (line next : List ℕ) → IsToldAs 4096 line next → of line ≡ of next
same_as_told of each line next (inl same) = ap of same
same_as_told of each line next (inr both) = each line both.0 ∙ sym (each next both.1)

-- all but the first line are records
pub record_lines-more : (line : List ℕ) (lines more : List (List ℕ)) → record_lines ((line ∷ lines) ++ more) ≡ record_lines (line ∷ lines) ++ more
record_lines-more line lines more = elim (is_some (profile_of line)) as (λ test. cond test (lines ++ more) (line ∷ lines ++ more) ≡ cond test lines (line ∷ lines) ++ more) [ true ↦ refl | false ↦ refl ]

pub rules_after-last : (given : Rules) (lines : List (List ℕ)) (line : List ℕ) → rules_after given (lines ++ line ∷ []) ≡ Some (rules_by given (rules_after given lines) line)
rules_after-last given [] line = refl
rules_after-last given (first ∷ lines) line = refl

pub rules_long : (given : Rules) (rules : Option Rules) (line : List ℕ) → 4096 < length line → rules_by given rules line ≡ unwrap_or rules given
rules_long given None line long = rw (long_profile line long) refl
rules_long given (Some rules) line long = refl

-- ---- any kind of answer

-- one more line gets its answer
pub AreTold_last : (Answers : AnswerKind) (rules : Rules) (lines : List (List ℕ)) (line : List ℕ) (told : List (List ℕ)) (answer : Option (List ℕ)) → AreTold Answers rules lines told → Answers rules line answer
    → AreTold Answers rules (lines ++ line ∷ []) (told ++ answers_in answer)
AreTold_last Answers rules [] line told answer are is = (answer, [], is, ap (λ (front : List (List ℕ)). front ++ answers_in answer) are ∙ sym (append-nil (answers_in answer)), refl)
AreTold_last Answers rules (first ∷ lines) line told answer are is =
    (are.0, are.1 ++ answers_in answer, are.2, ap (λ (front : List (List ℕ)). front ++ answers_in answer) are.3 ∙ append_assoc (answers_in are.0) are.1 (answers_in answer), AreTold_last Answers rules lines line are.1 answer are.4 is)

first_told : (Answers : AnswerKind) (given : Rules) (line : List ℕ) (told : List (List ℕ)) (answer : Option (List ℕ)) (profile : Option Rules) → told ≡ []
    → IsToldUnder Answers (cond (is_some profile) None (Some given)) line answer
    → AreTold Answers (unwrap_or profile given) (cond (is_some profile) [] (line ∷ [])) (told ++ answers_in answer)
first_told Answers given line told answer None none is = (answer, [], is, ap (λ (front : List (List ℕ)). front ++ answers_in answer) none ∙ sym (append-nil (answers_in answer)), refl)
first_told Answers given line told answer (Some rules) none is = ap (λ (front : List (List ℕ)). front ++ answers_in answer) none ∙ ap answers_in is

AnswerRecords-last : (Answers : AnswerKind) (given : Rules) (lines : List (List ℕ)) (line : List ℕ) (told : List (List ℕ)) (answer : Option (List ℕ)) → AnswerRecords Answers given lines told
    → IsToldBy Answers given (rules_after given lines) line answer → AnswerRecords Answers given (lines ++ line ∷ []) (told ++ answers_in answer)
AnswerRecords-last Answers given [] line told answer are is = first_told Answers given line told answer (profile_of line) are is
AnswerRecords-last Answers given (first ∷ lines) line told answer are is =
    let rules = rules_of given (first ∷ lines) in
    subst (λ (all : List (List ℕ)). AreTold Answers rules all (told ++ answers_in answer)) (sym (record_lines-more first lines (line ∷ [])))
    (AreTold_last Answers rules (record_lines (first ∷ lines)) line told answer are is)

alike_under : (Answers : AnswerKind) → AreAlike Answers → (rules : Option Rules) (line next : List ℕ) (answer : Option (List ℕ)) → 4096 < length line → 4096 < length next
    → IsToldUnder Answers rules line answer → IsToldUnder Answers rules next answer
alike_under Answers alike None line next answer long long_next is = is
alike_under Answers alike (Some rules) line next answer long long_next is = alike rules line next answer long long_next is

pub records_long : (given : Rules) (rules : Option Rules) (line : List ℕ) → 4096 < length line → record_rules given rules line ≡ Some (unwrap_or rules given)
records_long given None line long = rw (long_profile line long) refl
records_long given (Some rules) line long = refl

pub told_as : (Answers : AnswerKind) → AreAlike Answers → (given : Rules) (rules : Option Rules) (line next : List ℕ) (answer : Option (List ℕ)) → IsToldAs 4096 line next
    → IsToldBy Answers given rules line answer → IsToldBy Answers given rules next answer
told_as Answers alike given rules line next answer (inl same) is = subst (λ (l : List ℕ). IsToldBy Answers given rules l answer) same is
told_as Answers alike given rules line next answer (inr long) is =
    let kept = same_as_told (record_rules given rules) (records_long given rules) line next (inr long) in
    subst (λ (r : Option Rules). IsToldUnder Answers r next answer) kept (alike_under Answers alike (record_rules given rules line) line next answer long.0 long.1 is)

-- the profile once one more line was read
pub rules_read : {A : Type 0} (old new : Records A) (line next : List ℕ) (lines : List (List ℕ)) → IsToldAs 4096 line next → old.rules ≡ rules_after old.given lines
    → new.given ≡ old.given → new.rules ≡ Some (rules_by old.given old.rules line) → new.rules ≡ rules_after new.given (lines ++ next ∷ [])
rules_read old new line next lines as_this before given rules =
    rules ∙ ap (λ r. Some (rules_by old.given r line)) before ∙ ap Some (same_as_told (rules_by old.given (rules_after old.given lines)) (rules_long old.given (rules_after old.given lines)) line next as_this)
    ∙ sym (rules_after-last old.given lines next) ∙ ap (λ (g : Rules). rules_after g (lines ++ next ∷ [])) (sym given)

-- the answer to a line is one to the next line
pub told_next : {A : Type 0} (Answers : AnswerKind) → AreAlike Answers → (old : Records A) (line next : List ℕ) (answer : Option (List ℕ)) (lines : List (List ℕ)) → IsToldAs 4096 line next → old.rules ≡ rules_after old.given lines
    → IsToldBy Answers old.given old.rules line answer → IsToldBy Answers old.given (rules_after old.given lines) next answer
told_next Answers alike old line next answer lines as_this before is =
    told_as Answers alike old.given (rules_after old.given lines) line next answer as_this (subst (λ (r : Option Rules). IsToldBy Answers old.given r line answer) before is)

-- ---- how many

first_counted : (given : Rules) (line : List ℕ) (profile : Option Rules)
    → report_of (map (line_kind (unwrap_or profile given)) (cond (is_some profile) [] (line ∷ []))) ≡ report_with (report_of []) (kind_under (cond (is_some profile) None (Some given)) line)
first_counted given line None = report_of_more [] (line_kind given line)
first_counted given line (Some rules) = refl

pub report_on-last : (given : Rules) (lines : List (List ℕ)) (line : List ℕ) → report_on given (lines ++ line ∷ []) ≡ report_with (report_on given lines) (kind_under (record_rules given (rules_after given lines) line) line)
report_on-last given [] line = first_counted given line (profile_of line)
report_on-last given (first ∷ lines) line =
    let kind = line_kind (rules_of given (first ∷ lines)) in
    let records = record_lines (first ∷ lines) in
    ap (λ ls. report_of (map kind ls)) (record_lines-more first lines (line ∷ [])) ∙ ap report_of (map-append kind records (line ∷ [])) ∙ report_of_more (map kind records) (kind line)

pub kind_long : (given : Rules) (rules : Option Rules) (line : List ℕ) → 4096 < length line → kind_under (record_rules given rules line) line ≡ Refused
kind_long given rules line long = ap (λ (r : Option Rules). kind_under r line) (records_long given rules line long) ∙ ap outcome_kind (long_outcome (unwrap_or rules given) line long)

-- one more line was answered as its records are
pub AnswerRecords-line : {A : Type 0} (Answers : AnswerKind) → AreAlike Answers → (old new : Records A) (line next : List ℕ) (answer : Option (List ℕ)) (lines told : List (List ℕ)) → IsToldAs 4096 line next → old.rules ≡ rules_after old.given lines
    → new.given ≡ old.given → IsToldBy Answers old.given old.rules line answer → AnswerRecords Answers old.given lines told → AnswerRecords Answers new.given (lines ++ next ∷ []) (told ++ answers_in answer)
AnswerRecords-line Answers alike old new line next answer lines told as_this before given is are =
    subst (λ (g : Rules). AnswerRecords Answers g (lines ++ next ∷ []) (told ++ answers_in answer)) (sym given)
    (AnswerRecords-last Answers old.given lines next told answer are (told_next Answers alike old line next answer lines as_this before is))

-- ---- answers by a function

pub told_by : (by : Rules → List ℕ → Option (List ℕ)) (rules : Rules) (lines told : List (List ℕ)) → AreTold (IsBy by) rules lines told → told ≡ filter_map (by rules) lines
told_by by rules [] told are = are
told_by by rules (line ∷ lines) told are =
    are.3 ∙ ap (λ (rest : List (List ℕ)). answers_in are.0 ++ rest) (told_by by rules lines are.1 are.4) ∙ cons are.0 (filter_map (by rules) lines)
    ∙ ap (λ (answer : Option (List ℕ)). cons_option answer (filter_map (by rules) lines)) are.2
  where
    cons : (answer : Option (List ℕ)) (rest : List (List ℕ)) → answers_in answer ++ rest ≡ cons_option answer rest
    cons None rest = refl
    cons (Some answer) rest = refl

pub answers_told : (by : Rules → List ℕ → Option (List ℕ)) (given : Rules) (lines told : List (List ℕ)) → AnswerRecords (IsBy by) given lines told → told ≡ answers_by by given lines
answers_told by given lines told are = told_by by (rules_of given lines) (record_lines lines) told are

-- the answers to more lines follow those to the first
answers_by-append : (by : Rules → List ℕ → Option (List ℕ)) (given : Rules) (lines more : List (List ℕ)) → (others : List (List ℕ)) × (answers_by by given (lines ++ more) ≡ answers_by by given lines ++ others)
answers_by-append by given [] more = (answers_by by given more, refl)
answers_by-append by given (first ∷ lines) more =
    let rules = rules_of given (first ∷ lines) in
    (filter_map (by rules) more, ap (filter_map (by rules)) (record_lines-more first lines more) ∙ filter_map-append (by rules) (record_lines (first ∷ lines)) more)

text_of_more : (by : Rules → List ℕ → Option (List ℕ)) (given : Rules) (lines more : List (List ℕ)) → (others : List ℕ) × (text_of (answers_by by given (lines ++ more)) ≡ text_of (answers_by by given lines) ++ others)
text_of_more by given lines more =
    let others = answers_by-append by given lines more in
    (text_of others.0, ap text_of others.1 ∙ text_of_append (answers_by by given lines) others.0)

-- the text of the answers to the first lines begins that of all
pub front_told : {W : Type 0} (by : Rules → List ℕ → Option (List ℕ)) (sink : OfSink W) (start new : W) (given : Rules) (lines first others answers : List (List ℕ)) → lines ≡ first ++ others
    → AnswerRecords (IsBy by) given first answers → StopsWriting sink start new (text_of answers) → StopsWriting sink start new (text_of (answers_by by given lines))
front_told by sink start new given lines first others answers parts are stops =
    let more = text_of_more by given first others in
    subst (λ (all : List ℕ). StopsWriting sink start new all) (ap (λ told. text_of told ++ more.0) (answers_told by given first answers are) ∙ sym more.1 ∙ ap (λ ls. text_of (answers_by by given ls)) (sym parts))
    (StopsWriting_more sink start new (text_of answers) more.0 stops)
