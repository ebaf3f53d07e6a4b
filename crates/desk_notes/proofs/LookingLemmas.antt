-- The lines of a text that are looked through one by one.
use Rattle.std.proofs.Common.{◌≡◌, ℕ, ◌<◌, ◌+◌, suc, List, [], ◌∷◌, ◌++◌, Bool, true, false, length, Option, Some, None, Err, refl, sym, subst, ◌∙◌, ap, arith}
use Rattle.std.specs.Prelude.{unwrap_or}
use Rattle.std.proofs.lemmas.List.{map-append, length-map}
use Rattle.riichi_hand.specs.Rules.{Rules}
use Rattle.riichi_hand.specs.Lines.{outcome_of}
use Rattle.riichi_hand.specs.declared.fault.LineCode.TheVariants.{H1}
use Rattle.riichi_hand.specs.declared.fault.LineFault.TheVariants.{Line}
use Rattle.riichi_hand.specs.declared.win.WinParts.{WinParts}
use Rattle.desk_lines.specs.LineAnswer.{outcome_kind}
use Rattle.desk_lines.specs.LineAnswers.{report_on}
use Rattle.desk_lines.specs.LongLines.{long_outcome}
use Rattle.desk_lines.specs.Profile.{rules_of, rules_by, record_rules}
use Rattle.desk_lines.specs.Records.{rules_after, kind_under}
use Rattle.desk_lines.specs.Telling.{report_with, IsToldAs}
use Rattle.desk_lines.specs.declared.line_kind.LineKind.{LineKind}
use Rattle.desk_lines.specs.declared.report.DeskReport.{DeskReport}
use Rattle.desk_lines.proofs.AnswerLemmas.{same_as_told, rules_after-last, rules_long, records_long, report_on-last}
use Rattle.desk_notes.specs.declared.looking.Looking.{Looking}
use Rattle.desk_notes.specs.Winners.{LineOutcome, last_win, last_win_by, is_paid_again, put_if, paid_again_from}
use Rattle.desk_notes.specs.Looking.{outcome_under, outcomes_on, paid_again, Takes, HasSeen}

-- ---- one more outcome

last_win-last : (before : Option WinParts) (outcomes : List LineOutcome) (outcome : LineOutcome) → last_win before (outcomes ++ outcome ∷ []) ≡ last_win_by (last_win before outcomes) outcome
last_win-last before [] outcome = refl
last_win-last before (first ∷ outcomes) outcome = last_win-last (last_win_by before first) outcomes outcome

put_if-before : (is_told : Bool) (number : ℕ) (some more : List ℕ) → put_if is_told number (some ++ more) ≡ put_if is_told number some ++ more
put_if-before true number some more = refl
put_if-before false number some more = refl

again-last : (before : Option WinParts) (number : ℕ) (outcomes : List LineOutcome) (outcome : LineOutcome)
    → paid_again_from before number (outcomes ++ outcome ∷ []) ≡ paid_again_from before number outcomes ++ put_if (is_paid_again (last_win before outcomes) outcome) (number + length outcomes) []
again-last before number [] outcome =
    let same : number ≡ number + 0 = omega arith in
    ap (λ (n : ℕ). put_if (is_paid_again before outcome) n []) same
again-last before number (first ∷ outcomes) outcome =
    let behind = last_win_by before first in
    let told = is_paid_again before first in
    let last = is_paid_again (last_win behind outcomes) outcome in
    let same : (number + 1) + length outcomes ≡ number + length (first ∷ outcomes) = omega arith in
    ap (put_if told number) (again-last behind (number + 1) outcomes outcome)
    ∙ put_if-before told number (paid_again_from behind (number + 1) outcomes) (put_if last ((number + 1) + length outcomes) [])
    ∙ ap (λ (n : ℕ). put_if told number (paid_again_from behind (number + 1) outcomes) ++ put_if last n []) same

-- ---- one more line

outcomes_on-last : (given : Rules) (lines : List (List ℕ)) (next : List ℕ) → outcomes_on given (lines ++ next ∷ []) ≡ outcomes_on given lines ++ outcome_under (record_rules given (rules_after given lines) next) next ∷ []
outcomes_on-last given [] next = refl
outcomes_on-last given (first ∷ lines) next =
    ap (λ (more : List LineOutcome). outcome_under (record_rules given None first) first ∷ more) (map-append (outcome_of (rules_of given (first ∷ lines))) lines (next ∷ []))

outcomes_on-length : (given : Rules) (lines : List (List ℕ)) → length (outcomes_on given lines) ≡ length lines
outcomes_on-length given [] = refl
outcomes_on-length given (first ∷ lines) = ap suc (length-map lines (outcome_of (rules_of given (first ∷ lines))))

kind_is-under : (rules : Option Rules) (line : List ℕ) → outcome_kind (outcome_under rules line) ≡ kind_under rules line
kind_is-under None line = refl
kind_is-under (Some rules) line = refl

-- a line of which only the front is read comes to the same as each that begins so
outcome_long : (given : Rules) (rules : Option Rules) (line : List ℕ) → 4096 < length line → outcome_under (record_rules given rules line) line ≡ Err (Line H1)
outcome_long given rules line long =
    ap (λ (r : Option Rules). outcome_under r line) (records_long given rules line long) ∙ long_outcome (unwrap_or rules given) line long

-- What was seen before, with what is seen of one more line.
module _ (given : Rules) (rules : Option Rules) (lines : List (List ℕ)) (line next : List ℕ) (before : rules ≡ rules_after given lines) (as_this : IsToldAs 4096 line next) where
  abbrev outcome : LineOutcome
  outcome = outcome_under (record_rules given rules line) line

  abbrev last : LineOutcome
  last = outcome_under (record_rules given (rules_after given lines) next) next

  outcome_told : outcome ≡ last
  outcome_told =
      ap (λ (r : Option Rules). outcome_under (record_rules given r line) line) before
      ∙ same_as_told (λ (l : List ℕ). outcome_under (record_rules given (rules_after given lines) l) l) (outcome_long given (rules_after given lines)) line next as_this

  rules_more : Some (rules_by given rules line) ≡ rules_after given (lines ++ next ∷ [])
  rules_more =
      ap (λ (r : Option Rules). Some (rules_by given r line)) before
      ∙ ap Some (same_as_told (rules_by given (rules_after given lines)) (rules_long given (rules_after given lines)) line next as_this)
      ∙ sym (rules_after-last given lines next)

  win_more : (win : Option WinParts) → win ≡ last_win None (outcomes_on given lines) → last_win_by win outcome ≡ last_win None (outcomes_on given (lines ++ next ∷ []))
  win_more win is =
      ap (λ (w : Option WinParts). last_win_by w outcome) is ∙ ap (last_win_by (last_win None (outcomes_on given lines))) outcome_told
      ∙ sym (last_win-last None (outcomes_on given lines) last) ∙ ap (last_win None) (sym (outcomes_on-last given lines next))

  again_more : (win : Option WinParts) (found : List ℕ) (number : ℕ) → win ≡ last_win None (outcomes_on given lines) → found ≡ paid_again given lines → number ≡ length lines + 1
      → found ++ put_if (is_paid_again win outcome) number [] ≡ paid_again given (lines ++ next ∷ [])
  again_more win found number is are counted =
      let outcomes = outcomes_on given lines in
      let lengths = outcomes_on-length given lines in
      let same : number ≡ 1 + length outcomes = omega (arith, counted, lengths) in
      ap (λ (f : List ℕ). f ++ put_if (is_paid_again win outcome) number []) are
      ∙ ap (λ (n : ℕ). paid_again given lines ++ put_if (is_paid_again win outcome) n []) same
      ∙ ap (λ (w : Option WinParts). paid_again given lines ++ put_if (is_paid_again w outcome) (1 + length outcomes) []) is
      ∙ ap (λ (o : LineOutcome). paid_again given lines ++ put_if (is_paid_again (last_win None outcomes) o) (1 + length outcomes) []) outcome_told
      ∙ sym (again-last None 1 outcomes last) ∙ ap (paid_again_from None 1) (sym (outcomes_on-last given lines next))

  counts_more : (report : DeskReport) → report ≡ report_on given lines → report_with report (outcome_kind outcome) ≡ report_on given (lines ++ next ∷ [])
  counts_more report is =
      ap (λ (r : DeskReport). report_with r (outcome_kind outcome)) is
      ∙ ap (λ (o : LineOutcome). report_with (report_on given lines) (outcome_kind o)) outcome_told
      ∙ ap (report_with (report_on given lines)) (kind_is-under (record_rules given (rules_after given lines) next) next)
      ∙ sym (report_on-last given lines next)

-- one more line was seen
pub seen_more : (first old new : Looking) (lines : List (List ℕ)) (line next : List ℕ) (number : ℕ) (kind : LineKind) (report : DeskReport) → number ≡ length lines + 1 → IsToldAs 4096 line next
    → Takes old new number line kind → HasSeen first old lines report → HasSeen first new (lines ++ next ∷ []) (report_with report kind)
seen_more first old new lines line next number kind report counted as_this takes seen =
    let all = lines ++ next ∷ [] in
    let same = sym takes.given_is in record {
      given_is = takes.given_is ∙ seen.given_is;
      rules_is = subst (λ (g : Rules). new.rules ≡ rules_after g all) same (takes.rules_is ∙ rules_more old.given old.rules lines line next seen.rules_is as_this);
      before_is = subst (λ (g : Rules). new.before ≡ last_win None (outcomes_on g all)) same
          (takes.before_is ∙ win_more old.given old.rules lines line next seen.rules_is as_this old.before seen.before_is);
      found_is = subst (λ (g : Rules). new.paid_again.items ≡ paid_again g all) same
          (takes.found_is ∙ again_more old.given old.rules lines line next seen.rules_is as_this old.before old.paid_again.items number seen.before_is seen.found_is counted);
      counts_are = subst (λ (g : Rules). report_with report kind ≡ report_on g all) same
          (ap (report_with report) takes.kind_is ∙ counts_more old.given old.rules lines line next seen.rules_is as_this report seen.counts_are);
    }
