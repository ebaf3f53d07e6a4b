-- Lines that look like a profile line, among others.
use Rattle.std.proofs.Common.{◌≡◌, ℕ, ◌+◌, inl, inr, List, [], ◌∷◌, ◌++◌, Bool, true, false, cond, Option, Some, None, map, min, take, length, refl, sym, subst, ◌∙◌, ap, arith, length-append}
use Rattle.std.specs.Prelude.{is_some, unwrap_or, option_map, slice_get, codes, IsTrue, ◌↔◌}
use Rattle.std.specs.List.{position_from}
use Rattle.std.specs.Str.{bytes_eq, IsTrimAsciiStart}
use Rattle.std.specs.Char.{to_ascii_lowercase}
use Rattle.std.proofs.lemmas.Bool.{cases_Bool, false≢true}
use Rattle.std.proofs.lemmas.List.{take-take, take_min, map-append}
use Rattle.std.proofs.lemmas.Slice.Eq.{bytes_eq-Decides}
use Rattle.std.proofs.lemmas.Str.Ascii.{trim_ascii_start_is}
use Rattle.riichi_hand.specs.Rules.{Rules}
use Rattle.desk_lines.specs.declared.line_kind.LineKind.{LineKind}
use Rattle.desk_lines.specs.declared.records.Records.{Records}
use Rattle.desk_lines.specs.declared.report.DeskReport.{DeskReport}
use Rattle.desk_lines.specs.declared.report.TextReport.{TextReport}
use Rattle.desk_lines.specs.LineAnswer.{line_kind}
use Rattle.desk_lines.specs.LineAnswers.{report_on}
use Rattle.desk_lines.specs.Profile.{profile_of, first_number, rules_of, record_lines, rules_by, record_rules}
use Rattle.desk_lines.specs.Reading.{AreToldAs}
use Rattle.desk_lines.specs.Records.{rules_after, kind_under, AreRead}
use Rattle.desk_lines.specs.Slips.{without_mark, without_space, begins_word, is_like_profile, slip_in, told_slip, text_report, first_slip, slip_at, slip_under, tally_of, tally_with}
use Rattle.desk_lines.specs.Telling.{both_reports, report_of, report_with, IsToldAs}
use Rattle.desk_lines.proofs.AnswerLemmas.{same_as_told, record_lines-more, records_long, rules_read, report_on-last, kind_long}
use Rattle.desk_lines.proofs.NumberLemmas.{next_number}
use Rattle.desk_lines.proofs.TellingLemmas.{report_of_more}

-- ---- one line

pub without_space_is : (text result : List ℕ) → IsTrimAsciiStart text result → result ≡ without_space text
without_space_is text result is = trim_ascii_start_is text result is

pub front_is : (n : ℕ) (text : List ℕ) → take (min n (length text)) text ≡ take n text
front_is n text = take_min n text

tested : (one other : List ℕ) (result : Bool) → IsTrue result ↔ (one ≡ other) → result ≡ bytes_eq one other
tested one other true is = sym ((bytes_eq-Decides one other).1 (is.0 refl))
tested one other false is = elim (cases_Bool (bytes_eq one other)) [
  | inl same ↦ absurd (false≢true (is.1 ((bytes_eq-Decides one other).0 same)))
  | inr not ↦ sym not
]

pub begins_so : (text front : List ℕ) (result : Bool) → front ≡ take (min 4 (length text)) text → IsTrue result ↔ (map to_ascii_lowercase front ≡ map to_ascii_lowercase (codes "rule")) → result ≡ begins_word text
begins_so text front result is test = tested (map to_ascii_lowercase front) (codes "rule") result test ∙ ap (λ (t : List ℕ). bytes_eq (map to_ascii_lowercase t) (codes "rule")) (is ∙ take_min 4 text)

-- a line that begins with the first letter of a job begins with no word `rules`
abbrev IsNoProfile : ℕ → Type 0
IsNoProfile letter = (rest : List ℕ) → is_like_profile (letter ∷ rest) ≡ false

pub win_or_waits : IsNoProfile 119
unfolding is_like_profile
win_or_waits rest = refl

pub shape_or_shanten : IsNoProfile 115
unfolding is_like_profile
shape_or_shanten rest = refl

pub by_first : (letter : ℕ) → IsNoProfile letter → (line : List ℕ) (first : ℕ) → Some first ≡ slice_get line 0 → first ≡ letter → is_like_profile line ≡ false
by_first letter none [] first is same = absurd (cc)
by_first letter none (byte ∷ rest) first is same =
    let one : first ≡ byte = ap (λ (o : Option ℕ). unwrap_or o 0) is in
    ap (λ (b : ℕ). is_like_profile (b ∷ rest)) (sym one ∙ same) ∙ none rest

-- lines that may have one answer look alike
pub like_as : (line next : List ℕ) → IsToldAs 4096 line next → is_like_profile line ≡ is_like_profile next
unfolding is_like_profile
like_as line next (inl same) = ap is_like_profile same
like_as line next (inr long) =
    ap (λ (front : List ℕ). begins_word (without_space (without_mark front))) (sym (take-take 32 4096 line (omega arith)) ∙ ap (take 32) long.2 ∙ take-take 32 4096 next (omega arith))

-- ---- the first of many

pub position-append : (test : List ℕ → Bool) (number : ℕ) (lines more : List (List ℕ))
    → position_from test number (lines ++ more) ≡ first_slip (position_from test number lines) (position_from test (number + length lines) more)
position-append test number [] more = ap (λ n. position_from test n more) (let same : number ≡ number + 0 = omega arith in same)
position-append test number (line ∷ lines) more =
    let all = line ∷ lines in
    elim (test line) as (λ found. cond found (Some number) (position_from test (number + 1) (lines ++ more)) ≡ first_slip (cond found (Some number) (position_from test (number + 1) lines)) (position_from test (number + length all) more)) [
      | true ↦ refl
      | false ↦
          position-append test (number + 1) lines more
          ∙ ap (λ n. first_slip (position_from test (number + 1) lines) (position_from test n more)) (let same : (number + 1) + length lines ≡ number + length all = omega arith in same)
    ]

-- the number behind so many lines
pub position-later : (test : List ℕ → Bool) (before number : ℕ) (lines : List (List ℕ)) → position_from test (before + number) lines ≡ option_map (λ line. before + line) (position_from test number lines)
position-later test before number [] = refl
position-later test before number (line ∷ lines) =
    elim (test line) as (λ found. cond found (Some (before + number)) (position_from test ((before + number) + 1) lines) ≡ option_map (λ line. before + line) (cond found (Some number) (position_from test (number + 1) lines))) [
      | true ↦ refl
      | false ↦ ap (λ n. position_from test n lines) (let same : (before + number) + 1 ≡ before + (number + 1) = omega arith in same) ∙ position-later test before (number + 1) lines
    ]

-- one more line
position-last : (number : ℕ) (lines : List (List ℕ)) (line : List ℕ) → position_from is_like_profile number (lines ++ line ∷ []) ≡ first_slip (position_from is_like_profile number lines) (slip_at (number + length lines) line)
position-last number lines line = position-append is_like_profile number lines (line ∷ [])

-- lines that may have the answers of others
pub slip_as : (number : ℕ) (lines others : List (List ℕ)) → AreToldAs 4096 lines others → position_from is_like_profile number lines ≡ position_from is_like_profile number others
slip_as number [] [] as_these = refl
slip_as number [] (other ∷ others) as_these = absurd as_these
slip_as number (line ∷ lines) [] as_these = absurd as_these
slip_as number (line ∷ lines) (other ∷ others) as_these =
    ap (λ found. cond found (Some number) (position_from is_like_profile (number + 1) lines)) (like_as line other as_these.0)
    ∙ ap (λ later. cond (is_like_profile other) (Some number) later) (slip_as (number + 1) lines others as_these.1)

-- ---- one more line of a stream

slip_in-last : (given : Rules) (lines : List (List ℕ)) (line : List ℕ) → slip_in (lines ++ line ∷ []) ≡ slip_under (record_rules given (rules_after given lines) line) (slip_in lines) (length lines + 1) line
slip_in-last given [] line =
    elim (is_some (profile_of line)) as (λ set. position_from is_like_profile (cond set 2 1) (cond set [] (line ∷ [])) ≡ slip_under (cond set None (Some given)) None 1 line) [ true ↦ refl | false ↦ refl ]
slip_in-last given (first ∷ lines) line =
    let all = first ∷ lines in
    ap (position_from is_like_profile (first_number all)) (record_lines-more first lines (line ∷ [])) ∙ position-last (first_number all) (record_lines all) line
    ∙ ap (λ n. first_slip (slip_in all) (slip_at n line)) (sym (next_number first lines))

under_like : (rules : Option Rules) (slip : Option ℕ) (number : ℕ) (line next : List ℕ) → is_like_profile line ≡ is_like_profile next → slip_under rules slip number line ≡ slip_under rules slip number next
under_like None slip number line next like = refl
under_like (Some rules) slip number line next like = ap (λ found. first_slip slip (cond found (Some number) None)) like

slip_under-as : (given : Rules) (rules : Option Rules) (slip : Option ℕ) (number : ℕ) (line next : List ℕ) → IsToldAs 4096 line next
    → slip_under (record_rules given rules line) slip number line ≡ slip_under (record_rules given rules next) slip number next
slip_under-as given rules slip number line next as_this =
    ap (λ (r : Option Rules). slip_under r slip number line) (same_as_told (record_rules given rules) (records_long given rules) line next as_this) ∙ under_like (record_rules given rules next) slip number line next (like_as line next as_this)

slip_read : {A : Type 0} (old new : Records A) (number : ℕ) (line next : List ℕ) (lines : List (List ℕ)) → number ≡ length lines + 1 → IsToldAs 4096 line next → old.rules ≡ rules_after old.given lines → old.slip ≡ slip_in lines
    → new.slip ≡ slip_under (record_rules old.given old.rules line) old.slip number line → new.slip ≡ slip_in (lines ++ next ∷ [])
slip_read old new number line next lines at as_this before noted is =
    let after = rules_after old.given lines in
    is ∙ ap (λ (r : Option Rules). slip_under (record_rules old.given r line) old.slip number line) before ∙ ap (λ (s : Option ℕ). slip_under (record_rules old.given after line) s number line) noted
    ∙ ap (λ n. slip_under (record_rules old.given after line) (slip_in lines) n line) at ∙ slip_under-as old.given after (slip_in lines) (length lines + 1) line next as_this ∙ sym (slip_in-last old.given lines next)

-- one more line was read, and counted
pub AreRead_line : {A : Type 0} (old new : Records A) (number : ℕ) (line next : List ℕ) (lines : List (List ℕ)) (report : DeskReport) (kind : LineKind) → number ≡ length lines + 1 → IsToldAs 4096 line next → AreRead old lines report
    → new.given ≡ old.given → new.rules ≡ Some (rules_by old.given old.rules line) → new.slip ≡ slip_under (record_rules old.given old.rules line) old.slip number line → kind ≡ kind_under (record_rules old.given old.rules line) line
    → AreRead new (lines ++ next ∷ []) (report_with report kind)
AreRead_line old new number line next lines report kind at as_this read given rules slip is =
    let after = rules_after old.given lines in
    let same = same_as_told (λ l. kind_under (record_rules old.given after l) l) (kind_long old.given after) line next as_this in (
      rules_read old new line next lines as_this read.0 given rules,
      ap (λ (r : DeskReport). report_with r kind) read.1 ∙ ap (report_with (report_on old.given lines)) (is ∙ ap (λ (r : Option Rules). kind_under (record_rules old.given r line) line) read.0 ∙ same)
          ∙ sym (report_on-last old.given lines next) ∙ ap (λ (g : Rules). report_on g (lines ++ next ∷ [])) (sym given),
      slip_read old new number line next lines at as_this read.0 read.2 slip,
    )

-- ---- the report

rules_of-after : (given : Rules) (lines : List (List ℕ)) → unwrap_or (rules_after given lines) given ≡ rules_of given lines
rules_of-after given [] = refl
rules_of-after given (line ∷ lines) = refl

pub text_report_is : (given : Rules) (rules : Option Rules) (slip : Option ℕ) (lines : List (List ℕ)) (counts : DeskReport) (result : TextReport) → rules ≡ rules_after given lines → counts ≡ report_on given lines → slip ≡ slip_in lines
    → result.counts ≡ counts → result.slip ≡ told_slip (unwrap_or rules given) slip → result ≡ text_report given lines
text_report_is given rules slip lines counts result after counted noted is told =
    let all = told ∙ ap (λ (r : Option Rules). told_slip (unwrap_or r given) slip) after ∙ ap (λ (r : Rules). told_slip r slip) (rules_of-after given lines) ∙ ap (told_slip (rules_of given lines)) noted in
    let counts_are = is ∙ counted in
    λ i. record { counts = counts_are i; slip = all i }

-- what is kept of the lines gives their answers, and the report
pub report_told : {A : Type 0} (Told : Rules → Type 0) (records : Records A) (given : Rules) (lines : List (List ℕ)) (counts : DeskReport) (result : TextReport) → records.given ≡ given → AreRead records lines counts → Told records.given
    → result.counts ≡ counts → result.slip ≡ told_slip (unwrap_or records.rules records.given) records.slip → Told given × (result ≡ text_report given lines)
report_told Told records given lines counts result same read told is slip = (
  subst Told same told,
  text_report_is records.given records.rules records.slip lines counts result read.0 read.1 read.2 is slip ∙ ap (λ (g : Rules). text_report g lines) same,
)

-- ---- some records

pub both_from : (one other sum : DeskReport) → sum.answered ≡ one.answered + other.answered → sum.refused ≡ one.refused + other.refused → sum ≡ both_reports one other
both_from one other sum answered refused = λ i. record { answered = answered i; refused = refused i }

-- one more line
pub tally_of_more : (rules : Rules) (lines : List (List ℕ)) (line : List ℕ) → tally_of rules (lines ++ line ∷ []) ≡ tally_with (tally_of rules lines) line (line_kind rules line)
tally_of_more rules lines line =
    let kind = line_kind rules in
    let counts = ap report_of (map-append kind lines (line ∷ [])) ∙ report_of_more (map kind lines) (kind line) in
    let many : length (lines ++ line ∷ []) ≡ length lines + 1 = length-append lines (line ∷ []) in
    let slip = position-last 1 lines line ∙ ap (λ n. first_slip (position_from is_like_profile 1 lines) (slip_at n line)) (let same : 1 + length lines ≡ length lines + 1 = omega arith in same) in
    λ i. record { counts = counts i; lines = many i; slip = slip i }
