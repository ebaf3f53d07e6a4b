-- The first line of a stream that looks like a profile line and sets no profile.
use Rattle.std.specs.Prelude.{ℕ, ◌+◌, List, [], ◌∷◌, length, map, take, drop, Bool, Option, None, Some, nat_eq, option_map, if◌then◌else◌, codes}
use Rattle.std.specs.List.{position_from, prefix_len, starts_with}
use Rattle.std.specs.Str.{bytes_eq}
use Rattle.std.specs.Char.{is_ascii_whitespace, to_ascii_lowercase}
use Rattle.riichi_hand.specs.Rules.{Rules}
use Rattle.desk_lines.specs.declared.line_kind.LineKind.{LineKind}
use Rattle.desk_lines.specs.declared.report.Slip.{Slip}
use Rattle.desk_lines.specs.declared.report.TextReport.{TextReport}
use Rattle.desk_lines.specs.declared.tally.Tally.{Tally}
use Rattle.desk_lines.specs.LineAnswer.{line_kind}
use Rattle.desk_lines.specs.LineAnswers.{report_on}
use Rattle.desk_lines.specs.Profile.{first_number, rules_of, record_lines}
use Rattle.desk_lines.specs.Telling.{report_of, report_with, both_reports}

-- ---- one line

-- a text without a byte order mark at its front
abbrev pub without_mark : List ℕ → List ℕ
without_mark text = if starts_with nat_eq text (239 ∷ 187 ∷ 191 ∷ []) then drop 3 text else text

-- a text without the white space at its front
abbrev pub without_space : List ℕ → List ℕ
without_space text = drop (prefix_len is_ascii_whitespace text) text

-- a text begins as the word `rules` does, in any letters
abbrev pub begins_word : List ℕ → Bool
begins_word text = bytes_eq (map to_ascii_lowercase (take 4 text)) (codes "rule")

-- the first 32 bytes of a line begin so, behind a byte order mark and white space
unfoldable pub is_like_profile : List ℕ → Bool
is_like_profile line = begins_word (without_space (without_mark (take 32 line)))

-- ---- a stream

-- the number of the first line that looks like a profile line and sets no profile; the first line of all may set it
abbrev pub slip_in : List (List ℕ) → Option ℕ
slip_in lines = position_from is_like_profile (first_number lines) (record_lines lines)

-- a line of this number, with the rules of the others
abbrev pub slip_of : Rules → ℕ → Slip
slip_of rules number = record { line = number; rules = rules }

abbrev pub told_slip : Rules → Option ℕ → Option Slip
told_slip rules number = option_map (slip_of rules) number

-- how many of the records are answered, and how many refused; the line that sets no profile, and the rules under which the records are answered
abbrev pub text_report : Rules → List (List ℕ) → TextReport
text_report given lines = record { counts = report_on given lines; slip = told_slip (rules_of given lines) (slip_in lines) }

-- the first of two lines, either of which there may be
abbrev pub first_slip : Option ℕ → Option ℕ → Option ℕ
first_slip (Some line) later = Some line
first_slip None later = later

-- the line of this number, where it looks like a profile line
abbrev pub slip_at : ℕ → List ℕ → Option ℕ
slip_at number line = if is_like_profile line then Some number else None

-- the slip once the line of this number was read, which is a record under these rules, or none
abbrev pub slip_under : Option Rules → Option ℕ → ℕ → List ℕ → Option ℕ
slip_under None slip number line = slip
slip_under (Some rules) slip number line = first_slip slip (slip_at number line)

-- ---- some of its records

-- what no lines come to
abbrev pub empty_tally : Tally
empty_tally = record { counts = report_of []; lines = 0; slip = None }

-- what record lines come to
abbrev pub tally_of : Rules → List (List ℕ) → Tally
tally_of rules lines = record { counts = report_of (map (line_kind rules) lines); lines = length lines; slip = position_from is_like_profile 1 lines }

-- one more line
abbrev pub tally_with : Tally → List ℕ → LineKind → Tally
tally_with tally line kind = record { counts = report_with tally.counts kind; lines = tally.lines + 1; slip = first_slip tally.slip (slip_at (tally.lines + 1) line) }

-- what lines and those behind them come to
abbrev pub both_tallies : Tally → Tally → Tally
both_tallies one later = record {
  counts = both_reports one.counts later.counts;
  lines = one.lines + later.lines;
  slip = first_slip one.slip (option_map (λ line. one.lines + line) later.slip);
}
