-- What a score over several readers writes and reports.
use Rattle.std.specs.Prelude.{◌≡◌, ℕ, ◌≤◌, List, [], ◌∷◌, ◌++◌, All, map, get_or, Option, is_some, option_map}
use Rattle.std.specs.List.{sum_by}
use Rattle.desk_io.specs.declared.source.Source.{Ghosts as OfSource}
use Rattle.riichi_hand.specs.Rules.{Rules}
use Rattle.desk_core.specs.declared.lane.TheConstants.{LIMIT}
use Rattle.desk_lines.specs.declared.report.DeskReport.{DeskReport}
use Rattle.desk_lines.specs.declared.report.Slip.{Slip}
use Rattle.desk_lines.specs.Lines.{lines}
use Rattle.desk_lines.specs.LineAnswers.{answers, report_on}
use Rattle.desk_lines.specs.Slips.{text_report}
use Rattle.desk_lines.specs.Streams.{GivesAll, FailsOrGoesOn, IsReadWithin}
use Rattle.desk_score.specs.Heads.{head_line, tables_from, tables_text}
use Rattle.desk_score.specs.Shown.{answers_shown}

-- the answers to each text, behind the number of its table; a text that sets no profile has the given one
abbrev pub tables_scored : Rules → List (List ℕ) → List ℕ
tables_scored given texts = tables_text (map (answers given) texts)

-- the name of a table, where the names of tables are told; one that isn't among them is empty
abbrev pub table_name : Option (List (List ℕ)) → ℕ → Option (List ℕ)
table_name names number = option_map (λ names. get_or names number []) names

-- the line that stands before the answers of a table
abbrev pub head_of : Option (List (List ℕ)) → ℕ → List ℕ
head_of names number = head_line number (table_name names number)

-- the same where the names of the tables may be told: each then stands behind the number of its table, and before each answer the number of its line
abbrev pub score_by : Option (List (List ℕ)) → Rules → List (List ℕ) → List ℕ
score_by names given texts = tables_from (head_of names) 0 (map (λ text. answers_shown (is_some names) given (lines text)) texts)

-- how many lines of all texts are answered, and how many refused
abbrev pub score_report : Rules → List (List ℕ) → DeskReport
score_report given texts = record {
  answered = sum_by (λ text. (report_on given (lines text)).answered) texts;
  refused = sum_by (λ text. (report_on given (lines text)).refused) texts;
}

-- of each text the first line that looks like a profile line and sets none
abbrev pub score_slips : Rules → List (List ℕ) → List (Option Slip)
score_slips given texts = map (λ text. (text_report given (lines text)).slip) texts

-- there are 1 to 64 readers, and 1 to 16 workers
abbrev pub AreAllowed : ℕ → ℕ → Type 0
AreAllowed readers workers = (1 ≤ readers) × (readers ≤ 64) × (1 ≤ workers) × (workers ≤ 16)

-- no text has more jobs than a table may submit: as many lines are answered
abbrev pub AreWithinLimit : Rules → List (List ℕ) → Type 0
AreWithinLimit given texts = All (λ text. (report_on given (lines text)).answered ≤ LIMIT) texts

-- each reader gave its text, to the end, and was read no oftener than it may be
abbrev pub AllGive : {R : Type 0} → OfSource R → List R → List (List ℕ) → Type 0
AllGive source [] [] = Unit {0}
AllGive source [] (text ∷ texts) = ⊥
AllGive source (reader ∷ readers) [] = ⊥
AllGive {R = R} source (reader ∷ readers) (text ∷ texts) = ((ended : R) × GivesAll source reader ended text × IsReadWithin source reader ended) × AllGive source readers texts

-- The first readers gave their texts, to the end, and the next one failed or gave no end.
pub record StopsReading {R : Type 0} (source : OfSource R) (readers : List R) : Type 0 where
  pub first : List R
  pub texts : List (List ℕ)
  pub reader : R
  pub others : List R
  pub parts : readers ≡ first ++ reader ∷ others
  pub given : AllGive source first texts
  pub last : R
  pub fails : FailsOrGoesOn source reader last
  pub within : IsReadWithin source reader last
