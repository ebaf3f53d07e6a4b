-- One more reader, and what its text is answered.
use Rattle.std.proofs.Common.{◌≡◌, ℕ, ◌+◌, suc, List, [], ◌∷◌, ◌++◌, map, length, refl, sym, ◌∙◌, ap, append_assoc, arith}
use Rattle.std.proofs.lemmas.List.{append-nil, length-map, map-append}
use Rattle.std.proofs.lemmas.List.Elements.{All-append, All-cons, All-head, All-tail}
use Rattle.std.proofs.lemmas.List.Sums.{sum_by_push}
use Rattle.std.specs.Prelude.{All, Option, None, Some, is_some, option_map}
use Rattle.desk_io.specs.declared.source.Source.{Ghosts as OfSource}
use Rattle.riichi_hand.specs.Rules.{Rules}
use Rattle.desk_lines.specs.declared.report.DeskReport.{DeskReport}
use Rattle.desk_lines.specs.LineAnswers.{report_on}
use Rattle.desk_lines.specs.Lines.{lines}
use Rattle.desk_lines.specs.Streams.{GivesAll, IsReadWithin}
use Rattle.desk_score.specs.Heads.{tables_from}
use Rattle.desk_score.specs.Score.{score_by, head_of, score_report, AllGive}
use Rattle.desk_score.specs.Shown.{answers_shown}

module _ {R : Type 0} (source : OfSource R) where
  pub AllGive-last : (readers : List R) (texts : List (List ℕ)) (reader ended : R) (text : List ℕ) → AllGive source readers texts → GivesAll source reader ended text → IsReadWithin source reader ended
      → AllGive source (readers ++ reader ∷ []) (texts ++ text ∷ [])
  AllGive-last [] [] reader ended text all given within = ((ended, given, within), tt)
  AllGive-last [] (first ∷ texts) reader ended text all given within = absurd all
  AllGive-last (first ∷ readers) [] reader ended text all given within = absurd all
  AllGive-last (first ∷ readers) (its ∷ texts) reader ended text all given within = (all.0, AllGive-last readers texts reader ended text all.1 given within)

-- the answers of one more table
tables_from-last : (head : ℕ → List ℕ) (number : ℕ) (tables : List (List ℕ)) (told : List ℕ) → tables_from head number (tables ++ told ∷ []) ≡ tables_from head number tables ++ (head (length tables + number) ++ told)
tables_from-last head number [] told = append-nil (head number ++ told) ∙ ap (λ n. head n ++ told) (omega arith)
tables_from-last head number (first ∷ tables) told =
    let before = head number ++ first in
    let place : length tables + suc number ≡ suc (length tables) + number = omega arith in
    ap (λ rest. before ++ rest) (tables_from-last head (suc number) tables told)
    ∙ sym (append_assoc before (tables_from head (suc number) tables) (head (length tables + suc number) ++ told))
    ∙ ap (λ n. (before ++ tables_from head (suc number) tables) ++ (head n ++ told)) place

pub score_by-last : (names : Option (List (List ℕ))) (rules : Rules) (texts : List (List ℕ)) (text : List ℕ)
    → score_by names rules (texts ++ text ∷ []) ≡ score_by names rules texts ++ (head_of names (length texts) ++ answers_shown (is_some names) rules (lines text))
score_by-last names rules texts text =
    let answers = (λ (text : List ℕ). answers_shown (is_some names) rules (lines text)) in
    let place : length (map answers texts) + 0 ≡ length texts = (let many = length-map texts answers in omega arith) in
    ap (tables_from (head_of names) 0) (map-append answers texts (text ∷ [])) ∙ tables_from-last (head_of names) 0 (map answers texts) (answers text)
    ∙ ap (λ n. score_by names rules texts ++ (head_of names n ++ answers text)) place

-- what is told of names is told of each
pub names-is_some : {X Y : Type 0} (of : X → Y) (names : Option X) → is_some (option_map of names) ≡ is_some names
names-is_some of None = refl
names-is_some of (Some names) = refl

-- what holds of all holds of those before the last one, and of the last one
module _ {X : Type 0} (P : X → Type 0) where
  pub All-front : (xs : List X) (x : X) → All P (xs ++ x ∷ []) → All P xs
  All-front [] x all = All-tail P x [] all
  All-front (first ∷ xs) x all = All-cons P first xs (All-head P first (xs ++ x ∷ []) all) (All-front xs x (All-tail P first (xs ++ x ∷ []) all))

  pub All-at_last : (xs : List X) (x : X) → All P (xs ++ x ∷ []) → P x
  All-at_last [] x all = All-head P x [] all
  All-at_last (first ∷ xs) x all = All-at_last xs x (All-tail P first (xs ++ x ∷ []) all)

  pub All-and_last : (xs : List X) (x : X) → All P xs → P x → All P (xs ++ x ∷ [])
  All-and_last xs x all last = All-append P xs (x ∷ []) all (All-cons P x [] last (λ k d within. absurd (omega arith)))

-- what is counted of one more text
pub score_report-last : (rules : Rules) (texts : List (List ℕ)) (text : List ℕ) (before sum : DeskReport) → before ≡ score_report rules texts
    → sum.answered ≡ before.answered + (report_on rules (lines text)).answered → sum.refused ≡ before.refused + (report_on rules (lines text)).refused → sum ≡ score_report rules (texts ++ text ∷ [])
score_report-last rules texts text before sum is answered refused =
    let now = score_report rules (texts ++ text ∷ []) in
    let answered_so : sum.answered ≡ now.answered = answered ∙ ap (λ (r : DeskReport). r.answered + (report_on rules (lines text)).answered) is ∙ sym (sum_by_push (λ t. (report_on rules (lines t)).answered) texts text) in
    let refused_so : sum.refused ≡ now.refused = refused ∙ ap (λ (r : DeskReport). r.refused + (report_on rules (lines text)).refused) is ∙ sym (sum_by_push (λ t. (report_on rules (lines t)).refused) texts text) in
    λ i. record { answered = answered_so i; refused = refused_so i }
