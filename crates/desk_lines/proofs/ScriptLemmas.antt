-- What a script has answered once one more line was read.
use Rattle.std.proofs.Common.{◌≡◌, ℕ, inl, inr, List, [], ◌∷◌, ◌++◌, map, Option, Some, None, refl, sym, subst, ap, ◌∙◌}
use Rattle.std.specs.List.{zip, filter_map}
use Rattle.std.proofs.lemmas.List.{append-nil, map-append}
use Rattle.std.proofs.lemmas.List.Elements.{filter_map-append}
use Rattle.desk_core.specs.History.{IsLegal}
use Rattle.desk_script.specs.declared.told.Told.{Told}
use Rattle.desk_script.specs.Asked.{asked_by, asked_on, events_of, opens}
use Rattle.desk_script.specs.Texts.{told_text}
use Rattle.desk_script.specs.Replay.{ScriptState, Tells, Replays, AnswersLine as AnswersScript}
use Rattle.desk_script.proofs.Scripts.{Tells-alike, opens_none-long}
use Rattle.desk_script.proofs.Continued.{replay_goes_on}
use Rattle.desk_lines.specs.declared.line_kind.LineKind.{LineKind}
use Rattle.desk_lines.specs.declared.report.DeskReport.{DeskReport}
use Rattle.desk_lines.specs.Telling.{answers_in, report_of, report_with, IsToldAs}
use Rattle.desk_lines.specs.Scripts.{OpensTable, RunsOut, TellsScript, text_kind, told_kind, script_report}
use Rattle.desk_lines.proofs.TellingLemmas.{report_of_more}

-- a line may have the answer of this one
Tells-as : (script : ScriptState) (lines : List (List ℕ)) (told : List Told) (line next : List ℕ) → IsToldAs 8192 line next → Tells script (lines ++ line ∷ []) told → Tells script (lines ++ next ∷ []) told
Tells-as script lines told line next (inl same) tells = subst (λ (l : List ℕ). Tells script (lines ++ l ∷ []) told) same tells
Tells-as script lines told line next (inr long) tells = Tells-alike script lines told line next long.0 long.1 tells

-- one more line was answered
pub TellsScript-line : (old new : ScriptState) (lines answers : List (List ℕ)) (report : DeskReport) (line next : List ℕ) (text : Option (List ℕ)) (kind : LineKind) → IsToldAs 8192 line next → kind ≡ told_kind text
    → AnswersScript old new line text → TellsScript old lines answers report → TellsScript new (lines ++ next ∷ []) (answers ++ answers_in text) (report_with report kind)
TellsScript-line old new lines answers report line next text kind as_this is answered tells =
    let told = answered.told in (
      tells.0 ++ told ∷ [],
      Tells-as new lines (tells.0 ++ told ∷ []) line next as_this (answered.tells lines tells.0 tells.1),
      ap (λ front. front ++ answers_in text) tells.2 ∙ ap (λ t. filter_map told_text tells.0 ++ answers_in t) answered.text_is ∙ sym (filter_map-append told_text tells.0 (told ∷ [])),
      ap (λ (r : DeskReport). report_with r kind) tells.3 ∙ ap (report_with (script_report answers)) is ∙ one_more text,
    )
  where
    one_more : (text : Option (List ℕ)) → report_with (script_report answers) (told_kind text) ≡ script_report (answers ++ answers_in text)
    one_more None = ap script_report (sym (append-nil answers))
    one_more (Some text) = sym (ap report_of (map-append text_kind answers (text ∷ [])) ∙ report_of_more (map text_kind answers) (text_kind text))

-- what a script has answered are answers to its lines
pub replays : (script : ScriptState) (lines answers : List (List ℕ)) (report : DeskReport) → TellsScript script lines answers report → Replays lines answers
replays script lines answers report tells = record {
  replies = tells.1.replies;
  replied = record {
    count = tells.1.count;
    legal = subst (λ (tables : ℕ). IsLegal tables (zip (events_of (asked_on lines)) tells.1.replies)) tells.1.tables tells.1.desk.legal;
  };
  answers_are = tells.2 ∙ ap (filter_map told_text) tells.1.told_are;
}

-- the first of some lines were answered, and so there are answers to all of them that begin with these
pub replays_whole : (script : ScriptState) (lines first others answers : List (List ℕ)) (report : DeskReport) → lines ≡ first ++ others → TellsScript script first answers report → (more : List (List ℕ)) × Replays lines (answers ++ more)
replays_whole script lines first others answers report parts tells =
    let on = replay_goes_on first others answers (replays script first answers report tells) in
    (on.0, subst (λ (ls : List (List ℕ)). Replays ls (answers ++ on.0)) (sym parts) on.1)

-- before the first line
pub replays_none : Replays [] []
replays_none = record { replies = []; replied = record { count = refl; legal = tt }; answers_are = refl }

-- a line that opens a table has no other's answer
opens_as : (names : List (List ℕ)) (line next : List ℕ) → IsToldAs 8192 line next → asked_by names line ≡ opens names → asked_by names next ≡ opens names
opens_as names line next (inl same) asks = subst (λ (l : List ℕ). asked_by names l ≡ opens names) same asks
opens_as names line next (inr long) asks = absurd (opens_none-long names line long.0 asks)

-- memory was wanted at the next line, which opens a table
pub runs_out : (script : ScriptState) (whole first others answers : List (List ℕ)) (report : DeskReport) → whole ≡ first ++ others → TellsScript script first answers report
    → (line next : List ℕ) × (rest : List (List ℕ)) × (others ≡ next ∷ rest) × IsToldAs 8192 line next × OpensTable script line → RunsOut whole answers
runs_out script whole first others answers report parts tells wanted =
    let asks = opens_as script.names wanted.0 wanted.1 wanted.4 wanted.5 in
    inr (
      first,
      wanted.1,
      wanted.2,
      parts ∙ ap (λ (more : List (List ℕ)). first ++ more) wanted.3,
      replays script first answers report tells,
      subst (λ (names : List (List ℕ)). asked_by names wanted.1 ≡ opens names) tells.1.names asks,
    )

pub ruleset replay_text_facts = (replays, replays_whole, replays_none, runs_out)
