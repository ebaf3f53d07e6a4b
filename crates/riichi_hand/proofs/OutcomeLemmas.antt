-- The first fault of a line, step by step.
use Rattle.std.proofs.Common.{◌≡◌, ◌≤◌, ℕ, List, [], ◌∷◌, ◌++◌, map, Bool, true, false, Option, Some, None, Result, Ok, Err, refl, sym, ap, ◌∙◌}
use Rattle.std.specs.Prelude.{length, option_map, is_some, not, if◌then◌else◌}
use Rattle.std.specs.List.{list_all}
use Rattle.std.specs.Str.{bytes_eq}
use Rattle.std.proofs.lemmas.Bool.{and_parts, le-ltb}
use Rattle.std.proofs.lemmas.Slice.Eq.{bytes_eq-Decides}
use Rattle.riichi_tiles.specs.Notation.{notation_fault}
use Rattle.riichi_tiles.specs.declared.notation.NotationFault.{NotationFault}
use Rattle.riichi_hand.specs.declared.fault.LineCode.{LineCode}
use Rattle.riichi_hand.specs.declared.fault.LineFault.{LineFault}
use Rattle.riichi_hand.specs.declared.fault.LineFault.TheVariants.{Line, Notation}
use Rattle.riichi_hand.specs.declared.fault.TextName.{TextName}
use Rattle.riichi_hand.specs.declared.fault.TextName.TheVariants as text
use Rattle.riichi_hand.specs.declared.line.key.Key.TheVariants.{On, Dora, Ura, Seen, Open}
use Rattle.riichi_hand.specs.Rules.{Rules, is_on}
use Rattle.riichi_hand.specs.declared.win.WinParts.{WinParts}
use Rattle.riichi_hand.specs.declared.job.Job.{Job}
use Rattle.riichi_hand.specs.declared.job.Job.TheVariants as jobs
use Rattle.riichi_hand.specs.declared.fault.LineCode.TheVariants.{H7, H8, H9}
use Rattle.riichi_hand.specs.FaultTexts.{line_code_text}
use Rattle.riichi_hand.specs.Faults.{coded, first_fault, fault_or, IsValueOrFirstFault}
use Rattle.riichi_hand.specs.Win.{no_reds, without_reds, kept_under, win_faults, win_of}
use Rattle.riichi_hand.specs.Words.{words_of}
use Rattle.riichi_hand.specs.Parts.{LineParts, parts_of, value}
use Rattle.riichi_hand.specs.Texts.{texts_of, text_fault, melds_if_given}
use Rattle.riichi_hand.specs.Jobs.{job_of}
use Rattle.riichi_hand.specs.Lines.{is_no_record, text_faults, faults_of, faults_of_win, outcome_of}
use Rattle.riichi_hand.specs.declared.switch.Switch.TheVariants.{RedFives}

pub first_fault-later : (faults later : List (Option LineFault)) → first_fault faults ≡ None → first_fault (faults ++ later) ≡ first_fault later
first_fault-later [] later none = refl
first_fault-later (None ∷ faults) later none = first_fault-later faults later none
first_fault-later (Some fault ∷ faults) later none = absurd (cc)

pub first_fault-here : (faults later : List (Option LineFault)) (fault : LineFault) → first_fault faults ≡ Some fault → first_fault (faults ++ later) ≡ Some fault
first_fault-here [] later fault some = absurd (cc)
first_fault-here (None ∷ faults) later fault some = first_fault-here faults later fault some
first_fault-here (Some first ∷ faults) later fault some = some

-- the faults of some tests, each with its code
abbrev coded_by : List (LineCode × Bool) → List (Option LineFault)
coded_by tests = map (λ (test : LineCode × Bool). coded test.0 test.1) tests

abbrev has_other : LineCode → LineCode × Bool → Bool
has_other code test = not (bytes_eq (line_code_text test.0) (line_code_text code))

-- where the first of some faults is one of a line, it is of no test before them that has another code
pub after_others : (code : LineCode) (tests : List (LineCode × Bool)) (faults : List (Option LineFault)) → list_all (has_other code) tests ≡ true → first_fault (coded_by tests ++ faults) ≡ Some (Line code)
    → first_fault faults ≡ Some (Line code)
after_others code [] faults others is = is
after_others code ((one, false) ∷ tests) faults others is = after_others code tests faults (and_parts _ _ others).1 is
after_others code ((one, true) ∷ tests) faults others is =
    let same : one ≡ code = cc in
    let apart = (and_parts (has_other code (one, true)) (list_all (has_other code) tests) others).0 in
    absurd (let e : false ≡ true = rw (same, (bytes_eq-Decides (line_code_text code) (line_code_text code)).1 refl) at apart in cc)

pub size_or_copies : (code : LineCode) (a b : Bool) → list_all (has_other code) ((H8, a) ∷ (H9, b) ∷ []) ≡ true → first_fault (coded H8 a ∷ coded H9 b ∷ []) ≡ Some (Line code) → ⊥
size_or_copies code a b others is = let none : None ≡ Some (Line code) = after_others code ((H8, a) ∷ (H9, b) ∷ []) [] others is in cc

-- where there is no fault, no test says so
pub no_faults : (a b : Bool) → first_fault (coded H8 (not a) ∷ coded H9 b ∷ []) ≡ None → (a ≡ true) × (b ≡ false)
no_faults true false e = (refl, refl)
no_faults true true e = cc
no_faults false b e = cc

-- nor is it a fault of the text before them
after_notation : (code : LineCode) (name : TextName) (fault : Option NotationFault) (faults : List (Option LineFault)) → first_fault (option_map (Notation name) fault ∷ faults) ≡ Some (Line code)
    → first_fault faults ≡ Some (Line code)
after_notation code name None faults is = is
after_notation code name (Some fault) faults is = absurd (cc)

after_text : (code : LineCode) (name : TextName) (text : Option (List ℕ)) (faults : List (Option LineFault)) → first_fault (text_fault name text ∷ faults) ≡ Some (Line code)
    → first_fault faults ≡ Some (Line code)
after_text code name None faults is = is
after_text code name (Some text) faults is = after_notation code name (notation_fault text) faults is

-- nor one of the texts of the line, behind which the melds are spelled
pub after_texts : (code : LineCode) (parts : LineParts) (faults : List (Option LineFault)) → first_fault (text_faults parts ++ faults) ≡ Some (Line code)
    → first_fault (coded H7 (not (is_some (melds_if_given (value Open parts)))) ∷ faults) ≡ Some (Line code)
after_texts code parts faults is =
    let melds = coded H7 (not (is_some (melds_if_given (value Open parts)))) ∷ faults in
    let seen = text_fault text.Seen (value Seen parts) ∷ melds in
    let ura = text_fault text.Ura (value Ura parts) ∷ seen in
    let dora = text_fault text.Dora (value Dora parts) ∷ ura in
    let on = text_fault text.On (value On parts) ∷ dora in
    after_text code text.Seen (value Seen parts) melds (after_text code text.Ura (value Ura parts) seen
    (after_text code text.Dora (value Dora parts) ura (after_text code text.On (value On parts) dora (after_text code text.Hand (Some parts.hand) on is))))

step_at : {X : Type 0} (Is : X → Type 0) (first : Option LineFault) (faults : List (Option LineFault)) (x : X) → first_fault faults ≡ first → Is x → IsValueOrFirstFault (fault_or first x) faults Is
step_at Is None faults x none is = (none, is)
step_at Is (Some fault) faults x some is = some

-- the outcome of a record line, whose words say this
outcome_from : (rules : Rules) (line : List ℕ) (parts : LineParts) → length line ≤ 4096 → is_no_record line ≡ false → parts_of (words_of line) ≡ parts
    → outcome_of rules line ≡ fault_or (first_fault (faults_of rules line parts)) (job_of rules parts (texts_of parts) parts.job)
unfolding outcome_of
outcome_from rules line parts short some are = rw (le-ltb 4096 (length line) short, some)
    (ap (λ (p : LineParts). fault_or (first_fault (faults_of rules line p)) (job_of rules p (texts_of p) p.job)) are)

pub outcome-err : (rules : Rules) (line : List ℕ) (parts : LineParts) (fault : LineFault) → length line ≤ 4096 → is_no_record line ≡ false → parts_of (words_of line) ≡ parts
    → first_fault (faults_of rules line parts) ≡ Some fault → outcome_of rules line ≡ Err fault
outcome-err rules line parts fault short some are is =
    outcome_from rules line parts short some are ∙ ap (λ first. fault_or first (job_of rules parts (texts_of parts) parts.job)) is

pub outcome-ok : (rules : Rules) (line : List ℕ) (parts : LineParts) (job : Job) → length line ≤ 4096 → is_no_record line ≡ false → parts_of (words_of line) ≡ parts
    → first_fault (faults_of rules line parts) ≡ None → Some job ≡ job_of rules parts (texts_of parts) parts.job → Ok (Some job) ≡ outcome_of rules line
outcome-ok rules line parts job short some are none is =
    let read : Ok (Some job) ≡ fault_or None (job_of rules parts (texts_of parts) parts.job) = ap Ok is in
    read ∙ sym (outcome_from rules line parts short some are ∙ ap (λ first. fault_or first (job_of rules parts (texts_of parts) parts.job)) none)

-- the parts with the red fives that the rules keep
kept_if : (keeps : Bool) (win : WinParts) (kept : List ℕ) → kept ≡ (if keeps then win.reds else no_reds) → record win { reds = kept } ≡ (if keeps then win else without_reds win)
kept_if true win kept is = rw is refl
kept_if false win kept is = rw is refl

pub kept_parts : (rules : Rules) (win : WinParts) (kept : List ℕ) → kept ≡ (if is_on RedFives rules then win.reds else no_reds) → record win { reds = kept } ≡ kept_under rules win
kept_parts rules win kept is = kept_if (is_on RedFives rules) win kept is

-- these have the faults of the parts
win_if : (keeps : Bool) (win : WinParts) → is_on RedFives win.rules ≡ keeps
    → win_of (if keeps then win else without_reds win) ≡ fault_or (first_fault (win_faults win)) (if keeps then win else without_reds win)
unfolding win_of
win_if true win is = rw is refl
win_if false win is = rw is refl

pub win_of_kept : (rules : Rules) (win : WinParts) → win.rules ≡ rules → win_of (kept_under rules win) ≡ fault_or (first_fault (win_faults win)) (kept_under rules win)
win_of_kept rules win is = win_if (is_on RedFives rules) win (ap (is_on RedFives) is)

-- the step of a win that has one winning tile and its keys
pub win_step : (only : Option ℕ) (line : Option WinParts) (rules : Rules) (winning : ℕ) (win : WinParts) (result : Result WinParts LineFault) → only ≡ Some winning → line ≡ Some win
    → result ≡ fault_or (first_fault (win_faults win)) (kept_under rules win)
    → IsValueOrFirstFault result (coded H8 (not (is_some only)) ∷ faults_of_win line) (λ won. Some (jobs.Win won) ≡ option_map (λ won. jobs.Win (kept_under rules won)) line)
win_step only line rules winning win result one some is =
    rw (one, some, is) (step_at (λ won. Some (jobs.Win won) ≡ Some (jobs.Win (kept_under rules win))) (first_fault (win_faults win)) (win_faults win) (kept_under rules win) refl refl)

-- what an answer says of the first fault
pub first_of_err : {X : Type 0} (first : Option LineFault) (x : X) (fault : LineFault) → Err fault ≡ fault_or first x → first ≡ Some fault
first_of_err None x fault is = absurd (cc)
first_of_err (Some held) x fault is = cc

pub first_of_ok : {X : Type 0} (first : Option LineFault) (x y : X) → Ok y ≡ fault_or first x → (first ≡ None) × (y ≡ x)
first_of_ok None x y is = (refl, cc)
first_of_ok (Some held) x y is = absurd (cc)
