-- No line has more red fives than fives.
use Rattle.std.proofs.Common.{◌≡◌, ℕ, List, [], ◌∷◌, ◌++◌, Bool, true, false, Option, Some, None, Ok, Err, nat_lt, refl, sym, inl, inr}
use Rattle.std.specs.Prelude.{◌&&◌, length, not, is_some, option_map}
use Rattle.std.proofs.lemmas.Bool.{cases_Bool, and_right}
use Rattle.riichi_hand.specs.declared.fault.LineCode.TheVariants.{H1, H2, H3, H4, H5, H6, H7, H8, H9, H10, H11, H12, H13, H14, H15, H16}
use Rattle.riichi_hand.specs.declared.fault.LineFault.{LineFault}
use Rattle.riichi_hand.specs.declared.fault.LineFault.TheVariants.{Line}
use Rattle.riichi_hand.specs.declared.line.needed.WinKeys.{WinKeys}
use Rattle.riichi_hand.specs.declared.line.job_name.JobName.{JobName}
use Rattle.riichi_hand.specs.declared.line.job_name.JobName.TheVariants.{Win, Waits, Shape}
use Rattle.riichi_hand.specs.declared.line.key.Key.TheVariants.{Open}
use Rattle.riichi_hand.specs.Rules.{Rules, is_on}
use Rattle.riichi_hand.specs.declared.win.WinParts.{WinParts}
use Rattle.riichi_hand.specs.Faults.{coded, first_fault, fault_or}
use Rattle.riichi_hand.specs.Win.{has_too_many_reds, win_faults}
use Rattle.riichi_hand.specs.Words.{words_of}
use Rattle.riichi_hand.specs.Parts.{LineParts, parts_of, value}
use Rattle.riichi_hand.specs.Texts.{texts_of, melds_if_given, only_kind}
use Rattle.riichi_hand.specs.Jobs.{and_then, win_keys, win_parts, job_of}
use Rattle.riichi_hand.specs.Lines.{text_faults, faults_of_win, job_faults, faults_of, outcome_of, is_no_record}
use Rattle.riichi_hand.proofs.OutcomeLemmas.{after_others, after_texts, first_of_err, size_or_copies}
use Rattle.riichi_hand.proofs.RedLemmas.{line_has_room}
use Rattle.riichi_hand.specs.declared.switch.Switch.TheVariants.{RedFives}

-- Where H16 is the first fault, the melds are spelled.
after_melds : (spelled : Bool) (faults : List (Option LineFault)) → first_fault (coded H7 (not spelled) ∷ faults) ≡ Some (Line H16) → (spelled ≡ true) × (first_fault faults ≡ Some (Line H16))
after_melds true faults is = (refl, is)
after_melds false faults is = absurd (cc)

win_not : (win : WinParts) → has_too_many_reds win ≡ false → first_fault (win_faults win) ≡ Some (Line H16) → ⊥
win_not win few is =
    let keeps = is_on RedFives win.rules in
    let reds = keeps && has_too_many_reds win in
    let last = after_others H16 ((H4, _) ∷ (H8, _) ∷ (H9, _) ∷ (H10, _) ∷ (H11, _) ∷ (H12, _) ∷ (H13, _) ∷ (H14, _) ∷ (H15, _) ∷ []) (coded H16 reds ∷ []) refl is in
    let none : None ≡ Some (Line H16) = rw (and_right keeps (has_too_many_reds win) few) at last in cc

win_told : (rules : Rules) (parts : LineParts) (only : Option ℕ) (keys : Option WinKeys) → is_some (melds_if_given (value Open parts)) ≡ true → only_kind (texts_of parts).on ≡ only
    → first_fault (coded H8 (not (is_some only)) ∷ faults_of_win (and_then only (λ winning. option_map (win_parts rules parts (texts_of parts) winning) keys))) ≡ Some (Line H16) → ⊥
win_told rules parts None keys some one is = cc
win_told rules parts (Some winning) None some one is = cc
win_told rules parts (Some winning) (Some keys) some one is = win_not (win_parts rules parts (texts_of parts) winning keys) (line_has_room rules parts winning keys one some) is

job_not : (rules : Rules) (parts : LineParts) (asked : JobName) → is_some (melds_if_given (value Open parts)) ≡ true → first_fault (job_faults rules parts (texts_of parts) asked) ≡ Some (Line H16) → ⊥
job_not rules parts Win some is = win_told rules parts (only_kind (texts_of parts).on) (win_keys parts) some refl is
job_not rules parts Waits some is = size_or_copies H16 _ _ refl is
job_not rules parts Shape some is = size_or_copies H16 _ _ refl is

-- no line is refused with H16
pub no_reds_over : (rules : Rules) (line : List ℕ) → outcome_of rules line ≡ Err (Line H16) → ⊥
unfolding outcome_of
no_reds_over rules line is =
    let parts = parts_of (words_of line) in
    elim (cases_Bool (nat_lt 4096 (length line))) [
      | inl long ↦ (let e : Err (Line H1) ≡ Err (Line H16) = rw long at is in absurd (cc))
      | inr short ↦ elim (cases_Bool (is_no_record line)) [
        | inl none ↦ (let e : Ok None ≡ Err (Line H16) = rw (short, none) at is in absurd (cc))
        | inr some ↦
            (let e : fault_or (first_fault (faults_of rules line parts)) (job_of rules parts (texts_of parts) parts.job) ≡ Err (Line H16) = rw (short, some) at is in
            let first = first_of_err (first_fault (faults_of rules line parts)) (job_of rules parts (texts_of parts) parts.job) (Line H16) (sym e) in
            let jobs = job_faults rules parts (texts_of parts) parts.job in
            let texts = after_others H16 ((H1, _) ∷ (H2, _) ∷ (H3, _) ∷ (H4, _) ∷ (H5, _) ∷ (H6, _) ∷ []) (text_faults parts ++ jobs) refl first in
            let later = after_melds (is_some (melds_if_given (value Open parts))) jobs (after_texts H16 parts jobs texts) in
            job_not rules parts parts.job later.0 later.1)
      ]
    ]
