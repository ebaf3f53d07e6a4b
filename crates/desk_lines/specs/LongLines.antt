-- Lines of more than 4,096 bytes, of which only a front is held: they set no profile, and are all answered alike.
use Rattle.std.specs.Prelude.{◌≡◌, ℕ, ◌<◌, List, ◌++◌, Bool, length, codes, Option, Some, None, Result, Ok, Err, ◌||◌, if◌then◌else◌}
use Rattle.std.specs.List.{list_any}
use Rattle.std.proofs.Common.{inl, inr, sym, subst, ap, ◌∙◌}
use Rattle.std.proofs.lemmas.Bool.{lt-ltb, false≢true}
use Rattle.std.proofs.Math.Nat.{le_trans}
use Rattle.riichi_hand.specs.declared.fault.LineCode.TheVariants.{H1}
use Rattle.riichi_hand.specs.declared.fault.LineFault.{LineFault}
use Rattle.riichi_hand.specs.declared.fault.LineFault.TheVariants.{Line}
use Rattle.riichi_hand.specs.declared.job.Job.{Job}
use Rattle.riichi_hand.specs.Rules.{Rules}
use Rattle.riichi_hand.specs.Faults.{first_fault, fault_or}
use Rattle.riichi_hand.specs.Jobs.{job_of}
use Rattle.riichi_hand.specs.Lines.{outcome_of, is_no_record, is_other_byte, faults_of}
use Rattle.riichi_hand.specs.Parts.{parts_of}
use Rattle.riichi_hand.specs.Texts.{texts_of}
use Rattle.riichi_hand.specs.Words.{words_of}
use Rattle.riichi_explain.specs.declared.explaining.Shown.{Shown}
use Rattle.riichi_explain.specs.Explanation.{IsOutcomeText, IsExplanation}
use Rattle.riichi_refusals.specs.Refusal.{long_refusals_alike}
use Rattle.riichi_hints.specs.Hint.{IsRefusalText, IsHintOrNone, told_line}
use Rattle.desk_lines.specs.Explained.{IsToldWithWhy, IsExplained}
use Rattle.desk_lines.specs.Profile.{profile_of, profile_of_words}
use Rattle.desk_lines.specs.LineAnswer.{answer_of, outcome_text, IsBy}

abbrev pub AreAlike : (Rules → List ℕ → Option (List ℕ) → Type 0) → Type 0
AreAlike May = (rules : Rules) (line other : List ℕ) (told : Option (List ℕ)) → 4096 < length line → 4096 < length other → May rules line told → May rules other told

-- what a line of at most 4,096 bytes is
abbrev short_outcome : Rules → List ℕ → Result (Option Job) LineFault
short_outcome rules line =
    let parts = parts_of (words_of line) in
    if is_no_record line then Ok None else fault_or (first_fault (faults_of rules line parts)) (job_of rules parts (texts_of parts) parts.job)

pub long_outcome : (rules : Rules) (line : List ℕ) → 4096 < length line → outcome_of rules line ≡ Err (Line H1)
unfolding outcome_of
long_outcome rules line long = ap (λ (is_long : Bool). if is_long then Err (Line H1) else short_outcome rules line) (lt-ltb 4096 (length line) long)

long_answer : (rules : Rules) (line : List ℕ) → 4096 < length line → answer_of rules line ≡ outcome_text (Err (Line H1))
unfolding answer_of
long_answer rules line long = ap outcome_text (long_outcome rules line long)

pub long_profile : (line : List ℕ) → 4096 < length line → profile_of line ≡ None
unfolding profile_of
long_profile line long = ap (λ (is_long : Bool). if is_long || list_any is_other_byte line then None else profile_of_words (words_of line)) (lt-ltb 4096 (length line) long)

pub answers_alike : AreAlike (IsBy answer_of)
answers_alike rules line other told long long_other is = is ∙ long_answer rules line long ∙ sym (long_answer rules other long_other)

-- ---- their explanations

-- no line is tried below a line that is so long
hint_kept : (rules : Rules) (line other hint : List ℕ) → 4096 < length line → IsHintOrNone rules line hint → IsHintOrNone rules other hint
hint_kept rules line other hint long (inl none) = inl none
hint_kept rules line other hint long (inr is) = absurd (false≢true (lt-ltb 4096 512 (le_trans long is.is_hint.is_short)))

-- their refusals are told alike
refusal_kept : (rules : Rules) (line other why : List ℕ) → 4096 < length line → 4096 < length other → IsRefusalText rules line (Line H1) why → IsRefusalText rules other (Line H1) why
refusal_kept rules line other why long long_other said =
    let below = told_line (codes "  ") said.note ++ said.hint in record {
      note = said.note;
      is_note = said.is_note;
      hint = said.hint;
      is_hint = hint_kept rules line other said.hint long said.is_hint;
      text_is = said.text_is ∙ ap (λ (front : List ℕ). front ++ below) (long_refusals_alike line other long long_other);
    }

explanation_kept : (shown : Shown) (rules : Rules) (line other why : List ℕ) → 4096 < length line → 4096 < length other → IsExplanation shown rules line why → IsExplanation shown rules other why
unfolding IsExplanation
explanation_kept shown rules line other why long long_other is =
    let said = subst (λ (outcome : Result (Option Job) LineFault). IsOutcomeText shown rules line outcome why) (long_outcome rules line long) is in
    subst (λ (outcome : Result (Option Job) LineFault). IsOutcomeText shown rules other outcome why) (sym (long_outcome rules other long_other))
    (refusal_kept rules line other why long long_other said)

told_alike : (shown : Shown) (rules : Rules) (line other : List ℕ) (answer : Option (List ℕ)) (told : Option (List ℕ)) → 4096 < length line → 4096 < length other
    → IsToldWithWhy shown rules line answer told → IsToldWithWhy shown rules other answer told
told_alike shown rules line other None told long long_other is = is
told_alike shown rules line other (Some answer) None long long_other is = is
told_alike shown rules line other (Some answer) (Some text) long long_other is = record {
  why = is.why;
  explains = explanation_kept shown rules line other is.why long long_other is.explains;
  more = is.more;
  text_is = is.text_is;
  more_is = is.more_is;
}

pub explanations_alike : (shown : Shown) → AreAlike (IsExplained shown)
explanations_alike shown rules line other told long long_other is =
    subst (λ (answer : Option (List ℕ)). IsToldWithWhy shown rules other answer told) (long_answer rules line long ∙ sym (long_answer rules other long_other))
    (told_alike shown rules line other (answer_of rules line) told long long_other is)
