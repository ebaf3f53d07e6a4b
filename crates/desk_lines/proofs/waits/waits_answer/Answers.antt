use Rattle.std.proofs.Common.{◌≡◌, ◌≢◌, ℕ, List, true, false, sym, ◌∙◌, subst, sum}
use Rattle.riichi_hand.specs.FaultTexts.{fault_text}
use Rattle.riichi_hand.specs.declared.fault.LineFault.TheVariants.{Line}
use Rattle.riichi_hand.specs.declared.fault.LineCode.TheVariants.{H8}
use Rattle.riichi_split.specs.Waits.{waits_of, waits_text}
use Rattle.desk_lines.specs.WaitsLine.{concealed_hand}
use Rattle.desk_lines.proofs.waits.waits_answer.Goals as goal

pub returns-in-Ok-clause-waits : goal.returns-in-Ok-clause-waits
returns-in-Ok-clause-waits c = λ counts spells thirteen.
    let ok = sym c.in-Ok.is ∙ c.read_counts.ensures.only counts spells in
    let same : c.in-Ok.counts ≡ counts = cc ok in
    let P : List ℕ → Type 0 = λ t. sum t ≡ 13 → (c.answer_counts.result.text.bytes ≡ waits_text (waits_of (concealed_hand t))) × (c.answer_counts.result.refused ≡ false) in
    subst P same c.answer_counts.ensures.waits thirteen

pub returns-in-Ok-clause-not_thirteen : goal.returns-in-Ok-clause-not_thirteen
returns-in-Ok-clause-not_thirteen c = λ counts spells other.
    let ok = sym c.in-Ok.is ∙ c.read_counts.ensures.only counts spells in
    let same : c.in-Ok.counts ≡ counts = cc ok in
    let P : List ℕ → Type 0 = λ t. sum t ≢ 13 → (c.answer_counts.result.text.bytes ≡ fault_text (Line H8)) × (c.answer_counts.result.refused ≡ true) in
    subst P same c.answer_counts.ensures.not_thirteen other

pub returns-in-Err-clause-waits : goal.returns-in-Err-clause-waits
returns-in-Err-clause-waits c = λ counts spells _.
    let bad = sym c.in-Err.is ∙ c.read_counts.ensures.only counts spells in cc

pub returns-in-Err-clause-not_thirteen : goal.returns-in-Err-clause-not_thirteen
returns-in-Err-clause-not_thirteen c = λ counts spells _.
    let bad = sym c.in-Err.is ∙ c.read_counts.ensures.only counts spells in cc
