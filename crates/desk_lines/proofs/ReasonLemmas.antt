-- An object with reasons is a brace and its members.
use Rattle.std.proofs.Common.{◌≡◌, ℕ, List, ◌++◌, drop, refl, sym, ap, ◌∙◌}
use Rattle.std.specs.Prelude.{codes}
use Rattle.riichi_hand.specs.Rules.{Rules}
use Rattle.riichi_hand.specs.declared.win.WinParts.{WinParts}
use Rattle.riichi_hand.specs.declared.job.Job.{Job}
use Rattle.riichi_hand.specs.declared.job.Job.TheVariants as job
use Rattle.desk_core.specs.Value.{value_of}
use Rattle.riichi_score.specs.Best.{best_of}
use Rattle.riichi_score.specs.declared.answer.WinAnswer.{WinAnswer}
use Rattle.riichi_score.specs.declared.answer.WinAnswer.TheVariants.{Won, NoYaku, NoWin}
use Rattle.desk_json.specs.Trees.{Named, win_tree, score_tree}
use Rattle.desk_json.proofs.Written.{written, text_written}
use Rattle.desk_reasons.specs.Reasons.{IsExplainedWin}
use Rattle.desk_reasons.specs.Trees.{why_tree, with_member}
use Rattle.desk_lines.specs.Reasoned.{IsJobReasoned}
use Rattle.desk_lines.proofs.JsonLemmas.{brace_of, answer_brace}

win_brace : (rules : Rules) (win : WinAnswer) (named : Named) → codes "{" ++ drop 1 (written (with_member (win_tree rules win) named)) ≡ written (with_member (win_tree rules win) named)
unfolding with_member win_tree score_tree written
win_brace rules (Won score) named = refl
win_brace rules NoYaku named = refl
win_brace rules NoWin named = refl

object_written : (win : WinParts) (object : List ℕ) (said : IsExplainedWin win object)
    → object ≡ written (with_member (win_tree win.rules (best_of win)) (codes "why", why_tree said.explanation said.ranked))
object_written win object said = said.object_is ∙ text_written (with_member (win_tree win.rules (best_of win)) (codes "why", why_tree said.explanation said.ranked))

object_brace : (win : WinParts) (object : List ℕ) → IsExplainedWin win object → codes "{" ++ drop 1 object ≡ object
object_brace win object said =
    let e = object_written win object said in
    ap (λ (all : List ℕ). codes "{" ++ drop 1 all) e ∙ win_brace win.rules (best_of win) (codes "why", why_tree said.explanation said.ranked) ∙ sym e

-- the object of any job
pub reasoned_brace : (rules : Rules) (told : Job) (object : List ℕ) → IsJobReasoned rules told object → codes "{" ++ drop 1 object ≡ object
reasoned_brace rules (job.Win win) object is = object_brace win object is
reasoned_brace rules (job.Waits hand) object is = brace_of object _ is (answer_brace rules (value_of (job.Waits hand)))
reasoned_brace rules (job.Shape shape) object is = brace_of object _ is (answer_brace rules (value_of (job.Shape shape)))
