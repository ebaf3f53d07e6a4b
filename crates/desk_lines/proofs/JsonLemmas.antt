-- An object is a brace and its members.
use Rattle.std.proofs.Common.{◌≡◌, ℕ, List, ◌++◌, drop, refl, sym, ap, ◌∙◌}
use Rattle.std.specs.Prelude.{codes}
use Rattle.riichi_hand.specs.declared.fault.LineFault.{LineFault}
use Rattle.riichi_hand.specs.declared.fault.LineFault.TheVariants.{Line, Notation}
use Rattle.riichi_hand.specs.Rules.{Rules}
use Rattle.riichi_score.specs.declared.answer.WinAnswer.{WinAnswer}
use Rattle.riichi_score.specs.declared.answer.WinAnswer.TheVariants.{Won, NoYaku, NoWin}
use Rattle.desk_core.specs.declared.answer.Answer.{Answer}
use Rattle.desk_core.specs.declared.answer.Answer.TheVariants as answer
use Rattle.desk_json.specs.Parts.{worth_json, score_json, worth_members_json, open_win_json, win_json, waits_json, shape_json, code_json, refusal_parts}
use Rattle.desk_json.specs.Text.{answer_json, refusal_json}
use Rattle.desk_json.proofs.Pieces.{win_written, waits_written, shape_written}
use Rattle.desk_json.proofs.Refusals.{refusal_written}

pub brace_of : (text parts : List ℕ) → text ≡ parts → codes "{" ++ drop 1 parts ≡ parts → codes "{" ++ drop 1 text ≡ text
brace_of text parts is brace = ap (λ (all : List ℕ). codes "{" ++ drop 1 all) is ∙ brace ∙ sym is

win_brace : (rules : Rules) (win : WinAnswer) → codes "{" ++ drop 1 (win_json rules win) ≡ win_json rules win
unfolding win_json open_win_json worth_members_json score_json worth_json
win_brace rules (Won score) = refl
win_brace rules NoYaku = refl
win_brace rules NoWin = refl

pub answer_brace : (rules : Rules) (told : Answer) → codes "{" ++ drop 1 (answer_json rules told) ≡ answer_json rules told
unfolding waits_json shape_json
answer_brace rules (answer.Win win) = brace_of (answer_json rules (answer.Win win)) (win_json rules win) (win_written rules win) (win_brace rules win)
answer_brace rules (answer.Waits marks) = brace_of (answer_json rules (answer.Waits marks)) (waits_json marks) (waits_written rules marks) refl
answer_brace rules (answer.Shape shape) = brace_of (answer_json rules (answer.Shape shape)) (shape_json shape) (shape_written rules shape) refl

parts_brace : (line : List ℕ) (fault : LineFault) → codes "{" ++ drop 1 (refusal_parts line fault) ≡ refusal_parts line fault
unfolding refusal_parts code_json
parts_brace line (Line code) = refl
parts_brace line (Notation name fault) = refl

pub fault_brace : (line : List ℕ) (fault : LineFault) → codes "{" ++ drop 1 (refusal_json line fault) ≡ refusal_json line fault
fault_brace line fault = brace_of (refusal_json line fault) (refusal_parts line fault) (refusal_written line fault) (parts_brace line fault)
