use Rattle.std.proofs.Common.{◌≡◌, ◌++◌, ◌∙◌, FitsSigned, List, ℕ, ap, append_assoc, rules}
use Rattle.std.proofs.Math.Facts.{to_z-of_z}
use mir.Syntax.{w8}
use mir.Val.{of_z, to_z}
use Rattle.riichi_text.proofs.Pieces.{pushed-three}
use Rattle.riichi_chances.specs.declared.discards.DiscardChances.{DiscardChances}
use Rattle.desk_study.specs.ChanceObjects.{chances_name, front_json}
use Rattle.desk_study.specs.Found.{each_in, each_json, end_json, first_json}
use Rattle.desk_study.proofs.chances.put_members.Goals as goal

pub returns-clause-bytes : goal.returns-clause-bytes
returns-clause-bytes c =
    let before = c.args.outbox.now.bytes.items in
    let found = c.args.found.now in
    let turns = c.count-turns.result in
    let front : ℕ → List ℕ = λ count. front_json chances_name found.shanten count found.unseen ++ first_json count found.by_turn in
    let told : ℕ → List ℕ = λ count. front count ++ (each_json count (each_in found.by_turn) ++ end_json found.by_turn) in
    let fits : FitsSigned w8 found.shanten = search rules in
    let begun : c.push_first.new.text.bytes ≡ front turns =
    c.push_first.ensures.bytes ∙ ap (λ (t : List ℕ). t ++ first_json turns found.by_turn) (
    c.push_chances_front.ensures.bytes ∙ ap (λ (t : List ℕ). t ++ front_json chances_name (to_z w8 (of_z w8 found.shanten)) turns found.unseen) c.clear.ensures
    ∙ ap (λ z. front_json chances_name z turns found.unseen) (to_z-of_z fits)
    ) in
    let ended : c.push_end.new.text.bytes ≡ end_json found.by_turn = c.push_end.ensures.bytes ∙ ap (λ (t : List ℕ). t ++ end_json found.by_turn) c.clear-2.ensures in
    let first = c.put_object_piece.ensures.bytes ∙ ap (λ (t : List ℕ). before ++ t) begun in
    let each = c.put_each_member.ensures.bytes ∙ ap (λ (es : List DiscardChances). c.put_object_piece.new.outbox.bytes.items ++ each_json turns es) c.discards.ensures.each in
    let last = c.put_object_piece-2.ensures.bytes ∙ ap (λ (t : List ℕ). c.put_each_member.new.outbox.bytes.items ++ t) ended in
    pushed-three before (front turns) (each_json turns (each_in found.by_turn)) (end_json found.by_turn) first each last
    ∙ ap (λ (t : List ℕ). before ++ t) (append_assoc (front turns) (each_json turns (each_in found.by_turn)) (end_json found.by_turn)) ∙ ap (λ count. before ++ told count) c.count-turns.ensures.value
