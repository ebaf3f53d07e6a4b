use Rattle.std.proofs.Common.{ℕ, List, [], ◌∷◌, ◌++◌, ap, ◌∙◌, append_assoc}
use Rattle.riichi_hand.specs.FaultTexts.{fault_text}
use Rattle.desk_lines.proofs.ExplainedPuts.{refusal_with_why}
use Rattle.desk_lines.proofs.explained.put_refused.Goals as goal

pub returns : goal.returns
returns c =
    let fault = c.args.refusal.now.fault in
    let before = c.args.outbox.now.bytes.items in
    let answer = fault_text fault ++ 10 ∷ [] in
    let why = c.push_refusal.ensures.text in
    let said = why.2 ∙ ap (λ (t : List ℕ). t ++ why.0) c.clear.ensures in
    refusal_with_why c.args.rules c.args.line.now fault before c.put_piece.new.self.bytes.items why.0 why.1
    (c.put_piece.ensures ∙ ap (λ (t : List ℕ). t ++ c.push_refusal.new.text.bytes) c.put_fault.ensures.told
    ∙ append_assoc before answer c.push_refusal.new.text.bytes ∙ ap (λ (t : List ℕ). before ++ (answer ++ t)) said)
