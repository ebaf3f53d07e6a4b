use Rattle.std.proofs.Common.{◌++◌, ◌∙◌, List, ℕ, ap, arith}
use Rattle.std.specs.Prelude.{codes}
use Rattle.desk_json.specs.Parts.{code_json}
use Rattle.desk_study.proofs.FaultLemmas.{has_brace, without_brace}
use Rattle.desk_study.proofs.puts.put_fault_members.Goals as goal

pub remove-requires : goal.remove-requires
remove-requires c =
    let fault = c.args.fault.now in
    let object_is = c.push_code.ensures.bytes ∙ ap (λ (t : List ℕ). t ++ code_json fault) c.clear.ensures in
    let there = has_brace c.push_code.new.text.bytes fault object_is in
    (omega arith, ((omega arith, λ none low high. absurd (omega (arith, none))), there))

pub returns-clause-bytes : goal.returns-clause-bytes
returns-clause-bytes c =
    let before = c.args.outbox.now.bytes.items in
    let fault = c.args.fault.now in
    let object_is = c.push_code.ensures.bytes ∙ ap (λ (t : List ℕ). t ++ code_json fault) c.clear.ensures in
    let removed = c.remove.ensures in
    c.put_object_piece.ensures.bytes
    ∙ ap (λ (t : List ℕ). before ++ t) (c.push_str.ensures.bytes ∙ ap (λ (t : List ℕ). t ++ codes "}") (without_brace c.remove.result c.push_code.new.text.bytes removed.0 c.remove.new.self.bytes fault object_is removed.1 removed.2))
