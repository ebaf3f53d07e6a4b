use Rattle.std.proofs.Common.{ℕ, List, ◌++◌, sym, ap, ◌∙◌, decimal}
use Rattle.std.specs.Prelude.{codes}
use Rattle.riichi_hand.specs.FaultTexts.{line_code_text, notation_code_text, name_text}
use Rattle.riichi_text.proofs.Pieces.{pushed-two, pushed-three, pushed_five}
use Rattle.desk_json.specs.Parts.{code_json}
use Rattle.desk_json.proofs.refusal.push_code.Goals as goal

pub returns-in-Line-clause-bytes : goal.returns-in-Line-clause-bytes
unfolding code_json
returns-in-Line-clause-bytes c =
    let before = c.args.text.now.bytes in
    pushed-three before (codes "{\"answer\":\"refused\",\"code\":\"") (line_code_text c.in-Line.code) (codes "\"")
    c.push_str.ensures.bytes (c.push_str-in-Line.ensures.bytes ∙ ap (λ (t : List ℕ). c.push_str.new.self.bytes ++ t) c.line_code_text.ensures.value) c.push_str-in-Line-2.ensures.bytes
    ∙ ap (λ fault. before ++ code_json fault) (sym c.in-Line.is)

pub returns-in-Notation-clause-bytes : goal.returns-in-Notation-clause-bytes
unfolding code_json
returns-in-Notation-clause-bytes c =
    let before = c.args.text.now.bytes in
    let name = c.in-Notation.name in
    let fault = c.in-Notation.fault in
    let code = codes "{\"answer\":\"refused\",\"code\":\"" in
    let front = code ++ notation_code_text fault.code ++ codes "\",\"text\":\"" ++ name_text name ++ codes "\",\"place\":" in
    pushed-two before front (decimal fault.place)
    (pushed_five before code (notation_code_text fault.code) (codes "\",\"text\":\"") (name_text name) (codes "\",\"place\":")
    c.push_str.ensures.bytes (c.push_str-in-Notation.ensures.bytes ∙ ap (λ (t : List ℕ). c.push_str.new.self.bytes ++ t) c.notation_code_text.ensures.value) c.push_str-in-Notation-2.ensures.bytes
    (c.push_str-in-Notation-3.ensures.bytes ∙ ap (λ (t : List ℕ). c.push_str-in-Notation-2.new.self.bytes ++ t) c.name_text.ensures.value) c.push_str-in-Notation-4.ensures.bytes)
    c.push_number.ensures.bytes
    ∙ ap (λ fault. before ++ code_json fault) (sym c.in-Notation.is)
