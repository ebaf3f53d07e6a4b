use Rattle.std.proofs.Common.{◌≡◌, ◌++◌, List, ℕ, Option, Some, ap, sym, ◌∙◌}
use Rattle.std.proofs.lemmas.List.{append-nil}
use Rattle.arrayvec.specs.ArrayString.{ArrayString}
use Rattle.desk_script.specs.Texts.{bytes_of}
use Rattle.desk_lines.specs.declared.line_kind.LineKind.TheVariants.{NoRecord}
use Rattle.desk_lines.specs.Scripts.{text_kind, told_kind}
use Rattle.desk_lines.specs.Telling.{with_line_feed}
use Rattle.desk_lines.proofs.ScriptLemmas.{TellsScript-line}
use Rattle.desk_lines.proofs.scripts.ScriptTeller.tell.Goals as goal

pub returns-in-None-clause-told : goal.returns-in-None-clause-told
returns-in-None-clause-told g c =
    let items = c.args.outbox.now.bytes.items in
    let is = c.in-None.is in record {
      answer = bytes_of c.in_ok-answer_with.field-0;
      put = sym (append-nil items) ∙ ap (λ (text : Option ArrayString). items ++ with_line_feed (bytes_of text)) (sym is);
      tells_more = λ first lines answers report next counted as_this tells.
          TellsScript-line c.args.self.now c.answer_with.new.self lines answers report c.args.line.now next (bytes_of c.in_ok-answer_with.field-0) NoRecord as_this
          (ap (λ (text : Option ArrayString). told_kind (bytes_of text)) (sym is)) c.in_ok-answer_with.ensures.told tells;
    }

pub returns-in-Some-clause-told : goal.returns-in-Some-clause-told
returns-in-Some-clause-told g c =
    let items = c.args.outbox.now.bytes.items in
    let is = c.in-Some.is in
    let whole : c.as_bytes.result.now ≡ c.in-Some.text.bytes = c.as_bytes.ensures.value ∙ c.as_str.ensures.value in record {
      answer = bytes_of c.in_ok-answer_with.field-0;
      put = c.put_text.ensures.told ∙ ap (λ (bytes : List ℕ). items ++ with_line_feed (Some bytes)) whole ∙ ap (λ (text : Option ArrayString). items ++ with_line_feed (bytes_of text)) (sym is);
      tells_more = λ first lines answers report next counted as_this tells.
          TellsScript-line c.args.self.now c.answer_with.new.self lines answers report c.args.line.now next (bytes_of c.in_ok-answer_with.field-0) c.put_text.result as_this
          (c.put_text.ensures.kind ∙ ap text_kind whole ∙ ap (λ (text : Option ArrayString). told_kind (bytes_of text)) (sym is)) c.in_ok-answer_with.ensures.told tells;
    }
