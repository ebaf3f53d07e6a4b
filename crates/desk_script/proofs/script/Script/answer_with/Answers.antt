use Rattle.std.proofs.Common.{[], ◌∷◌, refl, sym, subst, ◌∙◌, append-nil}
use Rattle.desk_script.specs.declared.line_request.LineRequest.TheVariants as ask
use Rattle.desk_script.specs.declared.told.Told.TheVariants.{Replied}
use Rattle.desk_script.specs.Replay.{ScriptState, Tells}
use Rattle.desk_script.proofs.Scripts.{Tells-line}
use Rattle.desk_script.proofs.script.Script.answer_with.Goals as goal

pub returns-in-Told-clause-told : goal.returns-in-Told-clause-told
returns-in-Told-clause-told g c =
    let old : ScriptState = record { names = c.self.inside.names; lanes = c.self.inside.core } in
    let new : ScriptState = record { names = c.ask.new.names; lanes = c.self.inside.core } in
    record {
      told = c.in-Told.told;
      text_is = c.told_text.ensures;
      tells = λ lines before tells.
          let as_fields = subst (λ (s : ScriptState). Tells s lines before) (sym c.self.view_is) tells in
          Tells-line old new lines before c.args.line.now (ask.Told c.in-Told.told) [] c.in-Told.told as_fields (sym c.in-Told.is ∙ c.in_ok-told.ensures.asked) c.in_ok-told.ensures.names refl refl
          (λ history stands. rw (append-nil history) stands) refl;
    }

pub returns-in-Event-clause-told : goal.returns-in-Event-clause-told
returns-in-Event-clause-told g c =
    let old : ScriptState = record { names = c.self.inside.names; lanes = c.self.inside.core } in
    let new : ScriptState = record { names = c.ask.new.names; lanes = c.step.new.self } in
    record {
      told = Replied c.step.result;
      text_is = c.told_text-in-Event.ensures;
      tells = λ lines before tells.
          let as_fields = subst (λ (s : ScriptState). Tells s lines before) (sym c.self.view_is) tells in
          Tells-line old new lines before c.args.line.now (ask.Event c.in-Event.event) (c.step.result ∷ []) (Replied c.step.result) as_fields (sym c.in-Event.is ∙ c.in_ok-told.ensures.asked) c.in_ok-told.ensures.names refl refl
          c.step.ensures.step c.step.ensures.tables;
    }
