use Rattle.std.proofs.Common.{ℕ, List, ◌++◌, Option, None, refl, sym, subst, ap, ◌∙◌, take, length}
use Rattle.std.proofs.lemmas.List.{append-nil}
use Rattle.riichi_hand.specs.Rules.{Rules}
use Rattle.desk_lines.specs.Numbered.{with_number}
use Rattle.desk_lines.specs.Records.{IsToldUnder, kind_under}
use Rattle.desk_lines.specs.Telling.{line_by, has_answer}
use Rattle.desk_lines.specs.declared.line_kind.LineKind.TheVariants.{NoRecord}
use Rattle.desk_lines.specs.Slips.{slip_under}
use Rattle.desk_lines.proofs.SlipLemmas.{AreRead_line}
use Rattle.desk_lines.proofs.NumberLemmas.{NumberRecords_line, put_behind, nothing_behind}
use Rattle.desk_lines.proofs.numbered.NumberedTeller.tell.Goals as goal

pub returns-in-NoRecord-clause-told : goal.returns-in-NoRecord-clause-told
returns-in-NoRecord-clause-told g c =
    let may = g.A.Responder.may_tell in
    let line = c.args.line.now in
    let old = c.args.self.now.records in
    let now = c.next_rules.ensures in
    let slip = now.slip ∙ ap (λ (r : Option Rules). slip_under r old.slip c.args.number line) now.record in
    let puts = c.respond-kind.ensures.puts in
    let is = sym c.in-Some.is ∙ now.record in
    let before = c.args.outbox.now.bytes.items in
    let told_by = subst (λ (r : Option Rules). IsToldUnder may r line puts.told) is (g.met.A.Responder.by_outcome c.in-Some.rules line puts.told puts.may_be_told) in
    let kind = c.respond-kind.ensures.kind ∙ ap (λ (r : Option Rules). kind_under r line) is in record {
      answer = with_number c.args.number puts.told;
      put = c.truncate.ensures ∙ ap (λ n. take n c.respond-kind.new.outbox.bytes.items) c.len-before.ensures
          ∙ ap (take (length before)) (puts.put ∙ ap (λ (front : List ℕ). front ++ line_by (λ text. text) puts.told) c.put_number.ensures.front)
          ∙ nothing_behind g.A.Numbers.front c.args.number puts.told before (puts.kind_is ∙ ap has_answer c.in-NoRecord.is);
      tells_more = λ first lines told report next counted as_this tells. (
        now.given ∙ tells.0,
        AreRead_line old c.next_rules.new.self c.args.number line next lines report c.respond-kind.result counted as_this tells.1 now.given now.rules slip kind,
        NumberRecords_line may g.met.A.Responder.alike old c.next_rules.new.self c.args.number line next puts.told lines told counted as_this tells.1.0 now.given told_by tells.2,
      );
    }

pub returns-in_default-kind-clause-told : goal.returns-in_default-kind-clause-told
returns-in_default-kind-clause-told g c =
    let may = g.A.Responder.may_tell in
    let line = c.args.line.now in
    let old = c.args.self.now.records in
    let now = c.next_rules.ensures in
    let slip = now.slip ∙ ap (λ (r : Option Rules). slip_under r old.slip c.args.number line) now.record in
    let puts = c.respond-kind.ensures.puts in
    let is = sym c.in-Some.is ∙ now.record in
    let before = c.args.outbox.now.bytes.items in
    let told_by = subst (λ (r : Option Rules). IsToldUnder may r line puts.told) is (g.met.A.Responder.by_outcome c.in-Some.rules line puts.told puts.may_be_told) in
    let kind = c.respond-kind.ensures.kind ∙ ap (λ (r : Option Rules). kind_under r line) is in record {
      answer = with_number c.args.number puts.told;
      put = puts.put ∙ ap (λ (front : List ℕ). front ++ line_by (λ text. text) puts.told) c.put_number.ensures.front
          ∙ put_behind g.A.Numbers.front c.args.number puts.told c.respond-kind.result before puts.kind_is c.in_default-kind.not-NoRecord;
      tells_more = λ first lines told report next counted as_this tells. (
        now.given ∙ tells.0,
        AreRead_line old c.next_rules.new.self c.args.number line next lines report c.respond-kind.result counted as_this tells.1 now.given now.rules slip kind,
        NumberRecords_line may g.met.A.Responder.alike old c.next_rules.new.self c.args.number line next puts.told lines told counted as_this tells.1.0 now.given told_by tells.2,
      );
    }

pub returns-in_default-clause-told : goal.returns-in_default-clause-told
returns-in_default-clause-told g c =
    let may = g.A.Responder.may_tell in
    let line = c.args.line.now in
    let old = c.args.self.now.records in
    let now = c.next_rules.ensures in
    let slip = now.slip ∙ ap (λ (r : Option Rules). slip_under r old.slip c.args.number line) now.record in
    let is = sym c.in_default.is ∙ now.record in
    let told_by = subst (λ (r : Option Rules). IsToldUnder may r line None) is refl in record {
      answer = None;
      put = sym (append-nil c.args.outbox.now.bytes.items);
      tells_more = λ first lines told report next counted as_this tells. (
        now.given ∙ tells.0,
        AreRead_line old c.next_rules.new.self c.args.number line next lines report NoRecord counted as_this tells.1 now.given now.rules slip (ap (λ (r : Option Rules). kind_under r line) is),
        NumberRecords_line may g.met.A.Responder.alike old c.next_rules.new.self c.args.number line next None lines told counted as_this tells.1.0 now.given told_by tells.2,
      );
    }
