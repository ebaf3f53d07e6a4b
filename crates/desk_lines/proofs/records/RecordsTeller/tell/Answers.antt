use Rattle.std.proofs.Common.{Option, None, refl, sym, subst, ap, ◌∙◌}
use Rattle.std.proofs.lemmas.List.{append-nil}
use Rattle.riichi_hand.specs.Rules.{Rules}
use Rattle.desk_lines.specs.Records.{IsToldUnder, kind_under}
use Rattle.desk_lines.specs.declared.line_kind.LineKind.TheVariants.{NoRecord}
use Rattle.desk_lines.specs.Slips.{slip_under}
use Rattle.desk_lines.proofs.AnswerLemmas.{AnswerRecords-line}
use Rattle.desk_lines.proofs.SlipLemmas.{AreRead_line}
use Rattle.desk_lines.proofs.records.RecordsTeller.tell.Goals as goal

pub returns-in-Some-clause-told : goal.returns-in-Some-clause-told
returns-in-Some-clause-told g c =
    let may = g.A.Responder.may_tell in
    let line = c.args.line.now in
    let now = c.next_rules.ensures in
    let slip = now.slip ∙ ap (λ (r : Option Rules). slip_under r c.args.self.now.slip c.args.number line) now.record in
    let puts = c.respond.ensures.puts in
    let is = sym c.in-Some.is ∙ now.record in
    let told_by = subst (λ (r : Option Rules). IsToldUnder may r line puts.told) is (g.met.A.Responder.by_outcome c.in-Some.rules line puts.told puts.may_be_told) in
    let kind = c.respond.ensures.kind ∙ ap (λ (r : Option Rules). kind_under r line) is in record {
      answer = puts.told;
      put = puts.put;
      tells_more = λ first lines told report next counted as_this tells. (
        now.given ∙ tells.0,
        AreRead_line c.args.self.now c.next_rules.new.self c.args.number line next lines report c.respond.result counted as_this tells.1 now.given now.rules slip kind,
        AnswerRecords-line may g.met.A.Responder.alike c.args.self.now c.next_rules.new.self line next puts.told lines told as_this tells.1.0 now.given told_by tells.2,
      );
    }

pub returns-in-None-clause-told : goal.returns-in-None-clause-told
returns-in-None-clause-told g c =
    let may = g.A.Responder.may_tell in
    let line = c.args.line.now in
    let now = c.next_rules.ensures in
    let slip = now.slip ∙ ap (λ (r : Option Rules). slip_under r c.args.self.now.slip c.args.number line) now.record in
    let is = sym c.in-None.is ∙ now.record in
    let told_by = subst (λ (r : Option Rules). IsToldUnder may r line None) is refl in record {
      answer = None;
      put = sym (append-nil c.args.outbox.now.bytes.items);
      tells_more = λ first lines told report next counted as_this tells. (
        now.given ∙ tells.0,
        AreRead_line c.args.self.now c.next_rules.new.self c.args.number line next lines report NoRecord counted as_this tells.1 now.given now.rules slip (ap (λ (r : Option Rules). kind_under r line) is),
        AnswerRecords-line may g.met.A.Responder.alike c.args.self.now c.next_rules.new.self line next None lines told as_this tells.1.0 now.given told_by tells.2,
      );
    }
