use Rattle.std.proofs.Common.{None, sym}
use Rattle.std.proofs.lemmas.List.{append-nil}
use Rattle.std.proofs.lemmas.Result.{IfOk-weaker}
use Rattle.desk_notes.proofs.LookingLemmas.{seen_more}
use Rattle.desk_notes.proofs.looking.LookingTeller.tell.Goals as goal

pub returns-clause-told : goal.returns-clause-told
returns-clause-told g c =
    let old = c.args.self.now in
    let new = c.take.new.self in
    let line = c.args.line.now in
    IfOk-weaker c.take.result _ _
    (λ kind takes. record {
      answer = None;
      put = sym (append-nil c.args._outbox.now.bytes.items);
      tells_more = λ first lines told report next counted as_this seen.
          seen_more first old new lines line next c.args.number kind report counted as_this takes seen;
    })
    c.take.ensures
