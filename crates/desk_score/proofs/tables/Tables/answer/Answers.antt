use Rattle.std.proofs.Common.{◌≡◌, ◌∙◌, List, [], ◌∷◌, ◌++◌, Err, ap, sym, subst, append_assoc, map, option_map, arith}
use Rattle.std.proofs.lemmas.List.{append-nil, nil_from_length}
use Rattle.std.proofs.lemmas.Result.{err_from_is_err_and}
use Rattle.std.specs.Vec.Iter.{into_iter_items}
use Rattle.desk_score.specs.declared.score_fault.ScoreFault.TheVariants.{Read}
use Rattle.desk_score.specs.Score.{AllGive}
use Rattle.desk_score.proofs.ScoreLemmas.{AllGive-last}
use Rattle.desk_score.proofs.tables.Tables.answer.Goals as goal

pub loop-reader-init : goal.loop-reader-init
loop-reader-init g c = ([], record { given = tt; read = c.in_ok-tables.ensures (option_map (λ names. map (λ name. name.now) names.now) c.args.names) c.args.rules; parts = sym c.into_iter-reader-iterator.ensures.into_iter_gives.0 })

pub loop-reader-preserved : goal.loop-reader-preserved
loop-reader-preserved g c =
    let kept = c.loop-reader.invariant in
    let gave = c.in_ok-answer_next.ensures.ok kept.0 kept.1.read in (
      kept.0 ++ gave.0 ∷ [],
      record {
        given = AllGive-last g.R.Source c.loop-reader.yielded kept.0 c.in-Some.reader c.answer_next.new.reader gave.0 kept.1.given gave.1 c.answer_next.ensures.reads;
        read = gave.2;
        parts = kept.1.parts ∙ ap (λ rest. c.loop-reader.yielded ++ rest) c.in-Some.ensures.steps.0 ∙ sym (append_assoc c.loop-reader.yielded (c.in-Some.reader ∷ []) (into_iter_items c.next.new.self));
      },
    )

pub returns-in_err-answer_next-clause-read_failed : goal.returns-in_err-answer_next-clause-read_failed
returns-in_err-answer_next-clause-read_failed g c is =
    let kept = c.loop-reader.invariant in
    let p = err_from_is_err_and c.from_residual-in_err-answer_next.result c.from_residual-in_err-answer_next.ensures.1 in
    let fault : c.in_err-answer_next.field-0.0 ≡ Read = (let given = p.1 in let told = p.2 in cc) in record {
      first = c.loop-reader.yielded;
      texts = kept.0;
      reader = c.in-Some.reader;
      others = into_iter_items c.next.new.self;
      parts = kept.1.parts ∙ ap (λ rest. c.loop-reader.yielded ++ rest) c.in-Some.ensures.steps.0;
      given = kept.1.given;
      last = c.answer_next.new.reader;
      fails = c.in_err-answer_next.ensures.read_failed (ap Err fault);
      within = c.answer_next.ensures.reads;
    }

pub returns-clause-ok : goal.returns-clause-ok
returns-clause-ok g c =
    let kept = c.loop-reader.invariant in
    let none : into_iter_items c.loop-reader.reader-iterator ≡ [] = nil_from_length (into_iter_items c.loop-reader.reader-iterator) (let end = c.in-None.ensures.steps.0 in let ok = c.loop-reader.reader-iterator.rest.ok.0 in omega arith) in
    let all : c.loop-reader.yielded ≡ c.args.readers.items = sym (kept.1.parts ∙ ap (λ rest. c.loop-reader.yielded ++ rest) none ∙ append-nil c.loop-reader.yielded) in
    (kept.0, subst (λ (readers : List g.row.R.Denot). AllGive g.R.Source readers kept.0) all kept.1.given, kept.1.read)
