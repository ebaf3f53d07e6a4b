use Rattle.std.proofs.Common.{◌∙◌, ℕ, List, [], ◌∷◌, ◌++◌, ap, sym, subst, refl, append_assoc, arith}
use Rattle.std.proofs.lemmas.List.{append-nil}
use Rattle.std.proofs.lemmas.Result.{err_from_is_err_and}
use Rattle.desk_lines.specs.Lines.{ended_lines}
use Rattle.desk_lines.specs.Reading.{AreToldAs}
use Rattle.desk_lines.specs.Told.{Stands, StopsTelling}
use Rattle.desk_lines.proofs.CutLemmas.{as_none, as_front, as_first, as_last}
use Rattle.desk_lines.proofs.ToldLemmas.{StopsTelling_more}
use Rattle.desk_lines.proofs.told.Told.add_lines.Goals as goal

pub loop-line-init : goal.loop-line-init
loop-line-init g c = (
  [],
  record {
    lines = refl;
    rest = refl;
    stands = λ start first lines next as_these stands. subst (λ (all : List (List ℕ)). Stands g.W.Sink g.T.Teller start first all c.args.teller.now c.args.self.now c.args.writer.now) (sym (ap (λ more. lines ++ more) (as_none g.T.Teller.most next as_these) ∙ append-nil lines)) stands;
    count = omega arith;
  },
)

pub loop-line-preserved : goal.loop-line-preserved
loop-line-preserved g c =
    let so_far = c.loop-line.invariant in
    let line = c.in-Some.line.now in
    let cut = c.in-Some.ensures in (
      so_far.0 ++ line ∷ [],
      record {
        lines = so_far.1.lines ∙ ap (λ rest. so_far.0 ++ rest) cut.0 ∙ sym (append_assoc so_far.0 (line ∷ []) (ended_lines c.in-Some.after.now));
        rest = so_far.1.rest ∙ cut.1;
        stands = λ start first lines next as_these stands.
            let parts = as_last g.T.Teller.most so_far.0 line next as_these in
            subst (λ (all : List (List ℕ)). Stands g.W.Sink g.T.Teller start first all c.add.new.teller c.add.new.self c.add.new.writer) (append_assoc lines parts.0 (parts.1 ∷ []) ∙ ap (λ all. lines ++ all) (sym parts.2))
            (c.in_ok-add.ensures.stands start first (lines ++ parts.0) parts.1 parts.4 (so_far.1.stands start first lines parts.0 parts.3 stands));
        count = let shorter = cut.2 in let more = c.in_ok-add.ensures.count in let before = so_far.1.count in omega arith;
      },
    )

pub returns-in_err-add-clause-stops : goal.returns-in_err-add-clause-stops
returns-in_err-add-clause-stops g c =
    let so_far = c.loop-line.invariant in
    let p = err_from_is_err_and c.from_residual.result c.from_residual.ensures.1 in
    rw (p.1, p.2) (λ start first lines next as_these stands.
    let fault = c.in_err-add.field-0.0 in
    let parts = as_front g.T.Teller.most so_far.0 (ended_lines c.loop-line.rest.now) next (subst (λ (ls : List (List ℕ)). AreToldAs g.T.Teller.most ls next) so_far.1.lines as_these) in
    let before = lines ++ parts.0 in
    let this = as_first g.T.Teller.most c.in-Some.line.now (ended_lines c.in-Some.after.now) parts.1 (subst (λ (ls : List (List ℕ)). AreToldAs g.T.Teller.most ls parts.1) c.in-Some.ensures.0 parts.4) in
    let stops = StopsTelling_more g.W.Sink g.T.Teller start first c.add.new.writer fault (before ++ this.0 ∷ []) this.1 (c.in_err-add.ensures.stops start first before this.0 this.3 (so_far.1.stands start first lines parts.0 parts.3 stands)) in
    subst (λ (all : List (List ℕ)). StopsTelling g.W.Sink g.T.Teller start c.add.new.writer first fault all) (append_assoc before (this.0 ∷ []) this.1 ∙ ap (λ all. before ++ all) (sym this.2) ∙ append_assoc lines parts.0 parts.1 ∙ ap (λ all. lines ++ all) (sym parts.2)) stops)
