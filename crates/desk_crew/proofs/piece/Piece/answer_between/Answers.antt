use Rattle.std.proofs.Common.{◌++◌, ◌∙◌, List, ℕ, ap, subst, take, length-take, arith}
use Rattle.std.proofs.lemmas.Result.{MatchResult-weaker}
use Rattle.desk_lines.specs.Lines.{cut_of, ended_lines}
use Rattle.desk_lines.specs.Records.{AreTold}
use Rattle.desk_lines.specs.Slips.{tally_of}
use Rattle.desk_lines.specs.Telling.{text_of}
use Rattle.desk_crew.proofs.PieceLemmas.{piece_parts}
use Rattle.desk_crew.proofs.piece.Piece.answer_between.Goals as goal

pub slice_bounds-ended_bytes-end : goal.slice_bounds-ended_bytes-end
slice_bounds-ended_bytes-end g c = let order = c.requires.order in omega (arith, length-take c.args.from c.args.text.now)

pub returns-clause-answers : goal.returns-clause-answers
returns-clause-answers g c =
    let text = c.args.text.now in
    let begin = c.ended_bytes-begin in
    let parts = piece_parts text (cut_of (take c.args.from text)).rest begin.result c.args.from c.args.to begin.ensures.within c.requires.order.0 c.requires.order.1 begin.ensures.rest in
    MatchResult-weaker c.answer_piece.result c.answer_piece.ensures (λ tally ok. record {
      told = ok.0;
      are_told = subst (λ (piece : List ℕ). AreTold g.A.Responder.may_tell c.args.rules (ended_lines piece) ok.0) parts ok.1;
      text_is = ok.2 ∙ ap (λ front. front ++ text_of ok.0) c.requires.none;
      tally_is = ok.3 ∙ ap (λ (piece : List ℕ). tally_of c.args.rules (ended_lines piece)) parts;
    })
    (λ fault none. none)
