use Rattle.std.proofs.Common.{◌≡◌, ◌∙◌, ◌<◌, ℕ, List, Option, None, Some, inr, get_or, length, sym, subst, ap, arith}
use Rattle.std.specs.Prelude.{IfNone}
use Rattle.std.specs.List.{All}
use Rattle.std.proofs.lemmas.List.{get_or_default}
use Rattle.std.proofs.lemmas.List.Elements.{All-set}
use Rattle.desk_crew.specs.declared.piece.Piece.{Piece}
use Rattle.desk_lines.specs.declared.tally.Tally.{Tally}
use Rattle.desk_crew.specs.declared.share.Share.{Share}
use Rattle.desk_crew.specs.Pieces.{HasAnswers, IsWithout}
use Rattle.desk_crew.proofs.PieceLemmas.{taken, claims_nothing}
use Rattle.desk_crew.proofs.share.Share.take.Given.{Over}
use Rattle.desk_crew.proofs.share.Share.take.Goals.{After-take}
use Rattle.desk_crew.proofs.share.Share.take.Goals as goal

-- the pieces are those at the call
answered : (g : Over) (c : After-take g) → All (HasAnswers g.A.Responder.may_tell c.args.rules c.args.text.now c.args.size) c.loop-place.self.pieces.items
answered g c = subst (All (HasAnswers g.A.Responder.may_tell c.args.rules c.args.text.now c.args.size)) (sym c.loop-place.invariant.same) c.requires

pub returns-then-index-number-clause-taken : goal.returns-then-index-number-clause-taken
returns-then-index-number-clause-taken g c =
    let may = g.A.Responder.may_tell in
    let pieces = c.loop-place.self.pieces.items in
    let place = c.loop-place.place in
    let piece = c.index_mut.result.now in
    let within : place < length pieces = subst (λ (ps : List Piece). place < length ps) (sym c.loop-place.invariant.same) (let test = c.loop-place-test.true in let end = c.len-place-end.ensures in omega (arith, test, end)) in
    let same : piece ≡ c.index.result.now = c.index_mut.ensures.value ∙ get_or_default pieces place piece c.index.result.now within ∙ sym c.index.ensures in
    taken may c.args.rules c.args.text.now c.args.size c.args.number piece c.take.result c.take.new.room.items
    (subst (HasAnswers may c.args.rules c.args.text.now c.args.size) (sym c.index_mut.ensures.value) (answered g (goal.at.returns-then-index-number-clause-taken g c).After-take place piece within))
    (ap (λ (p : Piece). p.number) same ∙ c.if-index-number.true) c.take.ensures.tally.0 (ap (λ v. v.items) c.take.ensures.answers)

pub returns-then-index-number-clause-left : goal.returns-then-index-number-clause-left
returns-then-index-number-clause-left g c =
    All-set (HasAnswers g.A.Responder.may_tell c.args.rules c.args.text.now c.args.size) c.loop-place.self.pieces.items c.loop-place.place c.take.new.self
    (claims_nothing g.A.Responder.may_tell c.args.rules c.args.text.now c.args.size c.take.new.self c.take.ensures.tally.1) (answered g (goal.at.returns-then-index-number-clause-left g c).After-take)

-- a piece that has the number has no tally
without : (number : ℕ) (share : Share) (place : ℕ) (piece : Piece) (result : Option Tally) → place < length share.pieces.items → get_or share.pieces.items place piece ≡ piece → piece.number ≡ number → result ≡ piece.tally
    → IfNone result (IsWithout number share)
without number share place piece None within is at tally = inr (place, piece, within, is, (at, sym tally))
without number share place piece (Some counted) within is at tally = tt

pub returns-then-index-number-clause-none : goal.returns-then-index-number-clause-none
returns-then-index-number-clause-none g c =
    let pieces = c.loop-place.self.pieces.items in
    let place = c.loop-place.place in
    let piece = c.index_mut.result.now in
    let within : place < length c.args.self.now.pieces.items = let test = c.loop-place-test.true in let end = c.len-place-end.ensures in omega (arith, test, end) in
    let inside : place < length pieces = subst (λ (ps : List Piece). place < length ps) (sym c.loop-place.invariant.same) within in
    let same : piece ≡ c.index.result.now = c.index_mut.ensures.value ∙ get_or_default pieces place piece c.index.result.now inside ∙ sym c.index.ensures in
    let is : get_or c.args.self.now.pieces.items place piece ≡ piece = sym (c.index_mut.ensures.value ∙ ap (λ (ps : List Piece). get_or ps place piece) c.loop-place.invariant.same) in
    without c.args.number c.args.self.now place piece c.take.result within is (ap (λ (p : Piece). p.number) same ∙ c.if-index-number.true) c.take.ensures.tally.0
