use Rattle.std.proofs.Common.{◌≡◌, ◌∙◌, FitsSigned, ℕ, sym, subst, ap, refl, rules, arith}
use Rattle.std.proofs.Common as width
use Rattle.std.proofs.Math.Facts.{to_z-of_z}
use Rattle.std.specs.Prelude.{◌&&◌, nat_le}
use mir.Syntax.{w8}
use Rattle.riichi_shape.specs.EveryWinning.{distance_of}
use Rattle.desk_study.specs.Found.{AreFound, AreParts}
use Rattle.desk_study.specs.declared.found.FoundByTurn.{FoundByTurn}
use Rattle.desk_study.proofs.FindingLemmas.{shanten_is}
use Rattle.desk_study.proofs.found.find_chances.Goals as goal
use Rattle.desk_study.proofs.found.find_chances.Goals.{then-are_counted+in_ok-by_turn, else-are_counted}

pub count-requires-then-are_counted-clause-counted : goal.count-requires-then-are_counted-clause-counted
count-requires-then-are_counted-clause-counted g c =
    let hand = c.args.hand.now in
    let distance = distance_of hand.tiles hand.melds in
    let answer = c.shape_with-answer.result in
    let fits : FitsSigned width.w8 answer.shanten = search rules in
    sym (
    sym c.if-are_counted.true
    ∙ c.are_counted.ensures distance (to_z-of_z fits ∙ shanten_is hand answer c.shape_with-answer.ensures.shape)
    ∙ ap (λ n. nat_le distance 4 && nat_le n c.unseen_tiles-unseen.result) c.count.ensures.value
    ∙ ap (λ n. nat_le distance 4 && nat_le c.args.turns n) c.unseen_tiles-unseen.ensures.value
    )

pub returns-clause-found : goal.returns-clause-found
returns-clause-found g c =
    let hand = c.args.hand.now in
    let distance = distance_of hand.tiles hand.melds in
    let answer = c.shape_with-answer.result in
    let fits : FitsSigned width.w8 answer.shanten = search rules in
    let counted = c.are_counted.ensures distance (to_z-of_z fits ∙ shanten_is hand answer c.shape_with-answer.ensures.shape)
    ∙ ap (λ n. nat_le distance 4 && nat_le n c.unseen_tiles-unseen.result) c.count.ensures.value
    ∙ ap (λ n. nat_le distance 4 && nat_le c.args.turns n) c.unseen_tiles-unseen.ensures.value in
    elim c.if-are_counted.branch [
      | then-are_counted+in_ok-by_turn w ↦ record {
        shanten_is = to_z-of_z fits ∙ shanten_is hand answer c.shape_with-answer.ensures.shape;
        turns_are = refl;
        unseen_are = c.unseen_tiles-unseen.ensures.value;
        are_found = subst (λ (o : FoundByTurn). AreFound hand c.args.turns o) (sym w.by_turn-is) w.in_ok-by_turn.ensures.found;
        are_parts = subst (λ (o : FoundByTurn). AreParts c.args.turns o) (sym w.by_turn-is) w.in_ok-by_turn.ensures.parts;
      }
      | else-are_counted w ↦ record {
        shanten_is = to_z-of_z fits ∙ shanten_is hand answer c.shape_with-answer.ensures.shape;
        turns_are = refl;
        unseen_are = c.unseen_tiles-unseen.ensures.value;
        are_found = subst (λ (o : FoundByTurn). AreFound hand c.args.turns o) (sym w.by_turn-is) (sym counted ∙ w.if-are_counted.false);
        are_parts = subst (λ (o : FoundByTurn). AreParts c.args.turns o) (sym w.by_turn-is) (search);
      }
    ]
