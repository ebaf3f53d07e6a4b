use Rattle.std.proofs.Common.{◌∙◌, ◌≤◌, length, ap, arith}
use Rattle.riichi_deeper.proofs.DrawnLemmas.{list_of_fourteen}
use Rattle.riichi_chances.specs.Draws.{unseen_of}
use Rattle.riichi_chances.specs.Graph.{most_hands_in}
use Rattle.riichi_chances.proofs.ReachableLemmas.{fourteen_too_many, on_err, thirteen_too_many}
use Rattle.riichi_worth.specs.Worths.{best_worths, worth_of}
use Rattle.desk_study.proofs.FindingLemmas.{fourteen_by, not_thirteen, thirteen_by}
use Rattle.desk_study.proofs.FoundLemmas.{counted_few}
use Rattle.desk_study.proofs.WorthLemmas.{best_few, best_rests, worth_rest}
use Rattle.desk_study.proofs.found_worths.count.Goals as goal

pub hand_worth-requires-clause-thirteen : goal.hand_worth-requires-clause-thirteen
hand_worth-requires-clause-thirteen g c = thirteen_by c.args.hand.now c.tiles-shape.ensures.shape c.args.answer.now c.requires.answer c.in-Thirteen.field-0 c.in-Thirteen.is

pub hand_worth-requires-clause-drawn : goal.hand_worth-requires-clause-drawn
hand_worth-requires-clause-drawn g c = omega (arith, c.count-draws.ensures.value, counted_few c.args.hand.now c.args.turns c.requires.counted)

pub discard_worths-requires-clause-fourteen : goal.discard_worths-requires-clause-fourteen
discard_worths-requires-clause-fourteen g c = fourteen_by c.args.hand.now c.tiles-shape.ensures.shape c.args.answer.now c.requires.answer c.in-Fourteen.discards c.in-Fourteen.is

pub discard_worths-requires-clause-drawn : goal.discard_worths-requires-clause-drawn
discard_worths-requires-clause-drawn g c = omega (arith, c.count-draws.ensures.value, counted_few c.args.hand.now c.args.turns c.requires.counted)

pub returns-in_ok-worth-in-Thirteen-clause-found : goal.returns-in_ok-worth-in-Thirteen-clause-found
returns-in_ok-worth-in-Thirteen-clause-found g c = record {
  counted = c.requires.counted;
  thirteen = thirteen_by c.args.hand.now c.tiles-shape.ensures.shape c.args.answer.now c.requires.answer c.in-Thirteen.field-0 c.in-Thirteen.is;
  worth_is = c.in_ok-worth-in-Thirteen.ensures.worth ∙ ap (worth_of c.args.stakes.now c.args.hand.now) c.count-draws.ensures.value;
}

pub returns-in_ok-worth-in-Thirteen-clause-rests : goal.returns-in_ok-worth-in-Thirteen-clause-rests
returns-in_ok-worth-in-Thirteen-clause-rests g c =
    let few : c.count-draws.result ≤ unseen_of c.args.hand.now = omega (arith, c.count-draws.ensures.value, counted_few c.args.hand.now c.args.turns c.requires.counted) in
    worth_rest c.args.stakes.now c.args.hand.now c.count-draws.result c.in_ok-worth-in-Thirteen.worth few c.in_ok-worth-in-Thirteen.ensures.worth

pub returns-in_ok-each-in-Fourteen-clause-found : goal.returns-in_ok-each-in-Fourteen-clause-found
returns-in_ok-each-in-Fourteen-clause-found g c = record {
  counted = c.requires.counted;
  fourteen = not_thirteen c.args.hand.now c.tiles-shape.ensures.shape c.args.answer.now c.requires.answer c.in-Fourteen.discards c.in-Fourteen.is;
  worths_are = c.in_ok-each-in-Fourteen.ensures.worths ∙ ap (best_worths c.args.stakes.now c.args.hand.now) c.count-draws.ensures.value;
}

pub returns-in_ok-each-in-Fourteen-clause-rests : goal.returns-in_ok-each-in-Fourteen-clause-rests
returns-in_ok-each-in-Fourteen-clause-rests g c =
    let hand = c.args.hand.now in
    let fourteen = fourteen_by hand c.tiles-shape.ensures.shape c.args.answer.now c.requires.answer c.in-Fourteen.discards c.in-Fourteen.is in
    let few : c.count-draws.result ≤ unseen_of hand = omega (arith, c.count-draws.ensures.value, counted_few hand c.args.turns c.requires.counted) in
    best_rests c.args.stakes.now hand c.count-draws.result c.in_ok-each-in-Fourteen.each.items (c.unseen_tiles-unseen.ensures.fourteen fourteen) few c.in_ok-each-in-Fourteen.ensures.worths

pub returns-in_ok-each-in-Fourteen-clause-few : goal.returns-in_ok-each-in-Fourteen-clause-few
returns-in_ok-each-in-Fourteen-clause-few g c =
    let hand = c.args.hand.now in
    let answer = c.args.answer.now in
    let discards = c.in-Fourteen.discards in
    let fourteen = fourteen_by hand c.tiles-shape.ensures.shape answer c.requires.answer discards c.in-Fourteen.is in
    omega (
      arith,
      best_few c.args.stakes.now hand c.count-draws.result discards c.in_ok-each-in-Fourteen.each.items (list_of_fourteen hand answer discards c.requires.answer fourteen c.in-Fourteen.is) c.in_ok-each-in-Fourteen.ensures.worths,
      c.len-few.ensures.value,
      c.len-few.ensures.most,
    )

pub returns-in_err-worth-in-Thirteen-clause-many : goal.returns-in_err-worth-in-Thirteen-clause-many
returns-in_err-worth-in-Thirteen-clause-many g c =
    let hand = c.args.hand.now in
    on_err c.from_residual.result (thirteen_too_many hand (most_hands_in (length c.args.places.now) (length c.args.rows.now)) (thirteen_by hand c.tiles-shape.ensures.shape c.args.answer.now c.requires.answer c.in-Thirteen.field-0 c.in-Thirteen.is) c.in_err-worth-in-Thirteen.ensures.many)

pub returns-in_err-each-in-Fourteen-clause-many : goal.returns-in_err-each-in-Fourteen-clause-many
returns-in_err-each-in-Fourteen-clause-many g c =
    let hand = c.args.hand.now in
    on_err c.from_residual-in_err-each-in-Fourteen.result (fourteen_too_many hand (most_hands_in (length c.args.places.now) (length c.args.rows.now)) (not_thirteen hand c.tiles-shape.ensures.shape c.args.answer.now c.requires.answer c.in-Fourteen.discards c.in-Fourteen.is) c.in_err-each-in-Fourteen.ensures.many)
