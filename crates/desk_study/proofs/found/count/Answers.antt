use Rattle.std.proofs.Common.{◌≤◌, length, subst, arith}
use Rattle.riichi_chances.proofs.OddsLemmas.{fourteen_odds, thirteen_odds}
use Rattle.riichi_chances.specs.Draws.{unseen_of}
use Rattle.riichi_chances.proofs.ReachableLemmas.{fourteen_too_many, on_err, thirteen_too_many}
use Rattle.riichi_chances.specs.Graph.{most_hands_in}
use Rattle.desk_study.proofs.FindingLemmas.{fourteen_by, not_thirteen, thirteen_by}
use Rattle.desk_study.proofs.FoundLemmas.{counted_few, discards_parts, hand_parts}
use Rattle.desk_study.specs.Found.{AreAllParts, ArePartsOfEach}
use Rattle.desk_study.proofs.found.count.Goals as goal

pub chances_of-requires-clause-thirteen : goal.chances_of-requires-clause-thirteen
chances_of-requires-clause-thirteen g c = thirteen_by c.args.hand.now c.tiles-shape.ensures.shape c.args.answer.now c.requires.answer c.in-Thirteen.field-0 c.in-Thirteen.is

pub discard_chances-requires-clause-fourteen : goal.discard_chances-requires-clause-fourteen
discard_chances-requires-clause-fourteen g c = fourteen_by c.args.hand.now c.tiles-shape.ensures.shape c.args.answer.now c.requires.answer c.in-Fourteen.field-0 c.in-Fourteen.is

pub returns-in_ok-chances-in-Thirteen-clause-found : goal.returns-in_ok-chances-in-Thirteen-clause-found
returns-in_ok-chances-in-Thirteen-clause-found g c =
    let hand = c.args.hand.now in
    let chances = c.in_ok-chances-in-Thirteen in record {
      counted = c.requires.counted;
      thirteen = thirteen_by hand c.tiles-shape.ensures.shape c.args.answer.now c.requires.answer c.in-Thirteen.field-0 c.in-Thirteen.is;
      odds_are = λ count low. thirteen_odds hand c.count-draws.result count chances.chances (omega (arith, c.count-draws.ensures.value, low)) chances.ensures.chances chances.ensures.at_most;
    }

pub returns-in_ok-chances-in-Thirteen-clause-parts : goal.returns-in_ok-chances-in-Thirteen-clause-parts
returns-in_ok-chances-in-Thirteen-clause-parts g c =
    let hand = c.args.hand.now in
    let chances = c.in_ok-chances-in-Thirteen in
    let few : c.count-draws.result ≤ unseen_of hand = omega (arith, c.count-draws.ensures.value, counted_few hand c.args.turns c.requires.counted) in
    subst (λ turns. AreAllParts turns chances.chances) c.count-draws.ensures.value (hand_parts hand c.count-draws.result chances.chances chances.ensures.chances chances.ensures.at_most few)

pub returns-in_ok-each-in-Fourteen-clause-found : goal.returns-in_ok-each-in-Fourteen-clause-found
returns-in_ok-each-in-Fourteen-clause-found g c =
    let each = c.in_ok-each-in-Fourteen in record {
      counted = c.requires.counted;
      fourteen = not_thirteen c.args.hand.now c.tiles-shape.ensures.shape c.args.answer.now c.requires.answer c.in-Fourteen.field-0 c.in-Fourteen.is;
      odds_are = λ count low. fourteen_odds c.args.hand.now c.count-draws.result count each.each.items (omega (arith, c.count-draws.ensures.value, low)) each.ensures.each each.ensures.chances each.ensures.at_most;
    }

pub returns-in_ok-each-in-Fourteen-clause-parts : goal.returns-in_ok-each-in-Fourteen-clause-parts
returns-in_ok-each-in-Fourteen-clause-parts g c =
    let hand = c.args.hand.now in
    let each = c.in_ok-each-in-Fourteen in
    let fourteen = c.unseen_tiles-unseen.ensures.fourteen (fourteen_by hand c.tiles-shape.ensures.shape c.args.answer.now c.requires.answer c.in-Fourteen.field-0 c.in-Fourteen.is) in
    let few : c.count-draws.result ≤ unseen_of hand = omega (arith, c.count-draws.ensures.value, counted_few hand c.args.turns c.requires.counted) in
    subst (λ turns. ArePartsOfEach turns each.each.items) c.count-draws.ensures.value (discards_parts hand c.count-draws.result each.each.items fourteen each.ensures.each each.ensures.chances each.ensures.at_most few)

pub returns-in_err-chances-in-Thirteen-clause-many : goal.returns-in_err-chances-in-Thirteen-clause-many
returns-in_err-chances-in-Thirteen-clause-many g c =
    let hand = c.args.hand.now in
    on_err c.from_residual.result (thirteen_too_many hand (most_hands_in (length c.args.places.now) (length c.args.rows.now)) (thirteen_by hand c.tiles-shape.ensures.shape c.args.answer.now c.requires.answer c.in-Thirteen.field-0 c.in-Thirteen.is) c.in_err-chances-in-Thirteen.ensures.many)

pub returns-in_err-each-in-Fourteen-clause-many : goal.returns-in_err-each-in-Fourteen-clause-many
returns-in_err-each-in-Fourteen-clause-many g c =
    let hand = c.args.hand.now in
    on_err c.from_residual-in_err-each-in-Fourteen.result (fourteen_too_many hand (most_hands_in (length c.args.places.now) (length c.args.rows.now)) (not_thirteen hand c.tiles-shape.ensures.shape c.args.answer.now c.requires.answer c.in-Fourteen.field-0 c.in-Fourteen.is) c.in_err-each-in-Fourteen.ensures.many)
