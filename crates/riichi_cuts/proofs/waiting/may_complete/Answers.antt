use Rattle.std.proofs.Common.{◌≡◌, ◌%◌, ◌≤◌, rules, arith}
use Rattle.std.proofs.lemmas.Bool.Decides.{nat_tests}
use Rattle.std.specs.List.{sum}
use Rattle.riichi_tiles.specs.Suits.{of_suit}
use Rattle.riichi_tiles.specs.declared.suit.Suit.{Suit}
use Rattle.riichi_tiles.proofs.Suits.{le_over}
use Rattle.riichi_cuts.proofs.Remainders.{few_leaving}
use Rattle.riichi_cuts.proofs.waiting.may_complete.Goals as goal

pub total-requires : goal.total-requires
total-requires c =
    let most : (suit : Suit) → of_suit c.of-leaving.result suit ≤ 1 = λ suit. (let post = c.of-leaving.ensures suit in search rules) in
    omega (arith, le_over (of_suit c.of-leaving.result) (λ suit. 1) most)

pub returns : goal.returns
returns c = λ kind completes.
    let most : (suit : Suit) → of_suit c.of-leaving.result suit ≤ 1 = λ suit. (let post = c.of-leaving.ensures suit in search rules) in
    let none : (suit : Suit) → sum (of_suit c.args.suits.now suit).held % 3 ≡ 0 → of_suit c.of-leaving.result suit ≡ 0 = λ suit threes. (let post = c.of-leaving.ensures suit in grind (arith, nat_tests)) in
    let few = few_leaving c.args.suits.now c.of-leaving.result kind completes most none in
    grind (arith, nat_tests, few, c.total.ensures)
