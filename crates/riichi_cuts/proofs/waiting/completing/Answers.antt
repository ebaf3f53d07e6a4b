use Rattle.std.proofs.Common.{◌≡◌, ◌≤◌, rules, arith}
use Rattle.riichi_tiles.specs.Suits.{of_suit}
use Rattle.riichi_tiles.specs.declared.suit.Suit.{Suit}
use Rattle.riichi_tiles.proofs.Suits.{le_over}
use Rattle.riichi_cuts.proofs.Completing.{EachBeside, kinds-iff}
use Rattle.riichi_cuts.proofs.waiting.completing.Goals as goal

pub total-total-requires : goal.total-total-requires
total-total-requires c =
    let few : (suit : Suit) → of_suit c.of-pairs.result suit ≤ 255 = λ suit. (let post = c.of-pairs.ensures suit in search rules) in
    omega (arith, le_over (of_suit c.of-pairs.result) (λ suit. 255) few)

pub returns : goal.returns
returns c = λ tiles cuts kind.
    let told : (suit : Suit) → of_suit c.of-pairs.result suit ≡ (of_suit c.args.cuts.now suit).pairs = λ suit. (let post = c.of-pairs.ensures suit in search rules) in
    let beside : EachBeside c.args.cuts.now c.of-pairs.result c.of.result = λ suit. (let post = c.of.ensures suit in search rules) in
    kinds-iff tiles c.args.cuts.now c.of-pairs.result c.of.result c.kinds_of.result kind (record { cut = cuts; told = told }) beside c.kinds_of.ensures.few c.kinds_of.ensures.kinds
