use Rattle.std.proofs.Common.{◌≡◌, ◌≤◌, Some, ap, sym, ◌∙◌, rules, arith}
use Rattle.riichi_tiles.specs.Kinds.{suit_of}
use Rattle.riichi_tiles.specs.Suits.{of_suit}
use Rattle.riichi_tiles.specs.declared.suit.Suit.{Suit}
use Rattle.riichi_tiles.proofs.Suits.{kinds_end, le_over, same_over}
use Rattle.riichi_split.proofs.Rests.{has-pair, rest, rests-two}
use Rattle.riichi_split.proofs.suit.suit_of_pair.Goals as goal

pub total-requires : goal.total-requires
total-requires c =
    let few : (suit : Suit) → of_suit c.of-rests.result suit ≤ 2 = λ suit. (let post = c.of-rests.ensures suit in search rules) in
    omega (arith, le_over (of_suit c.of-rests.result) (λ suit. 2) few)

pub returns-then-total-ne2 : goal.returns-then-total-ne2
returns-then-total-ne2 c = λ melds sets pair split.
    let is : (suit : Suit) → of_suit c.of-rests.result suit ≡ rest c.args.counts.now suit = λ suit. (let post = c.of-rests.ensures suit in search rules) in
    let two = rests-two c.args.counts.now melds sets pair (search rules) split in
    absurd (omega (arith, two.0, same_over (of_suit c.of-rests.result) (rest c.args.counts.now) is, c.total.ensures, c.if-total-ne2.true))

pub returns-then-get-eq2 : goal.returns-then-get-eq2
returns-then-get-eq2 c = λ melds sets pair split.
    let is : (suit : Suit) → of_suit c.of-rests.result suit ≡ rest c.args.counts.now suit = λ suit. (let post = c.of-rests.ensures suit in search rules) in
    ap Some (has-pair c.args.counts.now melds sets pair _ (search rules) split (sym (is _) ∙ sym c.get.ensures ∙ c.if-get-eq2.true))

pub returns : goal.returns
returns c = λ melds sets pair split.
    let is : (suit : Suit) → of_suit c.of-rests.result suit ≡ rest c.args.counts.now suit = λ suit. (let post = c.of-rests.ensures suit in search rules) in
    let two = rests-two c.args.counts.now melds sets pair (search rules) split in
    absurd (c.loop-suit.invariant (suit_of pair) (omega (arith, kinds_end (suit_of pair), c.loop-suit-test.false)) (is (suit_of pair) ∙ two.1))
