use Rattle.std.proofs.Common.{arith, sym, ◌∙◌, ◌≡◌, ◌≤◌, ◌+◌, ◌-◌}
use Rattle.riichi_tiles.specs.Tiles.{IsCounts}
use Rattle.riichi_tiles.proofs.Suits.{kinds_end}
use Rattle.riichi_split.proofs.AllSplits.{HasPairsAmong, among_suit, the_splits}
use Rattle.riichi_split.proofs.splits.Splits.new.Goals as goal
use Rattle.riichi_split.proofs.splits.Splits.new.Goals.{in-Some, in-None}

pub returns : goal.returns
returns c =
    let first = c.match-suit_of_pair.first.0 in
    let kinds = c.match-suit_of_pair.first.1 in
    let four : 4 - c.args.melds + c.args.melds ≡ 4 = omega arith in
    let counts : IsCounts c.as_array-tiles.result.now = rw c.as_array-tiles.ensures.value c.as_array-tiles.ensures.counts in
    let among : (first + kinds ≤ 34) × HasPairsAmong c.as_array-tiles.result.now first kinds = elim c.match-suit_of_pair.branch [
      | in-Some w ↦ rw (w.first-is, w.first.ensures, w.kinds.ensures.value) (
        kinds_end w.in-Some.suit,
        among_suit c.as_array-tiles.result.now w.in-Some.suit (λ melds sets pair split. sym w.in-Some.is ∙ c.suit_of_pair.ensures melds sets pair split),
      )
      | in-None w ↦ rw w.first-is (omega arith, λ melds sets pair split. absurd (let none = sym w.in-None.is ∙ c.suit_of_pair.ensures melds sets pair split in cc))
    ] in
    rw (c.choices_of.ensures.value, ← c.as_array-tiles.ensures.value) (the_splits c.as_array-tiles.result.now (4 - c.args.melds) c.args.melds c.at.result first kinds counts four among.0 among.1)
