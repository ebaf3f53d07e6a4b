use Rattle.std.proofs.Common.{◌≡◌, ◌*◌, min, ℕ, rules, sym, subst, arith}
use Rattle.riichi_tiles.specs.declared.by_suit.BySuit.{BySuit}
use Rattle.riichi_split.specs.SuitTiles.{OneSuit, Completes, MarksBelow}
use Rattle.riichi_split.proofs.KindMarks.{marked-all, marked_before, marked_with}
use Rattle.riichi_split.proofs.SplitSuits.{completes-iff}
use Rattle.riichi_split.proofs.standard.standard_waits.Goals as goal

pub mark-requires-clause-below : goal.mark-requires-clause-below
mark-requires-clause-below c = marked_before (Completes c.of-suits.result.tiles) c.loop-suit.suit-index c.loop-suit.marks (omega (arith, c.loop-suit-test.true)) c.loop-suit.invariant

pub loop-suit-preserved : goal.loop-suit-preserved
loop-suit-preserved c = marked_with (Completes c.of-suits.result.tiles) c.loop-suit.suit-index c.mark.new.marks (omega (arith, c.loop-suit-test.true)) c.mark.ensures

pub returns : goal.returns
returns c = λ kind.
    let T : BySuit OneSuit → Type 0 = λ suits. Completes suits kind in
    let M : ℕ → Type 0 = λ n. MarksBelow (Completes c.of-suits.result.tiles) n c.loop-suit.marks in
    let all : min (9 * c.loop-suit.suit-index) 34 ≡ 34 = omega (arith, c.loop-suit-test.false) in
    let m = marked-all (Completes c.of-suits.result.tiles) c.loop-suit.marks (λ k w. w.of_a_kind) (subst M all c.loop-suit.invariant) kind in
    let i = completes-iff c.args.counts.now c.args.melds kind (search rules) c.requires in
    (λ t. i.0 (subst T c.of-suits.ensures.tiles (m.0 t)), λ h. m.1 (subst T (sym c.of-suits.ensures.tiles) (i.1 h)))
