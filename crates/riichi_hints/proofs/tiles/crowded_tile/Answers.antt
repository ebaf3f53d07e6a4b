use Rattle.std.proofs.Common.{ℕ, ◌≤◌, List, [], ◌∷◌, subst, sym, arith}
use Rattle.std.proofs.lemmas.List.{get_or_default}
use Rattle.riichi_hints.specs.Crowd.{copies_on_line}
use Rattle.riichi_hints.proofs.tiles.crowded_tile.Goals as goal

suits : List ℕ
suits = 109 ∷ 112 ∷ 115 ∷ 122 ∷ []

pub returns-clause-none : goal.returns-clause-none
unfolding suits
returns-clause-none c = λ k d short digit low high.
    subst (λ (suit : ℕ). copies_on_line digit suit c.args.line.now ≤ 4) (sym (get_or_default suits k d 0 short))
    (c.loop-suit.invariant k (omega (arith, c.loop-suit-test.false)) digit low high)
