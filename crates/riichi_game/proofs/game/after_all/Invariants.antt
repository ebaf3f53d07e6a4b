use Rattle.std.proofs.Common.{◌≡◌, drop}
use Rattle.riichi_game.specs.Games as games
use Rattle.riichi_game.proofs.game.after_all.Given as goal

abbrev pub invariant-loop-outcome : goal.invariant-loop-outcome
invariant-loop-outcome l =
    games.after_all l.reached l.rules (drop l.outcome-index l.outcomes) ≡ games.after_all l.fn.progress l.rules l.outcomes
