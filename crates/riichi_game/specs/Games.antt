-- A game: how far it has come after a list of outcomes.
use Rattle.std.specs.Prelude.{false, List, [], ◌∷◌, Result, Ok, Err}
use Rattle.riichi_table.specs.Players.{same_for_all}
use Rattle.riichi_table.specs.States.{first_state}
use Rattle.riichi_table.specs.declared.rules.TableRules.{TableRules}
use Rattle.riichi_table.specs.declared.fault.OutcomeFault.{OutcomeFault}
use Rattle.riichi_table.specs.declared.outcome.Outcome.{Outcome}
use Rattle.riichi_game.specs.Faults.{next_of}
use Rattle.riichi_game.specs.declared.game.Progress.{Progress}

-- before the first deal
abbrev pub first_progress : TableRules → Progress
first_progress rules = record { state = first_state rules; is_over = false; penalties = same_for_all 0 }

-- where an outcome is refused the game stands as before
abbrev pub or_as_before : Result Progress OutcomeFault → Progress → Progress
or_as_before (Ok after) before = after
or_as_before (Err fault) before = before

-- how far the game has come after an outcome, which may be refused
abbrev pub after_one : Progress → TableRules → Outcome → Progress
after_one progress rules outcome = or_as_before (next_of progress rules outcome) progress

-- how far the game has come after a list of outcomes
abbrev pub after_all : Progress → TableRules → List Outcome → Progress
after_all progress rules [] = progress
after_all progress rules (outcome ∷ outcomes) = after_all (after_one progress rules outcome) rules outcomes
