-- How far a game of four has come, as a hall asks for it.
use Rattle.std.specs.Prelude.{◌≡◌, ℕ, List, Bool, true, false, Option, None, Some, Result, Ok, Err}
use Rattle.std.proofs.Common.{refl}
use Rattle.riichi_game.specs.Games.{after_one}
use Rattle.riichi_game_text.specs.Entries.{outcome_of_entry}
use Rattle.riichi_game_text.specs.GameLines.{GameSaid, said_by}
use Rattle.riichi_game_text.specs.Names.{names_in}
use Rattle.riichi_game_text.specs.declared.fault.GameFault.{GameFault}
use Rattle.riichi_table.specs.declared.outcome.Outcome.{Outcome}
use Rattle.riichi_table.specs.contracts.outcome.OutcomeEq.TheImpl.Laws.{laws-law as equiv}
use Rattle.riichi_table.specs.contracts.outcome.OutcomePartialEq.TheImpl.{ghosts as outcomes}
use Rattle.desk_hall_games.specs.declared.position.GamePosition.{GamePosition}

abbrev pub game_in : GamePosition → GameSaid
game_in position = said_by position.game

-- what the game reads of a line there
abbrev pub entry_read : GamePosition → List ℕ → Result Outcome GameFault
entry_read position line = outcome_of_entry (names_in position.game.names) position.after position.game.rules line

abbrev pub behind_entry : GamePosition → Result Outcome GameFault → Option GamePosition
behind_entry position (Err fault) = None
behind_entry position (Ok outcome) = Some (record {
  game = position.game;
  before = position.after;
  outcome = Some outcome;
  after = after_one position.after position.game.rules outcome;
})

-- how far a line brings the game, where the game accepts it
abbrev pub reads_entry : GamePosition → List ℕ → Option GamePosition
reads_entry position line = behind_entry position (entry_read position line)

abbrev pub is_same_outcome : Option Outcome → Option Outcome → Bool
is_same_outcome None None = true
is_same_outcome (Some one) (Some other) = outcomes.eq one other
is_same_outcome one other = false

abbrev pub same_outcome : GamePosition → GamePosition → Bool
same_outcome one other = is_same_outcome one.outcome other.outcome

-- an outcome is the same as itself
pub same_itself : (outcome : Option Outcome) → is_same_outcome outcome outcome ≡ true
same_itself None = refl
same_itself (Some outcome) = equiv.refl outcome
