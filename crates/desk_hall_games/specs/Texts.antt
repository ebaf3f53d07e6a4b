-- The texts of answers to messages.
use Rattle.std.specs.Prelude.{ℕ, List, [], ◌++◌, codes, decimal, Option, None, Some, Result, Ok, Err}
use Rattle.riichi_table.specs.Players.{of_player}
use Rattle.riichi_table.specs.declared.outcome.Outcome.{Outcome}
use Rattle.riichi_table.specs.declared.outcome.Outcome.TheVariants.{Penalty, End}
use Rattle.riichi_game_text.specs.Answers.{deal_text, penalty_text}
use Rattle.riichi_game_text.specs.FaultTexts.{refused_text}
use Rattle.riichi_game_text.specs.Names.{names_in}
use Rattle.riichi_game_text.specs.declared.fault.GameFault.{GameFault}
use Rattle.riichi_game_text.specs.declared.fault.GameFault.TheVariants.{G1}
use Rattle.desk_hall.specs.Decided.{Request, HandsIn, Withdraws}
use Rattle.desk_hall.specs.declared.decision.Decision.{Decision}
use Rattle.desk_hall.specs.declared.decision.Decision.TheVariants.{Taken, Again, Another, Early, Refused, Gone, Withdrawn, GoneAlready, NotLast, NoDeal}
use Rattle.desk_hall.specs.declared.judged.Judged.{Judged}
use Rattle.desk_hall_games.specs.Positions.{entry_read}
use Rattle.desk_hall_games.specs.declared.position.GamePosition.{GamePosition}

abbrev pub answer_by_outcome : GamePosition → Option Outcome → List ℕ
answer_by_outcome position None = []
answer_by_outcome position (Some (Penalty player points)) = penalty_text (of_player (names_in position.game.names) player) points
answer_by_outcome position (Some End) = []
answer_by_outcome position (Some other) = deal_text position.before.state position.after.state.points

-- as a text of games is answered at that line; `end` has no answer
unfoldable pub position_text : GamePosition → List ℕ
position_text position = answer_by_outcome position position.outcome

-- why the game refuses a line; one that it wouldn't is too long for a book
abbrev pub fault_or_too_long : Result Outcome GameFault → GameFault
fault_or_too_long (Ok outcome) = G1
fault_or_too_long (Err fault) = fault

abbrev pub fault_asked : GamePosition → Request → GameFault
fault_asked front Withdraws = G1
fault_asked front (HandsIn line) = fault_or_too_long (entry_read front line)

abbrev pub decision_text : ℕ → Request → Judged GamePosition → Decision GamePosition → List ℕ
decision_text number request judged (Taken position) = position_text position
decision_text number request judged (Again position) = position_text position
decision_text number request judged (Another first other) = position_text first ++ codes "\n" ++ position_text other
decision_text number request judged Early = codes "next " ++ decimal judged.next
decision_text number request judged Refused = refused_text (fault_asked judged.front request)
decision_text number request judged Gone = codes "withdrawn " ++ decimal number
decision_text number request judged Withdrawn = codes "withdrawn " ++ decimal number
decision_text number request judged GoneAlready = codes "withdrawn " ++ decimal number
decision_text number request judged NotLast = codes "withdraw " ++ decimal judged.last_live
decision_text number request judged NoDeal = codes "next " ++ decimal judged.next

-- the answer to a message that asked this at a number
abbrev pub judged_text : ℕ → Request → Judged GamePosition → List ℕ
judged_text number request judged = decision_text number request judged judged.decision
