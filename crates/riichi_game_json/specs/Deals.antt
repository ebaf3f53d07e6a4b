-- The answers to outcomes.
use Rattle.std.specs.Prelude.{ℕ, List, [], ◌++◌, codes, decimal, not, ◌&&◌, if◌then◌else◌}
use Rattle.riichi_table.specs.declared.player.Player.{Player}
use Rattle.riichi_table.specs.declared.rules.TableRules.{TableRules}
use Rattle.riichi_table.specs.declared.state.GameState.{GameState}
use Rattle.riichi_table.specs.declared.outcome.Outcome.{Outcome}
use Rattle.riichi_table.specs.declared.outcome.Outcome.TheVariants as outcomes
use Rattle.riichi_settle.specs.Settled.{moves_of}
use Rattle.riichi_places.specs.Places.{seat_number}
use Rattle.riichi_game.specs.declared.game.Progress.{Progress}
use Rattle.riichi_game_text.specs.Answers.{point_changes}
use Rattle.riichi_game_reasons.specs.EndReasons.{end_reason}
use Rattle.riichi_game_reasons.specs.declared.ends.EndReason.{EndReason}
use Rattle.riichi_game_reasons.specs.declared.ends.EndReason.TheVariants.{Said, Bust, Enough, Stopped, Played}
use Rattle.riichi_game_json.specs.MoveValues.{moves_json}
use Rattle.riichi_game_json.specs.States.{table_members, four_points}

-- the word that a line of the outcome begins with
abbrev pub outcome_word : Outcome → List ℕ
outcome_word (outcomes.Ron from wins riichi) = codes "ron"
outcome_word (outcomes.Tsumo winner win riichi) = codes "tsumo"
outcome_word (outcomes.Draw ready nagashi riichi) = codes "draw"
outcome_word (outcomes.Abort riichi) = codes "abort"
outcome_word (outcomes.Chombo player) = codes "chombo"
outcome_word (outcomes.Penalty player points) = codes "penalty"
outcome_word (outcomes.Stands state) = codes "stands"
outcome_word outcomes.End = codes "end"

-- why a game is over
abbrev pub end_word : EndReason → List ℕ
end_word Said = codes "end"
end_word Bust = codes "bust"
end_word Enough = codes "enough"
end_word Stopped = codes "stopped"
end_word Played = codes "played"

-- the same, where the outcome ended the game
abbrev pub over_member : TableRules → Progress → Progress → Outcome → List ℕ
over_member rules before after outcome =
    if after.is_over && not before.is_over
    then codes ",\"over\":\"" ++ end_word (end_reason rules before.state after.state outcome) ++ codes "\"" else []

-- what sort of deal it is, with the comma behind it
abbrev pub head_members : Outcome → List ℕ
head_members outcome = codes "\"answer\":\"deal\",\"outcome\":\"" ++ outcome_word outcome ++ codes "\","

abbrev pub moves_member : TableRules → GameState → Outcome → List ℕ
moves_member rules state outcome = codes ",\"moves\":[" ++ moves_json state.counters outcome (moves_of state rules outcome) ++ codes "]"

-- The state before a deal, what each player's points change, the points after it, what is moved, and why the game is over.
unfoldable pub deal_members : TableRules → Progress → Progress → Outcome → List ℕ
deal_members rules before after outcome =
    head_members outcome ++ table_members before.state
    ++ four_points (codes ",\"changes\":") (point_changes before.state.points after.state.points)
    ++ four_points (codes ",\"points\":") after.state.points
    ++ moves_member rules before.state outcome ++ over_member rules before after outcome ++ codes "}"

abbrev pub penalty_members : Player → ℕ → List ℕ
penalty_members player points =
    (codes "\"answer\":\"penalty\",\"player\":" ++ decimal (seat_number player)) ++ (codes ",\"points\":" ++ decimal points) ++ codes "}"

abbrev pub ended_members : List ℕ
ended_members = codes "\"answer\":\"end\"}"

-- The answer to an outcome, by how far the game had come before it and has come after it.
abbrev pub outcome_members : TableRules → Progress → Progress → Outcome → List ℕ
outcome_members rules before after (outcomes.Penalty player points) = penalty_members player points
outcome_members rules before after outcomes.End = ended_members
outcome_members rules before after other = deal_members rules before after other
