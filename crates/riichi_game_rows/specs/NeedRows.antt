-- What a player asks for, and what the player needs, as rows.
use Rattle.std.specs.Prelude.{◌&&◌, nat_lt, nat_le, Bool, [], ◌∷◌, Option, Some, None, if◌then◌else◌}
use Rattle.riichi_table.specs.declared.rules.TableRules.{TableRules}
use Rattle.riichi_table.specs.declared.state.GameState.{GameState}
use Rattle.riichi_need.specs.declared.need.Need.{Need}
use Rattle.riichi_need.specs.declared.need.Needs.{Needs}
use Rattle.riichi_need.specs.declared.need.Row.{Row}
use Rattle.riichi_need.specs.declared.question.Question.{Question}
use Rattle.riichi_win_arrays.specs.ScoreRows.{paid_by}
use Rattle.riichi_game_rows.specs.Fours.{player_numbered, flags_by_player}
use Rattle.riichi_game_rows.specs.declared.need_row.NeedRow.{NeedRow}
use Rattle.riichi_game_rows.specs.declared.need_row.NeedsRow.{NeedsRow}
use Rattle.riichi_game_rows.specs.declared.need_row.PaidRow.{PaidRow}
use Rattle.riichi_game_rows.specs.declared.need_row.QuestionRow.{QuestionRow}

abbrev pub is_question : QuestionRow → Bool
is_question row = nat_lt row.player 4 && nat_le 1 row.place && nat_le row.place 4

abbrev pub row_question : TableRules → GameState → QuestionRow → Question
row_question rules state row = record {
  rules = rules;
  state = state;
  bets = flags_by_player row.riichi;
  player = player_numbered row.player;
  place = row.place;
}

-- what is asked, in this state
abbrev pub question_in : TableRules → GameState → QuestionRow → Option Question
question_in rules state row = if is_question row then Some (row_question rules state row) else None

-- all is 0 where no row of the table of payments is enough
abbrev pub paid_row : Option Row → PaidRow
paid_row None = record { base = 0; discarder = 0; dealer = 0; other = 0 }
paid_row (Some row) = record {
  base = row.base;
  discarder = (paid_by row.payment).discarder;
  dealer = (paid_by row.payment).dealer;
  other = (paid_by row.payment).other;
}

abbrev pub need_row : Need → NeedRow
need_row need = record { strictly = paid_row need.strictly; with_tie = paid_row need.with_tie }

-- all is 0 for the own discard
abbrev pub ron_row : Option Need → NeedRow
ron_row None = record { strictly = paid_row None; with_tie = paid_row None }
ron_row (Some need) = need_row need

-- off each player, and by self-draw
abbrev pub needs_row : Needs → NeedsRow
needs_row needs = record {
  off = ron_row needs.by_ron.first ∷ ron_row needs.by_ron.second ∷ ron_row needs.by_ron.third ∷ ron_row needs.by_ron.fourth ∷ [];
  by_tsumo = need_row needs.by_tsumo;
}
