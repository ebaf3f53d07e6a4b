-- What an outcome moves and changes, as rows.
use Rattle.std.specs.Prelude.{◌≡◌, ℕ, ◌*◌, List, ◌++◌, map, take, drop, length}
use Rattle.riichi_places.specs.Places.{seat_number}
use Rattle.riichi_settle.specs.Settled.{changes_by}
use Rattle.riichi_settle.specs.declared.moved.Move.{Move}
use Rattle.riichi_settle.specs.declared.moved.Move.TheVariants.{Points, Bet, Sticks}
use Rattle.riichi_settle.specs.declared.moved.Reason.{Reason}
use Rattle.riichi_settle.specs.declared.moved.Reason.TheVariants as reason
use Rattle.riichi_settle.specs.declared.moved.Taking.{Taking}
use Rattle.riichi_settle.specs.declared.moved.Taking.TheVariants as taking
use Rattle.riichi_game_rows.specs.Fours.{four_of}
use Rattle.riichi_game_rows.specs.declared.move_row.MoveRow.{MoveRow}
use Rattle.riichi_game_rows.specs.declared.move_row.ChangesRow.{ChangesRow}

-- the table, which has a number behind those of the players
abbrev pub the_table : ℕ
the_table = 4

abbrev pub reason_number : Reason → ℕ
reason_number reason.Ron = 0
reason_number reason.Tsumo = 1
reason_number reason.Liable = 2
reason_number reason.OtherHalf = 3
reason_number reason.Counters = 4
reason_number reason.Ready = 5
reason_number reason.Nagashi = 6
reason_number reason.Chombo = 7

abbrev pub taking_number : Taking → ℕ
taking_number taking.Winner = 9
taking_number taking.OwnBet = 10

-- a stick is 1000 points, which a bet puts on the table and who takes it takes from there
abbrev pub move_row : Move → MoveRow
move_row (Points from to points why) =
    record { points = points; sticks = 0; from = seat_number from; to = seat_number to; why = reason_number why }
move_row (Bet player) = record { points = 1000; sticks = 1; from = seat_number player; to = the_table; why = 8 }
move_row (Sticks to count why) =
    record { points = 1000 * count; sticks = count; from = the_table; to = seat_number to; why = taking_number why }

-- The first places have the rows of the moves, the others what they had.
abbrev pub AreMovesPut : ℕ → List Move → List MoveRow → List MoveRow → Type 0
AreMovesPut rows moves before after = after ≡ map move_row (take rows moves) ++ drop rows before

-- what moves change, where so many sticks lay, and how many moves they are
abbrev pub changes_row : ℕ → List Move → ChangesRow
changes_row sticks moves = record {
  points = four_of (changes_by sticks moves).points;
  sticks = (changes_by sticks moves).sticks;
  moves = length moves;
}
