use Rattle.std.proofs.Common.{◌≡◌, ℕ, ◌≤◌, List, ◌++◌, length, drop}
use Rattle.desk_lines.specs.Telling.{text_of}
use Rattle.desk_games.proofs.FillLemmas.{AnsweredUpTo}
use Rattle.desk_games.proofs.filling.fill_lines.Given as goal

-- the text up to the rest is answered, and the answers fill the front of the room
abbrev pub invariant-loop-line : goal.invariant-loop-line
invariant-loop-line l =
    (answers : List (List ℕ)) × record {
      so_far : AnsweredUpTo l.fn.games l.games l.text l.rest answers;
      filled : l.filled ≡ length (text_of answers);
      within : l.filled ≤ length l.fn.room;
      room : l.room ≡ text_of answers ++ drop l.filled l.fn.room;
    }

abbrev pub decreases-loop-line : goal.decreases-loop-line
decreases-loop-line l = length l.rest
