-- What a message comes to, as numbers.
use Rattle.std.specs.Prelude.{ℕ, ◌+◌}
use Rattle.desk_hall.specs.declared.decision.Decision.{Decision}
use Rattle.desk_hall.specs.declared.decision.Decision.TheVariants.{Taken, Again, Another, Early, Refused, Gone, Withdrawn, GoneAlready, NotLast, NoDeal}
use Rattle.desk_hall.specs.declared.judged.Judged.{Judged}
use Rattle.desk_hall_games.specs.declared.position.GamePosition.{GamePosition}
use Rattle.desk_hall_games.specs.declared.row.JudgedRow.{JudgedRow}

abbrev pub verdict_of : Decision GamePosition → ℕ
verdict_of (Taken position) = 1
verdict_of (Again position) = 2
verdict_of (Another first other) = 3
verdict_of Early = 4
verdict_of Refused = 5
verdict_of Gone = 6
verdict_of Withdrawn = 7
verdict_of GoneAlready = 8
verdict_of NotLast = 9
verdict_of NoDeal = 10

abbrev pub row_of_nothing : JudgedRow
row_of_nothing = record { next = 0; place = 0; verdict = 0; nothing = 0 }

-- of a message to a book whose deals begin at a place of its text
abbrev pub judged_row : Judged GamePosition → ℕ → JudgedRow
judged_row judged deals_at = record { next = judged.next; place = deals_at + judged.place; verdict = verdict_of judged.decision; nothing = 0 }
