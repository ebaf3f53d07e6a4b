-- The tables of the code, which hold lacks and marks: with one more tile of the rank of a bit.
use Rattle.std.specs.Prelude.{ℕ}
use Rattle.riichi_rows.specs.Lanes.{lacks_with}
use Rattle.riichi_rows.specs.Open as table
use Rattle.riichi_rows.specs.declared.added.Added.{Added}
use Rattle.riichi_rows.specs.declared.marked_lanes.MarkedLanes.{MarkedLanes}
use Rattle.riichi_rows.specs.declared.open.Begun.{Begun}
use Rattle.riichi_rows.specs.declared.open.Open.{Open}

abbrev pub seen : ℕ → MarkedLanes → ℕ → ℕ → ℕ
seen bit x = lacks_with bit x.lacks.lacks x.marks

abbrev pub begun_seen : ℕ → Begun → table.Begun
begun_seen bit x = record { zero = seen bit x.zero; one = seen bit x.one; two = seen bit x.two }

abbrev pub open_seen : ℕ → Open → table.Open
open_seen bit x = record { zero = begun_seen bit x.zero; one = begun_seen bit x.one; two = begun_seen bit x.two }

abbrev pub added_seen : ℕ → Added → table.Added
added_seen bit x = record { zero = seen bit x.zero; one = seen bit x.one; two = seen bit x.two; three = seen bit x.three; four = seen bit x.four }
