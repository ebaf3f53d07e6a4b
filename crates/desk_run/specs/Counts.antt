-- Counting in lists.
use Rattle.std.specs.Prelude.{ℕ, ◌==◌, ◌&&◌, Bool, cond, List, count_by}
use Rattle.desk_core.specs.declared.ticket.Ticket.{Ticket}

-- 1 where the test holds, and else 0
abbrev pub one_if : Bool → ℕ
one_if b = cond b 1 0

abbrev pub same_ticket : Ticket → Ticket → Bool
same_ticket x y = (x.table == y.table) && (x.seq == y.seq)

-- how often the ticket stands in the list
abbrev pub times_listed : Ticket → List Ticket → ℕ
times_listed x ys = count_by (same_ticket x) ys
