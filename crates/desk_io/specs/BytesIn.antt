-- A reader over memory.
use Rattle.std.specs.Prelude.{ℕ, List, Option}
use Rattle.desk_io.specs.declared.bytes_in.BytesIn.{BytesIn}
use Rattle.desk_io.specs.Calls.{call_after}

abbrev pub bytes_given : BytesIn → List ℕ
bytes_given s = s.journal.bytes

abbrev pub bytes_left : BytesIn → List ℕ
bytes_left s = s.rest.now

abbrev pub read_calls : BytesIn → ℕ
read_calls s = s.journal.calls

abbrev pub read_failures : BytesIn → ℕ
read_failures s = s.journal.failures

abbrev pub read_ends : BytesIn → ℕ
read_ends s = s.journal.ends

-- the number of the read that fails, where it is still to come
abbrev pub failing_read : BytesIn → Option ℕ
failing_read s = call_after s.journal.calls s.countdown.until

-- the most bytes of one read
abbrev pub most_read : BytesIn → ℕ
most_read s = s.most
