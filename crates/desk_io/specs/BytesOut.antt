-- A writer over memory.
use Rattle.std.specs.Prelude.{ℕ, ◌-◌, List, Option, length, min}
use Rattle.desk_io.specs.declared.bytes_out.BytesOut.{BytesOut}
use Rattle.desk_io.specs.Calls.{call_after}

module _ {N : ℕ} where
  abbrev pub bytes_kept : BytesOut N → List ℕ
  bytes_kept s = s.taken.items

  abbrev pub write_calls : BytesOut N → ℕ
  write_calls s = s.journal.calls

  abbrev pub write_failures : BytesOut N → ℕ
  write_failures s = s.journal.failures

  -- the number of the write that fails, where it is still to come
  abbrev pub failing_write : BytesOut N → Option ℕ
  failing_write s = call_after s.journal.calls s.countdown.until

  -- the most bytes of one write
  abbrev pub most_written : BytesOut N → ℕ
  most_written s = s.most

  -- how many of so many bytes it can take in one write
  abbrev pub room_for : BytesOut N → ℕ → ℕ
  room_for s count = min (min count s.most) (N - length s.taken.items)
