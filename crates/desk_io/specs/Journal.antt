-- What a journal of calls has after each kind of call.
use Rattle.std.specs.Prelude.{ℕ, ◌+◌, List, [], ◌++◌, false, true}
use Rattle.desk_io.specs.declared.journal.Journal.{Journal}

-- before the first call
abbrev pub blank : Journal
blank = record { marker = record {}; bytes = []; calls = 0; failures = 0; ends = 0; is_ended = false }

abbrev pub after_move : Journal → List ℕ → Journal
after_move journal bytes = record journal { bytes = journal.bytes ++ bytes; calls = journal.calls + 1; is_ended = false }

abbrev pub after_failure : Journal → Journal
after_failure journal = record journal { calls = journal.calls + 1; failures = journal.failures + 1; is_ended = false }

abbrev pub after_end : Journal → Journal
after_end journal = record journal { calls = journal.calls + 1; ends = journal.ends + 1; is_ended = true }
