-- An outbox whose last line stands in the room of texts, and isn't put yet.
use Rattle.std.specs.Prelude.{ℕ, ◌+◌, ◌≤◌, List, ◌++◌, length}
use Rattle.desk_lines.specs.declared.outbox.Outbox.{Outbox}
use Rattle.desk_games.specs.declared.below.TheConstants.{OUTBOX_ROOM, MOST_ANSWER_LINE}

-- what is put so far, with what stands of the last line
abbrev pub pending : Outbox → List ℕ
pending outbox = outbox.bytes.items ++ outbox.text.bytes

-- so many bytes more fit, and one answer behind them
abbrev pub HasRoomBelow : ℕ → Outbox → Type 0
HasRoomBelow bytes outbox = length (pending outbox) + bytes + MOST_ANSWER_LINE ≤ OUTBOX_ROOM
