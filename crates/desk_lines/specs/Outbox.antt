-- Answer lines that were not written yet.
use Rattle.std.specs.Prelude.{◌+◌, ◌≤◌, length}
use Rattle.desk_lines.specs.declared.outbox.Outbox.{Outbox}
use Rattle.desk_lines.specs.declared.outbox.TheConstants.{ROOM, LONGEST_ANSWER, LONGEST_FRONT, MOST_TEXT_LINE}

-- the text of an answer fits, without what explains it
abbrev pub HasRoomForText : Outbox → Type 0
HasRoomForText outbox = length outbox.bytes.items + MOST_TEXT_LINE ≤ ROOM

-- any answer fits: with its reasons, and with every reading of a hand
abbrev pub HasRoom : Outbox → Type 0
HasRoom outbox = length outbox.bytes.items + LONGEST_ANSWER ≤ ROOM

-- the same behind the number of a line
abbrev pub HasRoomForLine : Outbox → Type 0
HasRoomForLine outbox = length outbox.bytes.items + (LONGEST_ANSWER + LONGEST_FRONT) ≤ ROOM
