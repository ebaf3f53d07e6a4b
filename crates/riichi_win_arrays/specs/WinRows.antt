-- The win of a row of bytes.
use Rattle.std.specs.Prelude.{ℕ, ◌+◌, ◌==◌, ◌&&◌, not, nat_le, nat_lt, Bool, List, [], map, count_by, Option, Some, None, is_some, unwrap_or, if◌then◌else◌}
use Rattle.std.specs.List.{list_all}
use Rattle.riichi_arrays.specs.Hands.{are_counts, melds_in}
use Rattle.riichi_hand.specs.declared.win.By.{By}
use Rattle.riichi_hand.specs.declared.win.By.TheVariants.{Ron, Tsumo}
use Rattle.riichi_hand.specs.declared.win.Flags.{Flags}
use Rattle.riichi_hand.specs.Rules.{Rules}
use Rattle.riichi_hand.specs.declared.win.WinParts.{WinParts}
use Rattle.riichi_hand.specs.declared.win.Wind.{Wind}
use Rattle.riichi_hand.specs.declared.win.Wind.TheVariants.{East, South, West, North}
use Rattle.riichi_tiles.specs.Melds.{every_kind}
use Rattle.riichi_win_arrays.specs.declared.win_row.WinRow.{WinRow}

-- how many of some bytes stand for each kind: a byte is one more than its kind
unfoldable pub counts_of_bytes : List ℕ → List ℕ
counts_of_bytes bytes = map (λ kind. count_by (λ byte. byte == kind + 1) bytes) every_kind

-- each byte is 0 or one more than a kind
abbrev pub are_kinds : List ℕ → Bool
are_kinds bytes = list_all (λ byte. nat_le byte 34) bytes

abbrev pub are_indicators : List ℕ → Bool
are_indicators bytes = are_kinds bytes && are_counts (counts_of_bytes bytes)

abbrev pub indicators_in : List ℕ → Option (List ℕ)
indicators_in bytes = if are_indicators bytes then Some (counts_of_bytes bytes) else None

abbrev pub by_numbered : ℕ → By
by_numbered byte = if byte == 0 then Ron else Tsumo

abbrev pub by_in : ℕ → Option By
by_in byte = if nat_lt byte 2 then Some (by_numbered byte) else None

abbrev pub wind_numbered : ℕ → Wind
wind_numbered byte = if byte == 0 then East else if byte == 1 then South else if byte == 2 then West else North

abbrev pub wind_in : ℕ → Option Wind
wind_in byte = if nat_lt byte 4 then Some (wind_numbered byte) else None

abbrev pub flags_set : WinRow → Flags
flags_set row = record {
  ippatsu = not (row.ippatsu == 0);
  rinshan = not (row.rinshan == 0);
  chankan = not (row.chankan == 0);
  last = not (row.last == 0);
  first = not (row.first == 0);
}

-- each byte says something
abbrev pub is_sound : WinRow → Bool
is_sound row =
    (row.zero == 0) && are_counts row.concealed && is_some (melds_in row.melds) && nat_lt row.winning 34 && nat_lt row.by 2
    && nat_lt row.seat 4 && nat_lt row.round 4 && are_indicators row.dora && are_indicators row.ura && are_counts row.reds

abbrev pub row_parts : Rules → WinRow → WinParts
row_parts rules row = record {
  rules = rules;
  concealed = row.concealed;
  melds = unwrap_or (melds_in row.melds) [];
  winning = row.winning;
  by = by_numbered row.by;
  seat = wind_numbered row.seat;
  round = wind_numbered row.round;
  riichi = row.riichi;
  flags = flags_set row;
  dora = counts_of_bytes row.dora;
  ura = counts_of_bytes row.ura;
  counters = row.counters;
  sticks = row.sticks;
  reds = row.reds;
}

abbrev pub parts_in_row : Rules → WinRow → Option WinParts
parts_in_row rules row = if is_sound row then Some (row_parts rules row) else None
