use Rattle.std.proofs.Common.{◌≡◌, ◌++◌, take}
use Rattle.std.specs.Prelude.{flat_map, string_bytes}
use Rattle.riichi_standings_text.specs.Sheets.{standing_rows}
use Rattle.riichi_standings_text.proofs.sheet.Sheet.push_standings.Given as goal

-- the rows so far are written
abbrev pub invariant-loop-standing : goal.invariant-loop-standing
invariant-loop-standing l = string_bytes l.text ≡ string_bytes l.initial.text ++ flat_map (standing_rows l.self.name l.self.columns l.tournament) (take l.standing-index l.list)
