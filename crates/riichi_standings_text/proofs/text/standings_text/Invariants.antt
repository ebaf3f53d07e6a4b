use Rattle.std.proofs.Common.{◌≡◌, take}
use Rattle.std.specs.Prelude.{flat_map, string_bytes}
use Rattle.riichi_standings_text.specs.Texts.{standing_line}
use Rattle.riichi_standings_text.proofs.text.standings_text.Given as goal

-- the lines so far are written
abbrev pub invariant-loop-standing : goal.invariant-loop-standing
invariant-loop-standing l = string_bytes l.text ≡ flat_map (standing_line l.columns l.tournament) (take l.standing-index l.list)
