use Rattle.std.proofs.Common.{◌≡◌, take}
use Rattle.std.specs.Prelude.{flat_map, string_bytes}
use Rattle.riichi_standings_text.specs.Objects.{standing_object}
use Rattle.riichi_standings_text.proofs.json.standings_json.Given as goal

-- the objects so far are written
abbrev pub invariant-loop-standing : goal.invariant-loop-standing
invariant-loop-standing l = string_bytes l.text ≡ flat_map (standing_object l.columns l.tournament) (take l.standing-index l.list)
