-- Furiten and safe tiles as the members of an object.
use Rattle.std.specs.Prelude.{ℕ, ◌&&◌, Bool, List, ◌++◌, Option, None, Some, codes, filter, map}
use Rattle.std.specs.List.{list_any}
use Rattle.riichi_text.specs.Tiles.{kind_text}
use Rattle.riichi_tiles.specs.HeldKinds.{is_held}
use Rattle.riichi_tiles.specs.Melds.{every_kind}
use Rattle.riichi_safe.specs.Safe.{furiten_of, safe_kinds, two_sided_of, wait_from_above, wait_from_below}
use Rattle.riichi_safe.specs.SafeParts.{SafeParts}
use Rattle.riichi_safe.specs.declared.sides.TwoSided.{TwoSided}
use Rattle.riichi_study.specs.SafeTexts.{is_risk, stands_there, state_word}
use Rattle.desk_json.specs.Parts.{listed, quoted_kind}

-- the kinds of a set, with commas between them
abbrev pub set_json : ℕ → List ℕ
set_json set = listed (map quoted_kind (filter (is_held set) every_kind))

-- the two-sided waits on a kind that the hand has and that may be won on, where there is one
abbrev pub has_waits : SafeParts → ℕ → Bool
has_waits parts kind = is_risk parts kind && list_any stands_there (two_sided_of parts kind)

-- what is known of a two-sided wait; where there is none null
abbrev pub state_json : Option TwoSided → List ℕ
state_json None = codes "null"
state_json (Some wait) = codes "\"" ++ state_word wait.state ++ codes "\""

abbrev pub kind_json : ℕ → List ℕ
kind_json kind = codes "{\"kind\":\"" ++ kind_text kind ++ codes "\""

-- the wait by the two kinds below, and that by the two above
abbrev pub sides_json : Option TwoSided → Option TwoSided → List ℕ
sides_json below above = codes ",\"below\":" ++ state_json below ++ codes ",\"above\":" ++ state_json above

abbrev pub waited_json : SafeParts → ℕ → List ℕ
waited_json parts kind = kind_json kind ++ sides_json (wait_from_below parts kind) (wait_from_above parts kind) ++ codes "}"

abbrev pub every_wait_json : SafeParts → List ℕ
every_wait_json parts = listed (map (waited_json parts) (filter (has_waits parts) every_kind))

-- of a hand that isn't ready null
abbrev pub furiten_json : Option ℕ → List ℕ
furiten_json None = codes "null"
furiten_json (Some kinds) = codes "[" ++ set_json kinds ++ codes "]"

-- ---- the members

abbrev pub front_json : ℕ → List ℕ
front_json safe = codes "\"answer\":\"safe\",\"safe\":[" ++ set_json safe ++ codes "],\"waits\":["

abbrev pub behind_json : Option ℕ → List ℕ
behind_json kinds = codes "],\"furiten\":" ++ furiten_json kinds ++ codes "}"

abbrev pub safe_members : SafeParts → List ℕ
safe_members parts = front_json (safe_kinds parts) ++ every_wait_json parts ++ behind_json (furiten_of parts)
