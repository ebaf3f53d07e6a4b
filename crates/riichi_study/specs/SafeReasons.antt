-- Furiten and safe tiles in words: lines below the answer, each behind a line feed and two spaces.
use Rattle.std.specs.Prelude.{ℕ, ◌==◌, List, [], ◌++◌, Option, None, Some, codes, if◌then◌else◌}
use Rattle.std.specs.List.{flat_map}
use Rattle.riichi_text.specs.Tiles.{kind_text}
use Rattle.riichi_tiles.specs.Melds.{every_kind}
use Rattle.riichi_safe.specs.Safe.{furiten_of, safe_kinds, two_sided_of}
use Rattle.riichi_safe.specs.SafeParts.{SafeParts}
use Rattle.riichi_safe.specs.declared.sides.TwoSided.{TwoSided}
use Rattle.riichi_safe.specs.declared.sides.WaitState.{WaitState}
use Rattle.riichi_safe.specs.declared.sides.WaitState.TheVariants.{Open, Suji, Wall}
use Rattle.riichi_study.specs.SafeTexts.{is_risk, kind_within, neighbours_text}

-- the kinds that can't be won on, where there are any
abbrev pub passed_reason : ℕ → List ℕ
passed_reason set = if set == 0 then [] else codes "\n  that player can't win on:" ++ flat_map (kind_within set) every_kind

-- ---- a two-sided wait

abbrev pub state_reason : WaitState → List ℕ
state_reason Open = codes " (open)"
state_reason Suji = codes ", and wins on neither (suji)"
state_reason Wall = codes ", but nobody has both: all four of one are seen (wall)"

abbrev pub holder_words : ℕ → ℕ → List ℕ
holder_words kind low = codes "\n  " ++ kind_text kind ++ codes ": who waits with " ++ neighbours_text low

abbrev pub other_kind_words : ℕ → List ℕ
other_kind_words other = codes " waits for " ++ kind_text other ++ codes " too"

abbrev pub wait_reason : ℕ → Option TwoSided → List ℕ
wait_reason kind None = []
wait_reason kind (Some wait) = holder_words kind wait.low ++ other_kind_words wait.other ++ state_reason wait.state

-- the two-sided waits on a kind that the hand has and that may be won on
unfoldable pub risk_reason : SafeParts → ℕ → List ℕ
risk_reason parts kind = if is_risk parts kind then flat_map (wait_reason kind) (two_sided_of parts kind) else []

-- ---- furiten

abbrev pub thrown_reason : ℕ → List ℕ
thrown_reason kinds =
    if kinds == 0 then codes "\n  not furiten: the hand has thrown nothing that it waits for"
    else codes "\n  furiten, no win by ron: the hand has thrown what it waits for:" ++ flat_map (kind_within kinds) every_kind

abbrev pub furiten_reason : Option ℕ → List ℕ
furiten_reason None = []
furiten_reason (Some kinds) = thrown_reason kinds

-- ---- the answer

abbrev pub safe_reasons : SafeParts → List ℕ
safe_reasons parts = passed_reason (safe_kinds parts) ++ flat_map (risk_reason parts) every_kind ++ furiten_reason (furiten_of parts)
