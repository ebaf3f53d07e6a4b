-- Furiten and safe tiles as text: one line, and lines in words below it.
use Rattle.std.specs.Prelude.{ℕ, ◌==◌, ◌+◌, ◌&&◌, Bool, not, is_some, List, [], ◌∷◌, ◌++◌, Option, None, Some, codes, if◌then◌else◌}
use Rattle.std.specs.List.{flat_map, list_any}
use Rattle.riichi_text.specs.Tiles.{digit_of, kind_text, letter_of}
use Rattle.riichi_tiles.specs.HeldKinds.{is_held}
use Rattle.riichi_tiles.specs.Melds.{every_kind}
use Rattle.riichi_tiles.specs.Tiles.{has_tile}
use Rattle.riichi_safe.specs.Safe.{furiten_of, safe_kinds, two_sided_of}
use Rattle.riichi_safe.specs.SafeParts.{SafeParts}
use Rattle.riichi_safe.specs.declared.sides.TwoSided.{TwoSided}
use Rattle.riichi_safe.specs.declared.sides.WaitState.{WaitState}
use Rattle.riichi_safe.specs.declared.sides.WaitState.TheVariants.{Open, Suji, Wall}

-- ---- a set of kinds

-- a space and the kind, where the set has it
abbrev pub kind_within : ℕ → ℕ → List ℕ
kind_within set kind = if is_held set kind then codes " " ++ kind_text kind else []

-- the kinds of a set in their order, or that there is none
abbrev pub kinds_or_none : ℕ → List ℕ
kinds_or_none set = if set == 0 then codes " none" else flat_map (kind_within set) every_kind

-- ---- two-sided waits

abbrev pub state_word : WaitState → List ℕ
state_word Open = codes "open"
state_word Suji = codes "suji"
state_word Wall = codes "wall"

-- two neighbours, as 23p
abbrev pub neighbours_text : ℕ → List ℕ
neighbours_text low = digit_of low ∷ (digit_of low + 1) ∷ letter_of low ∷ []

-- the neighbours that wait, and what is known of that
abbrev pub two_sided_text : Option TwoSided → List ℕ
two_sided_text None = []
two_sided_text (Some wait) = codes " " ++ neighbours_text wait.low ++ codes ":" ++ state_word wait.state

abbrev pub stands_there : Option TwoSided → Bool
stands_there wait = is_some wait

-- a kind with the two-sided waits on it, where there is one
abbrev pub kind_risk_text : ℕ → List (Option TwoSided) → List ℕ
kind_risk_text kind waits = if list_any stands_there waits then codes " discard " ++ kind_text kind ++ flat_map two_sided_text waits else []

-- the concealed tiles have the kind, and it isn't among those that can't be won on
abbrev pub is_risk : SafeParts → ℕ → Bool
is_risk parts kind = has_tile parts.hand.tiles kind && not (is_held (safe_kinds parts) kind)

unfoldable pub risk_text : SafeParts → ℕ → List ℕ
risk_text parts kind = if is_risk parts kind then kind_risk_text kind (two_sided_of parts kind) else []

-- ---- furiten

abbrev pub furiten_text : Option ℕ → List ℕ
furiten_text None = []
furiten_text (Some kinds) = codes " furiten" ++ kinds_or_none kinds

-- ---- the answer

abbrev pub safe_text : SafeParts → List ℕ
safe_text parts = codes "safe" ++ kinds_or_none (safe_kinds parts) ++ flat_map (risk_text parts) every_kind ++ furiten_text (furiten_of parts)
