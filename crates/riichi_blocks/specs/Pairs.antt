-- The pair, and the fu that it earns.
use Rattle.std.specs.Prelude.{ℕ, ◌+◌, Bool, false, not, ◌==◌, ◌&&◌, ◌||◌, if◌then◌else◌}
use Rattle.riichi_hand.specs.declared.win.WinParts.{WinParts}
use Rattle.riichi_hand.specs.Win.{wind_kind}
use Rattle.riichi_blocks.specs.declared.hand_block.HandBlock.{HandBlock}
use Rattle.riichi_blocks.specs.declared.hand_block.HandBlock.TheVariants.{Pair}
use Rattle.riichi_blocks.specs.Kinds.{is_dragon}
use Rattle.riichi_hand.specs.Rules.{is_on}
use Rattle.riichi_hand.specs.declared.switch.Switch.TheVariants.{DoubleWindPair}

-- A pair of the prevalent wind has fu; one that has fu as a pair of the seat wind has them too where the rules say so.
abbrev pub has_prevalent_fu : WinParts → ℕ → Bool
has_prevalent_fu parts kind = (kind == wind_kind parts.round) && (not (kind == wind_kind parts.seat) || is_on DoubleWindPair parts.rules)

-- The fu of a pair of this kind: of dragons 2, of the seat wind 2, of the prevalent wind 2.
abbrev pub pair_fu : WinParts → ℕ → ℕ
pair_fu parts kind =
    (if is_dragon kind then 2 else 0)
    + (if kind == wind_kind parts.seat then 2 else 0)
    + (if has_prevalent_fu parts kind then 2 else 0)

-- a pair that earns no fu
abbrev pub is_plain_pair : WinParts → HandBlock → Bool
is_plain_pair parts (Pair kind) = pair_fu parts kind == 0
is_plain_pair parts other = false

-- the fu of a block that is a pair
abbrev pub fu_if_pair : WinParts → HandBlock → ℕ
fu_if_pair parts (Pair kind) = pair_fu parts kind
fu_if_pair parts other = 0
