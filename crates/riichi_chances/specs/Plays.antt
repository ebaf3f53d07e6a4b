-- Every play that keeps only what brings the hand nearer, and then makes a best discard; it may throw some of that too. How many
-- of all ordered draws of unseen tiles bring the hand near enough by it.
use Rattle.std.specs.Prelude.{ℕ, zero, suc, ◌-◌, ◌*◌, Option, Some, None, if◌then◌else◌, List, ◌∷◌, sum_by}
use Rattle.riichi_hand.specs.HandParts.{ShapeParts}
use Rattle.riichi_tiles.specs.Melds.{every_kind}
use Rattle.riichi_shape.specs.Accepted.{is_accepted, live_of, with_one}
use Rattle.riichi_shape.specs.Discards.{is_discard}
use Rattle.riichi_deeper.specs.Drawn.{parts_with, parts_without}
use Rattle.riichi_chances.specs.Draws.{all_draws, is_there, parts_passed, unseen_of}

-- what is done with a tile that brings the hand nearer, by the kinds that were drawn, the last first, and its own kind: it is
-- thrown at once, or kept, and a tile of some kind is thrown for it
abbrev pub DrawPlay : Type 0
DrawPlay = List ℕ → ℕ → Option ℕ

-- only a best discard is made
abbrev pub parts_chosen : Option ℕ → ShapeParts → ℕ → ShapeParts
parts_chosen None parts kind = parts_passed parts kind
parts_chosen (Some thrown) parts kind = if is_discard (with_one parts.tiles kind) parts.melds thrown then parts_without (parts_with parts kind) thrown else parts_passed parts kind

-- any other tile is thrown at once
abbrev pub parts_played : DrawPlay → List ℕ → ShapeParts → ℕ → ShapeParts
parts_played play drawn parts kind = if is_accepted parts.tiles parts.melds parts.seen kind then parts_chosen (play drawn kind) parts kind else parts_passed parts kind

-- of the draws that begin with a tile of the kind, how many lead there
abbrev pub played_behind : ℕ → ℕ → (ShapeParts → ℕ) → DrawPlay → List ℕ → ShapeParts → ℕ → ℕ
played_behind goal left value play drawn parts kind = if is_there goal (parts_with parts kind) then all_draws (unseen_of parts - 1) left else value (parts_played play drawn parts kind)

-- of all ordered draws how many bring the hand near enough, where some kinds were drawn before
unfoldable pub draws_by : DrawPlay → List ℕ → ℕ → ShapeParts → ℕ → ℕ
draws_by play drawn goal parts zero = if is_there goal parts then 1 else 0
draws_by play drawn goal parts (suc left) =
    if is_there goal parts then all_draws (unseen_of parts) (suc left)
    else sum_by (λ kind. live_of parts.tiles parts.melds parts.seen kind * played_behind goal left (λ rest. draws_by play (kind ∷ drawn) goal rest left) play drawn parts kind) every_kind
