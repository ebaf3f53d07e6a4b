-- Of all ordered draws of so many unseen tiles, how many bring a hand of thirteen tiles near enough. The player is alone at the
-- table, and no tile comes back. A tile that brings the hand nearer is kept, and one of the best discards is made; any other tile
-- is thrown at once. A thrown tile is seen. Among the best discards the player makes the one after which most draws lead there.
use Rattle.std.specs.Prelude.{ℕ, zero, suc, ◌-◌, ◌*◌, Bool, nat_le, max, if◌then◌else◌, List, [], ◌∷◌, filter, sum_by}
use Rattle.riichi_hand.specs.HandParts.{ShapeParts}
use Rattle.riichi_tiles.specs.Melds.{every_kind}
use Rattle.riichi_shape.specs.Accepted.{is_accepted, live_of, with_one}
use Rattle.riichi_shape.specs.Discards.{is_discard}
use Rattle.riichi_shape.specs.EveryWinning.{distance_of}
use Rattle.riichi_deeper.specs.Drawn.{parts_with, parts_without}

-- the tiles that are neither in the hand and its melds nor seen elsewhere
unfoldable pub unseen_of : ShapeParts → ℕ
unseen_of parts = sum_by (live_of parts.tiles parts.melds parts.seen) every_kind

-- how many ordered draws of so many tiles there are out of some: n (n - 1) (n - 2) ..
unfoldable pub all_draws : ℕ → ℕ → ℕ
all_draws unseen zero = 1
all_draws unseen (suc turns) = unseen * all_draws (unseen - 1) turns

-- a hand is near enough where it lacks no more tiles than this: none to win, one to be ready
abbrev pub is_there : ℕ → ShapeParts → Bool
is_there goal parts = nat_le (distance_of parts.tiles parts.melds) goal

-- a tile of the kind is drawn, and thrown at once
abbrev pub parts_passed : ShapeParts → ℕ → ShapeParts
parts_passed parts kind = record { tiles = parts.tiles; melds = parts.melds; seen = with_one parts.seen kind }

-- the greatest of the values of some kinds, 0 where there is none
unfoldable pub greatest : (ℕ → ℕ) → List ℕ → ℕ
greatest value [] = 0
greatest value (kind ∷ kinds) = max (value kind) (greatest value kinds)

-- the greatest value of the thirteen tiles that a best discard of fourteen leaves
abbrev pub best_rest : (ShapeParts → ℕ) → ShapeParts → ℕ
best_rest value drawn = greatest (λ kind. value (parts_without drawn kind)) (filter (is_discard drawn.tiles drawn.melds) every_kind)

-- once a tile of the kind is drawn: a reward where the hand is near enough then, else the value of the thirteen tiles that are left
abbrev pub value_behind : ℕ → ℕ → (ShapeParts → ℕ) → ShapeParts → ℕ → ℕ
value_behind goal reward value parts kind =
    if is_there goal (parts_with parts kind) then reward
    else if is_accepted parts.tiles parts.melds parts.seen kind then best_rest value (parts_with parts kind)
    else value (parts_passed parts kind)

-- of the draws that begin with a tile of the kind, how many lead there, by the value of thirteen tiles with the turns that are left
abbrev pub draws_behind : ℕ → ℕ → (ShapeParts → ℕ) → ShapeParts → ℕ → ℕ
draws_behind goal left value parts kind = value_behind goal (all_draws (unseen_of parts - 1) left) value parts kind

-- of all ordered draws how many bring the hand near enough
unfoldable pub draws : ℕ → ShapeParts → ℕ → ℕ
draws goal parts zero = if is_there goal parts then 1 else 0
draws goal parts (suc left) =
    if is_there goal parts then all_draws (unseen_of parts) (suc left)
    else sum_by (λ kind. live_of parts.tiles parts.melds parts.seen kind * draws_behind goal left (λ rest. draws goal rest left) parts kind) every_kind
