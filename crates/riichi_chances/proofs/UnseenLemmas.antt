-- How many tiles are unseen, kind by kind.
use Rattle.std.proofs.Common.{◌≡◌, ℕ, suc, ◌+◌, ◌-◌, ◌<◌, List, length, true, refl, ap, arith}
use Rattle.std.specs.Prelude.{slice_index}
use Rattle.riichi_hand.specs.Hand.{IsShape, is_thirteen, size}
use Rattle.riichi_hand.specs.HandParts.{ShapeParts}
use Rattle.riichi_tiles.specs.Melds.{tiles}
use Rattle.riichi_tiles.specs.declared.meld.Meld.{Meld}
use Rattle.riichi_rows.proofs.Spread.{spread, sum_range}
use Rattle.riichi_shape.specs.Accepted.{live_of}
use Rattle.riichi_shape.proofs.ShapeFacts.{melds_few}
use Rattle.riichi_deeper.proofs.DrawnLemmas.{thirteen_is}
use Rattle.riichi_chances.specs.Draws.{unseen_of}
use Rattle.riichi_chances.specs.Laws.{IsFourteen, IsThirteen}

abbrev pub copies_of : ShapeParts → ℕ → ℕ
copies_of parts = live_of parts.tiles parts.melds parts.seen

pub unseen_init : (parts : ShapeParts) → 0 + spread (copies_of parts) 0 34 ≡ unseen_of parts
unfolding unseen_of
unseen_init parts = omega (arith, sum_range (copies_of parts) 0 34)

next_spread : (f : ℕ → ℕ) (a n : ℕ) → spread f a (suc n) ≡ f a + spread f (a + 1) n
unfolding spread
next_spread f a n = refl

pub unseen_step : (parts : ShapeParts) (kind so_far : ℕ) → kind < 34 → so_far + spread (copies_of parts) kind (34 - kind) ≡ unseen_of parts → so_far + copies_of parts kind + spread (copies_of parts) (kind + 1) (34 - (kind + 1)) ≡ unseen_of parts
unseen_step parts kind so_far low e = omega (arith, e, ap (spread (copies_of parts) kind) (one kind low), next_spread (copies_of parts) kind (34 - (kind + 1)))
  where
    one : (k : ℕ) → k < 34 → 34 - k ≡ suc (34 - (k + 1))
    one k low = omega arith

pub unseen_end : (parts : ShapeParts) (kind so_far : ℕ) → kind ≡ 34 → so_far + spread (copies_of parts) kind (34 - kind) ≡ unseen_of parts → so_far ≡ unseen_of parts
unseen_end parts kind so_far e so = omega (arith, so, ap (spread (copies_of parts) kind) (none kind e), no_more kind)
  where
    none : (k : ℕ) → k ≡ 34 → 34 - k ≡ 0
    none k e = omega arith

    no_more : (k : ℕ) → spread (copies_of parts) k 0 ≡ 0
    no_more k = empty (copies_of parts) k
      where
        empty : (f : ℕ → ℕ) (k : ℕ) → spread f k 0 ≡ 0
        empty f k = omega (arith, sum_range f k 0)

pub is_whole : (parts : ShapeParts) → IsShape parts → length parts.tiles ≡ 34 → length parts.seen ≡ 34 → is_thirteen parts.tiles parts.melds ≡ true → IsThirteen parts
is_whole parts is long seen_long thirteen = record { each_kind = long; each_seen = seen_long; thirteen = thirteen_is parts.tiles parts.melds thirteen; melded = melds_few parts is }

pub copies_told : (parts : ShapeParts) (held elsewhere : List ℕ) (melds : List Meld) (kind melded : ℕ) → held ≡ parts.tiles → melds ≡ parts.melds → elsewhere ≡ parts.seen → melded ≡ tiles melds kind → 4 - (slice_index held kind + melded + slice_index elsewhere kind) ≡ copies_of parts kind
copies_told parts held elsewhere melds kind melded e f g m = omega (arith, ap (λ (counts : List ℕ). slice_index counts kind) e, ap (λ (counts : List ℕ). slice_index counts kind) g, m, ap (λ (ms : List Meld). tiles ms kind) f)

pub is_whole_drawn : (parts : ShapeParts) → IsShape parts → length parts.tiles ≡ 34 → length parts.seen ≡ 34 → size parts.tiles parts.melds ≡ 14 → IsFourteen parts
is_whole_drawn parts is long seen_long fourteen = record { each_kind = long; each_seen = seen_long; fourteen = fourteen; melded = melds_few parts is }

-- with all turns to come
pub all_turns : (unseen turns n : ℕ) → unseen ≡ n → unseen - (turns - turns) ≡ n
all_turns unseen turns n e = omega (arith, e)
