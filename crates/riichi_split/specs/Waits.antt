-- The kinds that a hand waits for.
use Rattle.std.specs.Prelude.{ℕ, ◌<◌, Bool, ◌&&◌, ◌==◌, List, ◌++◌, length, if◌then◌else◌, nat_lt, codes}
use Rattle.riichi_tiles.specs.HeldKinds.{kinds_where}
pub use Rattle.riichi_tiles.specs.OneTile.{with_one}
use Rattle.riichi_tiles.specs.Printing.{tiles_text, once}
use Rattle.riichi_hand.specs.HandParts.{HandParts}
use Rattle.riichi_hand.specs.Hand.{copies_held}
use Rattle.riichi_split.specs.Winning.{HasReading}
use Rattle.riichi_split.specs.ReadingsOf.{readings_of}

-- hand and melds hold fewer than four of the kind, and with one more of it the hand has a reading
pub record IsWait (hand : HandParts) (kind : ℕ) : Type 0 where
  pub of_a_kind : kind < 34
  pub some_left : copies_held hand.concealed hand.melds kind < 4
  pub completes : HasReading (with_one hand.concealed kind) (length hand.melds) kind

abbrev pub is_wait : HandParts → ℕ → Bool
is_wait hand kind =
    nat_lt (copies_held hand.concealed hand.melds kind) 4 && nat_lt 0 (length (readings_of (with_one hand.concealed kind) (length hand.melds) kind))

-- the kinds that the hand waits for
unfoldable pub waits_of : HandParts → ℕ
waits_of hand = kinds_where (is_wait hand)

-- `waits` and the kinds, or a dash where there are none
abbrev pub waits_text : ℕ → List ℕ
waits_text waits = codes "waits " ++ (if waits == 0 then codes "-" else tiles_text (once waits))
