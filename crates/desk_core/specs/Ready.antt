-- When a hand waits.
use Rattle.std.specs.Prelude.{ℕ}
use Rattle.riichi_hand.specs.HandParts.{HandParts}
use Rattle.riichi_split.specs.Waits.{IsWait}

-- the hand waits for some kind
abbrev pub HasWait : HandParts → Type 0
HasWait hand = (kind : ℕ) × IsWait hand kind
