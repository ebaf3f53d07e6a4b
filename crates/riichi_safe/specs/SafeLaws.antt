-- What the answers say of every hidden hand.
use Rattle.std.specs.Prelude.{◌≡◌, ℕ, ◌+◌, ◌<◌, ◌≤◌, true, List, Some, Contains, slice_index}
use Rattle.riichi_hand.specs.HandParts.{HandParts}
use Rattle.riichi_split.specs.Waits.{IsWait}
use Rattle.riichi_safe.specs.declared.sides.TwoSided.{TwoSided}
use Rattle.riichi_safe.specs.declared.sides.WaitState.TheVariants.{Suji, Wall}
use Rattle.riichi_safe.specs.Records.{copies_seen}
use Rattle.riichi_safe.specs.Safe.{is_passed, two_sided_of}
use Rattle.riichi_safe.specs.SafeParts.{SafeParts}

-- The hidden hand may win on a kind by ron: it waits for it, and for no kind that its player has thrown, or that was passed since the riichi.
pub record MayWinOn (hidden : HandParts) (thrown since : List ℕ) (kind : ℕ) : Type 0 where
  pub waits : IsWait hidden kind
  pub none_thrown : (other : ℕ) → IsWait hidden other → slice_index thrown other ≡ 0
  pub none_passed : (other : ℕ) → IsWait hidden other → slice_index since other ≡ 0

-- a kind that was thrown or passed is won on by no hidden hand
abbrev pub PassedLaw : Type 0
PassedLaw = (parts : SafeParts) (hidden : HandParts) (kind : ℕ) → is_passed parts kind ≡ true → MayWinOn hidden parts.thrown parts.since kind → ⊥

-- suji: a hidden hand that waits for the other kind of the two too doesn't win on this one
abbrev pub SujiLaw : Type 0
SujiLaw =
    (parts : SafeParts) (hidden : HandParts) (kind : ℕ) (wait : TwoSided) → Contains (two_sided_of parts kind) (Some wait) → wait.state ≡ Suji →
    IsWait hidden wait.other → MayWinOn hidden parts.thrown parts.since kind → ⊥

-- with what is seen, the hidden hand keeps to four copies of each kind
pub record KeepsToFour (parts : SafeParts) (hidden : HandParts) : Type 0 where
  pub at : (kind : ℕ) → slice_index hidden.concealed kind + copies_seen parts kind ≤ 4

-- wall: no hidden hand holds both of the two neighbours
abbrev pub WallLaw : Type 0
WallLaw =
    (parts : SafeParts) (hidden : HandParts) (kind : ℕ) (wait : TwoSided) → Contains (two_sided_of parts kind) (Some wait) → wait.state ≡ Wall →
    KeepsToFour parts hidden → 0 < slice_index hidden.concealed wait.low → 0 < slice_index hidden.concealed (wait.low + 1) → ⊥
