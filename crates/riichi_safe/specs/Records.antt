-- What must be true of a hand and of what was thrown.
use Rattle.std.specs.Prelude.{◌≡◌, ℕ, ◌+◌, Bool, List, [], ◌∷◌, Option, None, Result, nat_lt, slice_index}
use Rattle.std.specs.List.{list_any}
use Rattle.riichi_tiles.specs.Melds.{every_kind}
use Rattle.riichi_hand.specs.declared.fault.LineCode.TheVariants.{H9}
use Rattle.riichi_hand.specs.declared.fault.LineFault.{LineFault}
use Rattle.riichi_hand.specs.Faults.{coded, fault_or, first_fault}
use Rattle.riichi_hand.specs.Hand.{copies_with}
use Rattle.riichi_safe.specs.SafeParts.{SafeParts}

-- how many tiles of a kind the player can see: in hand, melds and what is seen, and among all that was thrown
abbrev pub copies_seen : SafeParts → ℕ → ℕ
copies_seen parts kind = copies_with parts.hand kind + (slice_index parts.own kind + slice_index parts.thrown kind + slice_index parts.since kind)

abbrev pub has_five : SafeParts → Bool
has_five parts = list_any (λ kind. nat_lt 4 (copies_seen parts kind)) every_kind

-- a fifth copy of a kind is the only fault
abbrev pub safe_faults : SafeParts → List (Option LineFault)
safe_faults parts = coded H9 (has_five parts) ∷ []

abbrev pub AreSafeParts : SafeParts → Type 0
AreSafeParts parts = first_fault (safe_faults parts) ≡ None

abbrev pub safe_record_of : SafeParts → Result SafeParts LineFault
safe_record_of parts = fault_or (first_fault (safe_faults parts)) parts
