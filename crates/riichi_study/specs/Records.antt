-- What must be true of a hand and a thrown tile whose calls are asked, and of a hand whose worth is asked.
use Rattle.std.specs.Prelude.{◌≡◌, ℕ, ◌+◌, ◌&&◌, List, [], ◌∷◌, Bool, true, not, Option, None, Result, Ok, Err, map, nat_le, nat_lt, slice_index, sum, if◌then◌else◌}
use Rattle.std.specs.List.{list_all}
use Rattle.riichi_tiles.specs.Melds.{every_kind}
use Rattle.riichi_hand.specs.declared.fault.LineCode.TheVariants.{H8, H9}
use Rattle.riichi_hand.specs.declared.fault.LineFault.{LineFault}
use Rattle.riichi_hand.specs.declared.fault.LineFault.TheVariants.{Line}
use Rattle.riichi_hand.specs.Faults.{coded, fault_or, first_fault}
use Rattle.riichi_hand.specs.Hand.{copies_with, is_thirteen, shape_of}
use Rattle.riichi_hand.specs.HandParts.{ShapeParts}
use Rattle.riichi_worth.specs.declared.stakes.Stakes.{Stakes}
use Rattle.riichi_study.specs.CallParts.{CallParts}
use Rattle.riichi_study.specs.WorthParts.{WorthParts}

-- thirteen tiles, and a copy of the thrown tile's kind that is left
abbrev pub call_faults : CallParts → List (Option LineFault)
call_faults parts =
    coded H8 (not (is_thirteen parts.hand.tiles parts.hand.melds))
    ∷ coded H9 (not (nat_lt (copies_with parts.hand parts.thrown.tile) 4))
    ∷ []

abbrev pub IsCall : CallParts → Type 0
IsCall parts = first_fault (call_faults parts) ≡ None

abbrev pub call_record_of : CallParts → Result CallParts LineFault
call_record_of parts = fault_or (first_fault (call_faults parts)) parts

-- ---- worth

-- how many tiles of each kind there are in both
abbrev pub both_counts : List ℕ → List ℕ → List ℕ
both_counts one other = map (λ kind. slice_index one kind + slice_index other kind) every_kind

-- beside a hand these tiles are seen, too
abbrev pub with_seen : ShapeParts → List ℕ → ShapeParts
with_seen hand tiles = record { tiles = hand.tiles; melds = hand.melds; seen = both_counts hand.seen tiles }

-- no more than five indicators, which are among what is seen
abbrev pub are_seen : List ℕ → List ℕ → Bool
are_seen tiles seen = list_all (λ kind. nat_le (slice_index tiles kind) (slice_index seen kind)) every_kind

abbrev pub IsWorth : WorthParts → Type 0
IsWorth parts = (nat_le (sum parts.stakes.dora) 5 && are_seen parts.stakes.dora parts.hand.seen) ≡ true

abbrev pub worth_with : Stakes → Result ShapeParts LineFault → Result WorthParts LineFault
worth_with stakes (Ok hand) = Ok (record { hand = hand; stakes = stakes })
worth_with stakes (Err fault) = Err fault

-- the indicators are seen beside the hand: more than five of them are a fault, and then a fifth copy of a kind
unfoldable pub worth_record_of : ShapeParts → Stakes → Result WorthParts LineFault
worth_record_of hand stakes = if nat_lt 5 (sum stakes.dora) then Err (Line H8) else worth_with stakes (shape_of (with_seen hand stakes.dora))
