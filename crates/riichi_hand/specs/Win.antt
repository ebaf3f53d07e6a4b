-- What must be true of a win.
use Rattle.std.specs.Prelude.{◌≡◌, ◌==◌, ◌&&◌, ◌||◌, not, ℕ, ◌+◌, Bool, true, false, List, [], ◌∷◌, length, Option, None, Result, if◌then◌else◌, nat_lt, nat_eq, slice_index}
use Rattle.std.specs.List.{sum, list_any}
use Rattle.riichi_tiles.specs.Melds.{every_kind, tiles, are_concealed, is_kong}
use Rattle.riichi_hand.specs.declared.fault.LineCode.TheVariants.{H4, H8, H9, H10, H11, H12, H13, H14, H15, H16}
use Rattle.riichi_hand.specs.declared.fault.LineFault.{LineFault}
use Rattle.riichi_hand.specs.declared.win.By.{By}
use Rattle.riichi_hand.specs.declared.win.By.TheVariants.{Ron, Tsumo}
use Rattle.riichi_hand.specs.Rules.{Rules, is_on}
use Rattle.riichi_hand.specs.declared.win.Flags.{Flags}
use Rattle.riichi_hand.specs.declared.win.Wind.{Wind}
use Rattle.riichi_hand.specs.declared.win.Wind.TheVariants.{East, South, West, North}
use Rattle.riichi_hand.specs.declared.win.WinParts.{WinParts}
use Rattle.riichi_hand.specs.Faults.{coded, first_fault, fault_or}
use Rattle.riichi_hand.specs.Hand.{is_thirteen}
use Rattle.riichi_hand.specs.declared.switch.Switch.TheVariants.{BlessingOfMan, RedFives}

abbrev pub no_flags : Flags
no_flags = record { ippatsu = false; rinshan = false; chankan = false; last = false; first = false }

abbrev pub is_ron : By → Bool
is_ron Ron = true
is_ron Tsumo = false

-- the kind of a wind's tile
abbrev pub wind_kind : Wind → ℕ
wind_kind East = 27
wind_kind South = 28
wind_kind West = 29
wind_kind North = 30

-- the copies of a kind among hand, melds and the winning tile
abbrev pub copies_won : WinParts → ℕ → ℕ
copies_won parts kind = slice_index parts.concealed kind + tiles parts.melds kind + (if nat_eq parts.winning kind then 1 else 0)

-- the same with the indicators
abbrev pub copies_with_indicators : WinParts → ℕ → ℕ
copies_with_indicators parts kind = copies_won parts kind + slice_index parts.dora kind + slice_index parts.ura kind

abbrev pub has_five_in : WinParts → Bool
has_five_in parts = list_any (λ kind. nat_lt 4 (copies_with_indicators parts kind)) every_kind

abbrev pub is_out_of_range : WinParts → Bool
is_out_of_range parts = nat_lt 2 parts.riichi || nat_lt 99 parts.counters || nat_lt 99 parts.sticks

-- thirteen tiles before the winning one, at most five indicators of each sort
abbrev pub has_wrong_size : WinParts → Bool
has_wrong_size parts = not (is_thirteen parts.concealed parts.melds) || nat_lt 5 (sum parts.dora) || nat_lt 5 (sum parts.ura)

-- flags that exclude one another
abbrev pub are_exclusive : Flags → Bool
are_exclusive flags = (flags.rinshan && (flags.last || flags.ippatsu)) || (flags.chankan && flags.last)

abbrev pub has_other_flag : Flags → Bool
has_other_flag flags = flags.ippatsu || flags.rinshan || flags.chankan || flags.last

-- the dealer's seat
abbrev pub is_dealer : Wind → Bool
is_dealer East = true
is_dealer South = false
is_dealer West = false
is_dealer North = false

-- the flag `first` by ron stands for the blessing of man, of another seat than the dealer's, where the rules have that
abbrev pub may_be_blessing_of_man : WinParts → Bool
may_be_blessing_of_man parts = is_on BlessingOfMan parts.rules && not (is_dealer parts.seat)

-- the flag `first` beside a meld, by ron that is no blessing of man, with riichi or with another flag
abbrev pub has_wrong_first : WinParts → Bool
has_wrong_first parts =
    parts.flags.first && (nat_lt 0 (length parts.melds) || (is_ron parts.by && not (may_be_blessing_of_man parts)) || not (parts.riichi == 0) || has_other_flag parts.flags)

-- more red fives of a suit than fives among hand, melds and the winning tile; the fives are the kinds 4, 13, 22
abbrev pub has_too_many_reds : WinParts → Bool
has_too_many_reds parts =
    nat_lt (copies_won parts 4) (slice_index parts.reds 0)
    || nat_lt (copies_won parts 13) (slice_index parts.reds 1)
    || nat_lt (copies_won parts 22) (slice_index parts.reds 2)

-- Every fault of a win in order.
abbrev pub win_faults : WinParts → List (Option LineFault)
win_faults parts =
    coded H4 (is_out_of_range parts)
    ∷ coded H8 (has_wrong_size parts)
    ∷ coded H9 (has_five_in parts)
    ∷ coded H10 (not (parts.riichi == 0) && not (are_concealed parts.melds))
    ∷ coded H11 ((parts.riichi == 0) && (parts.flags.ippatsu || nat_lt 0 (sum parts.ura)))
    ∷ coded H12 (parts.flags.rinshan && (is_ron parts.by || not (list_any is_kong parts.melds)))
    ∷ coded H13 (parts.flags.chankan && not (is_ron parts.by))
    ∷ coded H14 (are_exclusive parts.flags)
    ∷ coded H15 (has_wrong_first parts)
    ∷ coded H16 (is_on RedFives parts.rules && has_too_many_reds parts)
    ∷ []

abbrev pub no_reds : List ℕ
no_reds = 0 ∷ 0 ∷ 0 ∷ []

-- the parts with no red five
abbrev pub without_reds : WinParts → WinParts
without_reds parts = record {
  rules = parts.rules;
  concealed = parts.concealed;
  melds = parts.melds;
  winning = parts.winning;
  by = parts.by;
  seat = parts.seat;
  round = parts.round;
  riichi = parts.riichi;
  flags = parts.flags;
  dora = parts.dora;
  ura = parts.ura;
  counters = parts.counters;
  sticks = parts.sticks;
  reds = no_reds;
}

-- what is kept: without the rule of red fives none of them
abbrev pub kept_under : Rules → WinParts → WinParts
kept_under rules parts = if is_on RedFives rules then parts else without_reds parts

-- The parts of a win record: they have no fault, and without the rule of red fives none of them. Whether the hand wins is another matter.
pub record IsWinRecord (parts : WinParts) : Type 0 where
  pub no_fault : first_fault (win_faults parts) ≡ None
  pub kept : kept_under parts.rules parts ≡ parts

unfoldable pub win_of : WinParts → Result WinParts LineFault
win_of parts = fault_or (first_fault (win_faults parts)) (kept_under parts.rules parts)
