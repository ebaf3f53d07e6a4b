-- What a hand is worth by its han and fu, or as a limit hand.
use Rattle.std.specs.Prelude.{ℕ, ◌%◌, Bool, not, ◌&&◌, ◌||◌, ◌==◌, nat_le, if◌then◌else◌, Option, Some, None}
use Rattle.riichi_hand.specs.Win.{is_ron}
use Rattle.riichi_hand.specs.Rules.{Rules, is_on}
use Rattle.riichi_hand.specs.declared.win.By.{By}
use Rattle.riichi_score.specs.Base.{base_of}
use Rattle.riichi_table.specs.declared.worth.Worth.{Worth}
use Rattle.riichi_table.specs.declared.worth.Worth.TheVariants.{Counted, Yakuman}
use Rattle.riichi_game.specs.declared.values.LimitHand.{LimitHand}
use Rattle.riichi_game.specs.declared.values.LimitHand.TheVariants as limit
use Rattle.riichi_hand.specs.declared.switch.Switch.TheVariants.{AddYakuman, DoubleWindPair, DoubleYakuman, OpenPinfuFu}

-- fu are rounded up to tens, but for the 25 of seven pairs; with fewer than four han no hand has over 110, and none over 140
abbrev pub is_fu : ℕ → ℕ → Bool
is_fu han fu =
    (fu == 25) || ((fu % 10 == 0) && nat_le 20 fu && nat_le fu (if nat_le 4 han then 140 else 110))

-- a hand won by ron has 20 fu only where an open hand isn't counted 30
abbrev pub is_low_ron : Rules → By → ℕ → Bool
is_low_ron rules by fu = is_ron by && (fu == 20) && is_on OpenPinfuFu rules

-- seven pairs have two han, and one more by self-draw
abbrev pub is_low_pairs : By → ℕ → ℕ → Bool
is_low_pairs by han fu = (fu == 25) && ((han == 1) || ((han == 2) && not (is_ron by)))

-- with one han by self-draw no hand has 20 fu, which are a pinfu and the self-draw, nor 110
abbrev pub is_low_draw : By → ℕ → ℕ → Bool
is_low_draw by han fu = (han == 1) && not (is_ron by) && ((fu == 20) || (fu == 110))

-- with one han 110 fu take the pair of a wind that is both seat and round
abbrev pub lacks_double_wind : Rules → ℕ → ℕ → Bool
lacks_double_wind rules han fu = (han == 1) && (fu == 110) && not (is_on DoubleWindPair rules)

abbrev pub is_none : Rules → By → ℕ → ℕ → Bool
is_none rules by han fu = is_low_ron rules by fu || is_low_pairs by han fu || is_low_draw by han fu || lacks_double_wind rules han fu

-- some hand has so many han and fu
unfoldable pub occurs : Rules → By → ℕ → ℕ → Bool
occurs rules by han fu = nat_le 1 han && is_fu han fu && not (is_none rules by han fu)

abbrev pub worth_of_han_and_fu : Rules → By → ℕ → ℕ → Option Worth
worth_of_han_and_fu rules by han fu = if occurs rules by han fu then Some (Counted (base_of rules han fu)) else None

-- how many limits a yakuman may have: two where some are double, four where several are added, six where both
abbrev pub most_limits : Rules → ℕ
most_limits rules =
    if is_on AddYakuman rules then (if is_on DoubleYakuman rules then 6 else 4)
    else (if is_on DoubleYakuman rules then 2 else 1)

abbrev pub is_limits : Rules → ℕ → Bool
is_limits rules limits = nat_le 1 limits && nat_le limits (most_limits rules)

abbrev pub worth_of_limit : Rules → LimitHand → Option Worth
worth_of_limit rules limit.Mangan = Some (Counted 2000)
worth_of_limit rules limit.Haneman = Some (Counted 3000)
worth_of_limit rules limit.Baiman = Some (Counted 4000)
worth_of_limit rules limit.Sanbaiman = Some (Counted 6000)
worth_of_limit rules (limit.Yakuman limits) = if is_limits rules limits then Some (Yakuman limits) else None
