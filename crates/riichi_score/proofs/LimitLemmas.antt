-- A yakuman pays at most two limits.
use Rattle.std.proofs.Common.{ℕ, ◌*◌, ◌≤◌, Bool, true, false, List, [], ◌∷◌, length, cond, arith}
use Rattle.std.specs.List.{filter, list_any, sum_by}
use Rattle.std.proofs.lemmas.List.Sums.{sum_by-cons, length-filter, count_by-le-length}
use Rattle.riichi_hand.specs.declared.win.WinParts.{WinParts}
use Rattle.riichi_split.specs.declared.reading.Reading.{Reading}
use Rattle.riichi_yaku.specs.declared.table.Yaku.{Yaku}
use Rattle.riichi_yaku.specs.Table.{every_yaku}
use Rattle.riichi_yaku.specs.YakuSets.{contains, yaku_in}
use Rattle.riichi_score.specs.Limits.{is_double, limits_in, limits_of}
use Rattle.riichi_hand.specs.Rules.{is_on}
use Rattle.riichi_hand.specs.declared.switch.Switch.TheVariants.{AddYakuman}

two : (double : Bool) → cond double 2 1 ≤ 2
two true = omega arith
two false = omega arith

pub limits-most : (reading : Reading) (win : WinParts) (yaku : List Yaku) → sum_by (limits_in reading win) yaku ≤ 2 * length yaku
limits-most reading win [] = omega arith
limits-most reading win (one ∷ more) =
    omega (arith, two (is_double reading win one), limits-most reading win more, sum_by-cons (limits_in reading win) one more)

of_set : (add double : Bool) (sum : ℕ) → sum ≤ 100 → cond add sum (cond double 2 1) ≤ 100
of_set true double sum few = few
of_set false double sum few = omega (arith, two double)

-- a set has at most 42 yaku
pub few_limits : (reading : Reading) (win : WinParts) (set : ℕ) → limits_of reading win set ≤ 100
unfolding limits_of yaku_in
few_limits reading win set =
    let yaku = filter (contains set) every_yaku in
    of_set (is_on AddYakuman win.rules) (list_any (is_double reading win) yaku) (sum_by (limits_in reading win) yaku)
    (omega (arith, limits-most reading win yaku, length-filter (contains set) every_yaku, count_by-le-length (contains set) every_yaku))
