-- Which rules no table may choose.
use Rattle.std.specs.Prelude.{ℕ, Bool, not, ◌&&◌, ◌||◌, ◌==◌, ◌%◌, nat_lt, nat_le, if◌then◌else◌, ℤ, pos, ◌+ℤ◌, unsigned_abs, int_lt, Option, Some, None}
use Rattle.std.specs.Ordering.{int_eq}
use Rattle.riichi_table.specs.declared.rules.ByPlace.{ByPlace}
use Rattle.riichi_table.specs.declared.rules.ChomboCost.{ChomboCost}
use Rattle.riichi_table.specs.declared.rules.ChomboCost.TheVariants.{Points, Mangan}
use Rattle.riichi_table.specs.declared.rules.TableRules.{TableRules}
use Rattle.riichi_table.specs.declared.rules_fault.RulesFault.{RulesFault}
use Rattle.riichi_table.specs.declared.rules_fault.RulesFault.TheVariants as fault

-- whole hundreds up to a million
unfoldable pub is_points : ℕ → Bool
is_points points = nat_le points 1000000 && (points % 100 == 0)

abbrev pub points_or_0 : Option ℕ → ℕ
points_or_0 None = 0
points_or_0 (Some points) = points

abbrev pub cost_points : ChomboCost → ℕ
cost_points (Points points) = points
cost_points Mangan = 0

unfoldable pub has_points : TableRules → Bool
has_points rules =
    is_points rules.start && is_points rules.returns && is_points (points_or_0 rules.extra) && is_points (cost_points rules.chombo)

-- whole thousands up to a million, up or down
unfoldable pub is_step : ℤ → Bool
is_step bonus = nat_le (unsigned_abs bonus) 1000000 && (unsigned_abs bonus % 1000 == 0)

unfoldable pub has_steps : ByPlace ℤ → Bool
has_steps uma = is_step uma.first && is_step uma.second && is_step uma.third && is_step uma.fourth

unfoldable pub rises : ByPlace ℤ → Bool
rises uma = int_lt uma.first uma.second || int_lt uma.second uma.third || int_lt uma.third uma.fourth

unfoldable pub uma_sum : ByPlace ℤ → ℤ
uma_sum uma = uma.first +ℤ uma.second +ℤ uma.third +ℤ uma.fourth

unfoldable pub uma_fault : ByPlace ℤ → Option RulesFault
uma_fault uma =
    if not (has_steps uma) then Some fault.UmaStep
    else if rises uma then Some fault.UmaOrder
    else if not (int_eq (uma_sum uma) (pos 0)) then Some fault.UmaSum
    else None

-- why rules are refused, or nothing
abbrev pub rules_fault : TableRules → Option RulesFault
rules_fault rules =
    if not (has_points rules) then Some fault.Points
    else if nat_lt rules.start 100 then Some fault.Start
    else if nat_lt rules.returns rules.start then Some fault.Return
    else uma_fault rules.uma
