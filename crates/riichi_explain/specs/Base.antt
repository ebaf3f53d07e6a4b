-- How base points come from han and fu.
use Rattle.std.specs.Prelude.{ℕ, ◌*◌, Bool, nat_le, nat_lt, if◌then◌else◌}
use Rattle.riichi_hand.specs.Rules.{Rules, is_on}
use Rattle.riichi_score.specs.Base.{is_raised, product_of}
use Rattle.riichi_explain.specs.declared.base.Limit.{Limit}
use Rattle.riichi_explain.specs.declared.base.Limit.TheVariants.{Mangan, Haneman, Baiman, Sanbaiman, Yakuman}
use Rattle.riichi_explain.specs.declared.base.BaseRule.{BaseRule}
use Rattle.riichi_explain.specs.declared.base.BaseRule.TheVariants.{Product, Capped, Raised, Limited, OfYakuman}
use Rattle.riichi_hand.specs.declared.switch.Switch.TheVariants.{CountedYakuman}

-- at most four han: the product, but no more than a mangan
abbrev pub low_rule : Rules → ℕ → ℕ → BaseRule
low_rule rules han fu =
    if is_raised rules han fu then Raised (product_of han fu)
    else (if nat_lt 2000 (product_of han fu) then Capped (product_of han fu) else Product (product_of han fu))

-- 13 han and more are a yakuman where the rules say so, else as 12
abbrev pub most_limit : Rules → Limit
most_limit rules = if is_on CountedYakuman rules then Yakuman else Sanbaiman

-- of a counted hand: 5 han are a mangan, 6 and 7 a haneman, 8 to 10 a baiman, 11 and 12 a sanbaiman
abbrev pub counted_rule : Rules → ℕ → ℕ → BaseRule
counted_rule rules han fu =
    if nat_le han 4 then low_rule rules han fu
    else (if nat_le han 5 then Limited Mangan
    else (if nat_le han 7 then Limited Haneman
    else (if nat_le han 10 then Limited Baiman
    else (if nat_le han 12 then Limited Sanbaiman
    else Limited (most_limit rules)))))

-- of a yakuman its limits
abbrev pub base_rule : Bool → ℕ → Rules → ℕ → ℕ → BaseRule
base_rule yakuman limits rules han fu = if yakuman then OfYakuman limits else counted_rule rules han fu

abbrev pub limit_points : Limit → ℕ
limit_points Mangan = 2000
limit_points Haneman = 3000
limit_points Baiman = 4000
limit_points Sanbaiman = 6000
limit_points Yakuman = 8000

-- the base points by a rule
abbrev pub points_by : BaseRule → ℕ
points_by (Product product) = product
points_by (Capped product) = 2000
points_by (Raised product) = 2000
points_by (Limited limit) = limit_points limit
points_by (OfYakuman limits) = 8000 * limits
