-- What holds of all final points.
use Rattle.std.specs.Prelude.{ℕ, ◌≡◌, ◌*◌, ◌<◌, ◌≤◌, ℤ, pos, ◌+ℤ◌, ◌*ℤ◌, ◌≤ℤ◌, ◌<ℤ◌, None}
use Rattle.riichi_table.specs.Players.{of_player, sum_over_players, over_players}
use Rattle.riichi_table.specs.RulesFaults.{uma_sum, rules_fault}
use Rattle.riichi_table.specs.declared.player.Player.{Player}
use Rattle.riichi_table.specs.declared.player.ByPlayer.{ByPlayer}
use Rattle.riichi_table.specs.declared.rules.Ties.TheVariants.{Share}
use Rattle.riichi_table.specs.declared.rules.TableRules.{TableRules}
use Rattle.riichi_table.specs.declared.state.GameState.{GameState}
use Rattle.riichi_places.specs.Places.{place_by_points}
use Rattle.riichi_places.specs.Bonuses.{bonus_of, place_bonus, returned}
use Rattle.riichi_places.specs.Finals.{settled, points_at_end, for_sticks, before_penalties, final_of}

-- all bonuses are given, and no more: the uma, and what the four return
abbrev pub AllBonusesAreGiven : Type 0
AllBonusesAreGiven = (rules : TableRules) (points : ByPlayer ℤ) →
    sum_over_players (bonus_of rules points) ≡ uma_sum rules.uma +ℤ returned rules

-- the sticks that lie at the end go to one player, or are lost
abbrev pub SticksGoOnce : Type 0
SticksGoOnce = (rules : TableRules) (state : GameState) →
    sum_over_players (settled rules state) ≡ sum_over_players (of_player state.points) +ℤ pos (for_sticks rules.left state.sticks)

-- where the uma adds up to 0 and the points, with the sticks that are given, to four starts, the final points and the penalties do to 0
abbrev pub FinalsAddUpToNothing : Type 0
FinalsAddUpToNothing = (rules : TableRules) (state : GameState) (penalties : ByPlayer ℕ) →
    uma_sum rules.uma ≡ pos 0 →
    sum_over_players (of_player state.points) +ℤ pos (for_sticks rules.left state.sticks) ≡ pos (4 * rules.start) →
    sum_over_players (λ player. (final_of rules (points_at_end rules state) penalties player).total)
    +ℤ pos (over_players (of_player penalties)) ≡ pos 0

-- one is at most a hundred more than the other
abbrev pub AreWithinAHundred : ℤ → ℤ → Type 0
AreWithinAHundred one other = (one ≤ℤ (other +ℤ pos 100)) × (other ≤ℤ (one +ℤ pos 100))

-- where ties are shared, equal points have equal places, and equal bonuses but for one hundred that can't be shared
abbrev pub EqualPointsShare : Type 0
EqualPointsShare = (rules : TableRules) (points : ByPlayer ℤ) (one other : Player) →
    rules.ties ≡ Share → of_player points one ≡ of_player points other →
    (place_by_points rules.ties points one ≡ place_by_points rules.ties points other)
    × AreWithinAHundred (bonus_of rules points one) (bonus_of rules points other)

-- more points have an earlier place
abbrev pub MorePointsAreAhead : Type 0
MorePointsAreAhead = (rules : TableRules) (points : ByPlayer ℤ) (one other : Player) →
    of_player points other <ℤ of_player points one → place_by_points rules.ties points one < place_by_points rules.ties points other

-- whole hundreds, up or down
abbrev pub IsHundreds : ℤ → Type 0
IsHundreds points = (hundreds : ℤ) × (points ≡ pos 100 *ℤ hundreds)

-- no place has a greater bonus than the one before it, and each is whole hundreds
pub record HasFallingBonuses (rules : TableRules) : Type 0 where
  pub first : place_bonus rules 2 ≤ℤ place_bonus rules 1
  pub second : place_bonus rules 3 ≤ℤ place_bonus rules 2
  pub third : place_bonus rules 4 ≤ℤ place_bonus rules 3
  pub hundreds : (place : ℕ) → IsHundreds (place_bonus rules place)

-- then more points never have fewer final points, before penalties
abbrev pub MorePointsAreNoLess : Type 0
MorePointsAreNoLess = (rules : TableRules) (points : ByPlayer ℤ) (one other : Player) → HasFallingBonuses rules →
    of_player points other <ℤ of_player points one → before_penalties rules points other <ℤ before_penalties rules points one

-- the bonuses fall so where no rule is refused
abbrev pub AcceptedBonusesFall : Type 0
AcceptedBonusesFall = (rules : TableRules) → rules_fault rules ≡ None → HasFallingBonuses rules
