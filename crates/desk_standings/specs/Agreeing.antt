-- In which rules two tables agree.
use Rattle.std.specs.Prelude.{◌≡◌}
use Rattle.riichi_table.specs.declared.rules.TableRules.{TableRules}

-- in the rules for hands, and in those by which final points are counted
pub record AgreeInPoints (one other : TableRules) : Type 0 where
  pub hand : one.hand ≡ other.hand
  pub start : one.start ≡ other.start
  pub returns : one.returns ≡ other.returns
  pub uma : one.uma ≡ other.uma
  pub ties : one.ties ≡ other.ties
  pub left : one.left ≡ other.left
  pub chombo : one.chombo ≡ other.chombo
  pub extra : one.extra ≡ other.extra

-- in the rules by which deals are settled
pub record AgreeInDeals (one other : TableRules) : Type 0 where
  pub ron : one.ron ≡ other.ron
  pub counters : one.counters ≡ other.counters
  pub sticks : one.sticks ≡ other.sticks
  pub liable : one.liable ≡ other.liable
  pub nagashi : one.nagashi ≡ other.nagashi
  pub renchan : one.renchan ≡ other.renchan
  pub length : one.length ≡ other.length
  pub bust : one.bust ≡ other.bust
  pub stop : one.stop ≡ other.stop
