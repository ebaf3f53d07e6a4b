-- What moves add up to for a player.
use Rattle.std.specs.Prelude.{ℕ, ◌≡◌, ◌*◌, ◌≤◌, List}
use Rattle.std.specs.List.{sum_by}
use Rattle.riichi_table.specs.declared.player.Player.{Player}
use Rattle.riichi_settle.specs.Settled.{got_by, given_by}
use Rattle.riichi_settle.specs.declared.moved.Move.{Move}

-- what a player is given and gives, each within what 40 numbers of four bytes add up to
pub record AreTotalsOf (player : Player) (moves : List Move) (got given : ℕ) : Type 0 where
  pub is_got : got ≡ sum_by (got_by player) moves
  pub is_given : given ≡ sum_by (given_by player) moves
  pub few_got : got ≤ 4294967296 * 40
  pub few_given : given ≤ 4294967296 * 40
