-- A game of a text so far.
use Rattle.std.specs.Prelude.{ℕ, List, Bool, true, false, Option, None}
use Rattle.riichi_table.specs.declared.player.ByPlayer.{ByPlayer}
use Rattle.riichi_table.specs.declared.rules.TableRules.{TableRules}
use Rattle.riichi_game.specs.declared.game.Progress.{Progress}

-- The players, the rules, how far the game has come by its accepted lines, how far it had come before the last of these, where that one
-- can be taken back, and whether a line of it was refused.
pub record GameSoFar : Type 0 where
  pub names : ByPlayer (List ℕ)
  pub rules : TableRules
  pub progress : Progress
  pub former : Option Progress
  pub is_held : Bool

-- from then on all its lines are refused
abbrev pub hold : GameSoFar → GameSoFar
hold game = record game { is_held = true }

-- its refused lines are taken back
abbrev pub release : GameSoFar → GameSoFar
release game = record game { is_held = false }

-- its last accepted line is taken back, before which it had come so far
abbrev pub come_back : GameSoFar → Progress → GameSoFar
come_back game before = record game { progress = before; former = None }
