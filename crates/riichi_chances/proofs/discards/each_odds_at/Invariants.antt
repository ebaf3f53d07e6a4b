use Rattle.std.proofs.Common.{◌≡◌, take}
use Rattle.riichi_chances.specs.Odds.{each_odds_at}
use Rattle.riichi_chances.proofs.discards.each_odds_at.Given as goal

-- those so far are there
abbrev pub invariant-loop-one : goal.invariant-loop-one
invariant-loop-one l = record {
  odds : l.odds.items ≡ each_odds_at (take l.one-index l.each) l.turns;
}
