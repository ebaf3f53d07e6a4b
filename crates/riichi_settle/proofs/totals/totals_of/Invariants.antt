use Rattle.std.proofs.Common.{◌≡◌, ◌≤◌, ◌*◌, take}
use Rattle.std.specs.List.{sum_by}
use Rattle.riichi_table.specs.declared.player.Player.TheVariants.{First, Second, Third, Fourth}
use Rattle.riichi_settle.specs.Settled.{got_by, given_by, sticks_bet, sticks_taken}
use Rattle.riichi_settle.proofs.totals.totals_of.Given as goal

abbrev pub invariant-loop-step : goal.invariant-loop-step
invariant-loop-step l = record {
  got_first : l.got.first ≡ sum_by (got_by First) (take l.step-index l.moves);
  got_second : l.got.second ≡ sum_by (got_by Second) (take l.step-index l.moves);
  got_third : l.got.third ≡ sum_by (got_by Third) (take l.step-index l.moves);
  got_fourth : l.got.fourth ≡ sum_by (got_by Fourth) (take l.step-index l.moves);
  given_first : l.given.first ≡ sum_by (given_by First) (take l.step-index l.moves);
  given_second : l.given.second ≡ sum_by (given_by Second) (take l.step-index l.moves);
  given_third : l.given.third ≡ sum_by (given_by Third) (take l.step-index l.moves);
  given_fourth : l.given.fourth ≡ sum_by (given_by Fourth) (take l.step-index l.moves);
  bet : l.bet ≡ sum_by sticks_bet (take l.step-index l.moves);
  taken : l.taken ≡ sum_by sticks_taken (take l.step-index l.moves);
  few_got_first : l.got.first ≤ 4294967296 * l.step-index;
  few_got_second : l.got.second ≤ 4294967296 * l.step-index;
  few_got_third : l.got.third ≤ 4294967296 * l.step-index;
  few_got_fourth : l.got.fourth ≤ 4294967296 * l.step-index;
  few_given_first : l.given.first ≤ 4294967296 * l.step-index;
  few_given_second : l.given.second ≤ 4294967296 * l.step-index;
  few_given_third : l.given.third ≤ 4294967296 * l.step-index;
  few_given_fourth : l.given.fourth ≤ 4294967296 * l.step-index;
  few_bet : l.bet ≤ 1 * l.step-index;
  few_taken : l.taken ≤ 65535 * l.step-index;
}
