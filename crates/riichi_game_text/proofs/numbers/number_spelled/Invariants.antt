use Rattle.std.proofs.Common.{◌≡◌, ◌+◌, ◌≤◌, drop}
use Rattle.riichi_game_text.specs.Numbers.{number_spelled}
use Rattle.riichi_game_text.proofs.DigitLemmas.{most}
use Rattle.riichi_game_text.proofs.numbers.number_spelled.Given as goal

-- the digits so far are the number
abbrev pub invariant-loop-digit : goal.invariant-loop-digit
invariant-loop-digit l = record {
  value : number_spelled l.number (drop l.digit-index l.digits) ≡ number_spelled 0 l.digits;
  small : l.number + 1 ≤ most l.digit-index;
}
