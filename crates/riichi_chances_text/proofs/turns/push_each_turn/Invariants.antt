use Rattle.std.proofs.Common.{◌≡◌, ◌+◌, ◌*◌, ◌≤◌, ◌++◌}
use Rattle.arrayvec.specs.ArrayString.{array_string_len}
use Rattle.riichi_chances.specs.Odds.{odds_at}
use Rattle.riichi_chances_text.specs.OddsTexts.{each_turn}
use Rattle.riichi_chances_text.specs.declared.turns.TheConstants.{MOST_TURN}
use Rattle.riichi_chances_text.proofs.turns.push_each_turn.Given as goal

-- those so far are written
abbrev pub invariant-loop-before : goal.invariant-loop-before
invariant-loop-before g l = record {
  bytes : l.text.bytes ≡ l.initial.text.bytes ++ each_turn (odds_at l.chances) l.before;
  few : array_string_len l.text ≤ array_string_len l.initial.text + l.before * MOST_TURN;
}
