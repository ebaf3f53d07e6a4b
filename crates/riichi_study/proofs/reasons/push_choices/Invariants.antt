use Rattle.std.proofs.Common.{◌≡◌, ◌+◌, ◌*◌, ◌≤◌, ◌++◌, drop, false}
use Rattle.std.specs.Prelude.{nat_lt}
use Rattle.arrayvec.specs.ArrayString.{array_string_len}
use Rattle.riichi_study.specs.Reasons.{choices_from}
use Rattle.riichi_study.specs.declared.reasons.TheConstants.{MOST_CHOICE}
use Rattle.riichi_study.proofs.reasons.push_choices.Given as goal

-- the choices so far are written, and those that are left come behind them
abbrev pub invariant-loop-place : goal.invariant-loop-place
invariant-loop-place l = record {
  written : l.initial.text.bytes ++ choices_from false l.discards ≡ l.text.bytes ++ choices_from (nat_lt 0 l.place) (drop l.place l.discards);
  few : array_string_len l.text ≤ array_string_len l.initial.text + l.place * MOST_CHOICE;
}
