-- Faults as numbers; 0 is none.
use Rattle.std.specs.Prelude.{ℕ, Option, Some, None}
use Rattle.riichi_table.specs.declared.fault.OutcomeFault.{OutcomeFault}
use Rattle.riichi_table.specs.declared.fault.OutcomeFault.TheVariants as fault
use Rattle.riichi_table.specs.declared.rules_fault.RulesFault.{RulesFault}
use Rattle.riichi_table.specs.declared.rules_fault.RulesFault.TheVariants as rules
use Rattle.riichi_game_rows.specs.declared.fault_numbers.RowFault.{RowFault}
use Rattle.riichi_game_rows.specs.declared.fault_numbers.RowFault.TheVariants.{SaysNothing, Refused}

abbrev pub rules_fault_number : Option RulesFault → ℕ
rules_fault_number None = 0
rules_fault_number (Some rules.Points) = 1
rules_fault_number (Some rules.Start) = 2
rules_fault_number (Some rules.Return) = 3
rules_fault_number (Some rules.UmaStep) = 4
rules_fault_number (Some rules.UmaOrder) = 5
rules_fault_number (Some rules.UmaSum) = 6

-- in the order in which they are looked for
abbrev pub outcome_fault_number : OutcomeFault → ℕ
outcome_fault_number fault.NobodyWins = 1
outcome_fault_number fault.DiscarderWins = 2
outcome_fault_number fault.WinnerLiable = 3
outcome_fault_number fault.NoSuchWorth = 4
outcome_fault_number fault.LiableLimits = 5
outcome_fault_number fault.LiableOff = 6
outcome_fault_number fault.NagashiOff = 7
outcome_fault_number fault.BetOfTooFew = 8
outcome_fault_number fault.RiichiNotReady = 9
outcome_fault_number fault.StandsSum = 10
outcome_fault_number fault.StandsRound = 11
outcome_fault_number fault.OverCounters = 12
outcome_fault_number fault.OverSticks = 13
outcome_fault_number fault.OverPoints = 14
outcome_fault_number fault.GameOver = 15

-- of a row of an outcome
abbrev pub row_fault_number : Option RowFault → ℕ
row_fault_number None = 0
row_fault_number (Some SaysNothing) = 202
row_fault_number (Some (Refused fault)) = outcome_fault_number fault
