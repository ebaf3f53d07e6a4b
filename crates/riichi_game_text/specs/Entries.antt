-- A line of a game that has begun.
use Rattle.std.specs.Prelude.{ℕ, ◌==◌, List, [], ◌∷◌, length, codes, Bool, not, ◌||◌, nat_lt, Option, None, Some, Result, Ok, Err, if◌then◌else◌}
use Rattle.std.specs.List.{list_any}
use Rattle.std.specs.Str.{bytes_eq, is_utf8}
use Rattle.riichi_table.specs.declared.player.ByPlayer.{ByPlayer}
use Rattle.riichi_table.specs.declared.rules.TableRules.{TableRules}
use Rattle.riichi_table.specs.declared.state.GameState.{GameState}
use Rattle.riichi_table.specs.declared.outcome.Outcome.{Outcome}
use Rattle.riichi_table.specs.declared.fault.OutcomeFault.{OutcomeFault}
use Rattle.riichi_table.specs.declared.fault.OutcomeFault.TheVariants as fault
use Rattle.riichi_game.specs.Faults.{fault_of}
use Rattle.riichi_game.specs.declared.game.Progress.{Progress}
use Rattle.riichi_game_text.specs.Words.{said_in}
use Rattle.riichi_game_text.specs.PlainLines.{draw_of, abort_of, chombo_of, penalty_of, end_of}
use Rattle.riichi_game_text.specs.StandsLines.{stands_of}
use Rattle.riichi_game_text.specs.Won.{tsumo_of}
use Rattle.riichi_game_text.specs.Rons.{ron_of}
use Rattle.riichi_game_text.specs.declared.fault.GameFault.{GameFault}
use Rattle.riichi_game_text.specs.declared.fault.GameFault.TheVariants.{G1, G2, G4, G5, G6, G8, G9, G10, G11, G12, G13}

-- below the space, or DEL
abbrev pub is_control : ℕ → Bool
is_control byte = nat_lt byte 32 || (byte == 127)

-- over 4096 bytes, no UTF-8, or with a control byte; a note counts
unfoldable pub is_odd : List ℕ → Bool
is_odd line = nat_lt 4096 (length line) || list_any is_control line || not (is_utf8 line)

-- what a line says by its first word, or its first fault of words, names, values and hands
abbrev pub outcome_by : ByPlayer (List ℕ) → TableRules → GameState → List ℕ → List (List ℕ) → Result Outcome GameFault
outcome_by names rules state first words =
    if bytes_eq first (codes "ron") then ron_of names rules state words
    else if bytes_eq first (codes "tsumo") then tsumo_of names rules state words
    else if bytes_eq first (codes "draw") then draw_of names words
    else if bytes_eq first (codes "abort") then abort_of names words
    else if bytes_eq first (codes "chombo") then chombo_of names words
    else if bytes_eq first (codes "penalty") then penalty_of names words
    else if bytes_eq first (codes "stands") then stands_of rules words
    else if bytes_eq first (codes "end") then end_of words
    else Err G2

unfoldable pub outcome_said : ByPlayer (List ℕ) → TableRules → GameState → List (List ℕ) → Result Outcome GameFault
outcome_said names rules state [] = Err G2
outcome_said names rules state (first ∷ words) = outcome_by names rules state first words

-- the code of a fault by the rules and by what the table shows
abbrev pub game_fault_of : OutcomeFault → GameFault
game_fault_of fault.NobodyWins = G4
game_fault_of fault.DiscarderWins = G5
game_fault_of fault.WinnerLiable = G5
game_fault_of fault.NoSuchWorth = G6
game_fault_of fault.LiableLimits = G6
game_fault_of fault.LiableOff = G8
game_fault_of fault.NagashiOff = G8
game_fault_of fault.BetOfTooFew = G9
game_fault_of fault.RiichiNotReady = G10
game_fault_of fault.StandsSum = G11
game_fault_of fault.StandsRound = G11
game_fault_of fault.OverCounters = G12
game_fault_of fault.OverSticks = G12
game_fault_of fault.OverPoints = G12
game_fault_of fault.GameOver = G13

abbrev pub unless_fault : Option OutcomeFault → Outcome → Result Outcome GameFault
unless_fault None outcome = Ok outcome
unless_fault (Some fault) outcome = Err (game_fault_of fault)

abbrev pub accepted : Progress → TableRules → Result Outcome GameFault → Result Outcome GameFault
accepted progress rules (Err fault) = Err fault
accepted progress rules (Ok outcome) = unless_fault (fault_of progress rules outcome) outcome

-- the outcome of a line, or its first fault in the order of the codes
unfoldable pub outcome_of_entry : ByPlayer (List ℕ) → Progress → TableRules → List ℕ → Result Outcome GameFault
outcome_of_entry names progress rules line =
    if is_odd line then Err G1 else accepted progress rules (outcome_said names rules progress.state (said_in line))
