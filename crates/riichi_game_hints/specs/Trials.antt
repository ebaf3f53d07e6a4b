-- What is made of a refused line, by the state that it is tried in.
use Rattle.std.specs.Prelude.{ℕ, List}
use Rattle.riichi_game_text.specs.Names.{names_in}
use Rattle.riichi_game_hints.specs.Hints.{IsAccepted, KeepsOrGuesses, IsRest}
use Rattle.riichi_game_hints.specs.Lines.{PutsMadeBy}
use Rattle.riichi_game_hints.specs.declared.hint.Trial.{Trial}

abbrev pub IsAcceptedIn : Trial → List ℕ → Type 0
IsAcceptedIn trial other = IsAccepted (names_in trial.names.now) trial.progress.now trial.rules.now other

abbrev pub KeepsOrGuessesIn : Trial → List ℕ → Type 0
KeepsOrGuessesIn trial other = KeepsOrGuesses (names_in trial.names.now) trial.line.now trial.guess.now other

abbrev pub IsRestIn : Trial → List ℕ → List ℕ → Type 0
IsRestIn trial guess rest = IsRest (names_in trial.names.now) trial.progress.now trial.rules.now trial.line.now guess rest

-- behind the text that stood there, what was made of the line
abbrev pub PutsMade : Trial → List ℕ → List ℕ → Type 0
PutsMade trial before after = PutsMadeBy (IsRestIn trial) before after
