-- What stands below a refused line of a game.
use Rattle.std.specs.Prelude.{◌≡◌, ℕ, List, [], ◌++◌, codes, Ok, Err}
use Rattle.riichi_table.specs.declared.player.ByPlayer.{ByPlayer}
use Rattle.riichi_table.specs.declared.rules.TableRules.{TableRules}
use Rattle.riichi_table.specs.declared.outcome.Outcome.{Outcome}
use Rattle.riichi_game.specs.declared.game.Progress.{Progress}
use Rattle.riichi_game_text.specs.Entries.{outcome_of_entry}
use Rattle.riichi_game_text.specs.declared.fault.GameFault.{GameFault}
use Rattle.riichi_game_hints.specs.Keeping.{Keeps}
use Rattle.riichi_game_hints.specs.Lines.{game_mark, IsMadeBy}
use Rattle.riichi_game_hints.specs.Reasons.{IsLineReason, game_fault_words}

-- The line is accepted in this state.
abbrev pub IsAccepted : ByPlayer (List ℕ) → Progress → TableRules → List ℕ → Type 0
IsAccepted names progress rules line = (outcome : Outcome) × (outcome_of_entry names progress rules line ≡ Ok outcome)

-- Where nothing is guessed, the other line has the numbers of the refused one, and names the same players as often.
abbrev pub KeepsOrGuesses : ByPlayer (List ℕ) → List ℕ → List ℕ → List ℕ → Type 0
KeepsOrGuesses names line guess other = guess ≡ [] → Keeps names line other

-- a line to try
abbrev pub IsTried : ByPlayer (List ℕ) → Progress → TableRules → List ℕ → List ℕ → List ℕ → Type 0
IsTried names progress rules line guess other = IsAccepted names progress rules other × KeepsOrGuesses names line guess other

-- The words say for which fault a line like the refused one is refused too.
pub record IsAlso (names : ByPlayer (List ℕ)) (progress : Progress) (rules : TableRules) (words : List ℕ) : Type 0 where
  pub other : List ℕ
  pub fault : GameFault
  pub refused : outcome_of_entry names progress rules other ≡ Err fault
  pub words_are : words ≡ game_fault_words fault

-- What stands behind what is guessed: nothing; how a line is written; a line to try; or why a line like the refused one is refused too.
pub data IsRest (names : ByPlayer (List ℕ)) (progress : Progress) (rules : TableRules) (line guess : List ℕ) : List ℕ → Type 0 where
  nothing : IsRest names progress rules line guess []
  pattern : (words : List ℕ) → IsRest names progress rules line guess (codes "\n  write: " ++ words)
  tried : (other : List ℕ) → IsTried names progress rules line guess other → IsRest names progress rules line guess (game_mark guess ++ other)
  also : (words : List ℕ) → IsAlso names progress rules words → IsRest names progress rules line guess (codes "\n  also: " ++ words)

-- The text says what is wrong with a line that is refused for this fault in this state, and then what was made of it.
pub record IsGameHint (names : ByPlayer (List ℕ)) (progress : Progress) (rules : TableRules) (line : List ℕ) (fault : GameFault) (text : List ℕ) : Type 0 where
  pub reason : List ℕ
  pub is_reason : IsLineReason names line fault reason
  pub made : List ℕ
  pub is_made : IsMadeBy (IsRest names progress rules line) made
  pub text_is : text ≡ codes "  " ++ (reason ++ made)
