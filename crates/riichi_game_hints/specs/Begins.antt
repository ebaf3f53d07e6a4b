-- What stands below a refused line of which no game has a state.
use Rattle.std.specs.Prelude.{◌≡◌, ◌⊎◌, ℕ, List, [], ◌++◌, codes, Option, None, Some}
use Rattle.riichi_hand.specs.Rules.{Rules}
use Rattle.riichi_game_text.specs.GameLines.{GameSaid, game_of, hand_rules_word}
use Rattle.riichi_game_text.specs.TableWords.{IsHandRules}
use Rattle.riichi_game_text.specs.Words.{said_in}
use Rattle.riichi_game_text.specs.declared.fault.GameFault.{GameFault}
use Rattle.riichi_game_text.specs.declared.fault.GameFault.TheVariants.{G2, G14}
use Rattle.riichi_game_hints.specs.Lines.{game_mark_of, IsMadeBy, PutsMadeBy}
use Rattle.riichi_game_hints.specs.Reasons.{game_fault_words}

-- Behind `game` the words begin a game, under the given rules for hands where they name none.
pub record IsBegun (given : Rules) (words : List ℕ) : Type 0 where
  pub hand : Option Rules
  pub named : IsHandRules given (hand_rules_word (said_in words)) hand
  pub said : GameSaid
  pub says : game_of hand (said_in words) ≡ Some said

-- Alone behind `game` the word begins none.
pub record IsWrong (given : Rules) (word : List ℕ) : Type 0 where
  pub hand : Option Rules
  pub named : IsHandRules given (hand_rules_word (said_in word)) hand
  pub says_none : game_of hand (said_in word) ≡ None

abbrev pub begin_words : GameFault → List ℕ
begin_words G2 = codes "no game has begun: a line game comes before all others"
begin_words G14 = codes "the line game before it is refused: another one begins a game"
begin_words fault = game_fault_words fault

-- a word of the rules that can't be
pub record IsWrongWord (given : Rules) (reason : List ℕ) : Type 0 where
  pub word : List ℕ
  pub is_wrong : IsWrong given word
  pub words_are : reason ≡ word ++ codes " can't be: the rules of a table have no such word or value"

abbrev pub IsBeginReason : Rules → GameFault → List ℕ → Type 0
IsBeginReason given fault reason = (reason ≡ begin_words fault) ⊎ IsWrongWord given reason

-- nothing, how a line `game` is written, or one to try
pub data IsRest (given : Rules) (guess : List ℕ) : List ℕ → Type 0 where
  nothing : IsRest given guess []
  pattern : (words : List ℕ) → IsRest given guess (codes "\n  write: " ++ words)
  tried : (words : List ℕ) → IsBegun given words → IsRest given guess (game_mark_of guess ++ words)

-- behind the text that stood there, what was made of the line
abbrev pub PutsBegun : Rules → List ℕ → List ℕ → Type 0
PutsBegun given before after = PutsMadeBy (IsRest given) before after

pub record IsBeginHint (given : Rules) (fault : GameFault) (text : List ℕ) : Type 0 where
  pub reason : List ℕ
  pub is_reason : IsBeginReason given fault reason
  pub made : List ℕ
  pub is_made : IsMadeBy (IsRest given) made
  pub text_is : text ≡ codes "  " ++ (reason ++ made)
