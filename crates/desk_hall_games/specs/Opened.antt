-- The first line of a book's text.
use Rattle.std.specs.Prelude.{◌≡◌, ◌⊎◌, ◌<◌, ℕ, length, List, [], ◌∷◌, Option, None, Some, codes, if◌then◌else◌}
use Rattle.std.specs.Str.{bytes_eq}
use Rattle.riichi_hand.specs.Rules.{Rules}
use Rattle.riichi_tiles.specs.Melds.{cut_at}
use Rattle.riichi_game.specs.Games.{first_progress}
use Rattle.riichi_game_text.specs.Entries.{is_odd}
use Rattle.riichi_game_text.specs.GameLines.{GameSaid, game_of, hand_rules_word}
use Rattle.riichi_game_text.specs.TableWords.{IsHandRules}
use Rattle.riichi_game_text.specs.Words.{said_in}
use Rattle.desk_hall_games.specs.Positions.{game_in}
use Rattle.desk_hall_games.specs.declared.position.GamePosition.{GamePosition}

abbrev pub behind_game : List (List ℕ) → Option (List (List ℕ))
behind_game [] = None
behind_game (word ∷ words) = if bytes_eq word (codes "game") then Some words else None

-- the words behind `game`, where a line begins a game
unfoldable pub words_of_game : List ℕ → Option (List (List ℕ))
words_of_game line = if is_odd line then None else behind_game (said_in line)

-- The line begins a game, and its words say that; or it can't be one, where nothing is said.
pub record IsGameLine (given : Rules) (line : List ℕ) (game : Option GameSaid) : Type 0 where
  pub words : List (List ℕ)
  pub words_are : words_of_game line ≡ Some words
  pub hand : Option Rules
  pub by_rules : IsHandRules given (hand_rules_word words) hand
  pub says : game_of hand words ≡ game

abbrev pub SaysBook : Rules → List ℕ → GameSaid → Type 0
SaysBook given line game = IsGameLine given line (Some game)

abbrev pub SaysNoBook : Rules → List ℕ → Type 0
SaysNoBook given line = (words_of_game line ≡ None) ⊎ IsGameLine given line None

-- The first line of a text is ended and says the game of this position, which is before the first deal; and this text comes behind it.
pub record Opens (given : Rules) (text : List ℕ) (start : GamePosition) (deals : List ℕ) : Type 0 where
  pub line : List ℕ
  pub cut : cut_at 10 text ≡ Some (line, deals)
  pub shorter : length deals < length text
  pub says : SaysBook given line (game_in start)
  pub no_outcome : start.outcome ≡ None
  pub first : start.after ≡ first_progress start.game.rules

-- The first line of a text isn't ended, or begins no game.
pub data OpensNone (given : Rules) (text : List ℕ) : Type 0 where
  Unended : cut_at 10 text ≡ None → OpensNone given text
  NoGame : (line deals : List ℕ) → cut_at 10 text ≡ Some (line, deals) → SaysNoBook given line → OpensNone given text
