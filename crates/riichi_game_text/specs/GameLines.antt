-- The line that begins a game.
use Rattle.std.specs.Prelude.{ℕ, List, codes, Option, None, Some}
use Rattle.riichi_hand.specs.Rules.{Rules}
use Rattle.riichi_table.specs.declared.player.ByPlayer.{ByPlayer}
use Rattle.riichi_table.specs.declared.rules.TableRules.{TableRules}
use Rattle.riichi_game_text.specs.Words.{name_words, rule_words}
use Rattle.riichi_game_text.specs.Names.{names_said, names_in}
use Rattle.riichi_game_text.specs.TableWords.{first_value, table_rules_of, number_if_said}
use Rattle.riichi_game_text.specs.declared.game_line.GameLine.{GameLine}

-- names, rules, and where the game stands in a tournament
pub record GameSaid : Type 0 where
  pub names : ByPlayer (List ℕ)
  pub rules : TableRules
  pub session : Option ℕ
  pub at : Option ℕ

abbrev pub said_by : GameLine → GameSaid
said_by game = record { names = names_in game.names; rules = game.rules; session = game.session; at = game.at }

abbrev pub game_with : Option (ByPlayer (List ℕ)) → Option TableRules → List (List ℕ) → Option GameSaid
game_with (Some names) (Some rules) words = Some (record {
  names = names;
  rules = rules;
  session = number_if_said (first_value (codes "session") (rule_words words));
  at = number_if_said (first_value (codes "at") (rule_words words));
})
game_with names rules words = None

-- what the words behind `game` say, by the rules for hands that they name: each word with `=` is one of the rules, each word without
-- a name; none where they can't be
abbrev pub game_of : Option Rules → List (List ℕ) → Option GameSaid
game_of hand words = game_with (names_said (name_words words)) (table_rules_of hand (rule_words words)) words

abbrev pub hand_rules_word : List (List ℕ) → Option (List ℕ)
hand_rules_word words = first_value (codes "rules") (rule_words words)
