-- What a program is answered to the lines of a text of games.
use Rattle.std.specs.Prelude.{◌≡◌, ℕ, List, Option, None, Some}
use Rattle.riichi_hand.specs.Rules.{Rules}
use Rattle.desk_games.specs.Filling.{FillsGames}
use Rattle.riichi_desk_c.specs.Replies.{rules_numbered}

-- no line is answered where there are no rules
abbrev pub FillsGamesBy : Option Rules → List ℕ → ℕ → List ℕ → List ℕ → ℕ → ℕ → Type 0
FillsGamesBy None text from before after taken filled = (taken ≡ from) × (filled ≡ 0) × (after ≡ before)
FillsGamesBy (Some rules) text from before after taken filled = FillsGames rules text from before after taken filled

-- The lines of a text of games from a place on were answered into a room, as many as have room there, under the rules of this number.
abbrev pub FillsGamesUnder : ℕ → List ℕ → ℕ → List ℕ → List ℕ → ℕ → ℕ → Type 0
FillsGamesUnder number text from before after taken filled = FillsGamesBy (rules_numbered number) text from before after taken filled
