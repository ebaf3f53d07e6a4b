-- What a hall holds: the games of a tournament that were taken.
use Rattle.std.specs.Prelude.{◌≡◌, ℕ, List, [], ◌∷◌, ◌++◌, Bool, true, false, Option, None, Some}
use Rattle.riichi_table.specs.Players.{of_player}
use Rattle.riichi_table.specs.declared.player.Player.{Player}
use Rattle.riichi_table.specs.declared.player.Player.TheVariants.{First, Second, Third, Fourth}
use Rattle.riichi_table.specs.declared.rules.TableRules.{TableRules}
use Rattle.riichi_game_text.specs.Names.{names_in}
use Rattle.riichi_standings.specs.Tournaments.{Games, no_games, says_alike, has_table, has_played, with_table_taken, with_seat}
use Rattle.desk_standings.specs.declared.ended.EndedGame.{EndedGame}
use Rattle.desk_standings.specs.declared.trouble.Why.{Why}
use Rattle.desk_standings.specs.declared.trouble.Why.TheVariants as why

-- the rules of the first game, and the games so far
pub record Held : Type 0 where
  pub rules : Option TableRules
  pub games : Games

abbrev pub nothing_held : Held
nothing_held = record { rules = None; games = no_games }

-- ---- one game more

abbrev pub AreTheFirst : Option TableRules → TableRules → Type 0
AreTheFirst None rules = Unit {0}
AreTheFirst (Some first) rules = first ≡ rules

abbrev pub name_in : EndedGame → Player → List ℕ
name_in game player = of_player (names_in game.names) player

-- a player of a game has had a game of its session
abbrev pub has_had : Held → EndedGame → Player → Bool
has_had held game player = has_played held.games game.session (name_in game player)

-- none of the four has
pub record AreFree (held : Held) (game : EndedGame) : Type 0 where
  pub first : has_had held game First ≡ false
  pub second : has_had held game Second ≡ false
  pub third : has_had held game Third ≡ false
  pub fourth : has_had held game Fourth ≡ false

-- A game can be taken: its rules are those of the first game, it says its session or not as the games before it do, and neither its table
-- nor any of its players has had a game of that session.
pub record CanTake (held : Held) (game : EndedGame) : Type 0 where
  pub rules : AreTheFirst held.rules game.rules
  pub session : says_alike held.games game.session ≡ true
  pub table : has_table held.games game.session game.table ≡ false
  pub players : AreFree held game

-- what a player has of a game
abbrev pub with_game_of : EndedGame → Games → Player → Games
with_game_of game games player = with_seat games (name_in game player) game.session (of_player game.finals player).place (of_player game.finals player).total

abbrev pub with_players : EndedGame → Games → Games
with_players game games = with_game_of game (with_game_of game (with_game_of game (with_game_of game games First) Second) Third) Fourth

abbrev pub with_ended : Held → EndedGame → Held
with_ended held game = record { rules = Some game.rules; games = with_players game (with_table_taken held.games game.session game.table) }

-- ---- a game that can't be taken

-- a player of the game, by name, has had a game of its session
abbrev pub IsTwice : Held → EndedGame → Why → Type 0
IsTwice held game (why.PlayerTwice name) = (player : Player) × (name.bytes ≡ name_in game player) × (has_had held game player ≡ true)
IsTwice held game other = ⊥

abbrev pub IsRefusal : Held → EndedGame → Why → Type 0
IsRefusal held game (why.OtherRules rule) = AreTheFirst held.rules game.rules → ⊥
IsRefusal held game why.SessionUnsaid = says_alike held.games game.session ≡ false
IsRefusal held game why.TableTwice = has_table held.games game.session game.table ≡ true
IsRefusal held game other = IsTwice held game other

-- memory isn't there, or there is more than can be counted
abbrev pub IsWant : Why → Type 0
IsWant why.TooMany = Unit {0}
IsWant why.Memory = Unit {0}
IsWant other = ⊥

-- What is refused changes nothing. Where memory isn't there, or there is more than can be counted, a part of the game may be held.
abbrev pub IsLeftAlone : Held → EndedGame → Why → Held → Type 0
IsLeftAlone held game why.TooMany after = Unit {0}
IsLeftAlone held game why.Memory after = Unit {0}
IsLeftAlone held game other after = IsRefusal held game other × (after ≡ held)

-- ---- games in turn

abbrev pub TakesInTurn : Held → List EndedGame → Held → Type 0
TakesInTurn held [] last = last ≡ held
TakesInTurn held (game ∷ games) last = CanTake held game × TakesInTurn (with_ended held game) games last

-- The games up to one were taken, and that one wasn't.
pub record StopsAt (held : Held) (games : List EndedGame) (why : Why) (last : Held) : Type 0 where
  pub front : List EndedGame
  pub game : EndedGame
  pub behind : List EndedGame
  pub parts : games ≡ front ++ game ∷ behind
  pub before : Held
  pub taken : TakesInTurn held front before
  pub left : IsLeftAlone before game why last
