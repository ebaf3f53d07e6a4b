-- What a line says that another one has to say too: its numbers, and its players.
use Rattle.std.specs.Prelude.{◌≡◌, ℕ, ◌==◌, List, map, count_by, Bool, false, ◌||◌, Option, None, Some, if◌then◌else◌}
use Rattle.riichi_tiles.specs.Notation.{is_digit}
use Rattle.riichi_hand.specs.Words.{words_of}
use Rattle.riichi_table.specs.Players.{is_same_player}
use Rattle.riichi_table.specs.declared.player.Player.{Player}
use Rattle.riichi_table.specs.declared.player.Player.TheVariants.{First, Second, Third, Fourth}
use Rattle.riichi_table.specs.declared.player.ByPlayer.{ByPlayer}
use Rattle.riichi_game_text.specs.Names.{player_named}

-- ---- numbers

abbrev pub digit_or_space : ℕ → ℕ
digit_or_space byte = if is_digit byte then byte else 32

-- the numbers of a line, in order: digits, with whatever else between them
abbrev pub numbers_in : List ℕ → List (List ℕ)
numbers_in line = words_of (map digit_or_space line)

-- ---- players

-- a comma, `:` or `=`, which no name has
abbrev pub space_for_mark : ℕ → ℕ
space_for_mark byte = if (byte == 44) || (byte == 58) || (byte == 61) then 32 else byte

abbrev pub is_player : Option Player → Player → Bool
is_player None player = false
is_player (Some named) player = is_same_player named player

-- the word is a name of the player, whole or cut
abbrev pub is_named : ByPlayer (List ℕ) → Player → List ℕ → Bool
is_named names player word = is_player (player_named names word) player

abbrev pub times_in : ByPlayer (List ℕ) → Player → List (List ℕ) → ℕ
times_in names player words = count_by (is_named names player) words

-- how often a line names a player
abbrev pub times_named : ByPlayer (List ℕ) → Player → List ℕ → ℕ
times_named names player line = times_in names player (words_of (map space_for_mark line))

-- ---- together

abbrev pub KeepsPlayer : ByPlayer (List ℕ) → List ℕ → List ℕ → Player → Type 0
KeepsPlayer names line other player = times_named names player line ≡ times_named names player other

abbrev pub KeepsPlayers : ByPlayer (List ℕ) → List ℕ → List ℕ → Type 0
KeepsPlayers names line other =
    KeepsPlayer names line other First × KeepsPlayer names line other Second × KeepsPlayer names line other Third × KeepsPlayer names line other Fourth

-- The other line has the numbers of this one, in order, and names each player as often.
abbrev pub Keeps : ByPlayer (List ℕ) → List ℕ → List ℕ → Type 0
Keeps names line other = (numbers_in line ≡ numbers_in other) × KeepsPlayers names line other
