-- Which player a word may mean that is no player's name.
use Rattle.std.specs.Prelude.{ℕ, ◌+◌, ◌==◌, List, [], ◌∷◌, length, Bool, true, false, ◌&&◌, ◌||◌, nat_le, Option, None, if◌then◌else◌}
use Rattle.riichi_table.specs.Players.{of_player, by_players, of_some, count_players}
use Rattle.riichi_table.specs.declared.player.Player.{Player}
use Rattle.riichi_table.specs.declared.player.ByPlayer.{ByPlayer}
use Rattle.riichi_game_text.specs.Names.{first_player}

-- ---- words that are nearly the same

-- a letter in small
abbrev pub in_small : ℕ → ℕ
in_small byte = if nat_le 65 byte && nat_le byte 90 then byte + 32 else byte

abbrev pub are_same_letter : ℕ → ℕ → Bool
are_same_letter one other = in_small one == in_small other

-- the same but for capital letters
abbrev pub is_same_small : List ℕ → List ℕ → Bool
is_same_small [] [] = true
is_same_small [] (second ∷ name) = false
is_same_small (first ∷ word) [] = false
is_same_small (first ∷ word) (second ∷ name) = are_same_letter first second && is_same_small word name

-- a name begins with the word, but for capital letters
abbrev pub begins_small : List ℕ → List ℕ → Bool
begins_small [] name = true
begins_small (first ∷ word) [] = false
begins_small (first ∷ word) (second ∷ name) = are_same_letter first second && begins_small word name

-- the first two letters stand the other way round, and the rest is the same
abbrev pub is_exchanged_behind : ℕ → List ℕ → ℕ → List ℕ → Bool
is_exchanged_behind first (third ∷ after) second (fourth ∷ rest) =
    are_same_letter first fourth && are_same_letter third second && is_same_small after rest
is_exchanged_behind first after second rest = false

abbrev pub is_exchanged : List ℕ → List ℕ → Bool
is_exchanged (first ∷ after) (second ∷ rest) = is_exchanged_behind first after second rest
is_exchanged word name = false

-- the first letter is wrong and nothing else: in the place of another, too many, missing or exchanged; both words are given with what
-- stands behind their first letters
abbrev pub is_other : List ℕ → List ℕ → List ℕ → List ℕ → Bool
is_other word after name rest =
    is_same_small after rest || is_same_small after name || is_same_small word rest || is_exchanged word name

-- One slip makes the word a name, or none: a letter in the place of another, one more, one fewer, or two exchanged.
abbrev pub is_slip : List ℕ → List ℕ → Bool
is_slip [] name = nat_le (length name) 1
is_slip (first ∷ after) [] = nat_le (length (first ∷ after)) 1
is_slip (first ∷ after) (second ∷ rest) =
    if are_same_letter first second then is_slip after rest else is_other (first ∷ after) after (second ∷ rest) rest

-- a word of one letter is near to no other
abbrev pub is_near : List ℕ → List ℕ → Bool
is_near word name = nat_le 2 (length word) && is_slip word name

-- ---- the player

abbrev pub has_same_name : ByPlayer (List ℕ) → List ℕ → Player → Bool
has_same_name names word player = is_same_small word (of_player names player)

abbrev pub has_begun_name : ByPlayer (List ℕ) → List ℕ → Player → Bool
has_begun_name names word player = begins_small word (of_player names player)

abbrev pub has_near_name : ByPlayer (List ℕ) → List ℕ → Player → Bool
has_near_name names word player = is_near word (of_player names player)

-- the player of whom alone it holds
abbrev pub only_player : ByPlayer Bool → Option Player
only_player players = if count_players (of_player players) == 1 then first_player (of_player players) else None

-- The one player whose name is the word but for capital letters; where there is none, whose name begins so; where there is none, whose
-- name is one slip from it.
unfoldable pub nearest_player : ByPlayer (List ℕ) → List ℕ → Option Player
nearest_player names word =
    if of_some (of_player (by_players (has_same_name names word))) then only_player (by_players (has_same_name names word))
    else if of_some (of_player (by_players (has_begun_name names word))) then only_player (by_players (has_begun_name names word))
    else only_player (by_players (has_near_name names word))
