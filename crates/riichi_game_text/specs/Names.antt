-- The names of the four players.
use Rattle.std.specs.Prelude.{ℕ, ◌==◌, List, [], ◌∷◌, length, codes, Bool, not, ◌&&◌, ◌||◌, nat_le, nat_lt, Option, None, Some, if◌then◌else◌}
use Rattle.std.specs.List.{list_all, starts_with}
use Rattle.std.specs.Str.{bytes_eq, is_utf8}
use Rattle.riichi_table.specs.Players.{of_player, by_players, of_some, count_players}
use Rattle.riichi_table.specs.declared.player.Player.{Player}
use Rattle.riichi_table.specs.declared.player.Player.TheVariants.{First, Second, Third, Fourth}
use Rattle.riichi_table.specs.declared.player.ByPlayer.{ByPlayer}
use Rattle.riichi_game_text.specs.Words.{begins_note}
use Rattle.riichi_game_text.specs.declared.name.Names.{Names}

-- no space, comma, `=`, `:` and control byte
abbrev pub is_player_name_byte : ℕ → Bool
is_player_name_byte byte = nat_lt 32 byte && not (byte == 44) && not (byte == 58) && not (byte == 61) && not (byte == 127)

-- 1 to 32 bytes of UTF-8, of which the first is no `#`
unfoldable pub is_player_name : List ℕ → Bool
is_player_name word =
    nat_le 1 (length word) && nat_le (length word) 32 && not (begins_note word) && list_all is_player_name_byte word && is_utf8 word

-- the texts of the four
abbrev pub names_in : Names → ByPlayer (List ℕ)
names_in names = by_players (λ player. (of_player names.names player).bytes)

-- ---- the names of a line `game`

abbrev pub have_equals : ByPlayer (List ℕ) → Bool
have_equals names =
    bytes_eq names.first names.second || bytes_eq names.first names.third || bytes_eq names.first names.fourth
    || bytes_eq names.second names.third || bytes_eq names.second names.fourth || bytes_eq names.third names.fourth

abbrev pub are_names : ByPlayer (List ℕ) → Bool
are_names names =
    is_player_name names.first && is_player_name names.second && is_player_name names.third && is_player_name names.fourth && not (have_equals names)

-- four names that differ
unfoldable pub names_of : ByPlayer (List ℕ) → Option (ByPlayer (List ℕ))
names_of names = if are_names names then Some names else None

abbrev pub four : {T : Type 0} → T → T → T → T → ByPlayer T
four first second third fourth = record { first = first; second = second; third = third; fourth = fourth }

-- without names the players are numbered
abbrev pub numbered_names : ByPlayer (List ℕ)
numbered_names = four (codes "1") (codes "2") (codes "3") (codes "4")

-- four names or none
abbrev pub names_said : List (List ℕ) → Option (ByPlayer (List ℕ))
names_said [] = Some numbered_names
names_said (first ∷ second ∷ third ∷ fourth ∷ []) = names_of (four first second third fourth)
names_said others = None

-- ---- the player of a name

-- the first of some players
abbrev pub first_player : (Player → Bool) → Option Player
first_player holds =
    if holds First then Some First
    else if holds Second then Some Second
    else if holds Third then Some Third
    else if holds Fourth then Some Fourth
    else None

abbrev pub is_whole : ByPlayer (List ℕ) → List ℕ → Player → Bool
is_whole names text player = bytes_eq (of_player names player) text

abbrev pub is_begun : ByPlayer (List ℕ) → List ℕ → Player → Bool
is_begun names text player = starts_with (λ one other. one == other) (of_player names player) text

-- A whole name is its player's. A beginning is that of the one player whose name begins so.
unfoldable pub player_named : ByPlayer (List ℕ) → List ℕ → Option Player
player_named names text =
    if of_some (is_whole names text) then first_player (is_whole names text)
    else if count_players (is_begun names text) == 1 then first_player (is_begun names text)
    else None
