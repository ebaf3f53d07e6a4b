-- The players of a list of names.
use Rattle.std.specs.Prelude.{ℕ, List, [], ◌∷◌, Bool, true, false, Option, None, Some, if◌then◌else◌}
use Rattle.riichi_hand.specs.Words.{items_of}
use Rattle.riichi_table.specs.Players.{of_player, same_for_all, with_player}
use Rattle.riichi_table.specs.declared.player.Player.{Player}
use Rattle.riichi_table.specs.declared.player.ByPlayer.{ByPlayer}
use Rattle.riichi_game_text.specs.Names.{player_named}

-- one player more, who wasn't among them
abbrev pub with_another : ByPlayer Bool → Option Player → Option (ByPlayer Bool)
with_another listed None = None
with_another listed (Some player) = if of_player listed player then None else Some (with_player listed player true)

-- the players of names beside those before them, none of them twice
abbrev pub with_all : ByPlayer (List ℕ) → List (List ℕ) → Option (ByPlayer Bool) → Option (ByPlayer Bool)
with_all names items None = None
with_all names [] (Some listed) = Some listed
with_all names (item ∷ items) (Some listed) = with_all names items (with_another listed (player_named names item))

-- names with commas between them, each of a player, none of one player twice
unfoldable pub players_of : ByPlayer (List ℕ) → List ℕ → Option (ByPlayer Bool)
players_of names list = with_all names (items_of list) (Some (same_for_all false))

abbrev pub players_if_said : ByPlayer (List ℕ) → Option (List ℕ) → Option (ByPlayer Bool)
players_if_said names None = Some (same_for_all false)
players_if_said names (Some list) = players_of names list
