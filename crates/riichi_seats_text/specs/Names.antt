-- Lists of names.
use Rattle.std.specs.Prelude.{ℕ, ◌≡◌, true, false, List, [], ◌∷◌}
use Rattle.std.specs.List.{list_any}
use Rattle.std.specs.Str.{bytes_eq}
use Rattle.riichi_game_text.specs.Names.{is_player_name}

-- each can be a name, and is none of those behind it
abbrev pub AreOnce : List (List ℕ) → Type 0
AreOnce [] = Unit {0}
AreOnce (name ∷ names) = (is_player_name name ≡ true) × (list_any (bytes_eq name) names ≡ false) × AreOnce names
