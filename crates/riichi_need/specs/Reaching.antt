-- Whether a win brings a player to a place.
use Rattle.std.specs.Prelude.{ℕ, Bool, not, ◌&&◌, nat_lt, int_lt, ℤ}
use Rattle.riichi_table.specs.Players.{of_player, is_same_player, count_players}
use Rattle.riichi_table.specs.declared.player.Player.{Player}
use Rattle.riichi_table.specs.declared.player.ByPlayer.{ByPlayer}
use Rattle.riichi_places.specs.Places.{ahead_of}
use Rattle.riichi_need.specs.Winning.{all_points_then}
use Rattle.riichi_need.specs.declared.question.Aim.{Aim}
use Rattle.riichi_need.specs.declared.question.Aim.TheVariants.{Strictly, WithTie}
use Rattle.riichi_need.specs.declared.question.Question.{Question}
use Rattle.riichi_need.specs.declared.question.Way.{Way}

-- another has as many points as the player, or more
abbrev pub is_not_below : ByPlayer ℤ → Player → Player → Bool
is_not_below points player other = not (is_same_player other player) && not (int_lt (of_player points other) (of_player points player))

-- how many others have as many, or more
unfoldable pub not_below_of : ByPlayer ℤ → Player → ℕ
not_below_of points player = count_players (is_not_below points player)

-- fewer others than the place have as many points or more; with a tie, fewer are ahead
abbrev pub has_place : Question → Aim → ByPlayer ℤ → Bool
has_place question Strictly points = nat_lt (not_below_of points question.player) question.place
has_place question WithTie points = nat_lt (ahead_of question.rules.ties points question.player) question.place

-- a win of so many base points brings the player there
unfoldable pub reaches : Question → Aim → Way → ℕ → Bool
reaches question aim way base = has_place question aim (all_points_then question way base)
