-- Why a game is over.
use Rattle.std.specs.Prelude.{ℕ, Bool, ◌&&◌, List, [], ◌++◌, codes, decimal, ℤ, pos, int_lt, int_le, if◌then◌else◌, Option, None, Some}
use Rattle.riichi_table.specs.Players.{of_player, is_same_player}
use Rattle.riichi_table.specs.declared.player.Player.{Player}
use Rattle.riichi_table.specs.declared.player.Player.TheVariants.{Fourth}
use Rattle.riichi_table.specs.declared.player.ByPlayer.{ByPlayer}
use Rattle.riichi_table.specs.declared.rules.TableRules.{TableRules}
use Rattle.riichi_table.specs.declared.state.GameState.{GameState}
use Rattle.riichi_table.specs.declared.outcome.Outcome.{Outcome}
use Rattle.riichi_table.specs.declared.outcome.Outcome.TheVariants.{End}
use Rattle.riichi_game.specs.Ends.{is_bust, is_behind_last, is_enough}
use Rattle.riichi_game_text.specs.Answers.{of_four}
use Rattle.riichi_game_reasons.specs.declared.ends.EndReason.{EndReason}
use Rattle.riichi_game_reasons.specs.declared.ends.EndReason.TheVariants.{Said, Bust, Enough, Stopped, Played}

-- A deal may end a game because somebody has less than 0; in the round more because somebody has enough points; where the dealer
-- stays, since the last one may stop; and else since the last round is played.
abbrev pub deal_reason : TableRules → GameState → GameState → EndReason
deal_reason rules before after =
    if rules.bust && is_bust after.points then Bust
    else if is_behind_last rules before.round && is_enough rules.extra after.points then Enough
    else if is_same_player after.dealer before.dealer then Stopped
    else Played

-- why a game is over that an outcome ends, by the states before and after it
abbrev pub end_reason : TableRules → GameState → GameState → Outcome → EndReason
end_reason rules before after End = Said
end_reason rules before after deal = deal_reason rules before after

-- ---- in words

-- the name of a player, where something holds of this one
unfoldable pub name_if : Bool → List ℕ → List ℕ
name_if holds name = if holds then codes " " ++ name else []

unfoldable pub is_negative : ℤ → Bool
is_negative points = int_lt points (pos 0)

unfoldable pub is_at_least : ℕ → ℤ → Bool
is_at_least least points = int_le (pos least) points

abbrev pub if_negative : ByPlayer (List ℕ) → ByPlayer ℤ → Player → List ℕ
if_negative names points player = name_if (is_negative (of_player points player)) (of_player names player)

-- those with less than 0
abbrev pub below_zero : ByPlayer (List ℕ) → ByPlayer ℤ → List ℕ
below_zero names points = of_four (if_negative names points)

abbrev pub if_at_least : ByPlayer (List ℕ) → ByPlayer ℤ → ℕ → Player → List ℕ
if_at_least names points least player = name_if (is_at_least least (of_player points player)) (of_player names player)

-- those with so many points or more
abbrev pub with_so_many : ByPlayer (List ℕ) → ByPlayer ℤ → ℕ → List ℕ
with_so_many names points most = of_four (if_at_least names points most)

-- ` Dee with 30000 or more`
abbrev pub enough_words : ByPlayer (List ℕ) → ByPlayer ℤ → Option ℕ → List ℕ
enough_words names points None = []
enough_words names points (Some most) = with_so_many names points most ++ codes " with " ++ decimal most ++ codes " or more"

-- ` Dee deals last, stays and is ahead`
abbrev pub stopped_words : List ℕ → List ℕ
stopped_words name = codes " " ++ name ++ codes " deals last, stays and is ahead"

abbrev pub reason_words : ByPlayer (List ℕ) → TableRules → ByPlayer ℤ → EndReason → List ℕ
reason_words names rules points Said = codes " end was said"
reason_words names rules points Bust = below_zero names points ++ codes " with less than 0"
reason_words names rules points Enough = enough_words names points rules.extra
reason_words names rules points Stopped = stopped_words (of_player names Fourth)
reason_words names rules points Played = codes " the last round is played"

-- why a game is over, with the points of the four then
abbrev pub end_line : ByPlayer (List ℕ) → TableRules → ByPlayer ℤ → EndReason → List ℕ
end_line names rules points reason = codes "  over:" ++ reason_words names rules points reason
