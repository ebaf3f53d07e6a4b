-- How the final points are made, in words.
use Rattle.std.specs.Prelude.{ℕ, ◌+◌, ◌==◌, Bool, ◌&&◌, nat_lt, nat_le, List, [], ◌++◌, codes, decimal, ℤ, if◌then◌else◌}
use Rattle.riichi_table.specs.Players.{of_player, count_players}
use Rattle.riichi_table.specs.declared.player.Player.{Player}
use Rattle.riichi_table.specs.declared.player.ByPlayer.{ByPlayer}
use Rattle.riichi_table.specs.declared.rules.TableRules.{TableRules}
use Rattle.riichi_places.specs.Bonuses.{place_bonus}
use Rattle.riichi_places.specs.declared.finals.FinalPoints.{FinalPoints}
use Rattle.riichi_game_text.specs.Answers.{of_four, signed_text, points_change_text}
use Rattle.riichi_game_reasons.specs.EndReasons.{name_if}

-- ---- the bonuses that several share

abbrev pub is_placed_at : ByPlayer FinalPoints → ℕ → Player → Bool
is_placed_at finals place player = (of_player finals player).place == place

-- how many have a place
abbrev pub sharers_at : ByPlayer FinalPoints → ℕ → ℕ
sharers_at finals place = count_players (is_placed_at finals place)

abbrev pub sharer_names : ByPlayer (List ℕ) → ByPlayer FinalPoints → ℕ → List ℕ
sharer_names names finals place = of_four (λ player. name_if (is_placed_at finals place player) (of_player names player))

-- whether a place is one of so many from the first one on
abbrev pub is_taken_by : ℕ → ℕ → ℕ → Bool
is_taken_by first number place = nat_le first place && nat_lt place (first + number)

abbrev pub place_if : Bool → ℕ → List ℕ
place_if holds number = if holds then codes " " ++ decimal number else []

-- ` 2 3`
abbrev pub places_words : ℕ → ℕ → List ℕ
places_words first number =
    place_if (is_taken_by first number 1) 1 ++ place_if (is_taken_by first number 2) 2
    ++ place_if (is_taken_by first number 3) 3 ++ place_if (is_taken_by first number 4) 4

abbrev pub bonus_if : TableRules → Bool → ℕ → List ℕ
bonus_if rules holds place = if holds then codes " " ++ points_change_text (place_bonus rules place) else []

-- ` +5000 -5000`
abbrev pub bonuses_words : TableRules → ℕ → ℕ → List ℕ
bonuses_words rules first number =
    bonus_if rules (is_taken_by first number 1) 1 ++ bonus_if rules (is_taken_by first number 2) 2
    ++ bonus_if rules (is_taken_by first number 3) 3 ++ bonus_if rules (is_taken_by first number 4) 4

-- `  places 2 3 shared by Bo Cyd: +5000 -5000 in 2 parts`
abbrev pub shared_line : ByPlayer (List ℕ) → TableRules → ByPlayer FinalPoints → ℕ → ℕ → List ℕ
shared_line names rules finals place number =
    codes "  places" ++ places_words place number ++ codes " shared by" ++ sharer_names names finals place
    ++ codes ":" ++ bonuses_words rules place number ++ codes " in " ++ decimal number ++ codes " parts\n"

-- the line of a place that several have
unfoldable pub shared_if : ByPlayer (List ℕ) → TableRules → ByPlayer FinalPoints → ℕ → List ℕ
shared_if names rules finals place =
    if nat_lt 1 (sharers_at finals place) then shared_line names rules finals place (sharers_at finals place) else []

-- ---- the final points of a player

-- `: (32700 - 30000`
abbrev pub over_return : ℤ → ℕ → List ℕ
over_return points returns = codes ": (" ++ signed_text points ++ codes " - " ++ decimal returns

-- `) + bonus 0 - penalty 8000 = -5300`
abbrev pub with_bonus : FinalPoints → List ℕ
with_bonus final =
    codes ") + bonus " ++ signed_text final.bonus ++ codes " - penalty " ++ decimal final.penalty
    ++ codes " = " ++ signed_text final.total

-- `  Bo: (32700 - 30000) + bonus 0 - penalty 8000 = -5300`
unfoldable pub sum_line : List ℕ → ℕ → FinalPoints → List ℕ
sum_line name returns final = codes "  " ++ name ++ over_return final.points returns ++ with_bonus final

-- ---- together

-- a line for each place that several have
unfoldable pub shared_lines : ByPlayer (List ℕ) → TableRules → ByPlayer FinalPoints → List ℕ
shared_lines names rules finals =
    shared_if names rules finals 1 ++ shared_if names rules finals 2 ++ shared_if names rules finals 3
    ++ shared_if names rules finals 4

-- a line for each player, in the order of the first seats
unfoldable pub sum_lines : ByPlayer (List ℕ) → ℕ → ByPlayer FinalPoints → List ℕ
sum_lines names returns finals =
    sum_line names.first returns finals.first ++ codes "\n" ++ sum_line names.second returns finals.second
    ++ codes "\n" ++ sum_line names.third returns finals.third ++ codes "\n" ++ sum_line names.fourth returns finals.fourth

-- the places that several share, and then how each total adds up
abbrev pub final_reasons : ByPlayer (List ℕ) → TableRules → ByPlayer FinalPoints → List ℕ
final_reasons names rules finals = shared_lines names rules finals ++ sum_lines names rules.returns finals
