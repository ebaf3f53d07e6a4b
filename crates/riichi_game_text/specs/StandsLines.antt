-- A state that is written.
use Rattle.std.specs.Prelude.{ℕ, ◌*◌, ◌%◌, ◌==◌, List, [], ◌∷◌, codes, Bool, ◌&&◌, nat_le, ℤ, pos, neg_ℤ, ◌+ℤ◌, Option, None, Some, option_map, Result, Ok, Err, if◌then◌else◌}
use Rattle.std.specs.Ordering.{int_eq}
use Rattle.std.specs.Str.{bytes_eq}
use Rattle.riichi_hand.specs.Values.{value_beside}
use Rattle.riichi_hand.specs.declared.win.Wind.{Wind}
use Rattle.riichi_hand.specs.declared.win.Wind.TheVariants.{East, South, West, North}
use Rattle.riichi_table.specs.Players.{of_player, sum_over_players}
use Rattle.riichi_table.specs.declared.player.Player.{Player}
use Rattle.riichi_table.specs.declared.player.Player.TheVariants.{First, Second, Third, Fourth}
use Rattle.riichi_table.specs.declared.player.ByPlayer.{ByPlayer}
use Rattle.riichi_table.specs.declared.rules.TableRules.{TableRules}
use Rattle.riichi_table.specs.declared.outcome.Outcome.{Outcome}
use Rattle.riichi_table.specs.declared.outcome.Outcome.TheVariants.{Stands}
use Rattle.riichi_game.specs.Ends.{has_round}
use Rattle.riichi_game_text.specs.Numbers.{digits_of, number_in}
use Rattle.riichi_game_text.specs.declared.fault.GameFault.{GameFault}
use Rattle.riichi_game_text.specs.declared.fault.GameFault.TheVariants.{G4, G11, G12}
use Rattle.riichi_game_text.specs.declared.stands.StandsForm.{StandsForm}

-- ---- words

abbrev pub round_named : List ℕ → Option Wind
round_named word = value_beside ((codes "east", East) ∷ (codes "south", South) ∷ (codes "west", West) ∷ (codes "north", North) ∷ []) word

-- a dealer is a number from 1 to 4, which may have zeros before it
abbrev pub dealer_numbered : Option ℕ → Option Player
dealer_numbered None = None
dealer_numbered (Some number) =
    if number == 1 then Some First else if number == 2 then Some Second
    else if number == 3 then Some Third else if number == 4 then Some Fourth else None

-- whole hundreds of at most nine digits, with a `-` before those below nothing
abbrev pub hundreds : Option ℕ → Option ℕ
hundreds None = None
hundreds (Some points) = if points % 100 == 0 then Some points else None

unfoldable pub points_held : List ℕ → Option ℤ
points_held [] = None
points_held (byte ∷ bytes) =
    if byte == 45 then option_map (λ points. neg_ℤ (pos points)) (hundreds (digits_of 9 bytes))
    else option_map pos (hundreds (digits_of 9 (byte ∷ bytes)))

-- `ROUND DEALER`
abbrev pub round_and_dealer : Option Wind → Option Player → List (List ℕ) → Option ((Wind × Player) × List (List ℕ))
round_and_dealer (Some round) (Some dealer) words = Some ((round, dealer), words)
round_and_dealer round dealer words = None

unfoldable pub place_at : List (List ℕ) → Option ((Wind × Player) × List (List ℕ))
place_at (round ∷ dealer ∷ words) = round_and_dealer (round_named round) (dealer_numbered (number_in dealer)) words
place_at others = None

-- a key and its number
abbrev pub number_before : Option ℕ → List (List ℕ) → Option (ℕ × List (List ℕ))
number_before None words = None
number_before (Some number) words = Some (number, words)

unfoldable pub number_at : List ℕ → List (List ℕ) → Option (ℕ × List (List ℕ))
number_at key (word ∷ number ∷ words) = if bytes_eq word key then number_before (number_in number) words else None
number_at key others = None

-- `points N N N N`
abbrev pub all_held : Option ℤ → Option ℤ → Option ℤ → Option ℤ → Option (ByPlayer ℤ)
all_held (Some first) (Some second) (Some third) (Some fourth) = Some (record { first = first; second = second; third = third; fourth = fourth })
all_held first second third fourth = None

unfoldable pub points_said : List (List ℕ) → Option (ByPlayer ℤ)
points_said (word ∷ first ∷ second ∷ third ∷ fourth ∷ []) =
    if bytes_eq word (codes "points") then all_held (points_held first) (points_held second) (points_held third) (points_held fourth) else None
points_said others = None

-- ---- `ROUND DEALER counters N sticks N points N N N N`

abbrev pub stands_with : Wind × Player → ℕ → ℕ → Option (ByPlayer ℤ) → Option StandsForm
stands_with place counters sticks None = None
stands_with place counters sticks (Some points) = Some (record { round = place.0; dealer = place.1; counters = counters; sticks = sticks; points = points })

abbrev pub behind_sticks : Wind × Player → ℕ → Option (ℕ × List (List ℕ)) → Option StandsForm
behind_sticks place counters None = None
behind_sticks place counters (Some sticks) = stands_with place counters sticks.0 (points_said sticks.1)

abbrev pub behind_counters : Wind × Player → Option (ℕ × List (List ℕ)) → Option StandsForm
behind_counters place None = None
behind_counters place (Some counters) = behind_sticks place counters.0 (number_at (codes "sticks") counters.1)

abbrev pub behind_place : Option ((Wind × Player) × List (List ℕ)) → Option StandsForm
behind_place None = None
behind_place (Some place) = behind_counters place.0 (number_at (codes "counters") place.1)

unfoldable pub stands_form : List (List ℕ) → Option StandsForm
stands_form words = behind_place (place_at words)

-- ---- the state

-- the points and 1000 for each stick are four times the start
abbrev pub points_add_up : TableRules → StandsForm → Bool
points_add_up rules form = int_eq (sum_over_players (of_player form.points) +ℤ pos (1000 * form.sticks)) (pos (4 * rules.start))

-- so many counters or sticks that no state has them
abbrev pub over_fault : TableRules → StandsForm → GameFault
over_fault rules form = if points_add_up rules form && has_round rules form.round then G12 else G11

abbrev pub stands_by : TableRules → StandsForm → Result Outcome GameFault
stands_by rules form =
    if nat_le form.counters 99 && nat_le form.sticks 99
    then Ok (Stands (record { points = form.points; round = form.round; dealer = form.dealer; counters = form.counters; sticks = form.sticks }))
    else Err (over_fault rules form)

abbrev pub stands_if_said : TableRules → Option StandsForm → Result Outcome GameFault
stands_if_said rules None = Err G4
stands_if_said rules (Some form) = stands_by rules form

abbrev pub stands_of : TableRules → List (List ℕ) → Result Outcome GameFault
stands_of rules words = stands_if_said rules (stands_form words)
