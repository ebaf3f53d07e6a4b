-- The bonus of a place, and how those with the same place share the bonuses of their places.
use Rattle.std.specs.Prelude.{ℕ, ◌+◌, ◌-◌, ◌*◌, ◌/◌, ◌%◌, min, ◌&&◌, ◌==◌, nat_lt, nat_le, if◌then◌else◌, ℤ, pos, negsuc, ◌+ℤ◌, ◌-ℤ◌, ◌*ℤ◌}
use Rattle.riichi_table.specs.declared.player.Player.{Player}
use Rattle.riichi_table.specs.declared.player.ByPlayer.{ByPlayer}
use Rattle.riichi_table.specs.declared.rules.TableRules.{TableRules}
use Rattle.riichi_places.specs.Places.{place_by_points, sharers_of, earlier_of}

-- what the four return beyond what they started with (oka)
abbrev pub returned : TableRules → ℤ
returned rules = pos (4 * rules.returns) -ℤ pos (4 * rules.start)

-- the uma, and for the first place beside it what the four return
unfoldable pub place_bonus : TableRules → ℕ → ℤ
place_bonus rules place =
    if place == 1 then rules.uma.first +ℤ returned rules
    else if place == 2 then rules.uma.second
    else if place == 3 then rules.uma.third
    else rules.uma.fourth

-- the bonus of a place, if it is one of so many from the first one on
unfoldable pub bonus_if_taken : TableRules → ℕ → ℕ → ℕ → ℤ
bonus_if_taken rules first number place =
    if nat_le first place && nat_lt place (first + number) then place_bonus rules place else pos 0

-- the bonuses of so many places, added up
unfoldable pub bonuses : TableRules → ℕ → ℕ → ℤ
bonuses rules first number =
    bonus_if_taken rules first number 1 +ℤ bonus_if_taken rules first number 2
    +ℤ bonus_if_taken rules first number 3 +ℤ bonus_if_taken rules first number 4

-- of points in equal parts, how many whole hundreds each part has, rounded down, also where the points are below 0
abbrev pub hundreds_each : ℤ → ℕ → ℤ
hundreds_each (pos points) sharers = pos (points / (100 * sharers))
hundreds_each (negsuc points) sharers = negsuc (points / (100 * sharers))

-- the points that are left then
abbrev pub left_over : ℤ → ℕ → ℕ
left_over (pos points) sharers = points % (100 * sharers)
left_over (negsuc points) sharers = 100 * sharers - 1 - points % (100 * sharers)

-- the part of a sharer: the hundreds of each, and of what is left a hundred to each from the earliest first seat on, while any is left
unfoldable pub part_of : ℤ → ℕ → ℕ → ℤ
part_of points sharers earlier =
    (pos 100 *ℤ hundreds_each points sharers) +ℤ pos (min 100 (left_over points sharers - 100 * earlier))

-- of so many sharers of a place, with so many at earlier first seats: the part of the bonuses of the places that they take
unfoldable pub shared_bonus : TableRules → ℕ → ℕ → ℕ → ℤ
shared_bonus rules place sharers earlier = part_of (bonuses rules place sharers) sharers earlier

-- the bonus of a player, by the points of the four
abbrev pub bonus_of : TableRules → ByPlayer ℤ → Player → ℤ
bonus_of rules points player =
    shared_bonus rules (place_by_points rules.ties points player) (sharers_of rules.ties points player) (earlier_of rules.ties points player)
