-- The players of a tournament by their results.
use Rattle.std.specs.Prelude.{ℕ, List, length, map, count_by, slice_get, Option, None, Some}
use Rattle.std.specs.List.{range_with_len, enumerate_from}
use Rattle.std.specs.Ordering.{is_lt, nat_cmp}
use Rattle.std.specs.Cmp.Lexicographic.{slice_cmp}
use Rattle.riichi_standings.specs.Places.{standing_place}
use Rattle.riichi_standings.specs.Tallies.{results_tally}
use Rattle.riichi_standings.specs.declared.places.TieBreak.{TieBreak}
use Rattle.riichi_standings.specs.declared.result.SeatResult.{SeatResult}
use Rattle.riichi_standings.specs.declared.standing.Standing.{Standing}
use Rattle.riichi_standings.specs.declared.tally.Tally.{Tally}

-- what each of so many players has, by their numbers
abbrev pub tallies_of : ℕ → List SeatResult → List Tally
tallies_of players results = map (λ player. results_tally player results) (range_with_len 0 players)

abbrev pub before_name : List (List ℕ) → Option (List ℕ) → ℕ
before_name names None = 0
before_name names (Some own) = count_by (λ other. is_lt (slice_cmp nat_cmp other own)) names

-- how many names come before that of a player, byte by byte
abbrev pub names_before : List (List ℕ) → ℕ → ℕ
names_before names player = before_name names (slice_get names player)

abbrev pub standing_of : TieBreak → List (List ℕ) → List Tally → ℕ × Tally → Standing
standing_of ties names tallies row = record {
  place = standing_place ties tallies row.1;
  names_before = names_before names row.0;
  player = row.0;
  tally = row.1;
}

abbrev pub each_standing : TieBreak → List (List ℕ) → List Tally → List Standing
each_standing ties names tallies = map (standing_of ties names tallies) (enumerate_from 0 tallies)

-- what stands of each player, by the numbers of the players
abbrev pub standings_of : TieBreak → List (List ℕ) → List SeatResult → List Standing
standings_of ties names results = each_standing ties names (tallies_of (length names) results)
