-- Standings, player by player.
use Rattle.std.proofs.Common.{◌≡◌, ◌∙◌, ℕ, ◌+◌, ◌<◌, ◌≤◌, List, Global, String, [], ◌∷◌, ◌++◌, length, map, take, get_or, ap, arith, Some}
use Rattle.std.specs.Prelude.{count_by, slice_get, string_bytes, string_cmp, cond, option_map}
use Rattle.std.specs.List.{enumerate_from}
use Rattle.std.specs.Ordering.{is_lt, nat_cmp}
use Rattle.std.specs.Cmp.Lexicographic.{slice_cmp}
use Rattle.std.proofs.lemmas.List.{map_more, take_all}
use Rattle.std.proofs.lemmas.List.Folds.{fold-map}
use Rattle.std.proofs.lemmas.List.FromFn.{map-range_with_len_more, get_or-enumerate_from, length-map-range_with_len, length-enumerate_from}
use Rattle.std.proofs.lemmas.Option.{slice_get-map}
use Rattle.riichi_standings.specs.Standings.{tallies_of, each_standing, standing_of, names_before, before_name}
use Rattle.riichi_standings.specs.Tallies.{results_tally}
use Rattle.riichi_standings.specs.declared.places.TieBreak.{TieBreak}
use Rattle.riichi_standings.specs.declared.result.SeatResult.{SeatResult}
use Rattle.riichi_standings.specs.declared.standing.Standing.{Standing}
use Rattle.riichi_standings.specs.declared.tally.Tally.{Tally}

-- one player more
pub tallies_more : (results : List SeatResult) (players : ℕ) → tallies_of (players + 1) results ≡ tallies_of players results ++ results_tally players results ∷ []
tallies_more results players = map-range_with_len_more (λ player. results_tally player results) 0 players players (omega arith)

-- what stands of the first so many players
abbrev pub each_up_to : TieBreak → List (List ℕ) → List Tally → ℕ → List Standing
each_up_to ties names tallies players = map (standing_of ties names tallies) (take players (enumerate_from 0 tallies))

pub each_more : (ties : TieBreak) (names : List (List ℕ)) (tallies : List Tally) (player : ℕ) (d : Tally) → player < length tallies →
    each_up_to ties names tallies (player + 1) ≡ each_up_to ties names tallies player ++ standing_of ties names tallies (player, get_or tallies player d) ∷ []
each_more ties names tallies player d within =
    let inside : player < length (enumerate_from 0 tallies) = omega (arith, length-enumerate_from 0 tallies) in
    let row : get_or (enumerate_from 0 tallies) player (0, d) ≡ (player, get_or tallies player d) = get_or-enumerate_from 0 tallies player (0, d) within ∙ ap (λ (k : ℕ). (k, get_or tallies player d)) (omega arith) in
    map_more (standing_of ties names tallies) (enumerate_from 0 tallies) player (0, d) inside ∙ ap (λ (row : ℕ × Tally). each_up_to ties names tallies player ++ standing_of ties names tallies row ∷ []) row

pub each_all : (ties : TieBreak) (names : List (List ℕ)) (tallies : List Tally) (players : ℕ) → length tallies ≤ players → each_up_to ties names tallies players ≡ each_standing ties names tallies
each_all ties names tallies players within = ap (map (standing_of ties names tallies)) (take_all players (enumerate_from 0 tallies) (omega (arith, length-enumerate_from 0 tallies)))

-- so many players have tallies
pub length-tallies_of : (results : List SeatResult) (players : ℕ) → length (tallies_of players results) ≡ players
length-tallies_of results players = length-map-range_with_len (λ player. results_tally player results) 0 players

-- names as texts
pub before_names : (names : List (String Global)) (player : ℕ) (own : String Global) → slice_get names player ≡ Some own →
    names_before (map string_bytes names) player ≡ count_by (λ other. is_lt (string_cmp other own)) names
before_names names player own is =
    ap (before_name (map string_bytes names)) (slice_get-map string_bytes names player ∙ ap (λ found. option_map string_bytes found) is)
    ∙ fold-map (λ (count : ℕ) (other : List ℕ). count + cond (is_lt (slice_cmp nat_cmp other (string_bytes own))) 1 0) string_bytes 0 names
