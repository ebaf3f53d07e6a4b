-- A session by an order of the players.
use Rattle.std.proofs.Common.{◌≡◌, ◌*◌, ℕ, length}
use Rattle.std.specs.List.{range_with_len}
use Rattle.std.proofs.lemmas.List.FromFn.{length-range_with_len}
use Rattle.riichi_seats.specs.Seatings.{tables_by_number}
use Rattle.riichi_seats.proofs.SessionLemmas.{length_tables}

pub games_by_number : (tables : ℕ) → length (tables_by_number tables) ≡ tables
games_by_number tables = length_tables tables (range_with_len 0 (4 * tables)) (length-range_with_len 0 (4 * tables))
