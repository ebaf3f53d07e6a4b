-- What is written and the games that are left are all games.
use Rattle.std.proofs.Common.{◌≡◌, ◌+◌, ◌++◌, map, drop}
use Rattle.riichi_seats_text.specs.Games as spec
use Rattle.riichi_seats_text.proofs.games.push_games.Given as goal

abbrev pub invariant-loop-table : goal.invariant-loop-table
invariant-loop-table l = record {
  number : l.number ≡ l.first + l.table-index;
  written : l.text.items ++ spec.games_text (map (λ name. name.bytes) l.names) l.tables l.words l.number (drop l.table-index l.games)
      ≡ l.initial.text.items ++ spec.games_text (map (λ name. name.bytes) l.names) l.tables l.words l.first l.games;
}
