use Rattle.std.proofs.Common.{◌≡◌, length, Some}
use Rattle.riichi_hand.specs.Words.{items_of}
use Rattle.riichi_game_text.specs.Names.{names_in}
use Rattle.riichi_game_text.specs.Listed.{with_all, players_of}
use Rattle.riichi_game_text.proofs.listed.players_of.Given as goal

-- the names so far are listed
abbrev pub invariant-loop-name : goal.invariant-loop-name
invariant-loop-name l = with_all (names_in l.names) (items_of l.rest) (Some l.listed) ≡ players_of (names_in l.names) l.fn.list

abbrev pub decreases-loop-name : goal.decreases-loop-name
decreases-loop-name l = length l.rest
