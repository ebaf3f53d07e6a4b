-- The hand that the command `waits` is given.
use Rattle.std.specs.Prelude.{ℕ, List, []}
use Rattle.riichi_hand.specs.HandParts.{HandParts}

-- these tiles, all of them concealed
abbrev pub concealed_hand : List ℕ → HandParts
concealed_hand counts = record { concealed = counts; melds = [] }
