-- The places of players by what they have.
use Rattle.std.specs.Prelude.{ℕ, ◌+◌, List, Bool, false, ◌&&◌, ◌||◌, nat_lt, int_lt, count_by}
use Rattle.std.specs.Ordering.{int_eq}
use Rattle.riichi_standings.specs.declared.places.TieBreak.{TieBreak}
use Rattle.riichi_standings.specs.declared.places.TieBreak.TheVariants.{Shared, Firsts, Best}
use Rattle.riichi_standings.specs.declared.tally.Tally.{Tally}

-- of two players with equal totals
abbrev pub is_better : TieBreak → Tally → Tally → Bool
is_better Shared one other = false
is_better Firsts one other = nat_lt other.firsts one.firsts
is_better Best one other = int_lt other.best one.best

-- who has the greater total is ahead, and of equal totals who is better by what parts them
abbrev pub stands_ahead : TieBreak → Tally → Tally → Bool
stands_ahead ties one other = int_lt other.total one.total || (int_eq one.total other.total && is_better ties one other)

-- one more than are ahead
abbrev pub standing_place : TieBreak → List Tally → Tally → ℕ
standing_place ties all own = 1 + count_by (λ other. stands_ahead ties other own) all
