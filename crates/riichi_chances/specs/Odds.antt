-- The chances of one number of turns.
use Rattle.std.specs.Prelude.{ℕ, ◌<◌, ◌≤◌, Bool, List, map, nat_lt, slice_index}
use Rattle.riichi_hand.specs.HandParts.{ShapeParts}
use Rattle.riichi_shape.specs.Discards.{discards_of}
use Rattle.riichi_deeper.specs.Drawn.{parts_without}
use Rattle.riichi_chances.specs.AtMost.{most_of_all}
use Rattle.riichi_chances.specs.Chances.{parts_told}
use Rattle.riichi_chances.specs.Draws.{all_draws, draws, unseen_of}
use Rattle.riichi_chances.specs.Graph.{discard_kinds}
use Rattle.riichi_chances.specs.declared.chances.Chances.{Chances}
use Rattle.riichi_chances.specs.declared.discards.DiscardChances.{DiscardChances}
use Rattle.riichi_chances.specs.declared.odds.DiscardOdds.{DiscardOdds}
use Rattle.riichi_chances.specs.declared.odds.Odds.{Odds}

-- they are parts of some draws
pub record ArePartsOfAll (odds : Odds) : Type 0 where
  pub ready : odds.ready ≤ odds.all
  pub ready_at_most : odds.ready_at_most ≤ odds.all
  pub win : odds.win ≤ odds.all
  pub win_at_most : odds.win_at_most ≤ odds.all
  pub some : 0 < odds.all

abbrev pub odds_at : Chances → ℕ → Odds
odds_at chances turns = record {
  ready = slice_index chances.ready turns;
  ready_at_most = slice_index chances.ready_at_most turns;
  win = slice_index chances.win turns;
  win_at_most = slice_index chances.win_at_most turns;
  all = slice_index chances.all turns;
}

-- of a hand, whose upper ends are told by another that sees no more of what it accepts
abbrev pub odds_by : ShapeParts → ShapeParts → ℕ → Odds
odds_by parts told turns = record {
  ready = draws 1 parts turns;
  ready_at_most = most_of_all 1 told (unseen_of parts) turns;
  win = draws 0 parts turns;
  win_at_most = most_of_all 0 told (unseen_of parts) turns;
  all = all_draws (unseen_of parts) turns;
}

-- of thirteen tiles
unfoldable pub odds_of : ShapeParts → ℕ → Odds
odds_of parts turns = odds_by parts parts turns

-- once a tile of fourteen was thrown
unfoldable pub odds_after : ShapeParts → ℕ → ℕ → Odds
odds_after drawn turns kind = odds_by (parts_without drawn kind) (parts_told drawn kind) turns

-- ---- of each best discard of fourteen tiles

abbrev pub after_discard : ℕ → Odds → DiscardOdds
after_discard kind odds = record { kind = kind; odds = odds }

unfoldable pub best_odds : ShapeParts → ℕ → List DiscardOdds
best_odds drawn turns = map (λ kind. after_discard kind (odds_after drawn turns kind)) (discard_kinds (discards_of drawn.tiles drawn.melds drawn.seen))

abbrev pub each_odds_at : List DiscardChances → ℕ → List DiscardOdds
each_odds_at each turns = map (λ one. after_discard one.kind (odds_at one.chances turns)) each

-- a play reaches more than any play does after another discard
abbrev pub is_surely_over : Odds → Odds → Bool
is_surely_over odds other = nat_lt other.win_at_most odds.win
