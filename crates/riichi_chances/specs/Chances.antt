-- The chances of a hand for each number of turns.
use Rattle.std.specs.Prelude.{◌≡◌, ℕ, ◌<◌, ◌≤◌, min, if◌then◌else◌, List, [], length, slice_index, slice_index_or, slice_set}
use Rattle.riichi_hand.specs.HandParts.{ShapeParts}
use Rattle.riichi_chances.specs.AtMost.{most_of_all}
use Rattle.riichi_chances.specs.Counted.{counted_draws, parts_less}
use Rattle.riichi_chances.specs.Draws.{all_draws, draws, is_there, unseen_of}
use Rattle.riichi_chances.specs.Plays.{DrawPlay, draws_by}
use Rattle.riichi_chances.specs.Graph.{placed_hand}
use Rattle.riichi_deeper.specs.Drawn.{parts_without}
use Rattle.riichi_chances.specs.declared.chances.Chances.{Chances}
use Rattle.riichi_chances.specs.declared.discards.DiscardChances.{DiscardChances}
use Rattle.riichi_chances.specs.declared.goal.Goal.{Goal}
use Rattle.riichi_chances.specs.declared.goal.Goal.TheVariants.{Ready, Win}
use Rattle.riichi_chances.specs.Rows.{Rows}

-- the draws that bring a hand to a goal
abbrev pub reached_of : Goal → Chances → List ℕ
reached_of Ready chances = chances.ready
reached_of Win chances = chances.win

-- the upper end
abbrev pub most_of : Goal → Chances → List ℕ
most_of Ready chances = chances.ready_at_most
most_of Win chances = chances.win_at_most

-- for each number of turns up to one the draws that bring the hand to lack one tile at most, those that bring it to lack none, and all
pub record AreChances (parts : ShapeParts) (turns : ℕ) (chances : Chances) : Type 0 where
  pub ready : (count : ℕ) → count ≤ turns → slice_index chances.ready count ≡ draws 1 parts count
  pub win : (count : ℕ) → count ≤ turns → slice_index chances.win count ≡ draws 0 parts count
  pub all : (count : ℕ) → count ≤ turns → slice_index chances.all count ≡ all_draws (unseen_of parts) count
  pub ready_few : (count : ℕ) → count ≤ turns → slice_index chances.ready count ≤ slice_index chances.all count
  pub win_few : (count : ℕ) → count ≤ turns → slice_index chances.win count ≤ slice_index chances.all count

-- the same by the hand, the turns and how many tiles are unseen
pub record AreCounted (parts : ShapeParts) (unseen turns : ℕ) (chances : Chances) : Type 0 where
  pub ready : (count : ℕ) → count ≤ turns → slice_index chances.ready count ≡ counted_draws 1 parts unseen count
  pub win : (count : ℕ) → count ≤ turns → slice_index chances.win count ≡ counted_draws 0 parts unseen count
  pub ready_at_most : (count : ℕ) → count ≤ turns → slice_index chances.ready_at_most count ≡ most_of_all 1 parts unseen count
  pub win_at_most : (count : ℕ) → count ≤ turns → slice_index chances.win_at_most count ≡ most_of_all 0 parts unseen count
  pub all : (count : ℕ) → count ≤ turns → slice_index chances.all count ≡ all_draws unseen count

-- the upper ends by the hand, the turns and how many tiles are unseen
pub record AreAtMost (parts : ShapeParts) (unseen turns : ℕ) (chances : Chances) : Type 0 where
  pub ready : (count : ℕ) → count ≤ turns → slice_index chances.ready_at_most count ≡ most_of_all 1 parts unseen count
  pub win : (count : ℕ) → count ≤ turns → slice_index chances.win_at_most count ≡ most_of_all 0 parts unseen count

-- no play that keeps only what brings the hand nearer has more draws than the upper ends
pub record IsNoPlayAbove (parts : ShapeParts) (turns : ℕ) (chances : Chances) : Type 0 where
  pub ready : (play : DrawPlay) (count : ℕ) → count ≤ turns → draws_by play [] 1 parts count ≤ slice_index chances.ready_at_most count
  pub win : (play : DrawPlay) (count : ℕ) → count ≤ turns → draws_by play [] 0 parts count ≤ slice_index chances.win_at_most count
  pub ready_reached : (count : ℕ) → count ≤ turns → slice_index chances.ready count ≤ slice_index chances.ready_at_most count
  pub win_reached : (count : ℕ) → count ≤ turns → slice_index chances.win count ≤ slice_index chances.win_at_most count

-- the chances after each of these discards
abbrev pub AreAfter : ShapeParts → ℕ → List DiscardChances → Type 0
AreAfter parts turns each = (place : ℕ) (one : DiscardChances) → place < length each → AreChances (parts_without parts (slice_index_or each place one).kind) turns (slice_index_or each place one).chances

-- after a discard: what was thrown is not looked at, but of a won hand it may be accepted
abbrev pub parts_told : ShapeParts → ℕ → ShapeParts
parts_told drawn kind = if is_there 0 drawn then parts_without drawn kind else parts_less drawn kind

abbrev pub AreAfterAtMost : ShapeParts → ℕ → List DiscardChances → Type 0
AreAfterAtMost parts turns each = (place : ℕ) (one : DiscardChances) → place < length each →
    AreAtMost (parts_told parts (slice_index_or each place one).kind) (unseen_of (parts_without parts (slice_index_or each place one).kind)) turns (slice_index_or each place one).chances

abbrev pub IsNoPlayAboveAfter : ShapeParts → ℕ → List DiscardChances → Type 0
IsNoPlayAboveAfter parts turns each = (place : ℕ) (one : DiscardChances) → place < length each → IsNoPlayAbove (parts_without parts (slice_index_or each place one).kind) turns (slice_index_or each place one).chances

-- ---- one number of turns after the other

-- a place for each number of turns
pub record AreLong (chances : Chances) : Type 0 where
  pub ready : length chances.ready ≡ 19
  pub win : length chances.win ≡ 19
  pub ready_at_most : length chances.ready_at_most ≡ 19
  pub win_at_most : length chances.win_at_most ≡ 19
  pub all : length chances.all ≡ 19

-- those of one number of turns are told, and the others stay
pub record IsTold (turns : ℕ) (rows : Rows) (number : ℕ) (before after : Chances) : Type 0 where
  pub ready : after.ready ≡ slice_set before.ready turns (slice_index rows.ready turns)
  pub win : after.win ≡ slice_set before.win turns (slice_index rows.win turns)
  pub ready_at_most : after.ready_at_most ≡ slice_set before.ready_at_most turns (min (slice_index rows.ready_at_most turns) number)
  pub win_at_most : after.win_at_most ≡ slice_set before.win_at_most turns (min (slice_index rows.win_at_most turns) number)
  pub all : after.all ≡ slice_set before.all turns number

-- the same for the hands at some places
abbrev pub AreAllTold : ℕ → List ℕ → List Rows → ℕ → List Chances → List Chances → Type 0
AreAllTold turns places rows all before after =
    (at : ℕ) (row : Rows) (chances : Chances) → at < length places → IsTold turns (slice_index_or rows (slice_index places at) row) all (slice_index_or before at chances) (slice_index_or after at chances)

abbrev pub AreAllCounted : ShapeParts → List (List ℕ) → List ℕ → ℕ → ℕ → List Chances → Type 0
AreAllCounted root hands places unseen turns each =
    (at : ℕ) (chances : Chances) → at < length places → AreCounted (placed_hand root hands (slice_index places at)) unseen turns (slice_index_or each at chances)
