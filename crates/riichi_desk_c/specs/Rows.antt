-- What a program is answered to the rows of an array of texts.
use Rattle.std.specs.Prelude.{◌≡◌, ◌⊎◌, ℕ, zero, suc, ◌+◌, ◌-◌, ◌<◌, ◌≤◌, List, [], ◌++◌, drop, length, min, slice_index, slice_range}
use Rattle.riichi_desk_c.specs.Replies.{reply_to}
use Rattle.riichi_arrays.specs.Columns.{IsFilled}

-- the bytes of a row lie between its offset and the next
abbrev pub row_text : List ℕ → List ℕ → ℕ → List ℕ
row_text bytes offsets row = slice_range bytes (slice_index offsets row) (slice_index offsets (row + 1))

-- these are bytes of the array
pub record IsAnswerRow (bytes offsets : List ℕ) (row : ℕ) : Type 0 where
  pub order : slice_index offsets row ≤ slice_index offsets (row + 1)
  pub within : slice_index offsets (row + 1) ≤ length bytes

-- the answers to the first rows, one behind the other
abbrev pub replies_to : ℕ → List ℕ → List ℕ → ℕ → List ℕ
replies_to number bytes offsets zero = []
replies_to number bytes offsets (suc row) = replies_to number bytes offsets row ++ reply_to number (row_text bytes offsets row)

-- where the answer to a row begins, and that to the row before it ends
abbrev pub answer_place : ℕ → List ℕ → List ℕ → ℕ → ℕ
answer_place number bytes offsets row = length (replies_to number bytes offsets row)

-- so many rows, and places for so many answers; there is one offset more than rows
abbrev pub most_rows : List ℕ → List ℕ → ℕ
most_rows offsets places = min (length offsets - 1) (length places - 1)

-- The first rows of an array of texts were answered into a room, with the places of the answers. What follows has no place, is no row,
-- or has an answer that is too long for what is left of the room.
pub record AnswersRows (number : ℕ) (bytes offsets before after places_before places_after : List ℕ) (rows : ℕ) : Type 0 where
  pub are_rows : (row : ℕ) → row < rows → IsAnswerRow bytes offsets row
  pub most : rows ≤ most_rows offsets places_before
  pub fits : answer_place number bytes offsets rows ≤ length before
  pub room_is : after ≡ replies_to number bytes offsets rows ++ drop (answer_place number bytes offsets rows) before
  pub places_are : IsFilled (answer_place number bytes offsets) (min (rows + 1) (length places_before)) places_before places_after
  pub stops : (rows ≡ most_rows offsets places_before) ⊎ (IsAnswerRow bytes offsets rows → ⊥) ⊎ (length before < answer_place number bytes offsets (rows + 1))
