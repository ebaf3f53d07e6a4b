-- Moves as rows, one after the other.
use Rattle.std.proofs.Common.{◌≡◌, ℕ, ◌+◌, ◌<◌, List, [], ◌∷◌, ◌++◌, map, length, take, drop, get_or, sym, ap, ◌∙◌, add-one, arith}
use Rattle.std.proofs.Math.Seq.{take-suc}
use Rattle.std.proofs.lemmas.List.{length-map, length-take, map-append}
use Rattle.std.specs.Prelude.{slice_set}
use Rattle.riichi_arrays.proofs.ColumnLemmas.{put_next}
use Rattle.riichi_settle.specs.declared.moved.Move.{Move}
use Rattle.riichi_game_rows.specs.MoveRows.{AreMovesPut, move_row}
use Rattle.riichi_game_rows.specs.declared.move_row.MoveRow.{MoveRow}

pub moved_next : (place : ℕ) (moves : List Move) (before after : List MoveRow) (none : Move) (next : MoveRow) → AreMovesPut place moves before after → place < length moves → place < length before →
    next ≡ move_row (get_or moves place none) → AreMovesPut (place + 1) moves before (slice_set after place next)
moved_next place moves before after none next is inside low same =
    let front = map move_row (take place moves) in
    let long : length front ≡ place = omega (arith, length-map (take place moves) move_row, length-take place moves, inside) in
    ap (λ rows. slice_set rows place next) is
    ∙ put_next front before place next long low
    ∙ ap (λ it. (front ++ it ∷ []) ++ drop (place + 1) before) same
    ∙ ap (λ all. all ++ drop (place + 1) before) (sym (map-append move_row (take place moves) (get_or moves place none ∷ [])))
    ∙ ap (λ some. map move_row some ++ drop (place + 1) before) (sym (take-suc moves place none inside))
    ∙ ap (λ n. map move_row (take n moves) ++ drop (place + 1) before) (sym (add-one place))
