-- What is told of rows, row by row.
use Rattle.std.proofs.Common.{◌≡◌, ℕ, ◌+◌, ◌<◌, List, [], ◌∷◌, ◌++◌, map, length, take, drop, get_or, sym, ap, ◌∙◌, add-one, arith}
use Rattle.std.proofs.Math.Seq.{take-suc}
use Rattle.std.proofs.lemmas.List.{length-map, length-take, map-append}
use Rattle.std.specs.Prelude.{slice_set}
use Rattle.riichi_arrays.proofs.ColumnLemmas.{put_next}
use Rattle.riichi_hand.specs.Rules.{Rules}
use Rattle.riichi_win_arrays.specs.Wins.{AreScored, told_win}
use Rattle.riichi_win_arrays.specs.declared.score_row.ScoreRow.{ScoreRow}
use Rattle.riichi_win_arrays.specs.declared.win_row.WinRow.{WinRow}

pub told_next : (rules : Rules) (place : ℕ) (rows : List WinRow) (before after : List ScoreRow) (none : WinRow) (next : ScoreRow) → AreScored rules place rows before after → place < length rows → place < length before →
    next ≡ told_win rules (get_or rows place none) → AreScored rules (place + 1) rows before (slice_set after place next)
told_next rules place rows before after none next is inside low same =
    let front = map (told_win rules) (take place rows) in
    let long : length front ≡ place = omega (arith, length-map (take place rows) (told_win rules), length-take place rows, inside) in
    ap (λ scores. slice_set scores place next) is
    ∙ put_next front before place next long low
    ∙ ap (λ it. (front ++ it ∷ []) ++ drop (place + 1) before) same
    ∙ ap (λ all. all ++ drop (place + 1) before) (sym (map-append (told_win rules) (take place rows) (get_or rows place none ∷ [])))
    ∙ ap (λ some. map (told_win rules) some ++ drop (place + 1) before) (sym (take-suc rows place none inside))
    ∙ ap (λ n. map (told_win rules) (take n rows) ++ drop (place + 1) before) (sym (add-one place))
