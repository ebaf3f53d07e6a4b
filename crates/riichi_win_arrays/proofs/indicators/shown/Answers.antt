use Rattle.std.proofs.Common.{◌+◌, ◌-◌, ◌<◌, length, take, ap, ◌∙◌, refl, arith}
use Rattle.std.proofs.lemmas.List.{length-take}
use Rattle.std.specs.Prelude.{slice_index_or, slice_set}
use Rattle.riichi_win_arrays.specs.WinRows.{counts_of_bytes}
use Rattle.riichi_win_arrays.proofs.IndicatorLemmas.{few_shown, shown_more, shown_same}
use Rattle.riichi_win_arrays.proofs.indicators.shown.Goals.{then-byte-gt0+then-byte-le34, else-byte-gt0, else-byte-gt0-via-then-byte-gt0+else-byte-le34, else-byte-gt0-via-else-byte-gt0}
use Rattle.riichi_win_arrays.proofs.indicators.shown.Goals as goal

pub loop-byte-init : goal.loop-byte-init
unfolding counts_of_bytes
loop-byte-init c = refl

pub overflow_add-shown : goal.overflow_add-shown
overflow_add-shown c =
    let bytes = c.args.bytes.now in
    let place = c.loop-byte.byte-index in
    let kind = slice_index_or bytes place 0 - 1 in
    let low : kind < 34 = omega (arith, c.if-byte-le34.true) in
    omega (arith, ap (λ counts. slice_index_or counts kind 0) c.loop-byte.invariant, few_shown (take place bytes) kind low, length-take place bytes, c.told-bytes)

pub loop-byte-preserved : goal.loop-byte-preserved
loop-byte-preserved c =
    let bytes = c.args.bytes.now in
    let place = c.loop-byte.byte-index in
    let low : place < length bytes = omega (arith, c.told-bytes, c.loop-byte-test.true) in
    let byte = slice_index_or bytes place 0 in
    elim c.if-byte-gt0.branch [
      | then-byte-gt0+then-byte-le34 w ↦ w.shown-is ∙ ap (λ counts. slice_set counts (byte - 1) (slice_index_or counts (byte - 1) 0 + 1)) c.loop-byte.invariant ∙ shown_more bytes place low w.if-byte-gt0.true w.if-byte-le34.true
      | else-byte-gt0 w ↦ w.shown-is ∙ c.loop-byte.invariant ∙ shown_same bytes place low (λ kind small same. elim w.else-byte-gt0.branch [
        | else-byte-gt0-via-then-byte-gt0+else-byte-le34 w' ↦ omega (arith, w'.if-byte-le34.false, small, same)
        | else-byte-gt0-via-else-byte-gt0 w' ↦ omega (arith, w'.if-byte-gt0.false, same)
      ])
    ]
