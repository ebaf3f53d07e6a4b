-- What rows of dora add up to.
use Rattle.std.proofs.Common.{◌≡◌, ℕ, ◌+◌, ◌*◌, List, [], ◌∷◌, ◌++◌, refl, sym, ap, ◌∙◌, arith}
use Rattle.std.specs.Prelude.{slice_index}
use Rattle.std.specs.List.{sum_by}
use Rattle.std.proofs.lemmas.Bool.Decides.{nat_tests}
use Rattle.std.proofs.lemmas.List.Sums.{sum_by-append, sum_by-cons}
use Rattle.riichi_tiles.specs.Melds.{every_kind}
use Rattle.riichi_tiles.specs.Dora.{indicated}
use Rattle.riichi_hand.specs.Win.{copies_won}
use Rattle.riichi_hand.specs.declared.win.WinParts.{WinParts}
use Rattle.riichi_score.specs.Dora.{counted_ura, kind_dora, red_dora, dora_of}
use Rattle.riichi_explain.specs.declared.dora.DoraPart.{DoraPart}
use Rattle.riichi_explain.specs.declared.dora.DoraPart.TheVariants.{Indicated, Below, RedFives}
use Rattle.riichi_explain.specs.declared.dora.DoraRow.{DoraRow}
use Rattle.riichi_explain.specs.Dora.{dora_by, shown_dora, dora_row_if, dora_rows, dora_total}

total-append : (xs ys : List DoraRow) → dora_total (xs ++ ys) ≡ dora_total xs + dora_total ys
total-append xs ys = sum_by-append (λ (row : DoraRow). row.han) xs ys

total-counted : (part : DoraPart) (han : ℕ) → dora_total (dora_row_if part han) ≡ han
total-counted part han = grind (arith, nat_tests)

-- what is indicated twice is added
both : (shown below copies : ℕ) → (shown + below) * copies ≡ shown * copies + below * copies
both shown below copies = grind arith

-- the indicators of both sorts, over some kinds
split : (win : WinParts) (kinds : List ℕ) → sum_by (kind_dora win) kinds ≡ sum_by (dora_by win.dora win) kinds + sum_by (dora_by (counted_ura win) win) kinds
split win [] = refl
split win (kind ∷ kinds) =
    omega (
      arith,
      sum_by-cons (kind_dora win) kind kinds,
      sum_by-cons (dora_by win.dora win) kind kinds,
      sum_by-cons (dora_by (counted_ura win) win) kind kinds,
      both (slice_index win.dora kind) (slice_index (counted_ura win) kind) (copies_won win (indicated kind)),
      split win kinds,
    )

parts-total : (shown below reds : ℕ) → dora_total (dora_row_if Indicated shown ++ dora_row_if Below below ++ dora_row_if RedFives reds) ≡ shown + below + reds
parts-total shown below reds =
    let a = dora_row_if Indicated shown in
    let b = dora_row_if Below below in
    let c = dora_row_if RedFives reds in
    omega (arith, total-append (a ++ b) c, total-append a b, total-counted Indicated shown, total-counted Below below, total-counted RedFives reds)

-- the rows add up to the dora
pub rows_give_dora : (win : WinParts) → dora_total (dora_rows win) ≡ dora_of win
unfolding dora_rows dora_of
rows_give_dora win =
    parts-total (shown_dora win.dora win) (shown_dora (counted_ura win) win) (red_dora win.rules win.reds) ∙ ap (λ (n : ℕ). n + red_dora win.rules win.reds) (sym (split win every_kind))
