-- What rows of han add up to.
use Rattle.std.proofs.Common.{◌≡◌, ℕ, ◌+◌, Bool, true, false, cond, List, [], ◌∷◌, ◌++◌, map, refl, sym, ap, arith}
use Rattle.std.specs.List.{sum_by}
use Rattle.std.proofs.lemmas.List.Sums.{sum_by-append}
use Rattle.std.proofs.lemmas.Bool.Decides.{nat_tests}
use Rattle.riichi_tiles.specs.Melds.{are_concealed}
use Rattle.riichi_hand.specs.declared.win.WinParts.{WinParts}
use Rattle.riichi_yaku.specs.declared.table.Yaku.{Yaku}
use Rattle.riichi_yaku.specs.Table as table
use Rattle.riichi_yaku.specs.YakuSets.{han_of, is_yakuman, yaku_in}
use Rattle.riichi_score.specs.Dora.{dora_of}
use Rattle.riichi_explain.specs.declared.han.HanPart.{HanPart}
use Rattle.riichi_explain.specs.declared.han.HanPart.TheVariants.{Dora}
use Rattle.riichi_explain.specs.declared.han.HanRow.{HanRow}
use Rattle.riichi_explain.specs.Han.{yaku_row, yakuman_row, counted_row, dora_row, han_rows, han_total}

total-append : (xs ys : List HanRow) → han_total (xs ++ ys) ≡ han_total xs + han_total ys
total-append xs ys = sum_by-append (λ (row : HanRow). row.han) xs ys

total-counted : (part : HanPart) (han : ℕ) → han_total (counted_row part han) ≡ han
total-counted part han = grind (arith, nat_tests)

-- ---- the yaku

total-rows : (concealed : Bool) (yaku : List Yaku) → han_total (map (yaku_row concealed) yaku) ≡ sum_by (table.han concealed) yaku
total-rows concealed [] = refl
total-rows concealed (first ∷ rest) =
    omega (
      arith,
      total-append (yaku_row concealed first ∷ []) (map (yaku_row concealed) rest),
      sum_by-append (table.han concealed) (first ∷ []) rest,
      total-rows concealed rest,
    )

total-yaku : (set : ℕ) (concealed : Bool) → han_total (map (yaku_row concealed) (yaku_in set)) ≡ han_of set concealed
unfolding han_of
total-yaku set concealed = total-rows concealed (yaku_in set)

total-dora : (win : WinParts) → han_total (dora_row win) ≡ dora_of win
total-dora win = total-counted Dora (dora_of win)

-- the rows of a counted hand add up to its han
pub rows_give_han : (set : ℕ) (win : WinParts) → han_total (map (yaku_row (are_concealed win.melds)) (yaku_in set) ++ dora_row win) ≡ han_of set (are_concealed win.melds) + dora_of win
rows_give_han set win =
    omega (arith, total-append (map (yaku_row (are_concealed win.melds)) (yaku_in set)) (dora_row win), total-yaku set (are_concealed win.melds), total-dora win)

-- those of a yakuman have no han
pub total_yakuman : (yaku : List Yaku) → han_total (map yakuman_row yaku) ≡ 0
total_yakuman [] = refl
total_yakuman (first ∷ rest) = omega (arith, total_yakuman rest)

-- ---- both

pub han_rows_counted : (set : ℕ) (win : WinParts) → is_yakuman set ≡ false → map (yaku_row (are_concealed win.melds)) (yaku_in set) ++ dora_row win ≡ han_rows set win
unfolding han_rows
han_rows_counted set win counted =
    sym (ap (λ yakuman. cond yakuman (map yakuman_row (yaku_in set)) (map (yaku_row (are_concealed win.melds)) (yaku_in set) ++ dora_row win)) counted)

total-cases : (set : ℕ) (win : WinParts) (yakuman : Bool) →
    han_total (cond yakuman (map yakuman_row (yaku_in set)) (map (yaku_row (are_concealed win.melds)) (yaku_in set) ++ dora_row win))
    ≡ cond yakuman 0 (han_of set (are_concealed win.melds) + dora_of win)
total-cases set win true = total_yakuman (yaku_in set)
total-cases set win false = rows_give_han set win

pub han_rows-total : (set : ℕ) (win : WinParts) → han_total (han_rows set win) ≡ cond (is_yakuman set) 0 (han_of set (are_concealed win.melds) + dora_of win)
unfolding han_rows
han_rows-total set win = total-cases set win (is_yakuman set)

pub ruleset han_rows_facts = (han_rows_counted, rows_give_han, total_yakuman)
