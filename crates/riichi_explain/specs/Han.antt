-- The rows of a hand's han.
use Rattle.std.specs.Prelude.{ℕ, ◌==◌, Bool, List, [], ◌∷◌, ◌++◌, map, if◌then◌else◌}
use Rattle.std.specs.List.{sum_by}
use Rattle.riichi_tiles.specs.Melds.{are_concealed}
use Rattle.riichi_hand.specs.declared.win.WinParts.{WinParts}
use Rattle.riichi_yaku.specs.declared.table.Yaku.{Yaku}
use Rattle.riichi_yaku.specs.Table as table
use Rattle.riichi_yaku.specs.YakuSets.{is_yakuman, yaku_in}
use Rattle.riichi_score.specs.Dora.{dora_of}
use Rattle.riichi_explain.specs.declared.han.HanPart.{HanPart}
use Rattle.riichi_explain.specs.declared.han.HanPart.TheVariants as part
use Rattle.riichi_explain.specs.declared.han.HanRow.{HanRow}

abbrev pub yaku_row : Bool → Yaku → HanRow
yaku_row concealed yaku = record { part = part.Yaku yaku; han = table.han concealed yaku }

-- a yakuman has no han
abbrev pub yakuman_row : Yaku → HanRow
yakuman_row yaku = record { part = part.Yakuman yaku; han = 0 }

-- a row, where there is any dora
abbrev pub counted_row : HanPart → ℕ → List HanRow
counted_row part han = if han == 0 then [] else record { part = part; han = han } ∷ []

-- the dora, all in one row
abbrev pub dora_row : WinParts → List HanRow
dora_row win = counted_row part.Dora (dora_of win)

-- the yaku in the order of the table, then the dora; of a yakuman its names alone
unfoldable pub han_rows : ℕ → WinParts → List HanRow
han_rows set win =
    if is_yakuman set then map yakuman_row (yaku_in set)
    else map (yaku_row (are_concealed win.melds)) (yaku_in set) ++ dora_row win

-- what rows add up to
abbrev pub han_total : List HanRow → ℕ
han_total rows = sum_by (λ row. row.han) rows
