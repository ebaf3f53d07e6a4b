-- The rows of a hand's dora: what is indicated, what the indicators below make dora, and the red fives.
use Rattle.std.specs.Prelude.{ℕ, ◌*◌, ◌==◌, List, [], ◌∷◌, ◌++◌, slice_index, if◌then◌else◌}
use Rattle.std.specs.List.{sum_by}
use Rattle.riichi_tiles.specs.Dora.{indicated}
use Rattle.riichi_tiles.specs.Melds.{every_kind}
use Rattle.riichi_hand.specs.declared.win.WinParts.{WinParts}
use Rattle.riichi_hand.specs.Win.{copies_won}
use Rattle.riichi_score.specs.Dora.{counted_ura, red_dora}
use Rattle.riichi_explain.specs.declared.dora.DoraPart.{DoraPart}
use Rattle.riichi_explain.specs.declared.dora.DoraPart.TheVariants as part
use Rattle.riichi_explain.specs.declared.dora.DoraRow.{DoraRow}

-- the copies of the kind that an indicator of this kind makes dora, one for each such indicator
abbrev pub dora_by : List ℕ → WinParts → ℕ → ℕ
dora_by indicators win kind = slice_index indicators kind * copies_won win (indicated kind)

-- the dora that these indicators make
abbrev pub shown_dora : List ℕ → WinParts → ℕ
shown_dora indicators win = sum_by (dora_by indicators win) every_kind

-- a row, where there is any
abbrev pub dora_row_if : DoraPart → ℕ → List DoraRow
dora_row_if part han = if han == 0 then [] else record { part = part; han = han } ∷ []

-- those of the indicators, of the indicators below these, and the red fives
unfoldable pub dora_rows : WinParts → List DoraRow
dora_rows win =
    dora_row_if part.Indicated (shown_dora win.dora win)
    ++ dora_row_if part.Below (shown_dora (counted_ura win) win)
    ++ dora_row_if part.RedFives (red_dora win.rules win.reds)

-- what rows add up to
abbrev pub dora_total : List DoraRow → ℕ
dora_total rows = sum_by (λ row. row.han) rows
