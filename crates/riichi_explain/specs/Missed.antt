-- A hand that has no reading: what it waits for, and the lines that say so.
use Rattle.std.specs.Prelude.{ℕ, List, [], ◌∷◌, ◌++◌, map, codes}
use Rattle.riichi_text.specs.Lists.{joined}
use Rattle.riichi_explain.specs.declared.waits.KindWait.{KindWait}
use Rattle.riichi_explain.specs.Waits.{wait_text}
use Rattle.riichi_explain.specs.declared.missed.MissedWin.{MissedWin}
use Rattle.riichi_explain.specs.Forms.{shanten_line}

-- the kinds that the hand waits for, where there are any
unfoldable pub missed_waits : List KindWait → List ℕ
missed_waits [] = []
missed_waits (row ∷ rows) = codes "  waits   " ++ joined (codes "; ") (map wait_text (row ∷ rows)) ++ 10 ∷ []

unfoldable pub missed_lines : MissedWin → List ℕ
missed_lines missed = shanten_line missed.forms ++ missed_waits missed.waits.items
