-- What holds of all rows.
use Rattle.std.specs.Prelude.{◌≡◌, Some}
use Rattle.riichi_game.specs.declared.game.Progress.{Progress}
use Rattle.riichi_game_rows.specs.StateRows.{progress_in, progress_row}

-- a progress is read from its row as it was written
abbrev pub ProgressIsReadBack : Type 0
ProgressIsReadBack = (progress : Progress) → progress_in (progress_row progress) ≡ Some progress
