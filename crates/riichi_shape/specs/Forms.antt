-- The distance of a hand from each form of a winning hand.
use Rattle.std.specs.Prelude.{ℕ, ◌≡◌, ◌==◌, ◌<◌, ◌≤◌, List, length, min, Option, Some, None, if◌then◌else◌}
use Rattle.riichi_tiles.specs.declared.meld.Meld.{Meld}
use Rattle.riichi_shape.specs.Distance.{PairsReached, OrphansReached}
use Rattle.riichi_tiles.specs.Forms.{IsSevenPairs, IsThirteenOrphans}
use Rattle.riichi_shape.specs.Winning.{lacking}
use Rattle.riichi_shape.specs.declared.forms.FormDistances.{FormDistances}

-- some seven pairs lack n tiles, and none lack fewer; beside a meld there are none
abbrev pub IsPairsDistance : List ℕ → List Meld → Option ℕ → Type 0
IsPairsDistance hand melds (Some n) = (length melds ≡ 0) × PairsReached hand n × ((wanted : List ℕ) → IsSevenPairs wanted → n ≤ lacking hand wanted)
IsPairsDistance hand melds None = 0 < length melds

-- the same of thirteen orphans
abbrev pub IsOrphansDistance : List ℕ → List Meld → Option ℕ → Type 0
IsOrphansDistance hand melds (Some n) = (length melds ≡ 0) × OrphansReached hand n × ((wanted : List ℕ) → IsThirteenOrphans wanted → n ≤ lacking hand wanted)
IsOrphansDistance hand melds None = 0 < length melds

-- a form that stands beside no meld
abbrev pub without_meld : ℕ → ℕ → Option ℕ
without_meld melded lack = if melded == 0 then Some lack else None

abbrev pub min_with : ℕ → Option ℕ → ℕ
min_with n None = n
min_with n (Some other) = min n other

-- the least of the three
abbrev pub least_of : FormDistances → ℕ
least_of forms = min_with (min_with forms.sets_and_pair forms.seven_pairs) forms.thirteen_orphans
