-- The rows of the table of payments: the base points that hands have, up to one yakuman.
use Rattle.std.specs.Prelude.{ℕ, ◌≡◌, Bool, true, ◌&&◌, ◌==◌, if◌then◌else◌, List, [], ◌∷◌, ◌⊎◌, Option, Some, None, IsSome}
use Rattle.riichi_hand.specs.Rules.{Rules}
use Rattle.riichi_hand.specs.declared.win.By.{By}
use Rattle.riichi_score.specs.Base.{base_of}
use Rattle.riichi_game.specs.Values.{occurs}
use Rattle.riichi_game.specs.declared.values.LimitHand.{LimitHand}
use Rattle.riichi_game.specs.declared.values.LimitHand.TheVariants.{Mangan, Haneman, Baiman, Sanbaiman, Yakuman}

-- the limit hand, up to one yakuman, of so many base points
abbrev pub limit_of : ℕ → Option LimitHand
limit_of base =
    if base == 2000 then Some Mangan
    else if base == 3000 then Some Haneman
    else if base == 4000 then Some Baiman
    else if base == 6000 then Some Sanbaiman
    else if base == 8000 then Some (Yakuman 1)
    else None

-- some hand has so many han and fu, and these base points
abbrev pub pays_so : Rules → By → ℕ → ℕ → ℕ → Bool
pays_so rules by base han fu = occurs rules by han fu && (base_of rules han fu == base)

-- some counted hand has these base points
abbrev pub IsCountedRow : Rules → By → ℕ → Type 0
IsCountedRow rules by base = (han : ℕ) × (fu : ℕ) × (occurs rules by han fu ≡ true) × (base_of rules han fu ≡ base)

-- some counted hand has them, or a limit hand
abbrev pub IsRow : Rules → By → ℕ → Type 0
IsRow rules by base = IsCountedRow rules by base ⊎ IsSome (limit_of base)

-- the fu that hands have, as far as a table lists them
abbrev pub all_fu : List ℕ
all_fu = 20 ∷ 25 ∷ 30 ∷ 40 ∷ 50 ∷ 60 ∷ 70 ∷ 80 ∷ 90 ∷ 100 ∷ 110 ∷ 120 ∷ 130 ∷ 140 ∷ []
