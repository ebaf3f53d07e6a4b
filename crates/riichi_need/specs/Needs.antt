-- What a player needs.
use Rattle.std.specs.Prelude.{ℕ, ◌≡◌, ◌≤◌, min, Bool, true, false, ◌&&◌, if◌then◌else◌, SomeIndex, IsSome, slice_index, Option, Some, None}
use Rattle.riichi_table.specs.Players.{of_player, is_same_player}
use Rattle.riichi_table.specs.declared.player.Player.{Player}
use Rattle.riichi_table.specs.declared.player.ByPlayer.{ByPlayer}
use Rattle.riichi_hand.specs.Rules.{Rules}
use Rattle.riichi_hand.specs.declared.win.By.{By}
use Rattle.riichi_score.specs.Base.{base_of}
use Rattle.riichi_game.specs.Values.{occurs}
use Rattle.riichi_need.specs.Rows.{IsRow, limit_of, all_fu}
use Rattle.riichi_need.specs.Winning.{way_by, payment_for}
use Rattle.riichi_need.specs.Reaching.{reaches}
use Rattle.riichi_need.specs.declared.need.Need.{Need}
use Rattle.riichi_need.specs.declared.need.Row.{Row}
use Rattle.riichi_need.specs.declared.question.Aim.{Aim}
use Rattle.riichi_need.specs.declared.question.Aim.TheVariants.{Strictly, WithTie}
use Rattle.riichi_need.specs.declared.question.Question.{Question}
use Rattle.riichi_need.specs.declared.question.Way.{Way}
use Rattle.riichi_need.specs.declared.question.Way.TheVariants.{Ron}

-- of the numbers of which P holds the least that passes, or none where none does
abbrev pub IsLeast : (ℕ → Type 0) → (ℕ → Bool) → Option ℕ → Type 0
IsLeast P passes None = (base : ℕ) → P base → passes base ≡ false
IsLeast P passes (Some least) =
    P least × (passes least ≡ true) × ((base : ℕ) → P base → passes base ≡ true → least ≤ base)

-- the base points of a row
abbrev pub base_in : Option Row → Option ℕ
base_in None = None
base_in (Some row) = Some row.base

-- it is paid as the base points say
abbrev pub IsPaid : Question → Way → Option Row → Type 0
IsPaid question way None = Unit {0}
IsPaid question way (Some row) = row.payment ≡ payment_for question way row.base

-- the least base points of any row that bring the player there
abbrev pub IsLeastBase : Question → Way → Aim → Option ℕ → Type 0
IsLeastBase question way aim base = IsLeast (IsRow question.rules.hand (way_by way)) (reaches question aim way) base

-- every greater win brings the player there too
abbrev pub GreaterReach : Question → Way → Aim → Option Row → Type 0
GreaterReach question way aim None = Unit {0}
GreaterReach question way aim (Some row) = (base : ℕ) → row.base ≤ base → reaches question aim way base ≡ true

-- the least row of the table that brings the player there; every greater one does
abbrev pub IsLeastRow : Question → Way → Aim → Option Row → Type 0
IsLeastRow question way aim row =
    IsLeastBase question way aim (base_in row)
    × GreaterReach question way aim row × IsPaid question way row

abbrev pub IsNeed : Question → Way → Need → Type 0
IsNeed question way need = IsLeastRow question way Strictly need.strictly × IsLeastRow question way WithTie need.with_tie

-- off each other player, and nothing off the own discard
abbrev pub IsRonNeed : Question → Player → Option Need → Type 0
IsRonNeed question from None = is_same_player from question.player ≡ true
IsRonNeed question from (Some need) = (is_same_player from question.player ≡ false) × IsNeed question (Ron from) need

abbrev pub AreRonNeeds : Question → ByPlayer (Option Need) → Type 0
AreRonNeeds question needs = (from : Player) → IsRonNeed question from (of_player needs from)

-- ---- parts of the search. No public contract cites these.

-- the lesser of two numbers, where there are two
abbrev pub lesser : Option ℕ → Option ℕ → Option ℕ
lesser None other = other
lesser (Some one) None = Some one
lesser (Some one) (Some other) = Some (min one other)

abbrev pub or_0 : Option ℕ → ℕ
or_0 None = 0
or_0 (Some base) = base

-- the base points of a hand of so many han and fu, if there is such a hand and they pass
abbrev pub base_passing : Rules → By → (ℕ → Bool) → ℕ → ℕ → Option ℕ
base_passing rules by passes han fu =
    if occurs rules by han fu && passes (base_of rules han fu) then Some (base_of rules han fu) else None

-- some hand of so many han has these base points.
abbrev pub IsBaseOfHan : Rules → By → ℕ → ℕ → Type 0
IsBaseOfHan rules by han base =
    SomeIndex all_fu (λ k. (occurs rules by han (slice_index all_fu k) ≡ true) × (base_of rules han (slice_index all_fu k) ≡ base))

-- the least of the hands of so many han
abbrev pub IsLeastOfHan : Question → Way → Aim → ℕ → Option ℕ → Type 0
IsLeastOfHan question way aim han base =
    IsLeast (IsBaseOfHan question.rules.hand (way_by way) han) (reaches question aim way) base

-- the least of the limit hands
abbrev pub IsLeastLimit : Question → Way → Aim → Option ℕ → Type 0
IsLeastLimit question way aim base = IsLeast (λ limit. IsSome (limit_of limit)) (reaches question aim way) base

-- the base points of a hand of so many han and fu that bring the player there
abbrev pub base_reached : Question → Way → Aim → ℕ → ℕ → Option ℕ
base_reached question way aim han fu = base_passing question.rules.hand (way_by way) (reaches question aim way) han fu
