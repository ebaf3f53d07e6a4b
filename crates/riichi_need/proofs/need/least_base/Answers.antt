use Rattle.std.proofs.Common.{ℕ, ◌⊎◌}
use Rattle.std.specs.Prelude.{IsSome}
use Rattle.riichi_need.specs.Reaching.{reaches}
use Rattle.riichi_need.specs.Rows.{IsRow, limit_of}
use Rattle.riichi_need.specs.Needs.{IsBaseOfHan}
use Rattle.riichi_need.specs.Winning.{way_by}
use Rattle.riichi_need.proofs.Least.{of_lesser, of_same}
use Rattle.riichi_need.proofs.RowsListed.{IsListedRow, is_listed, is_row}
use Rattle.riichi_need.proofs.need.least_base.Goals as goal

pub returns-clause-least : goal.returns-clause-least
returns-clause-least c =
    let rules = c.args.question.now.rules.hand in
    let by = way_by c.args.way in
    let row = IsBaseOfHan rules by in
    let passes = reaches c.args.question.now c.args.aim c.args.way in
    let Limit : ℕ → Type 0 = λ base. IsSome (limit_of base) in
    let From4 : ℕ → Type 0 = λ base. row 4 base ⊎ Limit base in
    let From3 : ℕ → Type 0 = λ base. row 3 base ⊎ From4 base in
    let From2 : ℕ → Type 0 = λ base. row 2 base ⊎ From3 base in
    let four = of_lesser (row 4) Limit passes _ _ _ c.lesser-four.ensures.value c.least_of.ensures.least c.least_limit-limit.ensures.least in
    let three = of_lesser (row 3) From4 passes _ _ _ c.lesser-three.ensures.value c.least_of-2.ensures.least four in
    let two = of_lesser (row 2) From3 passes _ _ _ c.lesser-two.ensures.value c.least_of-3.ensures.least three in
    let one = of_lesser (row 1) From2 passes _ _ _ c.lesser.ensures.value c.least_of-4.ensures.least two in
    of_same (IsListedRow rules by) (IsRow rules by) passes _ (is_row rules by) (is_listed rules by) one
