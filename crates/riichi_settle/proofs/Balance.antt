-- No move makes points or loses any.
use Rattle.std.proofs.Common.{◌≡◌, ℕ, ◌+◌, ◌-◌, ◌*◌, ◌≤◌, [], ◌∷◌, pos, ◌+ℤ◌, ◌-ℤ◌, refl, arith}
use Rattle.std.specs.List.{sum_by}
use Rattle.std.proofs.lemmas.Int.{ints}
use Rattle.std.proofs.lemmas.List.Sums.{sum_by-cons}
use Rattle.riichi_table.specs.Players.{is_same_player, over_players}
use Rattle.riichi_table.specs.declared.player.Player.{Player}
use Rattle.riichi_table.specs.declared.player.Player.TheVariants.{First, Second, Third, Fourth}
use Rattle.riichi_settle.specs.Settled.{amount_if, got_by, given_by, sticks_bet, sticks_taken, change_by, sticks_by, moves_of}
use Rattle.riichi_settle.specs.Laws.{MovesBalance, ChangesCancel}
use Rattle.riichi_settle.proofs.Taken.{takes_what_lies}
use Rattle.riichi_settle.specs.declared.moved.Move.{Move}
use Rattle.riichi_settle.specs.declared.moved.Move.TheVariants.{Points, Bet, Sticks}

-- one of the four has it
one_has : (player : Player) (points : ℕ) → over_players (λ other. amount_if (is_same_player player other) points) ≡ points
one_has First points = omega arith
one_has Second points = omega arith
one_has Third points = omega arith
one_has Fourth points = omega arith

-- each move by itself
step_balances : (step : Move) → over_players (λ player. got_by player step) + 1000 * sticks_bet step ≡ over_players (λ player. given_by player step) + 1000 * sticks_taken step
step_balances (Points from to points why) = omega (arith, one_has from points, one_has to points)
step_balances (Bet better) = omega (arith, one_has better 1000)
step_balances (Sticks to count why) = omega (arith, one_has to (1000 * count))

pub moves_balance : MovesBalance
moves_balance [] = refl
moves_balance (step ∷ moves) =
    omega (
      arith,
      sum_by-cons (got_by First) step moves,
      sum_by-cons (got_by Second) step moves,
      sum_by-cons (got_by Third) step moves,
      sum_by-cons (got_by Fourth) step moves,
      sum_by-cons (given_by First) step moves,
      sum_by-cons (given_by Second) step moves,
      sum_by-cons (given_by Third) step moves,
      sum_by-cons (given_by Fourth) step moves,
      sum_by-cons sticks_bet step moves,
      sum_by-cons sticks_taken step moves,
      step_balances step,
      moves_balance moves,
    )

-- the sum over four
summed : (a b c d u v w x bet taken sticks : ℕ) → a + b + c + d + 1000 * bet ≡ u + v + w + x + 1000 * taken → taken ≤ sticks + bet
    → ((pos a -ℤ pos u) +ℤ (pos b -ℤ pos v) +ℤ (pos c -ℤ pos w) +ℤ (pos d -ℤ pos x)) +ℤ pos (1000 * ((sticks + bet) - taken)) ≡ pos (1000 * sticks)
summed a b c d u v w x bet taken sticks balance few = omega (arith, ints)

pub changes_cancel : ChangesCancel
unfolding change_by sticks_by
changes_cancel state rules outcome =
    let moves = moves_of state rules outcome in
    summed (sum_by (got_by First) moves) (sum_by (got_by Second) moves) (sum_by (got_by Third) moves) (sum_by (got_by Fourth) moves)
    (sum_by (given_by First) moves) (sum_by (given_by Second) moves) (sum_by (given_by Third) moves) (sum_by (given_by Fourth) moves)
    (sum_by sticks_bet moves) (sum_by sticks_taken moves) state.sticks (moves_balance moves) (takes_what_lies state rules outcome)
