-- What lists of moves add up to, by any measure of a move that is nothing where nothing is paid or taken.
use Rattle.std.proofs.Common.{◌≡◌, ℕ, ◌+◌, ◌*◌, Bool, true, false, List, ◌++◌, refl, arith}
use Rattle.std.specs.List.{sum_by}
use Rattle.std.proofs.lemmas.Bool.Decides.{nat_tests}
use Rattle.std.proofs.lemmas.List.Sums.{sum_by-append}
use Rattle.riichi_table.specs.declared.player.Player.{Player}
use Rattle.riichi_table.specs.declared.player.Player.TheVariants.{First, Second, Third, Fourth}
use Rattle.riichi_settle.specs.Moves.{payment_move, taken, each_player}
use Rattle.riichi_settle.specs.Settled.{got_by, given_by, sticks_bet, sticks_taken, amount_if}
use Rattle.riichi_settle.specs.declared.moved.Move.{Move}
use Rattle.riichi_settle.specs.declared.moved.Reason.{Reason}
use Rattle.riichi_settle.specs.declared.moved.Taking.{Taking}
use Rattle.riichi_table.specs.Players.{is_same_player, over_players}

pub nothing_if : (holds : Bool) → amount_if holds 0 ≡ 0
nothing_if true = refl
nothing_if false = refl

pub got-paid : (player from to : Player) (points : ℕ) (why : Reason) → sum_by (got_by player) (payment_move from to points why) ≡ amount_if (is_same_player to player) points
got-paid player from to points why = grind (arith, nat_tests, nothing_if)

pub given-paid : (player from to : Player) (points : ℕ) (why : Reason) → sum_by (given_by player) (payment_move from to points why) ≡ amount_if (is_same_player from player) points
given-paid player from to points why = grind (arith, nat_tests, nothing_if)

pub bet-paid : (from to : Player) (points : ℕ) (why : Reason) → sum_by sticks_bet (payment_move from to points why) ≡ 0
bet-paid from to points why = grind (arith, nat_tests)

pub taken-paid : (from to : Player) (points : ℕ) (why : Reason) → sum_by sticks_taken (payment_move from to points why) ≡ 0
taken-paid from to points why = grind (arith, nat_tests)

pub got-taken : (player to : Player) (count : ℕ) (why : Taking) → sum_by (got_by player) (taken to count why) ≡ amount_if (is_same_player to player) (1000 * count)
got-taken player to count why = grind (arith, nat_tests, nothing_if)

pub given-taken : (player to : Player) (count : ℕ) (why : Taking) → sum_by (given_by player) (taken to count why) ≡ 0
given-taken player to count why = grind (arith, nat_tests)

pub bet-taken : (to : Player) (count : ℕ) (why : Taking) → sum_by sticks_bet (taken to count why) ≡ 0
bet-taken to count why = grind (arith, nat_tests)

pub taken-taken : (to : Player) (count : ℕ) (why : Taking) → sum_by sticks_taken (taken to count why) ≡ count
taken-taken to count why = grind (arith, nat_tests)

-- a measure of what is listed for each player
pub sum-each : (measure : Move → ℕ) (f : Player → List Move) → sum_by measure (each_player f) ≡ over_players (λ player. sum_by measure (f player))
sum-each measure f =
    let three : sum_by measure (each_player f) ≡ sum_by measure (f First ++ f Second ++ f Third) + sum_by measure (f Fourth) =
    sum_by-append measure (f First ++ f Second ++ f Third) (f Fourth) in
    let two : sum_by measure (f First ++ f Second ++ f Third) ≡ sum_by measure (f First ++ f Second) + sum_by measure (f Third) =
    sum_by-append measure (f First ++ f Second) (f Third) in
    let one : sum_by measure (f First ++ f Second) ≡ sum_by measure (f First) + sum_by measure (f Second) =
    sum_by-append measure (f First) (f Second) in
    omega arith
