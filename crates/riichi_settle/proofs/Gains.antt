-- What a lone win changes is what its score says.
use Rattle.std.proofs.Common.{◌≡◌, ℕ, ◌+◌, ◌*◌, Bool, true, false, ◌&&◌, ◌||◌, List, [], ◌++◌, pos, ◌-ℤ◌, neg_ℤ, refl, sym, ◌∙◌, ap, arith, if◌then◌else◌}
use Rattle.std.specs.List.{sum_by}
use Rattle.std.proofs.lemmas.Int.{ints}
use Rattle.std.proofs.lemmas.List.Sums.{sum_by-append}
use Rattle.riichi_score.specs.Payment.{up, by_tsumo, paid as payment_total, gain_of}
use Rattle.riichi_table.specs.Players.{is_same_player, over_players}
use Rattle.riichi_table.specs.Worths.{base_of_worth}
use Rattle.riichi_table.specs.declared.player.Player.{Player}
use Rattle.riichi_table.specs.declared.player.Player.TheVariants.{First, Second, Third, Fourth}
use Rattle.riichi_table.specs.declared.state.GameState.{GameState}
use Rattle.riichi_table.specs.declared.worth.Worth.{Worth}
use Rattle.riichi_settle.specs.Moves.{payment_move, taken}
use Rattle.riichi_settle.specs.Prices.{times_base, ron_price, tsumo_price}
use Rattle.riichi_settle.specs.Wins.{ordinary_ron, drawn, drawn_from, price_between}
use Rattle.riichi_settle.specs.Settled.{got_by, given_by, amount_if, change_by}
use Rattle.riichi_settle.specs.Laws.{tsumo_payment, ron_change, tsumo_change, share_of_payment, SettlesLoneRon, SettlesLoneTsumo}
use Rattle.riichi_settle.proofs.Alone.{lone_ron-moves, lone_tsumo-moves}
use Rattle.riichi_settle.proofs.Flows.{got-paid, given-paid, got-taken, given-taken, sum-each, nothing_if}
use Rattle.riichi_settle.specs.declared.moved.Move.{Move}
use Rattle.riichi_settle.specs.declared.moved.Reason.{Reason}
use Rattle.riichi_settle.specs.declared.moved.Reason.TheVariants as why
use Rattle.riichi_settle.specs.declared.moved.Taking.TheVariants as taking

-- ---- a discard

got-ron : (player dealer from winner : Player) (counters sticks : ℕ) (worth : Worth)
    → sum_by (got_by player) (ordinary_ron dealer from winner counters worth ++ taken winner sticks taking.Winner)
    ≡ amount_if (is_same_player winner player) (ron_price worth (is_same_player winner dealer)) + amount_if (is_same_player winner player) (300 * counters)
    + amount_if (is_same_player winner player) (1000 * sticks)
unfolding ordinary_ron
got-ron player dealer from winner counters sticks worth =
    let price = ron_price worth (is_same_player winner dealer) in
    let one = payment_move from winner price why.Ron in
    let two = payment_move from winner (300 * counters) why.Counters in
    let sticks_of = taken winner sticks taking.Winner in
    omega (
      arith,
      sum_by-append (got_by player) (one ++ two) sticks_of,
      sum_by-append (got_by player) one two,
      got-paid player from winner price why.Ron,
      got-paid player from winner (300 * counters) why.Counters,
      got-taken player winner sticks taking.Winner,
    )

given-ron : (player dealer from winner : Player) (counters sticks : ℕ) (worth : Worth)
    → sum_by (given_by player) (ordinary_ron dealer from winner counters worth ++ taken winner sticks taking.Winner)
    ≡ amount_if (is_same_player from player) (ron_price worth (is_same_player winner dealer)) + amount_if (is_same_player from player) (300 * counters)
unfolding ordinary_ron
given-ron player dealer from winner counters sticks worth =
    let price = ron_price worth (is_same_player winner dealer) in
    let one = payment_move from winner price why.Ron in
    let two = payment_move from winner (300 * counters) why.Counters in
    let sticks_of = taken winner sticks taking.Winner in
    omega (
      arith,
      sum_by-append (given_by player) (one ++ two) sticks_of,
      sum_by-append (given_by player) one two,
      given-paid player from winner price why.Ron,
      given-paid player from winner (300 * counters) why.Counters,
      given-taken player winner sticks taking.Winner,
    )

-- nobody is both winner and discarder
apart-both : (from winner player : Player) → is_same_player from winner ≡ false → is_same_player winner player && is_same_player from player ≡ false
apart-both from First First apart = apart
apart-both from Second Second apart = apart
apart-both from Third Third apart = apart
apart-both from Fourth Fourth apart = apart
apart-both from First Second apart = refl
apart-both from First Third apart = refl
apart-both from First Fourth apart = refl
apart-both from Second First apart = refl
apart-both from Second Third apart = refl
apart-both from Second Fourth apart = refl
apart-both from Third First apart = refl
apart-both from Third Second apart = refl
apart-both from Third Fourth apart = refl
apart-both from Fourth First apart = refl
apart-both from Fourth Second apart = refl
apart-both from Fourth Third apart = refl

ron-sum : (wins gives : Bool) (price counters sticks : ℕ) → wins && gives ≡ false
    → pos (amount_if wins price + amount_if wins counters + amount_if wins sticks) -ℤ pos (amount_if gives price + amount_if gives counters)
    ≡ (if wins then pos (price + counters + sticks) else if gives then neg_ℤ (pos (price + counters)) else pos 0)
ron-sum true true price counters sticks apart = absurd (cc)
ron-sum true false price counters sticks apart = omega (arith, ints)
ron-sum false true price counters sticks apart = omega (arith, ints)
ron-sum false false price counters sticks apart = omega (arith, ints)

difference : (a b c d : ℕ) → a ≡ b → c ≡ d → pos a -ℤ pos c ≡ pos b -ℤ pos d
difference a b c d p q = cc

ron-change : (state : GameState) (from winner player : Player) (worth : Worth) → is_same_player from winner ≡ false
    → change_by (ordinary_ron state.dealer from winner state.counters worth ++ taken winner state.sticks taking.Winner) player
    ≡ ron_change state from winner worth player
unfolding change_by times_base
ron-change state from winner player worth apart =
    let price = ron_price worth (is_same_player winner state.dealer) in
    difference _ _ _ _ (got-ron player state.dealer from winner state.counters state.sticks worth)
    (given-ron player state.dealer from winner state.counters state.sticks worth)
    ∙ ron-sum (is_same_player winner player) (is_same_player from player) price (300 * state.counters) (1000 * state.sticks) (apart-both from winner player apart)

pub settles_lone_ron : SettlesLoneRon
settles_lone_ron state rules from winner player worth apart =
    ap (λ (moves : List Move). change_by moves player) (lone_ron-moves state rules from winner worth apart) ∙ ron-change state from winner player worth apart

-- ---- a self-draw

-- what a player pays the winner
unfoldable share : Player → Player → Worth → ℕ → Player → ℕ
share dealer winner worth counters payer =
    if is_same_player payer winner then 0 else price_between dealer worth payer winner + 100 * counters

both_if : (holds : Bool) (a b : ℕ) → amount_if holds a + amount_if holds b ≡ amount_if holds (a + b)
both_if true a b = refl
both_if false a b = refl

got-if : (own : Bool) (player payer winner : Player) (price counters : ℕ) (reason : Reason)
    → sum_by (got_by player) (if own then [] else payment_move payer winner price reason ++ payment_move payer winner counters why.Counters)
    ≡ amount_if (is_same_player winner player) (if own then 0 else price + counters)
got-if true player payer winner price counters reason = sym (nothing_if (is_same_player winner player))
got-if false player payer winner price counters reason =
    omega (
      arith,
      sum_by-append (got_by player) (payment_move payer winner price reason) (payment_move payer winner counters why.Counters),
      got-paid player payer winner price reason,
      got-paid player payer winner counters why.Counters,
      both_if (is_same_player winner player) price counters,
    )

given-if : (own : Bool) (player payer winner : Player) (price counters : ℕ) (reason : Reason)
    → sum_by (given_by player) (if own then [] else payment_move payer winner price reason ++ payment_move payer winner counters why.Counters)
    ≡ amount_if (is_same_player payer player) (if own then 0 else price + counters)
given-if true player payer winner price counters reason = sym (nothing_if (is_same_player payer player))
given-if false player payer winner price counters reason =
    omega (
      arith,
      sum_by-append (given_by player) (payment_move payer winner price reason) (payment_move payer winner counters why.Counters),
      given-paid player payer winner price reason,
      given-paid player payer winner counters why.Counters,
      both_if (is_same_player payer player) price counters,
    )

got-from : (player dealer winner : Player) (worth : Worth) (counters : ℕ) (payer : Player)
    → sum_by (got_by player) (drawn_from dealer winner worth counters why.Tsumo payer) ≡ amount_if (is_same_player winner player) (share dealer winner worth counters payer)
unfolding drawn_from share
got-from player dealer winner worth counters payer =
    got-if (is_same_player payer winner) player payer winner (price_between dealer worth payer winner) (100 * counters) why.Tsumo

given-from : (player dealer winner : Player) (worth : Worth) (counters : ℕ) (payer : Player)
    → sum_by (given_by player) (drawn_from dealer winner worth counters why.Tsumo payer) ≡ amount_if (is_same_player payer player) (share dealer winner worth counters payer)
unfolding drawn_from share
given-from player dealer winner worth counters payer =
    given-if (is_same_player payer winner) player payer winner (price_between dealer worth payer winner) (100 * counters) why.Tsumo

four_if : (holds : Bool) (a b c d : ℕ) → amount_if holds a + amount_if holds b + amount_if holds c + amount_if holds d ≡ amount_if holds (a + b + c + d)
four_if true a b c d = refl
four_if false a b c d = refl

got-drawn : (player dealer winner : Player) (worth : Worth) (counters : ℕ)
    → sum_by (got_by player) (drawn dealer winner worth counters why.Tsumo) ≡ amount_if (is_same_player winner player) (over_players (share dealer winner worth counters))
unfolding drawn
got-drawn player dealer winner worth counters =
    let paid_by = share dealer winner worth counters in
    omega (
      arith,
      sum-each (got_by player) (drawn_from dealer winner worth counters why.Tsumo),
      got-from player dealer winner worth counters First,
      got-from player dealer winner worth counters Second,
      got-from player dealer winner worth counters Third,
      got-from player dealer winner worth counters Fourth,
      four_if (is_same_player winner player) (paid_by First) (paid_by Second) (paid_by Third) (paid_by Fourth),
    )

one-gives : (player : Player) (f : Player → ℕ)
    → amount_if (is_same_player First player) (f First) + amount_if (is_same_player Second player) (f Second)
    + amount_if (is_same_player Third player) (f Third) + amount_if (is_same_player Fourth player) (f Fourth) ≡ f player
one-gives First f = omega arith
one-gives Second f = omega arith
one-gives Third f = omega arith
one-gives Fourth f = omega arith

given-drawn : (player dealer winner : Player) (worth : Worth) (counters : ℕ)
    → sum_by (given_by player) (drawn dealer winner worth counters why.Tsumo) ≡ share dealer winner worth counters player
unfolding drawn
given-drawn player dealer winner worth counters =
    omega (
      arith,
      sum-each (given_by player) (drawn_from dealer winner worth counters why.Tsumo),
      given-from player dealer winner worth counters First,
      given-from player dealer winner worth counters Second,
      given-from player dealer winner worth counters Third,
      given-from player dealer winner worth counters Fourth,
      one-gives player (share dealer winner worth counters),
    )

got-tsumo : (player dealer winner : Player) (worth : Worth) (counters sticks : ℕ)
    → sum_by (got_by player) (drawn dealer winner worth counters why.Tsumo ++ taken winner sticks taking.Winner)
    ≡ amount_if (is_same_player winner player) (over_players (share dealer winner worth counters) + 1000 * sticks)
got-tsumo player dealer winner worth counters sticks =
    omega (
      arith,
      sum_by-append (got_by player) (drawn dealer winner worth counters why.Tsumo) (taken winner sticks taking.Winner),
      got-drawn player dealer winner worth counters,
      got-taken player winner sticks taking.Winner,
      both_if (is_same_player winner player) (over_players (share dealer winner worth counters)) (1000 * sticks),
    )

given-tsumo : (player dealer winner : Player) (worth : Worth) (counters sticks : ℕ)
    → sum_by (given_by player) (drawn dealer winner worth counters why.Tsumo ++ taken winner sticks taking.Winner) ≡ share dealer winner worth counters player
given-tsumo player dealer winner worth counters sticks =
    omega (
      arith,
      sum_by-append (given_by player) (drawn dealer winner worth counters why.Tsumo) (taken winner sticks taking.Winner),
      given-drawn player dealer winner worth counters,
      given-taken player winner sticks taking.Winner,
    )

one_times : (base : ℕ) → up (1 * base) ≡ up base
one_times base = ap up (omega arith)

-- all that is paid is what the score says
all-paid : (dealer winner : Player) (worth : Worth) (counters : ℕ)
    → over_players (share dealer winner worth counters) ≡ payment_total (by_tsumo (base_of_worth worth) (is_same_player winner dealer) counters)
unfolding share times_base
all-paid First First worth counters = omega (arith, one_times (base_of_worth worth))
all-paid First Second worth counters = omega (arith, one_times (base_of_worth worth))
all-paid First Third worth counters = omega (arith, one_times (base_of_worth worth))
all-paid First Fourth worth counters = omega (arith, one_times (base_of_worth worth))
all-paid Second First worth counters = omega (arith, one_times (base_of_worth worth))
all-paid Second Second worth counters = omega (arith, one_times (base_of_worth worth))
all-paid Second Third worth counters = omega (arith, one_times (base_of_worth worth))
all-paid Second Fourth worth counters = omega (arith, one_times (base_of_worth worth))
all-paid Third First worth counters = omega (arith, one_times (base_of_worth worth))
all-paid Third Second worth counters = omega (arith, one_times (base_of_worth worth))
all-paid Third Third worth counters = omega (arith, one_times (base_of_worth worth))
all-paid Third Fourth worth counters = omega (arith, one_times (base_of_worth worth))
all-paid Fourth First worth counters = omega (arith, one_times (base_of_worth worth))
all-paid Fourth Second worth counters = omega (arith, one_times (base_of_worth worth))
all-paid Fourth Third worth counters = omega (arith, one_times (base_of_worth worth))
all-paid Fourth Fourth worth counters = omega (arith, one_times (base_of_worth worth))

-- the winner pays nothing, and each other what the score says
share-is : (own payer_deals winner_deals : Bool) (worth : Worth) (counters : ℕ)
    → (if own then 0 else tsumo_price worth (payer_deals || winner_deals) + 100 * counters)
    ≡ (if own then 0 else share_of_payment (by_tsumo (base_of_worth worth) winner_deals counters) payer_deals)
unfolding times_base
share-is true payer_deals winner_deals worth counters = refl
share-is false true true worth counters = refl
share-is false true false worth counters = refl
share-is false false true worth counters = refl
share-is false false false worth counters = omega (arith, one_times (base_of_worth worth))

same-back : (one other : Player) → is_same_player one other ≡ is_same_player other one
same-back First First = refl
same-back First Second = refl
same-back First Third = refl
same-back First Fourth = refl
same-back Second First = refl
same-back Second Second = refl
same-back Second Third = refl
same-back Second Fourth = refl
same-back Third First = refl
same-back Third Second = refl
same-back Third Third = refl
same-back Third Fourth = refl
same-back Fourth First = refl
same-back Fourth Second = refl
same-back Fourth Third = refl
same-back Fourth Fourth = refl

tsumo-sum : (wins : Bool) (all price : ℕ) → pos (amount_if wins all) -ℤ pos (if wins then 0 else price) ≡ (if wins then pos all else neg_ℤ (pos price))
tsumo-sum true all price = omega (arith, ints)
tsumo-sum false all price = omega (arith, ints)

share-at : (state : GameState) (winner player : Player) (worth : Worth)
    → share state.dealer winner worth state.counters player
    ≡ (if is_same_player winner player then 0 else share_of_payment (tsumo_payment state winner worth) (is_same_player player state.dealer))
unfolding share
share-at state winner player worth =
    share-is (is_same_player player winner) (is_same_player player state.dealer) (is_same_player winner state.dealer) worth state.counters
    ∙ ap (λ (own : Bool). if own then 0 else share_of_payment (tsumo_payment state winner worth) (is_same_player player state.dealer)) (same-back player winner)

tsumo-change : (state : GameState) (winner player : Player) (worth : Worth)
    → change_by (drawn state.dealer winner worth state.counters why.Tsumo ++ taken winner state.sticks taking.Winner) player ≡ tsumo_change state winner worth player
unfolding change_by
tsumo-change state winner player worth =
    let gain = gain_of (tsumo_payment state winner worth) state.sticks in
    let price = share_of_payment (tsumo_payment state winner worth) (is_same_player player state.dealer) in
    difference _ _ _ _
    (got-tsumo player state.dealer winner worth state.counters state.sticks
    ∙ ap (λ (all : ℕ). amount_if (is_same_player winner player) (all + 1000 * state.sticks)) (all-paid state.dealer winner worth state.counters))
    (given-tsumo player state.dealer winner worth state.counters state.sticks ∙ share-at state winner player worth)
    ∙ tsumo-sum (is_same_player winner player) gain price

pub settles_lone_tsumo : SettlesLoneTsumo
settles_lone_tsumo state rules winner player worth =
    ap (λ (moves : List Move). change_by moves player) (lone_tsumo-moves state rules winner worth) ∙ tsumo-change state winner player worth
