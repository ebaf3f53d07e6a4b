-- What is moved where one wins alone, with no bet in the deal and nobody liable.
use Rattle.std.proofs.Common.{◌≡◌, ℕ, ◌+◌, ◌-◌, Bool, true, false, List, [], ◌++◌, Option, None, refl, ◌∙◌, ap, arith, if◌then◌else◌}
use Rattle.std.proofs.lemmas.List.{append-nil}
use Rattle.riichi_table.specs.Players.{of_player, is_same_player, count_players, with_player, same_for_all}
use Rattle.riichi_table.specs.declared.player.Player.{Player}
use Rattle.riichi_table.specs.declared.player.Player.TheVariants.{First, Second, Third, Fourth}
use Rattle.riichi_table.specs.declared.player.ByPlayer.{ByPlayer}
use Rattle.riichi_table.specs.declared.rules.TableRules.{TableRules}
use Rattle.riichi_table.specs.declared.rules.CountersTo.{CountersTo}
use Rattle.riichi_table.specs.declared.rules.CountersTo.TheVariants as counters_to
use Rattle.riichi_table.specs.declared.rules.SticksTo.{SticksTo}
use Rattle.riichi_table.specs.declared.rules.SticksTo.TheVariants as sticks_to
use Rattle.riichi_table.specs.declared.rules.SeveralWinners.{SeveralWinners}
use Rattle.riichi_table.specs.declared.rules.SeveralWinners.TheVariants.{All, Nearest, Two}
use Rattle.riichi_table.specs.declared.state.GameState.{GameState}
use Rattle.riichi_table.specs.declared.worth.Worth.{Worth}
use Rattle.riichi_table.specs.declared.outcome.Win.{Win}
use Rattle.riichi_table.specs.declared.outcome.Outcome.TheVariants.{Ron}
use Rattle.riichi_settle.specs.Moves.{taken, bets}
use Rattle.riichi_settle.specs.Winners.{nearest, nearest_alone, two_at_most, ron_as_played}
use Rattle.riichi_settle.specs.Wins.{ordinary_ron, one_ron, counters_for, win_moves, ron_moves, own_bets, own_taken, sticks_won, drawn, tsumo_moves}
use Rattle.riichi_settle.specs.Settled.{sticks_lying, moves_as_played, moves_of}
use Rattle.riichi_settle.specs.Laws.{nobody, plain, lone_win, lone_ron, lone_tsumo}
use Rattle.riichi_settle.specs.declared.moved.Move.{Move}
use Rattle.riichi_settle.specs.declared.moved.Reason.TheVariants as why
use Rattle.riichi_settle.specs.declared.moved.Taking.TheVariants as taking

-- who wins alone is the nearest
nearest-only : (from winner : Player) (worth : Worth) → is_same_player from winner ≡ false → nearest from (lone_win winner worth) ≡ winner
unfolding nearest
nearest-only First First worth apart = absurd (cc)
nearest-only First Second worth apart = refl
nearest-only First Third worth apart = refl
nearest-only First Fourth worth apart = refl
nearest-only Second First worth apart = refl
nearest-only Second Second worth apart = absurd (cc)
nearest-only Second Third worth apart = refl
nearest-only Second Fourth worth apart = refl
nearest-only Third First worth apart = refl
nearest-only Third Second worth apart = refl
nearest-only Third Third worth apart = absurd (cc)
nearest-only Third Fourth worth apart = refl
nearest-only Fourth First worth apart = refl
nearest-only Fourth Second worth apart = refl
nearest-only Fourth Third worth apart = refl
nearest-only Fourth Fourth worth apart = absurd (cc)

alone-at : (winner : Player) (worth : Worth) → with_player (same_for_all None) winner (of_player (lone_win winner worth) winner) ≡ lone_win winner worth
alone-at First worth = refl
alone-at Second worth = refl
alone-at Third worth = refl
alone-at Fourth worth = refl

two-only : (from winner : Player) (worth : Worth) → two_at_most from (lone_win winner worth) nobody ≡ lone_ron from winner worth
two-only from First worth = refl
two-only from Second worth = refl
two-only from Third worth = refl
two-only from Fourth worth = refl

nearest_alone-only : (from winner : Player) (worth : Worth) → is_same_player from winner ≡ false → nearest_alone from (lone_win winner worth) ≡ lone_win winner worth
unfolding nearest_alone
nearest_alone-only from winner worth apart =
    ap (λ (player : Player). with_player (same_for_all None) player (of_player (lone_win winner worth) player)) (nearest-only from winner worth apart) ∙ alone-at winner worth

-- so it is played as it is, whatever the rules say of several
played-alone : (ron : SeveralWinners) (from winner : Player) (worth : Worth) → is_same_player from winner ≡ false
    → ron_as_played ron from (lone_win winner worth) nobody ≡ lone_ron from winner worth
unfolding ron_as_played
played-alone All from winner worth apart = refl
played-alone Nearest from winner worth apart = ap (λ (wins : ByPlayer (Option Win)). Ron from wins nobody) (nearest_alone-only from winner worth apart)
played-alone Two from winner worth apart = two-only from winner worth

is_same-own : (player : Player) → is_same_player player player ≡ true
is_same-own First = refl
is_same-own Second = refl
is_same-own Third = refl
is_same-own Fourth = refl

-- the counters go to this winner
own-counters : (counters : ℕ) (to : CountersTo) (from winner : Player) (worth : Worth) → is_same_player from winner ≡ false
    → counters_for counters to from (lone_win winner worth) winner ≡ counters
own-counters counters counters_to.Each from winner worth apart = refl
own-counters counters counters_to.Nearest from winner worth apart =
    ap (λ (player : Player). if is_same_player winner player then counters else 0) (nearest-only from winner worth apart)
    ∙ ap (λ (same : Bool). if same then counters else 0) (is_same-own winner)

-- nobody else is paid
paid-alone : (state : GameState) (to : CountersTo) (from winner : Player) (worth : Worth)
    → ron_moves state to from (lone_win winner worth)
    ≡ ordinary_ron state.dealer from winner (counters_for state.counters to from (lone_win winner worth) winner) worth
unfolding ron_moves win_moves one_ron
paid-alone state to from First worth =
    let list = ordinary_ron state.dealer from First (counters_for state.counters to from (lone_win First worth) First) worth in
    append-nil (list ++ [] ++ []) ∙ append-nil (list ++ []) ∙ append-nil list
paid-alone state to from Second worth =
    let list = ordinary_ron state.dealer from Second (counters_for state.counters to from (lone_win Second worth) Second) worth in
    append-nil (list ++ []) ∙ append-nil list
paid-alone state to from Third worth =
    append-nil (ordinary_ron state.dealer from Third (counters_for state.counters to from (lone_win Third worth) Third) worth)
paid-alone state to from Fourth worth = refl

-- nobody takes an own bet back
no-own : (winner : Player) (worth : Worth) → own_taken (own_bets (lone_win winner worth) nobody) ≡ []
unfolding own_taken
no-own First worth = refl
no-own Second worth = refl
no-own Third worth = refl
no-own Fourth worth = refl

no-own-count : (winner : Player) (worth : Worth) → count_players (of_player (own_bets (lone_win winner worth) nobody)) ≡ 0
no-own-count First worth = refl
no-own-count Second worth = refl
no-own-count Third worth = refl
no-own-count Fourth worth = refl

taken-at : (one winner : Player) (count sticks : ℕ) → one ≡ winner → count ≡ sticks → taken one count taking.Winner ≡ taken winner sticks taking.Winner
taken-at one winner count sticks p q = cc

-- this winner takes all sticks that lay
sticks-alone : (to : SticksTo) (sticks : ℕ) (from winner : Player) (worth : Worth) → is_same_player from winner ≡ false
    → sticks_won to (sticks + 0) from (lone_win winner worth) nobody ≡ taken winner sticks taking.Winner
unfolding sticks_won own_taken
sticks-alone sticks_to.Nearest sticks from winner worth apart =
    taken-at (nearest from (lone_win winner worth)) winner (sticks + 0) sticks (nearest-only from winner worth apart) (omega arith)
sticks-alone sticks_to.Own sticks from winner worth apart =
    let count = count_players (of_player (own_bets (lone_win winner worth) nobody)) in
    let rest = taken (nearest from (lone_win winner worth)) ((sticks + 0) - count) taking.Winner in
    ap (λ (own : List Move). own ++ rest) (no-own winner worth)
    ∙ taken-at (nearest from (lone_win winner worth)) winner ((sticks + 0) - count) sticks (nearest-only from winner worth apart) (omega (arith, no-own-count winner worth))

-- ---- all that is moved

joined : (bets_of : List Move) (a b c d : List Move) → bets_of ≡ [] → a ≡ b → c ≡ d → bets_of ++ a ++ c ≡ b ++ d
joined bets_of a b c d none p q = ap (λ (xs : List Move). xs ++ a ++ c) none ∙ ap (λ (xs : List Move). xs ++ c) p ∙ ap (λ (xs : List Move). b ++ xs) q

no-bets : bets nobody ≡ []
unfolding bets
no-bets = refl

pub lone_ron-moves : (state : GameState) (rules : TableRules) (from winner : Player) (worth : Worth) → is_same_player from winner ≡ false
    → moves_of state rules (lone_ron from winner worth) ≡ ordinary_ron state.dealer from winner state.counters worth ++ taken winner state.sticks taking.Winner
unfolding moves_of moves_as_played
lone_ron-moves state rules from winner worth apart =
    let wins = lone_win winner worth in
    let counters = counters_for state.counters rules.counters from wins winner in
    ap (moves_as_played state rules) (played-alone rules.ron from winner worth apart)
    ∙ joined (bets nobody) (ron_moves state rules.counters from wins) (ordinary_ron state.dealer from winner state.counters worth)
    (sticks_won rules.sticks (sticks_lying state nobody) from wins nobody) (taken winner state.sticks taking.Winner) no-bets
    (paid-alone state rules.counters from winner worth
    ∙ ap (λ (n : ℕ). ordinary_ron state.dealer from winner n worth) (own-counters state.counters rules.counters from winner worth apart))
    (sticks-alone rules.sticks state.sticks from winner worth apart)

drawn-alone : (state : GameState) (winner : Player) (worth : Worth) → tsumo_moves state winner (plain worth) ≡ drawn state.dealer winner worth state.counters why.Tsumo
unfolding tsumo_moves
drawn-alone state winner worth = refl

pub lone_tsumo-moves : (state : GameState) (rules : TableRules) (winner : Player) (worth : Worth)
    → moves_of state rules (lone_tsumo winner worth) ≡ drawn state.dealer winner worth state.counters why.Tsumo ++ taken winner state.sticks taking.Winner
unfolding moves_of moves_as_played
lone_tsumo-moves state rules winner worth =
    joined (bets nobody) (tsumo_moves state winner (plain worth)) (drawn state.dealer winner worth state.counters why.Tsumo)
    (taken winner (sticks_lying state nobody) taking.Winner) (taken winner state.sticks taking.Winner) no-bets (drawn-alone state winner worth)
    (taken-at winner winner (state.sticks + 0) state.sticks refl (omega arith))
