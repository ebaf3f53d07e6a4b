-- No win by self-draw without counters and sticks gains more than so many points.
use Rattle.std.proofs.Common.{◌≡◌, ℕ, ◌+◌, ◌*◌, ◌<◌, ◌≤◌, Bool, true, false, cond, List, [], ◌∷◌, Option, None, Some, Result, Ok, Err, refl, arith}
use Rattle.std.specs.List.{fold}
use Rattle.std.specs.Prelude.{◌==◌, length, min, nat_le}
use Rattle.riichi_tiles.specs.declared.meld.Meld.{Meld}
use Rattle.riichi_tiles.specs.Melds.{are_concealed}
use Rattle.riichi_hand.specs.Faults.{fault_or, first_fault}
use Rattle.riichi_hand.specs.Rules.{Rules, is_on}
use Rattle.riichi_hand.specs.Win.{is_dealer, kept_under, win_faults, win_of, without_reds}
use Rattle.riichi_hand.specs.declared.fault.LineFault.{LineFault}
use Rattle.riichi_hand.specs.declared.switch.Switch.TheVariants.{CountedYakuman, RedFives}
use Rattle.riichi_hand.specs.declared.win.By.{By}
use Rattle.riichi_hand.specs.declared.win.By.TheVariants.{Ron, Tsumo}
use Rattle.riichi_hand.specs.declared.win.WinParts.{WinParts}
use Rattle.riichi_split.specs.ReadingsOf.{readings_of}
use Rattle.riichi_split.specs.declared.reading.Reading.{Reading}
use Rattle.riichi_yaku.specs.Conditions.{yaku_of}
use Rattle.riichi_yaku.specs.YakuSets.{han_of, is_yakuman}
use Rattle.riichi_score.specs.Base.{base_of, is_raised, low_base, most_base, product_of}
use Rattle.riichi_score.specs.Best.{best_among, best_of, better, is_above, rank}
use Rattle.riichi_score.specs.Dora.{dora_of}
use Rattle.riichi_score.specs.Fu.{fu_of}
use Rattle.riichi_score.specs.Limits.{limits_of}
use Rattle.riichi_score.specs.Payment.{gain_of, paid_for, payment_of, up}
use Rattle.riichi_score.specs.Scores.{completed_hand, counted, score_of, yakuman_score}
use Rattle.riichi_score.specs.declared.answer.WinAnswer.{WinAnswer}
use Rattle.riichi_score.specs.declared.answer.WinAnswer.TheVariants.{Won, NoYaku, NoWin}
use Rattle.riichi_score.specs.declared.score.Score.{Score}
use Rattle.riichi_score.proofs.LimitLemmas.{few_limits}
use Rattle.riichi_worth.specs.Prizes.{gain_if, gain_told, prize_of, win_drawn}
use Rattle.riichi_worth.specs.declared.stakes.Stakes.{Stakes}

-- nothing lies on the table
pub record LiesNothing (win : WinParts) : Type 0 where
  pub counters : win.counters ≡ 0
  pub sticks : win.sticks ≡ 0

-- what so many base points bring
gain_few : (base : ℕ) (win : WinParts) → LiesNothing win → base ≤ 800000 → gain_of (payment_of base win) win.sticks ≤ 5000000
gain_few base win none few = by_payment win.by (is_dealer win.seat) win.counters win.sticks none.counters none.sticks
  where
    rounded : (n : ℕ) → up n ≤ n + 99
    rounded n = omega arith

    by_payment : (by : By) (dealer : Bool) (counters sticks : ℕ) → counters ≡ 0 → sticks ≡ 0 → gain_of (paid_for base by dealer counters) sticks ≤ 5000000
    by_payment Ron true counters sticks e f = omega (arith, rounded (6 * base), few, e, f)
    by_payment Ron false counters sticks e f = omega (arith, rounded (4 * base), few, e, f)
    by_payment Tsumo true counters sticks e f = omega (arith, rounded (2 * base), few, e, f)
    by_payment Tsumo false counters sticks e f = omega (arith, rounded base, rounded (2 * base), few, e, f)

base_few : (rules : Rules) (han fu : ℕ) → base_of rules han fu ≤ 800000
base_few rules han fu = by_tests (nat_le han 4) (nat_le han 5) (nat_le han 7) (nat_le han 10) (nat_le han 12) (low (is_raised rules han fu) (product_of han fu)) (most (is_on CountedYakuman rules))
  where
    low : (t : Bool) (n : ℕ) → cond t 2000 (min 2000 n) ≤ 800000
    low true n = omega arith
    low false n = omega arith

    most : (t : Bool) → cond t 8000 6000 ≤ 800000
    most true = omega arith
    most false = omega arith

    by_tests : (a b c d e : Bool) {f g : ℕ} → f ≤ 800000 → g ≤ 800000 → cond a f (cond b 2000 (cond c 3000 (cond d 4000 (cond e 6000 g)))) ≤ 800000
    by_tests true b c d e few more = few
    by_tests false true c d e few more = omega arith
    by_tests false false true d e few more = omega arith
    by_tests false false false true e few more = omega arith
    by_tests false false false false true few more = omega arith
    by_tests false false false false false few more = more

-- ---- the best of some readings

abbrev counted_han : Reading → WinParts → ℕ
counted_han reading win = han_of (yaku_of reading win) (are_concealed win.melds) + dora_of win

abbrev FewIn : WinAnswer → Type 0
FewIn answer = gain_told answer ≤ 5000000

abbrev FewOf : Option Score → Type 0
FewOf None = Unit {0}
FewOf (Some score) = score.gain ≤ 5000000

reading_few : (win : WinParts) → LiesNothing win → (reading : Reading) → FewOf (score_of reading win)
unfolding score_of
reading_few win none reading =
    by_tests (yaku_of reading win == 0) (is_yakuman (yaku_of reading win)) _ _ (gain_few (8000 * limits_of reading win (yaku_of reading win)) win none (omega (arith, few_limits reading win (yaku_of reading win)))) (gain_few (base_of win.rules (counted_han reading win) (fu_of reading win)) win none (base_few win.rules (counted_han reading win) (fu_of reading win)))
  where
    by_tests : (t u : Bool) (one other : Score) → one.gain ≤ 5000000 → other.gain ≤ 5000000 → FewOf (cond t None (cond u (Some one) (Some other)))
    by_tests true u one other few more = tt
    by_tests false true one other few more = few
    by_tests false false one other few more = more

better_few : (best : WinAnswer) (score : Option Score) → FewIn best → FewOf score → FewIn (better best score)
better_few (Won best) (Some score) few more = by_test (is_above (rank score) (rank best))
  where
    by_test : (t : Bool) → FewIn (cond t (Won score) (Won best))
    by_test true = more
    by_test false = few
better_few (Won best) None few more = few
better_few NoYaku (Some score) few more = more
better_few NoYaku None few more = few
better_few NoWin (Some score) few more = more
better_few NoWin None few more = few

among_few : (win : WinParts) → LiesNothing win → (readings : List Reading) (best : WinAnswer) → FewIn best → FewIn (fold (λ it reading. better it (score_of reading win)) best readings)
among_few win none [] best few = few
among_few win none (reading ∷ readings) best few = among_few win none readings (better best (score_of reading win)) (better_few best (score_of reading win) few (reading_few win none reading))

best_few : (win : WinParts) → LiesNothing win → FewIn (best_of win)
unfolding best_of
best_few win none = among_few win none (readings_of (completed_hand win) (length win.melds) win.winning) NoWin (omega arith)

-- ---- the win that a draw makes

pub prize_few : (stakes : Stakes) (tiles : List ℕ) (melds : List Meld) (kind : ℕ) → prize_of stakes tiles melds kind ≤ 5000000
unfolding prize_of win_of
prize_few stakes tiles melds kind = by_fault (first_fault (win_faults win))
  where
    win : WinParts
    win = win_drawn stakes tiles melds kind

    kept : (t : Bool) → FewIn (best_of (cond t win (without_reds win)))
    kept true = best_few win (record { counters = refl; sticks = refl })
    kept false = best_few (without_reds win) (record { counters = refl; sticks = refl })

    by_fault : (fault : Option LineFault) → gain_if (fault_or fault (kept_under win.rules win)) ≤ 5000000
    by_fault None = kept (is_on RedFives stakes.rules)
    by_fault (Some fault) = omega arith
