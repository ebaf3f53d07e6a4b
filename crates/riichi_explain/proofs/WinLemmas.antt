-- The rows of a won hand add up to its score.
use Rattle.std.proofs.Common.{◌≡◌, ℕ, ◌+◌, ◌*◌, ◌≤◌, Bool, true, false, cond, min, ltb, leb, eqb, Some, None, List, [], refl, sym, ap, ◌∙◌, subst, arith}
use Rattle.std.proofs.lemmas.Bool.Decides.{nat_tests}
use Rattle.riichi_tiles.specs.Melds.{are_concealed}
use Rattle.riichi_hand.specs.declared.win.By.{By}
use Rattle.riichi_hand.specs.declared.win.By.TheVariants.{Ron, Tsumo}
use Rattle.riichi_hand.specs.Rules.{Rules, is_on}
use Rattle.riichi_hand.specs.declared.win.WinParts.{WinParts}
use Rattle.riichi_split.specs.declared.reading.Reading.{Reading}
use Rattle.riichi_split.specs.declared.reading.Reading.TheVariants.{Standard, SevenPairs, Orphans}
use Rattle.riichi_hand.specs.Win.{is_dealer}
use Rattle.riichi_yaku.specs.Conditions.{yaku_of}
use Rattle.riichi_yaku.specs.YakuSets.{han_of, is_yakuman}
use Rattle.riichi_score.specs.Base.{is_raised, product_of, base_of}
use Rattle.riichi_score.specs.Dora.{dora_of}
use Rattle.riichi_score.specs.Fu.{fu_of}
use Rattle.riichi_score.specs.Limits.{limits_of}
use Rattle.riichi_score.proofs.LimitLemmas.{few_limits}
use Rattle.riichi_score.specs.Payment.{payment_of, paid_for, gain_of}
use Rattle.riichi_score.specs.Scores.{score_of, counted, yakuman_score, IsReadingOf}
use Rattle.riichi_score.specs.declared.score.Score.{Score}
use Rattle.riichi_explain.specs.declared.base.BaseRule.TheVariants.{Product, Capped, Raised, Limited}
use Rattle.riichi_explain.specs.declared.base.Limit.TheVariants.{Mangan, Haneman, Baiman, Sanbaiman, Yakuman}
use Rattle.riichi_explain.specs.declared.payers.PayRow.{PayRow}
use Rattle.riichi_explain.specs.declared.win.WonHand.{WonHand}
use Rattle.riichi_explain.specs.Base.{counted_rule, base_rule, points_by}
use Rattle.riichi_explain.specs.Dora.{dora_total}
use Rattle.riichi_explain.specs.Fu.{fu_from_rows}
use Rattle.riichi_explain.specs.Han.{han_rows, han_total}
use Rattle.riichi_explain.specs.Payers.{rows_by, pay_rows, pay_total}
use Rattle.riichi_explain.specs.Win.{counted_dora, counted_fu, IsWonHand}
use Rattle.riichi_explain.proofs.DoraLemmas.{rows_give_dora}
use Rattle.riichi_explain.proofs.FuLemmas.{rows_give_fu}
use Rattle.riichi_explain.proofs.HanLemmas.{han_rows-total}
use Rattle.riichi_hand.specs.declared.switch.Switch.TheVariants.{CountedYakuman}

-- ---- base points

low-points : (raised above : Bool) (product : ℕ) → above ≡ ltb 2000 product → points_by (cond raised (Raised product) (cond above (Capped product) (Product product))) ≡ cond raised 2000 (min 2000 product)
low-points true above product e = refl
low-points false true product e = grind (arith, nat_tests)
low-points false false product e = grind (arith, nat_tests)

counted-cases : (four five seven ten twelve counted raised above : Bool) (product : ℕ) → above ≡ ltb 2000 product →
    points_by (cond four (cond raised (Raised product) (cond above (Capped product) (Product product)))
    (cond five (Limited Mangan) (cond seven (Limited Haneman) (cond ten (Limited Baiman) (cond twelve (Limited Sanbaiman) (Limited (cond counted Yakuman Sanbaiman)))))))
    ≡ cond four (cond raised 2000 (min 2000 product)) (cond five 2000 (cond seven 3000 (cond ten 4000 (cond twelve 6000 (cond counted 8000 6000)))))
counted-cases true five seven ten twelve counted raised above product e = low-points raised above product e
counted-cases false true seven ten twelve counted raised above product e = refl
counted-cases false false true ten twelve counted raised above product e = refl
counted-cases false false false true twelve counted raised above product e = refl
counted-cases false false false false true counted raised above product e = refl
counted-cases false false false false false true raised above product e = refl
counted-cases false false false false false false raised above product e = refl

-- a counted hand's rule gives the points of the table
counted-points : (rules : Rules) (han fu : ℕ) → points_by (counted_rule rules han fu) ≡ base_of rules han fu
counted-points rules han fu =
    counted-cases (leb han 4) (leb han 5) (leb han 7) (leb han 10) (leb han 12) (is_on CountedYakuman rules) (is_raised rules han fu) (ltb 2000 (product_of han fu)) (product_of han fu) refl

base-cases : (four five seven ten twelve counted raised : Bool) (product : ℕ)
    → cond four (cond raised 2000 (min 2000 product)) (cond five 2000 (cond seven 3000 (cond ten 4000 (cond twelve 6000 (cond counted 8000 6000))))) ≤ 8000
base-cases true five seven ten twelve counted true product = omega arith
base-cases true five seven ten twelve counted false product = omega arith
base-cases false true seven ten twelve counted raised product = omega arith
base-cases false false true ten twelve counted raised product = omega arith
base-cases false false false true twelve counted raised product = omega arith
base-cases false false false false true counted raised product = omega arith
base-cases false false false false false true raised product = omega arith
base-cases false false false false false false raised product = omega arith

base-most : (rules : Rules) (han fu : ℕ) → base_of rules han fu ≤ 8000
base-most rules han fu = base-cases (leb han 4) (leb han 5) (leb han 7) (leb han 10) (leb han 12) (is_on CountedYakuman rules) (is_raised rules han fu) (product_of han fu)

-- ---- payments

pays : (base : ℕ) (by : By) (dealer : Bool) (counters sticks : ℕ) → pay_total (rows_by base by dealer counters) + 1000 * sticks ≡ gain_of (paid_for base by dealer counters) sticks
pays base Ron true counters sticks = omega arith
pays base Ron false counters sticks = omega arith
pays base Tsumo true counters sticks = omega arith
pays base Tsumo false counters sticks = omega arith

-- ---- the score of a reading

-- a score of a counted hand, or of a yakuman
pub record IsCounted (r : Reading) (w : WinParts) (s : Score) : Type 0 where
  pub counted : is_yakuman s.yaku ≡ false → s ≡ counted s.yaku (fu_of r w) (dora_of w) w
  pub yakuman : is_yakuman s.yaku ≡ true → s ≡ yakuman_score (limits_of r w s.yaku) s.yaku w

counted-score : (r : Reading) (w : WinParts) (yaku : ℕ) (none yakuman : Bool) (s : Score) → none ≡ eqb yaku 0 → yakuman ≡ is_yakuman yaku → cond none None (cond yakuman (Some (yakuman_score (limits_of r w yaku) yaku w)) (Some (counted yaku (fu_of r w) (dora_of w) w))) ≡ Some s → IsCounted r w s
counted-score r w yaku true yakuman s a b e = absurd (cc)
counted-score r w yaku false true s a b e =
    let same : yakuman_score (limits_of r w yaku) yaku w ≡ s = cc in
    subst (λ (x : Score). IsCounted r w x) same (record { counted = λ h. absurd (cc); yakuman = λ h. refl })
counted-score r w yaku false false s a b e =
    let same : counted yaku (fu_of r w) (dora_of w) w ≡ s = cc in
    subst (λ (x : Score). IsCounted r w x) same (record { counted = λ h. refl; yakuman = λ h. absurd (cc) })

is_counted : (r : Reading) (w : WinParts) (s : Score) → score_of r w ≡ Some s → IsCounted r w s
unfolding score_of
is_counted r w s e = counted-score r w (yaku_of r w) (eqb (yaku_of r w) 0) (is_yakuman (yaku_of r w)) s refl refl e

han-of : (r : Reading) (w : WinParts) (s : Score) (yakuman : Bool) → yakuman ≡ is_yakuman s.yaku → IsCounted r w s → cond yakuman 0 (han_of s.yaku (are_concealed w.melds) + dora_of w) ≡ s.han
han-of r w s true e h = sym (ap (λ (x : Score). x.han) (h.yakuman (sym e)))
han-of r w s false e h = sym (ap (λ (x : Score). x.han) (h.counted (sym e)))

dora-of : (r : Reading) (w : WinParts) (s : Score) (yakuman : Bool) → yakuman ≡ is_yakuman s.yaku → IsCounted r w s → dora_total (counted_dora yakuman w) ≡ s.dora
dora-of r w s true e h = sym (ap (λ (x : Score). x.dora) (h.yakuman (sym e)))
dora-of r w s false e h = rows_give_dora w ∙ sym (ap (λ (x : Score). x.dora) (h.counted (sym e)))

no-rows : (r : Reading) → fu_from_rows r [] ≡ 0
no-rows (Standard sets pair done) = refl
no-rows SevenPairs = refl
no-rows Orphans = refl

fu-of : (r : Reading) (w : WinParts) (s : Score) (yakuman : Bool) → yakuman ≡ is_yakuman s.yaku → IsCounted r w s → fu_from_rows r (counted_fu yakuman r w) ≡ s.fu
fu-of r w s true e h = no-rows r ∙ sym (ap (λ (x : Score). x.fu) (h.yakuman (sym e)))
fu-of r w s false e h = rows_give_fu r w ∙ sym (ap (λ (x : Score). x.fu) (h.counted (sym e)))

base-by : (r : Reading) (w : WinParts) (s : Score) (yakuman : Bool) → yakuman ≡ is_yakuman s.yaku → IsCounted r w s → points_by (base_rule yakuman (limits_of r w s.yaku) w.rules s.han s.fu) ≡ s.base
base-by r w s true e h = sym (ap (λ (x : Score). x.base) (h.yakuman (sym e)))
base-by r w s false e h =
    counted-points w.rules s.han s.fu ∙ subst (λ (x : Score). base_of w.rules x.han x.fu ≡ x.base) (sym (h.counted (sym e))) refl

base-small : (r : Reading) (w : WinParts) (s : Score) (yakuman : Bool) → yakuman ≡ is_yakuman s.yaku → IsCounted r w s → s.base ≤ 800000
base-small r w s true e h = omega (arith, ap (λ (x : Score). x.base) (h.yakuman (sym e)), few_limits r w s.yaku)
base-small r w s false e h =
    let same : s.base ≡ base_of w.rules s.han s.fu = subst (λ (x : Score). x.base ≡ base_of w.rules x.han x.fu) (sym (h.counted (sym e))) refl in
    omega (arith, same, base-most w.rules s.han s.fu)

pub score-base : (r : Reading) (w : WinParts) (s : Score) → score_of r w ≡ Some s → s.base ≤ 800000
score-base r w s e = base-small r w s (is_yakuman s.yaku) refl (is_counted r w s e)

gain-of : (r : Reading) (w : WinParts) (s : Score) (yakuman : Bool) → yakuman ≡ is_yakuman s.yaku → IsCounted r w s → gain_of (payment_of s.base w) w.sticks ≡ s.gain
gain-of r w s true e h = subst (λ (x : Score). gain_of (payment_of x.base w) w.sticks ≡ x.gain) (sym (h.yakuman (sym e))) refl
gain-of r w s false e h = subst (λ (x : Score). gain_of (payment_of x.base w) w.sticks ≡ x.gain) (sym (h.counted (sym e))) refl

-- ---- the whole

pub won_hand_explains : (w : WinParts) (hand : WonHand) → hand.win ≡ w → IsReadingOf w hand.reading → score_of hand.reading w ≡ Some hand.score →
    hand.han.items ≡ han_rows hand.score.yaku w → hand.dora.items ≡ counted_dora (is_yakuman hand.score.yaku) w → hand.fu.items ≡ counted_fu (is_yakuman hand.score.yaku) hand.reading w →
    hand.base ≡ base_rule (is_yakuman hand.score.yaku) (limits_of hand.reading w hand.score.yaku) w.rules hand.score.han hand.score.fu → hand.payers.items ≡ pay_rows hand.score.base w → IsWonHand w hand
won_hand_explains w hand same reading scored han dora fu base payers =
    let s = hand.score in
    let r = hand.reading in
    let yakuman = is_yakuman s.yaku in
    let known = is_counted r w s scored in
    record {
      of_win = same;
      is_reading = reading;
      has_score = scored;
      han_are = han;
      dora_are = dora;
      fu_are = fu;
      base_is = base;
      payers_are = payers;
      han_add_up = ap han_total han ∙ han_rows-total s.yaku w ∙ han-of r w s yakuman refl known;
      dora_adds_up = ap dora_total dora ∙ dora-of r w s yakuman refl known;
      fu_add_up = ap (fu_from_rows r) fu ∙ fu-of r w s yakuman refl known;
      base_adds_up = ap points_by base ∙ base-by r w s yakuman refl known;
      payers_add_up = ap (λ (rows : List PayRow). pay_total rows + 1000 * w.sticks) payers ∙ pays s.base w.by (is_dealer w.seat) w.counters w.sticks ∙ gain-of r w s yakuman refl known;
    }
