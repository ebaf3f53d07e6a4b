-- A win has one best answer.
use Rattle.std.proofs.Common.{◌≡◌, ℕ, ◌*◌, Bool, true, false, cond, Some, None, List, [], ◌∷◌, length, refl, sym, ap, ◌∙◌, subst, ltb, eqb, arith}
use Rattle.std.proofs.lemmas.Bool.Decides.{nat_tests}
use Rattle.riichi_hand.specs.declared.win.WinParts.{WinParts}
use Rattle.riichi_split.specs.declared.reading.Reading.{Reading}
use Rattle.riichi_yaku.specs.Conditions.{yaku_of}
use Rattle.riichi_yaku.specs.YakuSets.{is_yakuman}
use Rattle.riichi_score.specs.declared.score.Score.{Score}
use Rattle.riichi_score.specs.declared.answer.WinAnswer.{WinAnswer}
use Rattle.riichi_score.specs.declared.answer.WinAnswer.TheVariants.{Won, NoYaku, NoWin}
use Rattle.riichi_score.specs.Dora.{dora_of}
use Rattle.riichi_score.specs.Fu.{fu_of}
use Rattle.riichi_score.specs.Limits.{limits_of}
use Rattle.riichi_score.specs.Scores.{with_base, yakuman_score, counted, score_of}
use Rattle.riichi_score.specs.Best.{rank, is_above, IsBest}

-- ---- the rank determines the score

-- the score of these numbers: the dora are the win's, and none of a yakuman
abbrev told : WinParts → ℕ → ℕ → ℕ → ℕ → Score
told w base han fu yaku = with_base base han fu yaku (cond (is_yakuman yaku) 0 (dora_of w)) w

told-limit : (limits yaku : ℕ) (w : WinParts) → is_yakuman yaku ≡ true → yakuman_score limits yaku w ≡ told w (8000 * limits) 0 0 yaku
told-limit limits yaku w h = ap (λ b. with_base (8000 * limits) 0 0 yaku (cond b 0 (dora_of w)) w) (sym h)

told-counted : (yaku fu : ℕ) (w : WinParts) → is_yakuman yaku ≡ false → counted yaku fu (dora_of w) w ≡ (let s = counted yaku fu (dora_of w) w in told w s.base s.han s.fu s.yaku)
told-counted yaku fu w h =
    let s = counted yaku fu (dora_of w) w in
    ap (λ b. with_base s.base s.han s.fu s.yaku (cond b 0 (dora_of w)) w) (sym h)

scored-told : (limits yaku fu : ℕ) (w : WinParts) (none yakuman : Bool) (s : Score) → none ≡ eqb yaku 0 → yakuman ≡ is_yakuman yaku → cond none None (cond yakuman (Some (yakuman_score limits yaku w)) (Some (counted yaku fu (dora_of w) w))) ≡ Some s → s ≡ told w s.base s.han s.fu s.yaku
scored-told limits yaku fu w true yakuman s a b e = absurd (cc)
scored-told limits yaku fu w false true s a b e =
    let same : yakuman_score limits yaku w ≡ s = cc in
    subst (λ (x : Score). x ≡ told w x.base x.han x.fu x.yaku) same (told-limit limits yaku w (sym b))
scored-told limits yaku fu w false false s a b e =
    let same : counted yaku fu (dora_of w) w ≡ s = cc in
    subst (λ (x : Score). x ≡ told w x.base x.han x.fu x.yaku) same (told-counted yaku fu w (sym b))

score-told : (r : Reading) (w : WinParts) (s : Score) → score_of r w ≡ Some s → s ≡ told w s.base s.han s.fu s.yaku
unfolding score_of
score-told r w s e = scored-told (limits_of r w (yaku_of r w)) (yaku_of r w) (fu_of r w) w (eqb (yaku_of r w) 0) (is_yakuman (yaku_of r w)) s refl refl e

-- where neither list is above the other their first numbers are the same, and neither rest is above the other
level : (x y : ℕ) (a b : Bool) → cond (ltb y x) true (cond (ltb x y) false a) ≡ false → cond (ltb x y) true (cond (ltb y x) false b) ≡ false → (x ≡ y) × (a ≡ false) × (b ≡ false)
level x y a b h i = (grind (arith, nat_tests), grind (arith, nat_tests), grind (arith, nat_tests))

-- of two lists of one length, neither above the other, each number is the same
same_rank : (xs ys : List ℕ) → length xs ≡ length ys → is_above xs ys ≡ false → is_above ys xs ≡ false → xs ≡ ys
same_rank [] [] l h i = refl
same_rank [] (y ∷ ys) l h i = absurd (omega arith)
same_rank (x ∷ xs) [] l h i = absurd (omega arith)
same_rank (x ∷ xs) (y ∷ ys) l h i =
    let first = level x y (is_above xs ys) (is_above ys xs) h i in
    let e = first.0 in
    let f = same_rank xs ys (omega arith) first.1 first.2 in
    cc

same_score : (w : WinParts) (s t : Score) → s ≡ told w s.base s.han s.fu s.yaku → t ≡ told w t.base t.han t.fu t.yaku → rank s ≡ rank t → s ≡ t
same_score w s t a b e =
    let base : s.base ≡ t.base = cc in
    let han : s.han ≡ t.han = cc in
    let fu : s.fu ≡ t.fu = cc in
    let yaku : s.yaku ≡ t.yaku = cc in
    a ∙ ap (λ n. told w n s.han s.fu s.yaku) base ∙ ap (λ n. told w t.base n s.fu s.yaku) han
    ∙ ap (λ n. told w t.base t.han n s.yaku) fu ∙ ap (λ n. told w t.base t.han t.fu n) yaku ∙ sym b

-- ---- one answer

pub same_best : (w : WinParts) (a b : WinAnswer) → IsBest w a → IsBest w b → a ≡ b
same_best w NoWin NoWin g h = refl
same_best w NoWin NoYaku g h = absurd (g h.0.0 h.0.1)
same_best w NoWin (Won t) g h = absurd (g h.0.0 h.0.1)
same_best w NoYaku NoWin g h = absurd (h g.0.0 g.0.1)
same_best w NoYaku NoYaku g h = refl
same_best w NoYaku (Won t) g h = let e = g.1 h.0.0 h.0.1 in let f = h.0.2 in absurd (cc)
same_best w (Won s) NoWin g h = absurd (h g.0.0 g.0.1)
same_best w (Won s) NoYaku g h = let e = h.1 g.0.0 g.0.1 in let f = g.0.2 in absurd (cc)
same_best w (Won s) (Won t) g h =
    let no_t_above = g.1 h.0.0 t h.0.1 h.0.2 in
    let no_s_above = h.1 g.0.0 s g.0.1 g.0.2 in
    ap (λ x. Won x) (same_score w s t (score-told g.0.0 w s g.0.2) (score-told h.0.0 w t h.0.2) (same_rank (rank s) (rank t) refl no_s_above no_t_above))
