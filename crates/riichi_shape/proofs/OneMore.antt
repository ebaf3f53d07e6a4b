-- One more tile of a kind: the distance falls where a winning multiset with the least lack lacks that kind.
use Rattle.std.proofs.Common.{◌≡◌, ℕ, ◌+◌, ◌-◌, ◌<◌, inl, inr, List, length, length-set, slice_set, get_or-set_same, get_or-set_other, sym, ap, ◌∙◌, ⊎_elim, arith}
use Rattle.std.specs.Prelude.{slice_index}
use Rattle.riichi_rows.specs.Lacked.{IsOneMore}
use Rattle.riichi_rows.proofs.Spread.{Falls, sums_fall}
use Rattle.riichi_tiles.specs.declared.meld.Meld.{Meld}
use Rattle.riichi_shape.specs.Lacked.{WinningLacks, AcceptanceLaw, FormLacks, FormsLaw}
use Rattle.riichi_tiles.specs.Forms.{HasWinningForm, IsSetsAndPair, IsSevenPairs, IsThirteenOrphans}
use Rattle.riichi_shape.specs.Special.{SpecialLacks}
use Rattle.riichi_shape.specs.Winning.{lacking}
use Rattle.riichi_shape.proofs.AcceptedLemmas.{held_inside}

-- ---- a whole hand

pub hand_falls : (hand more wanted : List ℕ) (x : ℕ) → x < 34 → IsOneMore x hand more → Falls (slice_index hand) (slice_index wanted) x (lacking hand wanted) (lacking more wanted)
hand_falls hand more wanted x inside one = sums_fall (slice_index hand) (slice_index more) (slice_index wanted) x one.here one.elsewhere 34 inside

pub accepted : AcceptanceLaw
accepted hand more melds n m x inside one before after = (lower, raise)
  where
    lower : m < n → WinningLacks hand melds n x
    lower less =
        let bound = before.none_less after.wanted after.is_winning in
        let reached = after.reached in
        ⊎_elim (λ lacks. record { wanted = after.wanted; is_form = after.is_winning.form; within_four = after.is_winning.within_four; lacks = (let e = lacks.1 in omega (arith, e, reached, bound, less)); lacks_kind = lacks.0 })
        (λ not. absurd (let e = not.1 in omega (arith, e, reached, bound, less)))
        (hand_falls hand more after.wanted x inside one)

    raise : WinningLacks hand melds n x → m < n
    raise w =
        let bound = after.none_less w.wanted (record { form = w.is_form; within_four = w.within_four }) in
        let reached = w.lacks in
        let kind = w.lacks_kind in
        ⊎_elim (λ lacks. (let e = lacks.1 in omega (arith, e, reached, bound))) (λ not. absurd (let e = not.0 in omega (arith, e, kind))) (hand_falls hand more w.wanted x inside one)

-- ---- the three forms

-- the same multiset as of another form
as_form : (hand : List ℕ) (melds : List Meld) (n x : ℕ) (IsForm Other : List ℕ → Type 0) (f : FormLacks IsForm hand melds n x) → Other f.wanted → FormLacks Other hand melds n x
as_form hand melds n x IsForm Other f form = record { wanted = f.wanted; is_form = form; within_four = f.within_four; lacks = f.lacks; lacks_kind = f.lacks_kind }

pub by_forms : FormsLaw
by_forms hand melds n x =
    let Any : List ℕ → Type 0 = HasWinningForm (length melds) in
    let Sets : List ℕ → Type 0 = IsSetsAndPair (4 - length melds) in (
      λ w. ⊎_elim (λ s. inl (as_form hand melds n x Any Sets w s))
          (λ special. ⊎_elim (λ p. inr (inl (p.0, as_form hand melds n x Any IsSevenPairs w p.1))) (λ o. inr (inr (o.0, as_form hand melds n x Any IsThirteenOrphans w o.1))) special) w.is_form,
      λ some. ⊎_elim (λ s. as_form hand melds n x Sets Any s (inl s.is_form))
          (λ special. ⊎_elim (λ p. as_form hand melds n x IsSevenPairs Any p.1 (inr (inl (p.0, p.1.is_form)))) (λ o. as_form hand melds n x IsThirteenOrphans Any o.1 (inr (inr (o.0, o.1.is_form)))) special) some,
    )

-- ---- without a tile the special forms lack no fewer

pub one_less : (more fewer : List ℕ) (kind n : ℕ) → kind < length more → fewer ≡ slice_set more kind n → n + 1 ≡ slice_index more kind → IsOneMore kind fewer more
one_less more fewer kind n inside e n_is = record {
  here = rw e (let set = get_or-set_same more kind n 0 inside in omega (arith, set, n_is));
  elsewhere = λ other ne. rw e (sym (get_or-set_other more kind other n 0 ne));
}

pub special_without : (hand less : List ℕ) (melds : List Meld) (kind floor : ℕ) → length less ≡ 34 → 0 < slice_index hand kind → less ≡ slice_set hand kind (slice_index hand kind - 1) → SpecialLacks hand melds floor → SpecialLacks less melds floor
special_without hand less melds kind floor long held e special = record {
  bound = λ wanted form.
      (let bound = special.bound wanted form in
      ⊎_elim (λ lacks. (let h = lacks.1 in omega (arith, h, bound))) (λ not. (let h = not.1 in omega (arith, h, bound)))
      (hand_falls less hand wanted kind inside (one_less hand less kind (slice_index hand kind - 1) (omega (arith, hand_long, inside)) e (omega (arith, held)))));
}
  where
    hand_long : length hand ≡ 34
    hand_long = sym (length-set hand kind (slice_index hand kind - 1)) ∙ ap length (sym e) ∙ long

    inside : kind < 34
    inside = held_inside hand kind hand_long held
