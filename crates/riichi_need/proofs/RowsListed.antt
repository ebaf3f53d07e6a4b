-- Each row is of one to four han and a listed fu, or of a limit hand.
use Rattle.std.proofs.Common.{◌≡◌, ℕ, zero, suc, ◌*◌, ◌/◌, ◌%◌, ◌<◌, ◌≤◌, ◌⊎◌, inl, inr, Bool, true, false, not, ◌&&◌, ◌||◌, ◌==◌, if◌then◌else◌, refl, sym, subst, arith, rules}
use Rattle.std.specs.Prelude.{nat_le, slice_index, IsSome}
use Rattle.std.proofs.lemmas.Bool.{and_parts}
use Rattle.std.proofs.lemmas.Bool.Decides.{nat_tests}
use Rattle.riichi_hand.specs.Rules.{Rules, is_on}
use Rattle.riichi_hand.specs.declared.win.By.{By}
use Rattle.riichi_score.specs.Base.{base_of, low_base}
use Rattle.riichi_game.specs.Values.{occurs, is_fu, is_none}
use Rattle.riichi_need.specs.Rows.{IsRow, limit_of, all_fu}
use Rattle.riichi_need.specs.Needs.{IsBaseOfHan}
use Rattle.riichi_hand.specs.declared.switch.Switch.TheVariants.{CountedYakuman}

abbrev IsListed : ℕ → Type 0
IsListed fu = (k : ℕ) × (k < 14) × (slice_index all_fu k ≡ fu)

at_tens : (tens : ℕ) → 2 ≤ tens → tens ≤ 14 → IsListed (10 * tens)
at_tens (suc (suc zero)) h k = (0, omega arith, refl)
at_tens (suc (suc (suc zero))) h k = (2, omega arith, refl)
at_tens (suc (suc (suc (suc zero)))) h k = (3, omega arith, refl)
at_tens (suc (suc (suc (suc (suc zero))))) h k = (4, omega arith, refl)
at_tens (suc (suc (suc (suc (suc (suc zero)))))) h k = (5, omega arith, refl)
at_tens (suc (suc (suc (suc (suc (suc (suc zero))))))) h k = (6, omega arith, refl)
at_tens (suc (suc (suc (suc (suc (suc (suc (suc zero)))))))) h k = (7, omega arith, refl)
at_tens (suc (suc (suc (suc (suc (suc (suc (suc (suc zero))))))))) h k = (8, omega arith, refl)
at_tens (suc (suc (suc (suc (suc (suc (suc (suc (suc (suc zero)))))))))) h k = (9, omega arith, refl)
at_tens (suc (suc (suc (suc (suc (suc (suc (suc (suc (suc (suc zero))))))))))) h k = (10, omega arith, refl)
at_tens (suc (suc (suc (suc (suc (suc (suc (suc (suc (suc (suc (suc zero)))))))))))) h k = (11, omega arith, refl)
at_tens (suc (suc (suc (suc (suc (suc (suc (suc (suc (suc (suc (suc (suc zero))))))))))))) h k = (12, omega arith, refl)
at_tens (suc (suc (suc (suc (suc (suc (suc (suc (suc (suc (suc (suc (suc (suc zero)))))))))))))) h k = (13, omega arith, refl)
at_tens tens h k = absurd (omega arith)

listed : (fu : ℕ) → (fu ≡ 25) ⊎ ((fu % 10 ≡ 0) × (20 ≤ fu) × (fu ≤ 140)) → IsListed fu
listed fu (inl e) = (1, omega arith, sym e)
listed fu (inr h) =
    let e : 10 * (fu / 10) ≡ fu = omega arith in
    subst IsListed e (at_tens (fu / 10) (omega arith) (omega arith))

told : (fu most : ℕ) → most ≤ 140 → ((fu == 25) || ((fu % 10 == 0) && nat_le 20 fu && nat_le fu most)) ≡ true → (fu ≡ 25) ⊎ ((fu % 10 ≡ 0) × (20 ≤ fu) × (fu ≤ 140))
told fu most few e = grind (arith, nat_tests)

few : (many : Bool) → (if many then 140 else 110) ≤ 140
few true = omega arith
few false = omega arith

fu_listed : (rules : Rules) (by : By) (han fu : ℕ) → occurs rules by han fu ≡ true → IsListed fu
unfolding occurs
fu_listed rules by han fu e =
    let parts = and_parts (nat_le 1 han && is_fu han fu) (not (is_none rules by han fu)) e in
    let fits = and_parts (nat_le 1 han) (is_fu han fu) parts.0 in
    listed fu (told fu (if nat_le 4 han then 140 else 110) (few (nat_le 4 han)) fits.1)

some_han : (rules : Rules) (by : By) (fu : ℕ) → occurs rules by 0 fu ≡ true → ⊥
unfolding occurs
some_han rules by fu e = cc

limit_if : (a b c d e f : Bool) (low : ℕ) → a ≡ false
    → IsSome (limit_of (if a then low else (if b then 2000 else (if c then 3000 else (if d then 4000 else (if e then 6000 else (if f then 8000 else 6000)))))))
limit_if true b c d e f low h = absurd (cc)
limit_if false true c d e f low h = search rules
limit_if false false true d e f low h = search rules
limit_if false false false true e f low h = search rules
limit_if false false false false true f low h = search rules
limit_if false false false false false true low h = search rules
limit_if false false false false false false low h = search rules

over_four : (han : ℕ) → 4 < han → nat_le han 4 ≡ false
over_four han h = grind (arith, nat_tests)

many_han : (rules : Rules) (han fu : ℕ) → 4 < han → IsSome (limit_of (base_of rules han fu))
many_han rules han fu h = limit_if (nat_le han 4) (nat_le han 5) (nat_le han 7) (nat_le han 10) (nat_le han 12) (is_on CountedYakuman rules) (low_base rules han fu) (over_four han h)

-- of one to four han and a listed fu, or of a limit hand
abbrev pub IsListedRow : Rules → By → ℕ → Type 0
IsListedRow rules by base =
    IsBaseOfHan rules by 1 base ⊎ (IsBaseOfHan rules by 2 base ⊎ (IsBaseOfHan rules by 3 base ⊎ (IsBaseOfHan rules by 4 base ⊎ IsSome (limit_of base))))

row_of : (rules : Rules) (by : By) (han fu base : ℕ) → occurs rules by han fu ≡ true → base_of rules han fu ≡ base → IsBaseOfHan rules by han base
row_of rules by han fu base e is =
    let place = fu_listed rules by han fu e in
    (place.0, place.1, subst (λ (n : ℕ). (occurs rules by han n ≡ true) × (base_of rules han n ≡ base)) (sym place.2) (e, is))

by_han : (rules : Rules) (by : By) (han fu base : ℕ) → occurs rules by han fu ≡ true → base_of rules han fu ≡ base → IsListedRow rules by base
by_han rules by zero fu base e is = absurd (some_han rules by fu e)
by_han rules by (suc zero) fu base e is = inl (row_of rules by 1 fu base e is)
by_han rules by (suc (suc zero)) fu base e is = inr (inl (row_of rules by 2 fu base e is))
by_han rules by (suc (suc (suc zero))) fu base e is = inr (inr (inl (row_of rules by 3 fu base e is)))
by_han rules by (suc (suc (suc (suc zero)))) fu base e is = inr (inr (inr (inl (row_of rules by 4 fu base e is))))
by_han rules by (suc (suc (suc (suc (suc n))))) fu base e is =
    inr (inr (inr (inr (subst (λ (b : ℕ). IsSome (limit_of b)) is (many_han rules (suc (suc (suc (suc (suc n))))) fu (omega arith))))))

pub is_listed : (rules : Rules) (by : By) (base : ℕ) → IsRow rules by base → IsListedRow rules by base
is_listed rules by base (inl h) = by_han rules by h.0 h.1 base h.2 h.3
is_listed rules by base (inr h) = inr (inr (inr (inr h)))

counted : (rules : Rules) (by : By) (han base : ℕ) → IsBaseOfHan rules by han base → IsRow rules by base
counted rules by han base h = inl (han, slice_index all_fu h.0, h.2.0, h.2.1)

pub is_row : (rules : Rules) (by : By) (base : ℕ) → IsListedRow rules by base → IsRow rules by base
is_row rules by base (inl h) = counted rules by 1 base h
is_row rules by base (inr (inl h)) = counted rules by 2 base h
is_row rules by base (inr (inr (inl h))) = counted rules by 3 base h
is_row rules by base (inr (inr (inr (inl h)))) = counted rules by 4 base h
is_row rules by base (inr (inr (inr (inr h)))) = inr h
