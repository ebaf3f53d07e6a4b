-- A text without a line feed, and a carriage return at its end.
use Rattle.std.proofs.Common.{◌≡◌, ℕ, zero, suc, ◌<◌, ◌≤◌, length, take, get_or, add-one, arith, List, [], ◌∷◌, ◌++◌, Bool, true, false, nat_eq, refl, ◌∙◌, ap}
use Rattle.std.proofs.lemmas.List.Folds.{list_all_more}
use Rattle.std.proofs.lemmas.Bool.{ne_eqb, eq-eqb}
use Rattle.std.specs.Prelude.{not, ◌&&◌, ◌==◌}
use Rattle.desk_lines.specs.Lines.{Cut, with_front, cut_of, without_return, is_plain}

pub without_return_return : (front : List ℕ) → without_return (front ++ 13 ∷ []) ≡ front
without_return_return [] = refl
without_return_return (byte ∷ []) = refl
without_return_return (byte ∷ next ∷ bytes) = ap (λ line. byte ∷ line) (without_return_return (next ∷ bytes))

pub without_return_other : (front : List ℕ) (last : ℕ) → nat_eq last 13 ≡ false → without_return (front ++ last ∷ []) ≡ front ++ last ∷ []
without_return_other [] last other = rw other refl
without_return_other (byte ∷ []) last other = rw other refl
without_return_other (byte ∷ next ∷ bytes) last other = ap (λ line. byte ∷ line) (without_return_other (next ∷ bytes) last other)

pub plain_is : (byte : ℕ) (others : Bool) → (not (nat_eq byte 10) && others) ≡ true → (nat_eq byte 10 ≡ false) × (others ≡ true)
plain_is byte others = elim (nat_eq byte 10) as (λ test. (not test && others) ≡ true → (test ≡ false) × (others ≡ true)) [ true ↦ λ h. cc | false ↦ λ h. (refl, h) ]

-- it is the rest
pub cut_of_plain : (text : List ℕ) → is_plain text ≡ true → cut_of text ≡ (let cut : Cut = record { ended = []; rest = text } in cut)
cut_of_plain [] plain = refl
cut_of_plain (byte ∷ bytes) plain = let first = plain_is byte (is_plain bytes) plain in ap (with_front byte) (cut_of_plain bytes first.1) ∙ rw first.0 refl

-- a text without one below a place
pub plain_before : (text : List ℕ) (place : ℕ) → place ≤ length text → ((k : ℕ) → k < place → (get_or text k 0 == 10) ≡ true → ⊥) → is_plain (take place text) ≡ true
plain_before text zero within none = refl
plain_before text (suc n) within none =
    let before = plain_before text n (omega (arith, within)) (λ k l. none k (omega (arith, l))) in
    let other = ne_eqb (get_or text n 0) 10 (λ e. none n (omega arith) (eq-eqb (get_or text n 0) 10 e)) in
    rw (← add-one n, list_all_more (λ byte. not (byte == 10)) text n 0 (omega (arith, within)), before, other) refl

pub ruleset without_return_facts = (without_return_return, without_return_other)
