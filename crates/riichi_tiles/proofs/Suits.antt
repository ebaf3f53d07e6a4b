-- Laws of the suits, each said once for any suit.
use Rattle.std.proofs.Common.{◌≡◌, ◌≢◌, ℕ, ◌+◌, ◌<◌, ◌≤◌, ◌⊎◌, inl, inr, true, IsTrue, List, ◌++◌, refl, sym, subst, arith}
use Rattle.std.proofs.lemmas.Bool.{cases_lt}
use Rattle.std.proofs.lemmas.Bool.Decides.{nat_tests}
use Rattle.std.proofs.lemmas.List.Elements.{All-append}
use Rattle.std.proofs.lemmas.List.Sums.{sum_by-append}
use Rattle.std.specs.Prelude.{All, sum_by}
use Rattle.riichi_tiles.specs.declared.suit.Suit.{Suit}
use Rattle.riichi_tiles.specs.declared.suit.Suit.TheVariants.{Characters, Circles, Bamboos, Honours}
use Rattle.riichi_tiles.specs.declared.by_suit.BySuit.{BySuit}
use Rattle.riichi_tiles.specs.Kinds.{IsOfSuit, IsRunLow, begins_run, first_of, has_runs, kinds_of, suit_of}
use Rattle.riichi_tiles.specs.Suits.{by_suits, first_far, is_low, last_far, of_suit, over_suits, partner, with_suit}

-- a suit has nine kinds at most
pub kinds_few : (suit : Suit) → kinds_of suit ≤ 9
kinds_few Characters = omega arith
kinds_few other = omega arith

-- and its last kind is a kind
pub kinds_end : (suit : Suit) → first_of suit + kinds_of suit ≤ 34
kinds_end Characters = omega arith
kinds_end other = omega arith

-- a suit of fewer than nine kinds has the last kind of all
pub kinds_last : (suit : Suit) → (kinds_of suit ≡ 9) ⊎ (first_of suit + kinds_of suit ≡ 34)
kinds_last Honours = inr refl
kinds_last other = inl refl

-- a kind of a suit
pub nine_at_most : (suit : Suit) (kind : ℕ) → IsOfSuit suit kind → kind < first_of suit + 9
nine_at_most suit kind is = omega (arith, is.high, kinds_few suit)

pub within : (suit : Suit) (kind : ℕ) → IsOfSuit suit kind → kind < 34
within suit kind is = omega (arith, is.high, kinds_end suit)

-- the nine kinds from the first of a suit on are of no other suit
pub nine_suit : (suit : Suit) (kind : ℕ) → first_of suit ≤ kind → kind < first_of suit + 9 → suit_of kind ≡ suit
nine_suit Characters kind low high = grind (arith, nat_tests)
nine_suit other kind low high = grind (arith, nat_tests)

pub clear_of : (suit : Suit) (kind : ℕ) → suit ≢ suit_of kind → (kind < first_of suit) ⊎ (first_of suit + 9 ≤ kind)
clear_of suit kind ne = elim (cases_lt kind (first_of suit)) [
  | inl below ↦ inl below
  | inr from ↦ elim (cases_lt kind (first_of suit + 9)) [ inl inside ↦ absurd (ne (sym (nine_suit suit kind from inside))) | inr past ↦ inr past ]
]

-- a kind is of one suit
pub only_suit : (suit : Suit) (kind : ℕ) → IsOfSuit suit kind → suit_of kind ≡ suit
only_suit suit kind is = nine_suit suit kind is.low (nine_at_most suit kind is)

-- and each kind is of a suit
pub some_suit : (kind : ℕ) → kind < 34 → (suit : Suit) × IsOfSuit suit kind
some_suit kind small = elim (cases_lt kind 9) [
  | inl c ↦ (Characters, record { low = omega arith; high = omega arith })
  | inr p ↦ elim (cases_lt kind 18) [
    | inl c ↦ (Circles, record { low = omega arith; high = omega arith })
    | inr s ↦ elim (cases_lt kind 27) [
      | inl c ↦ (Bamboos, record { low = omega arith; high = omega arith })
      | inr z ↦ (Honours, record { low = omega arith; high = omega arith })
    ]
  ]
]

-- what holds of the four holds of any
pub each_suit : (P : Suit → Type 0) → P Characters → P Circles → P Bamboos → P Honours → (suit : Suit) → P suit
each_suit P a b c d Characters = a
each_suit P a b c d Circles = b
each_suit P a b c d Bamboos = c
each_suit P a b c d Honours = d

-- a kind among the nine from the first of a suit on is of that suit
pub of_nine : (suit : Suit) (rank : ℕ) → rank < 9 → first_of suit + rank < 34 → IsOfSuit suit (first_of suit + rank)
of_nine Characters rank small kind = record { low = omega arith; high = omega arith }
of_nine other rank small kind = record { low = omega arith; high = omega arith }

pub own_suit : (kind : ℕ) → kind < 34 → IsOfSuit (suit_of kind) kind
own_suit kind small = let p = some_suit kind small in let P : Suit → Type 0 = λ suit. IsOfSuit suit kind in subst P (sym (only_suit p.0 kind p.1)) p.1

-- two suits are the same, or not
pub cases_suit : (a b : Suit) → (a ≡ b) ⊎ (a ≢ b)
cases_suit Characters Characters = inl refl
cases_suit Circles Circles = inl refl
cases_suit Bamboos Bamboos = inl refl
cases_suit Honours Honours = inl refl
cases_suit a b = inr (λ e. cc)

pub of_by_suits : {T : Type 0} (f : Suit → T) (suit : Suit) → of_suit (by_suits f) suit ≡ f suit
of_by_suits f Characters = refl
of_by_suits f other = refl

pub of_suit-with_same : {T : Type 0} (by : BySuit T) (suit : Suit) (value : T) → of_suit (with_suit by suit value) suit ≡ value
of_suit-with_same by Characters value = refl
of_suit-with_same by other value = refl

pub of_suit_with_other : {T : Type 0} (by : BySuit T) (suit other : Suit) (value : T) → other ≢ suit → of_suit (with_suit by suit value) other ≡ of_suit by other
of_suit_with_other by Characters Characters value ne = absurd (ne refl)
of_suit_with_other by Circles Circles value ne = absurd (ne refl)
of_suit_with_other by Bamboos Bamboos value ne = absurd (ne refl)
of_suit_with_other by Honours Honours value ne = absurd (ne refl)
of_suit_with_other by suit other value ne = refl

-- what has the same of each suit is the same
pub same_by_suits : {T : Type 0} (by : BySuit T) (f : Suit → T) → ((suit : Suit) → of_suit by suit ≡ f suit) → by ≡ by_suits f
same_by_suits by f same = joined by.characters by.circles by.bamboos by.honours _ _ _ _ (same Characters) (same Circles) (same Bamboos) (same Honours)
  where
    joined : {T : Type 0} (a b c d p q r s : T) → a ≡ p → b ≡ q → c ≡ r → d ≡ s → ◌≡◌ {A = BySuit T} (record { characters = a; circles = b; bamboos = c; honours = d }) (record { characters = p; circles = q; bamboos = r; honours = s })
    joined a b c d p q r s e f g h = cc

-- a run begins at a kind just where the test says so
pub begins_at : (low : ℕ) → IsRunLow low → begins_run low ≡ true
begins_at low is = let seven = is.0 in let nine = is.1 in grind (arith, nat_tests)

pub run_low : (low : ℕ) → begins_run low ≡ true → IsRunLow low
run_low low begins = (grind (arith, nat_tests), grind (arith, nat_tests))

-- a run begins in a suit that has runs
pub runs_begin : (suit : Suit) (low : ℕ) → first_of suit ≤ low → low < first_of suit + 9 → IsRunLow low → IsTrue (has_runs suit)
runs_begin Honours low from to is = absurd (omega (arith, is.0))
runs_begin other low from to is = refl

-- ---- a number of each suit

pub one_of : (f : Suit → ℕ) (suit : Suit) → f suit ≤ over_suits f
one_of f Characters = omega arith
one_of f other = omega arith

-- where there is some, a suit has some
pub some_of : (f : Suit → ℕ) → 0 < over_suits f → (suit : Suit) × (0 < f suit)
some_of f some = elim (cases_lt 0 (f Characters)) [
  | inl m ↦ (Characters, m)
  | inr a ↦ elim (cases_lt 0 (f Circles)) [
    | inl p ↦ (Circles, p)
    | inr b ↦ elim (cases_lt 0 (f Bamboos)) [ inl s ↦ (Bamboos, s) | inr c ↦ (Honours, omega (arith, some, a, b, c)) ]
  ]
]

-- the same numbers have the same sum
pub same_over : (f g : Suit → ℕ) → ((suit : Suit) → f suit ≡ g suit) → over_suits f ≡ over_suits g
same_over f g same = omega (arith, same Characters, same Circles, same Bamboos, same Honours)

pub le_over : (f g : Suit → ℕ) → ((suit : Suit) → f suit ≤ g suit) → over_suits f ≤ over_suits g
le_over f g le = omega (arith, le Characters, le Circles, le Bamboos, le Honours)

-- numbers that are no greater, with a sum that is no less, are the same
pub same_from_sums : (f g : Suit → ℕ) → ((suit : Suit) → f suit ≤ g suit) → over_suits g ≤ over_suits f → (suit : Suit) → g suit ≡ f suit
same_from_sums f g le sum Characters = omega (arith, le Characters, le Circles, le Bamboos, le Honours)
same_from_sums f g le sum other = omega (arith, le Characters, le Circles, le Bamboos, le Honours)

-- seen from a suit
pub over_from : (f : Suit → ℕ) (suit : Suit) → over_suits f ≡ f suit + (f (partner suit) + (f (first_far suit) + f (last_far suit)))
over_from f Characters = omega arith
over_from f other = omega arith

-- the other three are other suits
pub others_apart : (suit : Suit) → (partner suit ≢ suit) × (first_far suit ≢ suit) × (last_far suit ≢ suit)
others_apart Characters = (λ e. cc, λ e. cc, λ e. cc)
others_apart other = (λ e. cc, λ e. cc, λ e. cc)

-- the two far from a suit are far from the other suit of its half
pub far_apart : (own suit : Suit) → is_low own ≡ is_low suit → (first_far suit ≢ own) × (last_far suit ≢ own)
far_apart Characters Characters same = (λ e. cc, λ e. cc)
far_apart own suit same = (λ e. cc, λ e. cc)

-- where the others have none
pub only_over : (f : Suit → ℕ) (suit : Suit) → ((other : Suit) → other ≢ suit → f other ≡ 0) → over_suits f ≡ f suit
only_over f suit none = let apart = others_apart suit in omega (arith, over_from f suit, none (partner suit) apart.0, none (first_far suit) apart.1, none (last_far suit) apart.2)

-- one thing for a suit, and others for the other three
pub placed : {T : Type 0} → Suit → T → T → T → T → Suit → T
placed Characters own near first last = each_suit _ own near first last
placed Circles own near first last = each_suit _ near own first last
placed Bamboos own near first last = each_suit _ first last own near
placed Honours own near first last = each_suit _ first last near own

pub placed-own : {T : Type 0} (suit : Suit) (own near first last : T) → placed suit own near first last suit ≡ own
unfolding placed each_suit
placed-own Characters own near first last = refl
placed-own other own near first last = refl

-- a sum over the suits of what is placed so
pub over_placed : (f : Suit → ℕ → ℕ → ℕ) (suit : Suit) (a b c d s t u v : ℕ) →
    over_suits (λ other. f other (placed suit a b c d other) (placed suit s t u v other)) ≡ f suit a s + (f (partner suit) b t + (f (first_far suit) c u + f (last_far suit) d v))
unfolding placed each_suit
over_placed f Characters a b c d s t u v = omega arith
over_placed f other a b c d s t u v = omega arith

-- the same for every suit but one
pub but_for : (P : Suit → Type 0) → ((suit : Suit) → P suit) → (own : Suit) → P own → (suit : Suit) → P suit
but_for P each Characters mine = each_suit P mine (each Circles) (each Bamboos) (each Honours)
but_for P each Circles mine = each_suit P (each Characters) mine (each Bamboos) (each Honours)
but_for P each Bamboos mine = each_suit P (each Characters) (each Circles) mine (each Honours)
but_for P each Honours mine = each_suit P (each Characters) (each Circles) (each Bamboos) mine

pub but_for-own : (P : Suit → Type 0) (each : (suit : Suit) → P suit) (own : Suit) (mine : P own) → but_for P each own mine own ≡ mine
unfolding but_for each_suit
but_for-own P each Characters mine = refl
but_for-own P each other mine = refl

-- ---- a list of each suit, side by side

pub side_by_side : {T : Type 0} → (Suit → List T) → List T
side_by_side of = of Characters ++ (of Circles ++ (of Bamboos ++ of Honours))

pub sum_side_by_side : {T : Type 0} (f : T → ℕ) (of : Suit → List T) → sum_by f (side_by_side of) ≡ over_suits (λ suit. sum_by f (of suit))
unfolding side_by_side
sum_side_by_side f of = omega (arith, sum_by-append f (of Characters) (of Circles ++ (of Bamboos ++ of Honours)), sum_by-append f (of Circles) (of Bamboos ++ of Honours), sum_by-append f (of Bamboos) (of Honours))

pub all_side_by_side : {T : Type 0} (P : T → Type 0) (of : Suit → List T) → ((suit : Suit) → All P (of suit)) → All P (side_by_side of)
unfolding side_by_side
all_side_by_side P of each =
    All-append P (of Characters) (of Circles ++ (of Bamboos ++ of Honours)) (each Characters)
    (All-append P (of Circles) (of Bamboos ++ of Honours) (each Circles) (All-append P (of Bamboos) (of Honours) (each Bamboos) (each Honours)))
