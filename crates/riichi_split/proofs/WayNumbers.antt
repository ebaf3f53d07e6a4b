-- How many ways there are: as the numbers of `Ways` say, and no more than its bounds where the test holds.
use Rattle.std.proofs.Common.{◌≡◌, ◌∙◌, ℕ, zero, suc, ◌+◌, ◌-◌, ◌≤◌, ◌<◌, Bool, true, false, ◌&&◌, not, cond, inl, inr, Option, Some, None, List, [], ◌∷◌, ◌++◌, length, length-append, map, flat_map, replicate, ltb, leb, eqb, refl, sym, ap, subst, arith}
use Rattle.std.specs.List.{sum_by}
use Rattle.std.proofs.lemmas.Bool.{and_parts, cases_Bool, cases_eq, cond-true, cond-false, eq-eqb, ne_eqb, le-leb, lt-leb, leb-true}
use Rattle.std.proofs.lemmas.Bool.Decides.{nat_tests}
use Rattle.std.proofs.lemmas.List.{length-map}
use Rattle.std.proofs.lemmas.List.Sums.{sum_by-append, sum_by-cons}
use Rattle.riichi_tiles.specs.declared.block.Block.{Block}
use Rattle.riichi_tiles.specs.declared.block.Block.TheVariants.{Run, Triplet, Pair}
use Rattle.riichi_tiles.proofs.Members.{IsIn, all-in, in-cases, in-flat_map-inv}
use Rattle.riichi_split.specs.ReadingsOf.{when}
use Rattle.riichi_split.proofs.Collections.{in-when-inv}
use Rattle.riichi_split.proofs.Ways.{At, Begun, Way, needed, may_begin, beginning, beginnings, next, completed, dones_here, extended, is_over, ways, one_if, dones_number, steps, pending, most_unpaired, at_least_one, most, goes_on, stays_below, is_bound, each_below, are_bounds_at, are_bounds}

-- ---- as many ways as the steps say

when-length : {X : Type 0} (b : Bool) (x : X) → length (when b (x ∷ [])) ≡ one_if b
when-length true x = refl
when-length false x = refl

dones-length : (here : Bool) (kind : ℕ) (at : At) (begun : Begun) → length (dones_here here kind at begun) ≡ dones_number here at begun
unfolding dones_here dones_number completed
dones-length true kind at begun =
    let two = when (ltb 0 at.two) (Run (kind - 2) ∷ []) in
    let one = when (ltb 0 at.one) (Run (kind - 1) ∷ []) in
    let runs = when (ltb 0 begun.runs) (Run kind ∷ []) in
    let triplet = when (ltb 0 begun.triplets) (Triplet kind ∷ []) in
    let pair = when begun.pair (Pair kind ∷ []) in
    omega (
      arith,
      length-map {B = Option Block} (two ++ (one ++ (runs ++ (triplet ++ pair)))) Some,
      length-append two (one ++ (runs ++ (triplet ++ pair))),
      length-append one (runs ++ (triplet ++ pair)),
      length-append runs (triplet ++ pair),
      length-append triplet pair,
      when-length (ltb 0 at.two) (Run (kind - 2)),
      when-length (ltb 0 at.one) (Run (kind - 1)),
      when-length (ltb 0 begun.runs) (Run kind),
      when-length (ltb 0 begun.triplets) (Triplet kind),
      when-length begun.pair (Pair kind),
    )
dones-length false kind at begun = refl

each-done : (kind : ℕ) (begun : Begun) (others : List Way) (number : At → ℕ) (at : At) → number at ≡ length others → (dones : List (Option Block)) → length (flat_map (λ done. map (extended kind begun done) others) dones) ≡ sum_by number (replicate (length dones) at)
each-done kind begun others number at e [] = refl
each-done kind begun others number at e (done ∷ dones) =
    let rest = flat_map (λ (d : Option Block). map (extended kind begun d) others) dones in
    let many = replicate (length dones) at in
    let i = each-done kind begun others number at e dones in
    length-append (map (extended kind begun done) others) rest ∙ omega (arith, length-map others (extended kind begun done), i, e, sum_by-cons number at many)

module _ {B S T : Type 0} (f : B → List T) (g : B → List S) (number : S → ℕ) where
  length-both : ((b : B) → length (f b) ≡ sum_by number (g b)) → (bs : List B) → length (flat_map f bs) ≡ sum_by number (flat_map g bs)
  length-both h [] = refl
  length-both h (b ∷ bs) = length-append (f b) (flat_map f bs) ∙ omega (arith, h b, length-both h bs, sum_by-append number (g b) (flat_map g bs))

-- the ways from the next kind on, of each step
abbrev going : ℕ → ℕ → List ℕ → At → ℕ
going kind winning counts at = length (ways kind winning counts at)

begun-ways : (kind winning : ℕ) (counts : List ℕ) (at : At) (begun : Begun) → length (flat_map (λ done. map (extended kind begun done) (ways (kind + 1) winning counts (next at begun))) (dones_here (eqb kind winning) kind at begun)) ≡ sum_by (going (kind + 1) winning counts) (replicate (dones_number (eqb kind winning) at begun) (next at begun))
begun-ways kind winning counts at begun =
    each-done kind begun (ways (kind + 1) winning counts (next at begun)) (going (kind + 1) winning counts) (next at begun) refl (dones_here (eqb kind winning) kind at begun)
    ∙ ap (λ n. sum_by (going (kind + 1) winning counts) (replicate n (next at begun))) (dones-length (eqb kind winning) kind at begun)

ways-steps : (kind winning held : ℕ) (counts : List ℕ) (at : At) → going kind winning (held ∷ counts) at ≡ sum_by (going (kind + 1) winning counts) (steps held (eqb kind winning) at)
unfolding ways steps
ways-steps kind winning held counts at =
    length-both
    (λ begun. flat_map (λ done. map (extended kind begun done) (ways (kind + 1) winning counts (next at begun))) (dones_here (eqb kind winning) kind at begun))
    (λ begun. replicate (dones_number (eqb kind winning) at begun) (next at begun))
    (going (kind + 1) winning counts) (begun-ways kind winning counts at) (beginnings held at)

all-steps : (kind winning held : ℕ) (counts : List ℕ) (places : List At) → sum_by (going kind winning (held ∷ counts)) places ≡ sum_by (going (kind + 1) winning counts) (flat_map (steps held (eqb kind winning)) places)
all-steps kind winning held counts [] = refl
all-steps kind winning held counts (at ∷ places) =
    omega (
      arith,
      sum_by-cons (going kind winning (held ∷ counts)) at places,
      ways-steps kind winning held counts at,
      all-steps kind winning held counts places,
      sum_by-append (going (kind + 1) winning counts) (steps held (eqb kind winning) at) (flat_map (steps held (eqb kind winning)) places),
    )

ways-over : (kind winning : ℕ) (at : At) → going kind winning [] at ≡ one_if (is_over at)
unfolding ways
ways-over kind winning at = when-length (is_over at) (record { sets = []; pair = None; done = None })

-- ---- four sets at most are begun or go on

abbrev pub IsSmall : At → Type 0
IsSmall at = at.one + at.two + at.left ≤ 4

in-replicate : {X : Type 0} (n : ℕ) (x y : X) → IsIn y (replicate n x) → x ≡ y
in-replicate zero x y h = absurd h
in-replicate (suc n) x y (inl e) = e
in-replicate (suc n) x y (inr h) = in-replicate n x y h

beginning-fits : (held triplets : ℕ) (pair : Bool) (at : At) (begun : Begun) → IsIn begun (beginning held at triplets pair) → begun.triplets + begun.runs ≤ at.left
beginning-fits held triplets pair at begun h =
    let one : Begun = record { triplets = triplets; runs = held - needed at triplets pair; pair = pair } in
    let i = in-when-inv (may_begin held at triplets pair) begun (one ∷ []) h in
    let p = and_parts (leb (needed at triplets pair) held) (leb (triplets + (held - needed at triplets pair)) at.left && not (at.paired && pair)) i.0 in
    let q = and_parts (leb (triplets + (held - needed at triplets pair)) at.left) (not (at.paired && pair)) p.1 in
    let room : one.triplets + one.runs ≤ at.left = leb-true (triplets + (held - needed at triplets pair)) at.left q.0 in
    elim i.1 [ inl e ↦ subst (λ (b : Begun). b.triplets + b.runs ≤ at.left) e room | inr z ↦ absurd z ]

beginnings-fit : (held : ℕ) (at : At) (begun : Begun) → IsIn begun (beginnings held at) → begun.triplets + begun.runs ≤ at.left
unfolding beginnings
beginnings-fit held at begun h =
    let none = beginning held at 0 false in let triplet = beginning held at 1 false in let pair = beginning held at 0 true in
    elim (in-cases begun none (triplet ++ pair) h) [
      | inl a ↦ beginning-fits held 0 false at begun a
      | inr b ↦ elim (in-cases begun triplet pair b) [
        | inl a ↦ beginning-fits held 1 false at begun a
        | inr a ↦ beginning-fits held 0 true at begun a
      ]
    ]

small-step : (held : ℕ) (here : Bool) (at other : At) → IsSmall at → IsIn other (steps held here at) → IsSmall other
unfolding steps
small-step held here at other small h =
    let i = in-flat_map-inv (λ begun. replicate (dones_number here at begun) (next at begun)) other (beginnings held at) h in
    let fits = beginnings-fit held at i.0 i.1 in
    let next_small : IsSmall (next at i.0) = omega arith in
    subst IsSmall (in-replicate (dones_number here at i.0) (next at i.0) other i.2) next_small

abbrev AreSmall : List At → Type 0
AreSmall places = (at : At) → IsIn at places → IsSmall at

small-steps : (held : ℕ) (here : Bool) (places : List At) → AreSmall places → AreSmall (flat_map (steps held here) places)
small-steps held here places small at h =
    let i = in-flat_map-inv (steps held here) at places h in
    small-step held here i.0 at (small i.0 i.1) i.2

-- ---- the bounds

sum-le : (f g : At → ℕ) (places : List At) → ((at : At) → IsIn at places → f at ≤ g at) → sum_by f places ≤ sum_by g places
sum-le f g [] h = omega arith
sum-le f g (at ∷ places) h = omega (arith, sum_by-cons f at places, sum_by-cons g at places, h at (inl refl), sum-le f g places (λ x i. h x (inr i)))

-- each number is one of these
abbrev pub AreAmong : List ℕ → List ℕ → Type 0
AreAmong numbers counts = (n : ℕ) → IsIn n counts → IsIn n numbers

-- of lists of counts that are no longer than that, no more ways than the bound
abbrev IsMost : ℕ → List ℕ → ℕ → Type 0
IsMost top numbers size = (counts : List ℕ) → length counts ≤ size → AreAmong numbers counts → (kind winning : ℕ) (at : At) → IsSmall at → going kind winning counts at ≤ most top (leb kind winning) at

positive : (top : ℕ) (is_ahead : Bool) (at : At) → 1 ≤ most top is_ahead at
unfolding most
positive top false at = grind (arith, nat_tests)
positive top true at = elim at.paired as (λ b. 1 ≤ cond b (cond (ltb (at.left + pending at) 4) (at_least_one (at.left + pending at)) 4) (at_least_one (most_unpaired top at.left (pending at)))) [ true ↦ grind (arith, nat_tests) | false ↦ grind (arith, nat_tests) ]

over-small : (b : Bool) → one_if b ≤ 1
over-small true = omega arith
over-small false = omega arith

goes : (holds : Bool → List At → Bool) (numbers : List ℕ) (kind winning held : ℕ) (places : List At) → goes_on holds numbers (leb kind winning) places ≡ true → IsIn held numbers → holds (leb (kind + 1) winning) (flat_map (steps held (eqb kind winning)) places) ≡ true
goes holds numbers kind winning held places h is =
    let test = λ (n : ℕ). holds (leb kind winning) (flat_map (steps n false) places) && cond (leb kind winning) (holds false (flat_map (steps n true) places)) true in
    let both = and_parts (holds (leb kind winning) (flat_map (steps held false) places)) (cond (leb kind winning) (holds false (flat_map (steps held true) places)) true) (all-in test numbers h held is) in
    elim (cases_eq kind winning) [
      | inl e ↦
          let now : leb kind winning ≡ true = le-leb kind winning (omega arith) in
          let behind : leb (kind + 1) winning ≡ false = lt-leb (kind + 1) winning (omega arith) in
          let here : eqb kind winning ≡ true = eq-eqb kind winning e in
          rw (behind, here) (sym (cond-true (leb kind winning) (holds false (flat_map (steps held true) places)) true now) ∙ both.1)
      | inr other ↦
          let here : eqb kind winning ≡ false = ne_eqb kind winning other in
          let same : leb (kind + 1) winning ≡ leb kind winning = grind (arith, nat_tests) in
          rw (same, here) both.0
    ]

module _ (top : ℕ) (numbers : List ℕ) where
  within : (size : ℕ) → IsMost top numbers size → (counts : List ℕ) → length counts ≤ size → AreAmong numbers counts → (kind winning : ℕ) (places : List At) (bound : ℕ) → AreSmall places → leb (sum_by (most top (leb kind winning)) places) bound ≡ true → sum_by (going kind winning counts) places ≤ bound
  within size is counts short among kind winning places bound small t =
      omega (arith, leb-true (sum_by (most top (leb kind winning)) places) bound t, sum-le (going kind winning counts) (most top (leb kind winning)) places (λ at i. is counts short among kind winning at (small at i)))

  over : (kind winning : ℕ) (places : List At) (bound : ℕ) → leb (sum_by (λ at. one_if (is_over at)) places) bound ≡ true → sum_by (going kind winning []) places ≤ bound
  over kind winning places bound t =
      omega (arith, leb-true (sum_by (λ at. one_if (is_over at)) places) bound t, sum-le (going kind winning []) (λ at. one_if (is_over at)) places (λ at i. omega (arith, ways-over kind winning at)))

  stays-later : (more : ℕ) (is_ahead : Bool) (places : List At) (bound : ℕ) → leb (sum_by (most top is_ahead) places) bound ≡ false → stays_below (suc more) top numbers is_ahead places bound ≡ true
      → (leb (sum_by (λ at. one_if (is_over at)) places) bound ≡ true) × (goes_on (λ ahead others. stays_below more top numbers ahead others bound) numbers is_ahead places ≡ true)
  unfolding stays_below
  stays-later more is_ahead places bound f t =
      let ended = leb (sum_by (λ at. one_if (is_over at)) places) bound in
      let on = goes_on (λ ahead others. stays_below more top numbers ahead others bound) numbers is_ahead places in
      and_parts ended on (sym (cond-false (leb (sum_by (most top is_ahead) places) bound) true (ended && on) f) ∙ t)

  stays-now : (is_ahead : Bool) (places : List At) (bound : ℕ) → stays_below zero top numbers is_ahead places bound ≡ true → leb (sum_by (most top is_ahead) places) bound ≡ true
  unfolding stays_below
  stays-now is_ahead places bound t = t

  stay : (size : ℕ) → IsMost top numbers size → (more : ℕ) (counts : List ℕ) → length counts ≤ size → AreAmong numbers counts → (kind winning : ℕ) (places : List At) (bound : ℕ) → AreSmall places → stays_below more top numbers (leb kind winning) places bound ≡ true → sum_by (going kind winning counts) places ≤ bound
  stay size is zero counts short among kind winning places bound small t =
      within size is counts short among kind winning places bound small (stays-now (leb kind winning) places bound t)
  stay size is (suc more) [] short among kind winning places bound small t =
      elim (cases_Bool (leb (sum_by (most top (leb kind winning)) places) bound)) [
        | inl now ↦ within size is [] short among kind winning places bound small now
        | inr later ↦ over kind winning places bound (stays-later more (leb kind winning) places bound later t).0
      ]
  stay size is (suc more) (held ∷ counts) short among kind winning places bound small t =
      elim (cases_Bool (leb (sum_by (most top (leb kind winning)) places) bound)) [
        | inl now ↦ within size is (held ∷ counts) short among kind winning places bound small now
        | inr later ↦
            let on = goes (λ ahead others. stays_below more top numbers ahead others bound) numbers kind winning held places (stays-later more (leb kind winning) places bound later t).1 (among held (inl refl)) in
            let i = stay size is more counts (omega arith) (λ n h. among n (inr h)) (kind + 1) winning (flat_map (steps held (eqb kind winning)) places) bound (small-steps held (eqb kind winning) places small) on in
            omega (arith, i, all-steps kind winning held counts places)
      ]

  -- ---- of each place

  each-below : (number : ℕ) (holds : ℕ → Bool) → each_below number holds ≡ true → (n : ℕ) → n < number → holds n ≡ true
  each-below zero holds t n low = absurd (omega arith)
  each-below (suc number) holds t n low =
      let p = and_parts (holds number) (each_below number holds) t in
      elim (cases_eq n number) [
        | inl e ↦ ap holds e ∙ p.0
        | inr other ↦ each-below number holds p.1 n (omega arith)
      ]

  place-at : (one two left : ℕ) → are_bounds_at top numbers one two left ≡ true → one + two + left ≤ 4 → (is_ahead paired : Bool) → is_bound top numbers is_ahead (record { one = one; two = two; left = left; paired = paired }) ≡ true
  place-at one two left t small is_ahead paired =
      let passed = is_bound top numbers false (record { one = one; two = two; left = left; paired = true }) in
      let passed_open = is_bound top numbers false (record { one = one; two = two; left = left; paired = false }) in
      let ahead = is_bound top numbers true (record { one = one; two = two; left = left; paired = true }) in
      let ahead_open = is_bound top numbers true (record { one = one; two = two; left = left; paired = false }) in
      let all = sym (cond-true (leb (one + two + left) 4) (passed && (passed_open && (ahead && ahead_open))) true (le-leb (one + two + left) 4 small)) ∙ t in
      let p = and_parts passed (passed_open && (ahead && ahead_open)) all in
      let q = and_parts passed_open (ahead && ahead_open) p.1 in
      let r = and_parts ahead ahead_open q.1 in
      elim is_ahead as (λ a. is_bound top numbers a (record { one = one; two = two; left = left; paired = paired }) ≡ true) [
        | true ↦ elim paired as (λ b. is_bound top numbers true (record { one = one; two = two; left = left; paired = b }) ≡ true) [ true ↦ r.0 | false ↦ r.1 ]
        | false ↦ elim paired as (λ b. is_bound top numbers false (record { one = one; two = two; left = left; paired = b }) ≡ true) [ true ↦ p.0 | false ↦ q.0 ]
      ]

  bounds-at : are_bounds top numbers ≡ true → (is_ahead : Bool) (at : At) → IsSmall at → is_bound top numbers is_ahead at ≡ true
  unfolding are_bounds
  bounds-at t is_ahead at small =
      let a = each-below 5 (λ one. each_below 5 (λ two. each_below 5 (λ left. are_bounds_at top numbers one two left))) t at.one (omega arith) in
      let b = each-below 5 (λ two. each_below 5 (λ left. are_bounds_at top numbers at.one two left)) a at.two (omega arith) in
      let c = each-below 5 (λ left. are_bounds_at top numbers at.one at.two left) b at.left (omega arith) in
      place-at at.one at.two at.left c small is_ahead at.paired

  one-more : are_bounds top numbers ≡ true → (size : ℕ) → IsMost top numbers size → IsMost top numbers (suc size)
  one-more t size is [] short among kind winning at small = omega (arith, ways-over kind winning at, over-small (is_over at), positive top (leb kind winning) at)
  one-more t size is (held ∷ counts) short among kind winning at small =
      let bound = most top (leb kind winning) at in
      let alone : AreSmall (at ∷ []) = λ x i. elim i [ inl e ↦ subst IsSmall e small | inr z ↦ absurd z ] in
      let on = goes (λ ahead others. stays_below 8 top numbers ahead others bound) numbers kind winning held (at ∷ []) (bounds-at t (leb kind winning) at small) (among held (inl refl)) in
      let i = stay size is 8 counts (omega arith) (λ n h. among n (inr h)) (kind + 1) winning (flat_map (steps held (eqb kind winning)) (at ∷ [])) bound (small-steps held (eqb kind winning) (at ∷ []) alone) on in
      omega (arith, i, all-steps kind winning held counts (at ∷ []), sum_by-cons (going kind winning (held ∷ counts)) at [])

  none-more : IsMost top numbers zero
  none-more [] short among kind winning at small = omega (arith, ways-over kind winning at, over-small (is_over at), positive top (leb kind winning) at)
  none-more (held ∷ counts) short among kind winning at small = absurd (omega arith)

  pub each-size : are_bounds top numbers ≡ true → (size : ℕ) → IsMost top numbers size
  each-size t zero = none-more
  each-size t (suc size) = one-more t size (each-size t size)
