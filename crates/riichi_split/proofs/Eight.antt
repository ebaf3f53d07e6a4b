-- No hand has more than eight readings.
use Rattle.std.proofs.Common.{◌≡◌, ◌∙◌, ◌⊎◌, ℕ, zero, suc, ◌+◌, ◌-◌, ◌*◌, ◌≤◌, ◌<◌, Bool, true, false, cond, leb, eqb, inl, inr, List, [], ◌∷◌, length, get_or, map, Option, Some, None, refl, sym, ap, subst, arith}
use Rattle.std.specs.List.{AllByRecursion}
use Rattle.std.proofs.Math.Dec.{leb-zero}
use Rattle.std.proofs.lemmas.Bool.{both_ways, cases_Bool, cases_eq, cases_lt}
use Rattle.std.proofs.lemmas.Bool.Decides.{nat_tests}
use Rattle.std.proofs.lemmas.List.{get_or_default, length-map}
use Rattle.riichi_tiles.specs.Blocks.{copies, total, IsSet}
use Rattle.riichi_tiles.specs.Kinds.{IsRunLow}
use Rattle.riichi_tiles.specs.Tiles.{IsCounts}
use Rattle.riichi_tiles.specs.Forms.{AreMadeOf, IsSevenPairs, IsThirteenOrphans}
use Rattle.riichi_tiles.specs.declared.block.Block.{Block}
use Rattle.riichi_tiles.specs.declared.block.Block.TheVariants.{Run, Triplet, Pair}
use Rattle.riichi_tiles.proofs.Members.{IsIn, in-All, in-map, Contains-in}
use Rattle.riichi_split.specs.declared.reading.Reading.{Reading}
use Rattle.riichi_split.specs.declared.reading.Reading.TheVariants.{Standard, SevenPairs, Orphans}
use Rattle.riichi_split.specs.Readings.{IsReading, AreTheReadings}
use Rattle.riichi_split.specs.ReadingsOf.{are_seven_pairs, are_orphans}
use Rattle.riichi_split.proofs.AllSplits.{small-by}
use Rattle.riichi_split.proofs.EveryReading.{orphans-iff}
use Rattle.riichi_split.proofs.MadeOf.{each-set}
use Rattle.riichi_split.proofs.PairCounts.{seven-iff}
use Rattle.riichi_split.proofs.Lists.{Differ, differ-AllPairs}
use Rattle.riichi_split.proofs.WaysFound.{start, reading-way}
use Rattle.riichi_split.proofs.WayNumbers.{AreAmong, each-size}
use Rattle.riichi_split.proofs.Ways.{Way, are_bounds, stays_below, steps, most, most_unpaired, beginnings, dones_number, ways}

any_hand : are_bounds 8 (0 ∷ 1 ∷ 2 ∷ 3 ∷ 4 ∷ []) ≡ true
unfolding are_bounds stays_below steps most most_unpaired beginnings dones_number
any_hand = refl

seven_pairs : are_bounds 6 (0 ∷ 2 ∷ []) ≡ true
unfolding are_bounds stays_below steps most most_unpaired beginnings dones_number
seven_pairs = refl

-- ---- a list whose elements differ is no longer than one that has them all

module _ {X : Type 0} where
  abbrev IsWithout : X → List X → List X → Type 0
  IsWithout x ys rest = (length ys ≡ suc (length rest)) × ((z : X) → IsIn z ys → (z ≡ x → ⊥) → IsIn z rest)

  without-one : (x : X) (ys : List X) → IsIn x ys → (rest : List X) × IsWithout x ys rest
  without-one x [] h = absurd h
  without-one x (y ∷ ys) (inl e) = (ys, (refl, λ z i n. elim i [ inl f ↦ absurd (n (sym f ∙ e)) | inr j ↦ j ]))
  without-one x (y ∷ ys) (inr h) = let i = without-one x ys h in (y ∷ i.0, (omega (arith, i.1.0), λ z q n. elim q [ inl f ↦ inl f | inr j ↦ inr (i.1.1 z j n) ]))

  no-longer : (xs ys : List X) → Differ xs → ((x : X) → IsIn x xs → IsIn x ys) → length xs ≤ length ys
  no-longer [] ys d h = omega arith
  no-longer (x ∷ xs) ys d h =
      let w = without-one x ys (h x (inl refl)) in
      let i = no-longer xs w.0 d.1 (λ z q. w.1.1 z (h z (inr q)) (λ e. d.0 (subst (λ (y : X). IsIn y xs) e q))) in
      omega (arith, w.1.0, i)

-- ---- the readings of sets and a pair

the_kind : Option ℕ → ℕ
the_kind None = 0
the_kind (Some kind) = kind

the_block : Option Block → Block
the_block None = Pair 0
the_block (Some block) = block

read : Way → Reading
read way = Standard way.sets (the_kind way.pair) (the_block way.done)

read-way : (sets : List Block) (pair : ℕ) (done : Block) → read (record { sets = sets; pair = Some pair; done = Some done }) ≡ Standard sets pair done
unfolding read the_kind the_block
read-way sets pair done = refl

standard-readings : List ℕ → ℕ → ℕ → List Reading
standard-readings c melds winning = map read (ways 0 winning c (start (4 - melds)))

in-standard : (c : List ℕ) (melds winning pair : ℕ) (sets : List Block) (done : Block) → IsCounts c → melds ≤ 4 → IsReading c melds winning (Standard sets pair done) → IsIn (Standard sets pair done) (standard-readings c melds winning)
unfolding standard-readings
in-standard c melds winning pair sets done counts m is =
    let way : Way = record { sets = sets; pair = Some pair; done = Some done } in
    let i = reading-way c (4 - melds) melds winning pair sets done counts.each_kind (small-by c counts.at_most_four) (omega arith) is.0 is.1 in
    subst (λ (r : Reading). IsIn r (standard-readings c melds winning)) (read-way sets pair done) (in-map read way (ways 0 winning c (start (4 - melds))) i)

from-start : (top wanted : ℕ) → 6 ≤ top → most top true (start wanted) ≤ top
unfolding most most_unpaired
from-start top zero h = omega arith
from-start top (suc zero) h = omega arith
from-start top (suc (suc zero)) h = omega arith
from-start top (suc (suc (suc zero))) h = omega arith
from-start top (suc (suc (suc (suc n)))) h = grind (arith, nat_tests)

few-standard : (top : ℕ) (numbers c : List ℕ) (melds winning : ℕ) → 6 ≤ top → are_bounds top numbers ≡ true → AreAmong numbers c → length (standard-readings c melds winning) ≤ top
unfolding standard-readings
few-standard top numbers c melds winning h bounds among =
    let few = each-size top numbers bounds (length c) c (omega arith) among 0 winning (start (4 - melds)) (omega arith) in
    let ahead : most top (leb 0 winning) (start (4 - melds)) ≡ most top true (start (4 - melds)) = ap (λ b. most top b (start (4 - melds))) (leb-zero winning) in
    omega (arith, few, ahead, from-start top (4 - melds) h, length-map (ways 0 winning c (start (4 - melds))) read)

-- ---- of thirteen orphans none is of sets and a pair

-- of a kind that runs reach only with its neighbour, as a 1 or a 9, sets without the neighbour have a multiple of three
module _ (own neighbour : ℕ) (no_run : (low : ℕ) → IsRunLow low → copies (Run low) neighbour ≡ 0 → copies (Run low) own ≡ 0) where
  by-threes : (sets : List Block) → AllByRecursion IsSet sets → total sets neighbour ≡ 0 → (n : ℕ) × (total sets own ≡ 3 * n)
  by-threes [] each none = (0, omega arith)
  by-threes (Run low ∷ sets) each none =
      let i = by-threes sets each.1 (omega arith) in
      let z = no_run low each.0 (omega arith) in
      (i.0, omega (arith, i.1, z))
  by-threes (Triplet kind ∷ sets) each none =
      let i = by-threes sets each.1 (omega arith) in
      elim (cases_eq own kind) [
        | inl e ↦ let three : copies (Triplet kind) own ≡ 3 = grind (arith, nat_tests) in (suc i.0, omega (arith, i.1, three))
        | inr other ↦ let no : copies (Triplet kind) own ≡ 0 = grind (arith, nat_tests) in (i.0, omega (arith, i.1, no))
      ]
  by-threes (Pair kind ∷ sets) each none = absurd each.0

  -- so one or two tiles of it, without the neighbour, are the pair's
  is-pair : (c : List ℕ) (sets : List Block) (pair : ℕ) → AreMadeOf c sets pair → own < 34 → neighbour < 34 → get_or c neighbour 0 ≡ 0 → 0 < get_or c own 0 → get_or c own 0 < 3 → pair ≡ own
  is-pair c sets pair made low near none some few =
      let n : get_or c neighbour 0 ≡ copies (Pair pair) neighbour + total sets neighbour = made.adds_up neighbour near in
      let o : get_or c own 0 ≡ copies (Pair pair) own + total sets own = made.adds_up own low in
      let threes = by-threes sets (each-set c sets pair made) (omega arith) in
      elim (cases_eq own pair) [
        | inl e ↦ sym e
        | inr other ↦ let no : copies (Pair pair) own ≡ 0 = grind (arith, nat_tests) in absurd (omega (arith, o, threes.1, no))
      ]

run-of-one : (low : ℕ) → IsRunLow low → copies (Run low) 1 ≡ 0 → copies (Run low) 0 ≡ 0
run-of-one low is none = grind (arith, nat_tests)

run-of-nine : (low : ℕ) → IsRunLow low → copies (Run low) 7 ≡ 0 → copies (Run low) 8 ≡ 0
run-of-nine low is none = elim (cases_lt 6 low) [ inl h ↦ elim (cases_lt low 9) [ inl g ↦ absurd (omega (arith, is.1)) | inr g ↦ grind (arith, nat_tests) ] | inr h ↦ grind (arith, nat_tests) ]

one-or-two : (b : Bool) → (0 < cond b 2 1) × (cond b 2 1 < 3)
one-or-two true = (omega arith, omega arith)
one-or-two false = (omega arith, omega arith)

no-split : (c : List ℕ) (sets : List Block) (pair : ℕ) → IsThirteenOrphans c → AreMadeOf c sets pair → ⊥
no-split c sets pair is made =
    let one : get_or c 0 0 ≡ cond (eqb 0 is.doubled) 2 1 = is.at 0 (omega arith) in
    let nine : get_or c 8 0 ≡ cond (eqb 8 is.doubled) 2 1 = is.at 8 (omega arith) in
    let two : get_or c 1 0 ≡ 0 = is.at 1 (omega arith) in
    let eight : get_or c 7 0 ≡ 0 = is.at 7 (omega arith) in
    let ones = one-or-two (eqb 0 is.doubled) in
    let nines = one-or-two (eqb 8 is.doubled) in
    let first = is-pair 0 1 run-of-one c sets pair made (omega arith) (omega arith) two (omega (arith, one, ones.0)) (omega (arith, one, ones.1)) in
    let last = is-pair 8 7 run-of-nine c sets pair made (omega arith) (omega arith) eight (omega (arith, nine, nines.0)) (omega (arith, nine, nines.1)) in
    omega (arith, first, last)

-- ---- all readings

in-counts : (c : List ℕ) (n : ℕ) → IsIn n c → (kind : ℕ) × (kind < length c) × (get_or c kind 0 ≡ n)
in-counts c n i = let k = Contains-in n c i in (k.0, k.1, get_or_default c k.0 0 n k.1 ∙ k.2)

up-to-four : (n : ℕ) → n ≤ 4 → IsIn n (0 ∷ 1 ∷ 2 ∷ 3 ∷ 4 ∷ [])
up-to-four zero h = inl refl
up-to-four (suc zero) h = inr (inl refl)
up-to-four (suc (suc zero)) h = inr (inr (inl refl))
up-to-four (suc (suc (suc zero))) h = inr (inr (inr (inl refl)))
up-to-four (suc (suc (suc (suc zero)))) h = inr (inr (inr (inr (inl refl))))
up-to-four (suc (suc (suc (suc (suc n))))) h = absurd (omega arith)

of-four : (c : List ℕ) → IsCounts c → AreAmong (0 ∷ 1 ∷ 2 ∷ 3 ∷ 4 ∷ []) c
of-four c counts n i = let k = in-counts c n i in up-to-four n (omega (arith, k.2, counts.at_most_four k.0))

of-pairs : (c : List ℕ) → length c ≡ 34 → IsSevenPairs c → AreAmong (0 ∷ 2 ∷ []) c
of-pairs c long is n i =
    let k = in-counts c n i in
    elim (is.two_or_none k.0 (omega (arith, k.1))) [ inl none ↦ inl (sym none ∙ k.2) | inr two ↦ inr (inl (sym two ∙ k.2)) ]

-- each of the special forms, or not
seven-or-not : (c : List ℕ) → length c ≡ 34 → IsSevenPairs c ⊎ (IsSevenPairs c → ⊥)
seven-or-not c long =
    let iff = seven-iff c 0 long in
    elim (cases_Bool (are_seven_pairs c 0)) [ inl t ↦ inl (iff.0 t).1 | inr f ↦ inr (λ h. both_ways (are_seven_pairs c 0) f (iff.1 (refl, h))) ]

orphans-or-not : (c : List ℕ) → IsThirteenOrphans c ⊎ (IsThirteenOrphans c → ⊥)
orphans-or-not c =
    let iff = orphans-iff c 0 in
    elim (cases_Bool (are_orphans c 0)) [ inl t ↦ inl (iff.0 t).1 | inr f ↦ inr (λ h. both_ways (are_orphans c 0) f (iff.1 (refl, h))) ]

module _ (c : List ℕ) (melds winning : ℕ) (counts : IsCounts c) (m : melds ≤ 4) where
  -- the readings of sets and a pair, and those of the special forms
  candidates : List Reading
  candidates = SevenPairs ∷ Orphans ∷ standard-readings c melds winning

  among-all : (r : Reading) → IsReading c melds winning r → IsIn r candidates
  unfolding candidates
  among-all (Standard sets pair done) is = inr (inr (in-standard c melds winning pair sets done counts m is))
  among-all SevenPairs is = inl refl
  among-all Orphans is = inr (inl refl)

  among-standard : (IsSevenPairs c → ⊥) → (IsThirteenOrphans c → ⊥) → (r : Reading) → IsReading c melds winning r → IsIn r (standard-readings c melds winning)
  among-standard seven orphans (Standard sets pair done) is = in-standard c melds winning pair sets done counts m is
  among-standard seven orphans SevenPairs is = absurd (seven is.1)
  among-standard seven orphans Orphans is = absurd (orphans is.1)

  among-special : IsThirteenOrphans c → (r : Reading) → IsReading c melds winning r → IsIn r (SevenPairs ∷ Orphans ∷ [])
  among-special orphans (Standard sets pair done) is = absurd (no-split c sets pair orphans is.0.made_of)
  among-special orphans SevenPairs is = inl refl
  among-special orphans Orphans is = inr (inl refl)

  few-by : (readings others : List Reading) → AreTheReadings c melds winning readings → ((r : Reading) → IsReading c melds winning r → IsIn r others) → length readings ≤ length others
  few-by readings others are among = no-longer readings others (differ-AllPairs readings are.once) (λ r i. among r (in-All (IsReading c melds winning) readings are.sound r i))

  few-candidates : IsSevenPairs c → length candidates ≤ 8
  unfolding candidates
  few-candidates seven = omega (arith, few-standard 6 (0 ∷ 2 ∷ []) c melds winning (omega arith) seven_pairs (of-pairs c counts.each_kind seven))

  pub eight : (readings : List Reading) → AreTheReadings c melds winning readings → length readings ≤ 8
  eight readings are =
      elim (seven-or-not c counts.each_kind) [
        | inl seven ↦ omega (arith, few-by readings candidates are among-all, few-candidates seven)
        | inr open_pairs ↦ elim (orphans-or-not c) [
          | inl orphans ↦ omega (arith, few-by readings (SevenPairs ∷ Orphans ∷ []) are (among-special orphans))
          | inr none ↦ omega (arith, few-by readings (standard-readings c melds winning) are (among-standard open_pairs none), few-standard 8 (0 ∷ 1 ∷ 2 ∷ 3 ∷ 4 ∷ []) c melds winning (omega arith) any_hand (of-four c counts))
        ]
      ]
