-- A hand is cut into sets just where each of its suits is.
use Rattle.std.proofs.Common.{leb, ltb, eqb, ◌&&◌, ◌≡◌, ℕ, zero, suc, ◌+◌, ◌*◌, ◌%◌, ◌<◌, ◌≤◌, Bool, IsTrue, cond, ◌⊎◌, inl, inr, ⊎_elim, List, [], ◌∷◌, ◌++◌, replicate, map, refl, sym, ap, ◌∙◌, arith}
use Rattle.std.specs.List.{AllByRecursion, range_with_len}
use Rattle.std.proofs.lemmas.Bool.{cases_lt, cases_eq}
use Rattle.std.proofs.lemmas.Bool.Decides.{nat_tests}
use Rattle.riichi_tiles.specs.declared.block.Block.{Block}
use Rattle.riichi_tiles.specs.declared.block.Block.TheVariants.{Run, Triplet, Pair}
use Rattle.riichi_tiles.specs.declared.suit.Suit.{Suit}
use Rattle.riichi_tiles.specs.declared.suit.Suit.TheVariants.{Characters, Honours}
use Rattle.riichi_tiles.specs.Kinds.{IsOfSuit, IsRunLow, first_of, has_runs, suit_of}
use Rattle.riichi_tiles.specs.Suits.{over_suits}
use Rattle.riichi_tiles.proofs.KindSums.{tiles_is_sum}
use Rattle.riichi_tiles.proofs.Suits.{all_side_by_side, clear_of, nine_at_most, only_over, own_suit, side_by_side, sum_side_by_side}
use Rattle.riichi_tiles.specs.Blocks.{copies, total, IsSet}
use Rattle.riichi_split.specs.SuitTiles.{AreCut, nine_from}
use Rattle.riichi_split.proofs.Sound.{sets-replicate}
use Rattle.std.proofs.lemmas.List.Elements.{All-from_recursion, recursion_from_All}
use Rattle.std.specs.Prelude.{sum_by}

-- ---- sets cut each suit

-- how many triplets of a kind there are
abbrev triplets : List Block → ℕ → ℕ
triplets [] k = 0
triplets (Run low ∷ bs) k = triplets bs k
triplets (Triplet a ∷ bs) k = cond (eqb a k) 1 0 + triplets bs k
triplets (Pair a ∷ bs) k = triplets bs k

-- how many runs have their highest tile at a kind
abbrev runs-to : List Block → ℕ → ℕ
runs-to [] k = 0
runs-to (Run low ∷ bs) k = cond (eqb (low + 2) k) 1 0 + runs-to bs k
runs-to (Triplet a ∷ bs) k = runs-to bs k
runs-to (Pair a ∷ bs) k = runs-to bs k

run-copies : (low k : ℕ) → copies (Run low) k ≡ cond (eqb (low + 2) (k + 2)) 1 0 + cond (eqb (low + 2) (k + 1)) 1 0 + cond (eqb (low + 2) k) 1 0
run-copies low k = grind (arith, nat_tests)

triplet-copies : (a k : ℕ) → copies (Triplet a) k ≡ 3 * cond (eqb a k) 1 0
triplet-copies a k = grind (arith, nat_tests)

total-is : (bs : List Block) → AllByRecursion IsSet bs → (k : ℕ) → total bs k ≡ 3 * triplets bs k + (runs-to bs (k + 2) + runs-to bs (k + 1) + runs-to bs k)
total-is [] s k = omega arith
total-is (Run low ∷ bs) s k = omega (arith, run-copies low k, total-is bs s.1 k)
total-is (Triplet a ∷ bs) s k = omega (arith, triplet-copies a k, total-is bs s.1 k)
total-is (Pair a ∷ bs) s k = absurd s.0

other-run : (low k n : ℕ) → (low + 2 ≡ k → ⊥) → 0 < cond (eqb (low + 2) k) 1 0 + n → 0 < n
other-run low k n ne h = grind (arith, nat_tests)

run-low : (bs : List Block) → AllByRecursion IsSet bs → (k : ℕ) → 0 < runs-to bs k → (low : ℕ) × (k ≡ low + 2) × IsRunLow low
run-low [] s k h = absurd (omega arith)
run-low (Run low ∷ bs) s k h =
    elim (cases_eq (low + 2) k) [
      | inl e ↦ (low, sym e, s.0)
      | inr n ↦ run-low bs s.1 k (other-run low k (runs-to bs k) n h)
    ]
run-low (Triplet a ∷ bs) s k h = run-low bs s.1 k h
run-low (Pair a ∷ bs) s k h = absurd s.0

no-run : (bs : List Block) → AllByRecursion IsSet bs → (k : ℕ) → ((low : ℕ) → k ≡ low + 2 → IsRunLow low → ⊥) → runs-to bs k ≡ 0
no-run bs s k none = elim (cases_lt 0 (runs-to bs k)) [
  | inl h ↦ let r = run-low bs s k h in absurd (none r.0 r.1 r.2)
  | inr z ↦ omega arith
]

cut-from : (bs : List Block) → AllByRecursion IsSet bs → (f : ℕ → ℕ) → ((k : ℕ) → f k ≡ total bs k) → (runs : Bool) (first : ℕ) → ((k : ℕ) → first ≤ k → 0 < runs-to bs (k + 2) → IsTrue runs) → (n k one two : ℕ) → first ≤ k → ((end : ℕ) → end ≡ k + n → runs-to bs (end + 1) + runs-to bs end ≡ 0) → one ≡ runs-to bs (k + 1) → two ≡ runs-to bs k → AreCut runs one two (map f (range_with_len k n))
cut-from bs s f is runs first may zero k one two l z e g = let h = z k (omega arith) in omega (arith, h)
cut-from bs s f is runs first may (suc n) k one two l z e g =
    let t = total-is bs s k in
    let i = is k in
    (triplets bs k, runs-to bs (k + 2), omega (arith, t, i), may k l, cut-from bs s f is runs first may n (k + 1) (runs-to bs (k + 2)) one (omega arith) (λ end p. z end (omega arith)) (ap (runs-to bs) (omega arith)) e)

-- no run goes on from one suit into the next
border : (bs : List Block) → AllByRecursion IsSet bs → (k : ℕ) → k % 9 ≡ 0 → (runs-to bs (k + 1) ≡ 0) × (runs-to bs k ≡ 0)
border bs s k nine = (no-run bs s (k + 1) (λ low e r. absurd (omega (arith, nine, e, r.1))), no-run bs s k (λ low e r. absurd (omega (arith, nine, e, r.1))))

first-of-nine : (suit : Suit) → first_of suit % 9 ≡ 0
first-of-nine Characters = refl
first-of-nine other = refl

runs-begin : (bs : List Block) → AllByRecursion IsSet bs → (suit : Suit) (k : ℕ) → first_of suit ≤ k → 0 < runs-to bs (k + 2) → IsTrue (has_runs suit)
runs-begin bs s Honours k l h = let r = run-low bs s (k + 2) h in absurd (omega (arith, l, r.1, r.2.0))
runs-begin bs s other k l h = refl

pub cut-of : (bs : List Block) → AllByRecursion IsSet bs → (f : ℕ → ℕ) → ((k : ℕ) → f k ≡ total bs k) → (suit : Suit) → AreCut (has_runs suit) 0 0 (nine_from f (first_of suit))
cut-of bs s f is suit =
    let nine = first-of-nine suit in
    let b = border bs s (first_of suit) nine in
    cut-from bs s f is (has_runs suit) (first_of suit) (runs-begin bs s suit) 9 (first_of suit) 0 0 (omega arith)
    (λ end e. let last = border bs s end (omega (arith, nine, e)) in omega (arith, last.0, last.1)) (sym b.0) (sym b.1)

-- ---- and where each suit is cut, there are such sets

carried : ℕ → ℕ → ℕ → ℕ → ℕ
carried k one two kind = cond (eqb kind k) (one + two) (cond (eqb kind (k + 1)) one 0)

within : ℕ → ℕ → ℕ → ℕ → ℕ
within k n kind held = cond (leb k kind && ltb kind (k + n)) held 0

-- the sets have the tiles of n kinds from k on, beside those of runs that began below
record IsMade (f : ℕ → ℕ) (n k one two : ℕ) (bs : List Block) : Type 0 where
  sets : AllByRecursion IsSet bs
  adds : (kind : ℕ) → total bs kind + carried k one two kind ≡ within k n kind (f kind)

more-triplets : (t k : ℕ) (bs : List Block) (kind : ℕ) → total (replicate t (Triplet k) ++ bs) kind ≡ cond (eqb kind k) (3 * t) 0 + total bs kind
more-triplets zero k bs kind = grind (arith, nat_tests)
more-triplets (suc t) k bs kind = let i = more-triplets t k bs kind in grind (arith, nat_tests)

more-runs : (r k : ℕ) (bs : List Block) (kind : ℕ) → total (replicate r (Run k) ++ bs) kind ≡ cond (leb k kind && ltb kind (k + 3)) r 0 + total bs kind
more-runs zero k bs kind = grind (arith, nat_tests)
more-runs (suc r) k bs kind = let i = more-runs r k bs kind in grind (arith, nat_tests)

made-nil : (one two k kind held : ℕ) → one + two ≡ 0 → 0 + carried k one two kind ≡ within k 0 kind held
unfolding carried within
made-nil one two k kind held e = grind (arith, nat_tests)

made-step : (k n one two t b kind held tiles front rest : ℕ) → tiles ≡ cond (eqb kind k) (3 * t) 0 + front → front ≡ cond (leb k kind && ltb kind (k + 3)) b 0 + rest → rest + carried (k + 1) b one kind ≡ within (k + 1) n kind held → (kind ≡ k → held ≡ one + two + 3 * t + b) → tiles + carried k one two kind ≡ within k (suc n) kind held
unfolding carried within
made-step k n one two t b kind held tiles front rest e f i h = elim (cases_lt kind k) [
  | inl l ↦ grind (arith, nat_tests)
  | inr g ↦ elim (cases_eq kind k) [
    | inl same ↦ let u = h same in grind (arith, nat_tests)
    | inr ne ↦ elim (cases_eq kind (k + 1)) [
      | inl one-up ↦ grind (arith, nat_tests)
      | inr ne-one ↦ elim (cases_eq kind (k + 2)) [ inl two-up ↦ grind (arith, nat_tests) | inr above ↦ grind (arith, nat_tests) ]
    ]
  ]
]

-- a run that begins has two ranks above it
long : (runs : Bool) (f : ℕ → ℕ) (n k b one : ℕ) → AreCut runs b one (map f (range_with_len k n)) → 0 < b → 2 ≤ n
long runs f zero k b one s h = absurd (omega (arith, s))
long runs f (suc zero) k b one s h = absurd (omega (arith, s.4))
long runs f (suc (suc n)) k b one s h = omega arith

-- where runs may begin
MayBegin : Bool → ℕ → ℕ → Type 0
MayBegin runs first end = (k n : ℕ) → first ≤ k → k + suc n ≡ end → 2 ≤ n → IsTrue runs → IsRunLow k

made : (f : ℕ → ℕ) (runs : Bool) (first end : ℕ) → ((k : ℕ) → 0 < f k → k < 34) → MayBegin runs first end → (n k one two : ℕ) → first ≤ k → k + n ≡ end → AreCut runs one two (map f (range_with_len k n)) → (bs : List Block) × IsMade f n k one two bs
unfolding MayBegin
made f runs first end kinds low zero k one two l e s = ([], record { sets = tt; adds = λ kind. made-nil one two k kind (f kind) s })
made f runs first end kinds low (suc n) k one two l e s =
    let i = made f runs first end kinds low n (k + 1) s.1 one (omega arith) (omega arith) s.4 in
    let front = replicate s.1 (Run k) ++ i.0 in
    let is : f k ≡ one + two + 3 * s.0 + s.1 = s.2 in (
      replicate s.0 (Triplet k) ++ front,
      record {
        sets = sets-replicate s.0 (Triplet k) front (λ h. kinds k (omega (arith, is))) (sets-replicate s.1 (Run k) i.0 (λ h. low k n l e (long runs f n (k + 1) s.1 one s.4 h) (s.3 h)) i.1.sets);
        adds = λ kind. made-step k n one two s.0 s.1 kind (f kind) _ _ (total i.0 kind) (more-triplets s.0 k front kind) (more-runs s.1 k i.0 kind) (i.1.adds kind) (λ same. ap f same ∙ is);
      },
    )

may-begin : (suit : Suit) → MayBegin (has_runs suit) (first_of suit) (first_of suit + 9)
unfolding MayBegin
may-begin Honours k n l e two t = absurd (cc)
may-begin other k n l e two t = (omega arith, omega arith)

made-of : (f : ℕ → ℕ) → ((k : ℕ) → 0 < f k → k < 34) → (suit : Suit) → AreCut (has_runs suit) 0 0 (nine_from f (first_of suit)) → (bs : List Block) × IsMade f 9 (first_of suit) 0 0 bs
made-of f kinds suit s = made f (has_runs suit) (first_of suit) (first_of suit + 9) kinds (may-begin suit) 9 (first_of suit) 0 0 (omega arith) refl s

-- the sets of one suit have its tiles, and none of another
own-tiles : (suit : Suit) (kind n held : ℕ) → IsOfSuit suit kind → n + carried (first_of suit) 0 0 kind ≡ within (first_of suit) 9 kind held → n ≡ held
unfolding carried within
own-tiles suit kind n held is e = let low = is.low in let high = nine_at_most suit kind is in grind (arith, nat_tests)

no-tiles : (suit : Suit) (kind n held : ℕ) → (kind < first_of suit) ⊎ (first_of suit + 9 ≤ kind) ⊎ (held ≡ 0) → n + carried (first_of suit) 0 0 kind ≡ within (first_of suit) 9 kind held → n ≡ 0
unfolding carried within
no-tiles suit kind n held out e = grind (arith, nat_tests)

adds-up : (tiles : Suit → ℕ) (kind held : ℕ) → ((suit : Suit) → tiles suit + carried (first_of suit) 0 0 kind ≡ within (first_of suit) 9 kind held) → (0 < held → kind < 34) → over_suits tiles ≡ held
adds-up tiles kind held each some =
    let own = suit_of kind in
    only_over tiles own (λ suit ne. no-tiles suit kind (tiles suit) held (⊎_elim inl (λ past. inr (inl past)) (clear_of suit kind ne)) (each suit))
    ∙ elim (cases_lt 0 held) [
      | inl l ↦ own-tiles own kind (tiles own) held (own_suit kind (some l)) (each own)
      | inr z ↦ let none : held ≡ 0 = omega arith in no-tiles own kind (tiles own) held (inr (inr none)) (each own) ∙ sym none
    ]

pub record IsMadeOf (f : ℕ → ℕ) (bs : List Block) : Type 0 where
  pub sets : AllByRecursion IsSet bs
  pub adds : (kind : ℕ) → total bs kind ≡ f kind

pub sets-of : (f : ℕ → ℕ) → ((k : ℕ) → 0 < f k → k < 34) → ((suit : Suit) → AreCut (has_runs suit) 0 0 (nine_from f (first_of suit))) → (bs : List Block) × IsMadeOf f bs
sets-of f kinds cut =
    let of : Suit → List Block = λ suit. (made-of f kinds suit (cut suit)).0 in (
      side_by_side of,
      record {
        sets = recursion_from_All IsSet (side_by_side of) (all_side_by_side IsSet of (λ suit. All-from_recursion IsSet (of suit) (made-of f kinds suit (cut suit)).1.sets));
        adds = λ kind.
            tiles_is_sum kind (side_by_side of) ∙ sum_side_by_side (λ b. copies b kind) of
            ∙ adds-up (λ suit. sum_by (λ b. copies b kind) (of suit)) kind (f kind) (λ suit. ap (λ n. n + carried (first_of suit) 0 0 kind) (sym (tiles_is_sum kind (of suit))) ∙ (made-of f kinds suit (cut suit)).1.adds kind) (kinds kind);
      },
    )
