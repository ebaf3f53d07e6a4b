-- The blocks of all kinds, suit by suit.
use Rattle.std.proofs.Common.{◌≡◌, ℕ, inl, inr, ◌+◌, ◌-◌, ◌<◌, ◌≤◌, Bool, true, false, cond, IsTrue, ◌⊎◌, List, [], ◌∷◌, leb, ltb, refl, sym, ap, ◌∙◌, ⊎_elim, arith}
use Rattle.std.proofs.lemmas.Bool.{cases_lt, false≢true}
use Rattle.std.proofs.lemmas.Bool.Decides.{nat_tests}
use Rattle.std.proofs.lemmas.List.Elements.{All-nil, All-cons, All-head, All-tail}
use Rattle.std.proofs.lemmas.List.Sums.{sum_by-cons}
use Rattle.std.specs.Prelude.{All, ◌&&◌, count_by, sum_by}
use Rattle.riichi_tiles.specs.Kinds.{IsRunLow, first_of, has_runs, kinds_of}
use Rattle.riichi_tiles.specs.Suits.{over_suits}
use Rattle.riichi_tiles.specs.declared.suit.Suit.{Suit}
use Rattle.riichi_tiles.specs.declared.suit.Suit.TheVariants.{Characters, Honours}
use Rattle.riichi_tiles.proofs.Suits.{kinds_end, runs_begin, same_over}
use Rattle.riichi_tiles.specs.Blocks.{total, is_pair}
use Rattle.riichi_tiles.specs.declared.block.Block.{Block}
use Rattle.riichi_rows.specs.Suit.{is_set, IsInSuit}
use Rattle.riichi_tiles.specs.declared.block.Block.TheVariants.{Run, Triplet, Pair}
use Rattle.riichi_shape.proofs.Counted.{IsOfKinds}
use Rattle.riichi_rows.proofs.Blocks.{no_block, sum_by-none, sum_by-same, sum_by-same_of, tiles_of, tiles_is_sum, set_of, has_pair}

-- the lowest kind of a block
abbrev start : Block → ℕ
start (Run k) = k
start (Triplet k) = k
start (Pair k) = k

-- the block at the kind that this one is moved to
abbrev moved : (ℕ → ℕ) → Block → Block
moved to (Run k) = Run (to k)
moved to (Triplet k) = Triplet (to k)
moved to (Pair k) = Pair (to k)

sort_stays : (to : ℕ → ℕ) (b : Block) → (set_of (moved to b) ≡ set_of b) × (has_pair (moved to b) ≡ has_pair b)
sort_stays to (Run k) = (refl, refl)
sort_stays to (Triplet k) = (refl, refl)
sort_stays to (Pair k) = (refl, refl)

-- the block at ranks from the suit's first kind on
abbrev lower : ℕ → Block → Block
lower base b = moved (λ k. k - base) b

abbrev kept : ℕ → Block → Bool
kept base b = leb base (start b) && ltb (start b) (base + 9)

-- the blocks of one suit
pub part : ℕ → List Block → List Block
part base [] = []
part base (b ∷ bs) = cond (kept base b) (lower base b ∷ part base bs) (part base bs)

-- a run lies within the suit or clear of it
apart : (suit : Suit) (k : ℕ) → IsRunLow k → ((first_of suit ≤ k) × (k < first_of suit + 7)) ⊎ (k + 2 < first_of suit) ⊎ (first_of suit + 9 ≤ k)
apart Characters k is = let low = is.0 in let few = is.1 in grind arith
apart other k is = let low = is.0 in let few = is.1 in grind arith

run_moved : (base r k : ℕ) → r < 9 → ((base ≤ k) × (k < base + 7)) ⊎ (k + 2 < base) ⊎ (base + 9 ≤ k) → cond (kept base (Run k)) (tiles_of r (Run (k - base))) 0 ≡ tiles_of (base + r) (Run k)
run_moved base r k h where_ = grind (arith, nat_tests)

tiles_moved : (suit : Suit) (r : ℕ) (b : Block) → r < 9 → IsOfKinds b → cond (kept (first_of suit) b) (tiles_of r (lower (first_of suit) b)) 0 ≡ tiles_of (first_of suit + r) b
tiles_moved suit r (Run k) h kind = run_moved (first_of suit) r k h (apart suit k kind)
tiles_moved suit r (Triplet k) h kind = grind (arith, nat_tests)
tiles_moved suit r (Pair k) h kind = grind (arith, nat_tests)

sum_by-cond : (f : Block → ℕ) (t : Bool) (x : Block) (xs : List Block) → sum_by f (cond t (x ∷ xs) xs) ≡ cond t (f x) 0 + sum_by f xs
sum_by-cond f true x xs = sum_by-cons f x xs
sum_by-cond f false x xs = omega arith

sum_by-part : (f : Block → ℕ) (base : ℕ) (bs : List Block) → sum_by f (part base bs) ≡ sum_by (λ b. cond (kept base b) (f (lower base b)) 0) bs
unfolding part
sum_by-part f base [] = refl
sum_by-part f base (b ∷ bs) =
    sum_by-cond f (kept base b) (lower base b) (part base bs) ∙ ap (λ n. cond (kept base b) (f (lower base b)) 0 + n) (sum_by-part f base bs) ∙ sym (sum_by-cons (λ b. cond (kept base b) (f (lower base b)) 0) b bs)

pub tiles_part : (suit : Suit) (r : ℕ) (bs : List Block) → r < 9 → All IsOfKinds bs → total (part (first_of suit) bs) r ≡ total bs (first_of suit + r)
tiles_part suit r bs h all =
    let base = first_of suit in
    tiles_is_sum r (part base bs) ∙ sum_by-part (tiles_of r) base bs
    ∙ sum_by-same_of IsOfKinds (λ b. cond (kept base b) (tiles_of r (lower base b)) 0) (tiles_of (base + r)) (λ b kind. tiles_moved suit r b h kind) bs all
    ∙ sym (tiles_is_sum (base + r) bs)

-- a count of blocks, over the four suits
module _ (f : Block → ℕ) (same : (base : ℕ) (b : Block) → f (lower base b) ≡ f b) where
  here : ℕ → Block → ℕ
  here base b = cond (kept base b) (f (lower base b)) 0

  here_is : (base : ℕ) (b : Block) → here base b ≡ cond (kept base b) (f b) 0
  unfolding here
  here_is base b = ap (λ n. cond (kept base b) n 0) (same base b)

  one_suit : (k n : ℕ) → k < 34 → over_suits (λ suit. cond (leb (first_of suit) k && ltb k (first_of suit + 9)) n 0) ≡ n
  one_suit k n h = grind (arith, nat_tests)

  start_below : (b : Block) → IsOfKinds b → start b < 34
  start_below (Run k) kind = omega (arith, kind.0)
  start_below (Triplet k) kind = kind
  start_below (Pair k) kind = kind

  block_split : (b : Block) → IsOfKinds b → over_suits (λ suit. here (first_of suit) b) ≡ f b
  block_split b kind =
      same_over (λ suit. here (first_of suit) b) (λ suit. cond (kept (first_of suit) b) (f b) 0) (λ suit. here_is (first_of suit) b) ∙ one_suit (start b) (f b) (start_below b kind)

  totals : (bs : List Block) → All IsOfKinds bs → over_suits (λ suit. sum_by (here (first_of suit)) bs) ≡ sum_by f bs
  totals [] all = refl
  totals (b ∷ bs) all =
      omega (
        arith,
        same_over (λ suit. sum_by (here (first_of suit)) (b ∷ bs)) (λ suit. here (first_of suit) b + sum_by (here (first_of suit)) bs) (λ suit. sum_by-cons (here (first_of suit)) b bs),
        sum_by-cons f b bs,
        block_split b (All-head IsOfKinds b bs all),
        totals bs (All-tail IsOfKinds b bs all),
      )

  counts_by_suit : (bs : List Block) → All IsOfKinds bs → over_suits (λ suit. sum_by f (part (first_of suit) bs)) ≡ sum_by f bs
  unfolding here
  counts_by_suit bs all = same_over (λ suit. sum_by f (part (first_of suit) bs)) (λ suit. sum_by (here (first_of suit)) bs) (λ suit. sum_by-part f (first_of suit) bs) ∙ totals bs all

pub sets_by_suit : (bs : List Block) → All IsOfKinds bs → over_suits (λ suit. count_by is_set (part (first_of suit) bs)) ≡ count_by is_set bs
sets_by_suit = counts_by_suit set_of (λ base b. (sort_stays (λ k. k - base) b).0)

pub pairs_by_suit : (bs : List Block) → All IsOfKinds bs → over_suits (λ suit. count_by is_pair (part (first_of suit) bs)) ≡ count_by is_pair bs
pairs_by_suit = counts_by_suit has_pair (λ base b. (sort_stays (λ k. k - base) b).1)

-- the part lies in its suit
kept_bounds : (base k : ℕ) → leb base k && ltb k (base + 9) ≡ true → (base ≤ k) × (k < base + 9)
kept_bounds base k e = grind (arith, nat_tests)

block_in_suit : (suit : Suit) (b : Block) → IsOfKinds b → kept (first_of suit) b ≡ true → IsInSuit (has_runs suit) (lower (first_of suit) b)
block_in_suit suit (Run k) kind e =
    let in_it = kept_bounds (first_of suit) k e in
    let low : k - first_of suit < 7 = ⊎_elim (λ inside. omega (arith, inside, in_it)) (λ out. absurd (⊎_elim (λ o. omega (arith, o, in_it)) (λ o. omega (arith, o, in_it)) out)) (apart suit k kind) in
    (runs_begin suit k in_it.0 in_it.1 kind, low)
block_in_suit suit (Triplet k) kind e = let in_it = kept_bounds (first_of suit) k e in omega (arith, in_it)
block_in_suit suit (Pair k) kind e = let in_it = kept_bounds (first_of suit) k e in omega (arith, in_it)

pub part_in_suit : (suit : Suit) (bs : List Block) → All IsOfKinds bs → All (IsInSuit (has_runs suit)) (part (first_of suit) bs)
unfolding part
part_in_suit suit [] all = All-nil (IsInSuit (has_runs suit))
part_in_suit suit (b ∷ bs) all =
    by_test (kept (first_of suit) b) (λ e. block_in_suit suit b (All-head IsOfKinds b bs all) e) (part_in_suit suit bs (All-tail IsOfKinds b bs all))
  where
    by_test : (t : Bool) → (t ≡ true → IsInSuit (has_runs suit) (lower (first_of suit) b)) → All (IsInSuit (has_runs suit)) (part (first_of suit) bs) → All (IsInSuit (has_runs suit)) (cond t (lower (first_of suit) b ∷ part (first_of suit) bs) (part (first_of suit) bs))
    by_test true first rest = All-cons (IsInSuit (has_runs suit)) (lower (first_of suit) b) (part (first_of suit) bs) (first refl) rest
    by_test false first rest = rest

-- ---- from the suits to all kinds

abbrev raise : ℕ → Block → Block
raise base b = moved (λ q. base + q) b

pub raised : ℕ → List Block → List Block
raised base [] = []
raised base (b ∷ bs) = raise base b ∷ raised base bs

sum_by-raised : (f : Block → ℕ) (base : ℕ) (bs : List Block) → sum_by f (raised base bs) ≡ sum_by (λ b. f (raise base b)) bs
unfolding raised
sum_by-raised f base [] = refl
sum_by-raised f base (b ∷ bs) = sum_by-cons f (raise base b) (raised base bs) ∙ ap (λ n. f (raise base b) + n) (sum_by-raised f base bs) ∙ sym (sum_by-cons (λ b. f (raise base b)) b bs)

block_within : (runs : Bool) (base r : ℕ) (b : Block) → r < 9 → IsInSuit runs b → tiles_of (base + r) (raise base b) ≡ tiles_of r b
block_within runs base r (Run q) h inside = grind (arith, nat_tests)
block_within runs base r (Triplet q) h inside = grind (arith, nat_tests)
block_within runs base r (Pair q) h inside = grind (arith, nat_tests)

block_outside : (runs : Bool) (base k : ℕ) (b : Block) → (k < base) ⊎ (base + 9 ≤ k) → IsInSuit runs b → tiles_of k (raise base b) ≡ 0
block_outside runs base k (Run q) h inside = let low : q < 7 = inside.1 in grind (arith, nat_tests)
block_outside runs base k (Triplet q) h inside = grind (arith, nat_tests)
block_outside runs base k (Pair q) h inside = grind (arith, nat_tests)

pub tiles_within : (runs : Bool) (base r : ℕ) (bs : List Block) → r < 9 → All (IsInSuit runs) bs → total (raised base bs) (base + r) ≡ total bs r
tiles_within runs base r bs h all =
    tiles_is_sum (base + r) (raised base bs) ∙ sum_by-raised (tiles_of (base + r)) base bs
    ∙ sum_by-same_of (IsInSuit runs) (λ b. tiles_of (base + r) (raise base b)) (tiles_of r) (λ b inside. block_within runs base r b h inside) bs all
    ∙ sym (tiles_is_sum r bs)

pub tiles_outside : (runs : Bool) (base k : ℕ) (bs : List Block) → (k < base) ⊎ (base + 9 ≤ k) → All (IsInSuit runs) bs → total (raised base bs) k ≡ 0
tiles_outside runs base k bs h all =
    tiles_is_sum k (raised base bs) ∙ sum_by-raised (tiles_of k) base bs
    ∙ sum_by-same_of (IsInSuit runs) (λ b. tiles_of k (raise base b)) no_block (λ b inside. block_outside runs base k b h inside) bs all ∙ sum_by-none bs

pub sets_raised : (base : ℕ) (bs : List Block) → count_by is_set (raised base bs) ≡ count_by is_set bs
sets_raised base bs = sum_by-raised set_of base bs ∙ sum_by-same (λ b. set_of (raise base b)) set_of (λ b. (sort_stays (λ q. base + q) b).0) bs

pub pairs_raised : (base : ℕ) (bs : List Block) → count_by is_pair (raised base bs) ≡ count_by is_pair bs
pairs_raised base bs = sum_by-raised has_pair base bs ∙ sum_by-same (λ b. has_pair (raise base b)) has_pair (λ b. (sort_stays (λ q. base + q) b).1) bs

-- where the ranks that the suit hasn't hold nothing
run_kind : (suit : Suit) (q : ℕ) → IsTrue (has_runs suit) → q < 7 → IsRunLow (first_of suit + q)
run_kind Honours q runs low = absurd (false≢true runs)
run_kind other q runs low = (omega arith, omega arith)

kind_of_rank : (suit : Suit) (q n : ℕ) → q < 9 → 0 < n → (kinds_of suit ≤ q → n ≡ 0) → first_of suit + q < 34
kind_of_rank suit q n inside some none = elim (cases_lt q (kinds_of suit)) [
  | inl low ↦ omega (arith, kinds_end suit)
  | inr past ↦ absurd (omega (arith, some, none past))
]

block_raised : (suit : Suit) (b : Block) → ((r : ℕ) → kinds_of suit ≤ r → r < 9 → tiles_of r b ≡ 0) → IsInSuit (has_runs suit) b → IsOfKinds (raise (first_of suit) b)
block_raised suit (Run q) none inside = run_kind suit q inside.0 inside.1
block_raised suit (Triplet q) none inside = kind_of_rank suit q (tiles_of q (Triplet q)) inside (grind (arith, nat_tests)) (λ past. none q past inside)
block_raised suit (Pair q) none inside = kind_of_rank suit q (tiles_of q (Pair q)) inside (grind (arith, nat_tests)) (λ past. none q past inside)

pub raised_kinds : (suit : Suit) (bs : List Block) → ((r : ℕ) → kinds_of suit ≤ r → r < 9 → total bs r ≡ 0) → All (IsInSuit (has_runs suit)) bs → All IsOfKinds (raised (first_of suit) bs)
unfolding raised
raised_kinds suit [] none all = All-nil IsOfKinds
raised_kinds suit (b ∷ bs) none all =
    All-cons IsOfKinds (raise (first_of suit) b) (raised (first_of suit) bs)
    (block_raised suit b (λ r past inside. omega (arith, none r past inside)) (All-head (IsInSuit (has_runs suit)) b bs all))
    (raised_kinds suit bs (λ r past inside. omega (arith, none r past inside)) (All-tail (IsInSuit (has_runs suit)) b bs all))
