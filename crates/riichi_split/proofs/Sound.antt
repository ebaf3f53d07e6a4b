-- What `cut_from` gives is a list of ordered sets which uses up the counts, and each such list is given, for one number of choices.
use Rattle.std.proofs.Common.{leb, ◌&&◌, ◌^◌, ◌≡◌, ℕ, zero, suc, ◌+◌, ◌-◌, ◌*◌, ◌<◌, ◌≤◌, Bool, true, false, cond, inl, inr, Option, Some, None, List, [], ◌∷◌, ◌++◌, length, get_or, replicate, refl, sym, ap, ◌∙◌, subst, arith, ltb, eqb, length-append, append_assoc, option_and_then}
use Rattle.std.specs.List.{AllByRecursion}
use Rattle.std.proofs.lemmas.Bool.{cases_lt, eqb-true}
use Rattle.std.proofs.lemmas.Bool.Decides.{nat_tests}
use Rattle.std.proofs.lemmas.List.{length-replicate}
use Rattle.std.proofs.Math.Pow.{pow_mono}
use Rattle.std.proofs.Math.Nat.{two-pow-succ}
use Rattle.riichi_tiles.specs.declared.block.Block.{Block}
use Rattle.riichi_tiles.specs.declared.block.Block.TheVariants.{Run, Triplet, Pair}
use Rattle.riichi_split.specs.declared.cutting.Choice.{Choice}
use Rattle.riichi_tiles.specs.Blocks.{copies, total, IsSet, IsOrderedFrom}
use Rattle.riichi_split.specs.Cuts.{choice_of, may_have_runs, begun, sets_joined, cut_from, doubts}
use Rattle.riichi_split.proofs.Cuts.{IsChoice, IsChoice-from, cut_from-cons, cut_from-nil, after}

-- the tiles at j kinds above k that belong to runs begun one and two kinds below k
abbrev pub carried : ℕ → ℕ → ℕ → ℕ
carried one two zero = one + two
carried one two (suc zero) = one
carried one two (suc (suc j)) = 0

-- the sets use up the counts ns of the kinds from k on, beside what is carried
pub record IsCut (k : ℕ) (ns : List ℕ) (one two left : ℕ) (bs : List Block) : Type 0 where
  pub many : length bs ≡ left
  pub sets : AllByRecursion IsSet bs
  pub order : IsOrderedFrom (2 * k) bs
  pub adds : (j : ℕ) → get_or ns j 0 ≡ carried one two j + total bs (k + j)

pub total-append : (xs ys : List Block) (k : ℕ) → total (xs ++ ys) k ≡ total xs k + total ys k
total-append [] ys k = omega arith
total-append (x ∷ xs) ys k = omega (arith, total-append xs ys k)

total-replicate : (n kind : ℕ) (b : Block) → total (replicate n b) kind ≡ n * copies b kind
total-replicate zero kind b = omega arith
total-replicate (suc n) kind b = grind (arith, total-replicate n kind b)

-- blocks listed from the next kind on have no tile of kind k
pub none_below : (bs : List Block) (p k : ℕ) → AllByRecursion IsSet bs → IsOrderedFrom p bs → 2 * k + 2 ≤ p → total bs k ≡ 0
none_below [] p k s o h = refl
none_below (Run a ∷ bs) p k s o h = let i = none_below bs (2 * a + 1) k s.1 o.1 (omega arith) in grind (arith, nat_tests)
none_below (Triplet a ∷ bs) p k s o h = let i = none_below bs (2 * a) k s.1 o.1 (omega arith) in grind (arith, nat_tests)
none_below (Pair a ∷ bs) p k s o h = absurd s.0

copies-triplet : (k j : ℕ) → copies (Triplet k) (k + j) ≡ cond (eqb j 0) 3 0
copies-triplet k j = grind (arith, nat_tests)

copies-run : (k j : ℕ) → copies (Run k) (k + j) ≡ cond (ltb j 3) 1 0
copies-run k j = grind (arith, nat_tests)

pub begun-total : (k j : ℕ) (c : Choice) (bs : List Block) → total (begun k c ++ bs) (k + j) ≡ c.triplets * cond (eqb j 0) 3 0 + c.runs * cond (ltb j 3) 1 0 + total bs (k + j)
begun-total k j c bs =
    let e = total-append (begun k c) bs (k + j) in
    let f = total-append (replicate c.triplets (Triplet k)) (replicate c.runs (Run k)) (k + j) in
    let t = total-replicate c.triplets (k + j) (Triplet k) ∙ ap (λ n. c.triplets * n) (copies-triplet k j) in
    let r = total-replicate c.runs (k + j) (Run k) ∙ ap (λ n. c.runs * n) (copies-run k j) in
    omega arith

pub same-total : (bs : List Block) (i j : ℕ) → i ≡ j → total bs i ≡ total bs j
same-total bs i j e = ap (total bs) e

-- one kind more
adds-more : (k n : ℕ) (ns : List ℕ) (one two left choices : ℕ) (c : Choice) (bs : List Block) → IsChoice k n (may_have_runs ns) (one + two) left choices c → total bs k ≡ 0 → ((j : ℕ) → get_or ns j 0 ≡ carried c.runs one j + total bs (k + 1 + j)) → (j : ℕ) → get_or (n ∷ ns) j 0 ≡ carried one two j + total (begun k c ++ bs) (k + j)
adds-more k n ns one two left choices c bs ok low h zero =
    let e = begun-total k 0 c bs in let z = same-total bs (k + 0) k (omega arith) in let u = ok.uses in omega arith
adds-more k n ns one two left choices c bs ok low h (suc zero) =
    let e = begun-total k 1 c bs in let i = h 0 in let z = same-total bs (k + 1) (k + 1 + 0) (omega arith) in omega arith
adds-more k n ns one two left choices c bs ok low h (suc (suc zero)) =
    let e = begun-total k 2 c bs in let i = h 1 in let z = same-total bs (k + 2) (k + 1 + 1) (omega arith) in omega arith
adds-more k n ns one two left choices c bs ok low h (suc (suc (suc j))) =
    let e = begun-total k (suc (suc (suc j))) c bs in let i = h (suc (suc j)) in let z = same-total bs (k + suc (suc (suc j))) (k + 1 + suc (suc j)) (omega arith) in grind (arith, nat_tests)

pub order-weaker : (bs : List Block) (p q : ℕ) → q ≤ p → IsOrderedFrom p bs → IsOrderedFrom q bs
order-weaker [] p q h o = tt
order-weaker (b ∷ bs) p q h o = (omega (arith, o.0), o.1)

runs-order : (r k : ℕ) (bs : List Block) → IsOrderedFrom (2 * k + 2) bs → IsOrderedFrom (2 * k + 1) (replicate r (Run k) ++ bs)
runs-order zero k bs o = order-weaker bs (2 * k + 2) (2 * k + 1) (omega arith) o
runs-order (suc r) k bs o = (omega arith, runs-order r k bs o)

begun-order : (t r k : ℕ) (bs : List Block) → IsOrderedFrom (2 * k + 2) bs → IsOrderedFrom (2 * k) ((replicate t (Triplet k) ++ replicate r (Run k)) ++ bs)
begun-order zero r k bs o = order-weaker (replicate r (Run k) ++ bs) (2 * k + 1) (2 * k) (omega arith) (runs-order r k bs o)
begun-order (suc t) r k bs o = (omega arith, begun-order t r k bs o)

pub sets-replicate : (n : ℕ) (b : Block) (bs : List Block) → (0 < n → IsSet b) → AllByRecursion IsSet bs → AllByRecursion IsSet (replicate n b ++ bs)
sets-replicate zero b bs m s = s
sets-replicate (suc n) b bs m s = (m (omega arith), sets-replicate n b bs (λ h. m (omega arith)) s)

-- ---- soundness

sets_joined-inv : (front bs : List Block) (o : Option (List Block)) → sets_joined front o ≡ Some bs → (rest : List Block) × (o ≡ Some rest) × (bs ≡ front ++ rest)
sets_joined-inv front bs None e = absurd (cc)
sets_joined-inv front bs (Some rest) e = (rest, refl, cc)

-- the choice at the first kind, and the sets of the kinds above it
record IsOpened (n : ℕ) (ns : List ℕ) (k one two left choices : ℕ) (bs : List Block) : Type 0 where
  choice : Choice
  rest : List Block
  ok : IsChoice k n (may_have_runs ns) (one + two) left choices choice
  cut : cut_from (k + 1) ns choice.runs one (left - (choice.triplets + choice.runs)) choice.choices ≡ Some rest
  parts : bs ≡ begun k choice ++ rest

chosen : (n : ℕ) (ns : List ℕ) (k one two left choices : ℕ) (bs : List Block) (o : Option Choice) → choice_of k n (may_have_runs ns) (one + two) left choices ≡ o → option_and_then (after k ns one left) o ≡ Some bs → IsOpened n ns k one two left choices bs
chosen n ns k one two left choices bs None e f = absurd (cc)
chosen n ns k one two left choices bs (Some c) e f =
    let j = sets_joined-inv (begun k c) bs (cut_from (k + 1) ns c.runs one (left - (c.triplets + c.runs)) c.choices) f in
    record { choice = c; rest = j.0; ok = IsChoice-from k n (may_have_runs ns) (one + two) left choices c e; cut = j.1; parts = j.2 }

opened : (n : ℕ) (ns : List ℕ) (k one two left choices : ℕ) (bs : List Block) → cut_from k (n ∷ ns) one two left choices ≡ Some bs → IsOpened n ns k one two left choices bs
opened n ns k one two left choices bs e = chosen n ns k one two left choices bs _ refl (sym (cut_from-cons k n ns one two left choices _ refl) ∙ e)

-- past the last kind nothing is left
ended : (b : Bool) (bs : List Block) → cond b (Some []) None ≡ Some bs → (b ≡ true) × (bs ≡ [])
ended true bs e = (refl, cc)
ended false bs e = absurd (cc)

at-end : (k one two left choices : ℕ) (bs : List Block) → cut_from k [] one two left choices ≡ Some bs → (one + two + left + choices ≡ 0) × (bs ≡ [])
at-end k one two left choices bs e =
    let z = ended (eqb (one + two + left + choices) 0) bs (sym (cut_from-nil k one two left choices) ∙ e) in
    (eqb-true (one + two + left + choices) 0 z.0, z.1)

nothing-carried : (one two j : ℕ) → one + two ≡ 0 → get_or {A = ℕ} [] j 0 ≡ carried one two j + 0
nothing-carried one two zero h = omega arith
nothing-carried one two (suc zero) h = omega arith
nothing-carried one two (suc (suc j)) h = refl

cut_more : (k n : ℕ) (ns : List ℕ) (one two left choices : ℕ) (c : Choice) (rest : List Block) → k < 34 → IsChoice k n (may_have_runs ns) (one + two) left choices c → IsCut (k + 1) ns c.runs one (left - (c.triplets + c.runs)) rest → IsCut k (n ∷ ns) one two left (begun k c ++ rest)
cut_more k n ns one two left choices c rest l ok h =
    let o : IsOrderedFrom (2 * k + 2) rest = order-weaker rest (2 * (k + 1)) (2 * k + 2) (omega arith) h.order in
    record {
      many = simp (length-append, length-replicate) (omega (arith, ok.room, h.many));
      sets = rw append_assoc (sets-replicate c.triplets (Triplet k) (replicate c.runs (Run k) ++ rest) (λ some. l) (sets-replicate c.runs (Run k) rest ok.may h.sets));
      order = begun-order c.triplets c.runs k rest o;
      adds = adds-more k n ns one two left choices c rest ok (none_below rest (2 * k + 2) k h.sets o (omega arith)) h.adds;
    }

pub IsCut-from : (ns : List ℕ) (k one two left choices : ℕ) (bs : List Block) → k + length ns ≡ 34 → cut_from k ns one two left choices ≡ Some bs → IsCut k ns one two left bs
IsCut-from [] k one two left choices bs l e =
    let z = at-end k one two left choices bs e in
    subst (IsCut k [] one two left) (sym z.1) (record { many = omega (arith, z.0); sets = tt; order = tt; adds = λ j. nothing-carried one two j (omega (arith, z.0)) })
IsCut-from (n ∷ ns) k one two left choices bs l e =
    let o = opened n ns k one two left choices bs e in
    let c = o.choice in
    subst (IsCut k (n ∷ ns) one two left) (sym o.parts) (cut_more k n ns one two left choices c o.rest (omega arith) o.ok (IsCut-from ns (k + 1) c.runs one (left - (c.triplets + c.runs)) c.choices o.rest (omega arith) o.cut))

-- ---- one number of choices

replicate-cancel : (r s : ℕ) (k : ℕ) (xs ys : List Block) → r ≡ s → replicate r (Run k) ++ xs ≡ replicate s (Run k) ++ ys → xs ≡ ys
replicate-cancel zero zero k xs ys h e = e
replicate-cancel zero (suc s) k xs ys h e = absurd (omega arith)
replicate-cancel (suc r) zero k xs ys h e = absurd (omega arith)
replicate-cancel (suc r) (suc s) k xs ys h e = replicate-cancel r s k xs ys (omega arith) (cc)

-- what begins at a kind is seen from the list
begun-same : (t r u s k : ℕ) (xs ys : List Block) → t ≤ 1 → u ≤ 1 → 3 * t + r ≡ 3 * u + s → (replicate t (Triplet k) ++ replicate r (Run k)) ++ xs ≡ (replicate u (Triplet k) ++ replicate s (Run k)) ++ ys → (t ≡ u) × (r ≡ s) × (xs ≡ ys)
begun-same zero r zero s k xs ys p q h e = (refl, omega arith, replicate-cancel r s k xs ys (omega arith) e)
begun-same zero (suc r) (suc u) s k xs ys p q h e = absurd (cc)
begun-same zero zero (suc u) s k xs ys p q h e = absurd (omega arith)
begun-same (suc t) r zero (suc s) k xs ys p q h e = absurd (cc)
begun-same (suc t) r zero zero k xs ys p q h e = absurd (omega arith)
begun-same (suc zero) r (suc zero) s k xs ys p q h e = (refl, omega arith, replicate-cancel r s k xs ys (omega arith) (cc))
begun-same (suc (suc t)) r (suc u) s k xs ys p q h e = absurd (omega arith)
begun-same (suc zero) r (suc (suc u)) s k xs ys p q h e = absurd (omega arith)

same-number : (k n below left choices others : ℕ) (in_doubt : Bool) (c d : Choice) → IsChoice k n in_doubt below left choices c → IsChoice k n in_doubt below left others d → c.triplets ≡ d.triplets → c.choices ≡ d.choices → choices ≡ others
same-number k n below left choices others true c d x y s q = elim (cases_lt n (below + 3)) [
  | inl h ↦ omega (arith, x.idle h, y.idle h, q)
  | inr h ↦ omega (arith, x.bit h refl, y.bit h refl, q, s)
]
same-number k n below left choices others false c d x y s q = elim (cases_lt n (below + 3)) [
  | inl h ↦ omega (arith, x.idle h, y.idle h, q)
  | inr h ↦ omega (arith, (x.certain h refl).1, (y.certain h refl).1, q)
]

pub same_choices : (ns : List ℕ) (k one two left choices others : ℕ) (bs : List Block) → cut_from k ns one two left choices ≡ Some bs → cut_from k ns one two left others ≡ Some bs → choices ≡ others
same_choices [] k one two left choices others bs e f = omega (arith, (at-end k one two left choices bs e).0, (at-end k one two left others bs f).0)
same_choices (n ∷ ns) k one two left choices others bs e f =
    let x = opened n ns k one two left choices bs e in
    let y = opened n ns k one two left others bs f in
    let c = x.choice in
    let d = y.choice in
    let s = begun-same c.triplets c.runs d.triplets d.runs k x.rest y.rest x.ok.single y.ok.single (omega (arith, x.ok.uses, y.ok.uses)) (sym x.parts ∙ y.parts) in
    let g : cut_from (k + 1) ns c.runs one (left - (c.triplets + c.runs)) d.choices ≡ Some x.rest =
    ap (λ r. cut_from (k + 1) ns r one (left - (c.triplets + c.runs)) d.choices) s.1 ∙ ap (λ m. cut_from (k + 1) ns d.runs one m d.choices) (omega (arith, s.0, s.1)) ∙ y.cut ∙ ap Some (sym s.2) in
    same-number k n (one + two) left choices others (may_have_runs ns) c d x.ok y.ok s.0 (same_choices ns (k + 1) c.runs one (left - (c.triplets + c.runs)) c.choices d.choices x.rest x.cut g)

-- ---- how many choices

few-step : (k n m below left choices : ℕ) (in_doubt : Bool) (c : Choice) → IsChoice k n in_doubt below left choices c → c.choices < 2 ^ m → choices < 2 ^ (m + cond (leb 3 n && in_doubt) 1 0)
few-step k n m below left choices false c ok h =
    let up : 2 ^ m ≤ 2 ^ (m + cond (leb 3 n && false) 1 0) = pow_mono (omega arith) in
    elim (cases_lt n (below + 3)) [ inl l ↦ omega (arith, ok.idle l) | inr g ↦ omega (arith, (ok.certain g refl).1) ]
few-step k n m below left choices true c ok h =
    elim (cases_lt n (below + 3)) [
      | inl l ↦
          let up : 2 ^ m ≤ 2 ^ (m + cond (leb 3 n && true) 1 0) = pow_mono (omega arith) in
          omega (arith, ok.idle l)
      | inr g ↦
          let e : m + cond (leb 3 n && true) 1 0 ≡ suc m = grind (arith, nat_tests) in
          let up : 2 ^ suc m ≤ 2 ^ (m + cond (leb 3 n && true) 1 0) = pow_mono (omega arith) in
          omega (arith, ok.bit g refl, ok.single, two-pow-succ m)
    ]

pub doubts-cons : (n : ℕ) (ns : List ℕ) → doubts (n ∷ ns) ≡ doubts ns + cond (leb 3 n && may_have_runs ns) 1 0
unfolding doubts
doubts-cons n ns = refl

pub doubts-nil : doubts [] ≡ 0
unfolding doubts
doubts-nil = refl

-- no more choices are made than there are kinds in doubt
pub few_choices : (ns : List ℕ) (k one two left choices : ℕ) (bs : List Block) → cut_from k ns one two left choices ≡ Some bs → choices < 2 ^ doubts ns
few_choices [] k one two left choices bs e = rw doubts-nil (omega (arith, (at-end k one two left choices bs e).0))
few_choices (n ∷ ns) k one two left choices bs e =
    let o = opened n ns k one two left choices bs e in
    let c = o.choice in
    rw (doubts-cons n ns) (few-step k n (doubts ns) (one + two) left choices (may_have_runs ns) c o.ok (few_choices ns (k + 1) c.runs one (left - (c.triplets + c.runs)) c.choices o.rest o.cut))
