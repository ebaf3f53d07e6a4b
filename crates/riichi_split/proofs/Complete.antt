-- Each list of ordered sets that uses up the counts is given by `cut_from`, for some number of choices.
use Rattle.std.proofs.Common.{◌≡◌, Bool, true, false, ℕ, zero, suc, ◌+◌, ◌-◌, ◌*◌, ◌^◌, ◌<◌, ◌≤◌, cond, inl, inr, Option, Some, None, List, [], ◌∷◌, ◌++◌, length, get_or, replicate, refl, sym, ap, ◌∙◌, subst, arith, ltb, eqb, eq-eqb, length-append}
use Rattle.std.specs.List.{AllByRecursion}
use Rattle.std.proofs.lemmas.Bool.{cases_lt}
use Rattle.std.proofs.lemmas.Bool.Decides.{nat_tests}
use Rattle.std.proofs.lemmas.List.{length-replicate}
use Rattle.std.proofs.lemmas.Nat.{pow_pos}
use Rattle.std.proofs.Math.Pow.{pow_mono}
use Rattle.std.proofs.Math.Nat.{two-pow-succ}
use Rattle.riichi_tiles.specs.declared.block.Block.{Block}
use Rattle.riichi_tiles.specs.declared.block.Block.TheVariants.{Run, Triplet, Pair}
use Rattle.riichi_split.specs.declared.cutting.Choice.{Choice}
use Rattle.riichi_tiles.specs.Kinds.{IsRunLow}
use Rattle.riichi_tiles.specs.Blocks.{copies, total, IsSet, IsOrderedFrom}
use Rattle.riichi_split.specs.Cuts.{choice_of, may_have_runs, begun, sets_joined, cut_from}
use Rattle.riichi_split.proofs.Cuts.{IsChoice, choice_of-is, cut_from-cons, cut_from-nil}
use Rattle.riichi_split.proofs.Sound.{carried, IsCut, begun-total, none_below, same-total, order-weaker}

-- the blocks of kind k in front of others
pub record IsPeeled (k t r : ℕ) (bs rest : List Block) : Type 0 where
  pub parts : bs ≡ (replicate t (Triplet k) ++ replicate r (Run k)) ++ rest
  pub order : IsOrderedFrom (2 * k + 2) rest
  pub sets : AllByRecursion IsSet rest
  pub may : 0 < r → IsRunLow k

peel-runs : (bs : List Block) (k : ℕ) → AllByRecursion IsSet bs → IsOrderedFrom (2 * k + 1) bs → (r : ℕ) × (rest : List Block) × IsPeeled k 0 r bs rest
peel-runs [] k s o = (0, [], record { parts = refl; order = tt; sets = tt; may = λ h. absurd (omega arith) })
peel-runs (Triplet a ∷ bs) k s o = (0, Triplet a ∷ bs, record { parts = refl; order = (omega (arith, o.0), o.1); sets = s; may = λ h. absurd (omega arith) })
peel-runs (Pair a ∷ bs) k s o = absurd s.0
peel-runs (Run a ∷ bs) k s o =
    elim (cases_lt k a) [
      | inl h ↦ (0, Run a ∷ bs, record { parts = refl; order = (omega arith, o.1); sets = s; may = λ z. absurd (omega arith) })
      | inr h ↦
          let e : a ≡ k = omega (arith, o.0) in
          let P : ℕ → Type 0 = λ x. IsOrderedFrom (2 * x + 1) bs in
          let Q : ℕ → Type 0 = λ x. IsRunLow x in
          let i = peel-runs bs k s.1 (subst P e o.1) in
          (suc i.0, i.1, record { parts = cc (e, i.2.parts); order = i.2.order; sets = i.2.sets; may = λ _. subst Q e s.0 })
    ]

pub peel : (bs : List Block) (k : ℕ) → AllByRecursion IsSet bs → IsOrderedFrom (2 * k) bs → (t : ℕ) × (r : ℕ) × (rest : List Block) × IsPeeled k t r bs rest
peel [] k s o = (0, 0, [], record { parts = refl; order = tt; sets = tt; may = λ h. absurd (omega arith) })
peel (Run a ∷ bs) k s o = let i = peel-runs (Run a ∷ bs) k s (omega (arith, o.0), o.1) in (0, i.0, i.1, i.2)
peel (Pair a ∷ bs) k s o = absurd s.0
peel (Triplet a ∷ bs) k s o =
    elim (cases_lt k a) [
      | inl h ↦ let i = peel-runs (Triplet a ∷ bs) k s (omega arith, o.1) in (0, i.0, i.1, i.2)
      | inr h ↦
          let e : a ≡ k = omega (arith, o.0) in
          let P : ℕ → Type 0 = λ x. IsOrderedFrom (2 * x) bs in
          let i = peel bs k s.1 (subst P e o.1) in
          (suc i.0, i.1, i.2, record { parts = cc (e, i.3.parts); order = i.3.order; sets = i.3.sets; may = i.3.may })
    ]

-- ---- completeness

copies-own : (a k j : ℕ) → a ≡ k + j → 0 < copies (Run a) (k + j)
copies-own a k j e = grind (arith, nat_tests)

copies-own-triplet : (a k j : ℕ) → a ≡ k + j → 0 < copies (Triplet a) (k + j)
copies-own-triplet a k j e = grind (arith, nat_tests)

-- no set stands past the counts
pub no_more : (bs : List Block) (k one two left : ℕ) → IsCut k [] one two left bs → bs ≡ []
no_more [] k one two left h = refl
no_more (Run a ∷ bs) k one two left h =
    let e : a ≡ k + (a - k) = omega (arith, h.order.0) in
    let f : 0 ≡ carried one two (a - k) + (copies (Run a) (k + (a - k)) + total bs (k + (a - k))) = h.adds (a - k) in
    absurd (omega (arith, copies-own a k (a - k) e, f))
no_more (Triplet a ∷ bs) k one two left h =
    let e : a ≡ k + (a - k) = omega (arith, h.order.0) in
    let f : 0 ≡ carried one two (a - k) + (copies (Triplet a) (k + (a - k)) + total bs (k + (a - k))) = h.adds (a - k) in
    absurd (omega (arith, copies-own-triplet a k (a - k) e, f))
no_more (Pair a ∷ bs) k one two left h = absurd h.sets.0

-- a number of choices for which the split is bs
abbrev pub IsFound : ℕ → List ℕ → ℕ → ℕ → ℕ → List Block → Type 0
IsFound k ns one two left bs = (choices : ℕ) × (choices < 2 ^ left) × (cut_from k ns one two left choices ≡ Some bs)

-- the choice at a kind, from the blocks that were peeled
abbrev chosen-below : Bool → ℕ → ℕ → ℕ → ℕ
chosen-below in_doubt t r x = cond (ltb (3 * t + r) 3) x (cond in_doubt (t + 2 * x) x)

-- three free tiles with no three runs are a triplet
sure-triplet : (t r : ℕ) (in_doubt : Bool) → t ≤ 1 → 3 ≤ 3 * t + r → (3 ≤ r → in_doubt ≡ true) → in_doubt ≡ false → t ≡ 1
sure-triplet zero r in_doubt s h three d = absurd (let e = three (omega arith) in cc)
sure-triplet (suc zero) r in_doubt s h three d = refl
sure-triplet (suc (suc t)) r in_doubt s h three d = absurd (omega arith)

peeled-choice : (k n t r below left x : ℕ) (in_doubt : Bool) → n ≡ below + 3 * t + r → n ≤ 4 → t + r ≤ left → (0 < r → IsRunLow k) → (3 ≤ r → in_doubt ≡ true) → IsChoice k n in_doubt below left (chosen-below in_doubt t r x) (record { triplets = t; runs = r; choices = x })
peeled-choice k n t r below left x in_doubt e f room may three = record {
  uses = e;
  single = omega arith;
  room = room;
  may = may;
  idle = λ h. grind (arith, nat_tests);
  certain = λ h d. (sure-triplet t r in_doubt (omega arith) (omega arith) three d, grind (arith, nat_tests));
  bit = λ h d. grind (arith, nat_tests);
}

peeled-small : (t r left x : ℕ) (in_doubt : Bool) → t ≤ 1 → t + r ≤ left → x < 2 ^ (left - (t + r)) → chosen-below in_doubt t r x < 2 ^ left
peeled-small t r left x false s room h =
    let up : 2 ^ (left - (t + r)) ≤ 2 ^ left = pow_mono (omega arith) in
    let e : chosen-below false t r x ≡ x = grind (arith, nat_tests) in
    omega arith
peeled-small t r left x true s room h =
    elim (cases_lt (3 * t + r) 3) [
      | inr some ↦
          let up : 2 ^ suc (left - (t + r)) ≤ 2 ^ left = pow_mono (omega arith) in
          let two : 2 ^ suc (left - (t + r)) ≡ 2 ^ (left - (t + r)) + 2 ^ (left - (t + r)) = two-pow-succ (left - (t + r)) in
          let e : chosen-below true t r x ≡ t + 2 * x = grind (arith, nat_tests) in
          omega arith
      | inl none ↦
          let up : 2 ^ (left - (t + r)) ≤ 2 ^ left = pow_mono (omega arith) in
          let e : chosen-below true t r x ≡ x = grind (arith, nat_tests) in
          omega arith
    ]

pub peeled-total : (k t r : ℕ) (bs rest : List Block) (j : ℕ) → IsPeeled k t r bs rest → total bs (k + j) ≡ t * cond (eqb j 0) 3 0 + r * cond (ltb j 3) 1 0 + total rest (k + j)
peeled-total k t r bs rest j p =
    let c : Choice = record { triplets = t; runs = r; choices = 0 } in
    ap (λ x. total x (k + j)) p.parts ∙ begun-total k j c rest

rest-adds : (k n : ℕ) (ns : List ℕ) (one two left t r : ℕ) (bs rest : List Block) → IsCut k (n ∷ ns) one two left bs → IsPeeled k t r bs rest → (j : ℕ) → get_or ns j 0 ≡ carried r one j + total rest (k + 1 + j)
rest-adds k n ns one two left t r bs rest h p zero =
    let e = peeled-total k t r bs rest 1 p in let i = h.adds 1 in let z = same-total rest (k + 1) (k + 1 + 0) (omega arith) in omega arith
rest-adds k n ns one two left t r bs rest h p (suc zero) =
    let e = peeled-total k t r bs rest 2 p in let i = h.adds 2 in let z = same-total rest (k + 2) (k + 1 + 1) (omega arith) in omega arith
rest-adds k n ns one two left t r bs rest h p (suc (suc j)) =
    let e = peeled-total k t r bs rest (suc (suc (suc j))) p in let i = h.adds (suc (suc (suc j))) in let z = same-total rest (k + suc (suc (suc j))) (k + 1 + suc (suc j)) (omega arith) in grind (arith, nat_tests)

nil-found : (k one two left : ℕ) → one + two ≡ 0 → left ≡ 0 → IsFound k [] one two left []
nil-found k one two left h z =
    let up : 0 < 2 ^ left = pow_pos left in
    (0, up, cut_from-nil k one two left 0 ∙ ap (λ b. cond {A = Option (List Block)} b (Some []) None) (eq-eqb (one + two + left + 0) 0 (omega arith)))

found-is : (k n : ℕ) (ns : List ℕ) (one two left choices : ℕ) (c : Choice) (bs rest : List Block) → choice_of k n (may_have_runs ns) (one + two) left choices ≡ Some c → cut_from (k + 1) ns c.runs one (left - (c.triplets + c.runs)) c.choices ≡ Some rest → bs ≡ begun k c ++ rest → cut_from k (n ∷ ns) one two left choices ≡ Some bs
found-is k n ns one two left choices c bs rest e f p = cut_from-cons k n ns one two left choices (Some c) e ∙ ap (sets_joined (begun k c)) f ∙ ap Some (sym p)

-- the kinds above, where so many sets of kind k were peeled
pub record IsCutBehind (k n : ℕ) (ns : List ℕ) (one two left t r : ℕ) (rest : List Block) : Type 0 where
  pub uses : n ≡ one + two + 3 * t + r
  pub room : t + r ≤ left
  pub cut : IsCut (k + 1) ns r one (left - (t + r)) rest

pub cut-behind : (n : ℕ) (ns : List ℕ) (k one two left t r : ℕ) (bs rest : List Block) → IsCut k (n ∷ ns) one two left bs → IsPeeled k t r bs rest → IsCutBehind k n ns one two left t r rest
cut-behind n ns k one two left t r bs rest h p =
    let low = none_below rest (2 * k + 2) k p.sets p.order (omega arith) in
    let many : t + r + length rest ≡ left = sym (simp (length-append, length-replicate) at (ap length p.parts)) ∙ h.many in
    record {
      uses = let e = peeled-total k t r bs rest 0 p in let z = same-total rest (k + 0) k (omega arith) in let a = h.adds 0 in omega arith;
      room = omega arith;
      cut = record {
        many = omega arith;
        sets = p.sets;
        order = order-weaker rest (2 * k + 2) (2 * (k + 1)) (omega arith) p.order;
        adds = rest-adds k n ns one two left t r bs rest h p;
      };
    }

found-step : (n : ℕ) (ns : List ℕ) (k one two left t r : ℕ) (bs rest : List Block) → n ≤ 4 → IsCut k (n ∷ ns) one two left bs → IsPeeled k t r bs rest → (IsCut (k + 1) ns r one (left - (t + r)) rest → IsFound (k + 1) ns r one (left - (t + r)) rest) → IsFound k (n ∷ ns) one two left bs
found-step n ns k one two left t r bs rest small h p ih =
    let behind = cut-behind n ns k one two left t r bs rest h p in
    let i = ih behind.cut in
    let c : Choice = record { triplets = t; runs = r; choices = i.0 } in
    let three : 3 ≤ r → may_have_runs ns ≡ true = λ many-runs. let a = behind.cut.adds 0 in let b = behind.cut.adds 1 in grind (arith, nat_tests) in
    let number = chosen-below (may_have_runs ns) t r i.0 in
    let e = choice_of-is k n (may_have_runs ns) (one + two) left number c (peeled-choice k n t r (one + two) left i.0 (may_have_runs ns) behind.uses small behind.room p.may three) in
    (number, peeled-small t r left i.0 (may_have_runs ns) (let u = behind.uses in omega arith) behind.room i.1, found-is k n ns one two left number c bs rest e i.2 p.parts)

pub found-by : (ns : List ℕ) (k one two left : ℕ) (bs : List Block) → AllByRecursion (λ n. n ≤ 4) ns → IsCut k ns one two left bs → IsFound k ns one two left bs
found-by [] k one two left bs small h =
    let e = no_more bs k one two left h in
    let a = h.adds 0 in
    let P : List Block → Type 0 = λ x. IsFound k [] one two left x in
    subst P (sym e) (nil-found k one two left (omega arith) (sym h.many ∙ ap length e))
found-by (n ∷ ns) k one two left bs small h =
    let q = peel bs k h.sets h.order in
    found-step n ns k one two left q.0 q.1 bs q.2 small.0 h q.3 (λ cut. found-by ns (k + 1) q.1 one (left - (q.0 + q.1)) q.2 small.1 cut)
