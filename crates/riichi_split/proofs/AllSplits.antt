-- The list of all splits has each split of the definition once, and nothing else.
use Rattle.std.proofs.Common.{◌≡◌, ℕ, zero, suc, ◌+◌, ◌-◌, ◌^◌, ◌<◌, ◌≤◌, Bool, true, false, cond, inl, inr, Option, Some, None, List, [], ◌∷◌, ◌++◌, length, get_or, set, min, refl, sym, ap, ◌∙◌, arith, ltb, eqb}
use Rattle.std.specs.List.{AllByRecursion}
use Rattle.std.proofs.Math.Pow.{pow_mono}
use Rattle.std.proofs.lemmas.Bool.{cases_eq, cases_lt, cond-false, le-ltb}
use Rattle.std.proofs.lemmas.Bool.Decides.{nat_tests}
use Rattle.std.proofs.lemmas.List.{length-set, get_or-set_other}
use Rattle.std.proofs.lemmas.Grind.{get_or-set_at}
use Rattle.riichi_tiles.specs.Tiles.{IsCounts}
use Rattle.riichi_tiles.specs.declared.block.Block.{Block}
use Rattle.riichi_tiles.specs.Blocks.{total}
use Rattle.riichi_tiles.specs.Kinds.{first_of, kinds_of, suit_of}
use Rattle.riichi_tiles.specs.declared.suit.Suit.{Suit}
use Rattle.riichi_tiles.proofs.Suits.{own_suit}
use Rattle.riichi_split.specs.declared.split.Split.{Split}
use Rattle.riichi_split.specs.Readings.{IsSplit}
use Rattle.riichi_split.proofs.MadeOf.{adds-everywhere, each-set, made-of}
use Rattle.riichi_split.specs.Cuts.{AreTheSplits, cut_from, sets_beside, split_of, from_choices, from_pairs, falling, doubts}
use Rattle.riichi_split.proofs.Falling.{in-falling, falling-inv, Differ-falling}
use Rattle.riichi_tiles.proofs.Members.{All-in, Contains-in, IsIn}
use Rattle.riichi_split.proofs.Lists.{Differ, AllPairs-differ}
use Rattle.riichi_split.proofs.Sound.{carried, IsCut, IsCut-from, same_choices, few_choices, same-total}
use Rattle.riichi_split.proofs.Complete.{found-by, IsFound}

-- ---- one split

pub beside-inv : (c : List ℕ) (wanted p x : ℕ) (bs : List Block) (b : Bool) → b ≡ ltb (get_or c p 0) 2 → cond b None (cut_from 0 (set c p (get_or c p 0 - 2)) 0 0 wanted x) ≡ Some bs → (2 ≤ get_or c p 0) × (cut_from 0 (set c p (get_or c p 0 - 2)) 0 0 wanted x ≡ Some bs)
beside-inv c wanted p x bs true t e = absurd (cc)
beside-inv c wanted p x bs false t e = (grind (arith, nat_tests), e)

pub uncarried : (j : ℕ) → carried 0 0 j ≡ 0
uncarried zero = refl
uncarried (suc zero) = refl
uncarried (suc (suc j)) = refl

-- the counts without a pair
pub without : (c : List ℕ) (p k : ℕ) → p < length c → 2 ≤ get_or c p 0 → get_or (set c p (get_or c p 0 - 2)) k 0 + cond (eqb k p) 2 0 ≡ get_or c k 0
without c p k l h =
    elim (cases_eq k p) [
      | inl e ↦ let g = get_or-set_at c p k (get_or c p 0 - 2) 0 e l in let f : get_or c k 0 ≡ get_or c p 0 = ap (λ x. get_or c x 0) e in grind (arith, nat_tests)
      | inr n ↦ let g = get_or-set_other c p k (get_or c p 0 - 2) 0 n in grind (arith, nat_tests)
    ]

pub IsSplit-from : (c : List ℕ) (wanted melds p x : ℕ) (bs : List Block) → IsCounts c → wanted + melds ≡ 4 → p < 34 → sets_beside c wanted p x ≡ Some bs → IsSplit c melds bs p
IsSplit-from c wanted melds p x bs counts w l e =
    let s = beside-inv c wanted p x bs _ refl e in
    let cut = IsCut-from (set c p (get_or c p 0 - 2)) 0 0 0 wanted x bs (simp length-set (omega (arith, counts.each_kind))) s.1 in
    record {
      four = omega (arith, cut.many);
      made_of = made-of c bs p cut.sets l (λ k low. let a = cut.adds k in let u = uncarried k in let t = same-total bs (0 + k) k (omega arith) in let v = without c p k (omega (arith, counts.each_kind)) s.0 in omega arith);
      in_order = cut.order;
    }

beside-is : (c : List ℕ) (wanted p x : ℕ) (bs : List Block) → 2 ≤ get_or c p 0 → cut_from 0 (set c p (get_or c p 0 - 2)) 0 0 wanted x ≡ Some bs → sets_beside c wanted p x ≡ Some bs
beside-is c wanted p x bs h e =
    cond-false (ltb (get_or c p 0) 2) None (cut_from 0 (set c p (get_or c p 0 - 2)) 0 0 wanted x) (le-ltb (get_or c p 0) 2 h) ∙ e

pub small-by : (c : List ℕ) → ((k : ℕ) → get_or c k 0 ≤ 4) → AllByRecursion (λ n. n ≤ 4) c
small-by [] h = tt
small-by (n ∷ ns) h = (h 0, small-by ns (λ k. h (suc k)))

-- fewer tiles leave no more kinds in doubt
fewer-doubts : (xs ys : List ℕ) → length xs ≡ length ys → ((k : ℕ) → get_or xs k 0 ≤ get_or ys k 0) → doubts xs ≤ doubts ys
unfolding doubts
fewer-doubts [] [] e h = omega arith
fewer-doubts [] (y ∷ ys) e h = absurd (omega arith)
fewer-doubts (x ∷ xs) [] e h = absurd (omega arith)
fewer-doubts (x ∷ xs) (y ∷ ys) e h =
    let more = fewer-doubts xs ys (omega arith) (λ k. h (suc k)) in
    let own = h 0 in let next = h 1 in let third = h 2 in
    grind (arith, nat_tests)

fewer-tiles : (c : List ℕ) (p v k : ℕ) → p < length c → v ≤ get_or c p 0 → get_or (set c p v) k 0 ≤ get_or c k 0
fewer-tiles c p v k l h =
    elim (cases_eq k p) [
      | inl e ↦ let g = get_or-set_at c p k v 0 e l in let f : get_or c k 0 ≡ get_or c p 0 = ap (λ x. get_or c x 0) e in omega arith
      | inr n ↦ let g = get_or-set_other c p k v 0 n in omega arith
    ]

doubts-less : (c : List ℕ) (p v : ℕ) → p < length c → v ≤ get_or c p 0 → doubts (set c p v) ≤ doubts c
doubts-less c p v l h = fewer-doubts (set c p v) c (simp length-set refl) (λ k. fewer-tiles c p v k l h)

least : (x n : ℕ) → x < 2 ^ 4 → x < 2 ^ n → x < 2 ^ min 4 n
least x n h i =
    elim (cases_lt 4 n) [
      | inl l ↦ let e : 2 ^ 4 ≤ 2 ^ min 4 n = pow_mono {i = 4} {j = min 4 n} (omega arith) in omega arith
      | inr g ↦ let e : 2 ^ n ≤ 2 ^ min 4 n = pow_mono {i = n} {j = min 4 n} (omega arith) in omega arith
    ]

-- the sets of a split use up the counts without the pair
pub record IsCutBeside (c : List ℕ) (wanted p : ℕ) (bs : List Block) : Type 0 where
  pub in_range : p < length c
  pub has_two : 2 ≤ get_or c p 0
  pub cut : IsCut 0 (set c p (get_or c p 0 - 2)) 0 0 wanted bs

pub cut-beside : (c : List ℕ) (wanted melds p : ℕ) (bs : List Block) → length c ≡ 34 → wanted + melds ≡ 4 → IsSplit c melds bs p → IsCutBeside c wanted p bs
cut-beside c wanted melds p bs long w h =
    let adds = adds-everywhere c bs p long h.made_of in
    let in_range : p < length c = omega (arith, h.made_of.is_kind) in
    let own : cond (eqb p p) 2 0 + total bs p ≡ get_or c p 0 = adds p in
    let has : 2 ≤ get_or c p 0 = grind (arith, nat_tests) in
    record {
      in_range = in_range;
      has_two = has;
      cut = record {
        many = omega (arith, h.four);
        sets = each-set c bs p h.made_of;
        order = h.in_order;
        adds = λ k. let a : cond (eqb k p) 2 0 + total bs k ≡ get_or c k 0 = adds k in let u = uncarried k in let t = same-total bs (0 + k) k (omega arith) in let v = without c p k in_range has in omega arith;
      };
    }

pub choice-from : (c : List ℕ) (wanted melds p : ℕ) (bs : List Block) → IsCounts c → wanted + melds ≡ 4 → IsSplit c melds bs p → (x : ℕ) × (x < 2 ^ min 4 (doubts c)) × (sets_beside c wanted p x ≡ Some bs)
choice-from c wanted melds p bs counts w h =
    let rest = set c p (get_or c p 0 - 2) in
    let beside = cut-beside c wanted melds p bs counts.each_kind w h in
    let in_range : p < length c = beside.in_range in
    let has : 2 ≤ get_or c p 0 = beside.has_two in
    let small : AllByRecursion (λ n. n ≤ 4) rest = small-by rest (λ k. let v = without c p k in_range has in omega (arith, v, counts.at_most_four k)) in
    let f : IsFound 0 rest 0 0 wanted bs = found-by rest 0 0 0 wanted bs small beside.cut in
    let few : wanted ≤ 4 = omega arith in
    let up : 2 ^ wanted ≤ 2 ^ 4 = pow_mono {i = wanted} {j = 4} few in
    let fewer : 2 ^ doubts rest ≤ 2 ^ doubts c = pow_mono (doubts-less c p (get_or c p 0 - 2) in_range (omega arith)) in
    let own_few = few_choices rest 0 0 0 wanted f.0 bs f.2 in
    (f.0, least f.0 (doubts c) (omega (arith, f.1)) (omega arith), beside-is c wanted p f.0 bs has f.2)

-- ---- all splits

split_of-inv : (p : ℕ) (o : Option (List Block)) (s : Split) → IsIn s (split_of p o) → (o ≡ Some s.sets) × (p ≡ s.pair)
split_of-inv p None s h = absurd h
split_of-inv p (Some sets) s (inl e) = (ap (λ (z : Split). Some z.sets) e, ap (λ (z : Split). z.pair) e)
split_of-inv p (Some sets) s (inr h) = absurd h

in-split_of : (p : ℕ) (o : Option (List Block)) (s : Split) → o ≡ Some s.sets → p ≡ s.pair → IsIn s (split_of p o)
in-split_of p None s e q = absurd (cc)
in-split_of p (Some sets) s e q = let f : sets ≡ s.sets = cc in inl (ap (λ z. record { sets = z; pair = p }) f ∙ ap (λ z. record { sets = s.sets; pair = z }) q)

Differ-split_of : (p : ℕ) (o : Option (List Block)) → Differ (split_of p o)
Differ-split_of p None = tt
Differ-split_of p (Some sets) = (λ h. h, tt)

from_choices-inv : (c : List ℕ) (wanted p n : ℕ) (s : Split) → IsIn s (from_choices c wanted p n) → (p ≡ s.pair) × ((x : ℕ) × (x < n) × (sets_beside c wanted p x ≡ Some s.sets))
unfolding from_choices
from_choices-inv c wanted p n s h =
    let i = falling-inv (λ x. split_of p (sets_beside c wanted p x)) s n h in
    let j = split_of-inv p (sets_beside c wanted p i.0) s i.2 in
    (j.1, (i.0, i.1, j.0))

from_pairs-inv : (c : List ℕ) (wanted m first n : ℕ) (s : Split) → IsIn s (from_pairs c wanted m first n) → (s.pair < first + n) × ((x : ℕ) × (x < m) × (sets_beside c wanted s.pair x ≡ Some s.sets))
unfolding from_pairs
from_pairs-inv c wanted m first n s h =
    let i = falling-inv (λ k. from_choices c wanted (first + k) m) s n h in
    let j = from_choices-inv c wanted (first + i.0) m s i.2 in
    (omega (arith, j.0, i.1), (j.1.0, j.1.1, ap (λ z. sets_beside c wanted z j.1.0) (sym j.0) ∙ j.1.2))

in-from_pairs : (c : List ℕ) (wanted m first n x : ℕ) (s : Split) → first ≤ s.pair → s.pair < first + n → x < m → sets_beside c wanted s.pair x ≡ Some s.sets → IsIn s (from_pairs c wanted m first n)
unfolding from_choices from_pairs
in-from_pairs c wanted m first n x s k l h e =
    let at : first + (s.pair - first) ≡ s.pair = omega arith in
    in-falling (λ k. from_choices c wanted (first + k) m) s (s.pair - first) n (omega arith)
    (in-falling (λ y. split_of (first + (s.pair - first)) (sets_beside c wanted (first + (s.pair - first)) y)) s x m h
    (in-split_of (first + (s.pair - first)) (sets_beside c wanted (first + (s.pair - first)) x) s (ap (λ z. sets_beside c wanted z x) at ∙ e) at))

-- two choices that leave one split are one
same-number : (c : List ℕ) (wanted p x y : ℕ) (bs : List Block) → sets_beside c wanted p x ≡ Some bs → sets_beside c wanted p y ≡ Some bs → x ≡ y
same-number c wanted p x y bs e f =
    let s = beside-inv c wanted p x bs _ refl e in
    let t = beside-inv c wanted p y bs _ refl f in
    same_choices (set c p (get_or c p 0 - 2)) 0 0 0 wanted x y bs s.1 t.1

Differ-from_choices : (c : List ℕ) (wanted p n : ℕ) → Differ (from_choices c wanted p n)
unfolding from_choices
Differ-from_choices c wanted p n =
    Differ-falling (λ x. split_of p (sets_beside c wanted p x)) n (λ x. Differ-split_of p (sets_beside c wanted p x))
    (λ x y s a b. same-number c wanted p x y s.sets (split_of-inv p (sets_beside c wanted p x) s a).0 (split_of-inv p (sets_beside c wanted p y) s b).0)

Differ-from_pairs : (c : List ℕ) (wanted m first n : ℕ) → Differ (from_pairs c wanted m first n)
unfolding from_pairs
Differ-from_pairs c wanted m first n =
    Differ-falling (λ k. from_choices c wanted (first + k) m) n (λ k. Differ-from_choices c wanted (first + k) m)
    (λ a b s h g. omega (arith, (from_choices-inv c wanted (first + a) m s h).0, (from_choices-inv c wanted (first + b) m s g).0))

no_choices : (c : List ℕ) (wanted p : ℕ) (splits : List Split) → from_choices c wanted p 0 ++ splits ≡ splits
unfolding from_choices falling
no_choices c wanted p splits = refl

-- the pair of each split is one of these kinds
abbrev pub HasPairsAmong : List ℕ → ℕ → ℕ → Type 0
HasPairsAmong c first kinds = (melds : ℕ) (sets : List Block) (pair : ℕ) → IsSplit c melds sets pair → (first ≤ pair) × (pair < first + kinds)

pub among_suit : (c : List ℕ) (suit : Suit) → ((melds : ℕ) (sets : List Block) (pair : ℕ) → IsSplit c melds sets pair → Some suit ≡ Some (suit_of pair)) → HasPairsAmong c (first_of suit) (kinds_of suit)
among_suit c suit is melds sets pair split =
    let both = is melds sets pair split in
    let same : suit ≡ suit_of pair = cc in
    let own = own_suit pair split.made_of.is_kind in
    rw same (own.low, own.high)

pub the_splits : (c : List ℕ) (wanted melds p first kinds : ℕ) → IsCounts c → wanted + melds ≡ 4 → first + kinds ≤ 34 → HasPairsAmong c first kinds → AreTheSplits c melds (from_choices c wanted p 0 ++ from_pairs c wanted (2 ^ min 4 (doubts c)) first kinds)
the_splits c wanted melds p first kinds counts w l among =
    let all = from_pairs c wanted (2 ^ min 4 (doubts c)) first kinds in
    rw (no_choices c wanted p all) (record {
      sound = All-in (λ s. IsSplit c melds s.sets s.pair) all (λ s h. let i = from_pairs-inv c wanted (2 ^ min 4 (doubts c)) first kinds s h in IsSplit-from c wanted melds s.pair i.1.0 s.sets counts w (omega (arith, i.0)) i.1.2);
      complete = λ s h. let i = choice-from c wanted melds s.pair s.sets counts w h in let q = among melds s.sets s.pair h in Contains-in s all (in-from_pairs c wanted (2 ^ min 4 (doubts c)) first kinds i.0 s q.0 q.1 i.1 i.2);
      once = AllPairs-differ all (Differ-from_pairs c wanted (2 ^ min 4 (doubts c)) first kinds);
    })
