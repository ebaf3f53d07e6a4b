-- Flags and one more item.
use Rattle.std.proofs.Common.{◌≡◌, ℕ, zero, suc, ◌+◌, ◌≤◌, inl, inr, List, [], ◌∷◌, ◌++◌, Bool, true, Option, Some, None, refl, sym, arith, add-zero, lit≤}
use Rattle.std.specs.Prelude.{◌&&◌, nat_lt, nat_le, if◌then◌else◌, codes}
use Rattle.std.specs.List.{list_all, count_by}
use Rattle.std.specs.Str.{bytes_eq}
use Rattle.std.proofs.lemmas.Bool.{and_parts, leb-true, le-leb, lt-ltb, cases_Bool}
use Rattle.std.proofs.lemmas.List.Folds.{list_all-append}
use Rattle.std.proofs.lemmas.List.Sums.{sum_by-append}
use Rattle.std.proofs.lemmas.Option.{cond_some}
use Rattle.riichi_hand.specs.declared.win.Flags.{Flags}
use Rattle.riichi_hand.specs.Values.{is_flag, item_copies, are_flags, flags_in, flags_of_items, has_item}

-- each is at most one
abbrev single : ℕ → ℕ → ℕ → ℕ → ℕ → Bool
single a b c d e = nat_le a 1 && (nat_le b 1 && (nat_le c 1 && (nat_le d 1 && (nat_le e 1 && true))))

abbrev set : ℕ → ℕ → ℕ → ℕ → ℕ → Flags
set a b c d e = record { ippatsu = nat_lt 0 a; rinshan = nat_lt 0 b; chankan = nat_lt 0 c; last = nat_lt 0 d; first = nat_lt 0 e }

fits : (a b c d e : ℕ) → single a b c d e ≡ true → (a ≤ 1) × (b ≤ 1) × (c ≤ 1) × (d ≤ 1) × (e ≤ 1)
fits a b c d e h =
    let p = and_parts _ _ h in
    let q = and_parts _ _ p.1 in
    let r = and_parts _ _ q.1 in
    let s = and_parts _ _ r.1 in
    let t = and_parts _ _ s.1 in
    (leb-true a 1 p.0, leb-true b 1 q.0, leb-true c 1 r.0, leb-true d 1 s.0, leb-true e 1 t.0)

abbrev settled : Bool → ℕ → ℕ → ℕ → ℕ → ℕ → Option Flags
settled all a b c d e = if all && single a b c d e then Some (set a b c d e) else None

-- what an item adds to the copies of a word
abbrev one : List ℕ → List ℕ → ℕ
one item word = count_by (λ i. bytes_eq i word) (item ∷ [])

more : (items : List (List ℕ)) (item word : List ℕ) → item_copies (items ++ item ∷ []) word ≡ item_copies items word + one item word
more items item word = sum_by-append (λ i. if bytes_eq i word then 1 else 0) items (item ∷ [])

pub flags_of_items-last : (items : List (List ℕ)) (item : List ℕ) → flags_of_items (items ++ item ∷ []) ≡
    settled (list_all is_flag items && (is_flag item && true))
    (item_copies items (codes "ippatsu") + one item (codes "ippatsu"))
    (item_copies items (codes "rinshan") + one item (codes "rinshan"))
    (item_copies items (codes "chankan") + one item (codes "chankan"))
    (item_copies items (codes "last") + one item (codes "last"))
    (item_copies items (codes "first") + one item (codes "first"))
flags_of_items-last items item =
    rw (list_all-append is_flag items (item ∷ []), more items item (codes "ippatsu"), more items item (codes "rinshan"), more items item (codes "chankan"), more items item (codes "last"), more items item (codes "first")) refl

settled-some : (all : Bool) (a b c d e : ℕ) → all ≡ true → a ≤ 1 → b ≤ 1 → c ≤ 1 → d ≤ 1 → e ≤ 1 → settled all a b c d e ≡ Some (set a b c d e)
settled-some all a b c d e every one_a one_b one_c one_d one_e =
    rw (every, le-leb a 1 one_a, le-leb b 1 one_b, le-leb c 1 one_c, le-leb d 1 one_d, le-leb e 1 one_e) refl

settled-none : (all : Bool) (a b c d e : ℕ) → (single a b c d e ≡ true → ⊥) → settled all a b c d e ≡ None
settled-none all a b c d e over =
    elim (cases_Bool (all && single a b c d e)) [ inl both ↦ absurd (over (and_parts all _ both).1) | inr is ↦ rw is refl ]

-- The next lemmas: an item that is a flag sets it, unless it was set.

abbrev taken : Bool → Flags → Option Flags
taken was flags = if was then None else Some flags

settled-ippatsu : (all : Bool) (a b c d e : ℕ) → (all && single a b c d e) ≡ true → taken (nat_lt 0 a) (record (set a b c d e) { ippatsu = true }) ≡ settled (all && true) (a + 1) (b + 0) (c + 0) (d + 0) (e + 0)
settled-ippatsu all zero b c d e h =
    let p = and_parts all _ h in let f = fits zero b c d e p.1 in
    simp add-zero (sym (settled-some (all && true) 1 b c d e (rw p.0 refl) (lit≤ tt) f.1 f.2 f.3 f.4))
settled-ippatsu all (suc a) b c d e h =
    rw (lt-ltb 0 (suc a) (omega arith)) (sym (settled-none (all && true) (suc a + 1) (b + 0) (c + 0) (d + 0) (e + 0) (λ s. let f = fits (suc a + 1) (b + 0) (c + 0) (d + 0) (e + 0) s in omega (arith, f.0))))

settled-rinshan : (all : Bool) (a b c d e : ℕ) → (all && single a b c d e) ≡ true → taken (nat_lt 0 b) (record (set a b c d e) { rinshan = true }) ≡ settled (all && true) (a + 0) (b + 1) (c + 0) (d + 0) (e + 0)
settled-rinshan all a zero c d e h =
    let p = and_parts all _ h in let f = fits a zero c d e p.1 in
    simp add-zero (sym (settled-some (all && true) a 1 c d e (rw p.0 refl) f.0 (lit≤ tt) f.2 f.3 f.4))
settled-rinshan all a (suc b) c d e h =
    rw (lt-ltb 0 (suc b) (omega arith)) (sym (settled-none (all && true) (a + 0) (suc b + 1) (c + 0) (d + 0) (e + 0) (λ s. let f = fits (a + 0) (suc b + 1) (c + 0) (d + 0) (e + 0) s in omega (arith, f.1))))

settled-chankan : (all : Bool) (a b c d e : ℕ) → (all && single a b c d e) ≡ true → taken (nat_lt 0 c) (record (set a b c d e) { chankan = true }) ≡ settled (all && true) (a + 0) (b + 0) (c + 1) (d + 0) (e + 0)
settled-chankan all a b zero d e h =
    let p = and_parts all _ h in let f = fits a b zero d e p.1 in
    simp add-zero (sym (settled-some (all && true) a b 1 d e (rw p.0 refl) f.0 f.1 (lit≤ tt) f.3 f.4))
settled-chankan all a b (suc c) d e h =
    rw (lt-ltb 0 (suc c) (omega arith)) (sym (settled-none (all && true) (a + 0) (b + 0) (suc c + 1) (d + 0) (e + 0) (λ s. let f = fits (a + 0) (b + 0) (suc c + 1) (d + 0) (e + 0) s in omega (arith, f.2))))

settled-last : (all : Bool) (a b c d e : ℕ) → (all && single a b c d e) ≡ true → taken (nat_lt 0 d) (record (set a b c d e) { last = true }) ≡ settled (all && true) (a + 0) (b + 0) (c + 0) (d + 1) (e + 0)
settled-last all a b c zero e h =
    let p = and_parts all _ h in let f = fits a b c zero e p.1 in
    simp add-zero (sym (settled-some (all && true) a b c 1 e (rw p.0 refl) f.0 f.1 f.2 (lit≤ tt) f.4))
settled-last all a b c (suc d) e h =
    rw (lt-ltb 0 (suc d) (omega arith)) (sym (settled-none (all && true) (a + 0) (b + 0) (c + 0) (suc d + 1) (e + 0) (λ s. let f = fits (a + 0) (b + 0) (c + 0) (suc d + 1) (e + 0) s in omega (arith, f.3))))

settled-first : (all : Bool) (a b c d e : ℕ) → (all && single a b c d e) ≡ true → taken (nat_lt 0 e) (record (set a b c d e) { first = true }) ≡ settled (all && true) (a + 0) (b + 0) (c + 0) (d + 0) (e + 1)
settled-first all a b c d zero h =
    let p = and_parts all _ h in let f = fits a b c d zero p.1 in
    simp add-zero (sym (settled-some (all && true) a b c d 1 (rw p.0 refl) f.0 f.1 f.2 f.3 (lit≤ tt)))
settled-first all a b c d (suc e) h =
    rw (lt-ltb 0 (suc e) (omega arith)) (sym (settled-none (all && true) (a + 0) (b + 0) (c + 0) (d + 0) (suc e + 1) (λ s. let f = fits (a + 0) (b + 0) (c + 0) (d + 0) (suc e + 1) s in omega (arith, f.4))))

pub with_ippatsu : (items : List (List ℕ)) → are_flags items ≡ true → taken (has_item items (codes "ippatsu")) (record (flags_in items) { ippatsu = true }) ≡ flags_of_items (items ++ codes "ippatsu" ∷ [])
with_ippatsu items h = rw (flags_of_items-last items (codes "ippatsu")) (settled-ippatsu (list_all is_flag items) (item_copies items (codes "ippatsu")) (item_copies items (codes "rinshan")) (item_copies items (codes "chankan")) (item_copies items (codes "last")) (item_copies items (codes "first")) h)

pub with_rinshan : (items : List (List ℕ)) → are_flags items ≡ true → taken (has_item items (codes "rinshan")) (record (flags_in items) { rinshan = true }) ≡ flags_of_items (items ++ codes "rinshan" ∷ [])
with_rinshan items h = rw (flags_of_items-last items (codes "rinshan")) (settled-rinshan (list_all is_flag items) (item_copies items (codes "ippatsu")) (item_copies items (codes "rinshan")) (item_copies items (codes "chankan")) (item_copies items (codes "last")) (item_copies items (codes "first")) h)

pub with_chankan : (items : List (List ℕ)) → are_flags items ≡ true → taken (has_item items (codes "chankan")) (record (flags_in items) { chankan = true }) ≡ flags_of_items (items ++ codes "chankan" ∷ [])
with_chankan items h = rw (flags_of_items-last items (codes "chankan")) (settled-chankan (list_all is_flag items) (item_copies items (codes "ippatsu")) (item_copies items (codes "rinshan")) (item_copies items (codes "chankan")) (item_copies items (codes "last")) (item_copies items (codes "first")) h)

pub with_last : (items : List (List ℕ)) → are_flags items ≡ true → taken (has_item items (codes "last")) (record (flags_in items) { last = true }) ≡ flags_of_items (items ++ codes "last" ∷ [])
with_last items h = rw (flags_of_items-last items (codes "last")) (settled-last (list_all is_flag items) (item_copies items (codes "ippatsu")) (item_copies items (codes "rinshan")) (item_copies items (codes "chankan")) (item_copies items (codes "last")) (item_copies items (codes "first")) h)

pub with_first : (items : List (List ℕ)) → are_flags items ≡ true → taken (has_item items (codes "first")) (record (flags_in items) { first = true }) ≡ flags_of_items (items ++ codes "first" ∷ [])
with_first items h = rw (flags_of_items-last items (codes "first")) (settled-first (list_all is_flag items) (item_copies items (codes "ippatsu")) (item_copies items (codes "rinshan")) (item_copies items (codes "chankan")) (item_copies items (codes "last")) (item_copies items (codes "first")) h)

-- more items: what is refused stays refused

fewer : (items others : List (List ℕ)) (word : List ℕ) → item_copies items word ≤ item_copies (items ++ others) word
fewer items others word = omega (arith, sum_by-append (λ i. if bytes_eq i word then 1 else 0) items others)

are_flags-front : (items others : List (List ℕ)) → are_flags (items ++ others) ≡ true → are_flags items ≡ true
are_flags-front items others are =
    let p = and_parts (list_all is_flag (items ++ others)) _ are in
    let every = and_parts (list_all is_flag items) (list_all is_flag others) (rw list_all-append at p.0) in
    let f = fits (item_copies (items ++ others) (codes "ippatsu")) (item_copies (items ++ others) (codes "rinshan")) (item_copies (items ++ others) (codes "chankan")) (item_copies (items ++ others) (codes "last")) (item_copies (items ++ others) (codes "first")) p.1 in
    let ippatsu = le-leb (item_copies items (codes "ippatsu")) 1 (omega (arith, fewer items others (codes "ippatsu"), f.0)) in
    let rinshan = le-leb (item_copies items (codes "rinshan")) 1 (omega (arith, fewer items others (codes "rinshan"), f.1)) in
    let chankan = le-leb (item_copies items (codes "chankan")) 1 (omega (arith, fewer items others (codes "chankan"), f.2)) in
    let last = le-leb (item_copies items (codes "last")) 1 (omega (arith, fewer items others (codes "last"), f.3)) in
    let first = le-leb (item_copies items (codes "first")) 1 (omega (arith, fewer items others (codes "first"), f.4)) in
    rw (every.0, ippatsu, rinshan, chankan, last, first) refl

-- flags that are set are those of the items
pub flags_of_items-some : (items : List (List ℕ)) (flags : Flags) → Some flags ≡ flags_of_items items → (are_flags items ≡ true) × (flags ≡ flags_in items)
flags_of_items-some items flags told = let is = cond_some (are_flags items) (flags_in items) flags (sym told) in (is.0, sym is.1)

pub flags_of_items-none : (items others : List (List ℕ)) → None ≡ flags_of_items items → None ≡ flags_of_items (items ++ others)
flags_of_items-none items others none =
    elim (cases_Bool (are_flags (items ++ others))) [ inl are ↦ absurd (let front = are_flags-front items others are in let e : None ≡ Some (flags_in items) = rw front at none in cc) | inr not_flags ↦ rw not_flags refl ]
