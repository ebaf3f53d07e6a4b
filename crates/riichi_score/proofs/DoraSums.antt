-- At most ten indicators, each of at most four copies.
use Rattle.std.proofs.Common.{◌≡◌, ℕ, zero, suc, ◌+◌, ◌*◌, ◌<◌, ◌≤◌, false, List, ◌-◌, min, length, refl, sym, ap, ◌∙◌, subst, get_or, take, arith, add-one, inl, inr}
use Rattle.std.specs.List.{sum, sum_by, range_with_len}
use Rattle.std.proofs.lemmas.List.{map-id, get_or_past, take_all}
use Rattle.std.proofs.lemmas.Bool.{cases_lt}
use Rattle.std.proofs.lemmas.List.Sums.{sum_by-take-le, sum_by_more}
use Rattle.std.proofs.lemmas.List.FromFn.{sum_by-map-range_with_len_more}
use Rattle.std.proofs.lemmas.Bool.Decides.{nat_tests}
use Rattle.riichi_tiles.specs.Dora.{indicated}
use Rattle.riichi_tiles.specs.HeldKinds.{is_held, AreHeldOf}
use Rattle.riichi_hand.specs.declared.win.WinParts.{WinParts}
use Rattle.riichi_hand.specs.Win.{IsWinRecord, copies_won}
use Rattle.riichi_score.specs.Dora.{counted_ura, indicators, kind_dora}
use Rattle.riichi_score.proofs.Wins.{ten_counted, four_copies}

-- one number more
pub kinds_more : (f : ℕ → ℕ) (n : ℕ) → sum_by f (range_with_len 0 (n + 1)) ≡ sum_by f (range_with_len 0 n) + f n
kinds_more f n = simp map-id at (sum_by-map-range_with_len_more f (λ (k : ℕ). k) 0 n n (omega arith))

abbrev held : List ℕ → ℕ → ℕ
held counts n = sum_by (λ kind. get_or counts kind 0) (range_with_len 0 n)

one_more : (counts : List ℕ) (n : ℕ) → held counts n ≡ sum (take n counts) → held counts (n + 1) ≡ sum (take (n + 1) counts)
one_more counts n h =
    let more = kinds_more (λ kind. get_or counts kind 0) n in
    elim (cases_lt n (length counts)) [
      | inl lt ↦ omega (arith, h, more, sum_by_more (λ (x : ℕ). x) counts n 0 lt)
      | inr past ↦ omega (arith, h, more, get_or_past counts n 0 past, ap (λ x. sum x) (take_all n counts past), ap (λ x. sum x) (take_all (n + 1) counts (omega arith)))
    ]

-- what is held of the first kinds
held_of_first : (counts : List ℕ) (n : ℕ) → held counts n ≡ sum (take n counts)
held_of_first counts zero = omega arith
held_of_first counts (suc n) = subst (λ (m : ℕ). held counts m ≡ sum (take m counts)) (add-one n) (one_more counts n (held_of_first counts n))

-- what is held of one kind more
pub held_more : (counts : List ℕ) (n : ℕ) → held counts (n + 1) ≡ held counts n + get_or counts n 0
held_more counts n = kinds_more (λ kind. get_or counts kind 0) n

held_most : (counts : List ℕ) (n : ℕ) → held counts n ≤ sum counts
held_most counts n = omega (arith, held_of_first counts n, sum_by-take-le (λ (x : ℕ). x) counts n)

held_all : (counts : List ℕ) → length counts ≡ 34 → held counts 34 ≡ sum counts
held_all counts long = held_of_first counts 34 ∙ ap (λ x. sum x) (take_all 34 counts (omega arith))

held_grows : (counts : List ℕ) (n more : ℕ) → held counts n ≤ held counts (n + more)
held_grows counts n zero =
    let same : n + 0 ≡ n = omega arith in
    omega (arith, ap (held counts) same)
held_grows counts n (suc more) =
    let next : n + more + 1 ≡ n + suc more = omega arith in
    omega (arith, held_grows counts n more, held_more counts (n + more), ap (held counts) next)

times_four : (indicators copies total held : ℕ) → copies ≤ 4 → total ≤ 4 * held → total + indicators * copies ≤ 4 * (held + indicators)
times_four indicators copies total held c t = grind arith

same_suit : (kind : ℕ) → kind < 34 → indicated kind < 34
same_suit kind lt = grind (arith, nat_tests)

abbrev total : WinParts → ℕ → ℕ
total win n = sum_by (kind_dora win) (range_with_len 0 n)

AtMostFourEach : WinParts → ℕ → Type 0
AtMostFourEach win n = total win n ≤ 4 * (held win.dora n + held (counted_ura win) n)

four_more : (win : WinParts) (n : ℕ) → IsWinRecord win → n < 34 → AtMostFourEach win n → AtMostFourEach win (n + 1)
unfolding AtMostFourEach
four_more win n h lt so_far =
    let copies = four_copies win (indicated n) h (same_suit n lt) in
    let few : copies_won win (indicated n) ≤ 4 = omega (arith, copies) in
    let each = times_four (indicators win n) (copies_won win (indicated n)) (total win n) (held win.dora n + held (counted_ura win) n) few so_far in
    omega (arith, each, kinds_more (kind_dora win) n, kinds_more (λ kind. get_or win.dora kind 0) n, kinds_more (λ kind. get_or (counted_ura win) kind 0) n)

four_each : (win : WinParts) (n : ℕ) → IsWinRecord win → n ≤ 34 → AtMostFourEach win n
unfolding AtMostFourEach
four_each win zero h lt = omega arith
four_each win (suc n) h lt =
    subst (λ (m : ℕ). AtMostFourEach win m) (add-one n) (four_more win n h (omega arith) (four_each win n h (omega arith)))

four_shown : (win : WinParts) (n : ℕ) → IsWinRecord win → n ≤ 34 → total win n ≤ 4 * (sum win.dora + sum (counted_ura win))
unfolding AtMostFourEach
four_shown win n h lt =
    let dora = held_of_first win.dora n in
    let ura = held_of_first (counted_ura win) n in
    omega (arith, four_each win n h lt, dora, ura, sum_by-take-le (λ (x : ℕ). x) win.dora n, sum_by-take-le (λ (x : ℕ). x) (counted_ura win) n)

-- at most 40 in all
pub most : (win : WinParts) (n : ℕ) → IsWinRecord win → n ≤ 34 → total win n ≤ 40
most win n h lt = omega (arith, four_shown win n h lt, ten_counted win h)

-- ---- the loop of `indicator_dora`

-- of so many kinds the dora are counted, and so many indicators are left
pub record IsShown (win : WinParts) (n told left : ℕ) : Type 0 where
  pub within : n ≤ 34
  pub told_is : told ≡ total win n
  pub left_is : left + (held win.dora n + held (counted_ura win) n) ≡ sum win.dora + sum (counted_ura win)

-- indicators are left of further kinds alone
pub IsShown-within : (win : WinParts) (n told left : ℕ) → length win.dora ≡ 34 → length (counted_ura win) ≡ 34 → 0 < left → IsShown win n told left → n < 34
IsShown-within win n told left long long' some h =
    elim (cases_lt n 34) [
      | inl lt ↦ lt
      | inr past ↦
          let last : n ≡ 34 = omega (arith, past, h.within) in
          absurd (omega (arith, some, h.left_is, ap (held win.dora) last, ap (held (counted_ura win)) last, held_all win.dora long, held_all (counted_ura win) long'))
    ]

pub IsShown-enough : (win : WinParts) (n told left : ℕ) → IsShown win n told left → indicators win n ≤ left
IsShown-enough win n told left h = omega (arith, h.left_is, held_more win.dora n, held_more (counted_ura win) n, held_most win.dora (n + 1), held_most (counted_ura win) (n + 1))

pub IsShown-more : (win : WinParts) (n told left : ℕ) → n < 34 → IsShown win n told left → IsShown win (n + 1) (told + kind_dora win n) (left - indicators win n)
IsShown-more win n told left lt h = record {
  within = omega (arith, lt);
  told_is = ap (λ d. d + kind_dora win n) h.told_is ∙ sym (kinds_more (kind_dora win) n);
  left_is = omega (arith, h.left_is, IsShown-enough win n told left h, held_more win.dora n, held_more (counted_ura win) n);
}

-- a kind without indicators has no dora
none_of_kind : (shown copies : ℕ) → shown ≡ 0 → shown * copies ≡ 0
none_of_kind shown copies e = ap (λ n. n * copies) e ∙ (let zero-times : 0 * copies ≡ 0 = omega arith in zero-times)

-- some kinds without indicators
pass : (win : WinParts) (n more told left : ℕ) → n + more ≤ 34 → ((kind : ℕ) → n ≤ kind → kind < n + more → indicators win kind ≡ 0) → IsShown win n told left → IsShown win (n + more) told left
pass win n zero told left within none h =
    let same : n ≡ n + 0 = omega arith in
    subst (λ (m : ℕ). IsShown win m told left) same h
pass win n (suc more) told left within none h =
    let kind = n + more in
    let next : kind + 1 ≡ n + suc more = omega arith in
    let before = pass win n more told left (omega (arith, within)) (λ k a b. none k a (omega (arith, b))) h in
    let no = none kind (omega arith) (omega arith) in
    let nothing : kind_dora win kind ≡ 0 = none_of_kind (indicators win kind) (copies_won win (indicated kind)) no in
    record {
      within = within;
      told_is = omega (arith, before.told_is, ap (total win) next, kinds_more (kind_dora win) kind, nothing);
      left_is = omega (arith, before.left_is, no, held_more win.dora kind, held_more (counted_ura win) kind, ap (held win.dora) next, ap (held (counted_ura win)) next);
    }

pub IsShown-pass : (win : WinParts) (from to told left : ℕ) → from ≤ to → to ≤ 34 → ((kind : ℕ) → from ≤ kind → kind < to → indicators win kind ≡ 0) → IsShown win from told left → IsShown win to told left
IsShown-pass win from to told left before within none h =
    let there : from + (to - from) ≡ to = omega (arith, before) in
    subst (λ (m : ℕ). IsShown win m told left) there (pass win from (to - from) told left (omega (arith, there, within)) (λ kind a b. none kind a (omega (arith, b, there))) h)

no-tile : (counts : List ℕ) (held kind : ℕ) → AreHeldOf counts held → is_held held kind ≡ false → get_or counts kind 0 ≡ 0
no-tile counts held kind h none = let e = sym none ∙ h.each kind in grind (arith, nat_tests)

-- the kinds before the first indicators of either sort have none
pub none-before : (win : WinParts) (shown hidden from first second kind : ℕ) → AreHeldOf win.dora shown → AreHeldOf (counted_ura win) hidden → ((other : ℕ) → from ≤ other → other < first → is_held shown other ≡ false) → ((other : ℕ) → from ≤ other → other < second → is_held hidden other ≡ false) → from ≤ kind → kind < first → kind < second → indicators win kind ≡ 0
none-before win shown hidden from first second kind d u a b past before before' =
    omega (arith, no-tile win.dora shown kind d (a kind past before), no-tile (counted_ura win) hidden kind u (b kind past before'))

-- the next kind that has indicators
pub IsShown-next : (win : WinParts) (dora ura : List ℕ) (shown hidden from first second next told left : ℕ) → dora ≡ win.dora → ura ≡ (counted_ura win) → AreHeldOf dora shown → AreHeldOf ura hidden → from ≤ first → first ≤ 34 → ((other : ℕ) → from ≤ other → other < first → is_held shown other ≡ false) → from ≤ second → ((other : ℕ) → from ≤ other → other < second → is_held hidden other ≡ false) → next ≡ min first second → IsShown win from told left → IsShown win next told left
IsShown-next win dora ura shown hidden from first second next told left e f d u a within none b none' is h =
    let shown_are = subst (λ (l : List ℕ). AreHeldOf l shown) e d in
    let hidden_are = subst (λ (l : List ℕ). AreHeldOf l hidden) f u in
    IsShown-pass win from next told left (omega (arith, a, b, is)) (omega (arith, within, is)) (λ kind past before. none-before win shown hidden from first second kind shown_are hidden_are none none' past (omega (arith, before, is)) (omega (arith, before, is))) h

-- where no indicators are left the further kinds have none
pub IsShown-end : (win : WinParts) (n told left : ℕ) → left ≡ 0 → IsShown win n told left → told ≡ total win 34
IsShown-end win n told left none h =
    (IsShown-pass win n 34 told left h.within (omega arith) (λ kind past before.
    let at : n + (kind - n) ≡ kind = omega arith in
    let grows = held_grows win.dora n (kind - n) in
    let grows' = held_grows (counted_ura win) n (kind - n) in
    omega (arith, none, h.left_is, ap (held win.dora) at, ap (held (counted_ura win)) at, held_more win.dora kind, held_more (counted_ura win) kind, held_most win.dora (kind + 1), held_most (counted_ura win) (kind + 1))) h).told_is

pub IsShown-begin : (win : WinParts) (left : ℕ) → left ≡ sum win.dora + sum (counted_ura win) → IsShown win 0 0 left
IsShown-begin win left e = record { within = omega arith; told_is = refl; left_is = omega (arith, e) }
