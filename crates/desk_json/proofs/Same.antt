-- Equal trees are those of equal answers.
use Rattle.std.proofs.Common.{◌≡◌, ℕ, zero, suc, ◌+◌, ◌<◌, ◌≤◌, ◌^◌, ◌%◌, ◌≢◌, ⊎_elim, Bool, true, false, cond, List, [], ◌∷◌, map, get_or, refl, sym, ap, ◌∙◌, arith, decimal}
use Rattle.std.proofs.lemmas.Bool.Decides.{nat_tests}
use Rattle.std.proofs.lemmas.Bool.{cases_lt}
use Rattle.std.proofs.lemmas.Fmt.{decimal_injective, signed_decimal_injective}
use Rattle.std.specs.Fmt.{signed_decimal}
use Rattle.std.specs.Int.{bit_at}
use Rattle.std.specs.List.{filter, range_with_len}
use Rattle.std.specs.Prelude.{codes, ◌==◌}
use Rattle.json.specs.Json.{Json, string, object, Members, no_members, member}
use Rattle.riichi_hand.specs.Rules.{Rules}
use Rattle.riichi_score.specs.declared.payers.Payment.{Payment}
use Rattle.riichi_score.specs.declared.payers.Payment.TheVariants.{Ron, Tsumo, DealerTsumo}
use Rattle.riichi_score.specs.declared.score.Score.{Score}
use Rattle.riichi_score.specs.declared.answer.WinAnswer.{WinAnswer}
use Rattle.riichi_score.specs.declared.answer.WinAnswer.TheVariants.{Won, NoYaku, NoWin}
use Rattle.riichi_text.specs.Tiles.{letter_of}
use Rattle.riichi_shape.specs.declared.accepts.Accepts.{Accepts}
use Rattle.riichi_shape.specs.declared.accepts.Accepts.TheVariants.{Thirteen, Fourteen}
use Rattle.riichi_shape.specs.declared.discard.Discard.{Discard}
use Rattle.riichi_shape.specs.declared.shape_answer.ShapeAnswer.{ShapeAnswer}
use Rattle.riichi_tiles.specs.HeldKinds.{is_held}
use Rattle.riichi_tiles.proofs.KindSets.{same_members}
use Rattle.riichi_yaku.specs.declared.table.Yaku.{Yaku}
use Rattle.riichi_yaku.specs.declared.table.Yaku.TheVariants.{Riichi}
use Rattle.riichi_yaku.specs.Table.{every_yaku, number}
use Rattle.riichi_yaku.specs.declared.table.TheConstants.Yaku.{COUNT}
use Rattle.riichi_yaku.specs.YakuSets.{yaku_in}
use Rattle.riichi_yaku.proofs.Sets.{in_table, below_count}
use Rattle.desk_core.specs.declared.answer.Answer.{Answer}
use Rattle.desk_core.specs.declared.answer.Answer.TheVariants as answer
use Rattle.desk_json.specs.Trees.{answer_of_sort, json_items, list_of, members_of, natural, kind_tree, yaku_tree, payment_tree, score_tree, win_tree, kinds_held, waits_tree, live_tree, accepted_members, discard_tree, accepts_members, shape_tree, answer_tree}
use Rattle.desk_json.specs.Whole.{Each, IsWholePayment, IsWholeScore, IsWholePair, IsWholeList, IsWholeDiscard, IsWholeAccepts, IsWholeShape, IsWholeWin, IsWhole}

-- ---- lists

same_items : {X : Type 0} (tree : X → Json) (P : X → Type 0) → ((x y : X) → P x → P y → tree x ≡ tree y → x ≡ y)
    → (xs ys : List X) → Each P xs → Each P ys → json_items tree xs ≡ json_items tree ys → xs ≡ ys
same_items tree P same [] [] h k e = refl
same_items tree P same [] (y ∷ ys) h k e = cc
same_items tree P same (x ∷ xs) [] h k e = cc
same_items tree P same (x ∷ xs) (y ∷ ys) h k e =
    let heads : tree x ≡ tree y = cc in
    let tails : json_items tree xs ≡ json_items tree ys = cc in
    let one : x ≡ y = same x y h.0 k.0 heads in
    let rest : xs ≡ ys = same_items tree P same xs ys h.1 k.1 tails in
    cc

pub each_of_all : {X : Type 0} (xs : List X) → Each (λ x. Unit {0}) xs
each_of_all [] = tt
each_of_all (x ∷ xs) = (tt, each_of_all xs)

-- the values of those whose value passes a test
chosen_values : {X : Type 0} (f : X → ℕ) (test : ℕ → Bool) (xs : List X) → map f (filter (λ x. test (f x)) xs) ≡ filter test (map f xs)
chosen_values f test [] = refl
chosen_values f test (x ∷ xs) = by_test (test (f x)) ∙ ap (λ ns. cond (test (f x)) (f x ∷ ns) ns) (chosen_values f test xs)
  where
    by_test : (t : Bool) → map f (cond t (x ∷ filter (λ y. test (f y)) xs) (filter (λ y. test (f y)) xs))
        ≡ cond t (f x ∷ map f (filter (λ y. test (f y)) xs)) (map f (filter (λ y. test (f y)) xs))
    by_test true = refl
    by_test false = refl

-- ---- the numbers that pass a test

first_above : (test : ℕ → Bool) (a b n x : ℕ) (xs : List ℕ) → a < b → filter test (range_with_len b n) ≡ x ∷ xs → a < x
first_above test a b zero x xs low e = let none : [] ≡ x ∷ xs = e in absurd (let no : ⊥ = cc in no)
first_above test a b (suc n) x xs low e = by_test (test b) (first_above test a (b + 1) n x xs (omega arith)) e
  where
    by_test : (t : Bool) → (filter test (range_with_len (b + 1) n) ≡ x ∷ xs → a < x)
        → cond t (b ∷ filter test (range_with_len (b + 1) n)) (filter test (range_with_len (b + 1) n)) ≡ x ∷ xs → a < x
    by_test true later e = let same : b ≡ x = cc in omega arith
    by_test false later e = later e

same_tails : (a : ℕ) (xs ys : List ℕ) → a ∷ xs ≡ a ∷ ys → xs ≡ ys
same_tails a xs ys e = cc

-- at a, and from there on
past : (p q : ℕ → Bool) (a i : ℕ) → a ≤ i → p a ≡ q a → (a + 1 ≤ i → p i ≡ q i) → p i ≡ q i
past p q a i low here rest =
    ⊎_elim (λ above. rest (omega arith)) (λ not_above. let at : a ≡ i = omega arith in sym (ap p at) ∙ here ∙ ap q at) (cases_lt a i)

same_tests : (p q : ℕ → Bool) (a n : ℕ) → filter p (range_with_len a n) ≡ filter q (range_with_len a n) → (i : ℕ) → a ≤ i → i < a + n → p i ≡ q i
same_tests p q a zero e i low high = absurd (omega arith)
same_tests p q a (suc n) e i low high = by_tests (p a) (q a) refl refl (λ rest above. same_tests p q (a + 1) n rest i above (omega arith)) e
  where
    by_tests : (s t : Bool) → p a ≡ s → q a ≡ t → (filter p (range_with_len (a + 1) n) ≡ filter q (range_with_len (a + 1) n) → a + 1 ≤ i → p i ≡ q i)
        → cond s (a ∷ filter p (range_with_len (a + 1) n)) (filter p (range_with_len (a + 1) n)) ≡ cond t (a ∷ filter q (range_with_len (a + 1) n)) (filter q (range_with_len (a + 1) n))
        → p i ≡ q i
    by_tests true true s t rest e = past p q a i low (s ∙ sym t) (rest (same_tails a _ _ e))
    by_tests false false s t rest e = past p q a i low (s ∙ sym t) (rest e)
    by_tests true false s t rest e = absurd (omega (arith, first_above q a (a + 1) n a (filter p (range_with_len (a + 1) n)) (omega arith) (sym e)))
    by_tests false true s t rest e = absurd (omega (arith, first_above p a (a + 1) n a (filter q (range_with_len (a + 1) n)) (omega arith) e))

pub each_in_range : (test : ℕ → Bool) (a n end : ℕ) → a + n ≤ end → Each (λ k. k < end) (filter test (range_with_len a n))
each_in_range test a zero end within = tt
each_in_range test a (suc n) end within = by_test (test a) (each_in_range test (a + 1) n end (omega arith))
  where
    by_test : (t : Bool) → Each (λ k. k < end) (filter test (range_with_len (a + 1) n))
        → Each (λ k. k < end) (cond t (a ∷ filter test (range_with_len (a + 1) n)) (filter test (range_with_len (a + 1) n)))
    by_test true rest = (omega arith, rest)
    by_test false rest = rest

-- ---- kinds

first_kind : ℕ → ℕ
first_kind letter = cond (letter == 109) 0 (cond (letter == 112) 9 (cond (letter == 115) 18 27))

kind_from : (kind : ℕ) → kind < 34 → kind ≡ first_kind (letter_of kind) + kind % 9
unfolding first_kind
kind_from kind low = grind (arith, nat_tests)

same_kinds : (k l : ℕ) → k < 34 → l < 34 → kind_tree k ≡ kind_tree l → k ≡ l
same_kinds k l low high e =
    let digits : 49 + k % 9 ≡ 49 + l % 9 = cc in
    let letters : letter_of k ≡ letter_of l = cc in
    omega (arith, kind_from k low, kind_from l high, ap first_kind letters, digits)

-- ---- wins

same_numbers : (m n : ℕ) → m < 2 ^ 64 → n < 2 ^ 64 → natural m ≡ natural n → m ≡ n
same_numbers m n low high e = let texts : decimal m ≡ decimal n = cc in decimal_injective m n low high texts

same_yaku : (x y : Yaku) → yaku_tree x ≡ yaku_tree y → x ≡ y
unfolding yaku_tree
same_yaku x y e =
    let trees : natural (number x) ≡ natural (number y) = cc in
    let numbers : number x ≡ number y = same_numbers (number x) (number y) (omega (arith, below_count x)) (omega (arith, below_count y)) trees in
    sym (in_table x) ∙ ap (λ n. get_or every_yaku n Riichi) numbers ∙ in_table y

-- whether a set has the yaku of a number
has : ℕ → ℕ → Bool
has set n = bit_at set n == 1

numbers_in : (set : ℕ) → map number (yaku_in set) ≡ filter (has set) (range_with_len 0 COUNT)
unfolding yaku_in has
numbers_in set =
    let numbers : map number every_yaku ≡ range_with_len 0 COUNT = refl in
    chosen_values number (has set) every_yaku ∙ ap (filter (has set)) numbers

same_sets : (a b : ℕ) → a < 2 ^ COUNT → b < 2 ^ COUNT → json_items yaku_tree (yaku_in a) ≡ json_items yaku_tree (yaku_in b) → a ≡ b
unfolding is_held has
same_sets a b low high e =
    let yaku = same_items yaku_tree (λ y. Unit {0}) (λ x y h k. same_yaku x y) (yaku_in a) (yaku_in b) (each_of_all (yaku_in a)) (each_of_all (yaku_in b)) e in
    let numbers = sym (numbers_in a) ∙ ap (map number) yaku ∙ numbers_in b in
    same_members COUNT a b low high (λ i within. same_tests (has a) (has b) 0 COUNT numbers i (omega arith) (omega arith))

-- the second letter of an object's first name, by which payments differ
second_letter : Json → ℕ
second_letter (object (member name value more)) = get_or name 1 0
second_letter json = 0

same_payments : (p q : Payment) → IsWholePayment p → IsWholePayment q → payment_tree p ≡ payment_tree q → p ≡ q
unfolding payment_tree second_letter
same_payments (Ron m) (Ron n) h k e = let numbers : natural m ≡ natural n = cc in ap Ron (same_numbers m n (omega arith) (omega arith) numbers)
same_payments (Tsumo o d) (Tsumo o' d') h k e =
    let dealers : natural d ≡ natural d' = cc in
    let others : natural o ≡ natural o' = cc in
    let one = same_numbers d d' (omega arith) (omega arith) dealers in
    let other = same_numbers o o' (omega arith) (omega arith) others in
    λ i. Tsumo (other i) (one i)
same_payments (DealerTsumo m) (DealerTsumo n) h k e = let numbers : natural m ≡ natural n = cc in ap DealerTsumo (same_numbers m n (omega arith) (omega arith) numbers)
same_payments p q h k e = absurd (omega (arith, ap second_letter e))

same_scores : (rules others : Rules) (a b : Score) → IsWholeScore a → IsWholeScore b → score_tree rules a ≡ score_tree others b → a ≡ b
unfolding score_tree
same_scores rules others a b h k e =
    let hans : natural a.han ≡ natural b.han = cc in
    let fus : natural a.fu ≡ natural b.fu = cc in
    let doras : natural a.dora ≡ natural b.dora = cc in
    let bases : natural a.base ≡ natural b.base = cc in
    let gains : natural a.gain ≡ natural b.gain = cc in
    let payments : payment_tree a.payment ≡ payment_tree b.payment = cc in
    let sets : json_items yaku_tree (yaku_in a.yaku) ≡ json_items yaku_tree (yaku_in b.yaku) = cc in
    let han = same_numbers a.han b.han (omega arith) (omega arith) hans in
    let fu = same_numbers a.fu b.fu (omega arith) (omega arith) fus in
    let dora = same_numbers a.dora b.dora (omega arith) (omega arith) doras in
    let base = same_numbers a.base b.base (omega arith) (omega arith) bases in
    let gain = same_numbers a.gain b.gain (omega arith) (omega arith) gains in
    let payment = same_payments a.payment b.payment h.payment k.payment payments in
    let yaku = same_sets a.yaku b.yaku h.yaku k.yaku sets in
    λ i. record { han = han i; fu = fu i; base = base i; yaku = yaku i; dora = dora i; payment = payment i; gain = gain i }

-- the fourth letter of an answer's sort, by which the sorts differ
sort_letter : Json → ℕ
sort_letter (object (member name (string sort) more)) = get_or sort 3 0
sort_letter json = 0

same_wins : (rules others : Rules) (a b : WinAnswer) → IsWholeWin a → IsWholeWin b → win_tree rules a ≡ win_tree others b → a ≡ b
unfolding win_tree score_tree sort_letter
same_wins rules others (Won a) (Won b) h k e = ap Won (same_scores rules others a b h k e)
same_wins rules others NoYaku NoYaku h k e = refl
same_wins rules others NoWin NoWin h k e = refl
same_wins rules others a b h k e = absurd (omega (arith, ap sort_letter e))

-- ---- waits

same_lists : (kinds others : List ℕ) → answer_of_sort (codes "waits") ((codes "kinds", list_of kind_tree kinds) ∷ []) ≡ answer_of_sort (codes "waits") ((codes "kinds", list_of kind_tree others) ∷ [])
    → json_items kind_tree kinds ≡ json_items kind_tree others
same_lists kinds others e = cc

set_kinds : (set : ℕ) → Each (λ k. k < 34) (kinds_held set)
unfolding kinds_held
set_kinds set = each_in_range (is_held set) 0 34 34 (omega arith)

same_kind_sets : (a b : ℕ) → a < 2 ^ 34 → b < 2 ^ 34 → kinds_held a ≡ kinds_held b → a ≡ b
unfolding kinds_held
same_kind_sets a b few as_few kinds = same_members 34 a b few as_few (λ i within. same_tests (is_held a) (is_held b) 0 34 kinds i (omega arith) (omega arith))

same_waits : (a b : ℕ) → a < 2 ^ 34 → b < 2 ^ 34 → waits_tree a ≡ waits_tree b → a ≡ b
unfolding waits_tree
same_waits a b few as_few e =
    same_kind_sets a b few as_few
    (same_items kind_tree (λ k. k < 34) same_kinds (kinds_held a) (kinds_held b) (set_kinds a) (set_kinds b) (same_lists (kinds_held a) (kinds_held b) e))

-- ---- shapes

same_pairs : (p q : ℕ × ℕ) → IsWholePair p → IsWholePair q → live_tree p ≡ live_tree q → p ≡ q
unfolding live_tree
same_pairs p q h k e =
    let kinds : kind_tree p.0 ≡ kind_tree q.0 = cc in
    let lives : natural p.1 ≡ natural q.1 = cc in
    let kind = same_kinds p.0 q.0 h.0 k.0 kinds in
    let live = same_numbers p.1 q.1 (omega (arith, h.1)) (omega (arith, k.1)) lives in
    λ i. (kind i, live i)

same_accepted : (xs ys : List (ℕ × ℕ)) → IsWholeList xs → IsWholeList ys → members_of (accepted_members xs) ≡ members_of (accepted_members ys) → xs ≡ ys
same_accepted xs ys h k e =
    let items : json_items live_tree xs ≡ json_items live_tree ys = cc in
    same_items live_tree IsWholePair same_pairs xs ys h.each k.each items

same_discards : (a b : Discard) → IsWholeDiscard a → IsWholeDiscard b → discard_tree a ≡ discard_tree b → a ≡ b
unfolding discard_tree
same_discards a b h k e =
    let kinds : kind_tree a.kind ≡ kind_tree b.kind = cc in
    let members : members_of (accepted_members a.accepted) ≡ members_of (accepted_members b.accepted) = cc in
    let kind = same_kinds a.kind b.kind h.kind k.kind kinds in
    let accepted = same_accepted a.accepted b.accepted h.accepted k.accepted members in
    λ i. record { kind = kind i; accepted = accepted i }

first_letter : Members → ℕ
first_letter no_members = 0
first_letter (member name value more) = get_or name 0 0

same_accepts : (a b : Accepts) → IsWholeAccepts a → IsWholeAccepts b → members_of (accepts_members a) ≡ members_of (accepts_members b) → a ≡ b
unfolding first_letter
same_accepts (Thirteen xs) (Thirteen ys) h k e = ap Thirteen (same_accepted xs ys h k e)
same_accepts (Fourteen xs) (Fourteen ys) h k e =
    let items : json_items discard_tree xs ≡ json_items discard_tree ys = cc in
    ap Fourteen (same_items discard_tree IsWholeDiscard same_discards xs ys h k items)
same_accepts a b h k e = absurd (omega (arith, ap first_letter e))

same_shapes : (a b : ShapeAnswer) → IsWholeShape a → IsWholeShape b → shape_tree a ≡ shape_tree b → a ≡ b
unfolding shape_tree
same_shapes a b h k e =
    let numbers : signed_decimal a.shanten ≡ signed_decimal b.shanten = cc in
    let members : members_of (accepts_members a.accepts) ≡ members_of (accepts_members b.accepts) = cc in
    let shanten = signed_decimal_injective a.shanten b.shanten h.shanten k.shanten numbers in
    let accepts = same_accepts a.accepts b.accepts h.accepts k.accepts members in
    λ i. record { shanten = shanten i; accepts = accepts i }

-- ---- answers

-- a win's sort has another letter than those of waits and shapes
win_apart : (rules : Rules) (win : WinAnswer) → (sort_letter (win_tree rules win) ≢ 116) × (sort_letter (win_tree rules win) ≢ 112)
unfolding win_tree score_tree sort_letter
win_apart rules (Won score) = (λ e. omega (arith, e), λ e. omega (arith, e))
win_apart rules other = (λ e. omega (arith, e), λ e. omega (arith, e))

pub same_answers : (rules others : Rules) (a b : Answer) → IsWhole a → IsWhole b → answer_tree rules a ≡ answer_tree others b → a ≡ b
unfolding answer_tree waits_tree shape_tree sort_letter
same_answers rules others (answer.Win a) (answer.Win b) h k e = ap answer.Win (same_wins rules others a b h k e)
same_answers rules others (answer.Win a) (answer.Waits b) h k e = absurd ((win_apart rules a).0 (ap sort_letter e))
same_answers rules others (answer.Win a) (answer.Shape b) h k e = absurd ((win_apart rules a).1 (ap sort_letter e))
same_answers rules others (answer.Waits a) (answer.Win b) h k e = absurd ((win_apart others b).0 (sym (ap sort_letter e)))
same_answers rules others (answer.Shape a) (answer.Win b) h k e = absurd ((win_apart others b).1 (sym (ap sort_letter e)))
same_answers rules others (answer.Waits a) (answer.Waits b) h k e = ap answer.Waits (same_waits a b h k e)
same_answers rules others (answer.Shape a) (answer.Shape b) h k e = ap answer.Shape (same_shapes a b h k e)
same_answers rules others a b h k e = absurd (omega (arith, ap sort_letter e))
