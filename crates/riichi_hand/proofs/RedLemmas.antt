-- The digits 0 of a line's texts are fives of its hand, its winning tile and its melds.
use Rattle.std.proofs.Common.{◌≡◌, ℕ, ◌+◌, ◌<◌, ◌≤◌, zero, suc, Bool, true, false, List, [], ◌∷◌, Option, None, Some, nat_eq, nat_lt, nat_le, get_or, refl, sym, ap, ◌∙◌, subst, inl, inr, arith}
use Rattle.std.specs.Prelude.{◌&&◌, if◌then◌else◌, length, slice_index, unwrap_or, is_some, not}
use Rattle.std.specs.List.{sum, find, filter_map, list_all, onto_first, cons_option}
use Rattle.std.proofs.lemmas.Bool.{cases_Bool, and_parts, eqb-true, eq-eqb, le-ltb, le-leb, ltb-true, ltb-false, false≢true}
use Rattle.std.proofs.lemmas.List.Sums.{sum_by-cons}
use Rattle.std.proofs.lemmas.List.Folds.{list_any_at}
use Rattle.std.proofs.lemmas.List.FromFn.{get_or-range_with_len, length-range_with_len}
use Rattle.riichi_tiles.specs.Notation.{is_digit, is_suit, suit_has, first_of_letter, closing, counts_of}
use Rattle.riichi_tiles.specs.Melds.{every_kind, tiles, tiles_of, meld_of}
use Rattle.riichi_tiles.specs.Reds.{zeros, capped_at_four}
use Rattle.riichi_tiles.specs.declared.meld.Meld.{Meld}
use Rattle.riichi_tiles.proofs.MeldText.{find_passes}
use Rattle.riichi_tiles.proofs.ReadZeros.{zeros_counted, zeros_meld}
use Rattle.riichi_hand.specs.Words.{items_of}
use Rattle.riichi_hand.specs.Values.{is_spelled, melds_of}
use Rattle.riichi_hand.specs.Rules.{Rules, is_on}
use Rattle.riichi_hand.specs.declared.win.WinParts.{WinParts}
use Rattle.riichi_hand.specs.declared.line.needed.WinKeys.{WinKeys}
use Rattle.riichi_hand.specs.declared.line.key.Key.TheVariants.{On, Dora, Ura, Seen, Open}
use Rattle.riichi_hand.specs.declared.fault.TextName.TheVariants as text
use Rattle.riichi_hand.specs.declared.fault.LineCode.TheVariants.{H4, H7, H8, H9}
use Rattle.riichi_hand.specs.declared.fault.LineFault.{LineFault}
use Rattle.riichi_hand.specs.Faults.{coded, first_fault, fault_or}
use Rattle.riichi_hand.specs.Win.{no_reds, without_reds, kept_under, copies_won, copies_with_indicators, is_out_of_range, has_wrong_size, has_five_in, has_too_many_reds, win_faults, win_of}
use Rattle.riichi_hand.specs.Parts.{LineParts, value}
use Rattle.riichi_hand.specs.Texts.{texts_of, text_fault, counts_if_given, melds_if_given, only_kind, zeros_in, reds, joined_reds}
use Rattle.riichi_hand.specs.Jobs.{win_parts}
use Rattle.riichi_hand.specs.Lines.{text_faults}
use Rattle.riichi_hand.specs.declared.line.texts.Texts.{Texts}
use Rattle.riichi_hand.proofs.OutcomeLemmas.{kept_parts, win_of_kept}
use Rattle.riichi_hand.specs.declared.switch.Switch.TheVariants.{RedFives}

-- a letter of a suit that has a five, and the kind of this five
pub record IsOfFives (letter kind : ℕ) : Type 0 where
  pub suit : is_suit letter ≡ true
  pub has : suit_has letter 48 ≡ true
  pub kind_is : first_of_letter letter + 4 ≡ kind
  pub near : kind < 34

-- The winning tile.

one_of_sum : (xs : List ℕ) (i : ℕ) → get_or xs i 0 ≤ sum xs
one_of_sum [] i = omega arith
one_of_sum (x ∷ xs) zero = omega (arith, sum_by-cons (λ n. n) x xs)
one_of_sum (x ∷ xs) (suc i) = omega (arith, sum_by-cons (λ n. n) x xs, one_of_sum xs i)

two_of_sum : (xs : List ℕ) (i j : ℕ) → (i ≡ j → ⊥) → get_or xs i 0 + get_or xs j 0 ≤ sum xs
two_of_sum [] i j apart = omega arith
two_of_sum (x ∷ xs) zero zero apart = absurd (apart refl)
two_of_sum (x ∷ xs) zero (suc j) apart = omega (arith, sum_by-cons (λ n. n) x xs, one_of_sum xs j)
two_of_sum (x ∷ xs) (suc i) zero apart = omega (arith, sum_by-cons (λ n. n) x xs, one_of_sum xs i)
two_of_sum (x ∷ xs) (suc i) (suc j) apart = omega (arith, sum_by-cons (λ n. n) x xs, two_of_sum xs i j (λ same. apart (ap suc same)))

-- of a kind there is no more than the one tile
only_copies : (counts : List ℕ) (winning kind : ℕ) → only_kind counts ≡ Some winning → slice_index counts kind ≤ (if nat_eq winning kind then 1 else 0)
only_copies counts winning kind is =
    elim (cases_Bool (nat_eq (sum counts) 1)) [
      | inl one ↦
          let found : find (λ k. nat_lt 0 (slice_index counts k)) every_kind ≡ Some winning = rw one at is in
          let some : 0 < slice_index counts winning = ltb-true 0 (slice_index counts winning) (find_passes (λ k. nat_lt 0 (slice_index counts k)) every_kind winning found) in
          let all : sum counts ≡ 1 = eqb-true (sum counts) 1 one in
          elim (cases_Bool (nat_eq winning kind)) [
            | inl same ↦ rw same (omega (arith, all, one_of_sum counts kind))
            | inr other ↦ rw other (omega (arith, all, some, two_of_sum counts winning kind (λ same. false≢true (sym other ∙ eq-eqb winning kind same))))
          ]
      | inr not_one ↦ absurd (let e : None ≡ Some winning = rw not_one at is in cc)
    ]

on_few : (letter kind : ℕ) (on : Option (List ℕ)) (winning : ℕ) → IsOfFives letter kind → only_kind (counts_if_given on) ≡ Some winning → zeros letter (unwrap_or on []) ≤ (if nat_eq winning kind then 1 else 0)
on_few letter kind None winning five is = omega arith
on_few letter kind (Some text) winning five is =
    let few = zeros_counted letter text five.suit five.has (omega (arith, five.kind_is, five.near)) in
    let copies = only_copies (counts_of text) winning kind is in
    let same : slice_index (counts_of text) (first_of_letter letter + 4) ≡ slice_index (counts_of text) kind = ap (slice_index (counts_of text)) five.kind_is in
    omega (arith, few, copies, same)

-- The melds: the digits 0 of a text are those of its items.

abbrev all_zeros : ℕ → List (List ℕ) → ℕ
all_zeros letter [] = 0
all_zeros letter (item ∷ items) = zeros letter item + all_zeros letter items

abbrev front_item : List (List ℕ) → List ℕ
front_item [] = []
front_item (item ∷ items) = item

onto_front : (byte : ℕ) (items : List (List ℕ)) → front_item (onto_first byte items) ≡ byte ∷ front_item items
onto_front byte [] = refl
onto_front byte (item ∷ items) = refl

closing_front : (text : List ℕ) → closing text ≡ closing (front_item (items_of text))
closing_front [] = refl
closing_front (byte ∷ bytes) =
    elim (cases_Bool (nat_eq byte 44)) [
      | inl comma ↦ rw (eqb-true byte 44 comma) refl
      | inr other ↦
          let later : closing (byte ∷ bytes) ≡ closing (byte ∷ front_item (items_of bytes)) = ap (λ (c : ℕ). if is_digit byte then c else (if is_suit byte then byte else 0)) (closing_front bytes) in
          rw other (later ∙ ap closing (sym (onto_front byte (items_of bytes))))
    ]

abbrev one_zero : ℕ → ℕ → ℕ → ℕ
one_zero letter byte closed = if nat_eq byte 48 && nat_eq closed letter then 1 else 0

zeros_onto : (letter byte : ℕ) (items : List (List ℕ)) → all_zeros letter (onto_first byte items) ≡ one_zero letter byte (closing (front_item items)) + all_zeros letter items
zeros_onto letter byte [] = let n = one_zero letter byte 0 in let e : all_zeros letter (onto_first byte []) ≡ (n + 0) + 0 = refl in e ∙ omega arith
zeros_onto letter byte (item ∷ items) =
    let n = one_zero letter byte (closing item) in
    let e : all_zeros letter (onto_first byte (item ∷ items)) ≡ (n + zeros letter item) + all_zeros letter items = refl in
    e ∙ omega arith

zeros_items : (letter : ℕ) (text : List ℕ) → zeros letter text ≡ all_zeros letter (items_of text)
zeros_items letter [] = refl
zeros_items letter (byte ∷ bytes) =
    elim (cases_Bool (nat_eq byte 44)) [
      | inl comma ↦ rw (eqb-true byte 44 comma) (ap (λ (n : ℕ). 0 + n) (zeros_items letter bytes))
      | inr other ↦
          let one : zeros letter (byte ∷ bytes) ≡ one_zero letter byte (closing bytes) + zeros letter bytes = refl in
          let front : one_zero letter byte (closing bytes) ≡ one_zero letter byte (closing (front_item (items_of bytes))) = ap (one_zero letter byte) (closing_front bytes) in
          rw other (omega (arith, one, front, zeros_onto letter byte (items_of bytes), zeros_items letter bytes))
    ]

meld_few : (letter kind : ℕ) (item : List ℕ) (rest : ℕ) (melds : List Meld) (meld : Option Meld) → IsOfFives letter kind → meld_of item ≡ meld → is_some meld ≡ true → rest ≤ tiles melds kind
    → zeros letter item + rest ≤ tiles (cons_option meld melds) kind
meld_few letter kind item rest melds None five is some few = absurd (cc)
meld_few letter kind item rest melds (Some meld) five is some few =
    let one = zeros_meld letter item meld is five.suit five.has (omega (arith, five.kind_is, five.near)) in
    let same : tiles_of meld (first_of_letter letter + 4) ≡ tiles_of meld kind = ap (tiles_of meld) five.kind_is in
    omega (arith, one, same, few)

items_few : (letter kind : ℕ) (items : List (List ℕ)) → IsOfFives letter kind → list_all is_spelled items ≡ true → all_zeros letter items ≤ tiles (filter_map meld_of items) kind
items_few letter kind [] five each = omega arith
items_few letter kind (item ∷ items) five each =
    let p = and_parts (is_spelled item) (list_all is_spelled items) each in
    meld_few letter kind item (all_zeros letter items) (filter_map meld_of items) (meld_of item) five refl p.0 (items_few letter kind items five p.1)

melds_few : (letter kind : ℕ) (text : List ℕ) → IsOfFives letter kind → is_some (melds_of text) ≡ true → zeros letter text ≤ tiles (unwrap_or (melds_of text) []) kind
unfolding melds_of
melds_few letter kind text five some =
    let items = items_of text in
    elim (cases_Bool (list_all is_spelled items && nat_le (length items) 4)) [
      | inl both ↦ rw both (omega (arith, zeros_items letter text, items_few letter kind items five (and_parts (list_all is_spelled items) (nat_le (length items) 4) both).0))
      | inr other ↦ absurd (let e : false ≡ true = rw other at some in cc)
    ]

open_few : (letter kind : ℕ) (melds : Option (List ℕ)) → IsOfFives letter kind → is_some (melds_if_given melds) ≡ true → zeros letter (unwrap_or melds []) ≤ tiles (unwrap_or (melds_if_given melds) []) kind
open_few letter kind None five some = omega arith
open_few letter kind (Some text) five some = melds_few letter kind text five some

-- The red fives of a win, among hand, melds and the winning tile.

zeros_held : (rules : Rules) (parts : LineParts) (winning : ℕ) (keys : WinKeys) (letter kind : ℕ) → IsOfFives letter kind → only_kind (texts_of parts).on ≡ Some winning
    → is_some (melds_if_given (value Open parts)) ≡ true → zeros_in parts letter ≤ copies_won (win_parts rules parts (texts_of parts) winning keys) kind
zeros_held rules parts winning keys letter kind five only some =
    let hand = zeros_counted letter parts.hand five.suit five.has (omega (arith, five.kind_is, five.near)) in
    let same : slice_index (counts_of parts.hand) (first_of_letter letter + 4) ≡ slice_index (counts_of parts.hand) kind = ap (slice_index (counts_of parts.hand)) five.kind_is in
    let on = on_few letter kind (value On parts) winning five only in
    let melds = open_few letter kind (value Open parts) five some in
    omega (arith, hand, same, on, melds)

-- no more of each suit than fives
record HasRoom (win : WinParts) (reds : List ℕ) : Type 0 where
  characters : slice_index reds 0 ≤ copies_won win 4
  circles : slice_index reds 1 ≤ copies_won win 13
  bamboos : slice_index reds 2 ≤ copies_won win 22

not_too_many : (win : WinParts) → HasRoom win win.reds → has_too_many_reds win ≡ false
not_too_many win room = rw (
  le-ltb (copies_won win 4) (slice_index win.reds 0) room.characters,
  le-ltb (copies_won win 13) (slice_index win.reds 1) room.circles,
  le-ltb (copies_won win 22) (slice_index win.reds 2) room.bamboos,
) refl

room_of_line : (rules : Rules) (parts : LineParts) (winning : ℕ) (keys : WinKeys) → only_kind (texts_of parts).on ≡ Some winning → is_some (melds_if_given (value Open parts)) ≡ true
    → HasRoom (win_parts rules parts (texts_of parts) winning keys) (reds parts)
room_of_line rules parts winning keys only some = record {
  characters = zeros_held rules parts winning keys 109 4 (record { suit = refl; has = refl; kind_is = refl; near = omega arith }) only some;
  circles = zeros_held rules parts winning keys 112 13 (record { suit = refl; has = refl; kind_is = refl; near = omega arith }) only some;
  bamboos = zeros_held rules parts winning keys 115 22 (record { suit = refl; has = refl; kind_is = refl; near = omega arith }) only some;
}

-- What is above four isn't counted: with no more than four that is nothing.

capped_few : (n : ℕ) → n ≤ 4 → capped_at_four n ≡ n
capped_few n few = rw (le-leb n 4 few) refl

joined_few : (a b c : ℕ) → a + b + c ≤ 4 → capped_at_four (capped_at_four (capped_at_four a + capped_at_four b) + capped_at_four c) ≡ a + b + c
joined_few a b c few =
    rw (capped_few a (omega (arith, few)), capped_few b (omega (arith, few)), capped_few c (omega (arith, few)), capped_few (a + b) (omega (arith, few)), capped_few (a + b + c) few) refl

-- at most four of a kind
four_at_most : (win : WinParts) (kind : ℕ) → kind < 34 → has_five_in win ≡ false → copies_won win kind ≤ 4
four_at_most win kind near none =
    elim (cases_Bool (nat_lt 4 (copies_with_indicators win kind))) [
      | inl five ↦ absurd (
          let P : ℕ → Bool = λ k. nat_lt 4 (copies_with_indicators win k) in
          let at : P (get_or every_kind kind 0) ≡ true = ap P (get_or-range_with_len 0 34 kind 0 near ∙ omega arith) ∙ five in
          let bad = list_any_at P every_kind kind 0 (omega (arith, near, length-range_with_len 0 34)) at in false≢true (sym none ∙ bad))
      | inr four ↦ (let most = ltb-false 4 (copies_with_indicators win kind) four in omega (arith, most))
    ]

-- Five copies of a kind are an earlier fault, so what is read with the red fives as they are joined is what the line says.

five_copies_first : (a b : Bool) (later others : List (Option LineFault)) (one other : WinParts)
    → fault_or (first_fault (coded H4 a ∷ coded H8 b ∷ coded H9 true ∷ later)) one ≡ fault_or (first_fault (coded H4 a ∷ coded H8 b ∷ coded H9 true ∷ others)) other
five_copies_first true b later others one other = refl
five_copies_first false true later others one other = refl
five_copies_first false false later others one other = refl

win_of_cut : (win : WinParts) (cut : List ℕ) → is_on RedFives win.rules ≡ true → (has_five_in win ≡ false → cut ≡ win.reds) → win_of (record win { reds = cut }) ≡ fault_or (first_fault (win_faults win)) win
unfolding win_of
win_of_cut win cut keeps same =
    let given : WinParts = record win { reds = cut } in
    elim (cases_Bool (has_five_in win)) [
      | inl five ↦ rw five (five_copies_first (is_out_of_range win) (has_wrong_size win) _ _ _ win)
      | inr four ↦ (let told : given ≡ win = ap (λ (held : List ℕ). record win { reds = held }) (same four) in
          ap (λ (w : WinParts). fault_or (first_fault (win_faults w)) (kept_under w.rules w)) told ∙ rw keeps refl)
    ]

-- where no text has a fault the melds are spelled

melds_last : (hand on dora ura seen : Option LineFault) (spelled : Bool) → first_fault (hand ∷ on ∷ dora ∷ ura ∷ seen ∷ coded H7 (not spelled) ∷ []) ≡ None → spelled ≡ true
melds_last (Some fault) on dora ura seen spelled none = absurd (cc)
melds_last None (Some fault) dora ura seen spelled none = absurd (cc)
melds_last None None (Some fault) ura seen spelled none = absurd (cc)
melds_last None None None (Some fault) seen spelled none = absurd (cc)
melds_last None None None None (Some fault) spelled none = absurd (cc)
melds_last None None None None None false none = absurd (cc)
melds_last None None None None None true none = refl

melds_spelled : (parts : LineParts) → first_fault (text_faults parts) ≡ None → is_some (melds_if_given (value Open parts)) ≡ true
melds_spelled parts none =
    melds_last (text_fault text.Hand (Some parts.hand)) (text_fault text.On (value On parts)) (text_fault text.Dora (value Dora parts)) (text_fault text.Ura (value Ura parts))
    (text_fault text.Seen (value Seen parts)) (is_some (melds_if_given (value Open parts))) none

-- where there are no five copies of a kind, no red five is over
joined_where_few : (rules : Rules) (parts : LineParts) (winning : ℕ) (keys : WinKeys) → only_kind (texts_of parts).on ≡ Some winning
    → is_some (melds_if_given (value Open parts)) ≡ true → has_five_in (win_parts rules parts (texts_of parts) winning keys) ≡ false → joined_reds parts ≡ reds parts
joined_where_few rules parts winning keys only some none =
    let win = win_parts rules parts (texts_of parts) winning keys in
    let room = room_of_line rules parts winning keys only some in
    let hand = parts.hand in
    let on = unwrap_or (value On parts) [] in
    let melds = unwrap_or (value Open parts) [] in
    let plain : (letter kind : ℕ) → kind < 34 → zeros_in parts letter ≤ copies_won win kind
    → capped_at_four (capped_at_four (capped_at_four (zeros letter hand) + capped_at_four (zeros letter on)) + capped_at_four (zeros letter melds)) ≡ zeros_in parts letter =
    λ letter kind near few. joined_few (zeros letter hand) (zeros letter on) (zeros letter melds) (omega (arith, few, four_at_most win kind near none)) in
    rw (
      plain 109 4 (omega arith) room.characters,
      plain 112 13 (omega arith) room.circles,
      plain 115 22 (omega arith) room.bamboos,
    ) refl

win_of_line_here : (rules : Rules) (parts : LineParts) (winning : ℕ) (keys : WinKeys) (kept : List ℕ) → only_kind (texts_of parts).on ≡ Some winning
    → is_some (melds_if_given (value Open parts)) ≡ true → kept ≡ (if is_on RedFives rules then joined_reds parts else no_reds)
    → win_of (record (win_parts rules parts (texts_of parts) winning keys) { reds = kept })
    ≡ fault_or (first_fault (win_faults (win_parts rules parts (texts_of parts) winning keys))) (kept_under rules (win_parts rules parts (texts_of parts) winning keys))
win_of_line_here rules parts winning keys kept only some is =
    let win = win_parts rules parts (texts_of parts) winning keys in
    elim (cases_Bool (is_on RedFives rules)) [
      | inl keeps ↦
          let is_joined : kept ≡ joined_reds parts = rw keeps at is in
          let cut = win_of_cut win (joined_reds parts) keeps (joined_where_few rules parts winning keys only some) in
          ap (λ (held : List ℕ). win_of (record win { reds = held })) is_joined ∙ cut
          ∙ ap (λ (b : Bool). fault_or (first_fault (win_faults win)) (if b then win else without_reds win)) (sym keeps)
      | inr drops ↦
          let is_none : kept ≡ no_reds = rw drops at is in
          ap win_of (kept_parts rules win kept (is_none ∙ ap (λ (b : Bool). if b then win.reds else no_reds) (sym drops))) ∙ win_of_kept rules win refl
    ]

-- the same of texts that are those of the line
pub win_of_line_reds : (rules : Rules) (parts : LineParts) (texts : Texts) (winning : ℕ) (keys : WinKeys) (kept : List ℕ) → texts ≡ texts_of parts → only_kind texts.on ≡ Some winning
    → first_fault (text_faults parts) ≡ None → kept ≡ (if is_on RedFives rules then joined_reds parts else no_reds)
    → win_of (record (win_parts rules parts texts winning keys) { reds = kept })
    ≡ fault_or (first_fault (win_faults (win_parts rules parts texts winning keys))) (kept_under rules (win_parts rules parts texts winning keys))
win_of_line_reds rules parts texts winning keys kept are only none is =
    let P : Texts → Type 0 = λ t. only_kind t.on ≡ Some winning → win_of (record (win_parts rules parts t winning keys) { reds = kept })
    ≡ fault_or (first_fault (win_faults (win_parts rules parts t winning keys))) (kept_under rules (win_parts rules parts t winning keys)) in
    let here : P (texts_of parts) = λ one. win_of_line_here rules parts winning keys kept one (melds_spelled parts none) is in
    subst P (sym are) here only

-- the red fives of a line are never too many
pub line_has_room : (rules : Rules) (parts : LineParts) (winning : ℕ) (keys : WinKeys) → only_kind (texts_of parts).on ≡ Some winning → is_some (melds_if_given (value Open parts)) ≡ true
    → has_too_many_reds (win_parts rules parts (texts_of parts) winning keys) ≡ false
line_has_room rules parts winning keys only some = not_too_many (win_parts rules parts (texts_of parts) winning keys) (room_of_line rules parts winning keys only some)
