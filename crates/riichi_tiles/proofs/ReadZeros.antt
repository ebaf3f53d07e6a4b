-- A text has no more red fives of a suit than fives, so one that spells tiles has at most four, and a meld has no more
-- than it has fives.
use Rattle.std.proofs.Common.{◌≡◌, ℕ, ◌+◌, ◌<◌, ◌≤◌, true, cond, List, [], ◌∷◌, ◌++◌, Option, None, Some, nat_eq, nat_le, slice_index, ◌&&◌, refl, ap, ◌∙◌, inl, inr, arith, eq-eqb}
use Rattle.std.specs.List.{count_by}
use Rattle.std.specs.Prelude.{map}
use Rattle.std.proofs.lemmas.Bool.{cases_Bool, and_parts, eqb-true, le-leb}
use Rattle.std.proofs.lemmas.List.Sums.{sum_by-cons}
use Rattle.std.proofs.lemmas.List.FromFn.{get_or-map-range_with_len}
use Rattle.riichi_tiles.specs.Notation.{is_suit, suit_has, first_of_letter, closing, kinds, kind_at, is_kind, Spells, counts_of, notation_fault, or_fault}
use Rattle.riichi_tiles.specs.Reds.{zeros, zeros_of, capped_at_four, reds_in}
use Rattle.riichi_tiles.specs.Melds.{tiles_of, meld_of, meld_by_counts, meld_after, cut_named, cut_at, word_of_name, melded, reads_as, has_just, is_meld, every_kind}
use Rattle.riichi_tiles.specs.declared.meld.Meld.{Meld}
use Rattle.riichi_tiles.specs.declared.meld.MeldName.{MeldName}
use Rattle.riichi_tiles.specs.declared.meld.MeldName.TheVariants as names
use Rattle.riichi_tiles.specs.declared.notation.NotationFault.{NotationFault}
use Rattle.riichi_tiles.proofs.MeldText.{text_of_cut, find_passes, just_at}
use Rattle.riichi_tiles.proofs.Spelling.{counted_kinds}

-- a zero that a letter closes is a five of its suit
five_at : (letter byte : ℕ) (rest : List ℕ) → is_suit letter ≡ true → suit_has letter 48 ≡ true → byte ≡ 48 → closing rest ≡ letter
    → kind_at (byte ∷ rest) ≡ Some (first_of_letter letter + 4)
five_at letter byte rest suit has zero closed = rw (zero, closed, suit, has) refl

-- no more zeros than fives
pub zeros_few : (letter : ℕ) (text : List ℕ) → is_suit letter ≡ true → suit_has letter 48 ≡ true → zeros letter text ≤ count_by (is_kind (first_of_letter letter + 4)) (kinds text)
zeros_few letter [] suit has = omega arith
zeros_few letter (byte ∷ rest) suit has =
    let k : ℕ = first_of_letter letter + 4 in
    let p : Option ℕ → ℕ = λ t. cond (is_kind k t) 1 0 in
    let more : count_by (is_kind k) (kinds (byte ∷ rest)) ≡ p (kind_at (byte ∷ rest)) + count_by (is_kind k) (kinds rest) = sum_by-cons p (kind_at (byte ∷ rest)) (kinds rest) in
    let few = zeros_few letter rest suit has in
    elim (cases_Bool (nat_eq byte 48 && nat_eq (closing rest) letter)) [
      | inl red ↦
          let parts = and_parts (nat_eq byte 48) (nat_eq (closing rest) letter) red in
          let five = five_at letter byte rest suit has (eqb-true byte 48 parts.0) (eqb-true (closing rest) letter parts.1) in
          let one : p (kind_at (byte ∷ rest)) ≡ 1 = ap p five ∙ rw (eq-eqb k k refl) refl in
          rw red (omega (arith, more, few, one))
      | inr plain ↦ rw plain (omega (arith, more, few))
    ]

zeros_capped : (letter : ℕ) (text counts : List ℕ) → Spells text counts → is_suit letter ≡ true → suit_has letter 48 ≡ true → capped_at_four (zeros letter text) ≡ zeros letter text
zeros_capped letter text counts s suit has =
    let k : ℕ = first_of_letter letter + 4 in
    let most : nat_le (zeros letter text) 4 ≡ true =
    le-leb (zeros letter text) 4 (omega (arith, zeros_few letter text suit has, counted_kinds text counts s k, s.are_counts.at_most_four k)) in
    rw most refl

pub reds_in_zeros : (text counts : List ℕ) → Spells text counts → reds_in text ≡ zeros_of text
reds_in_zeros text counts s =
    rw (zeros_capped 109 text counts s refl refl, zeros_capped 112 text counts s refl refl, zeros_capped 115 text counts s refl refl) refl

-- no more zeros than fives among the counts
pub zeros_counted : (letter : ℕ) (text : List ℕ) → is_suit letter ≡ true → suit_has letter 48 ≡ true → first_of_letter letter + 4 < 34
    → zeros letter text ≤ slice_index (counts_of text) (first_of_letter letter + 4)
unfolding counts_of
zeros_counted letter text suit has near =
    let k : ℕ = first_of_letter letter + 4 in
    omega (arith, zeros_few letter text suit has, get_or-map-range_with_len (λ kind. count_by (is_kind kind) (kinds text)) 0 34 k k 0 near (omega arith))

-- The word of a meld and the colon have no zero.
zeros_word : (letter : ℕ) (name : MeldName) (rest : List ℕ) → zeros letter (word_of_name name ++ 58 ∷ rest) ≡ zeros letter rest
zeros_word letter names.Chi rest = omega arith
zeros_word letter names.Pon rest = omega arith
zeros_word letter names.Kan rest = omega arith
zeros_word letter names.Ankan rest = omega arith

-- what is read as a meld is counted as just its tiles
just_read : (name : MeldName) (fault : Option NotationFault) (counts : List ℕ) (meld : Meld) (kind : ℕ) → meld_by_counts name (or_fault fault counts) ≡ Some meld → kind < 34
    → slice_index counts kind ≡ tiles_of meld kind
just_read name (Some fault) counts meld kind is near = absurd (cc)
just_read name None counts meld kind is near =
    just_at counts meld kind (and_parts (is_meld meld) (has_just counts meld) (find_passes (reads_as counts) (map (melded name) every_kind) meld is)).1 near

zeros_after : (letter : ℕ) (text : List ℕ) (meld : Meld) (cut : Option (MeldName × List ℕ)) → cut_named (cut_at 58 text) ≡ cut → meld_after cut ≡ Some meld → is_suit letter ≡ true → suit_has letter 48 ≡ true
    → first_of_letter letter + 4 < 34 → zeros letter text ≤ tiles_of meld (first_of_letter letter + 4)
zeros_after letter text meld None cut is suit has near = absurd (cc)
zeros_after letter text meld (Some (name, rest)) cut is suit has near =
    let whole : zeros letter text ≡ zeros letter rest = ap (zeros letter) (text_of_cut text name rest cut) ∙ zeros_word letter name rest in
    let just = just_read name (notation_fault rest) (counts_of rest) meld (first_of_letter letter + 4) is near in
    omega (arith, whole, just, zeros_counted letter rest suit has near)

-- a meld's text has no more zeros than the meld has fives
pub zeros_meld : (letter : ℕ) (text : List ℕ) (meld : Meld) → meld_of text ≡ Some meld → is_suit letter ≡ true → suit_has letter 48 ≡ true → first_of_letter letter + 4 < 34
    → zeros letter text ≤ tiles_of meld (first_of_letter letter + 4)
unfolding meld_of
zeros_meld letter text meld is suit has near = zeros_after letter text meld (cut_named (cut_at 58 text)) refl is suit has near
