-- The items of a text.
use Rattle.std.proofs.Common.{◌≡◌, ℕ, Option, List, [], ◌∷◌, true, false, nat_eq, Some, None, ◌++◌, refl, sym, ap, ◌∙◌, append_assoc}
use Rattle.std.specs.Prelude.{if◌then◌else◌}
use Rattle.std.specs.List.{onto_first}
use Rattle.riichi_tiles.specs.Melds.{in_front, cut_at}
use Rattle.riichi_hand.specs.Words.{items_of}

-- The items of a text are what stands before its first comma and the items of the rest.
abbrev items_of_cut : List ℕ → Option (List ℕ × List ℕ) → List (List ℕ)
items_of_cut text None = text ∷ []
items_of_cut text (Some cut) = cut.0 ∷ items_of cut.1

onto_cut : (byte : ℕ) (bytes : List ℕ) (cut : Option (List ℕ × List ℕ)) → onto_first byte (items_of_cut bytes cut) ≡ items_of_cut (byte ∷ bytes) (in_front byte cut)
onto_cut byte bytes None = refl
onto_cut byte bytes (Some cut) = refl

items_of-cut : (text : List ℕ) → items_of text ≡ items_of_cut text (cut_at 44 text)
items_of-cut [] = refl
items_of-cut (byte ∷ bytes) =
    elim (nat_eq byte 44) as (λ test. (if test then [] ∷ items_of bytes else onto_first byte (items_of bytes)) ≡ items_of_cut (byte ∷ bytes) (if test then Some ([], bytes) else in_front byte (cut_at 44 bytes)))
    [ true ↦ refl | false ↦ ap (onto_first byte) (items_of-cut bytes) ∙ onto_cut byte bytes (cut_at 44 bytes) ]

-- Where the items of a text are those in front and those of the rest, the rest is one item, or begins with one.
pub last_item : (text : List ℕ) (front : List (List ℕ)) (rest : List ℕ) → items_of text ≡ front ++ items_of rest → cut_at 44 rest ≡ None → items_of text ≡ front ++ rest ∷ []
last_item text front rest are none = are ∙ ap (λ items. front ++ items) (items_of-cut rest ∙ ap (items_of_cut rest) none)

pub next_item : (text : List ℕ) (front : List (List ℕ)) (rest item after : List ℕ) → items_of text ≡ front ++ items_of rest → cut_at 44 rest ≡ Some (item, after)
    → items_of text ≡ (front ++ item ∷ []) ++ items_of after
next_item text front rest item after are some =
    are ∙ ap (λ items. front ++ items) (items_of-cut rest ∙ ap (items_of_cut rest) some) ∙ sym (append_assoc front (item ∷ []) (items_of after))

pub ruleset read_melds_facts = (last_item, next_item)
