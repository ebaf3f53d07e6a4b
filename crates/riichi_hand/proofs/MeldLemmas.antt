-- Melds and one more item.
use Rattle.std.proofs.Common.{◌≡◌, ℕ, suc, ◌≤◌, ◌<◌, List, [], ◌∷◌, ◌++◌, true, false, Option, Some, None, length, refl, sym, ◌∙◌, ap, arith, inl, inr, length-append}
use Rattle.std.specs.Prelude.{◌&&◌, nat_le, is_some, if◌then◌else◌}
use Rattle.std.specs.List.{list_all, filter_map, cons_option}
use Rattle.std.proofs.lemmas.Bool.{and_parts, leb-true, le-leb, lt-leb, cases_Bool}
use Rattle.std.proofs.lemmas.List.Folds.{list_all-append}
use Rattle.std.proofs.lemmas.List.Elements.{filter_map-append}
use Rattle.std.proofs.lemmas.Option.{cond_some}
use Rattle.riichi_tiles.specs.Melds.{meld_of}
use Rattle.riichi_tiles.specs.declared.meld.Meld.{Meld}
use Rattle.riichi_hand.specs.Values.{is_spelled, melds_of_items}

-- what the first melds have shown
pub record Stands (melds : List Meld) (items : List (List ℕ)) : Type 0 where
  pub each : list_all is_spelled items ≡ true
  pub few : length items ≤ 4
  pub melds_are : melds ≡ filter_map meld_of items

pub stands_from : (melds : List Meld) (items : List (List ℕ)) → Some melds ≡ melds_of_items items → Stands melds items
stands_from melds items told =
    let is = cond_some (list_all is_spelled items && nat_le (length items) 4) (filter_map meld_of items) melds (sym told) in
    let p = and_parts (list_all is_spelled items) (nat_le (length items) 4) is.0 in
    record { each = p.0; few = leb-true (length items) 4 p.1; melds_are = sym is.1 }

some_length : (item : List ℕ) (melds : List Meld) → is_spelled item ≡ true → length (cons_option (meld_of item) melds) ≡ suc (length melds)
some_length item melds = elim (meld_of item) as (λ (meld : Option Meld). is_some meld ≡ true → length (cons_option meld melds) ≡ suc (length melds)) [ None ↦ λ h. absurd (cc) | Some meld ↦ λ h. refl ]

-- as many melds as items
pub length_filter_map : (items : List (List ℕ)) → list_all is_spelled items ≡ true → length (filter_map meld_of items) ≡ length items
length_filter_map [] each = refl
length_filter_map (item ∷ items) each =
    let p = and_parts (is_spelled item) (list_all is_spelled items) each in
    some_length item (filter_map meld_of items) p.0 ∙ ap suc (length_filter_map items p.1)

-- a fifth item
pub melds_of_items_fifth : (items : List (List ℕ)) (item : List ℕ) → length items ≡ 4 → None ≡ melds_of_items (items ++ item ∷ [])
melds_of_items_fifth items item four =
    let over : nat_le (length (items ++ item ∷ [])) 4 ≡ false = lt-leb (length (items ++ item ∷ [])) 4 (omega (arith, length-append items (item ∷ []))) in
    rw over (elim (list_all is_spelled (items ++ item ∷ [])) as (λ each. None ≡ (if each && false then Some (filter_map meld_of (items ++ item ∷ [])) else None)) [ true ↦ refl | false ↦ refl ])

pub melds_of_items_meld : (melds : List Meld) (items : List (List ℕ)) (item : List ℕ) (meld : Meld) → Stands melds items → length items < 4 → meld_of item ≡ Some meld → Some (melds ++ meld ∷ []) ≡ melds_of_items (items ++ item ∷ [])
melds_of_items_meld melds items item meld stands room is =
    let few : nat_le (length (items ++ item ∷ [])) 4 ≡ true = le-leb (length (items ++ item ∷ [])) 4 (omega (arith, length-append items (item ∷ []))) in
    let one : filter_map meld_of (item ∷ []) ≡ meld ∷ [] = rw is refl in
    rw (few, list_all-append is_spelled items (item ∷ []), stands.each, is, filter_map-append meld_of items (item ∷ []), one, stands.melds_are) refl

-- What is refused stays refused.
pub melds_of_items_none : (items others : List (List ℕ)) → None ≡ melds_of_items items → None ≡ melds_of_items (items ++ others)
melds_of_items_none items others none =
    elim (cases_Bool (list_all is_spelled (items ++ others) && nat_le (length (items ++ others)) 4)) [
      | inl both ↦ absurd (
          let p = and_parts (list_all is_spelled (items ++ others)) (nat_le (length (items ++ others)) 4) both in
          let every = and_parts (list_all is_spelled items) (list_all is_spelled others) (rw list_all-append at p.0) in
          let few : nat_le (length items) 4 ≡ true = le-leb (length items) 4 (omega (arith, length-append items others, leb-true (length (items ++ others)) 4 p.1)) in
          let e : None ≡ Some (filter_map meld_of items) = rw (every.0, few) at none in cc)
      | inr other ↦ rw other refl
    ]

pub ruleset add_meld_facts = (stands_from, length_filter_map, melds_of_items_fifth, melds_of_items_meld)
