-- What there is at places, put one after another.
use Rattle.std.proofs.Common.{◌≡◌, ℕ, ◌+◌, ◌<◌, Bool, true, false, List, [], ◌∷◌, ◌++◌, Option, None, Some, get_or, length, map, take, refl, sym, ap, ◌∙◌, append_assoc}
use Rattle.std.proofs.lemmas.List.{append-nil, map-append, take_more}
use Rattle.std.proofs.lemmas.List.Elements.{filter_map-append}
use Rattle.std.specs.Prelude.{◌||◌}
use Rattle.std.specs.List.{flat_map}
use Rattle.desk_json.proofs.Lists.{begun_one_more, is_begun, joined_more}
use Rattle.desk_json.specs.Parts.{comma_if, listed}
use Rattle.desk_study.specs.Answers.{all_there, something_there, listed_next}

-- the texts of what is there are put, and it is known whether there is any
pub record IsListed {X : Type 0} (text : X → List ℕ) (places : List (Option X)) (before now : List ℕ) (later : Bool) : Type 0 where
  pub bytes : now ≡ before ++ listed (map text (all_there places))
  pub begun : later ≡ is_begun (all_there places)

pub none_listed : {X : Type 0} (text : X → List ℕ) (before : List ℕ) → IsListed text [] before before false
none_listed text before = record { bytes = sym (append-nil before); begun = refl }

module _ {X : Type 0} (text : X → List ℕ) where
  begun_map : (xs : List X) → is_begun (map text xs) ≡ is_begun xs
  begun_map [] = refl
  begun_map (x ∷ xs) = refl

  or_true : (later : Bool) → (later || true) ≡ true
  or_true false = refl
  or_true true = refl

  or_false : (later : Bool) → (later || false) ≡ later
  or_false false = refl
  or_false true = refl

  -- one place more
  one_listed : (places : List (Option X)) (place : Option X) (before now after : List ℕ) (later begun : Bool) → IsListed text places before now later
      → after ≡ now ++ listed_next text later place → begun ≡ (later || something_there place) → IsListed text (places ++ place ∷ []) before after begun
  one_listed places None before now after later begun so_far put is =
      let same : all_there (places ++ None ∷ []) ≡ all_there places = filter_map-append (λ (p : Option X). p) places (None ∷ []) ∙ append-nil (all_there places) in
      record {
        bytes = put ∙ append-nil now ∙ so_far.bytes ∙ ap (λ (xs : List X). before ++ listed (map text xs)) (sym same);
        begun = is ∙ or_false later ∙ so_far.begun ∙ ap (λ (xs : List X). is_begun xs) (sym same);
      }
  one_listed places (Some x) before now after later begun so_far put is =
      let there : List X = all_there places in
      let texts : List (List ℕ) = map text there in
      let more : all_there (places ++ Some x ∷ []) ≡ there ++ x ∷ [] = filter_map-append (λ (p : Option X). p) places (Some x ∷ []) in
      record {
        bytes =
            put ∙ ap (λ (t : List ℕ). t ++ (comma_if later ++ text x)) so_far.bytes ∙ ap (λ l. (before ++ listed texts) ++ (comma_if l ++ text x)) (so_far.begun ∙ sym (begun_map there))
            ∙ append_assoc before (listed texts) (comma_if (is_begun texts) ++ text x)
            ∙ ap (λ (t : List ℕ). before ++ t) (sym (joined_more texts (text x)) ∙ ap listed (sym (map-append text there (x ∷ []))) ∙ ap (λ (xs : List X). listed (map text xs)) (sym more));
        begun = is ∙ or_true later ∙ begun_one_more there x ∙ ap (λ (xs : List X). is_begun xs) (sym more);
      }

  -- the place that comes next of some
  pub next_listed : (places : List (Option X)) (i : ℕ) (place : Option X) (before now after : List ℕ) (later begun : Bool) → i < length places → place ≡ get_or places i place → IsListed text (take i places) before now later
      → after ≡ now ++ listed_next text later place → begun ≡ (later || something_there place) → IsListed text (take (i + 1) places) before after begun
  next_listed places i place before now after later begun low is so_far put begun_is =
      Rattle.std.proofs.Common.subst (λ (ps : List (Option X)). IsListed text ps before after begun) (sym (take_more places i place low ∙ ap (λ (p : Option X). take i places ++ p ∷ []) (sym is)))
      (one_listed (take i places) place before now after later begun so_far put begun_is)

  -- pieces of places that may be empty are those of what is there
  pub pieces_there : (piece : Option X → List ℕ) → piece None ≡ [] → ((x : X) → piece (Some x) ≡ text x) → (places : List (Option X)) → flat_map piece places ≡ flat_map text (all_there places)
  pieces_there piece none some [] = refl
  pieces_there piece none some (None ∷ places) = ap (λ (t : List ℕ). t ++ flat_map piece places) none ∙ pieces_there piece none some places
  pieces_there piece none some (Some x ∷ places) = ap (λ (t : List ℕ). t ++ flat_map piece places) (some x) ∙ ap (λ (t : List ℕ). text x ++ t) (pieces_there piece none some places)
