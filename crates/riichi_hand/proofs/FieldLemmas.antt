-- Entries and one more word.
use Rattle.std.proofs.Common.{◌≡◌, ℕ, List, [], ◌∷◌, ◌++◌, Bool, true, false, Option, Some, None, nat_lt, length, refl, ◌∙◌, ap, arith}
use mathlib.Core.Path.{fun_ext}
use Rattle.std.specs.Prelude.{◌||◌, not, is_some}
use Rattle.std.specs.List.{list_any, cons_option}
use Rattle.std.proofs.Math.Bool.{or-false}
use Rattle.std.proofs.lemmas.Bool.{lt-ltb}
use Rattle.std.proofs.lemmas.List.Elements.{filter_map-append}
use Rattle.std.proofs.lemmas.List.Folds.{list_any-append}
use Rattle.riichi_hand.specs.declared.line.job_name.JobName.{JobName}
use Rattle.riichi_hand.specs.declared.line.key.Key.{Key}
use Rattle.riichi_hand.specs.declared.line.key.Key.TheVariants.{On, By, Seat, Round, Open, Riichi, Flags, Dora, Ura, Counters, Sticks, Seen}
use Rattle.riichi_hand.specs.Keys.{every_key, ValueOf, value_for_key, value_at}
use Rattle.riichi_hand.specs.Entries.{keyed_of, value_in, values_of, is_bad, is_doubled, first_item, first_or, is_again, entries_of, with_keyed}

abbrev as_list : {X : Type 0} → Option X → List X
as_list None = []
as_list (Some value) = value ∷ []

-- The values of one more word.

one_word : (job : JobName) (key : Key) (word : List ℕ) → values_of job (word ∷ []) key ≡ as_list (value_in key (keyed_of job word))
one_word job key word = elim (value_in key (keyed_of job word)) as (λ value. cons_option value [] ≡ as_list value) [ None ↦ refl | Some value ↦ refl ]

values_of-last : (job : JobName) (words : List (List ℕ)) (word : List ℕ) (key : Key) → values_of job (words ++ word ∷ []) key ≡ values_of job words key ++ as_list (value_in key (keyed_of job word))
values_of-last job words word key = filter_map-append (λ word. value_in key (keyed_of job word)) words (word ∷ []) ∙ ap (λ values. values_of job words key ++ values) (one_word job key word)

first_item-last : {X : Type 0} (values : List X) (value : Option X) → first_item (values ++ as_list value) ≡ first_or (first_item values) value
first_item-last [] None = refl
first_item-last [] (Some value) = refl
first_item-last (first ∷ values) None = refl
first_item-last (first ∷ values) (Some value) = refl

over_one : {X : Type 0} (values : List X) (value : Option X) → nat_lt 1 (length (values ++ as_list value)) ≡ (is_again (first_item values) value || nat_lt 1 (length values))
over_one [] None = refl
over_one [] (Some value) = refl
over_one (first ∷ []) None = refl
over_one (first ∷ []) (Some value) = refl
over_one (first ∷ second ∷ values) None = rw (lt-ltb 1 (length (first ∷ second ∷ values ++ [])) (omega arith), lt-ltb 1 (length (first ∷ second ∷ values)) (omega arith)) refl
over_one (first ∷ second ∷ values) (Some value) = lt-ltb 1 (length (first ∷ second ∷ values ++ value ∷ [])) (omega arith)

-- A test of every key.

or_apart : (a b c d : Bool) → ((a || b) || (c || d)) ≡ ((a || c) || (b || d))
or_apart true b c d = refl
or_apart false true true d = refl
or_apart false true false d = refl
or_apart false false true d = refl
or_apart false false false d = refl

list_any-or : (p q : Key → Bool) (keys : List Key) → list_any (λ key. p key || q key) keys ≡ (list_any p keys || list_any q keys)
list_any-or p q [] = refl
list_any-or p q (key ∷ keys) = ap (λ rest. (p key || q key) || rest) (list_any-or p q keys) ∙ or_apart (p key) (q key) (list_any p keys) (list_any q keys)

-- a value of one key comes again where that key has one
again : (values : (key : Key) → Option (ValueOf key)) (held : Key) (value : Option (ValueOf held)) → list_any (λ key. is_again (values key) (value_at key held value)) every_key ≡ is_again (values held) value
again values On value = or-false (is_again (values On) value)
again values By value = or-false (is_again (values By) value)
again values Seat value = or-false (is_again (values Seat) value)
again values Round value = or-false (is_again (values Round) value)
again values Open value = or-false (is_again (values Open) value)
again values Riichi value = or-false (is_again (values Riichi) value)
again values Flags value = or-false (is_again (values Flags) value)
again values Dora value = or-false (is_again (values Dora) value)
again values Ura value = or-false (is_again (values Ura) value)
again values Counters value = or-false (is_again (values Counters) value)
again values Sticks value = or-false (is_again (values Sticks) value)
again values Seen value = or-false (is_again (values Seen) value)

doubled-last : (job : JobName) (words : List (List ℕ)) (word : List ℕ) (keyed : Key × List ℕ) → keyed_of job word ≡ Some keyed
    → list_any (is_doubled job (words ++ word ∷ [])) every_key ≡ (is_again ((entries_of job words).value keyed.0) (value_for_key keyed.0 keyed.1) || list_any (is_doubled job words) every_key)
doubled-last job words word keyed is =
    let value = value_for_key keyed.0 keyed.1 in
    let each : (key : Key) → is_doubled job (words ++ word ∷ []) key ≡ (is_again (first_item (values_of job words key)) (value_at key keyed.0 value) || is_doubled job words key) =
    λ key. ap (λ values. nat_lt 1 (length values)) (values_of-last job words word key) ∙ over_one (values_of job words key) (value_in key (keyed_of job word))
    ∙ ap (λ (k : Option (Key × List ℕ)). is_again (first_item (values_of job words key)) (value_in key k) || is_doubled job words key) is in
    ap (λ (f : Key → Bool). list_any f every_key) (fun_ext each)
    ∙ list_any-or (λ key. is_again (first_item (values_of job words key)) (value_at key keyed.0 value)) (is_doubled job words) every_key
    ∙ ap (λ b. b || list_any (is_doubled job words) every_key) (again (entries_of job words).value keyed.0 value)

bad-last : (job : JobName) (words : List (List ℕ)) (word : List ℕ) (keyed : Key × List ℕ) → keyed_of job word ≡ Some keyed
    → list_any (is_bad job) (words ++ word ∷ []) ≡ (list_any (is_bad job) words || not (is_some (value_for_key keyed.0 keyed.1)))
bad-last job words word keyed is = list_any-append (is_bad job) words (word ∷ []) ∙ ap (λ b. list_any (is_bad job) words || b) (or-false (is_bad job word)) ∙ rw is refl

pub entries_of-last : (job : JobName) (words : List (List ℕ)) (word : List ℕ) (keyed : Key × List ℕ) → keyed_of job word ≡ Some keyed
    → entries_of job (words ++ word ∷ []) ≡ with_keyed (entries_of job words) keyed
entries_of-last job words word keyed is =
    let bad = bad-last job words word keyed is in
    let doubled = doubled-last job words word keyed is in
    let each : (key : Key) → first_item (values_of job (words ++ word ∷ []) key) ≡ first_or (first_item (values_of job words key)) (value_at key keyed.0 (value_for_key keyed.0 keyed.1)) =
    λ key. ap first_item (values_of-last job words word key) ∙ first_item-last (values_of job words key) (value_in key (keyed_of job word))
    ∙ ap (λ (k : Option (Key × List ℕ)). first_or (first_item (values_of job words key)) (value_in key k)) is in
    let values = fun_ext each in
    λ i. record { has_bad_word = bad i; has_doubled_key = doubled i; value = values i }
