-- The first word of a text as an entry: the name of a key, the first `=`, the text of the value.
use Rattle.std.proofs.Common.{◌≡◌, ℕ, ◌+◌, ◌-◌, ◌<◌, ◌≤◌, ◌⊎◌, inl, inr, List, [], ◌∷◌, ◌++◌, Bool, true, Option, Some, None, nat_eq, nat_le, length, take, drop, refl, sym, ◌∙◌, ap, subst, arith, append_assoc, length-append, length-drop, length-take}
use Rattle.std.specs.Prelude.{slice_index}
use Rattle.std.specs.List.{list_all}
use Rattle.std.specs.Str.{bytes_eq}
use Rattle.std.proofs.lemmas.Bool.{cases_Bool, cases_lt, and_parts, and_from, leb-true}
use Rattle.std.proofs.lemmas.List.{get_or_append_left, take-append-drop, drop_all}
use Rattle.std.proofs.lemmas.List.Folds.{list_all-append}
use Rattle.std.proofs.lemmas.Slice.Eq.{bytes_eq-Decides}
use Rattle.riichi_tiles.specs.Melds.{cut_at}
use Rattle.riichi_tiles.proofs.CutLemmas.{plain, around, cut_at-front, Joins, cut_joins}
use Rattle.riichi_hand.specs.declared.line.job_name.JobName.{JobName}
use Rattle.riichi_hand.specs.declared.line.key.Key.{Key}
use Rattle.riichi_hand.specs.Values.{value_beside}
use Rattle.riichi_hand.specs.Keys.{key_names, key_named, has_key}
use Rattle.riichi_hand.specs.Words.{begins_with_space, from_words, word_of}
use Rattle.riichi_hand.specs.Entries.{keyed_by, keyed_cut, keyed_of}
use Rattle.riichi_hand.proofs.WordLemmas.{is_word, from_words-word, word_of-word}

-- What holds of each word of a table holds of one that is named there.
named_each : {X : Type 0} (p : List ℕ → Bool) (rows : List (List ℕ × X)) (word : List ℕ) (x : X) → list_all (λ row. p row.0) rows ≡ true → value_beside rows word ≡ Some x → p word ≡ true
named_each p [] word x all is = let bad : None ≡ Some x = is in absurd (cc)
named_each {X} p (row ∷ rows) word x all is =
    let each = and_parts (p row.0) (list_all (λ r. p r.0) rows) all in
    elim (cases_Bool (bytes_eq word row.0)) [
      | inl same ↦ ap p ((bytes_eq-Decides word row.0).0 same) ∙ each.0
      | inr other ↦ named_each p rows word x each.1 (rw other at is)
    ]

name_long : (name : List ℕ) (key : Key) → key_named name ≡ Some key → 2 ≤ length name
name_long name key is = leb-true 2 (length name) (named_each (λ n. nat_le 2 (length n)) key_names name key refl is)

name_plain : (name : List ℕ) (key : Key) → key_named name ≡ Some key → list_all (plain 61) name ≡ true
name_plain name key is = named_each (λ n. list_all (plain 61) n) key_names name key refl is

name_unspaced : (name : List ℕ) (key : Key) → key_named name ≡ Some key → list_all (plain 32) name ≡ true
name_unspaced name key is = named_each (λ n. list_all (plain 32) n) key_names name key refl is

-- A text begins with the name of a key that the job can have, and `=`.
pub record BeginsAsEntry (job : JobName) (text : List ℕ) : Type 0 where
  pub name : List ℕ
  pub rest : List ℕ
  pub key : Key
  pub is_named : key_named name ≡ Some key
  pub has : has_key job key ≡ true
  pub text_is : text ≡ name ++ 61 ∷ rest

pub entry_long : (job : JobName) (text : List ℕ) → BeginsAsEntry job text → 2 ≤ length text
entry_long job text begins = omega (arith, name_long begins.name begins.key begins.is_named, ap length begins.text_is, length-append begins.name (61 ∷ begins.rest))

-- Where the name of it ends.
pub name_ends : (job : JobName) (text : List ℕ) (len : ℕ) → ((name : List ℕ) (key : Key) → key_named name ≡ Some key → slice_index name 0 ≡ slice_index text 0 → slice_index name 1 ≡ slice_index text 1 → len ≡ length name)
    → (begins : BeginsAsEntry job text) → (len < length text) × (slice_index text len ≡ 61) × (key_named (take len text) ≡ Some begins.key)
name_ends job text len is begins =
    let name = begins.name in
    let long = name_long name begins.key begins.is_named in
    let ends : len ≡ length name = is name begins.key begins.is_named (same 0 name begins.rest text begins.text_is (omega arith)) (same 1 name begins.rest text begins.text_is (omega arith)) in
    let total : length text ≡ length (name ++ 61 ∷ begins.rest) = ap length begins.text_is in
    (size name begins.rest len ends total, rw (ends, begins.text_is) (at_end name begins.rest), rw (ends, begins.text_is) (ap key_named (front name begins.rest) ∙ begins.is_named))
  where
    same : (place : ℕ) (name rest text : List ℕ) → text ≡ name ++ 61 ∷ rest → place < length name → slice_index name place ≡ slice_index text place
    same place name rest text e short = rw e (sym (get_or_append_left name (61 ∷ rest) 0 place short))

    size : (name rest : List ℕ) (n : ℕ) {m : ℕ} → n ≡ length name → m ≡ length (name ++ 61 ∷ rest) → n < m
    size name rest n e f = omega (arith, length-append name (61 ∷ rest))

    at_end : (name rest : List ℕ) → slice_index (name ++ 61 ∷ rest) (length name) ≡ 61
    at_end [] rest = refl
    at_end (b ∷ bytes) rest = at_end bytes rest

    front : (name rest : List ℕ) → take (length name) (name ++ 61 ∷ rest) ≡ name
    front [] rest = refl
    front (b ∷ bytes) rest = ap (λ t. b ∷ t) (front bytes rest)

-- A word with a key begins so.

keyed_begins : (job : JobName) (word after : List ℕ) (keyed : Key × List ℕ) → keyed_of job word ≡ Some keyed → BeginsAsEntry job (word ++ after)
unfolding Joins
keyed_begins job word after keyed is = from_cut (cut_at 61 word) (cut_joins 61 word) is
  where
    from_has : (cut : List ℕ × List ℕ) (key : Key) → word ≡ cut.0 ++ 61 ∷ cut.1 → key_named cut.0 ≡ Some key → keyed_by job (Some key) cut.1 ≡ Some keyed → BeginsAsEntry job (word ++ after)
    from_has cut key joins named_as e =
        elim (cases_Bool (has_key job key)) [
          | inl has ↦ record {
            name = cut.0;
            rest = cut.1 ++ after;
            key = key;
            is_named = named_as;
            has = has;
            text_is = ap (λ t. t ++ after) joins ∙ append_assoc cut.0 (61 ∷ cut.1) after;
          }
          | inr not_its ↦ let bad : None ≡ Some keyed = rw not_its at e in absurd (cc)
        ]

    from_key : (cut : List ℕ × List ℕ) (found : Option Key) → word ≡ cut.0 ++ 61 ∷ cut.1 → key_named cut.0 ≡ found → keyed_by job found cut.1 ≡ Some keyed → BeginsAsEntry job (word ++ after)
    from_key cut None joins e h = let bad : None ≡ Some keyed = h in absurd (cc)
    from_key cut (Some key) joins e h = from_has cut key joins e h

    from_cut : (cut : Option (List ℕ × List ℕ)) → Joins 61 word cut → keyed_cut job cut ≡ Some keyed → BeginsAsEntry job (word ++ after)
    from_cut None joins h = let bad : None ≡ Some keyed = h in absurd (cc)
    from_cut (Some cut) joins h = from_key cut (key_named cut.0) joins refl h

not_keyed : (job : JobName) (word after : List ℕ) → (BeginsAsEntry job (word ++ after) → ⊥) → keyed_of job word ≡ None
not_keyed job word after never = go (keyed_of job word) refl
  where
    go : (found : Option (Key × List ℕ)) → keyed_of job word ≡ found → found ≡ None
    go None e = refl
    go (Some keyed) e = absurd (never (keyed_begins job word after keyed e))

-- The first word of a text.
pub record FirstWord (text : List ℕ) : Type 0 where
  pub word : List ℕ
  pub after : List ℕ
  pub text_is : text ≡ word ++ after
  pub unspaced : list_all (plain 32) word ≡ true
  pub ends : (after ≡ []) ⊎ (begins_with_space after ≡ true)

first_of : (text : List ℕ) → FirstWord text
first_of [] = record { word = []; after = []; text_is = refl; unspaced = refl; ends = inl refl }
first_of (byte ∷ bytes) =
    elim (cases_Bool (nat_eq byte 32)) [
      | inl space ↦ record { word = []; after = byte ∷ bytes; text_is = refl; unspaced = refl; ends = inr space }
      | inr other ↦
          let first = first_of bytes in
          record { word = byte ∷ first.word; after = first.after; text_is = ap (λ t. byte ∷ t) first.text_is; unspaced = rw other first.unspaced; ends = first.ends }
    ]

-- It is no entry.
pub refused : (job : JobName) (text : List ℕ) → (BeginsAsEntry job text → ⊥) → keyed_of job (word_of text) ≡ None
refused job text never =
    let first = first_of text in
    let Begins : List ℕ → Type 0 = λ t. BeginsAsEntry job t in
    let same : word_of text ≡ first.word = ap word_of first.text_is ∙ word_of-word first.word first.after first.unspaced first.ends in
    ap (keyed_of job) same ∙ not_keyed job first.word first.after (λ b. never (subst Begins (sym first.text_is) b))

-- It is an entry.
taken : (job : JobName) (text name value after : List ℕ) (key : Key) → text ≡ name ++ 61 ∷ (value ++ after) → key_named name ≡ Some key → has_key job key ≡ true
    → list_all (plain 32) value ≡ true → (after ≡ []) ⊎ (begins_with_space after ≡ true)
    → (keyed_of job (word_of text) ≡ Some (key, value)) × (from_words text ≡ text ∷ from_words after)
taken job text name value after key text_is is_named has unspaced ends =
    let word : List ℕ = name ++ 61 ∷ value in
    let joined : text ≡ word ++ after = text_is ∙ sym (append_assoc name (61 ∷ value) after) in
    let all : list_all (plain 32) word ≡ true = list_all-append (plain 32) name (61 ∷ value) ∙ and_from (list_all (plain 32) name) (list_all (plain 32) (61 ∷ value)) (name_unspaced name key is_named) unspaced in
    let some : is_word word ≡ true = not_empty name in
    let cut : cut_at 61 word ≡ Some (name, value) = cut_at-front 61 61 name value refl (name_plain name key is_named) in
    let same : word_of text ≡ word = ap word_of joined ∙ word_of-word word after all ends in (
      ap (keyed_of job) same ∙ ap (keyed_cut job) cut ∙ ap (λ found. keyed_by job found value) is_named ∙ rw has refl,
      ap from_words joined ∙ from_words-word word after all some ends ∙ ap (λ t. t ∷ from_words after) (sym joined),
    )
  where
    not_empty : (name : List ℕ) → is_word (name ++ 61 ∷ value) ≡ true
    not_empty [] = refl
    not_empty (byte ∷ bytes) = refl

-- The same of a text that is cut at its places.
pub taken_at : (job : JobName) (text : List ℕ) (len n : ℕ) (key : Key) → len < length text → slice_index text len ≡ 61 → key_named (take len text) ≡ Some key → has_key job key ≡ true
    → (rest value after : List ℕ) → rest ≡ take (length text - (len + 1)) (drop (len + 1) text) → value ≡ take n rest → after ≡ drop n rest
    → list_all (plain 32) (take n rest) ≡ true → (n < length rest → begins_with_space (drop n rest) ≡ true)
    → (keyed_of job (word_of text) ≡ Some (key, value)) × (from_words text ≡ text ∷ from_words after) × (length after < length text)
taken_at job text len n key within equals is_named has rest value after rest_is front back unspaced ends =
    let name : List ℕ = take len text in
    let joined : value ++ after ≡ rest = ap (λ t. t ++ after) front ∙ ap (λ t. take n rest ++ t) back ∙ take-append-drop n rest in
    let apart : text ≡ name ++ 61 ∷ (value ++ after) =
    around text len within ∙ ap (λ byte. name ++ byte ∷ take (length text - (len + 1)) (drop (len + 1) text)) equals
    ∙ ap (λ t. name ++ 61 ∷ t) (sym rest_is ∙ sym joined) in
    let end : (after ≡ []) ⊎ (begins_with_space after ≡ true) =
    elim (cases_lt n (length rest)) as (λ _. (after ≡ []) ⊎ (begins_with_space after ≡ true)) [ inl more ↦ inr (ap begins_with_space back ∙ ends more) | inr all ↦ inl (back ∙ drop_all n rest all) ] in
    let entry = taken job text name value after key apart is_named has (ap (list_all (plain 32)) front ∙ unspaced) end in
    let shorter : length after < length text = omega (
      arith,
      ap length back,
      length-drop n rest,
      ap length rest_is,
      length-take (length text - (len + 1)) (drop (len + 1) text),
      length-drop (len + 1) text,
      within,
    ) in
    (entry.0, entry.1, shorter)
