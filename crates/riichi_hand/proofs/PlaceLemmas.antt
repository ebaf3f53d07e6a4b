-- At which word of a line a fault stands.
use Rattle.std.proofs.Common.{◌≡◌, ℕ, inl, inr, List, [], ◌∷◌, ◌++◌, map, Bool, true, false, Option, Some, None, refl, sym, ◌∙◌, ap, append_assoc}
use Rattle.std.specs.Prelude.{◌||◌, option_map, is_some, if◌then◌else◌}
use Rattle.std.specs.List.{list_any}
use Rattle.std.proofs.lemmas.Bool.{cases_Bool, or_parts}
use Rattle.std.proofs.Math.Bool.{or-true}
use Rattle.riichi_hand.specs.declared.fault.LineFault.{LineFault}
use Rattle.riichi_hand.specs.declared.fault.LineFault.TheVariants.{Line, Notation}
use Rattle.riichi_hand.specs.declared.fault.LineCode.TheVariants.{H1, H2, H3, H4, H5, H6, H7, H8, H9, H10, H11, H12, H13, H14, H15, H16}
use Rattle.riichi_hand.specs.declared.line.job_name.JobName.{JobName}
use Rattle.riichi_hand.specs.Faults.{coded, first_fault}
use Rattle.riichi_hand.specs.Words.{word_of}
use Rattle.riichi_hand.specs.Entries.{is_bad, KeepsFirstMark}
use Rattle.riichi_hand.specs.Places.{or_other, first_at, bad_from, doubled_from, entry_from}

-- ---- the first word that is no entry

pub any_bad : (job : JobName) (froms more : List (List ℕ)) (from : List ℕ) → is_bad job (word_of from) ≡ true → list_any (is_bad job) (map word_of (froms ++ from ∷ more)) ≡ true
any_bad job [] more from bad = rw bad refl
any_bad job (first ∷ froms) more from bad = ap (λ other. is_bad job (word_of first) || other) (any_bad job froms more from bad) ∙ or-true (is_bad job (word_of first))

pub bad_from-here : (job : JobName) (froms more : List (List ℕ)) (from : List ℕ) → list_any (is_bad job) (map word_of froms) ≡ false → is_bad job (word_of from) ≡ true → bad_from job (froms ++ from ∷ more) ≡ Some from
bad_from-here job [] more from good bad = rw bad refl
bad_from-here job (first ∷ froms) more from good bad =
    let parts = or_parts (is_bad job (word_of first)) (list_any (is_bad job) (map word_of froms)) good in
    rw parts.0 (bad_from-here job froms more from parts.1 bad)

bad_from-none : (job : JobName) (froms : List (List ℕ)) → list_any (is_bad job) (map word_of froms) ≡ false → bad_from job froms ≡ None
bad_from-none job [] good = refl
bad_from-none job (first ∷ froms) good =
    let parts = or_parts (is_bad job (word_of first)) (list_any (is_bad job) (map word_of froms)) good in
    rw parts.0 (bad_from-none job froms parts.1)

-- ---- the word with which words first pass a test

pub first_at-last : (test : List (List ℕ) → Bool) (before froms : List (List ℕ)) (from : List ℕ)
    → first_at test before (froms ++ from ∷ []) ≡ or_other (first_at test before froms) (if test (before ++ (map word_of froms ++ word_of from ∷ [])) then Some from else None)
first_at-last test before [] from = refl
first_at-last test before (first ∷ froms) from =
    let words : List (List ℕ) = map word_of froms ++ word_of from ∷ [] in
    elim (cases_Bool (test (before ++ word_of first ∷ []))) [
      | inl here ↦ rw here refl
      | inr later ↦ rw later (first_at-last test (before ++ word_of first ∷ []) froms from
          ∙ ap (λ ws. or_other (first_at test (before ++ word_of first ∷ []) froms) (if test ws then Some from else None)) (append_assoc before (word_of first ∷ []) words))
    ]

-- a mark is that of the words so far, or of one more
pub marked : {X : Type 0} (bytes : X → List ℕ) (old : Option X) (from : X) (new : Option X) (is_new : Bool) → KeepsFirstMark old from new → is_some new ≡ is_new
    → option_map bytes new ≡ or_other (option_map bytes old) (if is_new then Some (bytes from) else None)
marked bytes (Some old) from new is_new is some = rw is refl
marked bytes None from new is_new (inl none) some = let e : false ≡ is_new = ap is_some (sym none) ∙ some in rw (none, ← e) refl
marked bytes None from new is_new (inr new_one) some = let e : true ≡ is_new = ap is_some (sym new_one) ∙ some in rw (new_one, ← e) refl

pub no_mark : {X : Type 0} (bytes : X → List ℕ) (mark : Option X) → is_some mark ≡ false → option_map bytes mark ≡ None
no_mark bytes None none = refl
no_mark bytes (Some from) none = absurd (cc)

-- words without a fault
pub entry_from-none : (job : JobName) (froms : List (List ℕ)) (fault : LineFault) → list_any (is_bad job) (map word_of froms) ≡ false → doubled_from job froms ≡ None → entry_from job fault froms ≡ None
entry_from-none job froms (Line H4) good single = bad_from-none job froms good
entry_from-none job froms (Line H5) good single = single
entry_from-none job froms (Line H1) good single = refl
entry_from-none job froms (Line H2) good single = refl
entry_from-none job froms (Line H3) good single = refl
entry_from-none job froms (Line H6) good single = refl
entry_from-none job froms (Line H7) good single = refl
entry_from-none job froms (Line H8) good single = refl
entry_from-none job froms (Line H9) good single = refl
entry_from-none job froms (Line H10) good single = refl
entry_from-none job froms (Line H11) good single = refl
entry_from-none job froms (Line H12) good single = refl
entry_from-none job froms (Line H13) good single = refl
entry_from-none job froms (Line H14) good single = refl
entry_from-none job froms (Line H15) good single = refl
entry_from-none job froms (Line H16) good single = refl
entry_from-none job froms (Notation name fault) good single = refl

-- a fault of the first words is none of these
pub word_from-none : (job : JobName) (froms : List (List ℕ)) (a b c : Bool) (fault : LineFault) → first_fault (coded H1 a ∷ coded H2 b ∷ coded H3 c ∷ []) ≡ Some fault → entry_from job fault froms ≡ None
word_from-none job froms true b c fault is = let same : Line H1 ≡ fault = cc in rw (← same) refl
word_from-none job froms false true c fault is = let same : Line H2 ≡ fault = cc in rw (← same) refl
word_from-none job froms false false true fault is = let same : Line H3 ≡ fault = cc in rw (← same) refl
word_from-none job froms false false false fault is = absurd (cc)
