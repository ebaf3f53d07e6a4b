-- What `cut_from` gives: ordered sets that use up the counts, each such list for one number of choices.
use Rattle.std.proofs.Common.{◌≡◌, ℕ, suc, zero, inl, inr, subst, ◌+◌, ◌-◌, ◌*◌, ◌<◌, ◌≤◌, Bool, true, false, cond, Option, Some, None, List, [], ◌∷◌, ◌++◌, length, get_or, drop, refl, sym, ap, ◌∙◌, arith, eqb, add-one, append_assoc, append-nil, length-append, option_and_then}
use Rattle.std.proofs.Math.Seq.{drop-cons}
use Rattle.std.proofs.lemmas.Bool.Decides.{nat_tests}
use Rattle.std.proofs.lemmas.List.{length-replicate, get_or-drop}
use Rattle.std.proofs.lemmas.Bool.{cases_eq}
use Rattle.riichi_tiles.specs.declared.block.Block.{Block}
use Rattle.riichi_split.specs.declared.cutting.Choice.{Choice}
use Rattle.riichi_tiles.specs.Kinds.{IsRunLow}
use Rattle.riichi_split.specs.Cuts.{choice_of, may_have_runs, begun, sets_joined, cut_from}

-- ---- one kind

pub record IsChoice (k n : ℕ) (in_doubt : Bool) (below left choices : ℕ) (c : Choice) : Type 0 where
  pub uses : n ≡ below + 3 * c.triplets + c.runs
  pub single : c.triplets ≤ 1
  pub room : c.triplets + c.runs ≤ left
  pub may : 0 < c.runs → IsRunLow k
  pub idle : n < below + 3 → c.choices ≡ choices
  pub certain : below + 3 ≤ n → in_doubt ≡ false → (c.triplets ≡ 1) × (c.choices ≡ choices)
  pub bit : below + 3 ≤ n → in_doubt ≡ true → choices ≡ c.triplets + 2 * c.choices

pub IsChoice-from : (k n : ℕ) (in_doubt : Bool) (below left choices : ℕ) (c : Choice) → choice_of k n in_doubt below left choices ≡ Some c → IsChoice k n in_doubt below left choices c
IsChoice-from k n in_doubt below left choices c e = record {
  uses = grind (arith, nat_tests);
  single = grind (arith, nat_tests);
  room = grind (arith, nat_tests);
  may = λ h. grind (arith, nat_tests);
  idle = λ h. grind (arith, nat_tests);
  certain = λ h d. (grind (arith, nat_tests), grind (arith, nat_tests));
  bit = λ h d. grind (arith, nat_tests);
}

pub choice_of-is : (k n : ℕ) (in_doubt : Bool) (below left choices : ℕ) (c : Choice) → IsChoice k n in_doubt below left choices c → choice_of k n in_doubt below left choices ≡ Some c
choice_of-is k n true below left choices c h = grind (arith, nat_tests)
choice_of-is k n false below left choices c h = grind (arith, nat_tests)

-- ---- the loop of `split`

pub sets_joined-joined : (xs ys : List Block) (o : Option (List Block)) → sets_joined xs (sets_joined ys o) ≡ sets_joined (xs ++ ys) o
sets_joined-joined xs ys None = refl
sets_joined-joined xs ys (Some bs) = ap Some (sym (append_assoc xs ys bs))

-- the rest of a split, after a choice
abbrev pub after : ℕ → List ℕ → ℕ → ℕ → Choice → Option (List Block)
after k ns one left c = sets_joined (begun k c) (cut_from (k + 1) ns c.runs one (left - (c.triplets + c.runs)) c.choices)

pub cut_from-cons : (k n : ℕ) (ns : List ℕ) (one two left choices : ℕ) (o : Option Choice) → choice_of k n (may_have_runs ns) (one + two) left choices ≡ o → cut_from k (n ∷ ns) one two left choices ≡ option_and_then (after k ns one left) o
unfolding cut_from
cut_from-cons k n ns one two left choices o e = ap (option_and_then (after k ns one left)) e

pub cut_from-nil : (k one two left choices : ℕ) → cut_from k [] one two left choices ≡ cond (eqb (one + two + left + choices) 0) (Some []) None
unfolding cut_from
cut_from-nil k one two left choices = refl

sets_joined-none : (o : Option (List Block)) → sets_joined [] o ≡ o
sets_joined-none None = refl
sets_joined-none (Some bs) = refl

sets_joined-test : (b : Bool) (sets : List Block) → sets_joined sets (cond b (Some []) None) ≡ cond b (Some sets) None
sets_joined-test true sets = ap Some (append-nil sets)
sets_joined-test false sets = refl

pub record IsPartWay (counts : List ℕ) (wanted all : ℕ) (k : ℕ) (sets : List Block) (one two left choices : ℕ) : Type 0 where
  pub room : length sets + left ≡ wanted
  pub few : (one ≤ 4) × (two ≤ 4)
  pub rest : cut_from 0 counts 0 0 wanted all ≡ sets_joined sets (cut_from k (drop k counts) one two left choices)

pub IsPartWay_more : (counts : List ℕ) (wanted all k : ℕ) (sets : List Block) (one two left choices : ℕ) (c : Choice) → k < length counts → wanted ≤ 4 → IsPartWay counts wanted all k sets one two left choices → choice_of k (get_or counts k 0) (may_have_runs (drop (k + 1) counts)) (one + two) left choices ≡ Some c → IsPartWay counts wanted all (k + 1) (sets ++ begun k c) c.runs one (left - (c.triplets + c.runs)) c.choices
IsPartWay_more counts wanted all k sets one two left choices c in_range small h e =
    let d : drop k counts ≡ get_or counts k 0 ∷ drop (k + 1) counts = rw add-one (drop-cons counts k 0 in_range) in
    let ok : IsChoice k (get_or counts k 0) (may_have_runs (drop (k + 1) counts)) (one + two) left choices c = IsChoice-from k (get_or counts k 0) (may_have_runs (drop (k + 1) counts)) (one + two) left choices c e in
    record {
      room = simp (length-append, length-replicate) (omega (arith, ok.room, h.room));
      few = (omega (arith, ok.room, h.room), h.few.0);
      rest = h.rest ∙ ap (λ ns. sets_joined sets (cut_from k ns one two left choices)) d ∙ ap (sets_joined sets) (cut_from-cons k (get_or counts k 0) (drop (k + 1) counts) one two left choices (Some c) e) ∙ sets_joined-joined sets (begun k c) _;
    }

pub none_from_part : (counts : List ℕ) (wanted all k : ℕ) (sets : List Block) (one two left choices : ℕ) → k < length counts → IsPartWay counts wanted all k sets one two left choices → choice_of k (get_or counts k 0) (may_have_runs (drop (k + 1) counts)) (one + two) left choices ≡ None → cut_from 0 counts 0 0 wanted all ≡ None
none_from_part counts wanted all k sets one two left choices in_range h e =
    let d : drop k counts ≡ get_or counts k 0 ∷ drop (k + 1) counts = rw add-one (drop-cons counts k 0 in_range) in
    h.rest ∙ ap (λ ns. sets_joined sets (cut_from k ns one two left choices)) d ∙ ap (sets_joined sets) (cut_from-cons k (get_or counts k 0) (drop (k + 1) counts) one two left choices None e)

-- a kind without tiles, where nothing is carried
pub IsPartWay-skip : (counts : List ℕ) (wanted all k : ℕ) (sets : List Block) (one two left choices : ℕ) → k < length counts → wanted ≤ 4 → get_or counts k 0 ≡ 0 → one ≡ 0 → two ≡ 0 → IsPartWay counts wanted all k sets one two left choices → IsPartWay counts wanted all (k + 1) sets one two left choices
IsPartWay-skip counts wanted all k sets one two left choices in_range small none e f h =
    let c : Choice = record { triplets = 0; runs = 0; choices = choices } in
    let is : choice_of k (get_or counts k 0) (may_have_runs (drop (k + 1) counts)) (one + two) left choices ≡ Some c = grind (arith, nat_tests) in
    let more = IsPartWay_more counts wanted all k sets one two left choices c in_range small h is in
    let same : left - (0 + 0) ≡ left = omega arith in
    record { room = h.room; few = h.few; rest = rw (e, f) (rw (append-nil sets, same, e) at more.rest) }

pub IsPartWay_none : (counts : List ℕ) (wanted all : ℕ) → IsPartWay counts wanted all 0 [] 0 0 wanted all
IsPartWay_none counts wanted all =
    let o = cut_from 0 counts 0 0 wanted all in
    record { room = omega arith; few = (omega arith, omega arith); rest = sym (sets_joined-none o) }

-- some kinds without tiles, where nothing is carried
pass : (counts : List ℕ) (wanted all from more : ℕ) (sets : List Block) (one two left choices : ℕ) → from + more ≤ length counts → wanted ≤ 4 → one ≡ 0 → two ≡ 0 → ((kind : ℕ) → from ≤ kind → kind < from + more → get_or counts kind 0 ≡ 0) → IsPartWay counts wanted all from sets one two left choices → IsPartWay counts wanted all (from + more) sets one two left choices
pass counts wanted all from zero sets one two left choices in_range small e f none h =
    subst (λ (k : ℕ). IsPartWay counts wanted all k sets one two left choices) (let same : from ≡ from + 0 = omega arith in same) h
pass counts wanted all from (suc more) sets one two left choices in_range small e f none h =
    let before = pass counts wanted all from more sets one two left choices (omega arith) small e f (λ kind a b. none kind a (omega arith)) h in
    subst (λ (k : ℕ). IsPartWay counts wanted all k sets one two left choices) (let next : from + more + 1 ≡ from + suc more = omega arith in next)
    (IsPartWay-skip counts wanted all (from + more) sets one two left choices (omega arith) small (none (from + more) (omega arith) (omega arith)) e f before)

pub IsPartWay_pass : (counts : List ℕ) (wanted all from to : ℕ) (sets : List Block) (one two left choices : ℕ) → from ≤ to → to ≤ length counts → wanted ≤ 4 → one ≡ 0 → two ≡ 0 → ((kind : ℕ) → from ≤ kind → kind < to → get_or counts kind 0 ≡ 0) → IsPartWay counts wanted all from sets one two left choices → IsPartWay counts wanted all to sets one two left choices
IsPartWay_pass counts wanted all from to sets one two left choices before in_range small e f none h =
    let there : from + (to - from) ≡ to = omega arith in
    subst (λ (k : ℕ). IsPartWay counts wanted all k sets one two left choices) there
    (pass counts wanted all from (to - from) sets one two left choices (omega arith) small e f (λ kind a b. none kind a (omega arith)) h)

no-choice : (k : ℕ) (in_doubt : Bool) (below left choices : ℕ) → 0 < below → choice_of k 0 in_doubt below left choices ≡ None
no-choice k in_doubt below left choices h = grind (arith, nat_tests)

idle-choice : (k : ℕ) (in_doubt : Bool) (below left choices : ℕ) → below ≡ 0 → choice_of k 0 in_doubt below left choices ≡ Some (record { triplets = 0; runs = 0; choices = choices })
idle-choice k in_doubt below left choices h = grind (arith, nat_tests)

not-none : (n : ℕ) → 0 < n → eqb n 0 ≡ false
not-none n h = grind (arith, nat_tests)

-- kinds without tiles begin no sets
cut_from-empty : (ns : List ℕ) (k one two left choices : ℕ) → ((i : ℕ) → get_or ns i 0 ≡ 0) → cut_from k ns one two left choices ≡ cond (eqb (one + two + left + choices) 0) (Some []) None
cut_from-empty [] k one two left choices none = cut_from-nil k one two left choices
cut_from-empty (n ∷ ns) k one two left choices none =
    let first : n ≡ 0 = none 0 in
    elim (cases_eq (one + two) 0) [
      | inl e ↦
          let c : Choice = record { triplets = 0; runs = 0; choices = choices } in
          let is : choice_of k n (may_have_runs ns) (one + two) left choices ≡ Some c = ap (λ m. choice_of k m (may_have_runs ns) (one + two) left choices) first ∙ idle-choice k (may_have_runs ns) (one + two) left choices e in
          let rest = cut_from-empty ns (k + 1) 0 one (left - (0 + 0)) choices (λ i. none (suc i)) in
          let same : 0 + one + (left - (0 + 0)) + choices ≡ one + two + left + choices = omega arith in
          cut_from-cons k n ns one two left choices (Some c) is ∙ ap (sets_joined []) rest ∙ sets_joined-test (eqb (0 + one + (left - (0 + 0)) + choices) 0) [] ∙ ap (λ m. cond (eqb m 0) (Some []) None) same
      | inr some ↦
          let is : choice_of k n (may_have_runs ns) (one + two) left choices ≡ None = ap (λ m. choice_of k m (may_have_runs ns) (one + two) left choices) first ∙ no-choice k (may_have_runs ns) (one + two) left choices (omega arith) in
          cut_from-cons k n ns one two left choices None is ∙ sym (ap (λ b. cond b (Some []) None) (not-none (one + two + left + choices) (omega arith)))
    ]

-- no kind from one on is held
pub cut_from_rest : (counts : List ℕ) (wanted all k : ℕ) (sets : List Block) (one two left choices : ℕ) → ((kind : ℕ) → k ≤ kind → get_or counts kind 0 ≡ 0) → IsPartWay counts wanted all k sets one two left choices → cut_from 0 counts 0 0 wanted all ≡ cond (eqb (one + two + left + choices) 0) (Some sets) None
cut_from_rest counts wanted all k sets one two left choices none h =
    let empty = cut_from-empty (drop k counts) k one two left choices (λ i. get_or-drop k counts i 0 ∙ none (k + i) (omega arith)) in
    h.rest ∙ ap (sets_joined sets) empty ∙ sets_joined-test (eqb (one + two + left + choices) 0) sets
