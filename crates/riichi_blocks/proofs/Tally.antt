-- What is tallied of blocks, with one block more.
use Rattle.std.proofs.Common.{◌≡◌, ℕ, ◌+◌, ◌<◌, ◌≤◌, ◌*◌, ◌%◌, ◌^◌, inl, inr, cond, Bool, true, false, not, ◌&&◌, ◌||◌, length-append, ◌∙◌, nat_eq, nat_le, nat_lt, List, [], ◌∷◌, ◌++◌, refl, length, sym, ap, arith}
use Rattle.std.specs.Prelude.{count_by}
use Rattle.std.specs.Int.{from_bool}
use Rattle.std.specs.List.{list_all, list_any}
use Rattle.std.proofs.Math.Bool.{and-false, and-true, or-false, or-true}
use Rattle.std.proofs.lemmas.List.Sums.{sum_by-append, sum_by-cons}
use Rattle.std.proofs.lemmas.List.Folds.{list_all-append, list_any-append}
use Rattle.std.proofs.lemmas.Bool.{lt-ltb}
use Rattle.std.proofs.lemmas.Bool.Decides.{eqb_tells, nat_tests}
use Rattle.riichi_blocks.specs.declared.hand_block.HandBlock.{HandBlock}
use Rattle.riichi_blocks.specs.declared.hand_block.HandBlock.TheVariants.{Run, Triplet, Kong, Pair}
use Rattle.riichi_blocks.specs.Kinds.{is_honour, is_orphan, is_terminal}
use Rattle.riichi_blocks.specs.BlockKinds.{has_honour, has_orphan, has_terminal, is_outer_run}
use Rattle.riichi_blocks.specs.HandBlocks.{is_run, is_run_from, is_triplet_or_kong, is_triplet_of, is_concealed_triplet, is_kong_block}
use Rattle.riichi_blocks.specs.Tally.{IsTally, kind_of, set_fu}
use Rattle.riichi_tiles.specs.HeldKinds.{is_held, with_kind}
use Rattle.riichi_tiles.proofs.KindSets.{none_at, with_kind_same, with_kind_other}

count-push : (p : HandBlock → Bool) (blocks : List HandBlock) (block : HandBlock) → count_by p (blocks ++ block ∷ []) ≡ count_by p blocks + cond (p block) 1 0
count-push p blocks block =
    let e = sum_by-append (λ (b : HandBlock). cond {A = ℕ} (p b) 1 0) blocks (block ∷ []) in
    omega (arith, e)

any-push : (p : HandBlock → Bool) (blocks : List HandBlock) (block : HandBlock) → list_any p (blocks ++ block ∷ []) ≡ (list_any p blocks || p block)
any-push p blocks block = list_any-append p blocks (block ∷ []) ∙ ap (λ b. list_any p blocks || b) (or-false (p block))

one-more : (b : Bool) (total n : ℕ) (any : Bool) → total ≡ cond b 1 0 + n → nat_lt 0 n ≡ any → nat_lt 0 total ≡ (b || any)
one-more true total n any e h = lt-ltb 0 total (omega (arith, e))
one-more false total n any e h = ap (nat_lt 0) (let same : total ≡ n = omega (arith, e) in same) ∙ h

-- some block is so where one or more are counted
pub counted_any : (p : HandBlock → Bool) (blocks : List HandBlock) → nat_lt 0 (count_by p blocks) ≡ list_any p blocks
counted_any p [] = refl
counted_any p (block ∷ blocks) =
    let e = sum_by-append (λ (b : HandBlock). cond {A = ℕ} (p b) 1 0) (block ∷ []) blocks in
    one-more (p block) (count_by p (block ∷ blocks)) (count_by p blocks) (list_any p blocks) (omega (arith, e)) (counted_any p blocks)

-- ---- a kind put into a set where it is chosen

one-kind : (set kind other : ℕ) → is_held (with_kind set kind) other ≡ (is_held set other || nat_eq kind other)
one-kind set kind other =
    elim (eqb_tells kind other) [
      | inl t ↦ rw t.0 (ap (is_held (with_kind set kind)) (sym t.1) ∙ with_kind_same set kind ∙ sym (or-true (is_held set other)))
      | inr f ↦ rw f.0 (with_kind_other set kind other (λ e. f.1 (sym e)) ∙ sym (or-false (is_held set other)))
    ]

inserted : (set kind other : ℕ) (chosen : Bool) → is_held (cond chosen (with_kind set kind) set) other ≡ (is_held set other || (chosen && nat_eq kind other))
inserted set kind other true = one-kind set kind other
inserted set kind other false = sym (or-false (is_held set other))

-- twice, where it was there once
again-step : (n : ℕ) (b : Bool) → nat_le 2 (n + cond b 1 0) ≡ (nat_le 2 n || (nat_lt 0 n && b))
again-step n true = grind (arith, nat_tests)
again-step n false = grind (arith, nat_tests)

-- chosen where the kind is held, or where its own number is that of a kind that is held
chosen-held : (from kind other : ℕ) (is_run : Bool) → ((is_run && is_held from kind) && nat_eq kind other) ≡ (is_held from other && (is_run && nat_eq kind other))
chosen-held from kind other false = sym (and-false (is_held from other))
chosen-held from kind other true =
    elim (eqb_tells kind other) [
      | inl t ↦ ap (λ k. is_held from k && nat_eq kind other) t.1
      | inr f ↦ rw f.0 (and-false (is_held from kind) ∙ sym (and-false (is_held from other)))
    ]

-- ---- a block by its words

from-by : (kind : ℕ) (block : HandBlock) → is_run_from kind block ≡ (is_run block && nat_eq (kind_of block) kind)
from-by kind (Run low) = refl
from-by kind other = refl

of-by : (kind : ℕ) (block : HandBlock) → is_triplet_of kind block ≡ (is_triplet_or_kong block && nat_eq (kind_of block) kind)
of-by kind (Triplet held concealed) = refl
of-by kind other = refl

-- 2 of a triplet, doubled so often
pub doubled : (triplet concealed orphan kong : Bool) → from_bool triplet * 2 ^ (1 + (from_bool concealed + from_bool orphan + 2 * from_bool kong)) % 2 ^ 16 ≡ cond triplet (cond kong 4 1 * (2 * cond concealed 2 1 * cond orphan 2 1)) 0
doubled true true true true = refl
doubled true true true false = refl
doubled true true false true = refl
doubled true true false false = refl
doubled true false true true = refl
doubled true false true false = refl
doubled true false false true = refl
doubled true false false false = refl
doubled false concealed orphan kong = nothing (2 ^ (1 + (from_bool concealed + from_bool orphan + 2 * from_bool kong)))
  where
    nothing : (p : ℕ) → 0 * p % 2 ^ 16 ≡ 0
    nothing p = omega arith

pub IsTally-none : IsTally [] 0 0 0 0 0 0 0 true false 0
IsTally-none = record {
  at_most_nine = omega arith;
  runs_from_are = none_at;
  runs_again_are = none_at;
  triplets_of_are = none_at;
  runs_are = refl;
  triplets_are = refl;
  concealed_are = refl;
  kongs_are = refl;
  outer_are = refl;
  honours_are = refl;
  fu_are = refl;
  few_fu = omega arith;
}

-- one more block that passes a test
added : (p : HandBlock → Bool) (blocks : List HandBlock) (block : HandBlock) (n : ℕ) → n ≡ count_by p blocks → n + cond (p block) 1 0 ≡ count_by p (blocks ++ block ∷ [])
added p blocks block n e = omega (arith, e, count-push p blocks block)

joined : (p : HandBlock → Bool) (blocks : List HandBlock) (block : HandBlock) (set kind other : ℕ) (is : Bool) → is_held set other ≡ list_any p blocks → p block ≡ (is && nat_eq kind other) → is_held (cond is (with_kind set kind) set) other ≡ list_any p (blocks ++ block ∷ [])
joined p blocks block set kind other is e f = inserted set kind other is ∙ ap (λ b. b || (is && nat_eq kind other)) e ∙ ap (λ b. list_any p blocks || b) (sym f) ∙ sym (any-push p blocks block)

again : (blocks : List HandBlock) (block : HandBlock) (from set kind other : ℕ) (is : Bool) → is_held from other ≡ list_any (is_run_from other) blocks → is_held set other ≡ nat_le 2 (count_by (is_run_from other) blocks) → is_run_from other block ≡ (is && nat_eq kind other) →
    is_held (cond (is && is_held from kind) (with_kind set kind) set) other ≡ nat_le 2 (count_by (is_run_from other) (blocks ++ block ∷ []))
again blocks block from set kind other is e f g =
    let n = count_by (is_run_from other) blocks in
    inserted set kind other (is && is_held from kind)
    ∙ ap (λ b. is_held set other || b) (chosen-held from kind other is)
    ∙ rw (f, e, ← counted_any (is_run_from other) blocks, ← g) (sym (again-step n (is_run_from other block)))
    ∙ ap (nat_le 2) (sym (count-push (is_run_from other) blocks block))

pub as_number : (b : Bool) → from_bool b ≡ cond b 1 0
as_number true = refl
as_number false = refl

-- each block has a terminal where each has a terminal or an honour, and none is of honours
parted : (o all h some : Bool) → ((o && all) && not (h || some)) ≡ ((o && not h) && (all && not some))
parted false all h some = refl
parted true all true some = and-false all
parted true all false some = refl

a-kind : (kind : ℕ) → (is_orphan kind && not (is_honour kind)) ≡ is_terminal kind
a-kind kind = grind (arith, nat_tests)

a-terminal : (block : HandBlock) → (has_orphan block && not (has_honour block)) ≡ has_terminal block
a-terminal (Run low) = and-true (is_outer_run low)
a-terminal (Triplet kind concealed) = a-kind kind
a-terminal (Kong kind concealed) = a-kind kind
a-terminal (Pair kind) = a-kind kind

pub all_terminals : (blocks : List HandBlock) → (list_all has_orphan blocks && not (list_any has_honour blocks)) ≡ list_all has_terminal blocks
all_terminals [] = refl
all_terminals (block ∷ blocks) =
    parted (has_orphan block) (list_all has_orphan blocks) (has_honour block) (list_any has_honour blocks)
    ∙ ap (λ b. b && (list_all has_orphan blocks && not (list_any has_honour blocks))) (a-terminal block)
    ∙ ap (λ b. has_terminal block && b) (all_terminals blocks)

all-push : (p : HandBlock → Bool) (blocks : List HandBlock) (block : HandBlock) → list_all p (blocks ++ block ∷ []) ≡ (list_all p blocks && p block)
all-push p blocks block = list_all-append p blocks (block ∷ []) ∙ ap (λ b. list_all p blocks && b) (and-true (p block))

-- one block more
pub IsTally_after : (blocks : List HandBlock) (block : HandBlock) (from again_of of r t c k : ℕ) (o h : Bool) (f kind : ℕ) (run triplet concealed kong : Bool) (more : ℕ) (blocks' : List HandBlock) (from' again_of' of' r' t' c' k' : ℕ) (o' h' : Bool) (f' : ℕ) → length blocks < 9 → IsTally blocks from again_of of r t c k o h f →
    kind ≡ kind_of block → run ≡ is_run block → triplet ≡ is_triplet_or_kong block → concealed ≡ is_concealed_triplet block → kong ≡ is_kong_block block → more ≡ set_fu block → more ≤ 32 →
    blocks' ≡ blocks ++ block ∷ [] → from' ≡ cond run (with_kind from kind) from → again_of' ≡ cond (run && is_held from kind) (with_kind again_of kind) again_of → of' ≡ cond triplet (with_kind of kind) of →
    r' ≡ r + cond run 1 0 → t' ≡ t + cond triplet 1 0 → c' ≡ c + cond concealed 1 0 → k' ≡ k + cond kong 1 0 → o' ≡ (o && has_orphan block) → h' ≡ (h || has_honour block) → f' ≡ f + more → IsTally blocks' from' again_of' of' r' t' c' k' o' h' f'
IsTally_after blocks block from again_of of r t c k o h f kind run triplet concealed kong more blocks' from' again_of' of' r' t' c' k' o' h' f' room w is_kind is_run_so is_triplet_so is_concealed_so is_kong_so is_more few is_blocks is_from is_again is_of is_r is_t is_c is_k is_o is_h is_f =
    rw (is_blocks, is_from, is_again, is_of, is_r, is_t, is_c, is_k, is_o, is_h, is_f, is_kind, is_run_so, is_triplet_so, is_concealed_so, is_kong_so) record {
      at_most_nine = omega (arith, room, length-append blocks (block ∷ []));
      runs_from_are = λ other. joined (is_run_from other) blocks block from (kind_of block) other (is_run block) (w.runs_from_are other) (from-by other block);
      runs_again_are = λ other. again blocks block from again_of (kind_of block) other (is_run block) (w.runs_from_are other) (w.runs_again_are other) (from-by other block);
      triplets_of_are = λ other. joined (is_triplet_of other) blocks block of (kind_of block) other (is_triplet_or_kong block) (w.triplets_of_are other) (of-by other block);
      runs_are = added is_run blocks block r w.runs_are;
      triplets_are = added is_triplet_or_kong blocks block t w.triplets_are;
      concealed_are = added is_concealed_triplet blocks block c w.concealed_are;
      kongs_are = added is_kong_block blocks block k w.kongs_are;
      outer_are = ap (λ b. b && has_orphan block) w.outer_are ∙ sym (all-push has_orphan blocks block);
      honours_are = ap (λ b. b || has_honour block) w.honours_are ∙ sym (any-push has_honour blocks block);
      fu_are = omega (arith, w.fu_are, is_more, sum_by-append set_fu blocks (block ∷ []), sum_by-cons set_fu block []);
      few_fu = omega (arith, w.few_fu, few, length-append blocks (block ∷ []));
    }
