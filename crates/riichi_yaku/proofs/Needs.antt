-- What blocks a condition needs, so that most hands are decided by a glance.
use Rattle.std.proofs.Common.{◌≡◌, ◌≢◌, ℕ, ◌+◌, ◌<◌, ◌≤◌, Bool, true, false, ◌&&◌, ◌||◌, cond, nat_eq, nat_lt, get_or, List, [], ◌∷◌, refl, ◌∙◌, arith}
use Rattle.std.specs.Prelude.{count_by}
use Rattle.std.specs.List.{list_any}
use Rattle.std.proofs.lemmas.List.Folds.{list_any_none}
use Rattle.std.proofs.lemmas.List.Sums.{sum_by-cons}
use Rattle.std.proofs.lemmas.Bool.Decides.{nat_tests}
use Rattle.riichi_blocks.specs.declared.hand_block.HandBlock.{HandBlock}
use Rattle.riichi_blocks.specs.declared.hand_block.HandBlock.TheVariants.{Run, Triplet, Kong, Pair}
use Rattle.riichi_blocks.specs.HandBlocks.{is_run, is_run_from, is_triplet_or_kong, is_triplet_of, has_triplet}
use Rattle.riichi_blocks.specs.Kinds.{is_wind, is_dragon}
use Rattle.riichi_blocks.proofs.Tally.{counted_any}
use Rattle.riichi_yaku.specs.Runs.{has_run_in_each_suit}
use Rattle.riichi_yaku.specs.Triplets.{has_triplet_in_each_suit}
use Rattle.riichi_yaku.specs.Honours.{is_last_of, is_last_wind, is_last_dragon}

-- ---- three blocks of three kinds

abbrev IsThree : (ℕ → HandBlock → Bool) → (HandBlock → Bool) → ℕ → ℕ → ℕ → HandBlock → Type 0
IsThree of_kind is_so a b c block = cond {A = ℕ} (of_kind a block) 1 0 + (cond {A = ℕ} (of_kind b block) 1 0 + cond {A = ℕ} (of_kind c block) 1 0) ≤ cond {A = ℕ} (is_so block) 1 0

one-of-three : (a b c held : ℕ) → a ≢ b → a ≢ c → b ≢ c → cond {A = ℕ} (nat_eq held a) 1 0 + (cond {A = ℕ} (nat_eq held b) 1 0 + cond {A = ℕ} (nat_eq held c) 1 0) ≤ 1
one-of-three a b c held ab ac bc = grind (arith, nat_tests, ab, ac, bc)

a-run : (a b c : ℕ) → a ≢ b → a ≢ c → b ≢ c → (block : HandBlock) → IsThree is_run_from is_run a b c block
a-run a b c ab ac bc (Run low) = one-of-three a b c low ab ac bc
a-run a b c ab ac bc other = omega arith

a-triplet : (a b c : ℕ) → a ≢ b → a ≢ c → b ≢ c → (block : HandBlock) → IsThree is_triplet_of is_triplet_or_kong a b c block
a-triplet a b c ab ac bc (Triplet kind concealed) = one-of-three a b c kind ab ac bc
a-triplet a b c ab ac bc (Kong kind concealed) = one-of-three a b c kind ab ac bc
a-triplet a b c ab ac bc other = omega arith

next : (p : HandBlock → Bool) (block : HandBlock) (blocks : List HandBlock) → count_by p (block ∷ blocks) ≡ cond {A = ℕ} (p block) 1 0 + count_by p blocks
next p block blocks = sum_by-cons (λ (b : HandBlock). cond {A = ℕ} (p b) 1 0) block blocks

three : (of_kind : ℕ → HandBlock → Bool) (is_so : HandBlock → Bool) (a b c : ℕ) → ((block : HandBlock) → IsThree of_kind is_so a b c block) → (blocks : List HandBlock) → count_by (of_kind a) blocks + (count_by (of_kind b) blocks + count_by (of_kind c) blocks) ≤ count_by is_so blocks
three of_kind is_so a b c h [] = omega arith
three of_kind is_so a b c h (block ∷ blocks) =
    omega (arith, next (of_kind a) block blocks, next (of_kind b) block blocks, next (of_kind c) block blocks, next is_so block blocks, h block, three of_kind is_so a b c h blocks)

some : (p : HandBlock → Bool) (blocks : List HandBlock) → list_any p blocks ≡ true → 0 < count_by p blocks
some p blocks any = let t : nat_lt 0 (count_by p blocks) ≡ true = counted_any p blocks ∙ any in grind (arith, nat_tests, t)

not-all : (x y z : Bool) → (x ≡ true → y ≡ true → z ≡ true → ⊥) → (x && (y && (z && true))) ≡ false
not-all true true true h = absurd (h refl refl refl)
not-all true true false h = refl
not-all true false z h = refl
not-all false y z h = refl

-- fewer than three blocks aren't of one rank in each suit
no-three : (of_kind : ℕ → HandBlock → Bool) (is_so : HandBlock → Bool) → ((a b c : ℕ) → a ≢ b → a ≢ c → b ≢ c → (block : HandBlock) → IsThree of_kind is_so a b c block) → (blocks : List HandBlock) (rank : ℕ) → count_by is_so blocks < 3 →
    (list_any (of_kind (0 + rank)) blocks && (list_any (of_kind (9 + rank)) blocks && (list_any (of_kind (18 + rank)) blocks && true))) ≡ false
no-three of_kind is_so one blocks rank few = not-all (list_any (of_kind (0 + rank)) blocks) (list_any (of_kind (9 + rank)) blocks) (list_any (of_kind (18 + rank)) blocks) (λ x y z.
    let all = three of_kind is_so (0 + rank) (9 + rank) (18 + rank) (one (0 + rank) (9 + rank) (18 + rank) (omega arith) (omega arith) (omega arith)) blocks in
    omega (arith, few, some (of_kind (0 + rank)) blocks x, some (of_kind (9 + rank)) blocks y, some (of_kind (18 + rank)) blocks z, all))

none : {X : Type 0} (p : X → Bool) (xs : List X) → ((x : X) → p x ≡ false) → list_any p xs ≡ false
none p xs h = list_any_none p xs (λ k d l. h (get_or xs k d))

-- runs of a rank in three suits are three runs, and triplets three triplets
pub few-runs : (blocks : List HandBlock) (ranks : List ℕ) → count_by is_run blocks < 3 → list_any (has_run_in_each_suit blocks) ranks ≡ false
few-runs blocks ranks few = none (has_run_in_each_suit blocks) ranks (λ rank. no-three is_run_from is_run a-run blocks rank few)

pub few-triplets : (blocks : List HandBlock) (ranks : List ℕ) → count_by is_triplet_or_kong blocks < 3 → list_any (has_triplet_in_each_suit blocks) ranks ≡ false
few-triplets blocks ranks few = none (has_triplet_in_each_suit blocks) ranks (λ rank. no-three is_triplet_of is_triplet_or_kong a-triplet blocks rank few)

-- ---- a triplet of one of two honours

not-both : (is_so rest : Bool) (first second kind : ℕ) → first ≢ second → (is_so && ((nat_eq first kind || false) && ((nat_eq second kind || false) && rest))) ≡ false
not-both is_so rest first second kind differ = grind (arith, nat_tests, differ)

no-last : (is_so : ℕ → Bool) (first second : ℕ) (rest : List ℕ) (blocks : List HandBlock) → first ≢ second → has_triplet blocks first ≡ false → has_triplet blocks second ≡ false → (block : HandBlock) → is_last_of is_so (first ∷ second ∷ rest) blocks block ≡ false
no-last is_so first second rest blocks differ f s (Pair kind) = rw (f, s) (not-both _ _ first second kind differ)
no-last is_so first second rest blocks differ f s other = refl

-- the pair of the last wind leaves a triplet of East or South, that of the last dragon one of White or Green
pub neither-wind : (blocks : List HandBlock) → has_triplet blocks 27 ≡ false → has_triplet blocks 28 ≡ false → list_any (is_last_wind blocks) blocks ≡ false
neither-wind blocks east south = none (is_last_wind blocks) blocks (no-last is_wind 27 28 (29 ∷ 30 ∷ []) blocks (omega arith) east south)

pub neither-dragon : (blocks : List HandBlock) → has_triplet blocks 31 ≡ false → has_triplet blocks 32 ≡ false → list_any (is_last_dragon blocks) blocks ≡ false
neither-dragon blocks white green = none (is_last_dragon blocks) blocks (no-last is_dragon 31 32 (33 ∷ []) blocks (omega arith) white green)
