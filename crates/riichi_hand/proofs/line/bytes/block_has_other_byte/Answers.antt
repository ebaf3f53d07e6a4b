use Rattle.std.proofs.Common.{◌≡◌, ℕ, ◌+◌, ◌*◌, ◌%◌, ◌^◌, Bool, true, false, ◌||◌, cond, eqb, not, List, [], ◌∷◌, map, length, replicate, bit_or, refl, ap, ap₂, ◌∙◌, arith, inl, inr}
use Rattle.std.specs.List.{list_any}
use Rattle.std.proofs.lemmas.Bool.{cases_Bool, ne_eqb}
use Rattle.std.proofs.lemmas.Bool.Decides.{nat_tests}
use Rattle.std.proofs.lemmas.Simd.{zip2_splat, zip2_splat_left, mask_l-mod, length-chunk}
use Rattle.std.proofs.lemmas.List.{length-map}
use lib.Lanes.{zip2, mask_l, top}
use Rattle.riichi_hand.specs.Lines.{is_other_byte}
use Rattle.riichi_hand.proofs.line.bytes.block_has_other_byte.Goals as goal

-- a lane is set where its byte is below 32 or above 126
lane : (below above : Bool) → top 7 (bit_or (cond {A = ℕ} below 255 0) (cond {A = ℕ} above 255 0)) ≡ (below || above)
lane true true = refl
lane true false = refl
lane false true = refl
lane false false = refl

-- some bit is set where some element passes the test
doubled : (n : ℕ) → not (eqb (0 + 2 * n) 0) ≡ not (eqb n 0)
doubled n = grind (arith, nat_tests)

some_bit : {X : Type 0} (p : X → Bool) (xs : List X) → not (eqb (mask_l (map p xs)) 0) ≡ list_any p xs
some_bit p [] = refl
some_bit p (x ∷ xs) = elim (cases_Bool (p x)) [
  | inl set ↦ rw set (ap not (ne_eqb (1 + 2 * mask_l (map p xs)) 0 (λ none. omega arith)))
  | inr clear ↦ rw clear (doubled (mask_l (map p xs)) ∙ some_bit p xs)
]

of_lanes : (block : List ℕ) (less : ℕ → ℕ → ℕ) → length block ≡ 16 → ((byte : ℕ) → top 7 (bit_or (less byte 32) (less 126 byte)) ≡ is_other_byte byte)
    → not (eqb (mask_l (map (top 7) (zip2 bit_or (zip2 less block (replicate 16 32)) (zip2 less (replicate 16 126) block))) % 2 ^ 64) 0) ≡ list_any is_other_byte block
of_lanes block less long is =
    let lanes = ap₂ (zip2 bit_or) (zip2_splat less block 16 32 long) (zip2_splat_left less 126 16 block long) in
    ap (λ l. not (eqb (mask_l l % 2 ^ 64) 0)) (ap (map (top 7)) lanes ∙ each block)
    ∙ ap (λ mask. not (eqb mask 0)) (mask_l-mod (map is_other_byte block) 64 (omega (arith, length-map block is_other_byte, long)))
    ∙ some_bit is_other_byte block
  where
    each : (bytes : List ℕ) → map (top 7) (zip2 bit_or (map (λ byte. less byte 32) bytes) (map (λ byte. less 126 byte) bytes)) ≡ map is_other_byte bytes
    each [] = refl
    each (byte ∷ bytes) = ap₂ (λ first others. first ∷ others) (is byte) (each bytes)

pub returns : goal.returns
returns c = of_lanes _ _ (length-chunk c.args.place 16 c.args.line.now c.requires) (λ byte. lane _ _)
