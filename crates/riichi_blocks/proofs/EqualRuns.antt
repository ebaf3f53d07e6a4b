-- Runs that are there twice.
use Rattle.std.proofs.Common.{◌≡◌, ◌∙◌, ◌⊎◌, ℕ, zero, suc, nat_eq, nat_le, nat_lt, inl, inr, Bool, true, false, not, List, refl, ap, sym, arith}
use Rattle.std.specs.Prelude.{count_by}
use Rattle.std.specs.List.{list_any}
use Rattle.std.proofs.lemmas.Bool.{cases_Bool, eq-eqb, eqb-true, false≢true}
use Rattle.std.proofs.lemmas.Bool.Decides.{nat_tests}
use Rattle.riichi_tiles.specs.HeldKinds.{is_held}
use Rattle.riichi_tiles.proofs.KindSets.{none_at, same_set}
use Rattle.riichi_tiles.proofs.Members.{any-in, none-in}
use Rattle.riichi_blocks.specs.declared.hand_block.HandBlock.{HandBlock}
use Rattle.riichi_blocks.specs.declared.hand_block.HandBlock.TheVariants.{Run}
use Rattle.riichi_blocks.specs.HandBlocks.{is_run_from, runs_equal_to}
use Rattle.riichi_blocks.proofs.Tally.{counted_any}

equal-to : (blocks : List HandBlock) (kind : ℕ) (block : HandBlock) → is_run_from kind block ≡ true → runs_equal_to blocks block ≡ count_by (is_run_from kind) blocks
equal-to blocks kind (Run low) e = ap (λ k. count_by (is_run_from k) blocks) (eqb-true low kind e)
equal-to blocks kind other e = absurd (false≢true e)

-- one that is equal to a run twice is itself a run
twice-run : (blocks : List HandBlock) (block : HandBlock) → nat_le 2 (runs_equal_to blocks block) ≡ true → (kind : ℕ) × (nat_le 2 (count_by (is_run_from kind) blocks) ≡ true)
twice-run blocks (Run low) e = (low, e)
twice-run blocks other e = absurd (false≢true e)

nonzero : (set kind : ℕ) → is_held set kind ≡ true → not (nat_eq set 0) ≡ true
nonzero zero kind e = absurd (false≢true (sym (none_at kind) ∙ e))
nonzero (suc n) kind e = grind (arith, nat_tests)

one-at-least : (n : ℕ) → nat_le 2 n ≡ true → nat_lt 0 n ≡ true
one-at-least n e = grind (arith, nat_tests, e)

-- some run is there twice where it is known of a kind
pub equal_runs : (blocks : List HandBlock) (again : ℕ) → ((kind : ℕ) → is_held again kind ≡ nat_le 2 (count_by (is_run_from kind) blocks)) → not (nat_eq again 0) ≡ list_any (λ block. nat_le 2 (runs_equal_to blocks block)) blocks
equal_runs blocks again are =
    let twice = λ (block : HandBlock). nat_le 2 (runs_equal_to blocks block) in
    elim (cases_Bool (list_any twice blocks)) [
      | inl any ↦
          let is = any-in twice blocks any in
          let run = twice-run blocks is.0 is.2 in
          nonzero again run.0 (are run.0 ∙ run.1) ∙ sym any
      | inr none ↦ ap (λ set. not (nat_eq set 0)) (same_set again 0 (λ kind. are kind ∙ elim (cases_Bool (nat_le 2 (count_by (is_run_from kind) blocks))) [
        | inl many ↦
            let is = any-in (is_run_from kind) blocks (sym (counted_any (is_run_from kind) blocks) ∙ one-at-least (count_by (is_run_from kind) blocks) many) in
            absurd (false≢true (sym (none-in twice blocks none is.0 is.1) ∙ ap (nat_le 2) (equal-to blocks kind is.0 is.2) ∙ many))
        | inr few ↦ few ∙ sym (none_at kind)
      ])) ∙ sym none
    ]
