-- Sets of kinds that are held or thrown.
use Rattle.std.proofs.Common.{◌≡◌, ◌∙◌, ℕ, ◌<◌, ◌^◌, Bool, List, length, sym, ap, inl, inr, arith, bit_and}
use Rattle.std.proofs.lemmas.Bool.{cases_lt}
use Rattle.std.proofs.lemmas.List.{get_or_past}
use Rattle.std.specs.Int.RustNames.{bit_or}
use Rattle.std.specs.Prelude.{◌&&◌, ◌||◌, nat_lt}
use Rattle.riichi_tiles.specs.HeldKinds.{AreHeldOf, is_held, kinds_where}
use Rattle.riichi_tiles.specs.Tiles.{has_tile}
use Rattle.riichi_tiles.proofs.KindSets.{both_at, either_where, same_set, where_at, where_held, where_past}
use Rattle.riichi_safe.specs.Safe.{safe_kinds}
use Rattle.riichi_safe.specs.SafeParts.{SafeParts}

-- the kinds of which there is a tile are those that pass that test
pub held_where : (counts : List ℕ) (set : ℕ) → length counts ≡ 34 → AreHeldOf counts set → set ≡ kinds_where (has_tile counts)
held_where counts set long held = same_set set (kinds_where (has_tile counts)) (λ kind. elim (cases_lt kind 34) [
  | inl low ↦ held.each kind ∙ sym (where_at (has_tile counts) kind low)
  | inr past ↦ held.each kind ∙ ap (nat_lt 0) (get_or_past counts kind 0 (omega (arith, past, long))) ∙ sym (where_past (has_tile counts) kind past)
])

both_where : (test other : ℕ → Bool) → bit_and (kinds_where test) (kinds_where other) ≡ kinds_where (λ kind. test kind && other kind)
both_where test other = same_set (bit_and (kinds_where test) (kinds_where other)) (kinds_where (λ kind. test kind && other kind)) (λ kind. both_at (kinds_where test) (kinds_where other) kind ∙ elim (cases_lt kind 34) [
  | inl low ↦ rw (where_at test kind low, where_at other kind low) (sym (where_at (λ kind. test kind && other kind) kind low))
  | inr past ↦ rw (where_past test kind past) (sym (where_past (λ kind. test kind && other kind) kind past))
])

pub safe_set : (parts : SafeParts) (held thrown since : ℕ) → held ≡ kinds_where (has_tile parts.hand.tiles) → thrown ≡ kinds_where (has_tile parts.thrown) → since ≡ kinds_where (has_tile parts.since) → bit_and held (bit_or thrown since) ≡ safe_kinds parts
unfolding safe_kinds
safe_set parts held thrown since h t s =
    ap (λ set. bit_and set (bit_or thrown since)) h
    ∙ ap (λ set. bit_and (kinds_where (has_tile parts.hand.tiles)) (bit_or set since)) t
    ∙ ap (λ set. bit_and (kinds_where (has_tile parts.hand.tiles)) (bit_or (kinds_where (has_tile parts.thrown)) set)) s
    ∙ ap (bit_and (kinds_where (has_tile parts.hand.tiles))) (either_where (has_tile parts.thrown) (has_tile parts.since))
    ∙ both_where (has_tile parts.hand.tiles) (λ kind. has_tile parts.thrown kind || has_tile parts.since kind)

pub own_set : (waits own : ℕ) (counts : List ℕ) → waits < 2 ^ 34 → own ≡ kinds_where (has_tile counts) → bit_and waits own ≡ kinds_where (λ kind. is_held waits kind && has_tile counts kind)
own_set waits own counts few is =
    ap (λ set. bit_and set own) (sym (where_held waits few))
    ∙ ap (bit_and (kinds_where (is_held waits))) is
    ∙ both_where (is_held waits) (has_tile counts)
