-- The hand of a record, as one whose waits are asked.
use Rattle.std.proofs.Common.{◌≡◌, ◌∙◌, ℕ, ◌+◌, Bool, true, false, cond, not, List, [], ◌∷◌, None, Ok, Err, refl, sym, ap, arith}
use Rattle.std.proofs.lemmas.Bool.{or_parts}
use Rattle.std.proofs.lemmas.Bool.Decides.{nat_tests}
use Rattle.std.specs.Prelude.{nat_lt, slice_index}
use Rattle.std.specs.List.{list_any}
use Rattle.riichi_tiles.specs.Melds.{every_kind}
use Rattle.riichi_hand.specs.declared.fault.LineCode.TheVariants.{H8, H9}
use Rattle.riichi_hand.specs.declared.fault.LineFault.{LineFault}
use Rattle.riichi_hand.specs.declared.fault.LineFault.TheVariants.{Line}
use Rattle.riichi_hand.specs.Faults.{coded, fault_or, first_fault}
use Rattle.riichi_hand.specs.Hand.{IsShape, copies_held, copies_with, hand_of, has_five_copies, has_five_seen, is_thirteen, is_thirteen_or_more}
use Rattle.riichi_hand.specs.HandParts.{HandParts, ShapeParts}
use Rattle.riichi_hand.proofs.OutcomeLemmas.{no_faults}
use Rattle.riichi_split.specs.Waits.{waits_of}
use Rattle.riichi_safe.specs.Safe.{furiten_of, own_among, own_hand, own_waits}
use Rattle.riichi_safe.specs.SafeParts.{SafeParts}

any_fewer : (more fewer : ℕ → Bool) (kinds : List ℕ) → ((kind : ℕ) → more kind ≡ false → fewer kind ≡ false) → list_any more kinds ≡ false → list_any fewer kinds ≡ false
any_fewer more fewer [] each h = refl
any_fewer more fewer (kind ∷ kinds) each h =
    let both = or_parts (more kind) (list_any more kinds) h in
    rw (each kind both.0) (any_fewer more fewer kinds each both.1)

fewer_copies : (held seen : ℕ) → nat_lt 4 (held + seen) ≡ false → nat_lt 4 held ≡ false
fewer_copies held seen h = grind (arith, nat_tests)

-- without what is seen there is no fifth copy either
no_five : (parts : ShapeParts) → IsShape parts → has_five_copies parts.tiles parts.melds ≡ false
no_five parts is =
    any_fewer (λ kind. nat_lt 4 (copies_with parts kind)) (λ kind. nat_lt 4 (copies_held parts.tiles parts.melds kind)) every_kind
    (λ kind few. fewer_copies (copies_held parts.tiles parts.melds kind) (slice_index parts.seen kind) few)
    (no_faults (is_thirteen_or_more parts.tiles parts.melds) (has_five_seen parts) is).1

module _ (parts : SafeParts) (is : IsShape parts.hand) where
  is_hand : hand_of (own_hand parts) ≡ cond (is_thirteen parts.hand.tiles parts.hand.melds) (Ok (own_hand parts)) (Err (Line H8))
  unfolding hand_of
  is_hand = told (is_thirteen parts.hand.tiles parts.hand.melds) (has_five_copies parts.hand.tiles parts.hand.melds) (no_five parts.hand is)
    where
      told : (sized five : Bool) → five ≡ false → fault_or (first_fault (coded H8 (not sized) ∷ coded H9 five ∷ [])) (own_hand parts) ≡ cond sized (Ok (own_hand parts)) (Err (Line H8))
      told true false e = refl
      told true true e = absurd (cc)
      told false five e = refl

  pub furiten_ready : (ready : HandParts) → hand_of (own_hand parts) ≡ Ok ready → own_among parts (waits_of ready) ≡ furiten_of parts
  unfolding furiten_of
  furiten_ready ready e = told (is_thirteen parts.hand.tiles parts.hand.melds) (sym is_hand ∙ e)
    where
      told : (sized : Bool) → cond sized (Ok (own_hand parts)) (Err (Line H8)) ≡ Ok ready → own_among parts (waits_of ready) ≡ cond sized (own_among parts (own_waits parts)) None
      told true same = ap (λ hand. own_among parts (waits_of hand)) (let e : ready ≡ own_hand parts = cc in e)
      told false same = absurd (cc)

  pub furiten_none : (fault : LineFault) → hand_of (own_hand parts) ≡ Err fault → None ≡ furiten_of parts
  unfolding furiten_of
  furiten_none fault e = told (is_thirteen parts.hand.tiles parts.hand.melds) (sym is_hand ∙ e)
    where
      told : (sized : Bool) → cond sized (Ok (own_hand parts)) (Err (Line H8)) ≡ Err fault → None ≡ cond sized (own_among parts (own_waits parts)) None
      told true same = absurd (cc)
      told false same = refl
