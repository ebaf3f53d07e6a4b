-- What is known of the parts of a shape.
use Rattle.std.proofs.Common.{◌≡◌, ℕ, ◌<◌, ◌≤◌, ℤ, true, false, List, ap, ◌∙◌, arith}
use Rattle.std.proofs.lemmas.Bool.{ltb-false}
use Rattle.std.proofs.lemmas.Bool.Decides.{nat_tests}
use Rattle.std.specs.Prelude.{nat_lt, ◌==◌, ◌||◌}
use Rattle.riichi_tiles.specs.Melds.{every_kind, tiles}
use Rattle.riichi_hand.specs.Hand.{IsShape, copies_with, has_five_seen, is_thirteen, is_thirteen_or_more}
use Rattle.riichi_hand.specs.HandParts.{ShapeParts}
use Rattle.riichi_tiles.specs.declared.meld.Meld.{Meld}
use Rattle.riichi_shape.specs.Accepted.{accepted_of}
use Rattle.riichi_shape.specs.Answer.{accepts_of, shape_answer_of}
use Rattle.riichi_shape.specs.Discards.{discards_of}
use Rattle.riichi_shape.specs.EveryWinning.{shanten_of}
use Rattle.riichi_shape.specs.declared.accepts.Accepts.{Accepts}
use Rattle.riichi_shape.specs.declared.accepts.Accepts.TheVariants.{Thirteen, Fourteen}
use Rattle.riichi_shape.specs.declared.discard.Discard.{Discard}
use Rattle.riichi_shape.specs.declared.shape_answer.ShapeAnswer.{ShapeAnswer}
use Rattle.riichi_hand.proofs.OutcomeLemmas.{no_faults}
use Rattle.riichi_tiles.proofs.Members.{in-range, none-in}

pub either_size : (n : ℕ) → ((n == 13) || (n == 14)) ≡ true → (n ≡ 13 → ⊥) → n ≡ 14
either_size n e not = grind (arith, nat_tests)

module _ (parts : ShapeParts) (is : IsShape parts) where
  pub copies_few : (kind : ℕ) → kind < 34 → copies_with parts kind ≤ 4
  copies_few kind low =
      ltb-false 4 (copies_with parts kind) (none-in (λ kind. nat_lt 4 (copies_with parts kind)) every_kind (no_faults (is_thirteen_or_more parts.tiles parts.melds) (has_five_seen parts) is).1 kind (in-range 34 0 kind (omega arith) (omega arith)))

  pub is_sized : is_thirteen_or_more parts.tiles parts.melds ≡ true
  is_sized = (no_faults (is_thirteen_or_more parts.tiles parts.melds) (has_five_seen parts) is).0

  pub melds_few : (kind : ℕ) → kind < 34 → tiles parts.melds kind ≤ 4
  melds_few kind low = omega (arith, copies_few kind low)

-- the parts of the answer make the answer
answer_is : (parts : ShapeParts) (shanten : ℤ) (accepts : Accepts) → shanten ≡ shanten_of parts.tiles parts.melds → accepts ≡ accepts_of parts → ◌≡◌ {A = ShapeAnswer} (record { shanten = shanten; accepts = accepts }) (shape_answer_of parts)
unfolding shape_answer_of
answer_is parts shanten accepts e e' = cc

accepts_thirteen : (parts : ShapeParts) (list : List (ℕ × ℕ)) → is_thirteen parts.tiles parts.melds ≡ true → list ≡ accepted_of parts.tiles parts.melds parts.seen → Thirteen list ≡ accepts_of parts
unfolding accepts_of
accepts_thirteen parts list thirteen e = rw thirteen (ap Thirteen e)

accepts_fourteen : (parts : ShapeParts) (list : List Discard) → is_thirteen parts.tiles parts.melds ≡ false → list ≡ discards_of parts.tiles parts.melds parts.seen → Fourteen list ≡ accepts_of parts
unfolding accepts_of
accepts_fourteen parts list fourteen e = rw fourteen (ap Fourteen e)

module _ (parts : ShapeParts) (shanten : ℤ) (shanten_is : shanten ≡ shanten_of parts.tiles parts.melds) where
  pub thirteen_is : (list : List (ℕ × ℕ)) → is_thirteen parts.tiles parts.melds ≡ true → list ≡ accepted_of parts.tiles parts.melds parts.seen → ◌≡◌ {A = ShapeAnswer} (record { shanten = shanten; accepts = Thirteen list }) (shape_answer_of parts)
  thirteen_is list thirteen e = answer_is parts shanten (Thirteen list) shanten_is (accepts_thirteen parts list thirteen e)

  pub fourteen_is : (list : List Discard) → is_thirteen parts.tiles parts.melds ≡ false → list ≡ discards_of parts.tiles parts.melds parts.seen → ◌≡◌ {A = ShapeAnswer} (record { shanten = shanten; accepts = Fourteen list }) (shape_answer_of parts)
  fourteen_is list fourteen e = answer_is parts shanten (Fourteen list) shanten_is (accepts_fourteen parts list fourteen e)

-- the answer of the same parts
pub same_shape : (parts : ShapeParts) (hand : List ℕ) (melds : List Meld) (seen : List ℕ) → hand ≡ parts.tiles → melds ≡ parts.melds → seen ≡ parts.seen → shape_answer_of (record { tiles = hand; melds = melds; seen = seen }) ≡ shape_answer_of parts
same_shape parts hand melds seen e e' e'' =
    ap (λ h. shape_answer_of (record { tiles = h; melds = melds; seen = seen })) e ∙ ap (λ m. shape_answer_of (record { tiles = parts.tiles; melds = m; seen = seen })) e' ∙ ap (λ s. shape_answer_of (record { tiles = parts.tiles; melds = parts.melds; seen = s })) e''
