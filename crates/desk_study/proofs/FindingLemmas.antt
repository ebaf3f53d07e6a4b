-- What is found is what the question asks.
use Rattle.std.proofs.Common.{◌≡◌, ℕ, ℤ, Bool, true, false, List, [], ◌∷◌, Option, map, refl, sym, ap, ◌∙◌}
use Rattle.std.specs.Prelude.{if◌then◌else◌}
use Rattle.riichi_hand.specs.Hand.{IsShape, is_thirteen, size}
use Rattle.riichi_hand.specs.HandParts.{ShapeParts}
use Rattle.riichi_shape.specs.Accepted.{accepted_of}
use Rattle.riichi_shape.specs.Answer.{shape_answer_of}
use Rattle.riichi_shape.specs.EveryWinning.{shanten_of}
use Rattle.riichi_shape.specs.declared.accepts.Accepts.TheVariants.{Thirteen, Fourteen}
use Rattle.riichi_shape.specs.declared.discard.Discard.{Discard}
use Rattle.riichi_shape.specs.declared.shape_answer.ShapeAnswer.{ShapeAnswer}
use Rattle.riichi_shape.proofs.ShapeFacts.{either_size, is_sized}
use Rattle.riichi_deeper.proofs.DrawnLemmas.{is_thirteen_by, list_of_thirteen, never_fourteen, never_thirteen}
use Rattle.riichi_deeper.specs.Calls.{calls_of, kong_of}
use Rattle.riichi_deeper.specs.Deeper.{deeper_of}
use Rattle.riichi_deeper.specs.declared.gains.Call.{Call}
use Rattle.riichi_deeper.specs.declared.outlook.Outlook.{Outlook}
use Rattle.riichi_deeper.specs.declared.thrown.Thrown.{Thrown}
use Rattle.riichi_study.specs.CallParts.{CallParts}
use Rattle.riichi_study.specs.Findings.{Calls, Discards, Hand, calls_finding, shape_finding}
use Rattle.riichi_study.specs.Prospects.{kept_prospect, ordered_discards, prospect_of, prospects_of}
use Rattle.riichi_study.specs.declared.order.Order.{Order}
use Rattle.riichi_study.specs.declared.prospect.Prospect.{Prospect}
use Rattle.desk_study.specs.Answers.{all_there}

kept_there : (parts : ShapeParts) (discards : List Discard) → all_there (map (kept_prospect parts) discards) ≡ map (prospect_of parts) discards
kept_there parts [] = refl
kept_there parts (discard ∷ discards) = ap (λ (ps : List Prospect). prospect_of parts discard ∷ ps) (kept_there parts discards)

pub shanten_is : (parts : ShapeParts) (answer : ShapeAnswer) → answer ≡ shape_answer_of parts → answer.shanten ≡ shanten_of parts.tiles parts.melds
unfolding shape_answer_of
shanten_is parts answer e = ap (λ (a : ShapeAnswer). a.shanten) e

module _ (parts : ShapeParts) (shape : IsShape parts) where
  other_size : is_thirteen parts.tiles parts.melds ≡ false → size parts.tiles parts.melds ≡ 14
  other_size f = either_size (size parts.tiles parts.melds) (is_sized parts shape) (λ e. let both : true ≡ false = sym (is_thirteen_by parts.tiles parts.melds e) ∙ f in cc)

  module _ (answer : ShapeAnswer) (answer_is : answer ≡ shape_answer_of parts) where
    pub thirteen_by : (list : List (ℕ × ℕ)) → answer.accepts ≡ Thirteen list → is_thirteen parts.tiles parts.melds ≡ true
    thirteen_by list is = by_test (is_thirteen parts.tiles parts.melds) refl
      where
        by_test : (t : Bool) → is_thirteen parts.tiles parts.melds ≡ t → is_thirteen parts.tiles parts.melds ≡ true
        by_test true f = f
        by_test false f = absurd (never_thirteen parts answer list answer_is (other_size f) is)

    pub not_thirteen : (list : List Discard) → answer.accepts ≡ Fourteen list → is_thirteen parts.tiles parts.melds ≡ false
    not_thirteen list is = by_test (is_thirteen parts.tiles parts.melds) refl
      where
        by_test : (t : Bool) → is_thirteen parts.tiles parts.melds ≡ t → is_thirteen parts.tiles parts.melds ≡ false
        by_test true f = absurd (never_fourteen parts answer list answer_is f is)
        by_test false f = f

    pub fourteen_by : (list : List Discard) → answer.accepts ≡ Fourteen list → size parts.tiles parts.melds ≡ 14
    fourteen_by list is = other_size (not_thirteen list is)

    pub hand_found : (order : Order) (shanten : ℤ) (list : List (ℕ × ℕ)) (outlook : Option Outlook) → shanten ≡ answer.shanten → answer.accepts ≡ Thirteen list → outlook ≡ deeper_of parts → Hand shanten list outlook ≡ shape_finding parts order
    unfolding shape_finding
    hand_found order shanten list outlook e is outlook_is =
        ap (λ z. Hand z list outlook) (e ∙ shanten_is parts answer answer_is)
        ∙ ap (λ (ps : List (ℕ × ℕ)). Hand (shanten_of parts.tiles parts.melds) ps outlook) (list_of_thirteen parts answer list answer_is (thirteen_by list is) is)
        ∙ ap (λ (o : Option Outlook). Hand (shanten_of parts.tiles parts.melds) (accepted_of parts.tiles parts.melds parts.seen) o) outlook_is
        ∙ sym (ap (λ t. if t then Hand (shanten_of parts.tiles parts.melds) (accepted_of parts.tiles parts.melds parts.seen) (deeper_of parts) else Discards (shanten_of parts.tiles parts.melds) order (prospects_of parts order)) (thirteen_by list is))

    pub discards_found : (order : Order) (shanten : ℤ) (list : List Discard) (slots items : List (Option Prospect)) → shanten ≡ answer.shanten → answer.accepts ≡ Fourteen list → slots ≡ items → items ≡ map (kept_prospect parts) (ordered_discards parts order)
        → Discards shanten order (all_there slots) ≡ shape_finding parts order
    unfolding shape_finding
    discards_found order shanten list slots items e is same items_are =
        ap (λ z. Discards z order (all_there slots)) (e ∙ shanten_is parts answer answer_is)
        ∙ ap (λ (ps : List (Option Prospect)). Discards (shanten_of parts.tiles parts.melds) order (all_there ps)) (same ∙ items_are)
        ∙ ap (λ (ps : List Prospect). Discards (shanten_of parts.tiles parts.melds) order ps) (kept_there parts (ordered_discards parts order))
        ∙ sym (ap (λ t. if t then Hand (shanten_of parts.tiles parts.melds) (accepted_of parts.tiles parts.melds parts.seen) (deeper_of parts) else Discards (shanten_of parts.tiles parts.melds) order (prospects_of parts order)) (not_thirteen list is))

pub calls_found : (parts : CallParts) (hand : ShapeParts) (thrown : Thrown) (shanten : ℤ) (calls : List (Option Call)) (kong : Option ShapeAnswer) → hand ≡ parts.hand → thrown ≡ parts.thrown
    → shanten ≡ shanten_of hand.tiles hand.melds → calls ≡ calls_of hand thrown → kong ≡ kong_of hand thrown.tile → Calls shanten thrown.tile calls kong ≡ calls_finding parts
unfolding calls_finding
calls_found parts hand thrown shanten calls kong hand_is thrown_is shanten_told calls_are kong_is =
    ap (λ z. Calls z thrown.tile calls kong) shanten_told ∙ ap (λ (cs : List (Option Call)). Calls (shanten_of hand.tiles hand.melds) thrown.tile cs kong) calls_are
    ∙ ap (λ (k : Option ShapeAnswer). Calls (shanten_of hand.tiles hand.melds) thrown.tile (calls_of hand thrown) k) kong_is
    ∙ ap (λ (h : ShapeParts). Calls (shanten_of h.tiles h.melds) thrown.tile (calls_of h thrown) (kong_of h thrown.tile)) hand_is
    ∙ ap (λ (t : Thrown). Calls (shanten_of parts.hand.tiles parts.hand.melds) t.tile (calls_of parts.hand t) (kong_of parts.hand t.tile)) thrown_is
