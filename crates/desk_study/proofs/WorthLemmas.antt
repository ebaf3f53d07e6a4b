-- What is told of a worth that was found is what the question asks.
use Rattle.std.proofs.Common.{◌≡◌, ℕ, ℤ, zero, suc, ◌-◌, ◌*◌, ◌<◌, ◌≤◌, Bool, List, [], ◌++◌, length, map, refl, sym, subst, ap, ◌∙◌, append_assoc, arith}
use Rattle.std.proofs.lemmas.List.{append-nil, get_or_default, length-map}
use Rattle.std.specs.Prelude.{codes, if◌then◌else◌}
use Rattle.std.specs.List.{flat_map}
use Rattle.riichi_hand.specs.Hand.{is_thirteen}
use Rattle.riichi_hand.specs.HandParts.{ShapeParts}
use Rattle.riichi_shape.specs.Choosing.{LeavesLeast}
use Rattle.riichi_shape.specs.Discards.{discards_of}
use Rattle.riichi_shape.specs.EveryWinning.{shanten_of}
use Rattle.riichi_shape.specs.declared.discard.Discard.{Discard}
use Rattle.riichi_tiles.proofs.Members.{All-in, Contains-in, IsIn, in-map-inv}
use Rattle.riichi_deeper.specs.Drawn.{parts_without}
use Rattle.riichi_chances.specs.Draws.{all_draws, unseen_of}
use Rattle.riichi_chances.specs.Graph.{discard_kinds}
use Rattle.riichi_chances.specs.Laws.{IsFourteen}
use Rattle.riichi_chances.proofs.CountedLemmas.{discard_unseen}
use Rattle.riichi_chances.proofs.CountingLemmas.{best_listed}
use Rattle.riichi_chances.proofs.SpanLemmas.{all_more, all_none}
use Rattle.riichi_worth.specs.Worths.{best_worths, shared, total_points, worth_after, worth_of}
use Rattle.riichi_worth.specs.declared.discards.DiscardWorth.{DiscardWorth}
use Rattle.riichi_worth.specs.declared.stakes.Stakes.{Stakes}
use Rattle.riichi_worth.specs.declared.worth.Worth.{Worth}
use Rattle.riichi_study.specs.ChanceTexts.{are_counted, front_text, uncounted_reason}
use Rattle.riichi_study.specs.Findings as finding
use Rattle.riichi_study.specs.WorthParts.{WorthParts}
use Rattle.riichi_study.specs.WorthTexts.{IsRest, counted_worth_text, hand_worth_reason, worth_after_text, worth_answer, worth_reason, worth_reasons, worth_text}
use Rattle.desk_study.specs.Answers.{told_in}
use Rattle.desk_study.specs.ChanceObjects.{front_json}
use Rattle.desk_study.specs.WorthObjects.{counted_worth_json, each_worth_json, worth_answer_members, worth_members, worth_name}
use Rattle.desk_study.specs.FoundWorths.{HaveRests, IsFound, IsWorthFound, each_of, end_json, first_json, first_told, found_members, found_reasons, found_text, found_told}
use Rattle.desk_study.proofs.FoundLemmas.{list_ended}
use Rattle.desk_study.specs.declared.form.StudiesForm.{StudiesForm}
use Rattle.desk_study.specs.declared.form.StudiesForm.TheVariants.{Answers, Explained, Objects}
use Rattle.desk_study.specs.declared.found_worths.FoundWorths.{FoundWorths}
use Rattle.desk_study.specs.declared.found_worths.FoundWorth.{FoundWorth}
use Rattle.desk_study.specs.declared.found_worths.FoundWorth.TheVariants.{Uncounted, Hand, Discards}

-- ---- the draws that are left over

some_more : (unseen more all : ℕ) → 0 < unseen → 0 < more → all ≡ unseen * more → 0 < all
some_more (suc unseen) (suc more) all a b e = omega (arith, e)
some_more (suc unseen) zero all a b e = absurd (omega (arith, b))
some_more zero more all a b e = absurd (omega (arith, a))

some_draws : (unseen turns : ℕ) → turns ≤ unseen → 0 < all_draws unseen turns
some_draws unseen zero few = omega (arith, all_none unseen)
some_draws unseen (suc turns) few = some_more unseen (all_draws (unseen - 1) turns) (all_draws unseen (suc turns)) (omega (arith, few)) (some_draws (unseen - 1) turns (omega (arith, few))) (all_more unseen turns)

shared_rest : (total all : ℕ) → 0 < all → IsRest (shared total all).rest
shared_rest total all some = record { part = omega (arith, some); some = some }

pub worth_rest : (stakes : Stakes) (parts : ShapeParts) (turns : ℕ) (worth : Worth) → turns ≤ unseen_of parts → worth ≡ worth_of stakes parts turns → IsRest worth.rest
unfolding worth_of
worth_rest stakes parts turns worth few e =
    subst (λ (one : Worth). IsRest one.rest) (sym e) (shared_rest (total_points stakes parts turns) (all_draws (unseen_of parts) turns) (some_draws (unseen_of parts) turns few))

-- after each best discard as many tiles are unseen
pub best_rests : (stakes : Stakes) (drawn : ShapeParts) (turns : ℕ) (each : List DiscardWorth) → IsFourteen drawn → turns ≤ unseen_of drawn → each ≡ best_worths stakes drawn turns → HaveRests each
unfolding best_worths
best_rests stakes drawn turns each fourteen few e = subst HaveRests (sym e) (All-in (λ (one : DiscardWorth). IsRest one.worth.rest) (map (worth_after stakes drawn turns) kinds) of_one)
  where
    discards : List Discard
    discards = discards_of drawn.tiles drawn.melds drawn.seen

    kinds : List ℕ
    kinds = discard_kinds discards

    of_one : (one : DiscardWorth) → IsIn one (map (worth_after stakes drawn turns) kinds) → IsRest one.worth.rest
    of_one one i =
        let found = in-map-inv (worth_after stakes drawn turns) one kinds i in
        let kind : ℕ = found.0 in
        let place = Contains-in kind kinds found.1 in
        let best : LeavesLeast drawn.tiles drawn.melds kind =
        subst (LeavesLeast drawn.tiles drawn.melds) (get_or_default kinds place.0 0 kind place.1 ∙ place.2)
        (best_listed drawn discards place.0 refl (omega (arith, place.1, length-map discards (λ (discard : Discard). discard.kind)))) in
        let unseen = discard_unseen drawn fourteen kind best.is_kind best.held in
        subst (λ (it : DiscardWorth). IsRest it.worth.rest) found.2 (worth_rest stakes (parts_without drawn kind) turns (worth_of stakes (parts_without drawn kind) turns) (omega (arith, few, unseen)) refl)

-- no more discards are told than the shape has
pub best_few : (stakes : Stakes) (parts : ShapeParts) (turns : ℕ) (discards : List Discard) (each : List DiscardWorth) → discards ≡ discards_of parts.tiles parts.melds parts.seen → each ≡ best_worths stakes parts turns → length each ≡ length discards
unfolding best_worths
best_few stakes parts turns discards each is worths =
    ap length worths ∙ length-map (discard_kinds (discards_of parts.tiles parts.melds parts.seen)) (worth_after stakes parts turns) ∙ length-map (discards_of parts.tiles parts.melds parts.seen) (λ (discard : Discard). discard.kind)
    ∙ sym (ap length is)

-- ---- a line, and lines in words

module _ (hand : Worth → List ℕ) (each_told : List DiscardWorth → List ℕ) (nothing : each_told [] ≡ []) (none : List ℕ) (parts : ShapeParts) (stakes : Stakes) (turns : ℕ) where
  abbrev counted_told : Bool → List ℕ
  counted_told thirteen = if thirteen then hand (worth_of stakes parts turns) else each_told (best_worths stakes parts turns)

  abbrev all_told : Bool → List ℕ
  all_told counted = if counted then counted_told (is_thirteen parts.tiles parts.melds) else none

  worth_told : (worth : FoundWorth) → IsWorthFound parts stakes turns worth → first_told hand none worth ++ each_told (each_of worth) ≡ all_told (are_counted parts turns)
  worth_told Uncounted is = ap (λ (t : List ℕ). none ++ t) nothing ∙ append-nil none ∙ sym (ap all_told is)
  worth_told (Hand worth) is = ap (λ (t : List ℕ). hand worth ++ t) nothing ∙ append-nil (hand worth) ∙ ap hand is.worth_is ∙ sym (ap counted_told is.thirteen) ∙ sym (ap all_told is.counted)
  worth_told (Discards each) is = ap each_told is.worths_are ∙ sym (ap counted_told is.fourteen) ∙ sym (ap all_told is.counted)

-- ---- members

module _ (parts : ShapeParts) (stakes : Stakes) (turns : ℕ) where
  abbrev counted_members : Bool → List ℕ
  counted_members thirteen = if thirteen then codes "true," ++ worth_members (worth_of stakes parts turns) else codes "true,\"discards\":[" ++ each_worth_json (best_worths stakes parts turns) ++ codes "]"

  abbrev all_members : Bool → List ℕ
  all_members counted = (if counted then counted_members (is_thirteen parts.tiles parts.melds) else codes "false") ++ codes "}"

  worth_members_are : (worth : FoundWorth) → IsWorthFound parts stakes turns worth → first_json worth ++ (each_worth_json (each_of worth) ++ end_json worth) ≡ all_members (are_counted parts turns)
  worth_members_are Uncounted is = sym (ap all_members is)
  worth_members_are (Hand worth) is = ap (λ (w : Worth). (codes "true," ++ worth_members w) ++ codes "}") is.worth_is ∙ sym (ap (λ (t : Bool). counted_members t ++ codes "}") is.thirteen) ∙ sym (ap all_members is.counted)
  worth_members_are (Discards each) is =
      ap (λ (es : List DiscardWorth). codes "true,\"discards\":[" ++ (each_worth_json es ++ codes "]}")) is.worths_are ∙ list_ended (each_worth_json (best_worths stakes parts turns))
      ∙ sym (ap (λ (t : Bool). counted_members t ++ codes "}") is.fourteen) ∙ sym (ap all_members is.counted)

-- ---- all that is told

module _ (parts : WorthParts) (turns : ℕ) (found : FoundWorths) (is : IsFound parts.hand parts.stakes turns found) where
  front_is : (front : ℤ → ℕ → ℕ → List ℕ) → front found.shanten found.turns found.unseen ≡ front (shanten_of parts.hand.tiles parts.hand.melds) turns (unseen_of parts.hand)
  front_is front =
      ap (λ z. front z found.turns found.unseen) is.shanten_is ∙ ap (λ n. front (shanten_of parts.hand.tiles parts.hand.melds) n found.unseen) is.turns_are
      ∙ ap (front (shanten_of parts.hand.tiles parts.hand.melds) turns) is.unseen_are

  text_is : found_text found ≡ worth_answer parts turns
  text_is =
      append_assoc (front_text found.shanten found.turns found.unseen) (first_told worth_text (codes " worth none") found.worth) (flat_map worth_after_text (each_of found.worth))
      ∙ ap (λ (t : List ℕ). front_text found.shanten found.turns found.unseen ++ t) (worth_told worth_text (λ (es : List DiscardWorth). flat_map worth_after_text es) refl (codes " worth none") parts.hand parts.stakes turns found.worth is.is_found)
      ∙ ap (λ (t : List ℕ). t ++ (if are_counted parts.hand turns then counted_worth_text parts turns else codes " worth none")) (front_is front_text)

  reasons_are : found_reasons found ≡ worth_reasons parts turns
  reasons_are = worth_told hand_worth_reason (λ (es : List DiscardWorth). flat_map (worth_reason es) es) refl uncounted_reason parts.hand parts.stakes turns found.worth is.is_found

  members_are : found_members found ≡ worth_answer_members parts turns
  members_are =
      let front : List ℕ = front_json worth_name found.shanten found.turns found.unseen in
      let counted : List ℕ = if are_counted parts.hand turns then counted_worth_json parts turns else codes "false" in
      append_assoc front (first_json found.worth) (each_worth_json (each_of found.worth) ++ end_json found.worth)
      ∙ ap (λ (t : List ℕ). front ++ t) (worth_members_are parts.hand parts.stakes turns found.worth is.is_found)
      ∙ sym (append_assoc front counted (codes "}"))
      ∙ ap (λ (t : List ℕ). (t ++ counted) ++ codes "}") (front_is (front_json worth_name))

  pub worths_told : (form : StudiesForm) → found_told form found ≡ told_in form (finding.Worth parts turns)
  worths_told Answers = text_is
  worths_told Explained = ap (λ (t : List ℕ). t ++ found_reasons found) text_is ∙ ap (λ (t : List ℕ). worth_answer parts turns ++ t) reasons_are
  worths_told Objects = members_are
