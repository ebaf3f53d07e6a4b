-- What is told of chances that were found is what the question asks.
use Rattle.std.proofs.Common.{◌≡◌, ℕ, zero, suc, ℤ, ◌+◌, ◌<◌, ◌≤◌, Bool, true, false, List, [], ◌∷◌, ◌++◌, get_or, length, map, take, refl, sym, subst, ap, ◌∙◌, append_assoc, arith}
use Rattle.std.proofs.lemmas.List.{append-nil, get_or-map, length-map, take-map}
use Rattle.std.proofs.lemmas.List.Elements.{All-cons, All-head, All-nil, All-tail}
use Rattle.std.proofs.lemmas.Bool.{leb-true}
use Rattle.std.specs.Prelude.{◌&&◌, ◌||◌, All, Option, codes, if◌then◌else◌, nat_le, nat_lt, slice_index_or}
use Rattle.std.specs.List.{flat_map}
use Rattle.riichi_hand.specs.Hand.{is_thirteen}
use Rattle.riichi_hand.specs.HandParts.{ShapeParts}
use Rattle.riichi_shape.specs.Discards.{discards_of}
use Rattle.riichi_shape.specs.EveryWinning.{distance_of, shanten_of}
use Rattle.riichi_deeper.specs.Drawn.{parts_without}
use Rattle.riichi_chances.proofs.OddsLemmas.{each_parts, parts_of_all}
use Rattle.riichi_chances.specs.Chances.{AreAfter, AreAfterAtMost, AreAtMost, AreChances, parts_told}
use Rattle.riichi_chances.specs.Draws.{unseen_of}
use Rattle.riichi_chances.specs.Graph.{discard_kinds}
use Rattle.riichi_chances.specs.Laws.{IsFourteen}
use Rattle.riichi_chances.specs.Odds.{ArePartsOfAll, after_discard, best_odds, each_odds_at, odds_after, odds_at, odds_of}
use Rattle.riichi_chances.specs.declared.chances.Chances.{Chances as ByTurn}
use Rattle.riichi_chances.specs.declared.discards.DiscardChances.{DiscardChances}
use Rattle.riichi_chances.specs.declared.odds.DiscardOdds.{DiscardOdds}
use Rattle.riichi_chances.specs.declared.odds.Odds.{Odds}
use Rattle.riichi_chances_text.specs.OddsTexts.{by_turn_member, comma_if, each_turn, odds_members, odds_text, turn_json}
use Rattle.riichi_study.specs.ChanceTexts.{after_reason, after_text, are_counted, chances_reasons, chances_text, counted_text, front_text, hand_odds_reason, uncounted_reason}
use Rattle.riichi_study.specs.Findings.{Chances}
use Rattle.desk_json.specs.Parts.{listed, quoted_kind}
use Rattle.desk_study.specs.Answers.{listed_next, something_there, told_in}
use Rattle.desk_study.specs.ChanceObjects.{after_json, beaten_json, beaten_kind, best_json, chances_members, chances_name, counted_json, discard_json, front_json, hand_json}
use Rattle.desk_study.specs.Found.{AreAllParts, AreFound, AreParts, ArePartsOfEach, IsFound, each_in, each_json, each_of, end_json, first_json, first_told, found_members, found_reasons, found_text, found_told, one_json}
use Rattle.desk_study.specs.declared.form.StudiesForm.{StudiesForm}
use Rattle.desk_study.specs.declared.form.StudiesForm.TheVariants.{Answers, Explained, Objects}
use Rattle.desk_study.specs.declared.found.FoundChances.{FoundChances}
use Rattle.desk_study.specs.declared.found.FoundByTurn.{FoundByTurn}
use Rattle.desk_study.specs.declared.found.FoundByTurn.TheVariants.{Uncounted, Hand, Discards}
use Rattle.desk_study.proofs.ListedLemmas.{IsListed, next_listed}

-- ---- where chances are counted

and_right : (a b : Bool) → (a && b) ≡ true → b ≡ true
and_right true b e = e
and_right false b e = absurd (cc)

-- there are as many tiles as draws
pub counted_few : (parts : ShapeParts) (turns : ℕ) → are_counted parts turns ≡ true → turns ≤ unseen_of parts
counted_few parts turns e = leb-true turns (unseen_of parts) (and_right (nat_le (distance_of parts.tiles parts.melds) 4) (nat_le turns (unseen_of parts)) e)

-- ---- a line, and lines in words

module _ (hand : Odds → List ℕ) (each_told : List DiscardOdds → List ℕ) (nothing : each_told [] ≡ []) (none : List ℕ) (parts : ShapeParts) (turns : ℕ) where
  abbrev counted_told : Bool → List ℕ
  counted_told thirteen = if thirteen then hand (odds_of parts turns) else each_told (best_odds parts turns)

  abbrev all_told : Bool → List ℕ
  all_told counted = if counted then counted_told (is_thirteen parts.tiles parts.melds) else none

  odds_told : (found : FoundByTurn) → AreFound parts turns found → first_told hand none turns found ++ each_told (each_of turns found) ≡ all_told (are_counted parts turns)
  odds_told Uncounted are = ap (λ (t : List ℕ). none ++ t) nothing ∙ append-nil none ∙ sym (ap all_told are)
  odds_told (Hand chances) are =
      ap (λ (t : List ℕ). hand (odds_at chances turns) ++ t) nothing ∙ append-nil (hand (odds_at chances turns)) ∙ ap hand (are.odds_are turns (omega arith)) ∙ sym (ap counted_told are.thirteen) ∙ sym (ap all_told are.counted)
  odds_told (Discards each) are = ap each_told (are.odds_are turns (omega arith)) ∙ sym (ap counted_told are.fourteen) ∙ sym (ap all_told are.counted)

-- those of one number of turns after each discard are parts of some draws
abbrev are_parts : DiscardOdds → Type 0
are_parts one = ArePartsOfAll one.odds

abbrev are_all_parts : ℕ → DiscardChances → Type 0
are_all_parts turns one = AreAllParts turns one.chances

parts_at : (turns : ℕ) (some : List DiscardChances) → ArePartsOfEach turns some → All are_parts (each_odds_at some turns)
parts_at turns [] are = All-nil are_parts
parts_at turns (one ∷ some) are =
    All-cons are_parts (after_discard one.kind (odds_at one.chances turns)) (each_odds_at some turns) (All-head (are_all_parts turns) one some are turns (omega arith)) (parts_at turns some (All-tail (are_all_parts turns) one some are))

pub parts_of_each : (found : FoundByTurn) (turns : ℕ) → AreParts turns found → All (λ (one : DiscardOdds). ArePartsOfAll one.odds) (each_of turns found)
parts_of_each Uncounted turns are = All-nil are_parts
parts_of_each (Hand chances) turns are = All-nil are_parts
parts_of_each (Discards each) turns are = parts_at turns each.items are

-- what is told by so many turns is told by fewer
less_chances : (parts : ShapeParts) (turns count : ℕ) (chances : ByTurn) → count ≤ turns → AreChances parts turns chances → AreChances parts count chances
less_chances parts turns count chances low are = record {
  ready = λ k few. are.ready k (omega (arith, few, low));
  win = λ k few. are.win k (omega (arith, few, low));
  all = λ k few. are.all k (omega (arith, few, low));
  ready_few = λ k few. are.ready_few k (omega (arith, few, low));
  win_few = λ k few. are.win_few k (omega (arith, few, low));
}

less_most : (parts : ShapeParts) (unseen turns count : ℕ) (chances : ByTurn) → count ≤ turns → AreAtMost parts unseen turns chances → AreAtMost parts unseen count chances
less_most parts unseen turns count chances low most = record { ready = λ k few. most.ready k (omega (arith, few, low)); win = λ k few. most.win k (omega (arith, few, low)) }

-- of thirteen tiles they are parts of some draws
pub hand_parts : (parts : ShapeParts) (turns : ℕ) (chances : ByTurn) → AreChances parts turns chances → AreAtMost parts (unseen_of parts) turns chances → turns ≤ unseen_of parts → AreAllParts turns chances
hand_parts parts turns chances are most few = λ count low. parts_of_all parts parts count chances (less_chances parts turns count chances low are) (less_most parts (unseen_of parts) turns count chances low most) (omega (arith, low, few))

-- and after each best discard of fourteen
by_each : (turns : ℕ) (each : List DiscardChances) → ((count : ℕ) → count ≤ turns → All (λ (one : DiscardChances). ArePartsOfAll (odds_at one.chances count)) each) → ArePartsOfEach turns each
by_each turns [] at = All-nil (are_all_parts turns)
by_each turns (one ∷ each) at =
    All-cons (are_all_parts turns) one each (λ count low. All-head (λ (it : DiscardChances). ArePartsOfAll (odds_at it.chances count)) one each (at count low))
    (by_each turns each (λ count low. All-tail (λ (it : DiscardChances). ArePartsOfAll (odds_at it.chances count)) one each (at count low)))

pub discards_parts : (drawn : ShapeParts) (turns : ℕ) (each : List DiscardChances) → IsFourteen drawn → map (λ (one : DiscardChances). one.kind) each ≡ discard_kinds (discards_of drawn.tiles drawn.melds drawn.seen) → AreAfter drawn turns each → AreAfterAtMost drawn turns each → turns ≤ unseen_of drawn → ArePartsOfEach turns each
discards_parts drawn turns each is kinds are most few =
    by_each turns each
    (λ count low. each_parts drawn count each is kinds
    (λ place one inside. less_chances (parts_without drawn (slice_index_or each place one).kind) turns count (slice_index_or each place one).chances low (are place one inside))
    (λ place one inside. less_most (parts_told drawn (slice_index_or each place one).kind) (unseen_of (parts_without drawn (slice_index_or each place one).kind)) turns count (slice_index_or each place one).chances low (most place one inside))
    (omega (arith, low, few)))

-- ---- by each number of turns

module _ (odds other : ℕ → Odds) where
  same_each_turn : (turns : ℕ) → ((count : ℕ) → count ≤ turns → odds count ≡ other count) → each_turn odds turns ≡ each_turn other turns
  same_each_turn zero same = refl
  same_each_turn (suc turns) same =
      ap (λ (t : List ℕ). t ++ (comma_if (nat_lt 0 turns) ++ turn_json (odds (suc turns)))) (same_each_turn turns (λ count low. same count (omega (arith, low))))
      ∙ ap (λ (o : Odds). each_turn other turns ++ (comma_if (nat_lt 0 turns) ++ turn_json o)) (same (suc turns) (omega arith))

module _ (turns : ℕ) (odds other : ℕ → Odds) (same : (count : ℕ) → count ≤ turns → odds count ≡ other count) where
  same_turns : by_turn_member odds turns ≡ by_turn_member other turns
  same_turns = ap (λ (t : List ℕ). codes ",\"by_turn\":[" ++ t ++ codes "]") (same_each_turn odds other turns same)

  same_hand : hand_json odds turns ≡ hand_json other turns
  same_hand = ap (λ (o : Odds). odds_members o ++ by_turn_member odds turns) (same turns (omega arith)) ∙ ap (λ (t : List ℕ). odds_members (other turns) ++ t) same_turns

  same_after : (others : List DiscardOdds) (kind : ℕ) → after_json others kind odds turns ≡ after_json others kind other turns
  unfolding after_json
  same_after others kind =
      ap (λ (o : Odds). discard_json kind o ++ beaten_json o others ++ codes "]" ++ by_turn_member odds turns ++ codes "}") (same turns (omega arith))
      ∙ ap (λ (t : List ℕ). discard_json kind (other turns) ++ beaten_json (other turns) others ++ codes "]" ++ t ++ codes "}") same_turns

first_of : {one other : DiscardOdds} {more others : List DiscardOdds} → one ∷ more ≡ other ∷ others → one ≡ other
first_of e = cc

rest_of : {one other : DiscardOdds} {more others : List DiscardOdds} → one ∷ more ≡ other ∷ others → more ≡ others
rest_of e = cc

-- of each discard the same is told, if its chances by each number of turns are the same
same_each : (others : List DiscardOdds) (turns : ℕ) (kinds : List ℕ) (wanted : ℕ → ℕ → Odds) (each : List DiscardChances) → ((count : ℕ) → count ≤ turns → each_odds_at each count ≡ map (λ kind. after_discard kind (wanted count kind)) kinds)
    → map (one_json others turns) each ≡ map (λ kind. after_json others kind (λ count. wanted count kind) turns) kinds
same_each others turns [] wanted [] same = refl
same_each others turns (kind ∷ kinds) wanted [] same = absurd (let e = same 0 (omega arith) in cc)
same_each others turns [] wanted (one ∷ each) same = absurd (let e = same 0 (omega arith) in cc)
same_each others turns (kind ∷ kinds) wanted (one ∷ each) same =
    let here : one.kind ≡ kind = ap (λ (d : DiscardOdds). d.kind) (first_of (same 0 (omega arith))) in
    let told : ℕ → List ℕ = λ k. after_json others k (λ count. wanted count k) turns in
    ap (λ (k : ℕ). after_json others k (odds_at one.chances) turns ∷ map (one_json others turns) each) here
    ∙ ap (λ (t : List ℕ). t ∷ map (one_json others turns) each) (same_after turns (odds_at one.chances) (λ count. wanted count kind) (λ count low. ap (λ (d : DiscardOdds). d.odds) (first_of (same count low))) others kind)
    ∙ ap (λ (ts : List (List ℕ)). told kind ∷ ts) (same_each others turns kinds wanted each (λ count low. rest_of (same count low)))

-- ---- members

pub list_ended : (each : List ℕ) → codes "true,\"discards\":[" ++ (each ++ codes "]}") ≡ ((codes "true,\"discards\":[" ++ each) ++ codes "]") ++ codes "}"
list_ended each = sym (append_assoc (codes "true,\"discards\":[" ++ each) (codes "]") (codes "}") ∙ append_assoc (codes "true,\"discards\":[") each (codes "]}"))

module _ (parts : ShapeParts) (turns : ℕ) where
  abbrev counted_members : Bool → List ℕ
  counted_members thirteen = if thirteen then codes "true," ++ hand_json (odds_of parts) turns else codes "true,\"discards\":[" ++ best_json parts turns (discard_kinds (discards_of parts.tiles parts.melds parts.seen)) ++ codes "]"

  abbrev all_members : Bool → List ℕ
  all_members counted = (if counted then counted_members (is_thirteen parts.tiles parts.melds) else codes "false") ++ codes "}"

  each_is : (each : List DiscardChances) → ((count : ℕ) → count ≤ turns → each_odds_at each count ≡ best_odds parts count) → each_json turns each ≡ best_json parts turns (discard_kinds (discards_of parts.tiles parts.melds parts.seen))
  unfolding best_odds
  each_is each are =
      ap (λ (others : List DiscardOdds). listed (map (one_json others turns) each)) (are turns (omega arith))
      ∙ ap listed (same_each (best_odds parts turns) turns (discard_kinds (discards_of parts.tiles parts.melds parts.seen)) (odds_after parts) each are)

  odds_members_are : (found : FoundByTurn) → AreFound parts turns found → first_json turns found ++ (each_json turns (each_in found) ++ end_json found) ≡ all_members (are_counted parts turns)
  odds_members_are Uncounted are = sym (ap all_members are)
  odds_members_are (Hand chances) are =
      ap (λ (t : List ℕ). (codes "true," ++ t) ++ codes "}") (same_hand turns (odds_at chances) (odds_of parts) are.odds_are) ∙ sym (ap (λ (t : Bool). counted_members t ++ codes "}") are.thirteen) ∙ sym (ap all_members are.counted)
  odds_members_are (Discards each) are =
      ap (λ (t : List ℕ). codes "true,\"discards\":[" ++ (t ++ codes "]}")) (each_is each.items are.odds_are) ∙ list_ended (best_json parts turns (discard_kinds (discards_of parts.tiles parts.melds parts.seen)))
      ∙ sym (ap (λ (t : Bool). counted_members t ++ codes "}") are.fourteen) ∙ sym (ap all_members are.counted)

-- ---- all that is told

module _ (parts : ShapeParts) (turns : ℕ) (found : FoundChances) (is : IsFound parts turns found) where
  front_is : (front : ℤ → ℕ → ℕ → List ℕ) → front found.shanten found.turns found.unseen ≡ front (shanten_of parts.tiles parts.melds) turns (unseen_of parts)
  front_is front = ap (λ z. front z found.turns found.unseen) is.shanten_is ∙ ap (λ n. front (shanten_of parts.tiles parts.melds) n found.unseen) is.turns_are ∙ ap (front (shanten_of parts.tiles parts.melds) turns) is.unseen_are

  text_is : found_text found ≡ chances_text parts turns
  text_is =
      let front : List ℕ = front_text found.shanten found.turns found.unseen in
      ap (λ n. (front ++ first_told odds_text (codes " chances none") n found.by_turn) ++ flat_map after_text (each_of n found.by_turn)) is.turns_are
      ∙ append_assoc front (first_told odds_text (codes " chances none") turns found.by_turn) (flat_map after_text (each_of turns found.by_turn))
      ∙ ap (λ (t : List ℕ). front ++ t) (odds_told odds_text (λ (es : List DiscardOdds). flat_map after_text es) refl (codes " chances none") parts turns found.by_turn is.are_found)
      ∙ ap (λ (t : List ℕ). t ++ (if are_counted parts turns then counted_text parts turns else codes " chances none")) (front_is front_text)

  reasons_are : found_reasons found ≡ chances_reasons parts turns
  reasons_are =
      ap (λ n. first_told hand_odds_reason uncounted_reason n found.by_turn ++ flat_map (after_reason (each_of n found.by_turn)) (each_of n found.by_turn)) is.turns_are
      ∙ odds_told hand_odds_reason (λ (es : List DiscardOdds). flat_map (after_reason es) es) refl uncounted_reason parts turns found.by_turn is.are_found

  members_are : found_members found ≡ chances_members parts turns
  members_are =
      let front : List ℕ = front_json chances_name found.shanten found.turns found.unseen in
      let counted : List ℕ = if are_counted parts turns then counted_json parts turns else codes "false" in
      ap (λ n. (front ++ first_json n found.by_turn) ++ (each_json n (each_in found.by_turn) ++ end_json found.by_turn)) is.turns_are
      ∙ append_assoc front (first_json turns found.by_turn) (each_json turns (each_in found.by_turn) ++ end_json found.by_turn)
      ∙ ap (λ (t : List ℕ). front ++ t) (odds_members_are parts turns found.by_turn is.are_found)
      ∙ sym (append_assoc front counted (codes "}"))
      ∙ ap (λ (t : List ℕ). (t ++ counted) ++ codes "}") (front_is (front_json chances_name))

  pub chances_told : (form : StudiesForm) → found_told form found ≡ told_in form (Chances parts turns)
  chances_told Answers = text_is
  chances_told Explained = ap (λ (t : List ℕ). t ++ found_reasons found) text_is ∙ ap (λ (t : List ℕ). chances_text parts turns ++ t) reasons_are
  chances_told Objects = members_are

-- ---- the discards after which no play wins as often

pub none_beaten : (odds : Odds) (others : List DiscardOdds) (before : List ℕ) → IsListed quoted_kind (map (beaten_kind odds) (take 0 others)) before before false
none_beaten odds others before = record { bytes = sym (append-nil before); begun = refl }

pub next_beaten : (odds : Odds) (others : List DiscardOdds) (i : ℕ) (other : DiscardOdds) (before now after : List ℕ) (later begun : Bool) → i < length others → other ≡ get_or others i other → IsListed quoted_kind (map (beaten_kind odds) (take i others)) before now later
    → after ≡ now ++ listed_next quoted_kind later (beaten_kind odds other) → begun ≡ (later || something_there (beaten_kind odds other)) → IsListed quoted_kind (map (beaten_kind odds) (take (i + 1) others)) before after begun
next_beaten odds others i other before now after later begun low is so_far put begun_is =
    subst (λ (ps : List (Option ℕ)). IsListed quoted_kind ps before after begun) (take-map (beaten_kind odds) (i + 1) others)
    (next_listed quoted_kind (map (beaten_kind odds) others) i (beaten_kind odds other) before now after later begun (omega (arith, low, length-map others (beaten_kind odds)))
    (ap (beaten_kind odds) is ∙ sym (get_or-map (beaten_kind odds) others i other (beaten_kind odds other) low))
    (subst (λ (ps : List (Option ℕ)). IsListed quoted_kind ps before now later) (sym (take-map (beaten_kind odds) i others)) so_far) put begun_is)
