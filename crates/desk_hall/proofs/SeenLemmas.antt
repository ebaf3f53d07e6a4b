-- What a book has at a number, once its text is played.
use Rattle.std.proofs.Common.{◌≡◌, ◌⊎◌, inl, inr, ℕ, suc, ◌+◌, ◌-◌, ◌≤◌, List, [], ◌∷◌, ◌++◌, Bool, true, false, nat_eq, Option, None, Some, refl, sym, ap, ◌∙◌, length, length-append, take, arith}
use Rattle.std.specs.Prelude.{slice_get}
use Rattle.std.proofs.Math.Seq.{take-append_seam}
use Rattle.std.proofs.lemmas.List.{append-nil, take_all}
use Rattle.std.proofs.lemmas.Option.{slice_get_past}
use Rattle.desk_hall.specs.Deals.{Deal, line_of, ended, deals_text, deal_by}
use Rattle.desk_hall.specs.Decided.{Request, Seen, decided_so, IsJudged}
use Rattle.desk_hall.specs.Fronts.{Front, first_front, behind_deal, behind_deals, game_accepts, are_accepted}
use Rattle.desk_hall.specs.Playing.{HasSoMany, Begins, IsNextDeal, PlaysOn}
use Rattle.desk_hall.specs.Seeing.{seen_by, IsSeen}
use Rattle.desk_hall.specs.declared.deal.DealLine.{DealLine}
use Rattle.desk_hall.specs.declared.judged.Judged.{Judged}
use Rattle.desk_hall.specs.declared.sight.Sight.{Sight}
use Rattle.desk_hall.proofs.Numbers.{next_zero}
use Rattle.desk_hall.proofs.FrontLemmas.{behind_more, accepted_more, count_is}
use Rattle.desk_hall.proofs.PlayLemmas.{both_true, begins_more, begins_one}

pub is_none : (bytes : List ℕ) → true ≡ nat_eq (length bytes) 0 → bytes ≡ []
is_none [] is = refl
is_none (byte ∷ bytes) is = let not_so = next_zero (length bytes) in absurd (cc)

pub is_some : (bytes : List ℕ) → false ≡ nat_eq (length bytes) 0 → bytes ≡ [] → ⊥
is_some [] is none = absurd (cc)
is_some (byte ∷ bytes) is none = absurd (cc)

-- the bytes before a rest
place_before : (text front rest : List ℕ) → text ≡ front ++ rest → length text - length rest ≡ length front
place_before text front rest parts = omega (arith, ap length parts, length-append front rest)

-- no deal has the number
pub free_seen : {P : Type 0} (reads : P → List ℕ → Option P) (start : P) (text : List ℕ) (number : ℕ) (front : Front P) (rest : List ℕ) → PlaysOn reads (first_front start) text (Some (number - 1)) front rest → rest ≡ []
    → IsSeen reads start text number (record { front = front.position; deal = None; next = front.count + 1; last_live = front.last_live; place = length text - length rest })
free_seen {P} reads start text number front rest on none =
    let plays = on.plays in
    let deals = plays.deals in
    let counts : front.count ≡ length deals = omega (arith, ap (λ (f : Front P). f.count) plays.after_is, count_is reads (first_front start) deals) in
    let few : length deals ≤ number - 1 = omega (arith, counts, on.few) in
    let all : take (number - 1) deals ≡ deals = take_all (number - 1) deals few in
    let front_is : front.position ≡ (behind_deals reads (first_front start) (take (number - 1) deals)).position =
    ap (λ (f : Front P). f.position) plays.after_is ∙ ap (λ (ds : List Deal). (behind_deals reads (first_front start) ds).position) (sym all) in
    let deal_is : None ≡ slice_get deals (number - 1) = sym (slice_get_past deals (number - 1) few) in
    let next_is : front.count + 1 ≡ suc (length deals) = omega (arith, counts) in
    let last_is : front.last_live ≡ (behind_deals reads (first_front start) deals).last_live = ap (λ (f : Front P). f.last_live) plays.after_is in
    record {
      book = record { start = start; deals = deals };
      start_is = refl;
      is_text = record {
        text_is = plays.begins.parts ∙ ap (λ (t : List ℕ). deals_text deals ++ t) none ∙ append-nil (deals_text deals);
        kept = plays.begins.kept;
        sound = plays.accepted;
      };
      seen_is = λ i. record { front = front_is i; deal = deal_is i; next = next_is i; last_live = last_is i };
      place_is = place_before text (deals_text deals) rest plays.begins.parts ∙ ap (λ (ds : List Deal). length (deals_text ds)) (sym all);
    }

get_seam : (before : List Deal) (deal : Deal) (behind : List Deal) → slice_get (before ++ deal ∷ behind) (length before) ≡ Some deal
get_seam [] deal behind = refl
get_seam (first ∷ before) deal behind = get_seam before deal behind

-- a deal comes, so there are as many as were asked for
has_all : (rest : List ℕ) (deal : Deal) (behind : List ℕ) (most count : ℕ) → IsNextDeal rest deal behind → (rest ≡ []) ⊎ HasSoMany (Some most) count → count ≡ most
has_all rest deal behind most count next (inl none) =
    absurd (omega (arith, ap length none, ap length next.parts, length-append (ended (line_of deal)) behind, length-append (line_of deal) (10 ∷ [])))
has_all rest deal behind most count next (inr all) = all

at_end : (rest : List ℕ) (count : ℕ) → (rest ≡ []) ⊎ HasSoMany None count → rest ≡ []
at_end rest count (inl none) = none
at_end rest count (inr never) = absurd never

-- a deal has the number
pub taken_seen : {P : Type 0} (reads : P → List ℕ → Option P) (start : P) (text : List ℕ) (number : ℕ) (front : Front P) (rest : List ℕ) (deal : DealLine) (behind : List ℕ) (next all : Front P) (end : List ℕ)
    → PlaysOn reads (first_front start) text (Some (number - 1)) front rest → IsNextDeal rest (deal_by deal) behind → game_accepts reads front.position (deal_by deal) ≡ true → next ≡ behind_deal reads front (deal_by deal)
    → PlaysOn reads next behind None all end
    → IsSeen reads start text number (record { front = front.position; deal = Some deal; next = all.count + 1; last_live = all.last_live; place = length text - length rest })
taken_seen {P} reads start text number front rest deal behind next all end on is accepts next_is others =
    let one = deal_by deal in
    let before = on.plays.deals in
    let after = others.plays.deals in
    let deals = before ++ one ∷ after in
    let first = first_front start in
    let counts : front.count ≡ length before = omega (arith, ap (λ (f : Front P). f.count) on.plays.after_is, count_is reads first before) in
    let place : number - 1 ≡ length before = sym (has_all rest one behind (number - 1) front.count is on.stops) ∙ counts in
    let begins : Begins text deals end =
    begins_more text before rest (one ∷ after) end on.plays.begins (begins_more rest (one ∷ []) behind after end (begins_one rest one behind is) others.plays.begins) in
    let next_front : next ≡ behind_deal reads (behind_deals reads first before) one = next_is ∙ ap (λ (f : Front P). behind_deal reads f one) on.plays.after_is in
    let whole_is : all ≡ behind_deals reads first deals =
    others.plays.after_is ∙ ap (λ (f : Front P). behind_deals reads f after) next_front ∙ sym (behind_more reads first before (one ∷ after)) in
    let sound : are_accepted reads first deals ≡ true =
    accepted_more reads first before (one ∷ after)
    ∙ both_true (are_accepted reads first before) (are_accepted reads (behind_deals reads first before) (one ∷ after)) on.plays.accepted
    (both_true (game_accepts reads (behind_deals reads first before).position one) (are_accepted reads (behind_deal reads (behind_deals reads first before) one) after)
    (ap (λ (f : Front P). game_accepts reads f.position one) (sym on.plays.after_is) ∙ accepts)
    (ap (λ (f : Front P). are_accepted reads f after) (sym next_front) ∙ others.plays.accepted)) in
    let front_deals : take (number - 1) deals ≡ before = ap (λ (n : ℕ). take n deals) place ∙ take-append_seam before (one ∷ after) in
    let front_is : front.position ≡ (behind_deals reads first (take (number - 1) deals)).position =
    ap (λ (f : Front P). f.position) on.plays.after_is ∙ ap (λ (ds : List Deal). (behind_deals reads first ds).position) (sym front_deals) in
    let deal_is : Some one ≡ slice_get deals (number - 1) = sym (ap (slice_get deals) place ∙ get_seam before one after) in
    let count_all : all.count + 1 ≡ suc (length deals) = omega (arith, ap (λ (f : Front P). f.count) whole_is, count_is reads first deals) in
    let last_is : all.last_live ≡ (behind_deals reads first deals).last_live = ap (λ (f : Front P). f.last_live) whole_is in
    record {
      book = record { start = start; deals = deals };
      start_is = refl;
      is_text = record {
        text_is = begins.parts ∙ ap (λ (t : List ℕ). deals_text deals ++ t) (at_end end all.count others.stops) ∙ append-nil (deals_text deals);
        kept = begins.kept;
        sound = sound;
      };
      seen_is = λ i. record { front = front_is i; deal = deal_is i; next = count_all i; last_live = last_is i };
      place_is = place_before text (deals_text before) rest on.plays.begins.parts ∙ ap (λ (ds : List Deal). length (deals_text ds)) (sym front_deals);
    }

-- ---- what a message comes to there

pub judged_so : {P : Type 0} (reads : P → List ℕ → Option P) (same : P → P → Bool) (start : P) (text : List ℕ) (number : ℕ) (request : Request) (sight : Sight P) (judged : Judged P) → IsSeen reads start text number sight
    → judged.decision ≡ decided_so reads same (seen_by sight) number request → judged.front ≡ sight.front → judged.next ≡ sight.next → judged.last_live ≡ sight.last_live → judged.place ≡ sight.place
    → IsJudged reads same start text number request judged
judged_so {P} reads same start text number request sight judged seen decision front next last place = record {
  book = seen.book;
  start_is = seen.start_is;
  is_text = seen.is_text;
  decision_is = decision ∙ ap (λ (s : Seen P). decided_so reads same s number request) seen.seen_is;
  front_is = front ∙ ap (λ (s : Seen P). s.front) seen.seen_is;
  next_is = next ∙ ap (λ (s : Seen P). s.next) seen.seen_is;
  last_is = last ∙ ap (λ (s : Seen P). s.last_live) seen.seen_is;
  place_is = place ∙ seen.place_is;
}
