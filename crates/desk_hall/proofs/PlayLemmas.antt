-- Deals that are played, once one more of them is.
use Rattle.std.proofs.Common.{◌≡◌, ℕ, List, [], ◌∷◌, ◌++◌, Bool, true, false, Option, None, refl, sym, subst, ap, ◌∙◌, length, length-append, append_assoc, arith}
use Rattle.std.specs.Prelude.{◌&&◌}
use Rattle.std.specs.List.{list_all}
use Rattle.std.proofs.lemmas.List.{append-nil}
use Rattle.std.proofs.lemmas.List.Folds.{list_all-append}
use Rattle.riichi_tiles.specs.Melds.{cut_at}
use Rattle.desk_hall.specs.Deals.{Deal, is_book_deal, line_of, ended, deals_text}
use Rattle.desk_hall.specs.Fronts.{Front, behind_deal, behind_deals, game_accepts, are_accepted}
use Rattle.desk_hall.specs.Playing.{MayHave, Begins, IsNextDeal, Plays, MeetsFault, Unended, Refuses}
use Rattle.desk_hall.proofs.FrontLemmas.{behind_more, accepted_more, text_more}

pub none_played : {P : Type 0} (reads : P → List ℕ → Option P) (front : Front P) (text : List ℕ) → Plays reads front text front text
none_played reads front text = record {
  deals = [];
  begins = record { parts = refl; kept = refl };
  accepted = refl;
  after_is = refl;
  within = omega arith;
}

pub both_true : (one other : Bool) → one ≡ true → other ≡ true → (one && other) ≡ true
both_true one other is also = ap (λ (b : Bool). b && other) is ∙ also

-- a front of a text, and then a front of the rest
pub begins_more : (text : List ℕ) (deals : List Deal) (rest : List ℕ) (more : List Deal) (after : List ℕ) → Begins text deals rest → Begins rest more after → Begins text (deals ++ more) after
begins_more text deals rest more after one other = record {
  parts = one.parts ∙ ap (λ (t : List ℕ). deals_text deals ++ t) other.parts ∙ sym (append_assoc (deals_text deals) (deals_text more) after) ∙ ap (λ (t : List ℕ). t ++ after) (sym (text_more deals more));
  kept = list_all-append is_book_deal deals more ∙ both_true (list_all is_book_deal deals) (list_all is_book_deal more) one.kept other.kept;
}

pub begins_one : (text : List ℕ) (deal : Deal) (after : List ℕ) → IsNextDeal text deal after → Begins text (deal ∷ []) after
begins_one text deal after next = record {
  parts = next.parts ∙ ap (λ (t : List ℕ). t ++ after) (sym (append-nil (ended (line_of deal))));
  kept = ap (λ (b : Bool). b && true) next.kept;
}

-- one deal more
pub one_played : {P : Type 0} (reads : P → List ℕ → Option P) (before now next : Front P) (text rest : List ℕ) (deal : Deal) (after : List ℕ) → Plays reads before text now rest → IsNextDeal rest deal after
    → game_accepts reads now.position deal ≡ true → next ≡ behind_deal reads now deal → Plays reads before text next after
one_played {P} reads before now next text rest deal after plays begins accepts is = record {
  deals = plays.deals ++ deal ∷ [];
  begins = begins_more text plays.deals rest (deal ∷ []) after plays.begins (begins_one rest deal after begins);
  accepted = accepted_more reads before plays.deals (deal ∷ [])
      ∙ both_true (are_accepted reads before plays.deals) (are_accepted reads (behind_deals reads before plays.deals) (deal ∷ [])) plays.accepted
      (subst (λ (front : Front P). are_accepted reads front (deal ∷ []) ≡ true) plays.after_is (ap (λ (b : Bool). b && true) accepts));
  after_is = is ∙ ap (λ (front : Front P). behind_deal reads front deal) plays.after_is ∙ sym (behind_more reads before plays.deals (deal ∷ []));
  within = omega (arith, plays.within, ap (λ (front : Front P). front.count) is, ap length begins.parts, length-append (ended (line_of deal)) after, length-append (line_of deal) (10 ∷ []));
}

pub may_have : (most : Option ℕ) (one other : ℕ) → one ≡ other → MayHave most one → MayHave most other
may_have most one other is may = subst (λ (n : ℕ). MayHave most n) is may

-- ---- faults

pub unended : {P : Type 0} (reads : P → List ℕ → Option P) (before now : Front P) (text rest : List ℕ) → Plays reads before text now rest → cut_at 10 rest ≡ None → (rest ≡ [] → ⊥) → MeetsFault reads before text
unended reads before now text rest plays none some = Unended plays.deals rest plays.begins none some

pub refused : {P : Type 0} (reads : P → List ℕ → Option P) (before now : Front P) (text rest : List ℕ) (deal : Deal) (after : List ℕ) → Plays reads before text now rest → IsNextDeal rest deal after
    → game_accepts reads now.position deal ≡ false → MeetsFault reads before text
refused {P} reads before now text rest deal after plays begins refuses =
    Refuses (plays.deals ++ deal ∷ []) after (begins_more text plays.deals rest (deal ∷ []) after plays.begins (begins_one rest deal after begins))
    (accepted_more reads before plays.deals (deal ∷ []) ∙ ap (λ (b : Bool). b && are_accepted reads (behind_deals reads before plays.deals) (deal ∷ [])) plays.accepted
    ∙ subst (λ (front : Front P). are_accepted reads front (deal ∷ []) ≡ false) plays.after_is (ap (λ (b : Bool). b && true) refuses))

-- a fault behind deals that were played
pub fault_behind : {P : Type 0} (reads : P → List ℕ → Option P) (before now : Front P) (text rest : List ℕ) → Plays reads before text now rest → MeetsFault reads now rest → MeetsFault reads before text
fault_behind {P} reads before now text rest plays (Unended deals after begins none some) =
    Unended (plays.deals ++ deals) after (begins_more text plays.deals rest deals after plays.begins begins) none some
fault_behind {P} reads before now text rest plays (Refuses deals after begins refuses) =
    Refuses (plays.deals ++ deals) after (begins_more text plays.deals rest deals after plays.begins begins)
    (accepted_more reads before plays.deals deals ∙ ap (λ (b : Bool). b && are_accepted reads (behind_deals reads before plays.deals) deals) plays.accepted
    ∙ subst (λ (front : Front P). are_accepted reads front deals ≡ false) plays.after_is refuses)
