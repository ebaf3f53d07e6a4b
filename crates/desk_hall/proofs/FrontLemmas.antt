-- Fronts of a book, one behind the other.
use Rattle.std.proofs.Common.{◌≡◌, ℕ, ◌+◌, List, [], ◌∷◌, ◌++◌, Bool, true, false, Option, refl, sym, ap, ◌∙◌, length, append_assoc, arith}
use Rattle.std.specs.Prelude.{◌&&◌}
use Rattle.desk_hall.specs.Deals.{Deal, line_of, ended, deals_text}
use Rattle.desk_hall.specs.Fronts.{Front, behind_deal, behind_deals, game_accepts, are_accepted}

pub behind_more : {P : Type 0} (reads : P → List ℕ → Option P) (front : Front P) (deals more : List Deal) → behind_deals reads front (deals ++ more) ≡ behind_deals reads (behind_deals reads front deals) more
behind_more reads front [] more = refl
behind_more reads front (deal ∷ deals) more = behind_more reads (behind_deal reads front deal) deals more

and_assoc : (one two three : Bool) → (one && (two && three)) ≡ ((one && two) && three)
and_assoc true two three = refl
and_assoc false two three = refl

pub accepted_more : {P : Type 0} (reads : P → List ℕ → Option P) (front : Front P) (deals more : List Deal)
    → are_accepted reads front (deals ++ more) ≡ (are_accepted reads front deals && are_accepted reads (behind_deals reads front deals) more)
accepted_more reads front [] more = refl
accepted_more reads front (deal ∷ deals) more =
    let next = behind_deal reads front deal in
    let one = game_accepts reads front.position deal in
    ap (λ (b : Bool). one && b) (accepted_more reads next deals more) ∙ and_assoc one (are_accepted reads next deals) (are_accepted reads (behind_deals reads next deals) more)

-- each deal counts for one
pub count_is : {P : Type 0} (reads : P → List ℕ → Option P) (front : Front P) (deals : List Deal) → (behind_deals reads front deals).count ≡ front.count + length deals
count_is reads front [] = omega arith
count_is reads front (deal ∷ deals) = omega (arith, count_is reads (behind_deal reads front deal) deals)

-- the text of deals and of more
pub text_more : (deals more : List Deal) → deals_text (deals ++ more) ≡ deals_text deals ++ deals_text more
text_more [] more = refl
text_more (deal ∷ deals) more = ap (λ (t : List ℕ). ended (line_of deal) ++ t) (text_more deals more) ∙ sym (append_assoc (ended (line_of deal)) (deals_text deals) (deals_text more))
