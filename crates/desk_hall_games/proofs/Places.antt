-- Places in a book's text.
use Rattle.std.proofs.Common.{ℕ, zero, suc, ◌-◌, ◌≤◌, List, [], ◌∷◌, Bool, Option, ap, length, length-append, take, arith}
use Rattle.desk_hall.specs.Deals.{Deal, line_of, ended, deals_text}
use Rattle.desk_hall.specs.Decided.{Request, IsJudged}
use Rattle.desk_hall.specs.declared.judged.Judged.{Judged}

front_within : (count : ℕ) (deals : List Deal) → length (deals_text (take count deals)) ≤ length (deals_text deals)
front_within zero deals = omega arith
front_within (suc count) [] = omega arith
front_within (suc count) (deal ∷ deals) =
    omega (arith, front_within count deals, length-append (ended (line_of deal)) (deals_text (take count deals)), length-append (ended (line_of deal)) (deals_text deals))

-- the place is within the text of the deals
pub place_within : {P : Type 0} (reads : P → List ℕ → Option P) (same : P → P → Bool) (start : P) (text : List ℕ) (number : ℕ) (request : Request) (judged : Judged P) → IsJudged reads same start text number request judged
    → judged.place ≤ length text
place_within reads same start text number request judged is =
    omega (arith, is.place_is, ap length is.is_text.text_is, front_within (number - 1) is.book.deals)
