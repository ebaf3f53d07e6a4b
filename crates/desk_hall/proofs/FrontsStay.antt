-- A live deal and all before it stay as they are.
use Rattle.std.proofs.Common.{◌≡◌, ℕ, zero, suc, ◌+◌, ◌-◌, ◌<◌, ◌≤◌, List, [], ◌∷◌, ◌++◌, Bool, true, false, nat_eq, nat_lt, inr, inl, Option, None, Some, refl, sym, ap, ◌∙◌, length, length-append, take, arith}
use Rattle.std.specs.Prelude.{◌||◌, slice_get, if◌then◌else◌}
use Rattle.std.specs.List.{list_any}
use Rattle.std.proofs.Math.Seq.{take-append_seam, take-length}
use Rattle.std.proofs.lemmas.Bool.{eqb-true, ne_eqb}
use Rattle.std.proofs.lemmas.List.{take-append-le}
use Rattle.std.proofs.lemmas.Option.{slice_get_cases, slice_get_within}
use Rattle.desk_hall.specs.Books.{Book, front_before, whole, deal_at, next_number}
use Rattle.desk_hall.specs.Deals.{Deal, can_stand, live}
use Rattle.desk_hall.specs.Decided.{Request, HandsIn, Withdraws, Seen, seen_at, at_live, at_deal, at_number, line_decided, decided_so}
use Rattle.desk_hall.specs.Fronts.{Front, first_front, behind_deal, behind_deals}
use Rattle.desk_hall.specs.Histories.{Sent, with_gone, with_taken, deals_by, comes_to, next_book, book_after, turns_from, withdrew}
use Rattle.desk_hall.specs.Laws.{gone_if, once_more, FrontsStay, TakenFromItsFront, AgainAsTheFirst, DoubledIsAgain}
use Rattle.desk_hall.specs.declared.decision.Decision.{Decision}
use Rattle.desk_hall.specs.declared.decision.Decision.TheVariants.{Taken, Again, Another, Early, Refused, Gone, Withdrawn, GoneAlready, NotLast, NoDeal}
use Rattle.desk_hall.proofs.Numbers.{not_zero, not_below, other_number}
use Rattle.desk_hall.proofs.ComesTo.{IsTaken, is_taken, IsWithdrawn, is_withdrawn, IsAgain, is_again}
use Rattle.desk_hall.proofs.DealsAfter.{gone_at, gone_are_the_withdrawn}

-- ---- the last live deal

-- the number of the last live deal is no greater than that of the last
pub last_within : (gone : Bool) (last count : ℕ) → last ≤ count → (if gone then last else suc count) ≤ suc count
last_within true last count within = omega (arith, within)
last_within false last count within = omega arith

last_more : (gone : Bool) (last count : ℕ) → last ≤ count → last ≤ (if gone then last else suc count)
last_more true last count within = omega arith
last_more false last count within = omega (arith, within)

pub last_grows : {P : Type 0} (reads : P → List ℕ → Option P) (front : Front P) (deals : List Deal) → front.last_live ≤ front.count → front.last_live ≤ (behind_deals reads front deals).last_live
last_grows reads front [] within = omega arith
last_grows reads front (deal ∷ deals) within =
    let next = behind_deal reads front deal in
    omega (arith, last_more deal.is_withdrawn front.last_live front.count within, last_grows reads next deals (last_within deal.is_withdrawn front.last_live front.count within))

live_last : (gone : Bool) (last count : ℕ) → gone ≡ false → (if gone then last else suc count) ≡ suc count
live_last true last count is = absurd (cc)
live_last false last count is = refl

-- no live deal has a greater number than the last live one
pub live_below : {P : Type 0} (reads : P → List ℕ → Option P) (front : Front P) (deals : List Deal) (place : ℕ) → front.last_live ≤ front.count → place < length deals → gone_if (slice_get deals place) ≡ false
    → front.count + suc place ≤ (behind_deals reads front deals).last_live
live_below reads front [] place within there is = absurd (omega (arith, there))
live_below reads front (deal ∷ deals) zero within there is =
    let next = behind_deal reads front deal in
    omega (arith, live_last deal.is_withdrawn front.last_live front.count is, last_grows reads next deals (last_within deal.is_withdrawn front.last_live front.count within))
live_below reads front (deal ∷ deals) (suc place) within there is =
    let next = behind_deal reads front deal in
    omega (arith, live_below reads next deals place (last_within deal.is_withdrawn front.last_live front.count within) (omega (arith, there)) is)

-- ---- one message

neither : (one other : Bool) → (one || other) ≡ false → (one ≡ false) × (other ≡ false)
neither true other h = absurd (cc)
neither false other h = (refl, h)

gone_before : (at place : ℕ) (deals : List Deal) → place < at → take (suc place) (with_gone at deals) ≡ take (suc place) deals
gone_before at place [] before = refl
gone_before zero place (deal ∷ deals) before = absurd (omega (arith, before))
gone_before (suc at) zero (deal ∷ deals) before = refl
gone_before (suc at) (suc place) (deal ∷ deals) before = ap (λ (ds : List Deal). deal ∷ ds) (gone_before at place deals (omega (arith, before)))

taken_stay : (request : Request) (deals : List Deal) (place : ℕ) → place < length deals → take (suc place) (with_taken request deals) ≡ take (suc place) deals
taken_stay (HandsIn line) deals place within = take-append-le (suc place) deals (live line ∷ []) (omega (arith, within))
taken_stay Withdraws deals place within = refl

withdrawn_stay : {P : Type 0} (reads : P → List ℕ → Option P) (book : Book P) (number place : ℕ) → IsWithdrawn reads book number → place < length book.deals
    → gone_if (slice_get (with_gone (number - 1) book.deals) place) ≡ false → take (suc place) (with_gone (number - 1) book.deals) ≡ take (suc place) book.deals
withdrawn_stay reads book number place so within stays =
    let at = number - 1 in
    let there : at < length book.deals = slice_get_within book.deals at so.deal so.deal_is in
    let both = neither (gone_if (slice_get book.deals place)) (nat_eq at place) (sym (gone_at at place book.deals there) ∙ stays) in
    let below : 0 + suc place ≤ (whole reads book).last_live = live_below reads (first_front book.start) book.deals place (omega arith) within both.0 in
    let last : (whole reads book).last_live ≡ number = eqb-true (whole reads book).last_live number so.last in
    gone_before at place book.deals (less at place (other_number at place both.1) (omega (arith, below, last, not_zero number so.some)))
  where
    less : (one other : ℕ) → (one ≡ other → ⊥) → other ≤ one → other < one
    less one other differ most = grind (arith, differ)

stays_by : {P : Type 0} (reads : P → List ℕ → Option P) (same : P → P → Bool) (book : Book P) (sent : Sent) (decision : Decision P) (place : ℕ) → comes_to reads same book sent ≡ decision → place < length book.deals
    → gone_if (slice_get (deals_by book.deals sent decision) place) ≡ false → take (suc place) (deals_by book.deals sent decision) ≡ take (suc place) book.deals
stays_by reads same book sent (Taken position) place is within stays = taken_stay sent.request book.deals place within
stays_by reads same book sent (Again position) place is within stays = refl
stays_by reads same book sent (Another first other) place is within stays = refl
stays_by reads same book sent Early place is within stays = refl
stays_by reads same book sent Refused place is within stays = refl
stays_by reads same book sent Gone place is within stays = refl
stays_by reads same book sent Withdrawn place is within stays = withdrawn_stay reads book sent.number place (is_withdrawn reads same book sent is) within stays
stays_by reads same book sent GoneAlready place is within stays = refl
stays_by reads same book sent NotLast place is within stays = refl
stays_by reads same book sent NoDeal place is within stays = refl

-- there are no fewer deals
as_many : (place : ℕ) (deals : List Deal) → length deals ≤ length (with_gone place deals)
as_many place [] = omega arith
as_many zero (deal ∷ deals) = omega arith
as_many (suc place) (deal ∷ deals) = omega (arith, as_many place deals)

no_fewer_taken : (request : Request) (deals : List Deal) → length deals ≤ length (with_taken request deals)
no_fewer_taken (HandsIn line) deals = omega (arith, length-append deals (live line ∷ []))
no_fewer_taken Withdraws deals = omega arith

no_fewer : {P : Type 0} (deals : List Deal) (sent : Sent) (decision : Decision P) → length deals ≤ length (deals_by deals sent decision)
no_fewer deals sent (Taken position) = no_fewer_taken sent.request deals
no_fewer deals sent (Again position) = omega arith
no_fewer deals sent (Another first other) = omega arith
no_fewer deals sent Early = omega arith
no_fewer deals sent Refused = omega arith
no_fewer deals sent Gone = omega arith
no_fewer deals sent Withdrawn = as_many (sent.number - 1) deals
no_fewer deals sent GoneAlready = omega arith
no_fewer deals sent NotLast = omega arith
no_fewer deals sent NoDeal = omega arith

-- ---- whole histories

pub fronts_stay : {P : Type 0} (reads : P → List ℕ → Option P) (same : P → P → Bool) → FrontsStay reads same
fronts_stay reads same book [] place within stays = refl
fronts_stay reads same book (sent ∷ others) place within stays =
    let decision = comes_to reads same book sent in
    let next = next_book reads same book sent in
    let there : place < length next.deals = omega (arith, within, no_fewer book.deals sent decision) in
    let both = neither (gone_if (slice_get next.deals place)) (list_any (withdrew (suc place)) (turns_from reads same next others)) (sym (gone_are_the_withdrawn reads same next others place) ∙ stays) in
    fronts_stay reads same next others place there stays ∙ stays_by reads same book sent decision place refl within both.0

pub taken_from_its_front : {P : Type 0} (reads : P → List ℕ → Option P) (same : P → P → Bool) → TakenFromItsFront reads same
taken_from_its_front {P} reads same book sent position is =
    let so : IsTaken reads book sent position = is_taken reads same book sent position is in
    let longer : (next_book reads same book sent).deals ≡ book.deals ++ live so.line ∷ [] =
    ap (λ (e : Decision P). deals_by book.deals sent e) is ∙ ap (λ (r : Request). with_taken r book.deals) so.hands_in in
    (so.next, (so.line, sym longer, so.read))

start_stays : {P : Type 0} (reads : P → List ℕ → Option P) (same : P → P → Bool) (book : Book P) (messages : List Sent) → (book_after reads same book messages).start ≡ book.start
start_stays reads same book [] = refl
start_stays reads same book (sent ∷ others) = start_stays reads same (next_book reads same book sent) others

-- the deal at a place of a front
get_in_front : (deals : List Deal) (place : ℕ) → slice_get (take (suc place) deals) place ≡ slice_get deals place
get_in_front [] zero = refl
get_in_front [] (suc place) = refl
get_in_front (deal ∷ deals) zero = refl
get_in_front (deal ∷ deals) (suc place) = get_in_front deals place

get_last : (deals : List Deal) (deal : Deal) → slice_get (deals ++ deal ∷ []) (length deals) ≡ Some deal
get_last [] deal = refl
get_last (first ∷ deals) deal = get_last deals deal

-- the front of a front
front_in_front : (deals : List Deal) (place : ℕ) → take place (take (suc place) deals) ≡ take place deals
front_in_front [] zero = refl
front_in_front [] (suc place) = refl
front_in_front (deal ∷ deals) zero = refl
front_in_front (deal ∷ deals) (suc place) = ap (λ (ds : List Deal). deal ∷ ds) (front_in_front deals place)

-- Behind a line that was taken and what came later, where its deal is live still: it is the same deal with the same front.
record IsThere {P : Type 0} (reads : P → List ℕ → Option P) (book later : Book P) (number : ℕ) (line : List ℕ) : Type 0 where
  deal_is : deal_at later number ≡ Some (live line)
  front_is : front_before reads later number ≡ front_before reads book number

still_there : {P : Type 0} (reads : P → List ℕ → Option P) (same : P → P → Bool) (book : Book P) (first : Sent) (between : List Sent) (position : P) (is : comes_to reads same book first ≡ Taken position)
    → gone_if (deal_at (book_after reads same (next_book reads same book first) between) first.number) ≡ false
    → IsThere reads book (book_after reads same (next_book reads same book first) between) first.number (is_taken reads same book first position is).line
still_there {P} reads same book first between position is lives =
    let so : IsTaken reads book first position = is_taken reads same book first position is in
    let deals = book.deals in
    let place = length deals in
    let next = next_book reads same book first in
    let later = book_after reads same next between in
    let number : first.number - 1 ≡ place = omega (arith, so.next) in
    let longer : next.deals ≡ deals ++ live so.line ∷ [] = ap (λ (e : Decision P). deals_by deals first e) is ∙ ap (λ (r : Request). with_taken r deals) so.hands_in in
    let within : place < length next.deals = omega (arith, ap length longer, length-append deals (live so.line ∷ [])) in
    let stays : gone_if (slice_get later.deals place) ≡ false = ap (λ (n : ℕ). gone_if (slice_get later.deals n)) (sym number) ∙ lives in
    let front : take (suc place) later.deals ≡ take (suc place) next.deals = fronts_stay reads same next between place within stays in
    let before : take place later.deals ≡ deals =
    sym (front_in_front later.deals place) ∙ ap (take place) front ∙ front_in_front next.deals place ∙ ap (take place) longer ∙ take-append_seam deals (live so.line ∷ []) in
    record {
      deal_is = ap (slice_get later.deals) number ∙ sym (get_in_front later.deals place) ∙ ap (λ (ds : List Deal). slice_get ds place) front ∙ get_in_front next.deals place
          ∙ ap (λ (ds : List Deal). slice_get ds place) longer ∙ get_last deals (live so.line);
      front_is = ap (λ (n : ℕ). behind_deals reads (first_front later.start) (take n later.deals)) number
          ∙ ap (λ (ds : List Deal). behind_deals reads (first_front later.start) ds) (before ∙ sym (take-length deals))
          ∙ ap (λ (s : P). behind_deals reads (first_front s) (take place deals)) (start_stays reads same next between)
          ∙ ap (λ (n : ℕ). behind_deals reads (first_front book.start) (take n deals)) (sym number);
    }

pub again_as_the_first : {P : Type 0} (reads : P → List ℕ → Option P) (same : P → P → Bool) → AgainAsTheFirst reads same
again_as_the_first {P} reads same book first between again position other is at is_again_so =
    let so : IsTaken reads book first position = is_taken reads same book first position is in
    let later = book_after reads same (next_book reads same book first) between in
    let found : IsAgain reads later again.number other = is_again reads same later again other is_again_so in
    let deal_is : deal_at later first.number ≡ Some found.deal = ap (deal_at later) (sym at) ∙ found.deal_is in
    let there = still_there reads same book first between position is (ap gone_if deal_is ∙ found.live) in
    let both_deals : Some found.deal ≡ Some (live so.line) = sym deal_is ∙ there.deal_is in
    let line_is : found.deal ≡ live so.line = cc in
    let both : Some other ≡ Some position =
    sym found.read ∙ ap (λ (n : ℕ). reads (front_before reads later n).position found.deal.line) at ∙ ap (λ (f : Front P). reads f.position found.deal.line) there.front_is
    ∙ ap (λ (d : Deal). reads (front_before reads book first.number).position d.line) line_is ∙ so.read in
    cc

-- ---- a message that comes once more

no_fewer_after : {P : Type 0} (reads : P → List ℕ → Option P) (same : P → P → Bool) (book : Book P) (messages : List Sent) → length book.deals ≤ length (book_after reads same book messages).deals
no_fewer_after reads same book [] = omega arith
no_fewer_after reads same book (sent ∷ others) =
    omega (arith, no_fewer book.deals sent (comes_to reads same book sent), no_fewer_after reads same (next_book reads same book sent) others)

at_a_number : {P : Type 0} (reads : P → List ℕ → Option P) (same : P → P → Bool) (seen : Seen P) (number : ℕ) (line : List ℕ) (deal : Option Deal) → nat_eq number 0 ≡ false → nat_lt seen.next number ≡ false → seen.deal ≡ deal
    → line_decided reads same seen number line ≡ at_number reads same seen.front deal line
unfolding line_decided
at_a_number {P} reads same seen number line deal some near is =
    ap (λ (b : Bool). let d : Decision P = if b then NoDeal else if nat_lt seen.next number then Early else at_number reads same seen.front seen.deal line in d) some
    ∙ ap (λ (b : Bool). let d : Decision P = if b then Early else at_number reads same seen.front seen.deal line in d) near
    ∙ ap (λ (o : Option Deal). at_number reads same seen.front o line) is

gone_again : {P : Type 0} (reads : P → List ℕ → Option P) (same : P → P → Bool) (front : P) (line other : List ℕ) (gone : Bool) → gone ≡ true
    → at_deal reads same front (record { line = other; is_withdrawn = gone }) line ≡ Gone
gone_again reads same front line other true is = refl
gone_again reads same front line other false is = absurd (cc)

live_once_more : {P : Type 0} (reads : P → List ℕ → Option P) (same : P → P → Bool) (front : P) (line : List ℕ) (position : P) → can_stand line ≡ true → reads front line ≡ Some position → same position position ≡ true
    → at_deal reads same front (live line) line ≡ Again position
live_once_more {P} reads same front line position can read itself =
    ap (λ (b : Bool). at_live same (reads front line) (if b then reads front line else None)) can
    ∙ ap (λ (o : Option P). at_live same o o) read
    ∙ ap (λ (b : Bool). if b then Again position else Another position position) itself

doubled_by : {P : Type 0} (reads : P → List ℕ → Option P) (same : P → P → Bool) (itself : (p : P) → same p p ≡ true) (book : Book P) (first : Sent) (between : List Sent) (position : P) (is : comes_to reads same book first ≡ Taken position) (deal : Deal)
    → deal_at (book_after reads same (next_book reads same book first) between) first.number ≡ Some deal → (gone : Bool) → deal.is_withdrawn ≡ gone
    → at_deal reads same (front_before reads (book_after reads same (next_book reads same book first) between) first.number).position deal (is_taken reads same book first position is).line ≡ once_more gone position
doubled_by reads same itself book first between position is deal at true lives =
    let later = book_after reads same (next_book reads same book first) between in
    gone_again reads same (front_before reads later first.number).position (is_taken reads same book first position is).line deal.line deal.is_withdrawn lives
doubled_by {P} reads same itself book first between position is deal at false lives =
    let so : IsTaken reads book first position = is_taken reads same book first position is in
    let later = book_after reads same (next_book reads same book first) between in
    let there = still_there reads same book first between position is (ap gone_if at ∙ lives) in
    let both_deals : Some deal ≡ Some (live so.line) = sym at ∙ there.deal_is in
    let deal_is : deal ≡ live so.line = cc in
    let front = (front_before reads later first.number).position in
    ap (λ (d : Deal). at_deal reads same front d so.line) deal_is
    ∙ live_once_more reads same front so.line position so.can (ap (λ (f : Front P). reads f.position so.line) there.front_is ∙ so.read) (itself position)

pub doubled_is_again : {P : Type 0} (reads : P → List ℕ → Option P) (same : P → P → Bool) → ((p : P) → same p p ≡ true) → DoubledIsAgain reads same
doubled_is_again {P} reads same itself book first between position is =
    let so : IsTaken reads book first position = is_taken reads same book first position is in
    let next = next_book reads same book first in
    let later = book_after reads same next between in
    let longer : next.deals ≡ book.deals ++ live so.line ∷ [] = ap (λ (e : Decision P). deals_by book.deals first e) is ∙ ap (λ (r : Request). with_taken r book.deals) so.hands_in in
    let within : length book.deals < length later.deals = omega (arith, no_fewer_after reads same next between, ap length longer, length-append book.deals (live so.line ∷ [])) in
    let some : nat_eq first.number 0 ≡ false = ne_eqb first.number 0 (λ none. omega (arith, none, so.next)) in
    let near : nat_lt (next_number later) first.number ≡ false = not_below (next_number later) first.number (omega (arith, so.next, within)) in
    let asked : comes_to reads same later first ≡ line_decided reads same (seen_at reads later first.number) first.number so.line =
    ap (λ (r : Request). decided_so reads same (seen_at reads later first.number) first.number r) so.hands_in in
    elim (slice_get_cases later.deals (first.number - 1)).1 as (λ _. comes_to reads same later first ≡ once_more (gone_if (deal_at later first.number)) position) [
      | inl found ↦
          asked ∙ at_a_number reads same (seen_at reads later first.number) first.number so.line (Some found.0) some near found.2
          ∙ doubled_by reads same itself book first between position is found.0 found.2 found.0.is_withdrawn refl
          ∙ ap (λ (o : Option Deal). once_more (gone_if o) position) (sym found.2)
      | inr past ↦ absurd (omega (arith, past.0, within, so.next))
    ]
