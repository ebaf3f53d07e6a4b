-- The text of the next book.
use Rattle.std.proofs.Common.{◌≡◌, ℕ, zero, suc, ◌+◌, ◌-◌, ◌≤◌, List, [], ◌∷◌, ◌++◌, Bool, true, false, Option, Some, refl, sym, subst, ap, ◌∙◌, length, append_assoc, take, drop, arith}
use Rattle.std.specs.Prelude.{◌||◌, ◌&&◌, nat_le, not, slice_get, is_some, if◌then◌else◌}
use Rattle.std.specs.List.{list_all}
use Rattle.std.proofs.Math.Seq.{take-append_seam, drop-append_seam, take-length}
use Rattle.std.proofs.lemmas.Bool.{and_parts, eqb-true}
use Rattle.std.proofs.lemmas.List.{append-nil, take-append-drop}
use Rattle.std.proofs.lemmas.List.Folds.{list_all-append}
use Rattle.desk_hall.specs.Books.{Book, front_before, whole, IsBookText}
use Rattle.desk_hall.specs.Deals.{Deal, live, gone, gone_words, line_of, ended, deals_text, is_one_line, says_gone, can_stand, is_book_deal}
use Rattle.desk_hall.specs.Decided.{Request}
use Rattle.desk_hall.specs.Fronts.{Front, first_front, behind_deal, behind_deals, game_accepts, are_accepted}
use Rattle.desk_hall.specs.Histories.{Sent, with_gone, with_taken, comes_to, book_by}
use Rattle.desk_hall.specs.Laws.{line_put, put_by, put_at, TextFollows}
use Rattle.desk_hall.specs.declared.decision.Decision.{Decision}
use Rattle.desk_hall.specs.declared.decision.Decision.TheVariants.{Taken, Again, Another, Early, Refused, Gone, Withdrawn, GoneAlready, NotLast, NoDeal}
use Rattle.desk_hall.proofs.ComesTo.{IsTaken, is_taken, IsWithdrawn, is_withdrawn}
use Rattle.desk_hall.proofs.DealsAfter.{place_of}
use Rattle.desk_hall.proofs.FrontLemmas.{accepted_more, text_more}
use Rattle.desk_hall.proofs.FrontsStay.{last_within, last_grows}

-- ---- a line that is taken

kept_live : (line : List ℕ) → can_stand line ≡ true → is_book_deal (live line) ≡ true
unfolding can_stand is_book_deal
kept_live line can =
    let parts = and_parts (nat_le (length line) 4084 && is_one_line line) (not (says_gone line)) can in
    let one = and_parts (nat_le (length line) 4084) (is_one_line line) parts.0 in
    ap (λ (b : Bool). b && not (says_gone line)) one.1 ∙ parts.1

some_is : {P : Type 0} (read : Option P) (position : P) → read ≡ Some position → is_some read ≡ true
some_is read position is = ap is_some is

and_both : (one other : Bool) → one ≡ true → other ≡ true → (one && other) ≡ true
and_both one other is also = ap (λ (b : Bool). b && other) is ∙ also

at_end : (text more : List ℕ) (place : ℕ) → place ≡ length text → put_at text place more ≡ text ++ more
at_end text more place is =
    ap (λ (n : ℕ). put_at text n more) is ∙ ap (λ (t : List ℕ). (t ++ more) ++ drop (length text) text) (take-length text)
    ∙ ap (λ (t : List ℕ). (text ++ more) ++ t) (none text) ∙ append-nil (text ++ more)
  where
    none : (bytes : List ℕ) → drop (length bytes) bytes ≡ []
    none [] = refl
    none (byte ∷ bytes) = none bytes

text_taken : {P : Type 0} (reads : P → List ℕ → Option P) (same : P → P → Bool) (text : List ℕ) (book : Book P) (sent : Sent) (position : P) → IsBookText reads text book → IsTaken reads book sent position
    → IsBookText reads (put_at text (length (deals_text (take (sent.number - 1) book.deals))) (line_put sent.request)) (record { start = book.start; deals = with_taken sent.request book.deals })
text_taken {P} reads same text book sent position is so =
    let deals = book.deals in
    let line = so.line in
    let number : sent.number - 1 ≡ length deals = omega (arith, so.next) in
    let all : take (sent.number - 1) deals ≡ deals = ap (λ (n : ℕ). take n deals) number ∙ take-length deals in
    let end : put_at text (length (deals_text (take (sent.number - 1) deals))) (ended line) ≡ text ++ ended line =
    at_end text (ended line) (length (deals_text (take (sent.number - 1) deals))) (ap (λ (ds : List Deal). length (deals_text ds)) all ∙ ap length (sym is.text_is)) in
    let front : front_before reads book sent.number ≡ behind_deals reads (first_front book.start) deals = ap (behind_deals reads (first_front book.start)) all in
    let accepts : game_accepts reads (behind_deals reads (first_front book.start) deals).position (live line) ≡ true =
    some_is (reads (behind_deals reads (first_front book.start) deals).position line) position (ap (λ (f : Front P). reads f.position line) (sym front) ∙ so.read) in
    let longer : IsBookText reads (text ++ ended line) (record { start = book.start; deals = deals ++ live line ∷ [] }) = record {
      text_is = ap (λ (t : List ℕ). t ++ ended line) is.text_is ∙ ap (λ (t : List ℕ). deals_text deals ++ t) (sym (append-nil (ended line))) ∙ sym (text_more deals (live line ∷ []));
      kept = list_all-append is_book_deal deals (live line ∷ []) ∙ and_both (list_all is_book_deal deals) (is_book_deal (live line) && true) is.kept (ap (λ (b : Bool). b && true) (kept_live line so.can));
      sound = accepted_more reads (first_front book.start) deals (live line ∷ [])
          ∙ and_both (are_accepted reads (first_front book.start) deals) (game_accepts reads (behind_deals reads (first_front book.start) deals).position (live line) && true) is.sound (ap (λ (b : Bool). b && true) accepts);
    } in
    subst (λ (r : Request). IsBookText reads (put_at text (length (deals_text (take (sent.number - 1) deals))) (line_put r)) (record { start = book.start; deals = with_taken r deals })) (sym so.hands_in)
    (subst (λ (t : List ℕ). IsBookText reads t (record { start = book.start; deals = deals ++ live line ∷ [] })) (sym end) longer)

-- ---- a deal that is withdrawn

abbrev all_gone : List Deal → Bool
all_gone deals = list_all (λ deal. deal.is_withdrawn) deals

gone_accepted : {P : Type 0} (reads : P → List ℕ → Option P) (front : Front P) (deals : List Deal) → all_gone deals ≡ true → are_accepted reads front deals ≡ true
gone_accepted reads front [] all = refl
gone_accepted reads front (deal ∷ deals) all =
    let both = and_parts _ _ all in
    and_both (game_accepts reads front.position deal) (are_accepted reads (behind_deal reads front deal) deals) (ap (λ (b : Bool). b || is_some (reads front.position deal.line)) both.0) (gone_accepted reads (behind_deal reads front deal) deals both.1)

first_gone : (gone : Bool) (last count most : ℕ) → (if gone then last else suc count) ≤ most → most ≤ count → gone ≡ true
first_gone true last count most within few = refl
first_gone false last count most within few = absurd (omega (arith, within, few))

-- where the last live deal is none behind a front, all behind it are withdrawn
none_live : {P : Type 0} (reads : P → List ℕ → Option P) (front : Front P) (deals : List Deal) → front.last_live ≤ front.count → (behind_deals reads front deals).last_live ≤ front.count → all_gone deals ≡ true
none_live reads front [] within none = refl
none_live reads front (deal ∷ deals) within none =
    let next = behind_deal reads front deal in
    let next_within : next.last_live ≤ next.count = last_within deal.is_withdrawn front.last_live front.count within in
    let grows : next.last_live ≤ (behind_deals reads next deals).last_live = last_grows reads next deals next_within in
    and_both deal.is_withdrawn (all_gone deals) (first_gone deal.is_withdrawn front.last_live front.count (behind_deals reads next deals).last_live grows none)
    (none_live reads next deals next_within (omega (arith, none)))

gone_sound : {P : Type 0} (reads : P → List ℕ → Option P) (front : Front P) (deals : List Deal) (at : ℕ) → front.last_live ≤ front.count → (behind_deals reads front deals).last_live ≡ front.count + suc at
    → are_accepted reads front deals ≡ true → are_accepted reads front (with_gone at deals) ≡ true
gone_sound reads front [] at within last sound = refl
gone_sound reads front (deal ∷ deals) zero within last sound =
    let next = behind_deal reads front deal in
    gone_accepted reads (behind_deal reads front (gone deal.line)) deals
    (none_live reads next deals (last_within deal.is_withdrawn front.last_live front.count within) (omega (arith, last)))
gone_sound reads front (deal ∷ deals) (suc at) within last sound =
    let next = behind_deal reads front deal in
    let both = and_parts _ _ sound in
    and_both (game_accepts reads front.position deal) (are_accepted reads next (with_gone at deals)) both.0
    (gone_sound reads next deals at (last_within deal.is_withdrawn front.last_live front.count within) (omega (arith, last)) both.1)

kept_gone : (deal : Deal) → is_book_deal deal ≡ true → is_book_deal (gone deal.line) ≡ true
unfolding is_book_deal
kept_gone deal kept = ap (λ (b : Bool). b && true) ((and_parts _ _ kept).0)

gone_kept : (at : ℕ) (deals : List Deal) → list_all is_book_deal deals ≡ true → list_all is_book_deal (with_gone at deals) ≡ true
gone_kept at [] kept = refl
gone_kept zero (deal ∷ deals) kept =
    let both = and_parts _ _ kept in and_both (is_book_deal (gone deal.line)) (list_all is_book_deal deals) (kept_gone deal both.0) both.1
gone_kept (suc at) (deal ∷ deals) kept =
    let both = and_parts _ _ kept in and_both (is_book_deal deal) (list_all is_book_deal (with_gone at deals)) both.0 (gone_kept at deals both.1)

-- the deals around one of them
around : (deals : List Deal) (at : ℕ) (deal : Deal) → slice_get deals at ≡ Some deal → deals ≡ take at deals ++ deal ∷ drop (suc at) deals
around [] at deal is = absurd (cc)
around (first ∷ deals) zero deal is = let same : first ≡ deal = cc in ap (λ (d : Deal). d ∷ deals) same
around (first ∷ deals) (suc at) deal is = ap (λ (ds : List Deal). first ∷ ds) (around deals at deal is)

around_gone : (deals : List Deal) (at : ℕ) (deal : Deal) → slice_get deals at ≡ Some deal → with_gone at deals ≡ take at deals ++ gone deal.line ∷ drop (suc at) deals
around_gone [] at deal is = absurd (cc)
around_gone (first ∷ deals) zero deal is = let same : first ≡ deal = cc in ap (λ (d : Deal). gone d.line ∷ deals) same
around_gone (first ∷ deals) (suc at) deal is = ap (λ (ds : List Deal). first ∷ ds) (around_gone deals at deal is)

put_between : (front back more : List ℕ) → put_at (front ++ back) (length front) more ≡ (front ++ more) ++ back
put_between front back more =
    ap (λ (t : List ℕ). (t ++ more) ++ drop (length front) (front ++ back)) (take-append_seam front back) ∙ ap (λ (t : List ℕ). (front ++ more) ++ t) (drop-append_seam front back)

live_line : (line : List ℕ) (is : Bool) → is ≡ false → (let deal : Deal = record { line = line; is_withdrawn = is } in line_of deal ≡ line)
live_line line true is = absurd (cc)
live_line line false is = refl

gone_text : (deals : List Deal) (at : ℕ) (deal : Deal) → slice_get deals at ≡ Some deal → deal.is_withdrawn ≡ false
    → put_at (deals_text deals) (length (deals_text (take at deals))) gone_words ≡ deals_text (with_gone at deals)
gone_text deals at deal is lives =
    let before = take at deals in
    let behind = drop (suc at) deals in
    let front = deals_text before in
    let rest = deals_text behind in
    let whole : deals_text deals ≡ front ++ (ended deal.line ++ rest) =
    ap deals_text (around deals at deal is) ∙ text_more before (deal ∷ behind) ∙ ap (λ (l : List ℕ). front ++ (ended l ++ rest)) (live_line deal.line deal.is_withdrawn lives) in
    let shift : gone_words ++ (ended deal.line ++ rest) ≡ ended (gone_words ++ deal.line) ++ rest =
    sym (append_assoc gone_words (ended deal.line) rest) ∙ ap (λ (t : List ℕ). t ++ rest) (sym (append_assoc gone_words deal.line (10 ∷ []))) in
    ap (λ (t : List ℕ). put_at t (length front) gone_words) whole ∙ put_between front (ended deal.line ++ rest) gone_words ∙ append_assoc front gone_words (ended deal.line ++ rest) ∙ ap (λ (t : List ℕ). front ++ t) shift
    ∙ sym (ap deals_text (around_gone deals at deal is) ∙ text_more before (gone deal.line ∷ behind))

text_withdrawn : {P : Type 0} (reads : P → List ℕ → Option P) (text : List ℕ) (book : Book P) (number : ℕ) → IsBookText reads text book → IsWithdrawn reads book number
    → IsBookText reads (put_at text (length (deals_text (take (number - 1) book.deals))) gone_words) (record { start = book.start; deals = with_gone (number - 1) book.deals })
text_withdrawn reads text book number is so =
    let at = number - 1 in
    let last : (whole reads book).last_live ≡ 0 + suc at = omega (arith, eqb-true (whole reads book).last_live number so.last, place_of number so.some) in
    record {
      text_is = ap (λ (t : List ℕ). put_at t (length (deals_text (take at book.deals))) gone_words) is.text_is ∙ gone_text book.deals at so.deal so.deal_is so.live;
      kept = gone_kept at book.deals is.kept;
      sound = gone_sound reads (first_front book.start) book.deals at (omega arith) last is.sound;
    }

-- ---- together

nothing_put : (text : List ℕ) (place : ℕ) → put_at text place [] ≡ text
nothing_put text place = ap (λ (t : List ℕ). t ++ drop place text) (append-nil (take place text)) ∙ take-append-drop place text

text_stays : {P : Type 0} (reads : P → List ℕ → Option P) (text : List ℕ) (book : Book P) (place : ℕ) → IsBookText reads text book → IsBookText reads (put_at text place []) (record { start = book.start; deals = book.deals })
text_stays reads text book place is = subst (λ (t : List ℕ). IsBookText reads t (record { start = book.start; deals = book.deals })) (sym (nothing_put text place)) (record { text_is = is.text_is; kept = is.kept; sound = is.sound })

text_by : {P : Type 0} (reads : P → List ℕ → Option P) (same : P → P → Bool) (text : List ℕ) (book : Book P) (sent : Sent) (decision : Decision P) → comes_to reads same book sent ≡ decision → IsBookText reads text book
    → IsBookText reads (put_at text (length (deals_text (take (sent.number - 1) book.deals))) (put_by sent decision)) (book_by book sent decision)
text_by reads same text book sent (Taken position) is so = text_taken reads same text book sent position so (is_taken reads same book sent position is)
text_by reads same text book sent (Again position) is so = text_stays reads text book (length (deals_text (take (sent.number - 1) book.deals))) so
text_by reads same text book sent (Another first other) is so = text_stays reads text book (length (deals_text (take (sent.number - 1) book.deals))) so
text_by reads same text book sent Early is so = text_stays reads text book (length (deals_text (take (sent.number - 1) book.deals))) so
text_by reads same text book sent Refused is so = text_stays reads text book (length (deals_text (take (sent.number - 1) book.deals))) so
text_by reads same text book sent Gone is so = text_stays reads text book (length (deals_text (take (sent.number - 1) book.deals))) so
text_by reads same text book sent Withdrawn is so = text_withdrawn reads text book sent.number so (is_withdrawn reads same book sent is)
text_by reads same text book sent GoneAlready is so = text_stays reads text book (length (deals_text (take (sent.number - 1) book.deals))) so
text_by reads same text book sent NotLast is so = text_stays reads text book (length (deals_text (take (sent.number - 1) book.deals))) so
text_by reads same text book sent NoDeal is so = text_stays reads text book (length (deals_text (take (sent.number - 1) book.deals))) so

pub text_follows : {P : Type 0} (reads : P → List ℕ → Option P) (same : P → P → Bool) → TextFollows reads same
text_follows reads same text book sent is = text_by reads same text book sent (comes_to reads same book sent) refl is
