-- The deals of a book behind a history: the lines that were taken, and the deals that were withdrawn.
use Rattle.std.proofs.Common.{◌≡◌, ℕ, zero, suc, ◌-◌, ◌<◌, List, [], ◌∷◌, ◌++◌, map, Bool, true, false, nat_eq, Option, None, Some, refl, sym, ap, ◌∙◌, length, length-append, append_assoc, arith}
use Rattle.std.specs.Prelude.{◌||◌, slice_get}
use Rattle.std.specs.List.{list_any, cons_option}
use Rattle.std.proofs.lemmas.List.{append-nil, map-append}
use Rattle.std.proofs.lemmas.Option.{slice_get_within}
use Rattle.desk_hall.specs.Books.{Book, next_number}
use Rattle.desk_hall.specs.Deals.{Deal, live}
use Rattle.desk_hall.specs.Decided.{Request, HandsIn, Withdraws}
use Rattle.desk_hall.specs.Histories.{Sent, with_gone, with_taken, deals_by, comes_to, book_by, next_book, book_after, takes_line, withdraws_deal, turns_from, line_handed, line_taken, number_taken, withdrew, lines_taken, numbers_taken, numbers_from}
use Rattle.desk_hall.specs.Laws.{gone_if, DealsAreTheTaken, GoneAreTheWithdrawn, OthersChangeNothing}
use Rattle.desk_hall.specs.declared.decision.Decision.{Decision}
use Rattle.desk_hall.specs.declared.decision.Decision.TheVariants.{Taken, Again, Another, Early, Refused, Gone, Withdrawn, GoneAlready, NotLast, NoDeal}
use Rattle.desk_hall.proofs.Numbers.{not_zero, both_next, zero_next, next_zero}
use Rattle.desk_hall.proofs.ComesTo.{IsTaken, is_taken, IsWithdrawn, is_withdrawn}

-- ---- the lines of deals

abbrev pub lines_in : List Deal → List (List ℕ)
lines_in deals = map (λ deal. deal.line) deals

gone_lines : (place : ℕ) (deals : List Deal) → lines_in (with_gone place deals) ≡ lines_in deals
gone_lines place [] = refl
gone_lines zero (deal ∷ deals) = refl
gone_lines (suc place) (deal ∷ deals) = ap (λ (ls : List (List ℕ)). deal.line ∷ ls) (gone_lines place deals)

none_more : (deals : List Deal) → lines_in deals ≡ lines_in deals ++ []
none_more deals = sym (append-nil (lines_in deals))

taken_lines : (request : Request) (deals : List Deal) → lines_in (with_taken request deals) ≡ lines_in deals ++ cons_option (line_handed request) []
taken_lines (HandsIn line) deals = map-append (λ (deal : Deal). deal.line) deals (live line ∷ [])
taken_lines Withdraws deals = none_more deals

lines_by : {P : Type 0} (deals : List Deal) (sent : Sent) (decision : Decision P)
    → lines_in (deals_by deals sent decision) ≡ lines_in deals ++ cons_option (line_taken (record { sent = sent; decision = decision })) []
lines_by deals sent (Taken position) = taken_lines sent.request deals
lines_by deals sent (Again position) = none_more deals
lines_by deals sent (Another first other) = none_more deals
lines_by deals sent Early = none_more deals
lines_by deals sent Refused = none_more deals
lines_by deals sent Gone = none_more deals
lines_by deals sent Withdrawn = gone_lines (sent.number - 1) deals ∙ none_more deals
lines_by deals sent GoneAlready = none_more deals
lines_by deals sent NotLast = none_more deals
lines_by deals sent NoDeal = none_more deals

onto : {A : Type 0} (item : Option A) (items : List A) → cons_option item [] ++ items ≡ cons_option item items
onto None items = refl
onto (Some item) items = refl

lines_after : {P : Type 0} (reads : P → List ℕ → Option P) (same : P → P → Bool) (book : Book P) (messages : List Sent)
    → lines_in (book_after reads same book messages).deals ≡ lines_in book.deals ++ lines_taken (turns_from reads same book messages)
lines_after reads same book [] = none_more book.deals
lines_after reads same book (sent ∷ others) =
    let decision = comes_to reads same book sent in
    let next = next_book reads same book sent in
    let line = line_taken (record { sent = sent; decision = decision }) in
    let rest = lines_taken (turns_from reads same next others) in
    lines_after reads same next others ∙ ap (λ (ls : List (List ℕ)). ls ++ rest) (lines_by book.deals sent decision)
    ∙ append_assoc (lines_in book.deals) (cons_option line []) rest ∙ ap (λ (ls : List (List ℕ)). lines_in book.deals ++ ls) (onto line rest)

-- ---- their numbers

-- a turn with the number that the next line has, where its line is taken
numbers_by : {P : Type 0} (reads : P → List ℕ → Option P) (same : P → P → Bool) (book : Book P) (sent : Sent) (decision : Decision P) → comes_to reads same book sent ≡ decision
    → (rest : List (List ℕ)) (numbers : List ℕ) → numbers ≡ numbers_from (suc (length (deals_by book.deals sent decision))) rest
    → cons_option (number_taken (record { sent = sent; decision = decision })) numbers ≡ numbers_from (next_number book) (cons_option (line_taken (record { sent = sent; decision = decision })) rest)
numbers_by {P} reads same book sent (Taken position) is rest numbers so =
    let taken : IsTaken reads book sent position = is_taken reads same book sent position is in
    let longer : length (with_taken (HandsIn taken.line) book.deals) ≡ suc (length book.deals) = omega (arith, length-append book.deals (live taken.line ∷ [])) in
    let first : sent.number ∷ numbers ≡ next_number book ∷ numbers_from (suc (next_number book)) rest =
    ap (λ (n : ℕ). n ∷ numbers) taken.next
    ∙ ap (λ (ns : List ℕ). next_number book ∷ ns) (so ∙ ap (λ (r : Request). numbers_from (suc (length (with_taken r book.deals))) rest) taken.hands_in ∙ ap (λ (n : ℕ). numbers_from (suc n) rest) longer) in
    first ∙ ap (λ (r : Request). numbers_from (next_number book) (cons_option (line_handed r) rest)) (sym taken.hands_in)
numbers_by reads same book sent (Again position) is rest numbers so = so
numbers_by reads same book sent (Another first other) is rest numbers so = so
numbers_by reads same book sent Early is rest numbers so = so
numbers_by reads same book sent Refused is rest numbers so = so
numbers_by reads same book sent Gone is rest numbers so = so
numbers_by reads same book sent Withdrawn is rest numbers so = so ∙ ap (λ (n : ℕ). numbers_from (suc n) rest) (as_many (sent.number - 1) book.deals)
  where
    as_many : (place : ℕ) (deals : List Deal) → length (with_gone place deals) ≡ length deals
    as_many place [] = refl
    as_many zero (deal ∷ deals) = refl
    as_many (suc place) (deal ∷ deals) = ap suc (as_many place deals)
numbers_by reads same book sent GoneAlready is rest numbers so = so
numbers_by reads same book sent NotLast is rest numbers so = so
numbers_by reads same book sent NoDeal is rest numbers so = so

numbers_after : {P : Type 0} (reads : P → List ℕ → Option P) (same : P → P → Bool) (book : Book P) (messages : List Sent)
    → numbers_taken (turns_from reads same book messages) ≡ numbers_from (next_number book) (lines_taken (turns_from reads same book messages))
numbers_after reads same book [] = refl
numbers_after reads same book (sent ∷ others) =
    let next = next_book reads same book sent in
    numbers_by reads same book sent (comes_to reads same book sent) refl (lines_taken (turns_from reads same next others)) (numbers_taken (turns_from reads same next others)) (numbers_after reads same next others)

pub deals_are_the_taken : {P : Type 0} (reads : P → List ℕ → Option P) (same : P → P → Bool) → DealsAreTheTaken reads same
deals_are_the_taken reads same book messages = (lines_after reads same book messages, numbers_after reads same book messages)

-- ---- withdrawn deals

or_false : (b : Bool) → b ≡ (b || false)
or_false true = refl
or_false false = refl

or_true : (b : Bool) → true ≡ (b || true)
or_true true = refl
or_true false = refl

or_assoc : (one two three : Bool) → ((one || two) || three) ≡ (one || (two || three))
or_assoc true two three = refl
or_assoc false two three = refl

one_live_more : (deals : List Deal) (line : List ℕ) (place : ℕ) → gone_if (slice_get (deals ++ live line ∷ []) place) ≡ gone_if (slice_get deals place)
one_live_more [] line zero = refl
one_live_more [] line (suc place) = refl
one_live_more (deal ∷ deals) line zero = refl
one_live_more (deal ∷ deals) line (suc place) = one_live_more deals line place

taken_gone : (request : Request) (deals : List Deal) (place : ℕ) → gone_if (slice_get (with_taken request deals) place) ≡ gone_if (slice_get deals place)
taken_gone (HandsIn line) deals place = one_live_more deals line place
taken_gone Withdraws deals place = refl

-- the deal that is withdrawn, and the others
pub gone_at : (at place : ℕ) (deals : List Deal) → at < length deals → gone_if (slice_get (with_gone at deals) place) ≡ (gone_if (slice_get deals place) || nat_eq at place)
gone_at at place [] within = absurd (omega arith)
gone_at zero zero (deal ∷ deals) within = or_true deal.is_withdrawn
gone_at zero (suc place) (deal ∷ deals) within = or_false (gone_if (slice_get deals place)) ∙ ap (λ (b : Bool). gone_if (slice_get deals place) || b) (sym (zero_next place))
gone_at (suc at) zero (deal ∷ deals) within = or_false deal.is_withdrawn ∙ ap (λ (b : Bool). deal.is_withdrawn || b) (sym (next_zero at))
gone_at (suc at) (suc place) (deal ∷ deals) within = gone_at at place deals (omega (arith, within)) ∙ ap (λ (b : Bool). gone_if (slice_get deals place) || b) (sym (both_next at place))

-- the place of a number that isn't 0
pub place_of : (number : ℕ) → nat_eq number 0 ≡ false → number ≡ suc (number - 1)
place_of number some = omega (arith, not_zero number some)

gone_by : {P : Type 0} (reads : P → List ℕ → Option P) (same : P → P → Bool) (book : Book P) (sent : Sent) (decision : Decision P) (place : ℕ) → comes_to reads same book sent ≡ decision
    → gone_if (slice_get (deals_by book.deals sent decision) place) ≡ (gone_if (slice_get book.deals place) || withdrew (suc place) (record { sent = sent; decision = decision }))
gone_by reads same book sent (Taken position) place is = taken_gone sent.request book.deals place ∙ or_false (gone_if (slice_get book.deals place))
gone_by reads same book sent (Again position) place is = or_false (gone_if (slice_get book.deals place))
gone_by reads same book sent (Another first other) place is = or_false (gone_if (slice_get book.deals place))
gone_by reads same book sent Early place is = or_false (gone_if (slice_get book.deals place))
gone_by reads same book sent Refused place is = or_false (gone_if (slice_get book.deals place))
gone_by reads same book sent Gone place is = or_false (gone_if (slice_get book.deals place))
gone_by reads same book sent Withdrawn place is =
    let so : IsWithdrawn reads book sent.number = is_withdrawn reads same book sent is in
    let within : sent.number - 1 < length book.deals = slice_get_within book.deals (sent.number - 1) so.deal so.deal_is in
    gone_at (sent.number - 1) place book.deals within
    ∙ ap (λ (b : Bool). gone_if (slice_get book.deals place) || b) (sym (both_next (sent.number - 1) place) ∙ ap (λ (n : ℕ). nat_eq n (suc place)) (sym (place_of sent.number so.some)))
gone_by reads same book sent GoneAlready place is = or_false (gone_if (slice_get book.deals place))
gone_by reads same book sent NotLast place is = or_false (gone_if (slice_get book.deals place))
gone_by reads same book sent NoDeal place is = or_false (gone_if (slice_get book.deals place))

pub gone_are_the_withdrawn : {P : Type 0} (reads : P → List ℕ → Option P) (same : P → P → Bool) → GoneAreTheWithdrawn reads same
gone_are_the_withdrawn reads same book [] place = or_false (gone_if (slice_get book.deals place))
gone_are_the_withdrawn reads same book (sent ∷ others) place =
    let decision = comes_to reads same book sent in
    let next = next_book reads same book sent in
    let rest = list_any (withdrew (suc place)) (turns_from reads same next others) in
    gone_are_the_withdrawn reads same next others place
    ∙ ap (λ (b : Bool). b || rest) (gone_by reads same book sent decision place refl)
    ∙ or_assoc (gone_if (slice_get book.deals place)) (withdrew (suc place) (record { sent = sent; decision = decision })) rest

-- ---- what changes nothing

unchanged : {P : Type 0} (book : Book P) (sent : Sent) (decision : Decision P) → takes_line decision ≡ false → withdraws_deal decision ≡ false → book_by book sent decision ≡ book
unchanged book sent (Taken position) untaken stays = absurd (cc)
unchanged book sent (Again position) untaken stays = refl
unchanged book sent (Another first other) untaken stays = refl
unchanged book sent Early untaken stays = refl
unchanged book sent Refused untaken stays = refl
unchanged book sent Gone untaken stays = refl
unchanged book sent Withdrawn untaken stays = absurd (cc)
unchanged book sent GoneAlready untaken stays = refl
unchanged book sent NotLast untaken stays = refl
unchanged book sent NoDeal untaken stays = refl

pub others_change_nothing : {P : Type 0} (reads : P → List ℕ → Option P) (same : P → P → Bool) → OthersChangeNothing reads same
others_change_nothing reads same book sent untaken stays = unchanged book sent (comes_to reads same book sent) untaken stays
