-- Messages to the tables of a hall, one after another, and what each came to.
use Rattle.std.specs.Prelude.{ℕ, zero, suc, ◌-◌, ◌==◌, List, [], ◌∷◌, ◌++◌, Bool, true, false, ◌&&◌, Option, None, Some, if◌then◌else◌}
use Rattle.std.specs.List.{filter_map}
use Rattle.desk_hall.specs.Books.{Book}
use Rattle.desk_hall.specs.Deals.{Deal, live, gone}
use Rattle.desk_hall.specs.Decided.{Request, HandsIn, Withdraws, decided}
use Rattle.desk_hall.specs.declared.decision.Decision.{Decision}
use Rattle.desk_hall.specs.declared.decision.Decision.TheVariants.{Taken, Again, Another, Early, Refused, Gone, Withdrawn, GoneAlready, NotLast, NoDeal}

-- a message to a table: it asks this at a number
pub record Sent : Type 0 where
  pub number : ℕ
  pub request : Request

-- ---- the book behind a message

-- the deal at a place, counted from 0, is withdrawn
abbrev pub with_gone : ℕ → List Deal → List Deal
with_gone place [] = []
with_gone zero (deal ∷ deals) = gone deal.line ∷ deals
with_gone (suc place) (deal ∷ deals) = deal ∷ with_gone place deals

-- a line that is taken is one live deal more
abbrev pub with_taken : Request → List Deal → List Deal
with_taken (HandsIn line) deals = deals ++ live line ∷ []
with_taken Withdraws deals = deals

-- what is taken and what is withdrawn changes the deals, and nothing else does
abbrev pub deals_by : {P : Type 0} → List Deal → Sent → Decision P → List Deal
deals_by deals sent (Taken position) = with_taken sent.request deals
deals_by deals sent (Again position) = deals
deals_by deals sent (Another first other) = deals
deals_by deals sent Early = deals
deals_by deals sent Refused = deals
deals_by deals sent Gone = deals
deals_by deals sent Withdrawn = with_gone (sent.number - 1) deals
deals_by deals sent GoneAlready = deals
deals_by deals sent NotLast = deals
deals_by deals sent NoDeal = deals

-- what a message comes to at a book
abbrev pub comes_to : {P : Type 0} → (P → List ℕ → Option P) → (P → P → Bool) → Book P → Sent → Decision P
comes_to reads same book sent = decided reads same book sent.number sent.request

abbrev pub book_by : {P : Type 0} → Book P → Sent → Decision P → Book P
book_by book sent decision = record { start = book.start; deals = deals_by book.deals sent decision }

abbrev pub next_book : {P : Type 0} → (P → List ℕ → Option P) → (P → P → Bool) → Book P → Sent → Book P
next_book reads same book sent = book_by book sent (comes_to reads same book sent)

-- ---- the messages to one table

abbrev pub book_after : {P : Type 0} → (P → List ℕ → Option P) → (P → P → Bool) → Book P → List Sent → Book P
book_after reads same book [] = book
book_after reads same book (sent ∷ others) = book_after reads same (next_book reads same book sent) others

-- a turn: a message, and what it came to
pub record Turn (P : Type 0) : Type 0 where
  pub sent : Sent
  pub decision : Decision P

abbrev pub turns_from : {P : Type 0} → (P → List ℕ → Option P) → (P → P → Bool) → Book P → List Sent → List (Turn P)
turns_from reads same book [] = []
turns_from reads same book (sent ∷ others) =
    record { sent = sent; decision = comes_to reads same book sent } ∷ turns_from reads same (next_book reads same book sent) others

-- ---- what turns say

abbrev pub line_handed : Request → Option (List ℕ)
line_handed (HandsIn line) = Some line
line_handed Withdraws = None

abbrev pub takes_line : {P : Type 0} → Decision P → Bool
takes_line (Taken position) = true
takes_line (Again position) = false
takes_line (Another first other) = false
takes_line Early = false
takes_line Refused = false
takes_line Gone = false
takes_line Withdrawn = false
takes_line GoneAlready = false
takes_line NotLast = false
takes_line NoDeal = false

abbrev pub withdraws_deal : {P : Type 0} → Decision P → Bool
withdraws_deal (Taken position) = false
withdraws_deal (Again position) = false
withdraws_deal (Another first other) = false
withdraws_deal Early = false
withdraws_deal Refused = false
withdraws_deal Gone = false
withdraws_deal Withdrawn = true
withdraws_deal GoneAlready = false
withdraws_deal NotLast = false
withdraws_deal NoDeal = false

-- the line and the number of a turn whose line was taken
abbrev pub line_taken : {P : Type 0} → Turn P → Option (List ℕ)
line_taken turn = if takes_line turn.decision then line_handed turn.sent.request else None

abbrev pub number_taken : {P : Type 0} → Turn P → Option ℕ
number_taken turn = if takes_line turn.decision then Some turn.sent.number else None

-- the turn withdrew the deal of a number
abbrev pub withdrew : {P : Type 0} → ℕ → Turn P → Bool
withdrew number turn = withdraws_deal turn.decision && turn.sent.number == number

abbrev pub lines_taken : {P : Type 0} → List (Turn P) → List (List ℕ)
lines_taken turns = filter_map line_taken turns

abbrev pub numbers_taken : {P : Type 0} → List (Turn P) → List ℕ
numbers_taken turns = filter_map number_taken turns

-- a number for each of some lines, from this one on without a hole
abbrev pub numbers_from : ℕ → List (List ℕ) → List ℕ
numbers_from number [] = []
numbers_from number (line ∷ lines) = number ∷ numbers_from (suc number) lines

-- ---- many tables

-- a message to one of many tables
pub record Posted : Type 0 where
  pub table : ℕ
  pub sent : Sent

-- the book at a place has another one in its place
abbrev pub books_by : {P : Type 0} → (P → List ℕ → Option P) → (P → P → Bool) → ℕ → Sent → List (Book P) → List (Book P)
books_by reads same table sent [] = []
books_by reads same zero sent (book ∷ books) = next_book reads same book sent ∷ books
books_by reads same (suc table) sent (book ∷ books) = book ∷ books_by reads same table sent books

abbrev pub hall_after : {P : Type 0} → (P → List ℕ → Option P) → (P → P → Bool) → List (Book P) → List Posted → List (Book P)
hall_after reads same books [] = books
hall_after reads same books (posted ∷ others) = hall_after reads same (books_by reads same posted.table posted.sent books) others

abbrev pub sent_if : Bool → Sent → Option Sent
sent_if true sent = Some sent
sent_if false sent = None

-- the messages to a table, in their order
abbrev pub sent_to : ℕ → List Posted → List Sent
sent_to table messages = filter_map (λ posted. sent_if (posted.table == table) posted.sent) messages
