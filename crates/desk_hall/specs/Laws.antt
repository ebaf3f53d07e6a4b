-- What holds of whole histories of messages, whatever comes.
use Rattle.std.specs.Prelude.{◌≡◌, ℕ, suc, ◌-◌, ◌<◌, List, ◌∷◌, [], ◌++◌, map, length, take, drop, Bool, false, ◌||◌, Option, Some, None, option_map, slice_get, if◌then◌else◌}
use Rattle.std.specs.List.{list_any}
use Rattle.desk_hall.specs.Books.{Book, front_before, deal_at, next_number, IsBookText}
use Rattle.desk_hall.specs.Deals.{Deal, live, ended, gone_words, deals_text}
use Rattle.desk_hall.specs.Decided.{Request, HandsIn, Withdraws}
use Rattle.desk_hall.specs.Histories.{Sent, comes_to, next_book, book_after, turns_from, takes_line, withdraws_deal, withdrew, lines_taken, numbers_taken, numbers_from, Posted, hall_after, sent_to}
use Rattle.desk_hall.specs.declared.decision.Decision.{Decision}
use Rattle.desk_hall.specs.declared.decision.Decision.TheVariants.{Taken, Again, Another, Early, Refused, Gone, Withdrawn, GoneAlready, NotLast, NoDeal}

-- The deals behind a history are those before it, and then just the lines that were taken, each once, in their order; and the numbers at
-- which these were taken go on from the next number, without a hole.
abbrev pub DealsAreTheTaken : {P : Type 0} → (P → List ℕ → Option P) → (P → P → Bool) → Type 0
DealsAreTheTaken {P} reads same = (book : Book P) (messages : List Sent)
    → (map (λ deal. deal.line) (book_after reads same book messages).deals ≡ map (λ deal. deal.line) book.deals ++ lines_taken (turns_from reads same book messages))
    × (numbers_taken (turns_from reads same book messages) ≡ numbers_from (next_number book) (lines_taken (turns_from reads same book messages)))

-- whether the deal at a place, counted from 0, is there and withdrawn
abbrev pub gone_if : Option Deal → Bool
gone_if None = false
gone_if (Some deal) = deal.is_withdrawn

-- A deal is withdrawn behind a history where it was so before it, or where a message was answered that it is withdrawn; so what is withdrawn
-- once is withdrawn behind all that comes.
abbrev pub GoneAreTheWithdrawn : {P : Type 0} → (P → List ℕ → Option P) → (P → P → Bool) → Type 0
GoneAreTheWithdrawn {P} reads same = (book : Book P) (messages : List Sent) (place : ℕ)
    → gone_if (slice_get (book_after reads same book messages).deals place)
    ≡ (gone_if (slice_get book.deals place) || list_any (withdrew (suc place)) (turns_from reads same book messages))

-- While a deal is live it and all before it stay as they are: so its front does.
abbrev pub FrontsStay : {P : Type 0} → (P → List ℕ → Option P) → (P → P → Bool) → Type 0
FrontsStay {P} reads same = (book : Book P) (messages : List Sent) (place : ℕ) → place < length book.deals
    → gone_if (slice_get (book_after reads same book messages).deals place) ≡ false
    → take (suc place) (book_after reads same book messages).deals ≡ take (suc place) book.deals

-- A line that is taken is answered by how far it brings the game behind the live deals before it, at the next number.
abbrev pub TakenFromItsFront : {P : Type 0} → (P → List ℕ → Option P) → (P → P → Bool) → Type 0
TakenFromItsFront {P} reads same = (book : Book P) (sent : Sent) (position : P) → comes_to reads same book sent ≡ Taken position
    → (sent.number ≡ next_number book) × ((line : List ℕ) × (book.deals ++ live line ∷ [] ≡ (next_book reads same book sent).deals) × (reads (front_before reads book sent.number).position line ≡ Some position))

-- The same outcome at the same number is answered as the first time, whatever came between.
abbrev pub AgainAsTheFirst : {P : Type 0} → (P → List ℕ → Option P) → (P → P → Bool) → Type 0
AgainAsTheFirst {P} reads same = (book : Book P) (first : Sent) (between : List Sent) (again : Sent) (position other : P)
    → comes_to reads same book first ≡ Taken position
    → again.number ≡ first.number
    → comes_to reads same (book_after reads same (next_book reads same book first) between) again ≡ Again other
    → other ≡ position

abbrev pub once_more : {P : Type 0} → Bool → P → Decision P
once_more gone position = if gone then Gone else Again position

-- A message that was taken and comes once more, whatever came between, is answered as the first time; or that its deal was withdrawn.
abbrev pub DoubledIsAgain : {P : Type 0} → (P → List ℕ → Option P) → (P → P → Bool) → Type 0
DoubledIsAgain {P} reads same = (book : Book P) (first : Sent) (between : List Sent) (position : P) → comes_to reads same book first ≡ Taken position
    → comes_to reads same (book_after reads same (next_book reads same book first) between) first
    ≡ once_more (gone_if (deal_at (book_after reads same (next_book reads same book first) between) first.number)) position

-- What is neither taken nor withdrawn changes nothing.
abbrev pub OthersChangeNothing : {P : Type 0} → (P → List ℕ → Option P) → (P → P → Bool) → Type 0
OthersChangeNothing {P} reads same = (book : Book P) (sent : Sent) → takes_line (comes_to reads same book sent) ≡ false → withdraws_deal (comes_to reads same book sent) ≡ false
    → next_book reads same book sent ≡ book

-- A table's book comes from the messages to that table alone, and no table comes or goes.
abbrev pub TablesAreApart : {P : Type 0} → (P → List ℕ → Option P) → (P → P → Bool) → Type 0
TablesAreApart {P} reads same = (books : List (Book P)) (messages : List Posted) (table : ℕ)
    → slice_get (hall_after reads same books messages) table
    ≡ option_map (λ book. book_after reads same book (sent_to table messages)) (slice_get books table)

-- ---- the text of a book

abbrev pub line_put : Request → List ℕ
line_put (HandsIn line) = ended line
line_put Withdraws = []

-- what the next book's text has more: a line that is taken, or the words of a deal that is withdrawn
abbrev pub put_by : {P : Type 0} → Sent → Decision P → List ℕ
put_by sent (Taken position) = line_put sent.request
put_by sent (Again position) = []
put_by sent (Another first other) = []
put_by sent Early = []
put_by sent Refused = []
put_by sent Gone = []
put_by sent Withdrawn = gone_words
put_by sent GoneAlready = []
put_by sent NotLast = []
put_by sent NoDeal = []

-- a text with more at a place
abbrev pub put_at : List ℕ → ℕ → List ℕ → List ℕ
put_at text place more = take place text ++ more ++ drop place text

-- The text of the next book is that of the book before, with this more where the deal of the number begins, or would.
abbrev pub TextFollows : {P : Type 0} → (P → List ℕ → Option P) → (P → P → Bool) → Type 0
TextFollows {P} reads same = (text : List ℕ) (book : Book P) (sent : Sent) → IsBookText reads text book
    → IsBookText reads (put_at text (length (deals_text (take (sent.number - 1) book.deals))) (put_by sent (comes_to reads same book sent))) (next_book reads same book sent)
