-- What a message comes to.
use Rattle.std.specs.Prelude.{◌≡◌, ℕ, ◌-◌, ◌==◌, List, length, take, Bool, nat_lt, Option, None, Some, if◌then◌else◌}
use Rattle.desk_hall.specs.Deals.{Deal, can_stand, deals_text}
use Rattle.desk_hall.specs.Books.{Book, front_before, whole, deal_at, next_number, IsBookText}
use Rattle.desk_hall.specs.declared.decision.Decision.{Decision}
use Rattle.desk_hall.specs.declared.decision.Decision.TheVariants.{Taken, Again, Another, Early, Refused, Gone, Withdrawn, GoneAlready, NotLast, NoDeal}
use Rattle.desk_hall.specs.declared.judged.Judged.{Judged}

-- what is asked at a number
pub data Request : Type 0 where
  HandsIn : List ℕ → Request
  Withdraws : Request

-- What a book has at a number: how far the game has come by the live deals before it; its deal; the next number; and the number of the last
-- live deal, or 0.
pub record Seen (P : Type 0) : Type 0 where
  pub front : P
  pub deal : Option Deal
  pub next : ℕ
  pub last_live : ℕ

abbrev pub seen_at : {P : Type 0} → (P → List ℕ → Option P) → Book P → ℕ → Seen P
seen_at reads book number = record {
  front = (front_before reads book number).position;
  deal = deal_at book number;
  next = next_number book;
  last_live = (whole reads book).last_live;
}

-- ---- a line that is handed in

-- how far it brings the game there; nothing where it can't stand in a book, or the game refuses it
abbrev pub handed_in : {P : Type 0} → (P → List ℕ → Option P) → P → List ℕ → Option P
handed_in reads front line = if can_stand line then reads front line else None

-- at the next number
abbrev pub at_next : {P : Type 0} → Option P → Decision P
at_next None = Refused
at_next (Some position) = Taken position

-- beside the outcome of a number that is taken
abbrev pub again_or_another : {P : Type 0} → (P → P → Bool) → P → P → Decision P
again_or_another same first other = if same first other then Again first else Another first other

-- at a number that is taken: by its own line, which no book refuses, and by the line handed in
abbrev pub at_live : {P : Type 0} → (P → P → Bool) → Option P → Option P → Decision P
at_live same None line = Refused
at_live same (Some first) None = Refused
at_live same (Some first) (Some other) = again_or_another same first other

abbrev pub at_deal : {P : Type 0} → (P → List ℕ → Option P) → (P → P → Bool) → P → Deal → List ℕ → Decision P
at_deal reads same front deal line = if deal.is_withdrawn then Gone else at_live same (reads front deal.line) (handed_in reads front line)

abbrev pub at_number : {P : Type 0} → (P → List ℕ → Option P) → (P → P → Bool) → P → Option Deal → List ℕ → Decision P
at_number reads same front None line = at_next (handed_in reads front line)
at_number reads same front (Some deal) line = at_deal reads same front deal line

-- a line at a number: none is 0, and none is given beyond the next
unfoldable pub line_decided : {P : Type 0} → (P → List ℕ → Option P) → (P → P → Bool) → Seen P → ℕ → List ℕ → Decision P
line_decided reads same seen number line =
    if number == 0 then NoDeal else if nat_lt seen.next number then Early else at_number reads same seen.front seen.deal line

-- ---- a withdrawal

abbrev pub withdrawn_at : {P : Type 0} → ℕ → ℕ → Option Deal → Decision P
withdrawn_at last_live number None = NoDeal
withdrawn_at last_live number (Some deal) = if deal.is_withdrawn then GoneAlready else if last_live == number then Withdrawn else NotLast

-- a deal that no later live one stands on is withdrawn
unfoldable pub withdrawal_decided : {P : Type 0} → Seen P → ℕ → Decision P
withdrawal_decided seen number = if number == 0 then NoDeal else withdrawn_at seen.last_live number seen.deal

-- ---- together

abbrev pub decided_so : {P : Type 0} → (P → List ℕ → Option P) → (P → P → Bool) → Seen P → ℕ → Request → Decision P
decided_so reads same seen number (HandsIn line) = line_decided reads same seen number line
decided_so reads same seen number Withdraws = withdrawal_decided seen number

-- what a message to a book comes to
abbrev pub decided : {P : Type 0} → (P → List ℕ → Option P) → (P → P → Bool) → Book P → ℕ → Request → Decision P
decided reads same book number request = decided_so reads same (seen_at reads book number) number request

-- The text is that of a book of this game, and the message comes to that there. The place is where the deal of the number begins in the
-- text, or would.
pub record IsJudged {P : Type 0} (reads : P → List ℕ → Option P) (same : P → P → Bool) (start : P) (text : List ℕ) (number : ℕ) (request : Request) (judged : Judged P) : Type 0 where
  pub book : Book P
  pub start_is : book.start ≡ start
  pub is_text : IsBookText reads text book
  pub decision_is : judged.decision ≡ decided reads same book number request
  pub front_is : judged.front ≡ (front_before reads book number).position
  pub next_is : judged.next ≡ next_number book
  pub last_is : judged.last_live ≡ (whole reads book).last_live
  pub place_is : judged.place ≡ length (deals_text (take (number - 1) book.deals))
