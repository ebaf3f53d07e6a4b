-- What is so where a message comes to something.
use Rattle.std.proofs.Common.{◌≡◌, ℕ, suc, ◌-◌, List, Bool, true, false, nat_eq, nat_lt, Option, None, Some, refl, sym, subst, ap, ◌∙◌, length, arith, inl, inr}
use Rattle.std.specs.Prelude.{slice_get, if◌then◌else◌}
use Rattle.std.proofs.lemmas.Option.{slice_get_cases}
use Rattle.desk_hall.specs.Books.{Book, front_before, whole, deal_at, next_number}
use Rattle.desk_hall.specs.Deals.{Deal, can_stand}
use Rattle.desk_hall.specs.Decided.{Request, HandsIn, Withdraws, seen_at, handed_in, at_next, at_live, at_number, line_decided, withdrawn_at, withdrawal_decided}
use Rattle.desk_hall.specs.Histories.{Sent, comes_to}
use Rattle.desk_hall.proofs.Numbers.{not_zero, not_less}
use Rattle.desk_hall.specs.declared.decision.Decision.{Decision}
use Rattle.desk_hall.specs.declared.decision.Decision.TheVariants.{Taken, Again, Another, Early, Refused, Gone, Withdrawn, GoneAlready, NotLast, NoDeal}

-- A message that is taken hands in a line at the next number, which can stand in a book, and brings the game so far.
pub record IsTaken {P : Type 0} (reads : P → List ℕ → Option P) (book : Book P) (sent : Sent) (position : P) : Type 0 where
  pub line : List ℕ
  pub hands_in : sent.request ≡ HandsIn line
  pub next : sent.number ≡ next_number book
  pub can : can_stand line ≡ true
  pub read : reads (front_before reads book sent.number).position line ≡ Some position

-- A message that is answered as before has the number of a live deal, which brings the game so far.
pub record IsAgain {P : Type 0} (reads : P → List ℕ → Option P) (book : Book P) (number : ℕ) (position : P) : Type 0 where
  pub deal : Deal
  pub deal_is : deal_at book number ≡ Some deal
  pub live : deal.is_withdrawn ≡ false
  pub read : reads (front_before reads book number).position deal.line ≡ Some position

-- A message that is answered so withdraws the last live deal.
pub record IsWithdrawn {P : Type 0} (reads : P → List ℕ → Option P) (book : Book P) (number : ℕ) : Type 0 where
  pub some : nat_eq number 0 ≡ false
  pub deal : Deal
  pub deal_is : deal_at book number ≡ Some deal
  pub live : deal.is_withdrawn ≡ false
  pub last : nat_eq (whole reads book).last_live number ≡ true

-- the book stays, and the deal of the number isn't told again
abbrev is_idle : {P : Type 0} → Decision P → Bool
is_idle (Taken position) = false
is_idle (Again position) = false
is_idle (Another first other) = true
is_idle Early = true
is_idle Refused = true
is_idle Gone = true
is_idle Withdrawn = false
is_idle GoneAlready = true
is_idle NotLast = true
is_idle NoDeal = true

-- What is so where a message comes to a decision.
data Comes {P : Type 0} (reads : P → List ℕ → Option P) (book : Book P) (sent : Sent) (decision : Decision P) : Type 0 where
  Takes : (position : P) → decision ≡ Taken position → IsTaken reads book sent position → Comes reads book sent decision
  Repeats : (position : P) → decision ≡ Again position → IsAgain reads book sent.number position → Comes reads book sent decision
  Removes : decision ≡ Withdrawn → IsWithdrawn reads book sent.number → Comes reads book sent decision
  Idles : is_idle decision ≡ true → Comes reads book sent decision

-- ---- a line that is handed in

same_comes : {P : Type 0} (reads : P → List ℕ → Option P) (same : P → P → Bool) (book : Book P) (sent : Sent) (is : Bool) (first other : P) → IsAgain reads book sent.number first → Comes reads book sent (if is then Again first else Another first other)
same_comes reads same book sent true first other again = Repeats first refl again
same_comes reads same book sent false first other again = Idles refl

live_comes : {P : Type 0} (reads : P → List ℕ → Option P) (same : P → P → Bool) (book : Book P) (sent : Sent) (first other : Option P) → ((position : P) → first ≡ Some position → IsAgain reads book sent.number position) → Comes reads book sent (at_live same first other)
live_comes reads same book sent None other again = Idles refl
live_comes reads same book sent (Some first) None again = Idles refl
live_comes reads same book sent (Some first) (Some other) again = same_comes reads same book sent (same first other) first other (again first refl)

deal_comes : {P : Type 0} (reads : P → List ℕ → Option P) (same : P → P → Bool) (book : Book P) (sent : Sent) (gone : Bool) (first other : Option P) → (gone ≡ false → (position : P) → first ≡ Some position → IsAgain reads book sent.number position)
    → Comes reads book sent (if gone then Gone else at_live same first other)
deal_comes reads same book sent true first other again = Idles refl
deal_comes reads same book sent false first other again = live_comes reads same book sent first other (again refl)

next_comes : {P : Type 0} (reads : P → List ℕ → Option P) (same : P → P → Bool) (book : Book P) (sent : Sent) (read : Option P) → ((position : P) → read ≡ Some position → IsTaken reads book sent position) → Comes reads book sent (at_next read)
next_comes reads same book sent None taken = Idles refl
next_comes reads same book sent (Some position) taken = Takes position refl (taken position refl)

number_comes : {P : Type 0} (reads : P → List ℕ → Option P) (same : P → P → Bool) (book : Book P) (sent : Sent) (front : P) (deal : Option Deal) (line : List ℕ) → (deal ≡ None → (position : P) → handed_in reads front line ≡ Some position → IsTaken reads book sent position)
    → ((found : Deal) → deal ≡ Some found → found.is_withdrawn ≡ false → (position : P) → reads front found.line ≡ Some position → IsAgain reads book sent.number position)
    → Comes reads book sent (at_number reads same front deal line)
number_comes reads same book sent front None line taken again = next_comes reads same book sent (handed_in reads front line) (taken refl)
number_comes reads same book sent front (Some deal) line taken again =
    deal_comes reads same book sent deal.is_withdrawn (reads front deal.line) (handed_in reads front line) (again deal refl)

tests_come : {P : Type 0} (reads : P → List ℕ → Option P) (same : P → P → Bool) (book : Book P) (sent : Sent) (zero beyond : Bool) (decision : Decision P) → (zero ≡ false → beyond ≡ false → Comes reads book sent decision)
    → Comes reads book sent (if zero then NoDeal else if beyond then Early else decision)
tests_come reads same book sent true beyond decision comes = Idles refl
tests_come reads same book sent false true decision comes = Idles refl
tests_come reads same book sent false false decision comes = comes refl refl

-- no deal of a number that isn't 0 nor beyond the next: it is the next
is_next : (deals : List Deal) (number : ℕ) → nat_eq number 0 ≡ false → nat_lt (suc (length deals)) number ≡ false → slice_get deals (number - 1) ≡ None → number ≡ suc (length deals)
is_next deals number some near none = elim (slice_get_cases deals (number - 1)).1 [
  | inl found ↦ absurd (let both : Some found.0 ≡ None = sym found.2 ∙ none in cc)
  | inr past ↦ omega (arith, not_zero number some, not_less (suc (length deals)) number near, past.0)
]

stands : {P : Type 0} (reads : P → List ℕ → Option P) (front : P) (line : List ℕ) (can : Bool) (position : P) → (if can then reads front line else None) ≡ Some position → (can ≡ true) × (reads front line ≡ Some position)
stands reads front line true position h = (refl, h)
stands reads front line false position h = absurd (cc)

line_comes : {P : Type 0} (reads : P → List ℕ → Option P) (same : P → P → Bool) (book : Book P) (number : ℕ) (line : List ℕ) → Comes reads book (record { number = number; request = HandsIn line }) (line_decided reads same (seen_at reads book number) number line)
unfolding line_decided
line_comes {P} reads same book number line =
    let sent : Sent = record { number = number; request = HandsIn line } in
    let front = (front_before reads book number).position in
    tests_come reads same book sent (nat_eq number 0) (nat_lt (next_number book) number) (at_number reads same front (deal_at book number) line)
    (λ some near. number_comes reads same book sent front (deal_at book number) line
    (λ none position read. let can = stands reads front line (can_stand line) position read in
    record { line = line; hands_in = refl; next = is_next book.deals number some near none; can = can.0; read = can.1 })
    (λ deal is live position read. record { deal = deal; deal_is = is; live = live; read = read }))

-- ---- a withdrawal

removal_comes : {P : Type 0} (reads : P → List ℕ → Option P) (book : Book P) (sent : Sent) (gone last : Bool) → (gone ≡ false → last ≡ true → IsWithdrawn reads book sent.number)
    → Comes reads book sent (if gone then GoneAlready else if last then Withdrawn else NotLast)
removal_comes reads book sent true last is = Idles refl
removal_comes reads book sent false true is = Removes refl (is refl refl)
removal_comes reads book sent false false is = Idles refl

withdrawn_comes : {P : Type 0} (reads : P → List ℕ → Option P) (book : Book P) (sent : Sent) (last_live number : ℕ) (deal : Option Deal)
    → ((found : Deal) → deal ≡ Some found → found.is_withdrawn ≡ false → nat_eq last_live number ≡ true → IsWithdrawn reads book sent.number)
    → Comes reads book sent (withdrawn_at last_live number deal)
withdrawn_comes reads book sent last_live number None is = Idles refl
withdrawn_comes reads book sent last_live number (Some deal) is = removal_comes reads book sent deal.is_withdrawn (nat_eq last_live number) (is deal refl)

test_comes : {P : Type 0} (reads : P → List ℕ → Option P) (book : Book P) (sent : Sent) (zero : Bool) (decision : Decision P) → (zero ≡ false → Comes reads book sent decision)
    → Comes reads book sent (if zero then NoDeal else decision)
test_comes reads book sent true decision comes = Idles refl
test_comes reads book sent false decision comes = comes refl

withdrawal_comes : {P : Type 0} (reads : P → List ℕ → Option P) (book : Book P) (number : ℕ) → Comes reads book (record { number = number; request = Withdraws }) (withdrawal_decided (seen_at reads book number) number)
unfolding withdrawal_decided
withdrawal_comes reads book number =
    let sent : Sent = record { number = number; request = Withdraws } in
    test_comes reads book sent (nat_eq number 0) (withdrawn_at (whole reads book).last_live number (deal_at book number))
    (λ some. withdrawn_comes reads book sent (whole reads book).last_live number (deal_at book number)
    (λ deal is live last. record { some = some; deal = deal; deal_is = is; live = live; last = last }))

-- ---- together

comes : {P : Type 0} (reads : P → List ℕ → Option P) (same : P → P → Bool) (book : Book P) (number : ℕ) (request : Request) → Comes reads book (record { number = number; request = request }) (comes_to reads same book (record { number = number; request = request }))
comes reads same book number (HandsIn line) = line_comes reads same book number line
comes reads same book number Withdraws = withdrawal_comes reads book number

taken_of : {P : Type 0} (reads : P → List ℕ → Option P) (book : Book P) (sent : Sent) (decision : Decision P) (position : P) → Comes reads book sent decision → decision ≡ Taken position → IsTaken reads book sent position
taken_of {P} reads book sent decision position (Takes other is so) h = subst (λ (p : P). IsTaken reads book sent p) (let both : Taken other ≡ Taken position = sym is ∙ h in cc) so
taken_of reads book sent decision position (Repeats other is so) h = absurd (cc)
taken_of reads book sent decision position (Removes is so) h = absurd (cc)
taken_of {P} reads book sent decision position (Idles is) h = absurd (let idle : is_idle (Taken position) ≡ true = ap is_idle (sym h) ∙ is in cc)

withdrawn_of : {P : Type 0} (reads : P → List ℕ → Option P) (book : Book P) (sent : Sent) (decision : Decision P) → Comes reads book sent decision → decision ≡ Withdrawn → IsWithdrawn reads book sent.number
withdrawn_of reads book sent decision (Takes other is so) h = absurd (cc)
withdrawn_of reads book sent decision (Repeats other is so) h = absurd (cc)
withdrawn_of reads book sent decision (Removes is so) h = so
withdrawn_of {P} reads book sent decision (Idles is) h = absurd (let idle : (let none : Decision P = Withdrawn in is_idle none ≡ true) = ap is_idle (sym h) ∙ is in cc)

again_of : {P : Type 0} (reads : P → List ℕ → Option P) (book : Book P) (sent : Sent) (decision : Decision P) (position : P) → Comes reads book sent decision → decision ≡ Again position → IsAgain reads book sent.number position
again_of reads book sent decision position (Takes other is so) h = absurd (cc)
again_of {P} reads book sent decision position (Repeats other is so) h = subst (λ (p : P). IsAgain reads book sent.number p) (let both : Again other ≡ Again position = sym is ∙ h in cc) so
again_of reads book sent decision position (Removes is so) h = absurd (cc)
again_of {P} reads book sent decision position (Idles is) h = absurd (let idle : is_idle (Again position) ≡ true = ap is_idle (sym h) ∙ is in cc)

pub is_taken : {P : Type 0} (reads : P → List ℕ → Option P) (same : P → P → Bool) (book : Book P) (sent : Sent) (position : P) → comes_to reads same book sent ≡ Taken position → IsTaken reads book sent position
is_taken reads same book sent position h = taken_of reads book sent (comes_to reads same book sent) position (comes reads same book sent.number sent.request) h

pub is_withdrawn : {P : Type 0} (reads : P → List ℕ → Option P) (same : P → P → Bool) (book : Book P) (sent : Sent) → comes_to reads same book sent ≡ Withdrawn → IsWithdrawn reads book sent.number
is_withdrawn reads same book sent h = withdrawn_of reads book sent (comes_to reads same book sent) (comes reads same book sent.number sent.request) h

pub is_again : {P : Type 0} (reads : P → List ℕ → Option P) (same : P → P → Bool) (book : Book P) (sent : Sent) (position : P) → comes_to reads same book sent ≡ Again position → IsAgain reads book sent.number position
is_again reads same book sent position h = again_of reads book sent (comes_to reads same book sent) position (comes reads same book sent.number sent.request) h
