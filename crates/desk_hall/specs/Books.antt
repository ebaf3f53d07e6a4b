-- A table's book, and its text.
use Rattle.std.specs.Prelude.{◌≡◌, ℕ, suc, ◌-◌, List, length, take, true, Option, slice_get}
use Rattle.std.specs.List.{list_all}
use Rattle.desk_hall.specs.Deals.{Deal, deals_text, is_book_deal}
use Rattle.desk_hall.specs.Fronts.{Front, first_front, behind_deals, are_accepted}

-- A table's game before its first deal, and its deals in the order of their numbers: deal 1 is the first.
pub record Book (P : Type 0) : Type 0 where
  pub start : P
  pub deals : List Deal

-- the deals before a number, and how far the game has come by those of them that are live
abbrev pub front_before : {P : Type 0} → (P → List ℕ → Option P) → Book P → ℕ → Front P
front_before reads book number = behind_deals reads (first_front book.start) (take (number - 1) book.deals)

-- all deals
abbrev pub whole : {P : Type 0} → (P → List ℕ → Option P) → Book P → Front P
whole reads book = behind_deals reads (first_front book.start) book.deals

-- the deal of a number
abbrev pub deal_at : {P : Type 0} → Book P → ℕ → Option Deal
deal_at book number = slice_get book.deals (number - 1)

-- the number that the next deal has
abbrev pub next_number : {P : Type 0} → Book P → ℕ
next_number book = suc (length book.deals)

-- The text is that of the book's deals: each is one line, and each live one is accepted behind the live ones before it.
pub record IsBookText {P : Type 0} (reads : P → List ℕ → Option P) (text : List ℕ) (book : Book P) : Type 0 where
  pub text_is : text ≡ deals_text book.deals
  pub kept : list_all is_book_deal book.deals ≡ true
  pub sound : are_accepted reads (first_front book.start) book.deals ≡ true
