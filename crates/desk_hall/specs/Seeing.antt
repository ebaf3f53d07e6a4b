-- What a book has at a number, as it is read from its text.
use Rattle.std.specs.Prelude.{◌≡◌, ℕ, ◌-◌, List, length, take, Option, option_map}
use Rattle.desk_hall.specs.Books.{Book, IsBookText}
use Rattle.desk_hall.specs.Deals.{deal_by, deals_text}
use Rattle.desk_hall.specs.Decided.{Seen, seen_at}
use Rattle.desk_hall.specs.declared.sight.Sight.{Sight}

abbrev pub seen_by : {P : Type 0} → Sight P → Seen P
seen_by sight = record { front = sight.front; deal = option_map deal_by sight.deal; next = sight.next; last_live = sight.last_live }

-- The text is that of a book of this game, which has that at the number; and the place is where the deal of the number begins, or would.
pub record IsSeen {P : Type 0} (reads : P → List ℕ → Option P) (start : P) (text : List ℕ) (number : ℕ) (sight : Sight P) : Type 0 where
  pub book : Book P
  pub start_is : book.start ≡ start
  pub is_text : IsBookText reads text book
  pub seen_is : seen_by sight ≡ seen_at reads book number
  pub place_is : sight.place ≡ length (deals_text (take (number - 1) book.deals))
