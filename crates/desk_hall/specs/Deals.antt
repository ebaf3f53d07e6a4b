-- The deals of a table's book.
use Rattle.std.specs.Prelude.{◌≡◌, ℕ, ◌==◌, List, [], ◌∷◌, ◌++◌, Bool, true, false, ◌&&◌, ◌||◌, not, nat_le, length, take, codes, if◌then◌else◌}
use Rattle.std.specs.List.{flat_map, list_all}
use Rattle.std.specs.Str.{bytes_eq}
use Rattle.desk_hall.specs.declared.deal.DealLine.{DealLine}

-- The line that was handed in, and whether the deal was withdrawn.
pub record Deal : Type 0 where
  pub line : List ℕ
  pub is_withdrawn : Bool

abbrev pub live : List ℕ → Deal
live line = record { line = line; is_withdrawn = false }

abbrev pub gone : List ℕ → Deal
gone line = record { line = line; is_withdrawn = true }

-- ---- its line in a book

-- the words before the line of a withdrawn deal, which make it a note
unfoldable pub gone_words : List ℕ
gone_words = codes "# withdrawn "

abbrev pub line_of : Deal → List ℕ
line_of deal = if deal.is_withdrawn then gone_words ++ deal.line else deal.line

-- a line and its end
abbrev pub ended : List ℕ → List ℕ
ended line = line ++ 10 ∷ []

-- the lines of deals, each with its end
abbrev pub deals_text : List Deal → List ℕ
deals_text deals = flat_map (λ deal. ended (line_of deal)) deals

-- no byte is a line feed
abbrev pub is_one_line : List ℕ → Bool
is_one_line line = list_all (λ byte. not (byte == 10)) line

-- the line begins as that of a withdrawn deal
unfoldable pub says_gone : List ℕ → Bool
says_gone line = bytes_eq (take 12 line) gone_words

-- the line can stand in a book as that of a live deal, and withdrawn it has no more than 4096 bytes
unfoldable pub can_stand : List ℕ → Bool
can_stand line = nat_le (length line) 4084 && is_one_line line && not (says_gone line)

-- the line is one line, and that of a live deal isn't taken for a withdrawn one's
unfoldable pub is_book_deal : Deal → Bool
is_book_deal deal = is_one_line deal.line && (deal.is_withdrawn || not (says_gone deal.line))

-- ---- as it is read

abbrev pub deal_by : DealLine → Deal
deal_by deal = record { line = deal.line.now; is_withdrawn = deal.is_withdrawn }

-- A line of a book says this deal.
pub record IsDealOf (line : List ℕ) (deal : Deal) : Type 0 where
  pub line_is : line_of deal ≡ line
  pub live_so : (deal.is_withdrawn || not (says_gone deal.line)) ≡ true
