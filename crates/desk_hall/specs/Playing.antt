-- The deals of a text, played one after another.
use Rattle.std.specs.Prelude.{◌≡◌, ◌⊎◌, ℕ, ◌+◌, ◌≤◌, List, [], ◌++◌, length, true, false, Option, None, Some}
use Rattle.std.specs.List.{list_all}
use Rattle.riichi_tiles.specs.Melds.{cut_at}
use Rattle.desk_hall.specs.Deals.{Deal, is_book_deal, line_of, ended, deals_text}
use Rattle.desk_hall.specs.Fronts.{Front, behind_deals, are_accepted}
use Rattle.desk_hall.specs.declared.played.Played.{Played}

abbrev pub front_in : {P : Type 0} → Played P → Front P
front_in played = record { position = played.position; count = played.count; last_live = played.last_live }

-- where at most so many deals are asked for, there are no more
abbrev pub MayHave : Option ℕ → ℕ → Type 0
MayHave None count = Unit {0}
MayHave (Some most) count = count ≤ most

abbrev pub HasSoMany : Option ℕ → ℕ → Type 0
HasSoMany None count = ⊥
HasSoMany (Some most) count = count ≡ most

-- These deals stand at the front of a text, and this comes behind them.
pub record Begins (text : List ℕ) (deals : List Deal) (rest : List ℕ) : Type 0 where
  pub parts : text ≡ deals_text deals ++ rest
  pub kept : list_all is_book_deal deals ≡ true

-- A text begins with the line of this deal.
pub record IsNextDeal (text : List ℕ) (deal : Deal) (after : List ℕ) : Type 0 where
  pub parts : text ≡ ended (line_of deal) ++ after
  pub kept : is_book_deal deal ≡ true

-- From a front of a book on, deals at the front of a text were played, and the game accepts each that is live. A deal has a byte at least.
pub record Plays {P : Type 0} (reads : P → List ℕ → Option P) (before : Front P) (text : List ℕ) (after : Front P) (rest : List ℕ) : Type 0 where
  pub deals : List Deal
  pub begins : Begins text deals rest
  pub accepted : are_accepted reads before deals ≡ true
  pub after_is : after ≡ behind_deals reads before deals
  pub within : after.count + length rest ≤ before.count + length text

-- No text is left, or there are as many deals as were asked for.
pub record PlaysOn {P : Type 0} (reads : P → List ℕ → Option P) (before : Front P) (text : List ℕ) (most : Option ℕ) (after : Front P) (rest : List ℕ) : Type 0 where
  pub plays : Plays reads before text after rest
  pub few : MayHave most after.count
  pub stops : (rest ≡ []) ⊎ HasSoMany most after.count

-- Behind some deals at the front of a text comes a line without its end; or the game refuses a live one of them.
pub data MeetsFault {P : Type 0} (reads : P → List ℕ → Option P) (before : Front P) (text : List ℕ) : Type 0 where
  Unended : (deals : List Deal) (rest : List ℕ) → Begins text deals rest → cut_at 10 rest ≡ None → (rest ≡ [] → ⊥) → MeetsFault reads before text
  Refuses : (deals : List Deal) (rest : List ℕ) → Begins text deals rest → are_accepted reads before deals ≡ false → MeetsFault reads before text
