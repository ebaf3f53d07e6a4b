-- The first deals of a book, and how far the game has come by them.
use Rattle.std.specs.Prelude.{ℕ, suc, List, [], ◌∷◌, Bool, true, ◌||◌, ◌&&◌, Option, unwrap_or, is_some, if◌then◌else◌}
use Rattle.desk_hall.specs.Deals.{Deal}

-- How far the game has come by the live deals of a front of a book; how many deals the front has; and the number of the last live one, or 0.
pub record Front (P : Type 0) : Type 0 where
  pub position : P
  pub count : ℕ
  pub last_live : ℕ

-- before the first deal
abbrev pub first_front : {P : Type 0} → P → Front P
first_front start = record { position = start; count = 0; last_live = 0 }

-- a withdrawn deal brings the game nowhere
abbrev pub position_behind : {P : Type 0} → (P → List ℕ → Option P) → P → Deal → P
position_behind reads position deal = if deal.is_withdrawn then position else unwrap_or (reads position deal.line) position

-- one deal more
abbrev pub behind_deal : {P : Type 0} → (P → List ℕ → Option P) → Front P → Deal → Front P
behind_deal reads front deal = record {
  position = position_behind reads front.position deal;
  count = suc front.count;
  last_live = if deal.is_withdrawn then front.last_live else suc front.count;
}

-- more deals, one after another
abbrev pub behind_deals : {P : Type 0} → (P → List ℕ → Option P) → Front P → List Deal → Front P
behind_deals reads front [] = front
behind_deals reads front (deal ∷ deals) = behind_deals reads (behind_deal reads front deal) deals

-- the game accepts the deal there; of a withdrawn one that isn't asked
abbrev pub game_accepts : {P : Type 0} → (P → List ℕ → Option P) → P → Deal → Bool
game_accepts reads position deal = deal.is_withdrawn || is_some (reads position deal.line)

-- each live deal is accepted behind the live ones before it
abbrev pub are_accepted : {P : Type 0} → (P → List ℕ → Option P) → Front P → List Deal → Bool
are_accepted reads front [] = true
are_accepted reads front (deal ∷ deals) = game_accepts reads front.position deal && are_accepted reads (behind_deal reads front deal) deals
