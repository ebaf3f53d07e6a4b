-- Which kinds bring a hand nearer to a winning multiset.
use Rattle.std.specs.Prelude.{◌≡◌, ℕ, ◌+◌, ◌-◌, ◌<◌, ◌≤◌, ◌↔◌, ◌⊎◌, IsTrue, List, count_by, nat_eq, nat_le, slice_index, length, Option, Some}
use Rattle.riichi_tiles.specs.Melds.{every_kind, tiles}
use Rattle.riichi_tiles.specs.declared.meld.Meld.{Meld}
use Rattle.riichi_rows.specs.Join.{EntriesSum, IsLeastJoin}
use Rattle.riichi_rows.specs.Lacked.{ChoiceLacks, IsOneMore}
use Rattle.riichi_rows.specs.Suit.{IsSuitRow}
use Rattle.riichi_shape.specs.Distance.{IsDistance, OrphansReached, PairsReached}
use Rattle.riichi_tiles.specs.Forms.{HasWinningForm, IsSetsAndPair, IsSevenPairs, IsThirteenOrphans}
use Rattle.riichi_tiles.specs.Kinds.{has_runs, is_orphan, rank_of, suit_of}
use Rattle.riichi_tiles.specs.declared.suit.Suit.{Suit}
use Rattle.riichi_shape.specs.Suits.{IsSuitOf}
use Rattle.riichi_shape.specs.Winning.{WithinFour, lacking}

-- some multiset of a form that lacks n tiles has more of the kind x than the hand
pub record FormLacks (IsForm : List ℕ → Type 0) (hand : List ℕ) (melds : List Meld) (n x : ℕ) : Type 0 where
  pub wanted : List ℕ
  pub is_form : IsForm wanted
  pub within_four : WithinFour melds wanted
  pub lacks : lacking hand wanted ≡ n
  pub lacks_kind : slice_index hand x < slice_index wanted x

-- of any winning form
abbrev pub WinningLacks : List ℕ → List Meld → ℕ → ℕ → Type 0
WinningLacks hand melds n x = FormLacks (HasWinningForm (length melds)) hand melds n x

-- one more tile of the kind x lowers the distance exactly where some winning multiset with the least lack lacks x
abbrev pub AcceptanceLaw : Type 0
AcceptanceLaw =
    (hand more : List ℕ) (melds : List Meld) (n m x : ℕ) → x < 34 → IsOneMore x hand more →
    IsDistance hand melds n → IsDistance more melds m → (m < n) ↔ WinningLacks hand melds n x

-- of so many sets and a pair
abbrev pub StandardLacks : List ℕ → List Meld → ℕ → ℕ → ℕ → Type 0
StandardLacks hand melds sets n x = FormLacks (IsSetsAndPair sets) hand melds n x

-- four entries of the rows sum to n, and some least choice of the suit of x lacks x
pub record EntryLacks (rows : Suit → ℕ → ℕ → Option ℕ) (counts caps : Suit → List ℕ) (sets n x : ℕ) : Type 0 where
  pub entries : EntriesSum rows sets n
  pub lacks_kind : (let suit = suit_of x in ChoiceLacks (has_runs suit) (counts suit) (caps suit) (entries.sets_of suit) (entries.pairs_of suit) (entries.lack_of suit) (rank_of x))

-- over the rows of the hand alone: some least winning multiset by sets and a pair lacks x exactly where x is lacked by
-- a least choice of its suit, for sets and pairs at which the four entries sum to the least
abbrev pub JoinLaw : Type 0
JoinLaw =
    (hand : List ℕ) (melds : List Meld) (counts caps : Suit → List ℕ) → ((suit : Suit) → IsSuitOf suit hand melds (counts suit) (caps suit)) →
    (rows : Suit → ℕ → ℕ → Option ℕ) → ((suit : Suit) → IsSuitRow (has_runs suit) (counts suit) (caps suit) (rows suit)) →
    (sets n x : ℕ) → sets ≤ 4 → ((k : ℕ) → k < 34 → tiles melds k ≤ 4) → IsLeastJoin rows sets (Some n) → x < 34 →
    StandardLacks hand melds sets n x ↔ EntryLacks rows counts caps sets n x

-- a kind is lacked at the least lack in one of the three forms, each of which is looked at alone
abbrev pub FormsLaw : Type 0
FormsLaw =
    (hand : List ℕ) (melds : List Meld) (n x : ℕ) → WinningLacks hand melds n x ↔
    (StandardLacks hand melds (4 - length melds) n x ⊎ ((length melds ≡ 0) × FormLacks IsSevenPairs hand melds n x) ⊎ ((length melds ≡ 0) × FormLacks IsThirteenOrphans hand melds n x))

-- how many kinds a hand holds twice or more, and how many just once
abbrev pub kinds_paired : List ℕ → ℕ
kinds_paired hand = count_by (λ kind. nat_le 2 (slice_index hand kind)) every_kind

abbrev pub kinds_single : List ℕ → ℕ
kinds_single hand = count_by (λ kind. nat_eq (slice_index hand kind) 1) every_kind

-- the kinds that the least seven pairs lack, for the least n: none where the hand holds seven kinds twice or more; else those
-- that it holds just once; and those that it has not, where those that it has at all are fewer than seven
abbrev pub PairsLaw : Type 0
PairsLaw =
    (hand : List ℕ) (melds : List Meld) (n x : ℕ) → x < 34 → ((k : ℕ) → k < 34 → tiles melds k ≡ 0) →
    PairsReached hand n → ((wanted : List ℕ) → IsSevenPairs wanted → n ≤ lacking hand wanted) →
    FormLacks IsSevenPairs hand melds n x ↔ ((kinds_paired hand < 7) × ((slice_index hand x ≡ 1) ⊎ ((slice_index hand x ≡ 0) × (kinds_paired hand + kinds_single hand < 7))))

-- the kinds that the least thirteen orphans lack, for the least n: orphans that the hand has not, and those that it has
-- once where it has none twice
abbrev pub OrphansLaw : Type 0
OrphansLaw =
    (hand : List ℕ) (melds : List Meld) (n x : ℕ) → x < 34 → ((k : ℕ) → k < 34 → tiles melds k ≡ 0) →
    OrphansReached hand n → ((wanted : List ℕ) → IsThirteenOrphans wanted → n ≤ lacking hand wanted) →
    FormLacks IsThirteenOrphans hand melds n x ↔ (IsTrue (is_orphan x) × ((slice_index hand x ≡ 0) ⊎ ((slice_index hand x ≡ 1) × ((k : ℕ) → k < 34 → IsTrue (is_orphan k) → slice_index hand k ≤ 1))))
