-- Four suits are won just where they are one pair beside sets.
use Rattle.std.proofs.Common.{◌≡◌, ◌≢◌, ℕ, ◌+◌, ◌-◌, ◌^◌, ◌≤◌, ◌<◌, ◌↔◌, ◌⊎◌, inl, inr, Bool, IsTrue, length, get_or, sym, ap, ◌∙◌, subst, arith}
use Rattle.std.proofs.lemmas.Bool.{cases_lt}
use Rattle.riichi_tiles.specs.declared.suit.Suit.{Suit}
use Rattle.riichi_tiles.specs.declared.suit.Suit.TheVariants.{Characters}
use Rattle.riichi_tiles.specs.declared.by_suit.BySuit.{BySuit}
use Rattle.riichi_tiles.specs.Kinds.{first_of, kinds_of, suit_of, rank_of}
use Rattle.riichi_tiles.specs.Suits.{of_suit, over_suits, with_suit}
use Rattle.riichi_tiles.proofs.Suits.{le_over, only_over, only_suit, one_of, some_of, within, cases_suit, of_suit-with_same, of_suit_with_other}
use Rattle.std.proofs.lemmas.List.{length-set}
use Rattle.riichi_split.proofs.SuitCuts.{pairs_none, pairs_one}
use Rattle.riichi_split.specs.SuitTiles.{OneSuit, AreSets, AreSetsAndPair, AreWon, AreCounted, HasPairs, Completes, total_of, with_tile, with_tile_of}

-- ---- a total of one

the-one : (by : BySuit ℕ) → total_of by ≡ 1 → (pair : Suit) × (of_suit by pair ≡ 1)
the-one by t = let some = some_of (of_suit by) (omega (arith, t)) in (some.0, omega (arith, t, some.1, one_of (of_suit by) some.0))

total-with : (by : BySuit ℕ) (suit : Suit) (value : ℕ) → total_of (with_suit by suit value) + of_suit by suit ≡ total_of by + value
total-with by Characters value = omega arith
total-with by other value = omega arith

others-none : (by : BySuit ℕ) (pair suit : Suit) → total_of by ≡ 1 → of_suit by pair ≡ 1 → suit ≢ pair → of_suit by suit ≡ 0
others-none by pair suit t e ne = omega (arith, t, e, total-with by pair 0, one_of (of_suit (with_suit by pair 0)) suit, of_suit_with_other by pair suit 0 ne)

-- ---- suits

-- two of each suit at most are eight
pub few_in_all : (tiles : BySuit OneSuit) (pairs : BySuit ℕ) → AreCounted tiles pairs → over_suits (of_suit pairs) < 2 ^ 64
few_in_all tiles pairs counted = omega (arith, le_over (of_suit pairs) (λ suit. 2) counted.few)

abbrev EachCounted : BySuit OneSuit → BySuit ℕ → Type 0
EachCounted tiles pairs = (suit : Suit) → HasPairs (of_suit tiles suit) (of_suit pairs suit)

won-each : (tiles : BySuit OneSuit) (pairs : BySuit ℕ) → EachCounted tiles pairs → (total_of pairs ≡ 1) ↔ AreWon tiles
won-each tiles pairs counted = (
  λ t. let p = the-one pairs t in record {
    pair = p.0;
    has_pair = (counted p.0).one.0 p.1;
    others = λ suit ne. (counted suit).none.0 (others-none pairs p.0 suit t p.1 ne);
  },
  λ w. only_over (of_suit pairs) w.pair (λ suit ne. (counted suit).none.1 (w.others suit ne)) ∙ (counted w.pair).one.1 w.has_pair,
)

pub won-iff : (tiles : BySuit OneSuit) (pairs : BySuit ℕ) → AreCounted tiles pairs → (total_of pairs ≡ 1) ↔ AreWon tiles
won-iff tiles pairs counted = won-each tiles pairs counted.each

counted-with : (tiles : BySuit OneSuit) (pairs : BySuit ℕ) (suit : Suit) (more : OneSuit) (n : ℕ) → AreCounted tiles pairs → HasPairs more n → EachCounted (with_suit tiles suit more) (with_suit pairs suit n)
counted-with tiles pairs suit more n counted has other = elim (cases_suit other suit) [
  | inl same ↦
      let P : Suit → Type 0 = λ s. HasPairs (of_suit (with_suit tiles suit more) s) (of_suit (with_suit pairs suit n) s) in
      subst P (sym same) (rw (of_suit-with_same tiles suit more, of_suit-with_same pairs suit n) has)
  | inr ne ↦ rw (of_suit_with_other tiles suit other more ne, of_suit_with_other pairs suit other n ne) (counted.each other)
]

-- with one suit changed, beside so many pairs of the others
won-with : (tiles : BySuit OneSuit) (pairs : BySuit ℕ) (suit : Suit) (more : OneSuit) (n others : ℕ) → AreCounted tiles pairs → HasPairs more n → others + of_suit pairs suit ≡ total_of pairs → (others + n ≡ 1) ↔ AreWon (with_suit tiles suit more)
won-with tiles pairs suit more n others counted has e =
    let i = won-each (with_suit tiles suit more) (with_suit pairs suit n) (counted-with tiles pairs suit more n counted has) in
    let t = total-with pairs suit n in
    (λ s. i.0 (omega (arith, s, t, e)), λ w. omega (arith, i.1 w, t, e))

-- ---- one more tile of a rank

placed : (suit : Suit) (rank : ℕ) → rank < kinds_of suit → (suit_of (first_of suit + rank) ≡ suit) × (rank_of (first_of suit + rank) ≡ rank)
placed suit rank small =
    let own = only_suit suit (first_of suit + rank) (record { low = omega arith; high = omega arith }) in
    (own, ap (λ s. first_of suit + rank - first_of s) own ∙ omega arith)

held-there : (tiles : BySuit OneSuit) (suit : Suit) (rank : ℕ) → rank < kinds_of suit → get_or (of_suit tiles (suit_of (first_of suit + rank))).held (rank_of (first_of suit + rank)) 0 ≡ get_or (of_suit tiles suit).held rank 0
held-there tiles suit rank small =
    let at = placed suit rank small in
    ap (λ s. get_or (of_suit tiles s).held (rank_of (first_of suit + rank)) 0) at.0 ∙ ap (λ r. get_or (of_suit tiles suit).held r 0) at.1

with-there : (tiles : BySuit OneSuit) (suit : Suit) (rank : ℕ) → rank < kinds_of suit → with_tile_of tiles (first_of suit + rank) ≡ with_suit tiles suit (with_tile (of_suit tiles suit) rank)
with-there tiles suit rank small =
    let at = placed suit rank small in
    ap (λ s. with_suit tiles s (with_tile (of_suit tiles s) (rank_of (first_of suit + rank)))) at.0 ∙ ap (λ r. with_suit tiles suit (with_tile (of_suit tiles suit) r)) at.1

pub a-kind : (suit : Suit) (rank : ℕ) → rank < kinds_of suit → first_of suit + rank < 34
a-kind suit rank small = within suit (first_of suit + rank) (record { low = omega arith; high = omega arith })

-- what is asked of a rank of a suit, beside so many pairs of the other suits
pub record IsAsked (tiles : BySuit OneSuit) (pairs : BySuit ℕ) (suit : Suit) (rank others : ℕ) : Type 0 where
  pub counted : AreCounted tiles pairs
  pub small : rank < kinds_of suit
  pub left : get_or (of_suit tiles suit).held rank 0 < 4
  pub beside : others + of_suit pairs suit ≡ total_of pairs

-- the pairs of the other suits, and of this one with the tile
completed-iff : (tiles : BySuit OneSuit) (pairs : BySuit ℕ) (suit : Suit) (rank others n : ℕ) → IsAsked tiles pairs suit rank others → HasPairs (with_tile (of_suit tiles suit) rank) n → (others + n ≡ 1) ↔ Completes tiles (first_of suit + rank)
completed-iff tiles pairs suit rank others n a has =
    let w = won-with tiles pairs suit (with_tile (of_suit tiles suit) rank) n others a.counted has a.beside in
    let same = with-there tiles suit rank a.small in (
      λ s. record { of_a_kind = a-kind suit rank a.small; some_left = omega (arith, held-there tiles suit rank a.small, a.left); wins = subst AreWon (sym same) (w.0 s) },
      λ c. w.1 (subst AreWon same c.wins),
    )

nine-with : (tiles : BySuit OneSuit) (pairs : BySuit ℕ) (suit : Suit) (rank : ℕ) → AreCounted tiles pairs → length (with_tile (of_suit tiles suit) rank).held ≡ 9
nine-with tiles pairs suit rank counted = let own = of_suit tiles suit in length-set own.held rank (get_or own.held rank 0 + 1) ∙ (counted.each suit).nine_ranks

-- the suit has the pair, or another suit has it
asked-cases : (tiles : BySuit OneSuit) (pairs : BySuit ℕ) (suit : Suit) (rank others : ℕ) → IsAsked tiles pairs suit rank others → Completes tiles (first_of suit + rank) → (AreSetsAndPair (with_tile (of_suit tiles suit) rank) × (others ≡ 0)) ⊎ (AreSets (with_tile (of_suit tiles suit) rank) × (others ≡ 1))
asked-cases tiles pairs suit rank others a c =
    let more = with_tile (of_suit tiles suit) rank in
    let nine = nine-with tiles pairs suit rank a.counted in
    let e : of_suit (with_tile_of tiles (first_of suit + rank)) suit ≡ more = ap (λ t. of_suit t suit) (with-there tiles suit rank a.small) ∙ of_suit-with_same tiles suit more in
    elim (cases_suit suit c.wins.pair) [
      | inl same ↦
          let P : Suit → Type 0 = λ s. AreSetsAndPair (of_suit (with_tile_of tiles (first_of suit + rank)) s) in
          let pair = subst AreSetsAndPair e (subst P (sym same) c.wins.has_pair) in
          inl (pair, omega (arith, (completed-iff tiles pairs suit rank others 1 a (pairs_one more nine pair)).1 c))
      | inr ne ↦
          let sets = subst AreSets e (c.wins.others suit ne) in
          inr (sets, omega (arith, (completed-iff tiles pairs suit rank others 0 a (pairs_none more nine sets)).1 c))
    ]

pub by-pair : (tiles : BySuit OneSuit) (pairs : BySuit ℕ) (suit : Suit) (rank : ℕ) (holds : Bool) → IsAsked tiles pairs suit rank 0 → IsTrue holds ↔ AreSetsAndPair (with_tile (of_suit tiles suit) rank) → IsTrue holds ↔ Completes tiles (first_of suit + rank)
by-pair tiles pairs suit rank holds a h = (
  λ t. (completed-iff tiles pairs suit rank 0 1 a (pairs_one (with_tile (of_suit tiles suit) rank) (nine-with tiles pairs suit rank a.counted) (h.0 t))).0 (omega arith),
  λ c. elim (asked-cases tiles pairs suit rank 0 a c) [ inl p ↦ h.1 p.0 | inr s ↦ absurd (omega (arith, s.1)) ],
)

pub by-sets : (tiles : BySuit OneSuit) (pairs : BySuit ℕ) (suit : Suit) (rank : ℕ) (holds : Bool) → IsAsked tiles pairs suit rank 1 → IsTrue holds ↔ AreSets (with_tile (of_suit tiles suit) rank) → IsTrue holds ↔ Completes tiles (first_of suit + rank)
by-sets tiles pairs suit rank holds a h = (
  λ t. (completed-iff tiles pairs suit rank 1 0 a (pairs_none (with_tile (of_suit tiles suit) rank) (nine-with tiles pairs suit rank a.counted) (h.0 t))).0 (omega arith),
  λ c. elim (asked-cases tiles pairs suit rank 1 a c) [ inl p ↦ absurd (omega (arith, p.1)) | inr s ↦ h.1 s.0 ],
)

pub by-none : (tiles : BySuit OneSuit) (pairs : BySuit ℕ) (suit : Suit) (rank others : ℕ) → IsAsked tiles pairs suit rank others → (others ≡ 0 → ⊥) → (others ≡ 1 → ⊥) → Completes tiles (first_of suit + rank) → ⊥
by-none tiles pairs suit rank others a zero one c = elim (asked-cases tiles pairs suit rank others a c) [ inl p ↦ zero p.1 | inr s ↦ one s.1 ]

-- a fifth copy completes nothing
pub full-iff : (tiles : BySuit OneSuit) (suit : Suit) (rank : ℕ) → rank < kinds_of suit → 4 ≤ get_or (of_suit tiles suit).held rank 0 → Completes tiles (first_of suit + rank) → ⊥
full-iff tiles suit rank small full c = omega (arith, held-there tiles suit rank small, full, c.some_left)

-- where the other suits are more than one pair no tile of the suit completes the hand
pub passed : (tiles : BySuit OneSuit) (pairs : BySuit ℕ) (suit : Suit) (others kind : ℕ) → AreCounted tiles pairs → others + of_suit pairs suit ≡ total_of pairs → 1 < others → first_of suit ≤ kind → kind < first_of suit + kinds_of suit → Completes tiles kind → ⊥
passed tiles pairs suit others kind counted beside many low high c =
    let rank = kind - first_of suit in
    let small : rank < kinds_of suit = omega arith in
    let P : ℕ → Type 0 = λ k. Completes tiles k in
    let d = subst P (let at : kind ≡ first_of suit + rank = omega arith in at) c in
    elim (cases_lt (get_or (of_suit tiles suit).held rank 0) 4) [
      | inl left ↦ by-none tiles pairs suit rank others (record { counted = counted; small = small; left = left; beside = beside }) (λ e. omega (arith, e, many)) (λ e. omega (arith, e, many)) d
      | inr full ↦ full-iff tiles suit rank small full d
    ]
