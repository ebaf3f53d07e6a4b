-- Tiles have a split just where one suit is sets and a pair and the others are sets.
use Rattle.std.proofs.Common.{eqb, cond, ◌≡◌, ◌≢◌, ℕ, ◌+◌, ◌-◌, ◌*◌, ◌<◌, ◌≤◌, ◌↔◌, inl, inr, List, length, get_or, set, refl, sym, ap, ◌∙◌, subst, arith}
use Rattle.std.specs.List.{sum}
use Rattle.std.proofs.lemmas.Bool.{cases_lt, cases_eq}
use Rattle.std.proofs.lemmas.Bool.Decides.{nat_tests}
use Rattle.std.proofs.lemmas.List.{length-set, get_or-set_other, get_or_past, ext_get_or}
use Rattle.std.proofs.lemmas.List.Sums.{sum_by-set}
use Rattle.std.proofs.lemmas.List.FromFn.{length-map-range_with_len, get_or-map-range_with_len}
use Rattle.std.proofs.lemmas.Grind.{get_or-set_at}
use Rattle.riichi_tiles.specs.declared.block.Block.{Block}
use Rattle.riichi_tiles.specs.declared.block.Block.TheVariants.{Pair}
use Rattle.riichi_tiles.specs.declared.suit.Suit.{Suit}
use Rattle.riichi_tiles.specs.declared.by_suit.BySuit.{BySuit}
use Rattle.riichi_tiles.specs.Kinds.{IsOfSuit, first_of, has_runs, suit_of, rank_of}
use Rattle.riichi_tiles.specs.Suits.{of_suit, with_suit}
use Rattle.riichi_tiles.specs.Blocks.{copies, total}
use Rattle.riichi_tiles.proofs.Suits.{only_suit, some_suit, own_suit, nine_at_most, cases_suit, of_by_suits, of_nine, of_suit-with_same, of_suit_with_other}
use Rattle.riichi_split.specs.SuitTiles.{OneSuit, AreCut, AreSets, AreSetsAndPair, AreWon, Completes, nine_from, tiles_of_suit, suits_of, with_tile, with_tile_of}
use Rattle.riichi_split.specs.Waits.{with_one}
use Rattle.riichi_split.specs.Readings.{IsSplit}
use Rattle.riichi_split.proofs.MadeOf.{adds-everywhere, each-set, made-of}
use Rattle.riichi_split.specs.Winning.{HasSplit}
use Rattle.riichi_split.proofs.Orders.{sorted, sets-sorted, order-sorted, total-sorted}
use Rattle.riichi_tiles.proofs.KindSums.{made-tiles, tiles-by-kind}
use Rattle.riichi_split.proofs.Filling.{same-suit}
use Rattle.riichi_split.proofs.SuitBlocks.{cut-of, sets-of}

-- ---- nine ranks

pub nine-at : (f : ℕ → ℕ) (first rank : ℕ) → rank < 9 → get_or (nine_from f first) rank 0 ≡ f (first + rank)
nine-at f first rank h = get_or-map-range_with_len f first 9 rank (first + rank) 0 h refl

pub nine-length : (f : ℕ → ℕ) (first : ℕ) → length (nine_from f first) ≡ 9
nine-length f first = length-map-range_with_len f first 9

nine-same : (f g : ℕ → ℕ) (first : ℕ) → ((i : ℕ) → i < 9 → f (first + i) ≡ g (first + i)) → nine_from f first ≡ nine_from g first
nine-same f g first h = ext_get_or 0 (nine_from f first) (nine_from g first) (nine-length f first ∙ sym (nine-length g first)) (λ i l.
    let small : i < 9 = omega (arith, nine-length f first) in
    nine-at f first i small ∙ h i small ∙ sym (nine-at g first i small))

nine-changed : (f g : ℕ → ℕ) (first rank v : ℕ) → rank < 9 → g (first + rank) ≡ v → ((i : ℕ) → i ≢ rank → g (first + i) ≡ f (first + i)) → nine_from g first ≡ set (nine_from f first) rank v
nine-changed f g first rank v small here there = ext_get_or 0 (nine_from g first) (set (nine_from f first) rank v) (nine-length g first ∙ sym (length-set (nine_from f first) rank v ∙ nine-length f first)) (λ i l.
    let short : i < 9 = omega (arith, nine-length g first) in
    elim (cases_eq i rank) [
      | inl e ↦ nine-at g first i short ∙ ap (λ j. g (first + j)) e ∙ here ∙ sym (get_or-set_at (nine_from f first) rank i v 0 e (omega (arith, nine-length f first)))
      | inr n ↦ nine-at g first i short ∙ there i n ∙ sym (nine-at f first i short) ∙ sym (get_or-set_other (nine_from f first) rank i v 0 n)
    ])

-- what is the same but for one kind is the same in the other suits
other-suits : (f g : ℕ → ℕ) (kind : ℕ) (suit : Suit) → kind < 34 → suit ≢ suit_of kind → ((k : ℕ) → k ≢ kind → g k ≡ f k) → nine_from g (first_of suit) ≡ nine_from f (first_of suit)
other-suits f g kind suit small ne same = nine-same g f (first_of suit) (λ i l. same (first_of suit + i) (λ e.
    let below : first_of suit + i < 34 = omega (arith, e) in
    ne (sym (only_suit suit (first_of suit + i) (of_nine suit i l below)) ∙ ap suit_of e)))

-- ---- a hand without a pair

abbrev beside : List ℕ → ℕ → ℕ → ℕ
beside c p k = get_or c k 0 - cond (eqb k p) 2 0

beside-same : (c : List ℕ) (p k : ℕ) → k ≢ p → beside c p k ≡ get_or c k 0
beside-same c p k ne = grind (arith, nat_tests)

-- each suit of it, where the pair is of one
record IsBeside (c : List ℕ) (suit : Suit) (rank : ℕ) : Type 0 where
  here : nine_from (beside c (first_of suit + rank)) (first_of suit) ≡ set (nine_from (λ k. get_or c k 0) (first_of suit)) rank (get_or (nine_from (λ k. get_or c k 0) (first_of suit)) rank 0 - 2)
  there : (other : Suit) → other ≢ suit → nine_from (beside c (first_of suit + rank)) (first_of other) ≡ nine_from (λ k. get_or c k 0) (first_of other)

is-beside : (c : List ℕ) (suit : Suit) (rank : ℕ) → rank < 9 → first_of suit + rank < 34 → IsBeside c suit rank
is-beside c suit rank small below =
    let f = λ (k : ℕ). get_or c k 0 in
    let p = first_of suit + rank in
    let at = only_suit suit p (of_nine suit rank small below) in record {
      here = nine-changed f (beside c p) (first_of suit) rank (get_or (nine_from f (first_of suit)) rank 0 - 2) small ((let own : beside c p p ≡ get_or c p 0 - 2 = grind (arith, nat_tests) in own) ∙ ap (λ n. n - 2) (sym (nine-at f (first_of suit) rank small))) (λ i n. beside-same c p (first_of suit + i) (λ e. n (omega (arith, e))));
      there = λ other ne. other-suits f (beside c p) p other below (λ e. ne (e ∙ at)) (λ k n. beside-same c p k n);
    }

-- ---- the suits of a hand

pub suit-is : (c : List ℕ) (suit : Suit) → of_suit (suits_of c) suit ≡ tiles_of_suit c suit
suit-is c suit = of_by_suits (tiles_of_suit c) suit

in-suits : (c : List ℕ) (P : OneSuit → Type 0) (suit : Suit) → P (tiles_of_suit c suit) → P (of_suit (suits_of c) suit)
in-suits c P suit h = subst P (sym (suit-is c suit)) h

-- each suit of a hand is cut, without the pair
abbrev AllCut : List ℕ → ℕ → Type 0
AllCut c p = (suit : Suit) → AreCut (has_runs suit) 0 0 (nine_from (beside c p) (first_of suit))

won-suits : (c : List ℕ) (suit : Suit) (rank : ℕ) → rank < 9 → 2 ≤ get_or c (first_of suit + rank) 0 → IsBeside c suit rank → AllCut c (first_of suit + rank) → AreWon (suits_of c)
won-suits c suit rank small two b cut = record {
  pair = suit;
  has_pair = in-suits c AreSetsAndPair suit (record {
    rank = rank;
    of_nine = small;
    two = omega (arith, two, nine-at (λ k. get_or c k 0) (first_of suit) rank small);
    sets = let P : List ℕ → Type 0 = λ xs. AreCut (has_runs suit) 0 0 xs in subst P b.here (cut suit);
  });
  others = λ other ne. in-suits c AreSets other (let P : List ℕ → Type 0 = λ xs. AreCut (has_runs other) 0 0 xs in subst P (b.there other ne) (cut other));
}

pub won-by : (c : List ℕ) (melds : ℕ) (sets : List Block) (p : ℕ) → length c ≡ 34 → IsSplit c melds sets p → (won : AreWon (suits_of c)) × IsOfSuit won.pair p
unfolding won-suits
won-by c melds sets p long s =
    let adds = adds-everywhere c sets p long s.made_of in
    let place = some_suit p s.made_of.is_kind in
    let suit = place.0 in
    let rank = p - first_of suit in
    let at : first_of suit + rank ≡ p = omega (arith, place.1.low) in
    let small : rank < 9 = omega (arith, place.1.low, nine_at_most suit p place.1) in
    let C : ℕ → Type 0 = λ k. AllCut c k in
    let cut : C (first_of suit + rank) = subst C (sym at) (cut-of sets (each-set c sets p s.made_of) (beside c p) (λ k. let a = adds k in omega (arith, a))) in
    let b = is-beside c suit rank small (omega (arith, at, s.made_of.is_kind)) in
    let T : ℕ → Type 0 = λ k. 2 ≤ get_or c k 0 in
    let two : 2 ≤ get_or c p 0 = let a = adds p in let e : cond {A = ℕ} (eqb p p) 2 0 ≡ 2 = grind (arith, nat_tests) in omega (arith, a, e) in
    (won-suits c suit rank small (subst T (sym at) two) b cut, place.1)

pub won-from-split : (c : List ℕ) (melds : ℕ) → length c ≡ 34 → HasSplit c melds → AreWon (suits_of c)
won-from-split c melds long h = (won-by c melds h.0 h.1 long h.2).0

-- ---- how many sets there are

-- a split has four sets and a pair
pub split-size : (c : List ℕ) (melds : ℕ) → length c ≡ 34 → HasSplit c melds → sum c + 3 * melds ≡ 14
split-size c melds long h = omega (arith, made-tiles c h.0 h.1 h.2.made_of, tiles-by-kind c long, h.2.four)

-- ---- from the suits to a split

pair-back : (c : List ℕ) (p k : ℕ) → 2 ≤ get_or c p 0 → cond (eqb k p) 2 0 + beside c p k ≡ get_or c k 0
pair-back c p k two = elim (cases_eq k p) [
  | inl e ↦ let f : get_or c k 0 ≡ get_or c p 0 = ap (λ j. get_or c j 0) e in grind (arith, nat_tests)
  | inr ne ↦ grind (arith, nat_tests)
]

kind-held : (c : List ℕ) (k n : ℕ) → length c ≡ 34 → n < get_or c k 0 → k < 34
kind-held c k n long h = elim (cases_lt k 34) [
  | inl l ↦ l
  | inr past ↦ absurd (omega (arith, h, get_or_past c k 0 (omega (arith, long))))
]

pub split-from-won : (c : List ℕ) (melds : ℕ) → length c ≡ 34 → sum c + 3 * melds ≡ 14 → AreWon (suits_of c) → HasSplit c melds
split-from-won c melds long sum-c w =
    let suit = w.pair in
    let has : AreSetsAndPair (tiles_of_suit c suit) = subst AreSetsAndPair (suit-is c suit) w.has_pair in
    let rank = has.rank in
    let p = first_of suit + rank in
    let two : 2 ≤ get_or c p 0 = omega (arith, has.two, nine-at (λ k. get_or c k 0) (first_of suit) rank has.of_nine) in
    let kind = kind-held c p 1 long (omega (arith, two)) in
    let b = is-beside c suit rank has.of_nine kind in
    let cut : AllCut c p = λ other. elim (cases_suit other suit) [
      | inl same ↦
          let P : List ℕ → Type 0 = λ xs. AreCut (has_runs suit) 0 0 xs in
          let Q : Suit → Type 0 = λ s. AreCut (has_runs s) 0 0 (nine_from (beside c p) (first_of s)) in
          subst Q (sym same) (subst P (sym b.here) has.sets)
      | inr ne ↦
          let P : List ℕ → Type 0 = λ xs. AreCut (has_runs other) 0 0 xs in
          subst P (sym (b.there other ne)) (subst AreSets (suit-is c other) (w.others other ne))
    ] in
    let m = sets-of (beside c p) (λ k h. kind-held c k 0 long (omega (arith, h))) cut in
    let each = sets-sorted m.0 m.1.sets in
    let adds : (k : ℕ) → copies (Pair p) k + total (sorted m.0) k ≡ get_or c k 0 = λ k. let a = m.1.adds k in let t = total-sorted k m.0 in omega (arith, a, t, pair-back c p k two) in
    let made = made-of c (sorted m.0) p each kind (λ k low. adds k) in (
      sorted m.0,
      p,
      record {
        four = omega (arith, sum-c, made-tiles c (sorted m.0) p made, tiles-by-kind c long);
        made_of = made;
        in_order = order-sorted m.0;
      },
    )

-- ---- one more tile

same-won : (a b : BySuit OneSuit) → ((suit : Suit) → of_suit a suit ≡ of_suit b suit) → AreWon a → AreWon b
same-won a b same w = record {
  pair = w.pair;
  has_pair = subst AreSetsAndPair (same w.pair) w.has_pair;
  others = λ suit ne. subst AreSets (same suit) (w.others suit ne);
}

more-here : (c : List ℕ) (kind : ℕ) → kind < 34 → length c ≡ 34 → tiles_of_suit (with_one c kind) (suit_of kind) ≡ with_tile (tiles_of_suit c (suit_of kind)) (rank_of kind)
more-here c kind small long =
    let f = λ (k : ℕ). get_or c k 0 in
    let g = λ (k : ℕ). get_or (with_one c kind) k 0 in
    let suit = suit_of kind in
    let is = own_suit kind small in
    let at : first_of suit + rank_of kind ≡ kind = omega (arith, is.low) in
    let short : rank_of kind < 9 = omega (arith, is.low, nine_at_most suit kind is) in
    let here : g (first_of suit + rank_of kind) ≡ get_or (nine_from f (first_of suit)) (rank_of kind) 0 + 1 =
    get_or-set_at c kind (first_of suit + rank_of kind) (get_or c kind 0 + 1) 0 at (omega (arith, long)) ∙ ap (λ k. get_or c k 0 + 1) (sym at) ∙ ap (λ n. n + 1) (sym (nine-at f (first_of suit) (rank_of kind) short)) in
    same-suit (nine_from g (first_of suit)) (set (nine_from f (first_of suit)) (rank_of kind) (get_or (nine_from f (first_of suit)) (rank_of kind) 0 + 1)) (has_runs suit) (has_runs suit)
    (nine-changed f g (first_of suit) (rank_of kind) (get_or (nine_from f (first_of suit)) (rank_of kind) 0 + 1) short here
    (λ i n. get_or-set_other c kind (first_of suit + i) (get_or c kind 0 + 1) 0 (λ e. n (omega (arith, e, at))))) refl

more-there : (c : List ℕ) (kind : ℕ) (suit : Suit) → kind < 34 → length c ≡ 34 → suit ≢ suit_of kind → tiles_of_suit (with_one c kind) suit ≡ tiles_of_suit c suit
more-there c kind suit small long ne =
    same-suit (nine_from (λ k. get_or (with_one c kind) k 0) (first_of suit)) (nine_from (λ k. get_or c k 0) (first_of suit)) (has_runs suit) (has_runs suit)
    (other-suits (λ k. get_or c k 0) (λ k. get_or (with_one c kind) k 0) kind suit small ne (λ k n. get_or-set_other c kind k (get_or c kind 0 + 1) 0 n)) refl

more-suits : (c : List ℕ) (kind : ℕ) → kind < 34 → length c ≡ 34 → (suit : Suit) → of_suit (suits_of (with_one c kind)) suit ≡ of_suit (with_tile_of (suits_of c) kind) suit
more-suits c kind small long suit =
    let own = suit_of kind in
    let value = with_tile (of_suit (suits_of c) own) (rank_of kind) in
    elim (cases_suit suit own) [
      | inl same ↦
          let E : Suit → Type 0 = λ s. of_suit (suits_of (with_one c kind)) s ≡ of_suit (with_suit (suits_of c) own value) s in
          subst E (sym same) (suit-is (with_one c kind) own ∙ more-here c kind small long ∙ ap (λ t. with_tile t (rank_of kind)) (sym (suit-is c own)) ∙ sym (of_suit-with_same (suits_of c) own value))
      | inr ne ↦ suit-is (with_one c kind) suit ∙ more-there c kind suit small long ne ∙ sym (suit-is c suit) ∙ sym (of_suit_with_other (suits_of c) own suit value ne)
    ]

-- a kind completes the suits just where one more of it gives a split
pub completes-iff : (c : List ℕ) (melds kind : ℕ) → length c ≡ 34 → sum c + 3 * melds ≡ 13 → Completes (suits_of c) kind ↔ ((kind < 34) × (get_or c kind 0 < 4) × HasSplit (with_one c kind) melds)
completes-iff c melds kind long sum-c =
    let left : kind < 34 → get_or (of_suit (suits_of c) (suit_of kind)).held (rank_of kind) 0 ≡ get_or c kind 0 = λ small.
    let is = own_suit kind small in
    ap (λ t. get_or t.held (rank_of kind) 0) (suit-is c (suit_of kind))
    ∙ nine-at (λ k. get_or c k 0) (first_of (suit_of kind)) (rank_of kind) (omega (arith, is.low, nine_at_most (suit_of kind) kind is))
    ∙ ap (λ k. get_or c k 0) (omega (arith, is.low)) in (
      λ w. (
        w.of_a_kind,
        omega (arith, w.some_left, left w.of_a_kind),
        split-from-won (with_one c kind) melds (length-set c kind (get_or c kind 0 + 1) ∙ long) (omega (arith, sum-c, sum_by-set (λ x. x) c kind (get_or c kind 0 + 1) 0 (omega (arith, w.of_a_kind, long))))
            (same-won (with_tile_of (suits_of c) kind) (suits_of (with_one c kind)) (λ s. sym (more-suits c kind w.of_a_kind long s)) w.wins),
      ),
      λ h. record {
        of_a_kind = h.0;
        some_left = omega (arith, h.1, left h.0);
        wins = same-won (suits_of (with_one c kind)) (with_tile_of (suits_of c) kind) (more-suits c kind h.0 long) (won-from-split (with_one c kind) melds (length-set c kind (get_or c kind 0 + 1) ∙ long) h.2);
      },
    )
