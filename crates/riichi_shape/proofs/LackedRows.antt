-- Which kinds sets and a pair lack, by the marks of a row beside the join of the other three.
use Rattle.std.proofs.Common.{◌≡◌, ℕ, ◌+◌, ◌<◌, ◌≤◌, IsTrue, List, refl, arith}
use Rattle.std.specs.Prelude.{◌↔◌}
use Rattle.riichi_rows.specs.Join.{EntriesSum}
use Rattle.riichi_rows.specs.Lacked.{ChoiceLacks}
use Rattle.riichi_rows.specs.Lanes.{lane}
use Rattle.riichi_rows.specs.Marks.{AreMarkedBeside, MarkedBeside, is_marked}
use Rattle.riichi_rows.specs.Row.{AreJoinedBeside, suit_entries}
use Rattle.riichi_rows.specs.declared.joined.JoinedRows.{JoinedRows}
use Rattle.riichi_rows.specs.declared.row.SuitRow.{SuitRow}
use Rattle.riichi_rows.proofs.Joins.{entry_is, entries_with, others_bound}
use Rattle.riichi_tiles.specs.Kinds.{has_runs, rank_of, suit_of}
use Rattle.riichi_tiles.specs.Suits.{first_far, last_far, of_suit, partner}
use Rattle.riichi_tiles.specs.declared.by_suit.BySuit.{BySuit}
use Rattle.riichi_tiles.specs.declared.meld.Meld.{Meld}
use Rattle.riichi_tiles.specs.declared.suit.Suit.{Suit}
use Rattle.riichi_tiles.proofs.Suits.{own_suit, nine_at_most, one_of, over_from}
use Rattle.riichi_shape.specs.Lacked.{EntryLacks, StandardLacks}
use Rattle.riichi_shape.specs.LackedKinds.{AreSuitsLacked, NoneStandardLess}
use Rattle.riichi_shape.specs.Rows.{AreJoinsOf, AreRowsOf, IsMeldedFew}
use Rattle.riichi_shape.specs.declared.hand_joins.HandJoins.{HandJoins}
use Rattle.riichi_rows.specs.declared.rank_set.RankSet.{RankSet}
use Rattle.riichi_shape.proofs.FourSuits.{entries_laws}
use Rattle.riichi_rows.proofs.Opposite.{through}

-- four entries that sum to n, that of the suit marked at the rank
pub record EntryMarked (rows : BySuit SuitRow) (suit : Suit) (sets n rank : ℕ) : Type 0 where
  pub entries : EntriesSum (suit_entries rows) sets n
  pub marked : IsTrue (is_marked (of_suit rows suit) (entries.sets_of suit) (entries.pairs_of suit) rank)

module _ (rows : BySuit SuitRow) (suit : Suit) (joined : JoinedRows) (are : AreJoinedBeside suit rows joined) (sets rank : ℕ) (few : sets ≤ 4) where
  abbrev lanes : Suit → ℕ → ℕ → ℕ
  lanes other = lane (of_suit rows other).entries.lacks

  to_entries : (n : ℕ) → n < 255 → MarkedBeside (of_suit rows suit) joined sets n rank → EntryMarked rows suit sets n rank
  to_entries n low m =
      let own = entry_is (lanes suit m.own_sets m.own_pairs) m.lack m.entry in
      let f = entries_with lanes suit are.last_two (lane joined.sums.lacks) are.two_least are.least sets few n m.own_sets m.own_pairs m.other_sets m.other_pairs m.all_sets m.one_pair (omega (arith, own.0, m.total)) low in
      record { entries = f.entries; marked = rw (f.own_sets, f.own_pairs) m.marked }

  module _ (n : ℕ) (low : n < 255) (bound : (m : ℕ) → EntriesSum (suit_entries rows) sets m → n ≤ m) where
    from_entries : EntryMarked rows suit sets n rank → MarkedBeside (of_suit rows suit) joined sets n rank
    from_entries f =
        let e = f.entries in
        let is = λ (other : Suit). (entry_is (lanes other (e.sets_of other) (e.pairs_of other)) (e.lack_of other) (e.entry other)).0 in
        let below = others_bound lanes suit are.last_two (lane joined.sums.lacks) are.two_least are.least sets few n e in
        let sum = over_from e.lack_of suit in
        let others = lane joined.sums.lacks (e.sets_of (partner suit) + (e.sets_of (first_far suit) + e.sets_of (last_far suit))) (e.pairs_of (partner suit) + (e.pairs_of (first_far suit) + e.pairs_of (last_far suit))) in
        let least = bound (e.lack_of suit + others) (to_entries (e.lack_of suit + others) (omega (arith, below, sum, is (partner suit), is (first_far suit), is (last_far suit), e.total, low)) (beside (e.lack_of suit + others) refl)).entries in
        beside n (omega (arith, below, least, sum, is (partner suit), is (first_far suit), is (last_far suit), e.total))
      where
        beside : (m : ℕ) → f.entries.lack_of suit + lane joined.sums.lacks (f.entries.sets_of (partner suit) + (f.entries.sets_of (first_far suit) + f.entries.sets_of (last_far suit))) (f.entries.pairs_of (partner suit) + (f.entries.pairs_of (first_far suit) + f.entries.pairs_of (last_far suit))) ≡ m
            → MarkedBeside (of_suit rows suit) joined sets m rank
        beside m total = record {
          own_sets = f.entries.sets_of suit;
          own_pairs = f.entries.pairs_of suit;
          other_sets = f.entries.sets_of (partner suit) + (f.entries.sets_of (first_far suit) + f.entries.sets_of (last_far suit));
          other_pairs = f.entries.pairs_of (partner suit) + (f.entries.pairs_of (first_far suit) + f.entries.pairs_of (last_far suit));
          lack = f.entries.lack_of suit;
          all_sets = omega (arith, over_from f.entries.sets_of suit, f.entries.has_sets);
          one_pair = omega (arith, over_from f.entries.pairs_of suit, f.entries.has_pair);
          entry = f.entries.entry suit;
          total = total;
          marked = f.marked;
        }

-- ---- the rows of a hand

module _ (hand : List ℕ) (melds : List Meld) (rows : BySuit SuitRow) (are : AreRowsOf hand melds rows) (melds_few : IsMeldedFew melds) (sets n : ℕ) (few : sets ≤ 4) (low : n < 255) (none_less : NoneStandardLess hand melds sets n) (joins : HandJoins) (are_joins : AreJoinsOf rows joins) where
  abbrev counts : Suit → List ℕ
  counts suit = (are suit).counts

  abbrev caps : Suit → List ℕ
  caps suit = (are suit).caps

  laws : ((m : ℕ) → EntriesSum (suit_entries rows) sets m → n ≤ m) × ((kind : ℕ) → kind < 34 → StandardLacks hand melds sets n kind ↔ EntryLacks (suit_entries rows) counts caps sets n kind)
  laws = entries_laws hand melds counts caps (λ s. (are s).is_suit) (suit_entries rows) (λ s. (are s).is_row.least) sets few melds_few n none_less

  -- the marks of a suit's row are those of its least choices
  mark_law : (suit : Suit) (rank : ℕ) → rank < 9 → (e : EntriesSum (suit_entries rows) sets n) →
      IsTrue (is_marked (of_suit rows suit) (e.sets_of suit) (e.pairs_of suit) rank) ↔ ChoiceLacks (has_runs suit) (counts suit) (caps suit) (e.sets_of suit) (e.pairs_of suit) (e.lack_of suit) rank
  mark_law suit rank inside e =
      (are suit).is_row.marks.at (e.sets_of suit) (e.pairs_of suit) (e.lack_of suit) rank (omega (arith, one_of e.sets_of suit, e.has_sets)) (omega (arith, one_of e.pairs_of suit, e.has_pair)) inside (e.entry suit)

  marked_lack : (kind : ℕ) → kind < 34 → (let suit = suit_of kind in MarkedBeside (of_suit rows suit) (of_suit joins.beside suit) sets n (rank_of kind) ↔ EntryLacks (suit_entries rows) counts caps sets n kind)
  marked_lack kind inside =
      let suit = suit_of kind in
      let rank = rank_of kind in
      let nine : rank < 9 = omega (arith, nine_at_most suit kind (own_suit kind inside), (own_suit kind inside).low) in
      let joined = of_suit joins.beside suit in (
        λ m. let f = to_entries rows suit joined (are_joins.beside suit) sets rank few n low m in record { entries = f.entries; lacks_kind = (mark_law suit rank nine f.entries).0 f.marked },
        λ k. from_entries rows suit joined (are_joins.beside suit) sets rank few n low laws.0 (record { entries = k.entries; marked = (mark_law suit rank nine k.entries).1 k.lacks_kind }),
      )

  pub suits_lacked : (suits : BySuit RankSet) → ((suit : Suit) → AreMarkedBeside (of_suit rows suit) (of_suit joins.beside suit) sets n (of_suit suits suit)) → AreSuitsLacked hand melds sets n suits
  suits_lacked suits each = record {
    at = λ kind inside.
        let suit = suit_of kind in
        let nine : rank_of kind < 9 = omega (arith, nine_at_most suit kind (own_suit kind inside), (own_suit kind inside).low) in
        through ((each suit).at (rank_of kind) nine) (through (marked_lack kind inside) (let law = laws.1 kind inside in (law.1, law.0)));
  }
