-- A tile changes the row of its own suit alone, and what is joined of it.
use Rattle.std.proofs.Common.{◌≢◌, ℕ, ◌+◌, List, slice_set, get_or-set_other, inl, inr, refl, subst, sym, ◌∙◌, arith, ◌≡◌, ◌≤◌, Option}
use Rattle.riichi_rows.specs.declared.row.SuitRow.{SuitRow}
use Rattle.riichi_tiles.specs.declared.meld.Meld.{Meld}
use Rattle.riichi_tiles.specs.Kinds.{IsOfSuit, first_of, suit_of}
use Rattle.riichi_tiles.specs.Suits.{of_suit, with_suit, first_far, is_low, last_far, partner}
use Rattle.riichi_tiles.specs.declared.by_suit.BySuit.{BySuit}
use Rattle.riichi_tiles.specs.declared.suit.Suit.{Suit}
use Rattle.riichi_tiles.proofs.Suits.{cases_suit, of_suit_with_other, of_suit-with_same, far_apart, only_suit, others_apart}
use Rattle.riichi_shape.specs.Rows.{AreRowsOf, DifferAt, IsRowAt, AreFormsOf, AreHalvesBeside, AreJoinedTwo, AreJoinsBeside, AreSameBut, IsMeldedFew, far_half}
use Rattle.riichi_shape.specs.Suits.{IsRowOf}
use Rattle.riichi_rows.specs.Join.{IsLeastJoin}
use Rattle.riichi_rows.specs.Row.{AreJoinedBeside, suit_entries}
use Rattle.riichi_rows.specs.declared.joined.JoinedRows.{JoinedRows}
use Rattle.riichi_shape.specs.Distance.{IsLeastStandard}
use Rattle.riichi_shape.specs.declared.hand_forms.HandForms.{HandForms}
use Rattle.riichi_shape.specs.declared.halves.Halves.{Halves}
use Rattle.riichi_shape.specs.declared.hand_joins.HandJoins.{HandJoins}
use Rattle.riichi_tiles.specs.declared.suit.Suit.TheVariants.{Characters}
use Rattle.riichi_shape.proofs.FourSuits.{standard_least}

pub row_kept : (kind : ℕ) (before after : List ℕ) (melds : List Meld) (suit : Suit) (row : SuitRow) → DifferAt kind before after → ((k : ℕ) → IsOfSuit suit k → k ≢ kind) → IsRowOf suit before melds row → IsRowOf suit after melds row
row_kept kind before after melds suit row differ clear is = record {
  counts = is.counts;
  caps = is.caps;
  is_suit = record {
    counts_at = λ rank low.
        (let k = first_of suit + rank in
        is.is_suit.counts_at rank low ∙ sym (differ.others k (clear k (record { low = omega arith; high = omega arith }))));
    are_caps = is.is_suit.are_caps;
  };
  is_row = is.is_row;
}

-- with the new row of its suit the rows are those of the hand that has changed
pub rows_with : (kind : ℕ) (before after : List ℕ) (melds : List Meld) (rows : BySuit SuitRow) (row : SuitRow) → AreRowsOf before melds rows → DifferAt kind before after → IsRowAt after melds kind row → AreRowsOf after melds (with_suit rows (suit_of kind) row)
rows_with kind before after melds rows row are differ new other =
    let own = suit_of kind in
    let rows_then = with_suit rows own row in
    let At : Suit → SuitRow → Type 0 = λ suit r. IsRowOf suit after melds r in
    elim (cases_suit other own) [
      | inl same ↦ subst (λ (suit : Suit). At suit (of_suit rows_then suit)) (sym same) (subst (At own) (sym (of_suit-with_same rows own row)) new)
      | inr ne ↦
          subst (At other) (sym (of_suit_with_other rows own other row ne))
          (row_kept kind before after melds other (of_suit rows other) differ
          (λ k is e. ne (sym (only_suit other kind (record { low = omega (arith, e, is.low); high = omega (arith, e, is.high) }))))
          (are other))
    ]

pub set_differs : (hand : List ℕ) (kind n : ℕ) → DifferAt kind hand (slice_set hand kind n)
set_differs hand kind n = record { others = λ other ne. rw get_or-set_other refl }

-- ---- of a hand that has changed at one kind, the least lack by sets and a pair out of one new row and the join of the others

pub least_by_rows : (hand : List ℕ) (melds : List Meld) (rows : BySuit SuitRow) → AreRowsOf hand melds rows → IsMeldedFew melds → (sets : ℕ) → sets ≤ 4 → (least : Option ℕ) → IsLeastJoin (suit_entries rows) sets least → IsLeastStandard hand melds sets least
least_by_rows hand melds rows are few sets in_hand least join =
    standard_least hand melds (λ s. (are s).counts) (λ s. (are s).caps) (λ s. (are s).is_suit) (suit_entries rows) (λ s. (are s).is_row.least) sets in_hand few least join

-- the least joins of a row with a join of three rows
abbrev pub JoinsWith : SuitRow → JoinedRows → ℕ → Option ℕ → Type 0
JoinsWith row joined sets least = (suit : Suit) (rows : BySuit SuitRow) → of_suit rows suit ≡ row → AreJoinedBeside suit rows joined → IsLeastJoin (suit_entries rows) sets least

pub least_by_forms : (hand : List ℕ) (melds : List Meld) (forms : HandForms) → AreFormsOf hand melds forms → IsMeldedFew melds → (sets : ℕ) → sets ≤ 4 → (least : Option ℕ) →
    JoinsWith forms.rows.characters forms.joins.beside.characters sets least → IsLeastStandard hand melds sets least
least_by_forms hand melds forms are few sets in_hand least join =
    least_by_rows hand melds forms.rows are.are_rows few sets in_hand least (join Characters forms.rows refl (are.are_joins.beside Characters))

-- of the half that a suit is not in the rows are the same, where a suit of its own half has changed
pub half_kept : (own : Suit) (halves : Halves) (after : BySuit SuitRow) → AreHalvesBeside own halves after → (suit : Suit) → is_low own ≡ is_low suit → AreJoinedTwo (of_suit after (first_far suit)) (of_suit after (last_far suit)) (far_half halves suit)
half_kept own halves after is suit same =
    let apart = far_apart own suit same in
    rw (is.same (first_far suit) apart.0, is.same (last_far suit) apart.1) (is.are_halves suit)

-- beside a suit it is the other rows that count
pub beside_same : (suit : Suit) (before after : BySuit SuitRow) (joined : JoinedRows) → AreSameBut suit before after → AreJoinedBeside suit before joined → AreJoinedBeside suit after joined
beside_same suit before after joined same are =
    let apart = others_apart suit in
    record {
      last_two = are.last_two;
      two_least = rw (same (first_far suit) apart.1, same (last_far suit) apart.2) are.two_least;
      least = rw (same (partner suit) apart.0) are.least;
    }

pub changed : (kind : ℕ) (hand : List ℕ) (melds : List Meld) (joins : HandJoins) → AreJoinsBeside kind hand melds joins → IsMeldedFew melds → (sets : ℕ) → sets ≤ 4 → (row : SuitRow) (least : Option ℕ) → IsRowAt hand melds kind row
    → JoinsWith row (of_suit joins.beside (suit_of kind)) sets least → IsLeastStandard hand melds sets least
changed kind hand melds joins are few sets in_hand row least new join =
    let own = suit_of kind in
    let rows = are.joins_before.rows in
    let now = with_suit rows own row in
    least_by_rows hand melds now (rows_with kind are.before hand melds rows row are.joins_before.are_rows are.differ new) few sets in_hand least
    (join own now (of_suit-with_same rows own row) (beside_same own rows now (of_suit joins.beside own) (λ other ne. of_suit_with_other rows own other row ne) (are.joins_before.are_joins.beside own)))
