-- A row marks just the ranks that its least choices lack.
use Rattle.std.proofs.lemmas.List.{length-set}
use Rattle.std.proofs.Common.{◌≡◌, ◌∙◌, ℕ, ◌+◌, ◌<◌, ◌≤◌, List, Some, None, length, subst, ⊎_elim, get_or-set_same, get_or-set_other, arith, zero, suc, ◌^◌}
use Rattle.std.specs.Prelude.{◌↔◌, ◌⊎◌, Bool, IsTrue, nat_lt, slice_index, slice_set, Option}
use Rattle.std.proofs.lemmas.Bool.{cases_lt, lt-ltb, ltb-true}
use Rattle.std.proofs.lemmas.Bool.Decides.{nat_tests}
use Rattle.riichi_rows.specs.Columns.{AreLeast, LeastFrom}
use Rattle.riichi_rows.specs.Lacked.{ChoiceLacks, IsOneMore}
use Rattle.riichi_rows.specs.Lanes.{lacks_with, lane}
use Rattle.riichi_rows.specs.Marks.{AreMarks, is_marked}
use Rattle.riichi_rows.specs.Ranks.{one_more}
use Rattle.riichi_rows.specs.Row.{entries_of_row}
use Rattle.riichi_rows.specs.declared.row.SuitRow.{SuitRow}
use Rattle.riichi_rows.specs.Suit.{IsLeastLack, entry_of}
use Rattle.riichi_rows.proofs.Blocks.{entry_least}
use Rattle.riichi_rows.proofs.Joins.{entry_is}
use Rattle.riichi_rows.proofs.OneMore.{entry_falls}

some_or_none : (v : ℕ) → (entry_of v ≡ Some v) ⊎ (entry_of v ≡ None)
some_or_none v = grind (arith, nat_tests)

module _ (runs : Bool) (counts caps : List ℕ) (long : length counts ≡ 9) (caps_long : length caps ≡ 9) (few : (r : ℕ) → r < 9 → slice_index caps r ≤ 4)
    (sets pairs rank : ℕ) (inside : rank < 9) (v w : ℕ) (base : LeastFrom runs counts caps 0 0 sets pairs v) (n : ℕ) (is : entry_of v ≡ Some n) where
  least : IsLeastLack runs counts caps sets pairs (Some n)
  least = subst (λ (o : Option ℕ). IsLeastLack runs counts caps sets pairs o) is (entry_least runs counts caps long caps_long few sets pairs v base)

  -- with one more tile
  module _ (next : LeastFrom runs (slice_set counts rank (slice_index counts rank + 1)) caps 0 0 sets pairs w) where
    abbrev more : List ℕ
    more = slice_set counts rank (slice_index counts rank + 1)

    one : IsOneMore rank counts more
    one = record { here = get_or-set_same counts rank (slice_index counts rank + 1) 0 (omega (arith, long, inside)); elsewhere = λ k other. get_or-set_other counts rank k (slice_index counts rank + 1) 0 other }

    lacks_more : IsLeastLack runs more caps sets pairs (entry_of w)
    lacks_more = entry_least runs (slice_set counts rank (slice_index counts rank + 1)) caps (length-set counts rank (slice_index counts rank + 1) ∙ long) caps_long few sets pairs w next

    with_some : (entry_of w ≡ Some w) → (w < n) ↔ ChoiceLacks runs counts caps sets pairs n rank
    with_some some = entry_falls runs counts more caps sets pairs n w rank inside one least (subst (λ (o : Option ℕ). IsLeastLack runs more caps sets pairs o) some lacks_more)

    never_none : (entry_of w ≡ None) → ⊥
    never_none none = (subst (λ (o : Option ℕ). IsLeastLack runs more caps sets pairs o) none lacks_more) least.0.blocks least.0.is_choice

    falls : (w < n) ↔ ChoiceLacks runs counts caps sets pairs n rank
    falls = ⊎_elim with_some (λ none. absurd (never_none none)) (some_or_none w)

    pub marked_with : IsTrue (nat_lt w v) ↔ ChoiceLacks runs counts caps sets pairs n rank
    marked_with =
        let same = (entry_is v n is).0 in
        (λ less. falls.0 (omega (arith, same, ltb-true w v less)), λ lacks. lt-ltb w v (omega (arith, same, falls.1 lacks)))

  -- with four or more no choice lacks the rank
  module _ (held : 4 ≤ slice_index counts rank) where
    pub never_lacked : ChoiceLacks runs counts caps sets pairs n rank → ⊥
    never_lacked lacks =
        let most = lacks.is_choice.in_caps rank inside in
        let cap = few rank inside in
        let more = lacks.lacks_rank in
        omega (arith, most, cap, more, held)

    not_less : LeastFrom runs counts caps 0 0 sets pairs w → w < v → ⊥
    not_less next less =
        let low = (entry_is v n is).1 in
        let reached = next.reached (omega (arith, less, low)) in
        let bound = base.least reached.columns reached.fits reached.has_sets reached.has_pairs in
        let lacks = reached.lacks in
        omega (arith, bound, lacks, less)

    pub marked_never : LeastFrom runs counts caps 0 0 sets pairs w → IsTrue (nat_lt w v) ↔ ChoiceLacks runs counts caps sets pairs n rank
    marked_never next = (λ less. absurd (not_less next (ltb-true w v less)), λ lacks. absurd (never_lacked lacks))

  pub marked_exactly :
      (slice_index counts rank < 4 → LeastFrom runs (slice_set counts rank (slice_index counts rank + 1)) caps 0 0 sets pairs w) →
      (4 ≤ slice_index counts rank → LeastFrom runs counts caps 0 0 sets pairs w) → IsTrue (nat_lt w v) ↔ ChoiceLacks runs counts caps sets pairs n rank
  marked_exactly room full = ⊎_elim (λ low. marked_with (room low)) (λ high. marked_never high (full high)) (cases_lt (slice_index counts rank) 4)

-- a row whose lanes are least, for the counts as they are and with one more tile of each rank
module _ (runs : Bool) (counts caps : List ℕ) (long : length counts ≡ 9) (caps_long : length caps ≡ 9) (few : (r : ℕ) → r < 9 → slice_index caps r ≤ 4) (row : SuitRow)
    (plain : AreLeast runs counts caps 0 0 (lane row.entries.lacks)) (marks : (r : ℕ) → r < 8 → AreLeast runs (one_more counts (suc r)) caps 0 0 (lacks_with (2 ^ r) row.entries.lacks row.marks))
    (room : slice_index counts 0 < 4 → AreLeast runs (one_more counts 0) caps 0 0 (lane row.first.lacks)) (full : 4 ≤ slice_index counts 0 → AreLeast runs counts caps 0 0 (lane row.first.lacks)) where
  mark_is : (sets pairs n rank : ℕ) → sets ≤ 4 → pairs ≤ 1 → rank < 9 → entries_of_row row sets pairs ≡ Some n → IsTrue (is_marked row sets pairs rank) ↔ ChoiceLacks runs counts caps sets pairs n rank
  mark_is sets pairs n zero hs hp inside is =
      marked_exactly runs counts caps long caps_long few sets pairs 0 inside _ _ (plain.at sets pairs (omega (arith, hs)) (omega (arith, hp))) n is
      (λ low. (room low).at sets pairs (omega (arith, hs)) (omega (arith, hp))) (λ high. (full high).at sets pairs (omega (arith, hs)) (omega (arith, hp)))
  mark_is sets pairs n (suc r) hs hp inside is =
      marked_with runs counts caps long caps_long few sets pairs (suc r) inside _ _ (plain.at sets pairs (omega (arith, hs)) (omega (arith, hp))) n is
      ((marks r (omega (arith, inside))).at sets pairs (omega (arith, hs)) (omega (arith, hp)))

  pub are_marks : AreMarks runs counts caps row
  are_marks = record { at = mark_is }
