-- The first of the readings in the order of what they are worth is the best.
use Rattle.std.proofs.Common.{◌≡◌, ℕ, ◌<◌, Bool, true, false, cond, Option, Some, None, List, [], ◌∷◌, length, get_or, map, refl, sym, ap, subst, ◌∙◌, inl, arith, ltb}
use Rattle.std.specs.Prelude.{All, slice_get}
use Rattle.std.specs.declared.cmp.Ordering.{Ordering}
use Rattle.std.specs.declared.cmp.Ordering.TheVariants.{Less, Equal, Greater}
use Rattle.std.specs.Ordering.{is_lt, is_gt, ordering_reverse, nat_cmp, MatchOrdering}
use Rattle.std.specs.Cmp.{IsStrictWeakOrder}
use Rattle.std.specs.Cmp.Lexicographic.{slice_cmp}
use Rattle.std.proofs.lemmas.Bool.Decides.{nat_tests}
use Rattle.std.proofs.lemmas.Cmp.{nat_list_cmp_total, ranked, same_from_slice_cmp}
use Rattle.std.proofs.lemmas.List.MinMax.{ranks_by, IsStrictWeakOrder-flip}
use Rattle.std.proofs.lemmas.List.Sorted.{sorted_far, All-permutation, Contains-permutation}
use Rattle.riichi_tiles.proofs.Members.{IsIn, All-in, in-All, in-Contains, in-map, in-map-inv, Contains-in}
use Rattle.riichi_tiles.specs.Tiles.{IsCounts}
use Rattle.riichi_hand.specs.declared.win.WinParts.{WinParts}
use Rattle.riichi_hand.specs.Win.{IsWinRecord}
use Rattle.riichi_split.specs.declared.reading.Reading.{Reading}
use Rattle.riichi_score.specs.declared.score.Score.{Score}
use Rattle.riichi_score.specs.Best.{rank, is_above, IsBest, best_of}
use Rattle.riichi_score.specs.Scores.{score_of, completed_hand, IsReadingOf}
use Rattle.riichi_score.proofs.Greatest.{best_of-IsBest}
use Rattle.riichi_score.proofs.Uniqueness.{same_best}
use Rattle.riichi_score.proofs.Wins.{four_melds}
use Rattle.riichi_explain.specs.declared.ranked.RankedReading.{RankedReading}
use Rattle.riichi_explain.specs.Ranked.{rank_if, is_worth_more, AreInOrder, AreRanked}
use Rattle.riichi_explain.specs.RankedAnswer.{answer_if, ranked_answer}
use Rattle.riichi_explain.proofs.RankLemmas.{readings_in}

-- ---- which of two scores is above the other

-- as lists are compared; no rank is longer than another one
abbrev above : List ℕ → List ℕ → Bool
above [] others = false
above (number ∷ numbers) [] = true
above (number ∷ numbers) (other ∷ others) = cond (ltb other number) true (cond (ltb number other) false (above numbers others))

above_first : (number other : ℕ) (numbers others : List ℕ) (order : Ordering) → order ≡ nat_cmp number other
    → MatchOrdering order (above (number ∷ numbers) (other ∷ others) ≡ false) (above (number ∷ numbers) (other ∷ others) ≡ above numbers others) (above (number ∷ numbers) (other ∷ others) ≡ true)
above_first number other numbers others Less is = let less = ranked number other Less is in grind (arith, nat_tests)
above_first number other numbers others Equal is = let same = ranked number other Equal is in grind (arith, nat_tests)
above_first number other numbers others Greater is = let more = ranked number other Greater is in grind (arith, nat_tests)

above_is : (score best : Score) → is_gt (slice_cmp nat_cmp (rank score) (rank best)) ≡ is_above (rank score) (rank best)
above_is score best = same_from_slice_cmp nat_cmp is_gt above refl (λ y ys. refl) (λ x xs. refl) above_first (rank score) (rank best) (slice_cmp nat_cmp (rank score) (rank best)) refl

-- ---- the order

turned : (order : Ordering) → is_gt order ≡ is_lt (ordering_reverse order)
turned Less = refl
turned Equal = refl
turned Greater = refl

flip_is : (one other : RankedReading) → is_worth_more one.score other.score ≡ is_lt (slice_cmp nat_cmp (rank_if other.score) (rank_if one.score))
flip_is one other =
    turned (slice_cmp nat_cmp (rank_if one.score) (rank_if other.score)) ∙ ap is_lt (sym (nat_list_cmp_total.antisymm (rank_if other.score) (rank_if one.score)))

order : IsStrictWeakOrder (λ (one other : RankedReading). is_worth_more one.score other.score)
order =
    let flipped = IsStrictWeakOrder-flip (λ (one other : RankedReading). is_lt (slice_cmp nat_cmp (rank_if one.score) (rank_if other.score))) (ranks_by nat_list_cmp_total (λ (one : RankedReading). rank_if one.score)) in record {
      one_way = λ one other more. flip_is other one ∙ flipped.one_way one other (sym (flip_is one other) ∙ more);
      chain = λ one other last first second. flip_is one last ∙ flipped.chain one other last (sym (flip_is one other) ∙ first) (sym (flip_is other last) ∙ second);
    }

-- no reading is worth more than the first
none_above : (first : RankedReading) (others : List RankedReading) → AreInOrder (first ∷ others) → (one : RankedReading) → IsIn one (first ∷ others) → is_worth_more one.score first.score ≡ false
none_above first others in_order one there =
    let all = first ∷ others in
    let at = Contains-in one all there in
    subst (λ (it : RankedReading). is_worth_more it.score first.score ≡ false) at.2
    (sorted_far (λ (one other : RankedReading). is_worth_more one.score other.score) order all in_order 0 at.0 one (omega arith) at.1)

-- ---- the readings of a hand and those that are ranked

reading_ranked : (win : WinParts) (ranked : List RankedReading) → AreRanked win ranked → (reading : Reading) → IsReadingOf win reading
    → (one : RankedReading) × IsIn one ranked × (one.score ≡ score_of reading win)
reading_ranked win ranked are reading is =
    let there = Contains-permutation are.readings (readings_in ranked) reading are.each_once (are.are_all.complete reading is) in
    let from = in-map-inv (λ (one : RankedReading). one.reading) reading ranked (in-Contains reading (readings_in ranked) there) in (
      from.0,
      from.1,
      in-All (λ (one : RankedReading). one.score ≡ score_of one.reading win) ranked are.scored from.0 from.1 ∙ ap (λ (r : Reading). score_of r win) from.2,
    )

first_reading : (win : WinParts) (first : RankedReading) (others : List RankedReading) → AreRanked win (first ∷ others) → IsReadingOf win first.reading
first_reading win first others are =
    in-All (IsReadingOf win) (readings_in (first ∷ others)) (All-permutation (IsReadingOf win) are.readings (readings_in (first ∷ others)) are.each_once are.are_all.sound) first.reading (inl refl)

first_score : (win : WinParts) (first : RankedReading) (others : List RankedReading) → AreRanked win (first ∷ others) → first.score ≡ score_of first.reading win
first_score win first others are = in-All (λ (one : RankedReading). one.score ≡ score_of one.reading win) (first ∷ others) are.scored first (inl refl)

-- ---- the best

none_if : (score : Option Score) → is_worth_more score None ≡ false → score ≡ None
none_if None is = refl
none_if (Some score) is = absurd (cc)

best_first : (win : WinParts) (first : RankedReading) (others : List RankedReading) (score : Option Score) → first.score ≡ score → AreRanked win (first ∷ others) → IsBest win (answer_if score)
best_first win first others None is are = (
  (first.reading, first_reading win first others are),
  λ reading of.
      let one = reading_ranked win (first ∷ others) are reading of in
      sym one.2 ∙ none_if one.0.score (subst (λ (s : Option Score). is_worth_more one.0.score s ≡ false) is (none_above first others are.in_order one.0 one.1)),
)
best_first win first others (Some best) is are = (
  (first.reading, first_reading win first others are, sym (first_score win first others are) ∙ is),
  λ reading score of has.
      let one = reading_ranked win (first ∷ others) are reading of in
      let not_more = subst (λ (s : Option Score). is_worth_more one.0.score s ≡ false) is (none_above first others are.in_order one.0 one.1) in
      sym (above_is score best) ∙ subst (λ (s : Option Score). is_worth_more s (Some best) ≡ false) (one.2 ∙ has) not_more,
)

best_ranked : (win : WinParts) (ranked : List RankedReading) → AreRanked win ranked → IsBest win (ranked_answer ranked)
best_ranked win [] are = λ reading of. let one = reading_ranked win [] are reading of in absurd one.1
best_ranked win (first ∷ others) are = best_first win first others first.score refl are

pub ranked_is_best : (win : WinParts) (ranked : List RankedReading) → IsCounts (completed_hand win) → IsWinRecord win → AreRanked win ranked
    → (ranked_answer ranked ≡ best_of win) × IsBest win (ranked_answer ranked)
ranked_is_best win ranked counts of are =
    let best = best_ranked win ranked are in
    (same_best win (ranked_answer ranked) (best_of win) best (best_of-IsBest win counts (four_melds win of)), best)

-- ---- an explanation by what is ranked

pub each_is_reading : (win : WinParts) (ranked : List RankedReading) → AreRanked win ranked → All (λ one. IsReadingOf win one.reading) ranked
each_is_reading win ranked are =
    let all = All-permutation (IsReadingOf win) are.readings (readings_in ranked) are.each_once are.are_all.sound in
    All-in (λ (one : RankedReading). IsReadingOf win one.reading) ranked
    (λ one there. in-All (IsReadingOf win) (readings_in ranked) all one.reading (in-map (λ (one : RankedReading). one.reading) one ranked there))

pub none_ranked : (win : WinParts) (ranked : List RankedReading) → slice_get ranked 0 ≡ None → IsBest win (ranked_answer ranked) → (reading : Reading) → IsReadingOf win reading → ⊥
none_ranked win [] none best = best
none_ranked win (first ∷ others) none best = absurd (cc)
