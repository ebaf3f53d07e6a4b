-- What is kept where one more reading is ranked.
use Rattle.std.proofs.Common.{◌≡◌, ℕ, ◌+◌, ◌-◌, ◌<◌, ◌≤◌, true, false, Option, List, [], ◌∷◌, ◌++◌, length, get_or, map, sym, ap, subst, ◌∙◌, inl, inr, arith, refl}
use Rattle.std.specs.Prelude.{All, Contains, IsPermutation}
use Rattle.std.specs.List.{insert, AllByRecursion}
use Rattle.std.specs.declared.cmp.Ordering.{Ordering}
use Rattle.std.specs.declared.cmp.Ordering.TheVariants.{Less, Equal, Greater}
use Rattle.std.specs.Ordering.{is_gt, ordering_reverse, nat_cmp}
use Rattle.std.specs.Cmp.Lexicographic.{slice_cmp}
use Rattle.std.proofs.lemmas.Bool.{cases_lt, cases_eq}
use Rattle.std.proofs.lemmas.Cmp.{nat_list_cmp_total}
use Rattle.std.proofs.lemmas.List.Edits.{length-insert, get_or-insert_below, get_or-insert_at, get_or-insert_above}
use Rattle.std.proofs.lemmas.List.Elements.{All-cons, All-contains, Contains-append_right, All-from_recursion, recursion_from_All}
use Rattle.std.proofs.lemmas.List.Sorted.{IsPermutation-insert, IsPermutation-map, IsPermutation-push_more, All-permutation}
use Rattle.riichi_hand.specs.declared.win.WinParts.{WinParts}
use Rattle.riichi_split.specs.declared.reading.Reading.{Reading}
use Rattle.riichi_score.specs.declared.score.Score.{Score}
use Rattle.riichi_score.specs.Fu.{HasFourSets}
use Rattle.riichi_score.specs.Scores.{score_of, IsReadingOf}
use Rattle.riichi_score.proofs.Greatest.{AreReadingsOf, four_sets}
use Rattle.riichi_explain.specs.declared.ranked.RankedReading.{RankedReading}
use Rattle.riichi_explain.specs.Ranked.{rank_if, is_worth_more, AreInOrder, AreRanked}

-- ---- one of two readings at most is worth more than the other

turned : (order : Ordering) → is_gt order ≡ true → is_gt (ordering_reverse order) ≡ false
turned Less h = absurd (cc)
turned Equal h = absurd (cc)
turned Greater h = refl

one_way : (score other : Option Score) → is_worth_more score other ≡ true → is_worth_more other score ≡ false
one_way score other h = ap is_gt (nat_list_cmp_total.antisymm (rank_if other) (rank_if score)) ∙ turned (slice_cmp nat_cmp (rank_if score) (rank_if other)) h

-- ---- the order

moved : (a b c d : RankedReading) → a ≡ c → b ≡ d → is_worth_more c.score d.score ≡ false → is_worth_more a.score b.score ≡ false
moved a b c d p q h = (λ i. is_worth_more (p i).score (q i).score) ∙ h

-- what stands behind the place
behind : (xs : List RankedReading) (place : ℕ) (x d : RankedReading) (k : ℕ) → place < k → place ≤ length xs → get_or (insert xs place x) k d ≡ get_or xs (k - 1) d
behind xs place x d k after within =
    let next : k ≡ (k - 1) + 1 = omega arith in
    ap (λ n. get_or (insert xs place x) n d) next ∙ get_or-insert_above xs place x d (k - 1) (omega arith) within

pub in_order_insert : (xs : List RankedReading) (place : ℕ) (x : RankedReading) → AreInOrder xs → place ≤ length xs
    → ((other : RankedReading) (last : ℕ) → last + 1 ≡ place → is_worth_more x.score (get_or xs last other).score ≡ false)
    → ((other : RankedReading) → place < length xs → is_worth_more x.score (get_or xs place other).score ≡ true)
    → AreInOrder (insert xs place x)
in_order_insert xs place x order within before after k d low next =
    let more = length-insert xs place x within in
    let ys = insert xs place x in
    elim (cases_lt (k + 1) place) as (λ _. is_worth_more (get_or ys (k + 1) d).score (get_or ys k d).score ≡ false) [
      | inl under ↦ moved (get_or ys (k + 1) d) (get_or ys k d) (get_or xs (k + 1) d) (get_or xs k d)
          (get_or-insert_below xs place x d (k + 1) under within) (get_or-insert_below xs place x d k (omega arith) within) (order k d low (omega arith))
      | inr over ↦ elim (cases_lt k place) as (λ _. is_worth_more (get_or ys (k + 1) d).score (get_or ys k d).score ≡ false) [
        | inl last ↦
            let here : k + 1 ≡ place = omega arith in
            moved (get_or ys (k + 1) d) (get_or ys k d) x (get_or xs k d)
            (ap (λ n. get_or ys n d) here ∙ get_or-insert_at xs place x d within) (get_or-insert_below xs place x d k last within) (before d k here)
        | inr past ↦ elim (cases_eq k place) as (λ _. is_worth_more (get_or ys (k + 1) d).score (get_or ys k d).score ≡ false) [
          | inl here ↦
              moved (get_or ys (k + 1) d) (get_or ys k d) (get_or xs place d) x
              (get_or-insert_above xs place x d k past within ∙ ap (λ n. get_or xs n d) here) (ap (λ n. get_or ys n d) here ∙ get_or-insert_at xs place x d within)
              (one_way x.score (get_or xs place d).score (after d (omega arith)))
          | inr other ↦
              let later : place < k = omega (arith, other, past) in
              let again : k ≡ (k - 1) + 1 = omega arith in
              moved (get_or ys (k + 1) d) (get_or ys k d) (get_or xs ((k - 1) + 1) d) (get_or xs (k - 1) d)
              (get_or-insert_above xs place x d k past within ∙ ap (λ n. get_or xs n d) again) (behind xs place x d k later within)
              (order (k - 1) d (omega arith) (omega arith))
        ]
      ]
    ]

-- ---- each reading once, with its score

abbrev pub readings_in : List RankedReading → List Reading
readings_in ranked = map (λ one. one.reading) ranked

pub each_once-insert : (first : List Reading) (ranked : List RankedReading) (place : ℕ) (x : RankedReading) → IsPermutation first (readings_in ranked)
    → IsPermutation (first ++ x.reading ∷ []) (readings_in (insert ranked place x))
each_once-insert first ranked place x h =
    IsPermutation-push_more first (readings_in ranked) (readings_in (insert ranked place x)) x.reading h
    (IsPermutation-map (λ (one : RankedReading). one.reading) (x ∷ ranked) (insert ranked place x) (IsPermutation-insert ranked place x))

pub scored-insert : (win : WinParts) (ranked : List RankedReading) (place : ℕ) (x : RankedReading) → x.score ≡ score_of x.reading win
    → All (λ one. one.score ≡ score_of one.reading win) ranked → All (λ one. one.score ≡ score_of one.reading win) (insert ranked place x)
scored-insert win ranked place x is h =
    let scored = λ (one : RankedReading). one.score ≡ score_of one.reading win in
    All-permutation scored (x ∷ ranked) (insert ranked place x) (IsPermutation-insert ranked place x) (All-cons scored x ranked is h)

-- ---- the sets of each reading

pub next_four_sets : (win : WinParts) (all before left rest : List Reading) (next : Reading) → AreReadingsOf win all → all ≡ before ++ left → left ≡ next ∷ rest → HasFourSets next win
next_four_sets win all before left rest next are parts is =
    let there : Contains (before ++ next ∷ rest) next = Contains-append_right before (next ∷ rest) next (0, omega arith, refl) in
    four_sets win next (All-contains (IsReadingOf win) all next are.sound (subst (λ (readings : List Reading). Contains readings next) (sym (parts ∙ ap (λ x. before ++ x) is)) there))

pub ranked_four_sets : (win : WinParts) (ranked : List RankedReading) → AreRanked win ranked → All (λ one. HasFourSets one.reading win) ranked
ranked_four_sets win ranked are =
    let all = All-permutation (IsReadingOf win) are.readings (readings_in ranked) are.each_once are.are_all.sound in
    All-from_recursion (λ one. HasFourSets one.reading win) ranked (each ranked (recursion_from_All (IsReadingOf win) (readings_in ranked) all))
  where
    each : (ranked : List RankedReading) → AllByRecursion (IsReadingOf win) (readings_in ranked) → AllByRecursion (λ one. HasFourSets one.reading win) ranked
    each [] h = tt
    each (one ∷ ranked) h = (four_sets win one.reading h.0, each ranked h.1)
