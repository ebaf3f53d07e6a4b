-- Pairs that meet more than once, a player at a time.
use Rattle.std.proofs.Common.{◌≡◌, ℕ, ◌+◌, ◌-◌, ◌≤◌, Bool, true, false, cond, ◌&&◌, List, [], ◌∷◌, ◌++◌, length, map, refl, ap, sym, ◌∙◌, arith}
use Rattle.std.specs.List.{count_by, filter, flat_map, range_with_len}
use Rattle.std.proofs.lemmas.Grind.{flat_map-append}
use Rattle.std.proofs.lemmas.List.{append-nil, append_assoc, map-id}
use Rattle.std.proofs.lemmas.List.FromFn.{filter_of_map_range_with_len_more, map-range_with_len_more}
use Rattle.std.proofs.lemmas.List.Sums.{length-filter}
use Rattle.riichi_seats.specs.Tables.{sits}
use Rattle.riichi_seats.specs.Counts.{meetings, tables_with, count_with, pair_of, is_repeated, if_repeated, repeated_with}
use Rattle.riichi_seats.specs.declared.table.Table.{Table}
use Rattle.riichi_seats.specs.declared.counts.Repeated.{Repeated}

-- those that pass one test and then another pass both
filter_both : {X : Type 0} (p q : X → Bool) (xs : List X) → filter q (filter p xs) ≡ filter (λ x. p x && q x) xs
filter_both p q [] = refl
filter_both {X} p q (x ∷ xs) = by_test (p x) (filter_both p q xs)
  where
    by_test : (t : Bool) → filter q (filter p xs) ≡ filter (λ x. p x && q x) xs
        → filter q (cond t (x ∷ filter p xs) (filter p xs)) ≡ cond (t && q x) (x ∷ filter (λ x. p x && q x) xs) (filter (λ x. p x && q x) xs)
    by_test true rest = ap (λ some. cond (q x) (x ∷ some) some) rest
    by_test false rest = rest

count_both : {X : Type 0} (p q : X → Bool) (xs : List X) → count_by q (filter p xs) ≡ count_by (λ x. p x && q x) xs
count_both p q xs =
    sym (length-filter q (filter p xs)) ∙ ap length (filter_both p q xs) ∙ length-filter (λ x. p x && q x) xs

count_meetings : (tables : List Table) (one other : ℕ) → count_with (tables_with tables one) other ≡ meetings tables one other
count_meetings tables one other = count_both (sits one) (sits other) tables

-- the pairs of a player with those before another one
abbrev pub pairs_before : List Table → ℕ → ℕ → List Repeated
pairs_before tables one other = filter is_repeated (map (pair_of tables one) (range_with_len (one + 1) (other - (one + 1))))

later_more : (tables : List Table) (one other : ℕ) → one + 1 ≤ other
    → pairs_before tables one (other + 1) ≡ pairs_before tables one other ++ if_repeated (pair_of tables one other)
later_more tables one other h =
    let more : other + 1 - (one + 1) ≡ other - (one + 1) + 1 = omega arith in
    ap (λ n. filter is_repeated (map (pair_of tables one) (range_with_len (one + 1) n))) more
    ∙ filter_of_map_range_with_len_more is_repeated (pair_of tables one) (one + 1) (other - (one + 1)) other (omega arith)

-- one later_players player more
pub pushed_more : (tables : List Table) (one other times : ℕ) (own : List Table) (old before after : List Repeated) → one + 1 ≤ other
    → own ≡ tables_with tables one → times ≡ count_with own other
    → before ≡ old ++ pairs_before tables one other
    → after ≡ before ++ if_repeated (record { one = one; other = other; times = times })
    → after ≡ old ++ pairs_before tables one (other + 1)
pushed_more tables one other times own old before after h with_one counted so_far pushed =
    let met : times ≡ meetings tables one other = counted ∙ ap (λ some. count_with some other) with_one ∙ count_meetings tables one other in
    pushed
    ∙ ap (λ n. before ++ if_repeated (record { one = one; other = other; times = n })) met
    ∙ ap (λ pairs. pairs ++ if_repeated (pair_of tables one other)) so_far
    ∙ append_assoc old (pairs_before tables one other) (if_repeated (pair_of tables one other))
    ∙ ap (λ pairs. old ++ pairs) (sym (later_more tables one other h))

-- the numbers up to one more
range_more : (a n : ℕ) → range_with_len a (n + 1) ≡ range_with_len a n ++ (a + n) ∷ []
range_more a n =
    sym (map-id (range_with_len a (n + 1)))
    ∙ map-range_with_len_more (λ k. k) a n (a + n) refl
    ∙ ap (λ numbers. numbers ++ (a + n) ∷ []) (map-id (range_with_len a n))

-- one player more
pub players_more : (tables : List Table) (players one : ℕ) (before after : List Repeated)
    → before ≡ flat_map (repeated_with tables players) (range_with_len 0 one)
    → after ≡ before ++ repeated_with tables players one
    → after ≡ flat_map (repeated_with tables players) (range_with_len 0 (one + 1))
players_more tables players one before after so_far pushed =
    let here : 0 + one ≡ one = omega arith in
    let last : flat_map (repeated_with tables players) ((0 + one) ∷ []) ≡ repeated_with tables players one =
    append-nil (repeated_with tables players (0 + one)) ∙ ap (repeated_with tables players) here in
    pushed
    ∙ ap (λ pairs. pairs ++ repeated_with tables players one) so_far
    ∙ ap (λ pairs. flat_map (repeated_with tables players) (range_with_len 0 one) ++ pairs) (sym last)
    ∙ sym (flat_map-append (repeated_with tables players) (range_with_len 0 one) ((0 + one) ∷ []))
    ∙ ap (flat_map (repeated_with tables players)) (sym (range_more 0 one))
