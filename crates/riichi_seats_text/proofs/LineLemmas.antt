-- One line more.
use Rattle.std.proofs.Common.{◌≡◌, ℕ, ◌+◌, List, [], ◌∷◌, ◌++◌, refl, ap, sym, ◌∙◌, arith}
use Rattle.std.specs.List.{flat_map, range_with_len}
use Rattle.std.proofs.lemmas.Grind.{flat_map-append}
use Rattle.std.proofs.lemmas.List.{append-nil, append_assoc, map-id}
use Rattle.std.proofs.lemmas.List.FromFn.{map-range_with_len_more}

-- what is written and what is left are still the whole, where the next line is written
pub written_more : (whole before after here left rest : List ℕ) → before ++ left ≡ whole → left ≡ here ++ rest → after ≡ before ++ here → after ++ rest ≡ whole
written_more whole before after here left rest so_far next written =
    ap (λ text. text ++ rest) written ∙ append_assoc before here rest ∙ ap (λ text. before ++ text) (sym next) ∙ so_far

range_more : (a n : ℕ) → range_with_len a (n + 1) ≡ range_with_len a n ++ (a + n) ∷ []
range_more a n =
    sym (map-id (range_with_len a (n + 1))) ∙ map-range_with_len_more (λ k. k) a n (a + n) refl
    ∙ ap (λ numbers. numbers ++ (a + n) ∷ []) (map-id (range_with_len a n))

-- a line for each number below one, and for that one
pub lines_more : (line : ℕ → List ℕ) (n : ℕ) (old before after : List ℕ) → before ≡ old ++ flat_map line (range_with_len 0 n)
    → after ≡ before ++ line n → after ≡ old ++ flat_map line (range_with_len 0 (n + 1))
lines_more line n old before after so_far written =
    let here : 0 + n ≡ n = omega arith in
    let last : flat_map line ((0 + n) ∷ []) ≡ line n = append-nil (line (0 + n)) ∙ ap line here in
    let all : flat_map line (range_with_len 0 (n + 1)) ≡ flat_map line (range_with_len 0 n) ++ line n =
    ap (flat_map line) (range_more 0 n) ∙ flat_map-append line (range_with_len 0 n) ((0 + n) ∷ [])
    ∙ ap (λ text. flat_map line (range_with_len 0 n) ++ text) last in
    written ∙ ap (λ text. text ++ line n) so_far ∙ append_assoc old (flat_map line (range_with_len 0 n)) (line n)
    ∙ ap (λ text. old ++ text) (sym all)
