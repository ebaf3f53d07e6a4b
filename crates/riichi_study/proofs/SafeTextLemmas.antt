-- A piece for each kind.
use Rattle.std.proofs.Common.{◌≡◌, ◌∙◌, ℕ, ◌+◌, ◌<◌, ◌≤◌, List, ◌++◌, take, sym, ap, arith}
use Rattle.std.proofs.lemmas.List.{flat_map_more, take_more}
use Rattle.std.proofs.lemmas.List.FromFn.{get_or-range_with_len}
use Rattle.std.specs.List.{flat_map}
use Rattle.std.specs.Prelude.{◌∷◌, []}
use Rattle.riichi_tiles.specs.Melds.{every_kind}

-- with the piece of a kind the pieces go one kind further
pub kind_more : (f : ℕ → List ℕ) (before so_far next : List ℕ) (n kind : ℕ) → n < 34 → kind ≡ n → so_far ≡ before ++ flat_map f (take n every_kind) → next ≡ so_far ++ f kind → next ≡ before ++ flat_map f (take (n + 1) every_kind)
kind_more f before so_far next n kind low is e h =
    h ∙ ap (λ (k : ℕ). so_far ++ f k) is ∙ ap (λ (s : List ℕ). s ++ f n) e ∙ flat_map_more f before (take n every_kind) n
    ∙ sym (ap (λ (ks : List ℕ). before ++ flat_map f ks) (take_more every_kind n 0 low ∙ ap (λ (k : ℕ). take n every_kind ++ k ∷ []) (get_or-range_with_len 0 34 n 0 low ∙ omega arith)))

pub every_done : (f : ℕ → List ℕ) (before next : List ℕ) (n : ℕ) → 34 ≤ n → n ≤ 34 → next ≡ before ++ flat_map f (take n every_kind) → next ≡ before ++ flat_map f every_kind
every_done f before next n low high e = e ∙ ap (λ m. before ++ flat_map f (take m every_kind)) (let all : n ≡ 34 = omega arith in all)
