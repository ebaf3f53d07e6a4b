-- Copies of each kind: tests of the kinds so far.
use Rattle.std.proofs.Common.{◌≡◌, ◌∙◌, ℕ, ◌+◌, ◌<◌, Bool, take, ap, arith}
use Rattle.std.specs.Prelude.{◌||◌}
use Rattle.std.specs.List.{list_any}
use Rattle.std.proofs.lemmas.List.Folds.{list_any_more}
use Rattle.std.proofs.lemmas.List.FromFn.{get_or-range_with_len}
use Rattle.riichi_tiles.specs.Melds.{every_kind}

pub any_kind_more : (p : ℕ → Bool) (n : ℕ) → n < 34 → list_any p (take (n + 1) every_kind) ≡ (list_any p (take n every_kind) || p n)
any_kind_more p n within =
    list_any_more p every_kind n 0 within ∙ ap (λ kind. list_any p (take n every_kind) || p kind) (get_or-range_with_len 0 34 n 0 within ∙ omega arith)
