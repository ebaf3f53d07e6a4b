use Rattle.std.proofs.Common.{◌≡◌, ap, ◌∙◌, List, length, slice_index, replicate, refl, zero, suc, ℕ, arith}
use Rattle.riichi_tiles.specs.Tiles.{IsCounts}
use Rattle.riichi_tiles.proofs.LastGroups.{spells_nothing}
use Rattle.riichi_tiles.proofs.notation.reading.spelled.Goals as goal

-- nothing is held of any kind
none : (n kind : ℕ) → slice_index (replicate n 0) kind ≡ 0
none zero kind = refl
none (suc n) zero = refl
none (suc n) (suc kind) = none n kind

are_counts : (counts : List ℕ) → counts ≡ replicate 34 0 → IsCounts counts
are_counts counts is =
    record {
      each_kind = ap length is;
      at_most_four = λ kind. let nothing : slice_index counts kind ≡ 0 = ap (λ t. slice_index t kind) is ∙ none 34 kind in omega arith;
    }

pub loop-end-init : goal.loop-end-init
loop-end-init c =
    spells_nothing c.args.text.now c.args.counts.now (λ kind. ap (λ t. slice_index t kind) c.requires.none ∙ none 34 kind) (are_counts c.args.counts.now c.requires.none)
