use Rattle.std.proofs.Common.{◌≡◌, ◌<◌, ℕ, min, length, ap, ◌∙◌, arith}
use Rattle.std.proofs.lemmas.List.{get_or_default}
use Rattle.riichi_rows.specs.Lanes.{lane}
use Rattle.riichi_rows.proofs.Opposite.{least_bound, least_reached}
use Rattle.riichi_rows.proofs.lanes.Lanes.least.Goals as goal

pub returns : goal.returns
returns c =
    let xs = c.args.self.lacks in
    let both = c.or.result.lacks in
    let long : length both ≡ 16 = c.or.result.sixteen in
    let at : (s : ℕ) → s < 5 → lane both s 0 ≡ min (lane xs s 0) (lane xs s 1) = λ s hs. c.or.ensures s 0 hs (omega arith) ∙ ap (min (lane xs s 0)) (c.pairs_first.ensures s hs) in
    let no_set = get_or_default both 0 0 255 (omega arith) in
    let one_set = get_or_default both 1 0 255 (omega arith) in
    let two_sets = get_or_default both 2 0 255 (omega arith) in
    let three_sets = get_or_default both 3 0 255 (omega arith) in
    let four_sets = get_or_default both 4 0 255 (omega arith) in
    let is : c.min-4.result ≡ min (min (min (min (lane both 0 0) (lane both 1 0)) (lane both 2 0)) (lane both 3 0)) (lane both 4 0) =
    omega (arith, c.min.ensures, c.min-2.ensures, c.min-3.ensures, c.min-4.ensures, no_set, one_set, two_sets, three_sets, four_sets) in
    record { bound = least_bound xs both c.min-4.result at is; reached = least_reached xs both c.min-4.result at is }
