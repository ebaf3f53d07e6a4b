use Rattle.std.proofs.Common.{refl}
use Rattle.riichi_rows.proofs.Tables.{follow, min_same, pair_same, runs_same, set_same}
use Rattle.riichi_rows.proofs.open.Begun.added.Goals as goal

pub returns : goal.returns
returns c = λ bit.
    (let one = follow _ _ _ (c.where_runs-one.ensures bit) (runs_same c.args.runs _ _ (c.with_set.ensures bit)) in
    let two = follow _ _ _ (c.where_runs-two.ensures bit) (runs_same c.args.runs _ _ (follow _ _ _ (c.with_set-3.ensures bit) (set_same _ _ (c.with_set-2.ensures bit)))) in
    record {
      no_tile = λ s p hs hp. refl;
      one_tile = one;
      two_tiles = follow _ _ _ (c.or.ensures bit) (min_same _ _ _ _ (c.with_pair.ensures bit) two);
      three_tiles = follow _ _ _ (c.or-2.ensures bit) (min_same _ _ _ _ (c.with_set-4.ensures bit) (follow _ _ _ (c.with_pair-2.ensures bit) (pair_same _ _ one)));
      four_tiles = follow _ _ _ (c.or-3.ensures bit) (min_same _ _ _ _ (follow _ _ _ (c.with_set-5.ensures bit) (set_same _ _ one)) (follow _ _ _ (c.with_pair-3.ensures bit) (pair_same _ _ two)));
    })
