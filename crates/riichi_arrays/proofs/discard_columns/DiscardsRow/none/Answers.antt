use Rattle.std.proofs.Common.{◌≡◌, to_z, of_z, rules}
use Rattle.std.proofs.Common as width
use Rattle.riichi_arrays.proofs.DiscardLemmas.{none_told}
use Rattle.riichi_arrays.proofs.discard_columns.DiscardsRow.none.Goals as goal

pub returns : goal.returns
returns c =
    let same : to_z width.w8 (of_z width.w8 c.args.shanten) ≡ c.args.shanten = search rules in
    none_told c.args.shanten (to_z width.w8 (of_z width.w8 c.args.shanten)) c.new.result same c.new.ensures
