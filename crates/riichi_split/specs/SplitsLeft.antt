-- What `Splits` is seen as: the splits that are left.
use Rattle.std.specs.Prelude.{List, ◌++◌}
use Rattle.riichi_split.specs.declared.split.Split.{Split}
use Rattle.riichi_split.specs.declared.splits.Splits.TheInside.{Inside}
use Rattle.riichi_split.specs.Cuts.{from_choices, from_pairs}

abbrev pub splits_left : Inside → List Split
splits_left s = from_choices s.counts s.wanted s.pair s.choices_left ++ from_pairs s.counts s.wanted s.choices s.first s.pairs_left
