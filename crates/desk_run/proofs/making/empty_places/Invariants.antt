use Rattle.std.proofs.Common.{◌≡◌, ◌≤◌, vec_capacity, replicate}
use Rattle.desk_run.specs.declared.content.Content.TheVariants.{Empty}
use Rattle.desk_run.proofs.making.empty_places.Given as goal

abbrev pub invariant-loop-laid : goal.invariant-loop-laid
invariant-loop-laid l = record {
  items : l.places.items ≡ replicate l._laid Empty;
  room : l.count ≤ vec_capacity l.places;
}
