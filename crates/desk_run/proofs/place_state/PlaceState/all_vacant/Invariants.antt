use Rattle.std.proofs.Common.{◌≡◌, ◌≤◌, vec_capacity, replicate}
use Rattle.desk_run.specs.declared.place_state.PlaceState.TheVariants.{Vacant}
use Rattle.desk_run.proofs.place_state.PlaceState.all_vacant.Given as goal

abbrev pub invariant-loop-place : goal.invariant-loop-place
invariant-loop-place l = record {
  items : l.states.items ≡ replicate l._place Vacant;
  room : l.count ≤ vec_capacity l.states;
}
