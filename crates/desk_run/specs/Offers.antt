-- When a table's offer is refused.
use Rattle.std.specs.Prelude.{◌≡◌, ◌≢◌, true, false, List, length}
use Rattle.desk_core.specs.LaneState.{LaneState}
use Rattle.desk_core.specs.declared.lane.TheConstants.{LIMIT}
use Rattle.desk_run.specs.LanePlaces.{count_accepted, outs}
use Rattle.desk_run.specs.declared.place_state.PlaceState.{PlaceState}
use Rattle.desk_run.specs.declared.offer.OfferFault.{OfferFault}
use Rattle.desk_run.specs.declared.offer.OfferFault.TheVariants as fault

-- the lane may take one more job, and some place is free for it
abbrev pub MayOffer : LaneState → List PlaceState → Type 0
MayOffer lane states = (lane.closed ≡ false) × (count_accepted lane ≢ LIMIT) × (outs states ≢ length states)

-- the fault of an offer, from the lane and its places before it
abbrev pub IsOfferFault : LaneState → List PlaceState → OfferFault → Type 0
IsOfferFault lane states fault.Closed = lane.closed ≡ true
IsOfferFault lane states fault.Limit = (lane.closed ≡ false) × (count_accepted lane ≡ LIMIT)
IsOfferFault lane states fault.NoPlace = (lane.closed ≡ false) × (count_accepted lane ≢ LIMIT) × (outs states ≡ length states)
IsOfferFault lane states fault.Memory = MayOffer lane states
