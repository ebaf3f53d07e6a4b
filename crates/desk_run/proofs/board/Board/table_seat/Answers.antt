use Rattle.std.proofs.Common.{rules, arith, ◌≡◌, ◌+◌, ◌++◌, ◌∷◌, [], refl, ap, ◌∙◌, sym, subst, length, length-set, set, List, ℕ, replicate}
use Rattle.std.proofs.lemmas.List.{length-replicate}
use Rattle.desk_core.specs.LaneState.{LaneState, new_lane}
use Rattle.desk_run.specs.Plays.{SeatState, table_seen}
use Rattle.desk_run.specs.LanePlaces.{Agrees, count_accepted}
use Rattle.desk_run.specs.declared.place_state.PlaceState.{PlaceState}
use Rattle.desk_run.specs.declared.place_state.PlaceState.TheVariants.{Fresh, Vacant}
use Rattle.atomic_table.specs.Seated.{TableId}
use Rattle.desk_run.proofs.Seating.{sits_new, sits_vacant, sits_with, all_near}
use Rattle.desk_run.proofs.TakingUp.{TakenUp, none_up, one_up, all_up, all_vacant}
use Rattle.desk_run.proofs.board.Board.table_seat.Goals as goal

pub loop-offset-init : goal.loop-offset-init
loop-offset-init c = let entered = c.enter_table.ensures.me c.if-not-enter_table.false in
    let fresh : (table_seen c.enter_table.new.seat.me.0).states ≡ replicate c.args.self.now.size.places Fresh = ap (λ (m : SeatState). (table_seen m.0).states) entered in record {
      id = search rules;
      sits = sits_new c.args.seat.me _ _ _ c.args.self.now.size _ _ (ap (λ (m : SeatState). m.1) c.requires.seat.1) entered fresh c.in_ok-vacant.ensures.items refl;
      up = subst (λ (l : List ℕ). TakenUp 0 (table_seen c.enter_table.new.seat.me.0).states l) (sym c.in_ok-vacant.ensures.items) (none_up c.args.self.now.size.places _ fresh);
      base = refl;
      places = (refl, ap (λ (l : List PlaceState). length l) fresh ∙ length-replicate _ _, search rules);
    }

pub loop-offset-preserved : goal.loop-offset-preserved
loop-offset-preserved c = let i = c.loop-offset.invariant in let k : ℕ = c.loop-offset.offset in let states : List PlaceState = (table_seen c.loop-offset.seat.me.0).states in
    let same : (table_seen c.take_up.new.seat.me.0).states ≡ set states k Vacant = ap (λ (m : SeatState). (table_seen m.0).states) c.take_up.ensures.me in record {
      id = c.take_up.ensures.id ∙ i.id;
      sits = sits_vacant c.loop-offset.seat.me _ _ _ _ _ _ _ _ k i.sits c.push_reserved.ensures.items c.take_up.ensures.me same refl refl;
      up = subst (λ (l : List ℕ). TakenUp (k + 1) (table_seen c.take_up.new.seat.me.0).states l) (sym c.push_reserved.ensures.items)
          (subst (λ (l : List PlaceState). TakenUp (k + 1) l (c.loop-offset.vacant.items ++ k ∷ [])) (sym same) (one_up k states c.loop-offset.vacant.items (let a = c.loop-offset-test.true in let b = i.places.1 in omega arith) i.up));
      base = refl;
      places = (refl, ap (λ (l : List PlaceState). length l) same ∙ length-set states k Vacant ∙ i.places.1, (let a = i.places.2 in let b = c.push_reserved.ensures.capacity in omega arith));
    }

pub opening-requires-clause-agrees : goal.opening-requires-clause-agrees
opening-requires-clause-agrees c = let i = c.loop-offset.invariant in let n : ℕ = c.loop-offset.offset in let states : List PlaceState = (table_seen c.loop-offset.seat.me.0).states in
    let done : n ≡ length states = let a = c.loop-offset-test.false in let b = i.places.1 in let d = c.loop-offset.auto.offset-end in omega arith in
    let same : states ≡ replicate c.args.self.now.size.places Vacant = all_vacant n states _ (sym done) i.up ∙ ap (λ (m : ℕ). replicate m Vacant) (done ∙ i.places.1) in
    subst (λ (l : List PlaceState). Agrees (new_lane c.args.number) l c.loop-offset.vacant.items) same (all_up (new_lane c.args.number) c.args.number n states c.loop-offset.vacant.items refl done i.up)

pub invariant_of-result : goal.invariant_of-result
invariant_of-result c = let i = c.loop-offset.invariant in let n : ℕ = c.loop-offset.offset in let states : List PlaceState = (table_seen c.loop-offset.seat.me.0).states in
    let done : n ≡ length states = let a = c.loop-offset-test.false in let b = i.places.1 in let d = c.loop-offset.auto.offset-end in omega arith in
    let same : states ≡ replicate c.args.self.now.size.places Vacant = all_vacant n states _ (sym done) i.up ∙ ap (λ (m : ℕ). replicate m Vacant) (done ∙ i.places.1) in
    record {
      near = let size = c.args.self.now.sized.1 in all_near c.args.number c.args.self.now.size.tables c.args.self.now.size.places _ _ _ c.requires.number.0 (ap (λ (id : TableId). id.slots) i.id ∙ size) i.base (ap (λ (l : List PlaceState). length l) c.in_ok-own.ensures.states.0 ∙ length-replicate _ _ ∙ i.places.0);
      few = let size = c.args.self.now.sized in let id = ap (λ (id : TableId). id.slots) i.id in omega arith;
      sits = sits_with c.loop-offset.seat.me _ (new_lane c.args.number) c.in_ok-own.own.lane _ _ _ _ i.sits (ap (λ (l : LaneState). l.table) c.in_ok-own.ensures.lane) (ap count_accepted c.in_ok-own.ensures.lane) (c.in_ok-own.ensures.states.0 ∙ sym same) c.in_ok-own.ensures.states.1;
    }
