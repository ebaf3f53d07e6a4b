use Rattle.std.proofs.Common.{arith, ◌+◌, ◌++◌, ap, ◌∙◌, sym, subst, length, length-set, List, ℕ, append_assoc, get_or}
use Rattle.desk_core.specs.LaneState.{LaneState}
use Rattle.desk_run.specs.Sitting.{Collects, out_places, place_if_out}
use Rattle.desk_run.specs.declared.place_state.PlaceState.{PlaceState}
use Rattle.desk_run.specs.declared.place_state.PlaceState.TheVariants.{Fresh, Vacant}
use Rattle.desk_run.proofs.Seating.{collects_more, more_out, fetched_out}
use Rattle.desk_run.proofs.table_seat.TableSeat.collect.Goals as goal
use Rattle.desk_run.proofs.table_seat.TableSeat.collect.Goals.{then-fetch_at, else-fetch_at}

pub loop-offset-preserved : goal.loop-offset-preserved
loop-offset-preserved c = let i = c.loop-offset.invariant in let e = c.fetch_at.ensures in let s = c.loop-offset.self in let n = c.fetch_at.new.self in let k : ℕ = c.loop-offset.offset in
    let first = c.args.self.now in let before : List ℕ = first.lost in
    elim c.if-fetch_at.branch [
      | then-fetch_at w ↦ let f = e.fetched w.if-fetch_at.true in record {
        id = e.board.0 ∙ i.id;
        base = e.board.1 ∙ i.base;
        end = i.end ∙ sym (ap (λ (l : List PlaceState). length l) f.1 ∙ length-set s.states k Vacant);
        few = (i.few.0, (let a = i.few.1 in let b = w.count-is in omega arith));
        arrived = subst (λ (m : ℕ). Collects m first.lane first.states n.lane n.states) (sym w.count-is)
            (collects_more _ _ s.lane _ _ s.states _ i.arrived f.0);
        lost = f.2 ∙ i.lost ∙ ap (λ (l : List ℕ). before ++ l) (sym (fetched_out first.base s.states k (let a = i.end in let b = c.loop-offset-test.true in omega arith))) ∙ ap (λ (l : List PlaceState). before ++ out_places first.base l (k + 1)) (sym f.1);
      }
      | else-fetch_at w ↦ let g = e.lost w.if-fetch_at.false in let x : PlaceState = get_or s.states k Fresh in record {
        id = e.board.0 ∙ i.id;
        base = e.board.1 ∙ i.base;
        end = i.end ∙ sym (ap (λ (l : List PlaceState). length l) g.1);
        few = (i.few.0, (let a = i.few.1 in let b = w.count-is in omega arith));
        arrived = subst (λ (m : ℕ). Collects m first.lane first.states n.lane n.states) (sym w.count-is)
            (subst (λ (lane : LaneState). Collects c.loop-offset.count first.lane first.states lane n.states) (sym g.0)
            (subst (λ (ls : List PlaceState). Collects c.loop-offset.count first.lane first.states s.lane ls) (sym g.1) i.arrived));
        lost = g.2 ∙ ap (λ (b : ℕ). s.lost ++ place_if_out (b + k) x) i.base ∙ ap (λ (l : List ℕ). l ++ place_if_out (first.base + k) x) i.lost
            ∙ append_assoc before (out_places first.base s.states k) (place_if_out (first.base + k) x)
            ∙ ap (λ (l : List ℕ). before ++ l) (sym (more_out first.base s.states k)) ∙ ap (λ (l : List PlaceState). before ++ out_places first.base l (k + 1)) (sym g.1);
      }
    ]
