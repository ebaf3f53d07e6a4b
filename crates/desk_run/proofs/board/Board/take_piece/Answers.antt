use Rattle.std.proofs.Common.{ℕ, ◌≡◌, ◌∷◌, List, sym, ap, ◌∙◌, subst}
use Rattle.desk_run.specs.Plays.{table_seen, SeatState}
use Rattle.desk_run.specs.declared.content.Content.{Content}
use Rattle.desk_run.specs.declared.content.Content.TheVariants.{Empty, Done}
use mathlib.Core.Option.{some}
use lib.ListN.{get_elem?}
use Rattle.desk_run.specs.declared.view.View.{View}
use Rattle.desk_core.specs.Ticketed.{Ticketed}
use Rattle.desk_run.specs.declared.place_state.PlaceState.TheVariants.{Out}
use Rattle.desk_run.proofs.Fronts.{front_of, found_in, left_in, done_piece}
use Rattle.desk_run.proofs.board.Board.take_piece.Goals as goal

at_place : {v : View} {p q : ℕ} {x : Content} {more : List (ℕ × Content)} → p ≡ q → (let n : SeatState = (v, (q, x) ∷ more) in n) ≡ (v, (p, x) ∷ more)
at_place {v} {p} {q} {x} {more} e = ap (λ (r : ℕ). let n : SeatState = (v, (r, x) ∷ more) in n) (sym e)

pub slot_mut-slot-requires : goal.slot_mut-slot-requires
slot_mut-slot-requires c = let t = c.requires.fetched.1 in let piece : Ticketed = t.0.0 in
    (c.requires.id, (Done piece, front_of c.args.seat.now.me _ c.args.place (Done piece) _ (t.0.2 ∙ at_place t.1)))

pub piece-piece-requires : goal.piece-piece-requires
piece-piece-requires c = let t = c.requires.fetched.1 in let piece : Ticketed = t.0.0 in
    (piece, found_in c.args.seat.now.me _ c.args.place (Done piece) c.slot_mut-slot.result.now _ (t.0.2 ∙ at_place t.1) c.slot_mut-slot.ensures.value)

pub returns-clause-out : goal.returns-clause-out
returns-clause-out c m t = let piece : Ticketed = t.0.0 in
    let same = found_in c.args.seat.now.me _ c.args.place (Done piece) c.slot_mut-slot.result.now _ (t.0.2 ∙ at_place t.1) c.slot_mut-slot.ensures.value in
    subst (λ (x : Ticketed). get_elem? (table_seen m.0).states c.args._offset ≡ some (Out x.ticket x.job)) (done_piece piece c.piece-piece.result (sym same ∙ c.piece-piece.ensures)) t.0.1

pub returns-clause-me : goal.returns-clause-me
returns-clause-me c m t = let piece : Ticketed = t.0.0 in
    left_in c.args.seat.now.me _ c.args.place (Done piece) c.clear.new.self Empty _ (t.0.2 ∙ at_place t.1) c.clear.ensures
