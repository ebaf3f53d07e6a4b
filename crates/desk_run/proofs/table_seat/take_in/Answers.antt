use Rattle.std.proofs.Common.{ap, ◌∙◌, sym, List}
use lib.ListN.{get_elem?}
use Rattle.desk_run.specs.declared.place_state.PlaceState.{PlaceState}
use Rattle.desk_run.proofs.table_seat.take_in.Goals as goal

pub receive-requires : goal.receive-requires
receive-requires c = let f = c.requires.fetched in
    ap (λ (l : List PlaceState). get_elem? l c.args.offset) (sym f.2) ∙ c.take_piece-piece.ensures.out f.0 f.1

pub returns-clause-taken : goal.returns-clause-taken
returns-clause-taken c = let f = c.requires.fetched in (
  c.take_piece-piece.result,
  ap (λ (l : List PlaceState). get_elem? l c.args.offset) (sym f.2) ∙ c.take_piece-piece.ensures.out f.0 f.1,
  c.receive.ensures.lane,
)
