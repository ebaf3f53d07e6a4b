use Rattle.std.proofs.Common.{ap, ◌∙◌, arith}
use Rattle.std.specs.List.{position_or_len}
use Rattle.riichi_study.specs.Prospects.{gives_way_to}
use Rattle.riichi_study.proofs.ProspectLemmas.{found_in, found_within, put_is}
use Rattle.riichi_study.proofs.prospect.put.Goals as goal

pub insert-requires : goal.insert-requires
insert-requires c =
    let gives_way = gives_way_to c.args.order c.figure_of-figure.result in
    let items = c.args.prospects.now.items in
    let place_is = found_in gives_way c.as_slice.result.now items c.unwrap_or-place.result c.len.result c.place_for.result c.as_slice.ensures.value c.place_for.ensures c.len.ensures.value c.unwrap_or-place.ensures in
    (omega arith, (omega (arith, found_within gives_way items c.unwrap_or-place.result place_is), c.requires))

pub returns-clause-items : goal.returns-clause-items
returns-clause-items c =
    let items = c.args.prospects.now.items in
    let place_is = found_in (gives_way_to c.args.order c.figure_of-figure.result) c.as_slice.result.now items c.unwrap_or-place.result c.len.result c.place_for.result c.as_slice.ensures.value c.place_for.ensures c.len.ensures.value c.unwrap_or-place.ensures in
    put_is c.args.order items c.insert.new.self.items c.args.prospect c.unwrap_or-place.result (place_is ∙ ap (λ figure. position_or_len (gives_way_to c.args.order figure) items) c.figure_of-figure.ensures) c.insert.ensures.items
