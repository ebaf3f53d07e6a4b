use Rattle.std.proofs.Common.{◌≡◌, ◌-◌, ◌<◌, ◌≤◌, refl, ap, ◌∙◌, sym, arith}
use Rattle.std.proofs.lemmas.List.{get_or_default}
use Rattle.std.specs.Prelude.{slice_index}
use Rattle.riichi_chances.specs.Draws.{all_draws}
use Rattle.riichi_chances.proofs.OddsLemmas.{all_some}
use Rattle.riichi_worth.specs.Rows.{no_row}
use Rattle.riichi_worth.specs.Worths.{draws_of, shared, total_at}
use Rattle.riichi_worth.specs.PointRows.{PointRow}
use Rattle.riichi_worth.proofs.DiscardLemmas.{all_left}
use Rattle.riichi_worth.proofs.worth.worth_at.Goals as goal

-- all draws, and all points, as they are read
draws_told : goal.shared-requires-clause-some
draws_told c =
    let turns = c.args.span.turns in
    let few : c.args.span.turns < 19 = omega (arith, c.requires.turns) in
    let all : c.number-all.result ≡ draws_of c.args.span =
    c.number-all.ensures ∙ get_or_default c.all_draws.result turns c.index-all_draws-span.result 0 (omega (arith, few)) ∙ c.all_draws.ensures turns (omega arith) ∙ ap (λ n. all_draws n turns) (all_left c.args.span) in
    omega (arith, all, all_some c.args.span.unseen turns c.requires.drawn)

pub shared-requires-clause-some : goal.shared-requires-clause-some
shared-requires-clause-some c = draws_told c

pub returns : goal.returns
returns c =
    let turns = c.args.span.turns in
    let few : c.args.span.turns < 19 = omega (arith, c.requires.turns) in
    let all : c.number-all.result ≡ draws_of c.args.span =
    c.number-all.ensures ∙ get_or_default c.all_draws.result turns c.index-all_draws-span.result 0 (omega (arith, few)) ∙ c.all_draws.ensures turns (omega arith) ∙ ap (λ n. all_draws n turns) (all_left c.args.span) in
    let total : c.at-total.result ≡ total_at c.args.rows.now c.args.place c.args.span =
    c.at-total.ensures ∙ ap (λ (row : PointRow). slice_index row.points turns) (c.index-rows-place.is ∙ get_or_default c.args.rows.now c.args.place c.index-rows-place.result no_row c.requires.inside) in
    c.shared.ensures ∙ ap (λ n. shared n c.number-all.result) total ∙ ap (shared (total_at c.args.rows.now c.args.place c.args.span)) all
