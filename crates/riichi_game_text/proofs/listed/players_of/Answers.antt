use Rattle.std.proofs.Common.{sym, ap, ◌∙◌}
use Rattle.riichi_hand.specs.Words.{items_of}
use Rattle.riichi_game_text.specs.Names.{names_in}
use Rattle.riichi_game_text.specs.Listed.{with_all}
use Rattle.riichi_game_text.proofs.ListLemmas.{first_listed, none_listed}
use Rattle.riichi_game_text.proofs.listed.players_of.Goals as goal

pub returns-in_err-listed : goal.returns-in_err-listed
returns-in_err-listed c =
    let names = names_in c.args.names.now in
    let after = c.in-Some.after.now in
    let first = first_listed names c.loop-name.rest.now c.in-Some.name.now after c.loop-name.listed c.in-Some.ensures.0 in
    let none = sym c.with_another.ensures ∙ c.in_err-listed.was in
    c.from_residual.ensures ∙ sym (sym c.loop-name.invariant ∙ first ∙ ap (with_all names (items_of after)) none ∙ none_listed names (items_of after))

pub loop-name-preserved : goal.loop-name-preserved
loop-name-preserved c =
    let names = names_in c.args.names.now in
    let after = c.in-Some.after.now in
    let first = first_listed names c.loop-name.rest.now c.in-Some.name.now after c.loop-name.listed c.in-Some.ensures.0 in
    let some = sym c.with_another.ensures ∙ c.in_ok-listed.was in
    sym (ap (with_all names (items_of after)) some) ∙ sym first ∙ c.loop-name.invariant
