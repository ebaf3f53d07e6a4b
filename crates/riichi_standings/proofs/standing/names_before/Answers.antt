use Rattle.std.proofs.Common.{refl}
use Rattle.std.proofs.lemmas.Option.{slice_get_read}
use Rattle.riichi_standings.proofs.StandingLemmas.{before_names}
use Rattle.riichi_standings.proofs.standing.names_before.Goals as goal

pub returns-in-Some : goal.returns-in-Some
returns-in-Some c =
    let found = c.in-Some.ensures.lookup in
    let is = slice_get_read c.args.names.now _ c.args.player c.in-Some.own.now refl (found.3.0) found.1 in
    let before = before_names c.args.names.now c.args.player c.in-Some.own.now is in
    let less = c.names_less.ensures in
    cc
