use Rattle.std.proofs.Common.{◌≡◌, ◌∙◌, ap, subst, Ok, Err}
use Rattle.std.specs.Prelude.{IfOk, Result}
use Rattle.riichi_standings.specs.Sessions.{NoneIsThin}
use Rattle.desk_standings.specs.Halls.{Held}
use Rattle.desk_standings.proofs.hall.Hall.standings.Goals as goal

any_ok : {X E : Type 0} (P : Type 0) (r : Result X E) → P → IfOk r (λ x. P)
any_ok P (Ok x) holds = holds
any_ok P (Err e) holds = tt

pub returns-in-None-clause-full : goal.returns-in-None-clause-full
returns-in-None-clause-full c =
    let same = c.results.ensures ∙ ap (λ (held : Held). held.games.results) c.self.view_is in
    any_ok _ c.standings.result (subst NoneIsThin same c.in-None.ensures)
