-- All players sit, in their order.
use Rattle.std.proofs.Common.{◌≡◌, ◌*◌, ◌∙◌, ap, ◌++◌, subst, sym}
use Rattle.std.specs.List.{range_with_len}
use Rattle.std.proofs.lemmas.List.Sorted.{IsPermutation-refl}
use Rattle.riichi_seats.specs.Seatings.{IsSession, tables_of}
use Rattle.riichi_seats.proofs.SessionLemmas.{session_by_order}
use Rattle.riichi_seats.proofs.order.seats_by_order.Goals as goal

pub returns-clause-session : goal.returns-clause-session
returns-clause-session c =
    let all = range_with_len 0 (4 * c.args.tables) in
    let games : c.push_tables.new.games.items ≡ tables_of all =
    c.in_ok-push_tables.ensures
    ∙ ap (λ before. before ++ tables_of c.as_slice.result.now) c.new-games.ensures.items
    ∙ ap tables_of (c.as_slice.ensures.value ∙ c.in_ok-order.ensures) in
    subst (IsSession c.args.tables) (sym games) (session_by_order c.args.tables all (IsPermutation-refl all))
