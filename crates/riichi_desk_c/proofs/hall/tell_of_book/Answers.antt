use Rattle.std.proofs.Common.{◌≤◌, length, arith, inl, inr}
use Rattle.desk_hall.specs.Messages.{request_in}
use Rattle.desk_hall_games.specs.Positions.{reads_entry, same_outcome}
use Rattle.desk_hall_games.proofs.Places.{place_within}
use Rattle.riichi_desk_c.specs.Hall.{NoBook}
use Rattle.riichi_desk_c.proofs.hall.tell_of_book.Goals as goal

pub returns-in_default : goal.returns-in_default
returns-in_default c = NoBook (inl c.in_default.ensures) c.tell_nothing.ensures

pub returns-in_default-judged_by : goal.returns-in_default-judged_by
returns-in_default-judged_by c =
    NoBook (inr (record { start = c.in-Some.start; deals = c.in-Some.deals.now; opens = c.in-Some.ensures; fault = c.in_default-judged_by.ensures })) c.tell_nothing-in_default-judged_by.ensures

-- the place is within the text of the deals, which is within the book
pub of-requires : goal.of-requires
of-requires c =
    let within : c.in-Some-judged_by.judged.place ≤ length c.in-Some.deals.now =
    place_within reads_entry same_outcome c.in-Some.start c.in-Some.deals.now c.args.number (request_in c.args.asked) c.in-Some-judged_by.judged c.in-Some-judged_by.ensures in
    omega (arith, within, c.in-Some.ensures.shorter)
