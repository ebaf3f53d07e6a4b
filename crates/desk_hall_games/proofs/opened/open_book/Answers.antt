use Rattle.desk_hall_games.specs.Opened.{NoGame}
use Rattle.desk_hall_games.proofs.opened.open_book.Goals as goal

-- the first line is ended, and begins no game
pub returns-in-None : goal.returns-in-None
returns-in-None c = NoGame c.in-Some.line.now c.in-Some.deals.now c.in-Some.ensures.0 c.in-None.ensures
