use Rattle.std.proofs.Common.{◌≡◌, arith, sym}
use Rattle.desk_games.specs.declared.desk.GameDesk.TheVariants.{NoGame}
use Rattle.desk_standings.proofs.EndedLemmas.{skips_none}
use Rattle.desk_standings.proofs.ended.ended_game.Goals as goal

pub returns-else-played-gt0 : goal.returns-else-played-gt0
returns-else-played-gt0 c =
    let played = c.args.played.now in
    let is = c.in-NoGame.is in
    let desk : played.desk ≡ NoGame = cc in
    let none : played.refused ≡ 0 = omega (arith, c.if-played-gt0.false) in
    skips_none c.args.given c.args.text.now played.rest.now played.desk played.lines played.refused c.requires desk none
