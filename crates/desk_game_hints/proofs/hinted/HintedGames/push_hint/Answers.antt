use Rattle.std.proofs.Common.{sym, ◌∙◌}
use Rattle.riichi_game_text.specs.Names.{names_in}
use Rattle.desk_game_hints.proofs.PutLemmas.{game_hint, no_game_hint, refused_hint}
use Rattle.desk_game_hints.proofs.hinted.HintedGames.push_hint.Goals as goal

pub returns-in-Game : goal.returns-in-Game
returns-in-Game c =
    let games = c.args.self.now.games in
    game_hint games.given games.desk c.in-Game.game (names_in c.names.result) c.progress.result c.rules.result c.args.line.now c.args.fault c.args.text.now.bytes c.push_game_hint.new.text.bytes
    (sym c.desk.ensures ∙ c.in-Game.is) c.names.ensures c.progress.ensures c.rules.ensures c.push_game_hint.ensures.hint

pub returns-in-NoGame : goal.returns-in-NoGame
returns-in-NoGame c =
    let games = c.args.self.now.games in
    no_game_hint games.given c.given.result games.desk c.args.line.now c.args.fault c.args.text.now.bytes c.push_begin_hint.new.text.bytes (sym c.desk.ensures ∙ c.in-NoGame.is) c.given.ensures
    c.push_begin_hint.ensures.hint

pub returns-in-Refused : goal.returns-in-Refused
returns-in-Refused c =
    let games = c.args.self.now.games in
    refused_hint games.given c.given-in-Refused.result games.desk c.args.line.now c.args.fault c.args.text.now.bytes c.push_begin_hint-in-Refused.new.text.bytes (sym c.desk.ensures ∙ c.in-Refused.is) c.given-in-Refused.ensures
    c.push_begin_hint-in-Refused.ensures.hint
