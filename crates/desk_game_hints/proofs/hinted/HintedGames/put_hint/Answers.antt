use Rattle.desk_game_hints.specs.Hinted.{IsFaultBehind, IsHintBehind}
use Rattle.desk_game_hints.proofs.PutLemmas.{none_put, put_so}
use Rattle.desk_game_hints.proofs.hinted.HintedGames.put_hint.Goals as goal

pub returns-in-Refused : goal.returns-in-Refused
returns-in-Refused c =
    let games = c.args.self.now.games in
    put_so (IsFaultBehind games.given c.args.was_held games.desk c.args.line.now) (IsHintBehind games.given c.args.was_held games.desk c.args.kind c.args.line.now)
    c.args.outbox.now.bytes.items c.put_fault.new.outbox.bytes.items (λ text is. (c.in-Refused.is, is)) c.put_fault.ensures

pub returns-in-Answered : goal.returns-in-Answered
returns-in-Answered c =
    let games = c.args.self.now.games in
    none_put (IsHintBehind games.given c.args.was_held games.desk c.args.kind c.args.line.now) c.args.outbox.now.bytes.items

pub returns-in-NoRecord : goal.returns-in-NoRecord
returns-in-NoRecord c =
    let games = c.args.self.now.games in
    none_put (IsHintBehind games.given c.args.was_held games.desk c.args.kind c.args.line.now) c.args.outbox.now.bytes.items
