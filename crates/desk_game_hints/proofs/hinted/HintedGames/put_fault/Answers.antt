use Rattle.std.proofs.Common.{ap, subst, ◌∙◌}
use Rattle.riichi_game_text.specs.declared.fault.GameFault.{GameFault}
use Rattle.desk_games.specs.Replies.{seen_in}
use Rattle.desk_games.specs.declared.desk.GameDesk.{GameDesk}
use Rattle.desk_game_hints.specs.Hinted.{fault_seen, IsHintFor, IsFaultBehind}
use Rattle.desk_game_hints.proofs.PutLemmas.{one_put}
use Rattle.desk_game_hints.proofs.hinted.HintedGames.put_fault.Goals as goal

pub returns-then-has_room : goal.returns-then-has_room
returns-then-has_room c =
    let games = c.args.self.now.games in let line = c.args.line.now in let told = c.push_hint.ensures in
    one_put (IsFaultBehind games.given c.args.was_held games.desk line) c.args.outbox.now.bytes.items c.put_text.new.self.bytes.items c.clear.new.self.bytes c.push_hint.new.text.bytes told.0
    c.clear.ensures told.2 c.put_text.ensures.told
    (subst (λ (fault : GameFault). IsHintFor games.given games.desk line fault told.0)
    (c.refused_fault-fault.ensures ∙ ap (λ (desk : GameDesk). fault_seen c.args.was_held desk (seen_in line) line) c.desk.ensures) told.1)
