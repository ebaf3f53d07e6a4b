use Rattle.std.proofs.Common.{refl, sym, ◌∙◌}
use Rattle.std.proofs.lemmas.List.{append-nil}
use Rattle.desk_games.specs.Replies.{blank_reply}
use Rattle.desk_games.proofs.ReplyLemmas.{no_reply}
use Rattle.desk_games.proofs.games.Games.take.Goals as goal

pub returns-in-None-clause-reply : goal.returns-in-None-clause-reply
returns-in-None-clause-reply c =
    let now = c.args.self.now in (
      blank_reply now.form now.desk,
      no_reply now.form now.given now.desk c.args.line.now (sym c.is_odd.ensures ∙ c.if-is_odd.false) c.in-None.ensures,
      record { kind_is = refl; put = sym (append-nil c.args.outbox.now.bytes.items); desk_is = refl },
    )
