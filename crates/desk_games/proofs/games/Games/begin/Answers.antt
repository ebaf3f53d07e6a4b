use Rattle.std.proofs.Common.{◌++◌, Some, None, refl, sym, ap}
use Rattle.riichi_game_text.specs.GameLines.{said_by}
use Rattle.riichi_game_text.specs.declared.fault.GameFault.TheVariants.{G3}
use Rattle.desk_lines.specs.Telling.{with_line_feed}
use Rattle.desk_games.specs.Desks.{told_at_end}
use Rattle.desk_games.specs.Replies.{begin_reply, begun_in, refused_in}
use Rattle.desk_games.specs.Forms.{front_text}
use Rattle.desk_games.specs.declared.desk.GameDesk.TheVariants.{Game}
use Rattle.desk_games.proofs.ReplyLemmas.{put_behind_end}
use Rattle.desk_games.proofs.games.Games.begin.Goals as goal

pub returns-in-None-clause-reply : goal.returns-in-None-clause-reply
returns-in-None-clause-reply c =
    let desk = c.args.self.now.desk in
    let form = c.args.self.now.form in
    let read = c.in-None.ensures in (
      begin_reply form desk None,
      (read.0, read.1, ap (begin_reply form desk) (sym read.2)),
      record {
        kind_is = refl;
        put = put_behind_end c.args.outbox.now.bytes.items c.put_end.new.outbox.bytes.items c.put_refused.new.outbox.bytes.items (with_line_feed (told_at_end form desk)) (front_text form c.args.front ++ refused_in form G3)
            c.put_end.ensures.put c.put_refused.ensures;
        desk_is = refl;
      },
    )

pub returns-in-Some-clause-reply : goal.returns-in-Some-clause-reply
returns-in-Some-clause-reply c =
    let desk = c.args.self.now.desk in
    let form = c.args.self.now.form in
    let line = c.in-Some.line in
    let read = c.in-Some.ensures in (
      begin_reply form desk (Some (said_by line)),
      (read.0, read.1, ap (begin_reply form desk) (sym read.2)),
      record {
        kind_is = refl;
        put = put_behind_end c.args.outbox.now.bytes.items c.put_end.new.outbox.bytes.items c.put_begun.new.outbox.bytes.items (with_line_feed (told_at_end form desk)) (front_text form c.args.front ++ begun_in form (said_by line))
            c.put_end.ensures.put c.put_begun.ensures;
        desk_is = ap Game c.new.ensures;
      },
    )
