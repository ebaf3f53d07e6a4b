use Rattle.std.proofs.Common.{codes, ◌++◌, refl}
use Rattle.riichi_text.proofs.Pieces.{pushed-two}
use Rattle.riichi_game_hints.proofs.begin.push_begin_hint.Goals as goal

pub returns-clause-hint : goal.returns-clause-hint
returns-clause-hint c =
    let old = c.args.text.now.bytes in let reason = c.push_reason.ensures.reason in let made = c.push_made.ensures.made in (
      codes "  " ++ (reason.0 ++ made.0),
      record { reason = reason.0; is_reason = reason.1; made = made.0; is_made = made.1; text_is = refl },
      pushed-two old (codes "  ") (reason.0 ++ made.0) c.push_str.ensures.bytes (pushed-two c.push_str.new.self.bytes reason.0 made.0 reason.2 made.2),
    )
