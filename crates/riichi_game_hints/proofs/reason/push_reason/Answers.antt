use Rattle.std.proofs.Common.{refl}
use Rattle.riichi_game_text.specs.Names.{names_in}
use Rattle.riichi_game_hints.specs.Reasons.{line_fault_words}
use Rattle.riichi_game_hints.proofs.reason.push_reason.Goals as goal

pub returns-clause-words : goal.returns-clause-words
returns-clause-words c =
    let reason = c.reason_of-reason.result in (
      line_fault_words (names_in c.args.names.now) c.args.about.now.fault reason,
      (reason, c.reason_of-reason.ensures.holds, refl),
      c.push_words.ensures.bytes,
    )
