use Rattle.std.proofs.Common.{rules, arith, refl}
use Rattle.std.specs.Prelude.{codes}
use Rattle.std.proofs.lemmas.Slice.Eq.{text_from_reads}
use Rattle.riichi_game_text.proofs.setting.Setting.read.Goals as goal

pub returns-in-table : goal.returns-in-table
returns-in-table c = rw (text_from_reads c.args.word.now (codes "table") (omega arith) (search rules)) refl

pub returns-in-rules : goal.returns-in-rules
returns-in-rules c = rw (text_from_reads c.args.word.now (codes "rules") (omega arith) (search rules)) refl

pub returns-in-start : goal.returns-in-start
returns-in-start c = rw (text_from_reads c.args.word.now (codes "start") (omega arith) (search rules)) refl

pub returns-in-return : goal.returns-in-return
returns-in-return c = rw (text_from_reads c.args.word.now (codes "return") (omega arith) (search rules)) refl

pub returns-in-uma : goal.returns-in-uma
returns-in-uma c = rw (text_from_reads c.args.word.now (codes "uma") (omega arith) (search rules)) refl

pub returns-in-ties : goal.returns-in-ties
returns-in-ties c = rw (text_from_reads c.args.word.now (codes "ties") (omega arith) (search rules)) refl

pub returns-in-ron : goal.returns-in-ron
returns-in-ron c = rw (text_from_reads c.args.word.now (codes "ron") (omega arith) (search rules)) refl

pub returns-in-counters : goal.returns-in-counters
returns-in-counters c = rw (text_from_reads c.args.word.now (codes "counters") (omega arith) (search rules)) refl

pub returns-in-sticks : goal.returns-in-sticks
returns-in-sticks c = rw (text_from_reads c.args.word.now (codes "sticks") (omega arith) (search rules)) refl

pub returns-in-liable : goal.returns-in-liable
returns-in-liable c = rw (text_from_reads c.args.word.now (codes "liable") (omega arith) (search rules)) refl

pub returns-in-nagashi : goal.returns-in-nagashi
returns-in-nagashi c = rw (text_from_reads c.args.word.now (codes "nagashi") (omega arith) (search rules)) refl

pub returns-in-renchan : goal.returns-in-renchan
returns-in-renchan c = rw (text_from_reads c.args.word.now (codes "renchan") (omega arith) (search rules)) refl

pub returns-in-length : goal.returns-in-length
returns-in-length c = rw (text_from_reads c.args.word.now (codes "length") (omega arith) (search rules)) refl

pub returns-in-extra : goal.returns-in-extra
returns-in-extra c = rw (text_from_reads c.args.word.now (codes "extra") (omega arith) (search rules)) refl

pub returns-in-bust : goal.returns-in-bust
returns-in-bust c = rw (text_from_reads c.args.word.now (codes "bust") (omega arith) (search rules)) refl

pub returns-in-stop : goal.returns-in-stop
returns-in-stop c = rw (text_from_reads c.args.word.now (codes "stop") (omega arith) (search rules)) refl

pub returns-in-left : goal.returns-in-left
returns-in-left c = rw (text_from_reads c.args.word.now (codes "left") (omega arith) (search rules)) refl

pub returns-in-chombo : goal.returns-in-chombo
returns-in-chombo c = rw (text_from_reads c.args.word.now (codes "chombo") (omega arith) (search rules)) refl

pub returns-in-session : goal.returns-in-session
returns-in-session c = rw (text_from_reads c.args.word.now (codes "session") (omega arith) (search rules)) refl

pub returns-in-at : goal.returns-in-at
returns-in-at c = rw (text_from_reads c.args.word.now (codes "at") (omega arith) (search rules)) refl
