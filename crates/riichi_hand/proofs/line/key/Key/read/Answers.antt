use Rattle.std.proofs.Common.{rules, arith, refl}
use Rattle.std.specs.Prelude.{codes}
use Rattle.std.proofs.lemmas.Slice.Eq.{text_from_reads}
use Rattle.riichi_hand.proofs.line.key.Key.read.Goals as goal

pub returns-in-on : goal.returns-in-on
returns-in-on c = rw (text_from_reads c.args.name.now (codes "on") (omega arith) (search rules)) refl

pub returns-in-by : goal.returns-in-by
returns-in-by c = rw (text_from_reads c.args.name.now (codes "by") (omega arith) (search rules)) refl

pub returns-in-seat : goal.returns-in-seat
returns-in-seat c = rw (text_from_reads c.args.name.now (codes "seat") (omega arith) (search rules)) refl

pub returns-in-round : goal.returns-in-round
returns-in-round c = rw (text_from_reads c.args.name.now (codes "round") (omega arith) (search rules)) refl

pub returns-in-open : goal.returns-in-open
returns-in-open c = rw (text_from_reads c.args.name.now (codes "open") (omega arith) (search rules)) refl

pub returns-in-riichi : goal.returns-in-riichi
returns-in-riichi c = rw (text_from_reads c.args.name.now (codes "riichi") (omega arith) (search rules)) refl

pub returns-in-flags : goal.returns-in-flags
returns-in-flags c = rw (text_from_reads c.args.name.now (codes "flags") (omega arith) (search rules)) refl

pub returns-in-dora : goal.returns-in-dora
returns-in-dora c = rw (text_from_reads c.args.name.now (codes "dora") (omega arith) (search rules)) refl

pub returns-in-ura : goal.returns-in-ura
returns-in-ura c = rw (text_from_reads c.args.name.now (codes "ura") (omega arith) (search rules)) refl

pub returns-in-counters : goal.returns-in-counters
returns-in-counters c = rw (text_from_reads c.args.name.now (codes "counters") (omega arith) (search rules)) refl

pub returns-in-sticks : goal.returns-in-sticks
returns-in-sticks c = rw (text_from_reads c.args.name.now (codes "sticks") (omega arith) (search rules)) refl

pub returns-in-seen : goal.returns-in-seen
returns-in-seen c = rw (text_from_reads c.args.name.now (codes "seen") (omega arith) (search rules)) refl
