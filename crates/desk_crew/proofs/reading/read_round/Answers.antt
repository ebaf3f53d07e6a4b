use Rattle.std.proofs.Common.{[], refl, sym, arith}
use Rattle.std.proofs.KnownBytes.{Consumes-nil}
use Rattle.std.proofs.lemmas.List.{append-nil}
use Rattle.desk_crew.proofs.reading.read_round.Goals as goal

pub loop-left-init : goal.loop-left-init
loop-left-init g c =
    let source = g.R.Source in (
      [],
      record {
        gives = record { appended = sym (append-nil (source.given c.args.reader.now)); taken = Consumes-nil (source.left c.args.reader.now) };
        text = sym (append-nil c.args.text.now.items);
        goes_on = (refl, refl);
        calls = refl;
        fewer = omega arith;
      },
    )
