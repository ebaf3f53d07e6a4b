-- The answers to a stream once one more line of it is answered.
use Rattle.std.proofs.Common.{◌≡◌, ℕ, ◌+◌, List, [], ◌∷◌, ◌++◌, refl, sym, subst, ◌∙◌, ap, append_assoc, length-append, arith}
use Rattle.std.proofs.lemmas.List.{append-nil}
use Rattle.desk_io.specs.declared.sink.Sink.{Ghosts as OfSink}
use Rattle.desk_lines.specs.declared.told.Told.{Told}
use Rattle.desk_lines.specs.declared.teller.Teller.{Ghosts as OfTeller}
use Rattle.desk_lines.specs.declared.fault.DeskFault.{DeskFault}
use Rattle.desk_lines.specs.declared.fault.DeskFault.TheVariants.{Write, Memory}
use Rattle.desk_lines.specs.declared.line_kind.LineKind.{LineKind}
use Rattle.desk_lines.specs.declared.report.DeskReport.{DeskReport}
use Rattle.desk_lines.specs.Told.{Stands, Stops, WantsNext, StopsTelling, lines_of}
use Rattle.desk_lines.specs.Streams.{WritesAll, StopsWriting}
use Rattle.desk_lines.specs.Telling.{text_by, line_by, report_of, report_with, answers_in, count_of, AnswersLine, IsToldAs}
use Rattle.desk_lines.proofs.TellingLemmas.{text_by-more}
use Rattle.desk_lines.proofs.StreamLemmas.{WritesAll_nil, WritesAll-trans, StopsWriting-after}

module _ {W A : Type 0} (sink : OfSink W) (teller : OfTeller A) (start : W) (first : A) where
  -- before the first line
  pub Stands-new : (new : Told) → teller.tells first first [] [] (report_of []) → new.report ≡ report_of [] → new.unanswered ≡ 0 → new.outbox.bytes.items ≡ [] → Stands sink teller start first [] first new start
  Stands-new new tells report unread none = record {
    answers = [];
    tells = subst (λ (r : DeskReport). teller.tells first first [] [] r) (sym report) tells;
    count = omega (arith, ap count_of report, unread);
    sent = [];
    writes = WritesAll_nil sink start;
    text = none;
  }

  -- a line was answered
  pub Stands_line : (lines : List (List ℕ)) (old new : A) (before after : Told) (writer : W) (line next : List ℕ) (kind : LineKind) → IsToldAs teller.most line next → Stands sink teller start first lines old before writer
      → AnswersLine teller.written teller.most teller.tells old new (lines_of before + 1) line kind before.outbox.bytes.items after.outbox.bytes.items → after.report ≡ report_with before.report kind → lines_of after ≡ lines_of before + 1
      → Stands sink teller start first (lines ++ next ∷ []) new after writer
  Stands_line lines old new before after writer line next kind as_this stands answered counted more = record {
    answers = stands.answers ++ answers_in answered.answer;
    tells = subst (λ (r : DeskReport). teller.tells first new (lines ++ next ∷ []) (stands.answers ++ answers_in answered.answer) r) (sym counted)
        (answered.tells_more first lines stands.answers before.report next (ap (λ n. n + 1) stands.count) as_this stands.tells);
    count = omega (arith, more, stands.count, length-append lines (next ∷ []));
    sent = stands.sent;
    writes = stands.writes;
    text = ap (λ all. stands.sent ++ all) answered.put ∙ sym (append_assoc stands.sent before.outbox.bytes.items (line_by teller.written answered.answer))
        ∙ ap (λ all. all ++ line_by teller.written answered.answer) stands.text ∙ sym (text_by-more teller.written stands.answers answered.answer);
  }

  -- all that stood in the outbox was written
  pub Stands_flushed : (lines : List (List ℕ)) (now : A) (before after : Told) (writer written : W) → Stands sink teller start first lines now before writer
      → WritesAll sink writer written before.outbox.bytes.items → (after.report ≡ before.report) × (after.unanswered ≡ before.unanswered) → after.outbox.bytes.items ≡ [] → Stands sink teller start first lines now after written
  Stands_flushed lines now before after writer written stands writes same empty = record {
    answers = stands.answers;
    tells = subst (λ (r : DeskReport). teller.tells first now lines stands.answers r) (sym same.0) stands.tells;
    count = omega (arith, ap count_of same.0, same.1, stands.count);
    sent = stands.sent ++ before.outbox.bytes.items;
    writes = WritesAll-trans sink start writer written stands.sent before.outbox.bytes.items stands.writes writes;
    text = ap (λ rest. (stands.sent ++ before.outbox.bytes.items) ++ rest) empty ∙ append-nil (stands.sent ++ before.outbox.bytes.items) ∙ stands.text;
  }

  -- all was written
  pub Stands-written : (lines : List (List ℕ)) (now : A) (answered : Told) (writer : W) (stands : Stands sink teller start first lines now answered writer) → answered.outbox.bytes.items ≡ []
      → WritesAll sink start writer (text_by teller.written stands.answers)
  Stands-written lines now answered writer stands empty =
      subst (λ (all : List ℕ). WritesAll sink start writer all) (sym (ap (λ rest. stands.sent ++ rest) empty ∙ append-nil stands.sent) ∙ stands.text) stands.writes

  -- these lines were answered and others were not, and the writing of the last answers stopped
  given_up : (after : W) (lines others : List (List ℕ)) (now : A) (answered : Told) (writer : W) (fault : DeskFault) (stands : Stands sink teller start first lines now answered writer) → Stops sink start after fault (text_by teller.written stands.answers)
      → (fault ≡ Memory → WantsNext teller now others) → StopsTelling sink teller start after first fault (lines ++ others)
  given_up after lines others now answered writer fault stands stops wanted = record {
    first = lines;
    others = others;
    parts = refl;
    last = now;
    answers = stands.answers;
    report = answered.report;
    tells = stands.tells;
    stops = stops;
    wanted = wanted;
  }

  -- the outbox could not be written
  pub Stands_stops : (lines others : List (List ℕ)) (now : A) (old : Told) (writer after : W) → Stands sink teller start first lines now old writer
      → StopsWriting sink writer after old.outbox.bytes.items → StopsTelling sink teller start after first Write (lines ++ others)
  Stands_stops lines others now old writer after stands stops =
      given_up after lines others now old writer Write stands (subst (λ (all : List ℕ). StopsWriting sink start after all) stands.text
      (StopsWriting-after sink start writer after stands.sent old.outbox.bytes.items stands.writes stops)) (λ is. cc)

  -- memory was wanted, and the outbox was written
  pub Stands_no_memory : (lines : List (List ℕ)) (now : A) (old : Told) (writer after : W) (line next : List ℕ) → IsToldAs teller.most line next → Stands sink teller start first lines now old writer
      → WritesAll sink writer after old.outbox.bytes.items → teller.wants_memory now line → StopsTelling sink teller start after first Memory (lines ++ next ∷ [])
  Stands_no_memory lines now old writer after line next as_this stands writes wants =
      given_up after lines (next ∷ []) now old writer Memory stands (subst (λ (all : List ℕ). WritesAll sink start after all) stands.text
      (WritesAll-trans sink start writer after stands.sent old.outbox.bytes.items stands.writes writes)) (λ is. (line, next, [], refl, as_this, wants))

  -- more lines follow those that were given up
  pub StopsTelling_more : (after : W) (fault : DeskFault) (lines more : List (List ℕ)) → StopsTelling sink teller start after first fault lines → StopsTelling sink teller start after first fault (lines ++ more)
  StopsTelling_more after fault lines more stops = record {
    first = stops.first;
    others = stops.others ++ more;
    parts = ap (λ all. all ++ more) stops.parts ∙ append_assoc stops.first stops.others more;
    last = stops.last;
    answers = stops.answers;
    report = stops.report;
    tells = stops.tells;
    stops = stops.stops;
    wanted = λ is.
        let next = stops.wanted is in
        (next.0, next.1, next.2 ++ more, ap (λ all. all ++ more) next.3, next.4, next.5);
  }

pub ruleset add_facts = (Stands_line, Stands_flushed, Stands_stops, Stands_no_memory)
