use Rattle.std.proofs.Common.{◌++◌, [], List, ℕ, refl, sym, subst, inl}
use Rattle.std.proofs.KnownBytes.{Consumes-nil}
use Rattle.std.proofs.lemmas.List.{append-nil}
use Rattle.std.proofs.lemmas.Result.{MatchResult-weaker}
use Rattle.desk_script.proofs.Only.{only_replay}
use Rattle.desk_lines.specs.Lines.{lines}
use Rattle.desk_lines.specs.Streams.{StopsWriting}
use Rattle.desk_lines.specs.Telling.{text_of}
use Rattle.desk_lines.proofs.StreamLemmas.{WritesAll_nil, StopsWriting_more}
use Rattle.desk_lines.proofs.TellingLemmas.{text_of_append}
use Rattle.desk_lines.proofs.ScriptLemmas.{replays, replays_whole, replays_none, runs_out}
use Rattle.desk_lines.proofs.replay.replay_text.Goals as goal

pub returns-in-Err-clause-no_memory : goal.returns-in-Err-clause-no_memory
returns-in-Err-clause-no_memory g c is = (
  [],
  [],
  [],
  [],
  record { appended = sym (append-nil (g.R.Source.given c.args.reader.now)); taken = Consumes-nil (g.R.Source.left c.args.reader.now) },
  inl refl,
  replays_none,
  inl refl,
  WritesAll_nil g.W.Sink c.args.writer.now,
)

pub returns-clause-ok : goal.returns-clause-ok
returns-clause-ok g c = MatchResult-weaker c.answer_lines.result c.answer_lines.ensures.ok (λ report ok.
    let replayed = replays _ (lines ok.0) ok.1 report ok.3 in
    (ok.0, ok.1, ok.2, replayed, only_replay (lines ok.0) ok.1 replayed, ok.4, ok.3.3))
    (λ fault told. told)

pub returns-clause-write_failed : goal.returns-clause-write_failed
returns-clause-write_failed g c is =
    let stopped = c.answer_lines.ensures.write_failed is in
    let stops = stopped.4 in
    let all = replays_whole stops.last stopped.1 stops.first stops.others stops.answers stops.report stops.parts stops.tells in (
      stopped.0,
      stopped.1,
      stops.answers ++ all.0,
      stopped.2,
      stopped.3,
      all.1,
      subst (λ (written : List ℕ). StopsWriting g.W.Sink c.args.writer.now c.answer_lines.new.writer written) (sym (text_of_append stops.answers all.0))
          (StopsWriting_more g.W.Sink c.args.writer.now c.answer_lines.new.writer (text_of stops.answers) (text_of all.0) stops.stops),
    )

pub returns-clause-no_memory : goal.returns-clause-no_memory
returns-clause-no_memory g c is =
    let stopped = c.answer_lines.ensures.no_memory is in
    let stops = stopped.4 in
    let all = replays_whole stops.last stopped.1 stops.first stops.others stops.answers stops.report stops.parts stops.tells in
    let out = runs_out stops.last stopped.1 stops.first stops.others stops.answers stops.report stops.parts stops.tells (stops.wanted refl) in
    (stopped.0, stopped.1, stops.answers, all.0, stopped.2, stopped.3, all.1, out, stops.stops)
