-- A stream once one more round is read and answered.
use Rattle.std.proofs.Common.{◌≡◌, ℕ, ◌+◌, inl, inr, List, [], ◌++◌, None, Some, Result, Ok, Err, append_assoc, refl, sym, subst, ◌∙◌, ap, arith}
use Rattle.std.proofs.KnownBytes.{Consumes-nil}
use Rattle.std.proofs.lemmas.List.{append-nil}
use Rattle.riichi_hand.specs.Rules.{Rules}
use Rattle.desk_lines.specs.declared.fault.DeskFault.{DeskFault}
use Rattle.desk_lines.specs.declared.fault.DeskFault.TheVariants.{Read, Write, Memory}
use Rattle.desk_lines.specs.Lines.{cut_of, ended_lines, lines, last_line}
use Rattle.desk_lines.specs.Reading.{AreToldAs, kept, with_end}
use Rattle.desk_lines.specs.Records.{AnswerKind}
use Rattle.desk_lines.specs.Slips.{empty_tally}
use Rattle.desk_lines.specs.Streams.{Gives, FailsOrGoesOn, WritesAll}
use Rattle.desk_lines.specs.Told.{Stops}
use Rattle.desk_lines.proofs.CutLemmas.{ended_lines-more, last_told}
use Rattle.desk_lines.proofs.ReadingLemmas.{told_more, keeps_more}
use Rattle.desk_lines.proofs.StreamLemmas.{Gives-more}
use Rattle.desk_io.specs.declared.sink.Sink.{Ghosts as OfSink}
use Rattle.desk_io.specs.declared.source.Source.{Ghosts as OfSource}
use Rattle.desk_crew.specs.declared.standing.Standing.{Standing}
use Rattle.desk_crew.specs.declared.reading.Stop.{Stop}
use Rattle.desk_crew.specs.declared.reading.Stop.TheVariants.{Full, End, Failed}
use Rattle.desk_crew.specs.Crew.{Stands, Waits, Stopped, IsAhead, IsBetween, IsGivenUp, IsUnread, IsLeft}
use Rattle.desk_crew.specs.Reading.{GoesOn, FindsEnd, AreMoved, IsStoppedBy, IsStuck, stop_outcome}
use Rattle.desk_crew.proofs.CrewLemmas.{Waits-none, Stands-now, Stopped-now, Stopped-memory}

-- nothing was read
pub Gives-none : {R : Type 0} (source : OfSource R) (reader : R) → Gives source reader reader []
Gives-none source reader = record { appended = sym (append-nil (source.given reader)); taken = Consumes-nil (source.left reader) }

-- the lines that end once more was read
abbrev pub later_lines : List ℕ → List ℕ → List (List ℕ)
later_lines text bytes = ended_lines ((cut_of text).rest ++ bytes)

-- the line that is held, once it is ended, stands for the last line
pub last_so : (text held hand : List ℕ) → held ≡ kept 8194 text → hand ≡ with_end held → AreToldAs 4096 (ended_lines hand) (last_line (cut_of text).rest)
last_so text held hand is_held is = subst (λ (all : List ℕ). AreToldAs 4096 (ended_lines all) (last_line (cut_of text).rest)) (sym (is ∙ ap with_end is_held)) (last_told 4096 8194 (omega arith) text)

module _ {R W : Type 0} (May : AnswerKind) (source : OfSource R) (sink : OfSink W) (from : R) (start : W) (given : Rules) where
  -- before the first read
  pub Ahead-new : (hand waiting : List ℕ) (now : Standing) → hand ≡ [] → waiting ≡ [] → now.profile ≡ None → now.tally ≡ empty_tally → IsAhead May source sink from start given [] hand now waiting from start
  Ahead-new hand waiting now empty none profile report = record { bytes = []; gives = Gives-none source from; hand_is = empty; waits = Waits-none May sink start given now waiting none profile report }

  -- what is at hand stands for the lines that end
  pub told_so : (text hand waiting : List ℕ) (now : Standing) (reader : R) (writer : W) (ahead : IsAhead May source sink from start given text hand now waiting reader writer) → AreToldAs 4096 (ended_lines hand) (later_lines text ahead.bytes)
  told_so text hand waiting now reader writer ahead = told_more 4096 (omega arith) text (kept 8194 text) ahead.bytes hand refl ahead.hand_is

  -- the answers to what was read stopped
  pub given_up : (text bytes : List ℕ) (reader : R) (after : W) (fault : DeskFault) → Gives source from reader (text ++ bytes) → Stopped May sink start after given (ended_lines text ++ later_lines text bytes) fault
      → IsGivenUp May source sink from reader start after given fault
  given_up text bytes reader after fault gives stopped = record {
    text = text ++ bytes;
    whole = ended_lines (text ++ bytes);
    gives = gives;
    are_whole = inl refl;
    stopped = subst (λ (ls : List (List ℕ)). Stopped May sink start after given ls fault) (sym (ended_lines-more text bytes)) stopped;
  }

  -- more was read, and what there is of the answers stopped
  pub given_up_on : (text bytes more : List ℕ) (old new : R) (after : W) (fault : DeskFault) → Gives source from old (text ++ bytes) → Gives source old new more
      → ((others : List (List ℕ)) → Stopped May sink start after given (ended_lines text ++ others) fault) → IsGivenUp May source sink from new start after given fault
  given_up_on text bytes more old new after fault first then stopped =
      let all = Gives-more source from old new (text ++ bytes) more first then.appended then.taken in
      given_up text (bytes ++ more) new after fault (subst (λ (t : List ℕ). Gives source from new t) (append_assoc text bytes more) all) (stopped (later_lines text (bytes ++ more)))

  -- what waits was written as far as that was possible
  pub stuck : (text hand waiting written : List ℕ) (now : Standing) (old new : R) (before after : W) (fault : DeskFault) → IsAhead May source sink from start given text hand now waiting old before
      → written ≡ waiting → IsStuck source sink old new before after written fault → IsGivenUp May source sink from new start after given fault
  stuck text hand waiting written now old new before after fault ahead same is =
      given_up_on text ahead.bytes is.bytes old new after fault ahead.gives is.gives
      (λ others. Stopped-now May sink start given (ended_lines text) others now before after waiting fault ahead.waits (subst (λ (t : List ℕ). Stops sink before after fault t) same is.stops))

  -- it was written
  moved : (text hand waiting written front came : List ℕ) (now : Standing) (old new : R) (before after : W) (left : ℕ) (stop : Stop) → IsAhead May source sink from start given text hand now waiting old before → written ≡ waiting
      → AreMoved source sink old new before after written front came left stop → Stands May sink start given (ended_lines text) now after
  moved text hand waiting written front came now old new before after left stop ahead same is =
      Stands-now May sink start given (ended_lines text) now before after waiting ahead.waits (subst (λ (t : List ℕ). WritesAll sink before after t) same is.writes)

  -- memory was wanted for the answers to what is at hand
  pub unanswered : (text hand waiting written front came : List ℕ) (now : Standing) (old new : R) (before after : W) (left : ℕ) (stop : Stop) (fault : DeskFault) → IsAhead May source sink from start given text hand now waiting old before → written ≡ waiting
      → AreMoved source sink old new before after written front came left stop → fault ≡ Memory → IsGivenUp May source sink from new start after given fault
  unanswered text hand waiting written front came now old new before after left stop fault ahead same is memory =
      let stands = moved text hand waiting written front came now old new before after left stop ahead same is in
      subst (λ (f : DeskFault). IsGivenUp May source sink from new start after given f) (sym memory)
      (given_up_on text ahead.bytes is.read_on.bytes old new after Memory ahead.gives is.read_on.gives (λ others. Stopped-memory May sink start given (ended_lines text) others now after stands))

  -- it was answered, and more was read behind the front of what comes after it
  pub Ahead-more : (text hand waiting shown written came later later_waiting : List ℕ) (now next : Standing) (old new : R) (before after : W) (left : ℕ) (stop : Stop) (ahead : IsAhead May source sink from start given text hand now waiting old before)
      → shown ≡ hand → written ≡ waiting → AreMoved source sink old new before after written (kept 8194 shown) came left stop → later ≡ came
      → (Stands May sink start given (ended_lines text) now after → Waits May sink start given (ended_lines text ++ later_lines text ahead.bytes) next after later_waiting)
      → IsAhead May source sink from start given (text ++ ahead.bytes) later next later_waiting new after
  Ahead-more text hand waiting shown written came later later_waiting now next old new before after left stop ahead same_hand same is same_text waits =
      let read = is.read_on in
      let stands = moved text hand waiting written (kept 8194 shown) came now old new before after left stop ahead same is in
      record {
        bytes = read.bytes;
        gives = Gives-more source from old new (text ++ ahead.bytes) read.bytes ahead.gives read.gives.appended read.gives.taken;
        hand_is = same_text ∙ read.text_is ∙ ap (λ (t : List ℕ). kept 8194 t ++ read.bytes) same_hand
            ∙ ap (λ (front : List ℕ). front ++ read.bytes) (sym (keeps_more 4096 (omega arith) text (kept 8194 text) ahead.bytes hand refl ahead.hand_is));
        waits = subst (λ (ls : List (List ℕ)). Waits May sink start given ls next after later_waiting) (sym (ended_lines-more text ahead.bytes)) (waits stands);
      }

  -- it was answered and the answers written, and the front of what comes after it is held
  pub Between-now : (text hand waiting held : List ℕ) (now next : Standing) (reader : R) (before after : W) (ahead : IsAhead May source sink from start given text hand now waiting reader before) → held ≡ kept 8194 hand
      → ((lines others : List (List ℕ)) → AreToldAs 4096 (ended_lines hand) others → Waits May sink start given lines now before waiting → Stands May sink start given (lines ++ others) next after)
      → IsBetween May source sink from start given (text ++ ahead.bytes) held next reader after
  Between-now text hand waiting held now next reader before after ahead keeps settles = record {
    gives = ahead.gives;
    is_held = keeps ∙ sym (keeps_more 4096 (omega arith) text (kept 8194 text) ahead.bytes hand refl ahead.hand_is);
    stands = subst (λ (ls : List (List ℕ)). Stands May sink start given ls next after) (sym (ended_lines-more text ahead.bytes))
        (settles (ended_lines text) (later_lines text ahead.bytes) (told_so text hand waiting now reader before ahead) ahead.waits);
  }

  -- the answers to it stopped
  pub unsettled : (text hand waiting : List ℕ) (now : Standing) (reader : R) (before after : W) (fault : DeskFault) → IsAhead May source sink from start given text hand now waiting reader before
      → ((lines others : List (List ℕ)) → AreToldAs 4096 (ended_lines hand) others → Waits May sink start given lines now before waiting → Stopped May sink start after given (lines ++ others) fault)
      → IsGivenUp May source sink from reader start after given fault
  unsettled text hand waiting now reader before after fault ahead stops =
      given_up text ahead.bytes reader after fault ahead.gives (stops (ended_lines text) (later_lines text ahead.bytes) (told_so text hand waiting now reader before ahead) ahead.waits)

  -- a stream that is given up was not left by a failed read
  pub left_by : (reader : R) (writer : W) (fault : DeskFault) → IsGivenUp May source sink from reader start writer given fault → IsLeft May source sink from reader start writer given fault
  left_by reader writer Read up = absurd up.stopped.stops
  left_by reader writer Write up = up
  left_by reader writer Memory up = up

  -- a read failed, or there were too many
  pub unread : (text held : List ℕ) (now : Standing) (reader : R) (writer : W) → IsBetween May source sink from start given text held now reader writer → FailsOrGoesOn source from reader → IsUnread May source sink from reader start writer given
  unread text held now reader writer between failed =
      let answered = between.stands in
      record { failed = failed; text = text; told = answered.told; gives = between.gives; are_told = answered.are_told; writes = answered.writes }

  -- the answer to the last line stopped
  pub last_stopped : (text held : List ℕ) (now : Standing) (reader : R) (before after : W) (fault : DeskFault) → IsBetween May source sink from start given text held now reader before → FindsEnd source from reader
      → Stopped May sink start after given (lines text) fault → IsGivenUp May source sink from reader start after given fault
  last_stopped text held now reader before after fault between end stopped = record { text = text; whole = lines text; gives = between.gives; are_whole = inr (end.ended, refl); stopped = stopped }

-- ---- rounds one after another

module _ {R : Type 0} (source : OfSource R) where
  pub GoesOn-trans : (from old new : R) → GoesOn source from old → GoesOn source old new → GoesOn source from new
  GoesOn-trans from old new first then = (then.0 ∙ first.0, then.1 ∙ first.1)

  pub FindsEnd-after : (from old new : R) → GoesOn source from old → FindsEnd source old new → FindsEnd source from new
  FindsEnd-after from old new first end = record {
    not_failed = end.not_failed ∙ first.0;
    found = end.found ∙ ap (λ n. n + 1) first.1;
    ended = end.ended;
    none_left = end.none_left;
  }

  -- so many reads were left that none is now
  pub fails_after : (from old new : R) (left : ℕ) → GoesOn source from old → source.calls new + left ≡ source.calls from + 4294967295 → IsStoppedBy source old new left Failed → FailsOrGoesOn source from new
  fails_after from old new left first calls (inl once) = inl (record { failed = once.failed ∙ ap (λ n. n + 1) first.0; no_end = once.no_end ∙ first.1 })
  fails_after from old new left first calls (inr none) = inr (record { calls = omega (arith, none.0, calls); no_end = none.1.1 ∙ first.1; not_failed = none.1.0 ∙ first.0 })

-- ---- what the reading comes to

-- it goes on only where a round was full
pub goes_on : (stop : Stop) → stop_outcome stop ≡ None → stop ≡ Full
goes_on Full is = refl
goes_on End is = let no = is in cc
goes_on Failed is = let no = is in cc

-- else it has found the end, or failed
pub ends_so : (P : Result (Unit {0}) DeskFault → Type 0) (stop : Stop) (end : Result (Unit {0}) DeskFault) → stop_outcome stop ≡ Some end → (stop ≡ End → P (Ok tt)) → (stop ≡ Failed → P (Err Read)) → P end
ends_so P Full end is ended failed = let no = is in absurd cc
ends_so P End end is ended failed = let same : Ok tt ≡ end = (let it = is in cc) in subst P same (ended refl)
ends_so P Failed end is ended failed = let same : Err Read ≡ end = (let it = is in cc) in subst P same (failed refl)
