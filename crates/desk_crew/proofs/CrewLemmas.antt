-- The lines of a stream once those of one more round are answered.
use Rattle.std.proofs.Common.{◌≡◌, ℕ, suc, ◌+◌, ◌<◌, length, length-append, arith, inl, inr, List, [], ◌∷◌, ◌++◌, map, true, false, cond, Option, Some, None, refl, sym, subst, ◌∙◌, ap}
use Rattle.std.proofs.lemmas.List.{append-nil, with_items_is}
use Rattle.std.specs.Global.{Vec}
use Rattle.std.specs.Vec.{with_items}
use Rattle.std.specs.List.{position_from}
use Rattle.std.specs.Prelude.{is_some, unwrap_or, option_map, IfSome}
use Rattle.riichi_hand.specs.Rules.{Rules}
use Rattle.desk_lines.specs.declared.fault.DeskFault.{DeskFault}
use Rattle.desk_lines.specs.declared.fault.DeskFault.TheVariants.{Read, Write, Memory}
use Rattle.desk_lines.specs.declared.report.TextReport.{TextReport}
use Rattle.desk_lines.specs.declared.tally.Tally.{Tally}
use Rattle.desk_lines.specs.LineAnswer.{line_kind, outcome_kind}
use Rattle.desk_lines.specs.LineAnswers.{report_on}
use Rattle.desk_lines.specs.LongLines.{AreAlike, long_outcome, long_profile}
use Rattle.desk_lines.specs.Profile.{profile_of, first_number, rules_of, record_lines}
use Rattle.desk_lines.specs.Reading.{AreToldAs}
use Rattle.desk_lines.specs.Records.{AnswerKind, AreTold, AnswerRecords, rules_after, next_profile, records_in, sets_profile}
use Rattle.desk_lines.specs.Slips.{both_tallies, empty_tally, first_slip, is_like_profile, slip_in, tally_of, told_slip}
use Rattle.desk_lines.specs.Streams.{WritesAll, StopsWriting}
use Rattle.desk_lines.specs.Told.{Stops}
use Rattle.desk_lines.specs.Telling.{text_of, both_reports, report_of, IsToldAs}
use Rattle.desk_lines.proofs.AnswerLemmas.{same_as_told, record_lines-more}
use Rattle.desk_lines.proofs.NumberLemmas.{next_number}
use Rattle.desk_lines.proofs.SlipLemmas.{position-append, position-later, slip_as, text_report_is}
use Rattle.desk_lines.proofs.StreamLemmas.{WritesAll_nil, WritesAll-trans, StopsWriting-after}
use Rattle.desk_lines.proofs.TellingLemmas.{text_of_append}
use Rattle.desk_io.specs.declared.sink.Sink.{Ghosts as OfSink}
use Rattle.desk_crew.specs.Crew.{IsAnswered, Stands, Stopped, Waits}
use Rattle.desk_crew.specs.declared.standing.Standing.{Standing}
use Rattle.desk_crew.specs.Pieces.{AreGathered, begun_tally, stream_tally}
use Rattle.desk_crew.proofs.PieceLemmas.{AreTold-append, counted-append, none-both}

module _ (Answers : AnswerKind) (alike : AreAlike Answers) where
  -- lines that may have the answers of others
  AreTold-as : (rules : Rules) (lines others told : List (List ℕ)) → AreToldAs 4096 lines others → AreTold Answers rules lines told → AreTold Answers rules others told
  AreTold-as rules [] [] told as_these are = are
  AreTold-as rules [] (other ∷ others) told as_these are = absurd as_these
  AreTold-as rules (line ∷ lines) [] told as_these are = absurd as_these
  AreTold-as rules (line ∷ lines) (other ∷ others) told as_these are = (are.0, are.1, one as_these.0, are.3, AreTold-as rules lines others are.1 as_these.1 are.4)
    where
      one : IsToldAs 4096 line other → Answers rules other are.0
      one (inl same) = subst (λ (l : List ℕ). Answers rules l are.0) same are.2
      one (inr long) = alike rules line other are.0 long.0 long.1 are.2

  by_profile : (given : Rules) (line other : List ℕ) (lines others told : List (List ℕ)) (profile : Option Rules) → AreToldAs 4096 (line ∷ lines) (other ∷ others)
      → AreTold Answers (unwrap_or profile given) (cond (is_some profile) lines (line ∷ lines)) told → AreTold Answers (unwrap_or profile given) (cond (is_some profile) others (other ∷ others)) told
  by_profile given line other lines others told None as_these are = AreTold-as given (line ∷ lines) (other ∷ others) told as_these are
  by_profile given line other lines others told (Some rules) as_these are = AreTold-as rules lines others told as_these.1 are

  -- the same of the lines of a stream from its first
  pub records_as : (given : Rules) (lines others told : List (List ℕ)) → AreToldAs 4096 lines others → AnswerRecords Answers given lines told → AnswerRecords Answers given others told
  records_as given [] [] told as_these are = are
  records_as given [] (other ∷ others) told as_these are = absurd as_these
  records_as given (line ∷ lines) [] told as_these are = absurd as_these
  records_as given (line ∷ lines) (other ∷ others) told as_these are =
      let same : profile_of line ≡ profile_of other = same_as_told profile_of long_profile line other as_these.0 in
      by_profile given line other lines others told (profile_of other) as_these
      (subst (λ (p : Option Rules). AreTold Answers (unwrap_or p given) (cond (is_some p) lines (line ∷ lines)) told) same are)

  -- and those to the next ones are answered, under the profile that is known then
  pub all_answered : (given rules : Rules) (lines hand next told new : List (List ℕ)) → AnswerRecords Answers given lines told → AreToldAs 4096 hand next
      → IfSome (next_profile given (rules_after given lines) hand) (λ set. set ≡ rules) → AreTold Answers rules (records_in (rules_after given lines) hand) new → AnswerRecords Answers given (lines ++ next) (told ++ new)
  all_answered given rules [] hand next told new before as_these set are =
      subst (λ (t : List (List ℕ)). AnswerRecords Answers given next (t ++ new)) (sym before) (records_as given hand next new as_these (from_first hand set are))
    where
      from_first : (hand : List (List ℕ)) → IfSome (rules_after given hand) (λ set. set ≡ rules) → AreTold Answers rules (record_lines hand) new → AnswerRecords Answers given hand new
      from_first [] set' are' = are'
      from_first (line ∷ lines) set' are' = subst (λ (r : Rules). AreTold Answers r (record_lines (line ∷ lines)) new) (sym set') are'
  all_answered given rules (line ∷ lines) hand next told new before as_these set are =
      let all = rules_of given (line ∷ lines) in
      let later = AreTold-as all hand next new as_these (subst (λ (r : Rules). AreTold Answers r hand new) (sym set) are) in
      subst (λ (ls : List (List ℕ)). AreTold Answers all ls (told ++ new)) (sym (record_lines-more line lines next)) (AreTold-append Answers all (record_lines (line ∷ lines)) next told new before later)

-- the profile of the stream
pub profile_next : (given : Rules) (lines hand next : List (List ℕ)) → AreToldAs 4096 hand next → rules_after given (lines ++ next) ≡ next_profile given (rules_after given lines) hand
profile_next given [] [] [] as_these = refl
profile_next given [] [] (other ∷ next) as_these = absurd as_these
profile_next given [] (line ∷ hand) [] as_these = absurd as_these
profile_next given [] (line ∷ hand) (other ∷ next) as_these = ap (λ (p : Option Rules). Some (unwrap_or p given)) (sym (same_as_told profile_of long_profile line other as_these.0))
profile_next given (line ∷ lines) hand next as_these = refl

-- ---- how many

-- lines that may have the answers of others are counted as these
kinds_as : (rules : Rules) (lines others : List (List ℕ)) → AreToldAs 4096 lines others → map (line_kind rules) lines ≡ map (line_kind rules) others
kinds_as rules [] [] as_these = refl
kinds_as rules [] (other ∷ others) as_these = absurd as_these
kinds_as rules (line ∷ lines) [] as_these = absurd as_these
kinds_as rules (line ∷ lines) (other ∷ others) as_these =
    let first = same_as_told (line_kind rules) (λ l long. ap outcome_kind (long_outcome rules l long)) line other as_these.0 in
    λ i. first i ∷ kinds_as rules lines others as_these.1 i

kinds_on : (given : Rules) (line other : List ℕ) (lines others : List (List ℕ)) (profile : Option Rules) → AreToldAs 4096 (line ∷ lines) (other ∷ others)
    → map (line_kind (unwrap_or profile given)) (cond (is_some profile) lines (line ∷ lines)) ≡ map (line_kind (unwrap_or profile given)) (cond (is_some profile) others (other ∷ others))
kinds_on given line other lines others None as_these = kinds_as given (line ∷ lines) (other ∷ others) as_these
kinds_on given line other lines others (Some rules) as_these = kinds_as rules lines others as_these.1

counted_as : (given : Rules) (lines others : List (List ℕ)) → AreToldAs 4096 lines others → report_on given lines ≡ report_on given others
counted_as given [] [] as_these = refl
counted_as given [] (other ∷ others) as_these = absurd as_these
counted_as given (line ∷ lines) [] as_these = absurd as_these
counted_as given (line ∷ lines) (other ∷ others) as_these =
    let same : profile_of line ≡ profile_of other = same_as_told profile_of long_profile line other as_these.0 in
    ap (λ (p : Option Rules). report_of (map (line_kind (unwrap_or p given)) (cond (is_some p) lines (line ∷ lines)))) same ∙ ap report_of (kinds_on given line other lines others (profile_of other) as_these)

-- the next records are counted with those before
all_counted : (given rules : Rules) (lines hand next : List (List ℕ)) → AreToldAs 4096 hand next → IfSome (next_profile given (rules_after given lines) hand) (λ set. set ≡ rules)
    → report_on given (lines ++ next) ≡ both_reports (report_on given lines) (report_of (map (line_kind rules) (records_in (rules_after given lines) hand)))
all_counted given rules [] [] [] as_these set = refl
all_counted given rules [] [] (other ∷ next) as_these set = absurd as_these
all_counted given rules [] (line ∷ hand) next as_these set =
    let hand_all = line ∷ hand in
    sym (counted_as given hand_all next as_these) ∙ ap (λ (r : Rules). report_of (map (line_kind r) (record_lines hand_all))) set ∙ none-both (report_of (map (line_kind rules) (record_lines hand_all)))
all_counted given rules (line ∷ lines) hand next as_these set =
    let all = rules_of given (line ∷ lines) in
    ap (λ ls. report_of (map (line_kind all) ls)) (record_lines-more line lines next) ∙ counted-append all (record_lines (line ∷ lines)) next
    ∙ ap (both_reports (report_on given (line ∷ lines))) (ap report_of (sym (kinds_as all hand next as_these)) ∙ ap (λ (r : Rules). report_of (map (line_kind r) hand)) set)

-- as many lines
as_many : (lines others : List (List ℕ)) → AreToldAs 4096 lines others → length others ≡ length lines
as_many [] [] as_these = refl
as_many [] (other ∷ others) as_these = absurd as_these
as_many (line ∷ lines) [] as_these = absurd as_these
as_many (line ∷ lines) (other ∷ others) as_these = ap suc (as_many lines others as_these.1)

all_lines : (given : Rules) (lines hand next : List (List ℕ)) → AreToldAs 4096 hand next
    → length (lines ++ next) ≡ cond (sets_profile (rules_after given lines) hand) 1 (length lines) + length (records_in (rules_after given lines) hand)
all_lines given [] [] [] as_these = refl
all_lines given [] [] (other ∷ next) as_these = absurd as_these
all_lines given [] (line ∷ hand) next as_these =
    let all = line ∷ hand in
    as_many all next as_these ∙ elim (is_some (profile_of line)) as (λ set. length all ≡ cond set 1 0 + length (cond set hand all)) [ true ↦ omega arith | false ↦ omega arith ]
all_lines given (line ∷ lines) hand next as_these = length-append (line ∷ lines) next ∙ ap (λ n. length (line ∷ lines) + n) (as_many hand next as_these)

-- the first line that looks like a profile line and sets none
slip_on-as : (lines others : List (List ℕ)) → AreToldAs 4096 lines others → slip_in lines ≡ slip_in others
slip_on-as [] [] as_these = refl
slip_on-as [] (other ∷ others) as_these = absurd as_these
slip_on-as (line ∷ lines) [] as_these = absurd as_these
slip_on-as (line ∷ lines) (other ∷ others) as_these =
    let same : profile_of line ≡ profile_of other = same_as_told profile_of long_profile line other as_these.0 in
    ap (λ (p : Option Rules). position_from is_like_profile (cond (is_some p) 2 1) (cond (is_some p) lines (line ∷ lines))) same
    ∙ elim (is_some (profile_of other)) as (λ set. position_from is_like_profile (cond set 2 1) (cond set lines (line ∷ lines)) ≡ position_from is_like_profile (cond set 2 1) (cond set others (other ∷ others))) [
      | true ↦ slip_as 2 lines others as_these.1
      | false ↦ slip_as 1 (line ∷ lines) (other ∷ others) as_these
    ]

all_slips : (given : Rules) (lines hand next : List (List ℕ)) → AreToldAs 4096 hand next
    → slip_in (lines ++ next) ≡ first_slip (slip_in lines) (option_map (λ line. cond (sets_profile (rules_after given lines) hand) 1 (length lines) + line) (position_from is_like_profile 1 (records_in (rules_after given lines) hand)))
all_slips given [] [] [] as_these = refl
all_slips given [] [] (other ∷ next) as_these = absurd as_these
all_slips given [] (line ∷ hand) next as_these =
    let all = line ∷ hand in
    sym (slip_on-as all next as_these)
    ∙ elim (is_some (profile_of line)) as (λ set. position_from is_like_profile (cond set 2 1) (cond set hand all) ≡ option_map (λ line. cond set 1 0 + line) (position_from is_like_profile 1 (cond set hand all))) [
      | true ↦ position-later is_like_profile 1 1 hand
      | false ↦ position-later is_like_profile 0 1 all
    ]
all_slips given (line ∷ lines) hand next as_these =
    let all = line ∷ lines in
    let first = first_number all in
    ap (position_from is_like_profile first) (record_lines-more line lines next) ∙ position-append is_like_profile first (record_lines all) next
    ∙ ap (first_slip (slip_in all)) (ap (λ n. position_from is_like_profile n next) (sym (next_number line lines)) ∙ sym (slip_as (length all + 1) hand next as_these) ∙ position-later is_like_profile (length all) 1 hand)

-- the next records come to what they do, beside those before
all_tallied : (given rules : Rules) (lines hand next : List (List ℕ)) → AreToldAs 4096 hand next → IfSome (next_profile given (rules_after given lines) hand) (λ set. set ≡ rules)
    → stream_tally given (lines ++ next) ≡ both_tallies (begun_tally (sets_profile (rules_after given lines) hand) (stream_tally given lines)) (tally_of rules (records_in (rules_after given lines) hand))
all_tallied given rules lines hand next as_these set =
    let counts = all_counted given rules lines hand next as_these set in
    let many = all_lines given lines hand next as_these in
    let slip = all_slips given lines hand next as_these in
    λ i. record { counts = counts i; lines = many i; slip = slip i }

module _ {W : Type 0} (Answers : AnswerKind) (sink : OfSink W) (start : W) (given : Rules) where
  -- before the first line
  pub Waits-none : (now : Standing) (waiting : List ℕ) → waiting ≡ [] → now.profile ≡ None → now.tally ≡ empty_tally → Waits Answers sink start given [] now start waiting
  Waits-none now waiting none profile tally = record { told = []; are_told = refl; written = []; parts = sym none; writes = WritesAll_nil sink start; tally_is = tally; profile = profile }

  -- the next lines were answered
  pub Waits-more : AreAlike Answers → (rules : Rules) (lines hand next records : List (List ℕ)) (old begun new : Standing) (writer : W) (waiting : List ℕ) → AreToldAs 4096 hand next → Stands Answers sink start given lines old writer
      → begun.profile ≡ next_profile given old.profile hand → IfSome begun.profile (λ set. set ≡ rules) → records ≡ records_in old.profile hand → begun.tally ≡ begun_tally (sets_profile old.profile hand) old.tally
      → AreGathered Answers rules records waiting begun.tally new.tally → new.profile ≡ begun.profile → Waits Answers sink start given (lines ++ next) new writer waiting
  Waits-more alike rules lines hand next records old begun new writer waiting as_these stands profile set are_records tally gathered same =
      let first = stands in
      let profile_is : begun.profile ≡ next_profile given (rules_after given lines) hand = profile ∙ ap (λ (p : Option Rules). next_profile given p hand) stands.profile in
      let set_now = subst (λ (p : Option Rules). IfSome p (λ r. r ≡ rules)) profile_is set in
      let records_are : records ≡ records_in (rules_after given lines) hand = are_records ∙ ap (λ (p : Option Rules). records_in p hand) stands.profile in
      record {
        told = first.told ++ gathered.told;
        are_told = all_answered Answers alike given rules lines hand next first.told gathered.told first.are_told as_these set_now (subst (λ (ls : List (List ℕ)). AreTold Answers rules ls gathered.told) records_are gathered.are_told);
        written = text_of first.told;
        parts = text_of_append first.told gathered.told ∙ ap (λ t. text_of first.told ++ t) (sym gathered.text_is);
        writes = first.writes;
        tally_is = gathered.tally_is ∙ ap (λ (t : Tally). both_tallies t (tally_of rules records)) (tally ∙ ap (λ (t : Tally). begun_tally (sets_profile old.profile hand) t) first.tally_is
            ∙ ap (λ (p : Option Rules). begun_tally (sets_profile p hand) (stream_tally given lines)) stands.profile)
            ∙ ap (λ ls. both_tallies (begun_tally (sets_profile (rules_after given lines) hand) (stream_tally given lines)) (tally_of rules ls)) records_are ∙ sym (all_tallied given rules lines hand next as_these set_now);
        profile = same ∙ profile_is ∙ sym (profile_next given lines hand next as_these);
      }

  -- nothing waits
  pub Waits-nothing : (lines : List (List ℕ)) (now new : Standing) (writer : W) (waiting : List ℕ) → new ≡ now → waiting ≡ [] → Stands Answers sink start given lines now writer → Waits Answers sink start given lines new writer waiting
  Waits-nothing lines now new writer waiting same none stands =
      let first = stands in
      record {
        told = first.told;
        are_told = first.are_told;
        written = text_of first.told;
        parts = sym (ap (λ (t : List ℕ). text_of first.told ++ t) none ∙ append-nil (text_of first.told));
        writes = first.writes;
        tally_is = ap (λ (s : Standing). s.tally) same ∙ first.tally_is;
        profile = ap (λ (s : Standing). s.profile) same ∙ stands.profile;
      }

  -- what waited was written
  pub Stands-now : (lines : List (List ℕ)) (now : Standing) (old new : W) (waiting : List ℕ) → Waits Answers sink start given lines now old waiting → WritesAll sink old new waiting → Stands Answers sink start given lines now new
  Stands-now lines now old new waiting waits writes = record {
    told = waits.told;
    are_told = waits.are_told;
    writes = subst (λ (text : List ℕ). WritesAll sink start new text) (sym waits.parts) (WritesAll-trans sink start old new waits.written waiting waits.writes writes);
    tally_is = waits.tally_is;
    profile = waits.profile;
  }

  -- the report on them
  pub Answered-now : (lines : List (List ℕ)) (now : Standing) (writer : W) (report : TextReport) → Stands Answers sink start given lines now writer → report.counts ≡ now.tally.counts
      → report.slip ≡ told_slip (unwrap_or now.profile given) now.tally.slip → IsAnswered Answers sink start writer given lines report
  Answered-now lines now writer report stands counts slip = record {
    told = stands.told;
    are_told = stands.are_told;
    writes = stands.writes;
    report_is = text_report_is given now.profile now.tally.slip lines now.tally.counts report stands.profile (ap (λ (t : Tally). t.counts) stands.tally_is) (ap (λ (t : Tally). t.slip) stands.tally_is) counts slip;
  }

  stops_after : (old new : W) (fault : DeskFault) (text more : List ℕ) → WritesAll sink start old text → Stops sink old new fault more → Stops sink start new fault (text ++ more)
  stops_after old new Read text more writes stops = absurd stops
  stops_after old new Write text more writes stops = StopsWriting-after sink start old new text more writes stops
  stops_after old new Memory text more writes stops = WritesAll-trans sink start old new text more writes stops

  -- a write failed
  pub stops_writing : (old new : W) (fault : DeskFault) (text : List ℕ) → (fault ≡ Write) × StopsWriting sink old new text → Stops sink old new fault text
  stops_writing old new fault text failed = subst (λ (f : DeskFault). Stops sink old new f text) (sym failed.0) failed.1

  -- it was written as far as that was possible
  pub Stopped-now : (lines more : List (List ℕ)) (now : Standing) (old new : W) (waiting : List ℕ) (fault : DeskFault) → Waits Answers sink start given lines now old waiting → Stops sink old new fault waiting
      → Stopped Answers sink start new given (lines ++ more) fault
  Stopped-now lines more now old new waiting fault waits stops = record {
    first = lines;
    others = more;
    parts = refl;
    told = waits.told;
    are_told = waits.are_told;
    stops = subst (λ (text : List ℕ). Stops sink start new fault text) (sym waits.parts) (stops_after old new fault waits.written waiting waits.writes stops);
  }

  -- the same of all lines
  pub Stopped-all : (lines : List (List ℕ)) (new : W) (fault : DeskFault) → Stopped Answers sink start new given (lines ++ []) fault → Stopped Answers sink start new given lines fault
  Stopped-all lines new fault stopped = subst (λ (ls : List (List ℕ)). Stopped Answers sink start new given ls fault) (append-nil lines) stopped

  -- memory was wanted after these lines
  pub Stopped-memory : (lines more : List (List ℕ)) (now : Standing) (writer : W) → Stands Answers sink start given lines now writer → Stopped Answers sink start writer given (lines ++ more) Memory
  Stopped-memory lines more now writer stands = record { first = lines; others = more; parts = refl; told = stands.told; are_told = stands.are_told; stops = stands.writes }

-- there are as many shares after a round as before
pub still_some : {X : Type 0} (shares : Vec X) (others : List X) → length others ≡ shares.len → 0 < shares.len → 0 < length (with_items shares others).items
still_some shares others same some = omega (arith, ap length (with_items_is shares others same), same, some)
