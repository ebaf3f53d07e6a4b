-- What one more line of a script changes.
use Rattle.std.proofs.Common.{◌≡◌, ℕ, ◌+◌, ◌<◌, List, [], ◌∷◌, ◌++◌, length, Bool, true, false, refl, sym, subst, ap, ◌∙◌, arith, length-append}
use Rattle.std.specs.List.{zip}
use Rattle.std.proofs.lemmas.List.Elements.{filter_map-append}
use Rattle.std.proofs.lemmas.Bool.{lt-ltb, false≢true}
use Rattle.desk_core.specs.Desk.{DeskStandsFor, IsDeskRun}
use Rattle.desk_core.specs.declared.event.Event.{Event}
use Rattle.desk_core.specs.declared.reply.Reply.{Reply}
use Rattle.desk_script.specs.declared.refusal.Refusal.TheVariants.{NoCommand}
use Rattle.desk_script.specs.declared.told.Told.{Told}
use Rattle.desk_script.specs.declared.told.Told.TheVariants as tell
use Rattle.desk_script.specs.declared.line_request.LineRequest.{LineRequest}
use Rattle.desk_script.specs.declared.line_request.LineRequest.TheVariants as ask
use Rattle.desk_script.specs.Asked.{asked_by, names_by, names_from, asked_from, names_after, asked_on, event_in, events_of, opens, refused}
use Rattle.desk_script.specs.Replay.{told_with, ScriptState, Tells}
use Rattle.desk_core.proofs.Lists.{zip-append}

names_from-last : (names lines : List (List ℕ)) (line : List ℕ) → names_from names (lines ++ line ∷ []) ≡ names_by (names_from names lines) line
names_from-last names [] line = refl
names_from-last names (first ∷ lines) line = names_from-last (names_by names first) lines line

pub asked_from-append : (names lines others : List (List ℕ)) → asked_from names (lines ++ others) ≡ asked_from names lines ++ asked_from (names_from names lines) others
asked_from-append names [] others = refl
asked_from-append names (line ∷ lines) others = ap (λ rest. asked_by names line ∷ rest) (asked_from-append (names_by names line) lines others)

pub told_with-append : (asked others : List LineRequest) (replies more : List Reply) → length replies ≡ length (events_of asked) → told_with (asked ++ others) (replies ++ more) ≡ told_with asked replies ++ told_with others more
told_with-append [] others [] more same = refl
told_with-append [] others (reply ∷ replies) more same = absurd (omega arith)
told_with-append (ask.Told told ∷ asked) others replies more same = ap (λ rest. told ∷ rest) (told_with-append asked others replies more same)
told_with-append (ask.Event event ∷ asked) others [] more same = absurd (omega arith)
told_with-append (ask.Event event ∷ asked) others (reply ∷ replies) more same = ap (λ rest. tell.Replied reply ∷ rest) (told_with-append asked others replies more (omega arith))

pub names_after-last : (lines : List (List ℕ)) (line : List ℕ) → names_after (lines ++ line ∷ []) ≡ names_by (names_after lines) line
names_after-last lines line = names_from-last [] lines line

pub asked_on-last : (lines : List (List ℕ)) (line : List ℕ) → asked_on (lines ++ line ∷ []) ≡ asked_on lines ++ asked_by (names_after lines) line ∷ []
asked_on-last lines line = asked_from-append [] lines (line ∷ [])

-- one more line: what it asks, the desk's replies to that, and its answer
pub Tells-line : (old new : ScriptState) (lines : List (List ℕ)) (before : List Told) (line : List ℕ) (asked : LineRequest) (more : List Reply) (told : Told) → Tells old lines before
    → asked ≡ asked_by old.names line → new.names ≡ names_by old.names line → length more ≡ length (events_of (asked ∷ [])) → told_with (asked ∷ []) more ≡ told ∷ []
    → IsDeskRun old.lanes (zip (events_of (asked ∷ [])) more) new.lanes → length new.lanes ≡ length old.lanes
    → Tells new (lines ++ line ∷ []) (before ++ told ∷ [])
Tells-line old new lines before line asked more told tells asks names as_many is_told run tables =
    let so_far = asked_on lines in
    let asked_is : asked_on (lines ++ line ∷ []) ≡ so_far ++ asked ∷ [] =
    asked_on-last lines line ∙ ap (λ (n : List (List ℕ)). so_far ++ asked_by n line ∷ []) (sym tells.names) ∙ ap (λ (a : LineRequest). so_far ++ a ∷ []) (sym asks) in
    let events_are : events_of (asked_on (lines ++ line ∷ [])) ≡ events_of so_far ++ events_of (asked ∷ []) = ap events_of asked_is ∙ filter_map-append event_in so_far (asked ∷ []) in
    let turns_are : zip (events_of (asked_on (lines ++ line ∷ []))) (tells.replies ++ more) ≡ zip (events_of so_far) tells.replies ++ zip (events_of (asked ∷ [])) more =
    ap (λ es. zip es (tells.replies ++ more)) events_are ∙ zip-append (events_of so_far) (events_of (asked ∷ [])) tells.replies more tells.count in record {
      replies = tells.replies ++ more;
      count = omega (arith, length-append tells.replies more, tells.count, as_many, length-append (events_of so_far) (events_of (asked ∷ [])), ap length events_are);
      names = names ∙ ap (λ n. names_by n line) tells.names ∙ sym (names_after-last lines line);
      desk = subst (λ (h : List (Event × Reply)). DeskStandsFor new.lanes h) (sym turns_are) (run (zip (events_of so_far) tells.replies) tells.desk);
      tables = tables ∙ tells.tables;
      told_are = ap (λ all. all ++ told ∷ []) tells.told_are ∙ ap (λ last. told_with so_far tells.replies ++ last) (sym is_told)
          ∙ sym (told_with-append so_far (asked ∷ []) tells.replies more tells.count) ∙ ap (λ all. told_with all (tells.replies ++ more)) (sym asked_is);
    }

-- a line that is longer than any command
asked_by-long : (names : List (List ℕ)) (line : List ℕ) → 8192 < length line → asked_by names line ≡ refused NoCommand
unfolding asked_by
asked_by-long names line long = rw (lt-ltb 8192 (length line) long) refl

abbrev is_table : LineRequest → Bool
is_table (ask.Told (tell.Table number)) = true
is_table asked = false

-- such a line opens no table
pub opens_none-long : (names : List (List ℕ)) (line : List ℕ) → 8192 < length line → asked_by names line ≡ opens names → ⊥
opens_none-long names line long asks = false≢true (ap is_table (sym (asked_by-long names line long) ∙ asks))

names_by-long : (names : List (List ℕ)) (line : List ℕ) → 8192 < length line → names_by names line ≡ names
unfolding names_by
names_by-long names line long = rw (lt-ltb 8192 (length line) long) refl

-- longer lines than any command are answered alike
pub Tells-alike : (script : ScriptState) (lines : List (List ℕ)) (told : List Told) (line other : List ℕ) → 8192 < length line → 8192 < length other
    → Tells script (lines ++ line ∷ []) told → Tells script (lines ++ other ∷ []) told
Tells-alike script lines told line other long longer tells =
    let names = names_after lines in
    let same_names : names_after (lines ++ line ∷ []) ≡ names_after (lines ++ other ∷ []) =
    names_after-last lines line ∙ names_by-long names line long ∙ sym (names_by-long names other longer) ∙ sym (names_after-last lines other) in
    let same_asked : asked_on (lines ++ line ∷ []) ≡ asked_on (lines ++ other ∷ []) =
    asked_on-last lines line ∙ ap (λ (a : LineRequest). asked_on lines ++ a ∷ []) (asked_by-long names line long ∙ sym (asked_by-long names other longer)) ∙ sym (asked_on-last lines other) in record {
      replies = tells.replies;
      count = tells.count ∙ ap (λ (a : List LineRequest). length (events_of a)) same_asked;
      names = tells.names ∙ same_names;
      desk = subst (λ (a : List LineRequest). DeskStandsFor script.lanes (zip (events_of a) tells.replies)) same_asked tells.desk;
      tables = tells.tables;
      told_are = tells.told_are ∙ ap (λ (a : List LineRequest). told_with a tells.replies) same_asked;
    }
