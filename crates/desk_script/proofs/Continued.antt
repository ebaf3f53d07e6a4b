-- The answers to some lines of a script go on with answers to any more lines.
use Rattle.std.proofs.Common.{◌≡◌, ℕ, List, [], ◌++◌, length, sym, subst, ap, ◌∙◌, arith, length-append}
use Rattle.std.specs.List.{zip, filter_map}
use Rattle.std.proofs.lemmas.List.Elements.{filter_map-append}
use Rattle.desk_core.proofs.Continued.{CanGoOn_legal}
use Rattle.desk_core.specs.History.{Turn, IsLegal}
use Rattle.desk_core.specs.declared.event.Event.{Event}
use Rattle.desk_script.specs.declared.line_request.LineRequest.{LineRequest}
use Rattle.desk_script.specs.Asked.{asked_from, names_after, asked_on, event_in, events_of}
use Rattle.desk_script.specs.Texts.{told_text}
use Rattle.desk_script.specs.Replay.{told_with, Replays}
use Rattle.desk_core.proofs.Lists.{zip-append}
use Rattle.desk_script.proofs.Scripts.{asked_from-append, told_with-append}

pub replay_goes_on : (lines others answers : List (List ℕ)) → Replays lines answers → (more : List (List ℕ)) × Replays (lines ++ others) (answers ++ more)
replay_goes_on lines others answers one =
    let asked = asked_on lines in
    let next = asked_from (names_after lines) others in
    let asked_is : asked_on (lines ++ others) ≡ asked ++ next = asked_from-append [] lines others in
    let events_are : events_of (asked_on (lines ++ others)) ≡ events_of asked ++ events_of next = ap events_of asked_is ∙ filter_map-append event_in asked next in
    let on = CanGoOn_legal 64 (zip (events_of asked) one.replies) one.replied.legal (events_of next) in
    let replies = one.replies ++ on.0 in
    let turns_are : zip (events_of (asked_on (lines ++ others))) replies ≡ zip (events_of asked) one.replies ++ zip (events_of next) on.0 =
    ap (λ (es : List Event). zip es replies) events_are ∙ zip-append (events_of asked) (events_of next) one.replies on.0 one.replied.count in
    let told_are : told_with (asked_on (lines ++ others)) replies ≡ told_with asked one.replies ++ told_with next on.0 =
    ap (λ (a : List LineRequest). told_with a replies) asked_is ∙ told_with-append asked next one.replies on.0 one.replied.count in (
      filter_map told_text (told_with next on.0),
      record {
        replies = replies;
        replied = record {
          count = let events = ap length events_are in omega (arith, length-append one.replies on.0, length-append (events_of asked) (events_of next), one.replied.count, on.1.count);
          legal = subst (λ (h : List Turn). IsLegal 64 h) (sym turns_are) on.1.legal;
        };
        answers_are = ap (λ all. all ++ filter_map told_text (told_with next on.0)) one.answers_are
            ∙ sym (filter_map-append told_text (told_with asked one.replies) (told_with next on.0)) ∙ ap (filter_map told_text) (sym told_are);
      },
    )
