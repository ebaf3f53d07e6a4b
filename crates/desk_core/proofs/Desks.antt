-- What a step leaves of the lanes of all tables.
use Rattle.std.proofs.Common.{◌≡◌, ℕ, ◌+◌, ◌<◌, ◌≤◌, List, [], ◌∷◌, ◌++◌, length, Some, refl, sym, ap, ◌∙◌, ⊎_elim, arith, length-append, append_assoc}
use Rattle.std.specs.List.{zip}
use Rattle.std.specs.Prelude.{slice_get, slice_set, ◌≢◌}
use Rattle.std.proofs.lemmas.Bool.{cases_lt, cases_eq, ne_eqb, le-ltb}
use Rattle.std.proofs.lemmas.List.{length-set}
use Rattle.std.proofs.lemmas.Option.{same_Some, slice_get_within}
use Rattle.desk_core.proofs.Lists.{slice_get-append_left, slice_get-push, slice_get-set_same, slice_get-set_other, zip-append}
use Rattle.desk_core.proofs.Facts.{turns_of-push, IsLegal-push}
use Rattle.desk_core.specs.LaneState.{LaneState, new_lane, IsNewDesk}
use Rattle.desk_core.specs.History.{Turn, table_of, turns_of, DeskReplyOf}
use Rattle.desk_core.specs.Step.{StandsFor, IsStep}
use Rattle.desk_core.specs.Desk.{DeskStandsFor, IsDeskRun}
use Rattle.desk_core.specs.declared.event.Event.{Event}
use Rattle.desk_core.specs.declared.reply.Reply.{Reply}
use Rattle.desk_core.specs.declared.reply.Reply.TheVariants as reply

turns_of-other : (table : ℕ) (history : List Turn) (turn : Turn) → table_of turn.0 ≢ table → turns_of table (history ++ turn ∷ []) ≡ turns_of table history
turns_of-other table history turn differ = turns_of-push table history turn ∙ (rw (ne_eqb (table_of turn.0) table differ) refl)

pub IsDeskRun-no_table : (lanes : List LaneState) (event : Event) → length lanes ≤ table_of event → IsDeskRun lanes ((event, reply.NoTable) ∷ []) lanes
IsDeskRun-no_table lanes event past = λ history stands.
    let turn : Turn = (event, reply.NoTable) in
    let replied : DeskReplyOf (length lanes) history turn = rw (le-ltb (table_of event) (length lanes) past) refl in
    let legal = IsLegal-push (length lanes) history turn stands.legal replied in
    record {
      legal = legal;
      each = λ table lane there.
          let was = stands.each table lane there in
          let differ : table_of event ≢ lane.table = λ e. absurd (omega (arith, was.1.in_range)) in (
            was.0,
            record {
              in_range = was.1.in_range;
              legal = legal;
              state = rw (turns_of-other lane.table history turn differ) was.1.state;
            },
          );
    }

pub IsDeskRun-step : (lanes : List LaneState) (table : ℕ) (old new : LaneState) (event : Event) (replied : Reply) → slice_get lanes table ≡ Some old → table_of event ≡ table → new.table ≡ old.table → (table_of event ≡ old.table → IsStep old event replied new) → IsDeskRun lanes ((event, replied) ∷ []) (slice_set lanes table new)
IsDeskRun-step lanes table old new event replied there about same step = λ history stands.
    let turn : Turn = (event, replied) in
    let was = stands.each table old there in
    let after : StandsFor new (length lanes) (history ++ turn ∷ []) = step (about ∙ sym was.0) (length lanes) history was.1 in
    let within : table < length lanes = slice_get_within lanes table old there in
    let count : length (slice_set lanes table new) ≡ length lanes = length-set lanes table new in
    record {
      legal = rw count after.legal;
      each = λ i lane at. rw count (
          ⊎_elim (λ here.
          let at' : slice_get (slice_set lanes table new) table ≡ Some lane = rw here at at in
          let is : new ≡ lane = same_Some _ _ (sym (slice_get-set_same lanes table new within) ∙ at') in
          rw (← is) (same ∙ was.0 ∙ sym here, after))
          (λ other.
          let own = stands.each i lane (sym (slice_get-set_other lanes table i new (λ e. other (sym e))) ∙ at) in
          let differ : table_of event ≢ lane.table = λ e. other (sym own.0 ∙ sym e ∙ about) in (
            own.0,
            record {
              in_range = own.1.in_range;
              legal = after.legal;
              state = rw (turns_of-other lane.table history turn differ) own.1.state;
            },
          ))
          (cases_eq i table));
    }

pub IsNewDesk-push : (tables : ℕ) (lanes : List LaneState) → IsNewDesk tables lanes → IsNewDesk (tables + 1) (lanes ++ new_lane tables ∷ [])
IsNewDesk-push tables lanes desk =
    record {
      count = omega (arith, length-append lanes (new_lane tables ∷ []), desk.count);
      each = λ table lane there.
          let inside = slice_get_within (lanes ++ new_lane tables ∷ []) table lane there in
          ⊎_elim (λ here. desk.each table lane (sym (slice_get-append_left lanes (new_lane tables ∷ []) table here) ∙ there))
          (λ past.
          let last : table ≡ length lanes = omega (arith, length-append lanes (new_lane tables ∷ [])) in
          let there' : slice_get (lanes ++ new_lane tables ∷ []) (length lanes) ≡ Some lane = rw last at there in
          let is : new_lane tables ≡ lane = same_Some _ _ (sym (slice_get-push lanes (new_lane tables)) ∙ there') in
          sym is ∙ ap new_lane (sym (last ∙ desk.count)))
          (cases_lt table (length lanes));
    }

pub StandsFor-new : (tables table : ℕ) → table < tables → StandsFor (new_lane table) tables []
StandsFor-new tables table within =
    record {
      in_range = within;
      legal = tt;
      state = record { next = refl; jobs = refl; arrived = λ k job flag there stays. cc; withdrawn = λ i. refl; closed = refl };
    }

pub DeskStandsFor-new : (tables : ℕ) (lanes : List LaneState) → IsNewDesk tables lanes → DeskStandsFor lanes []
DeskStandsFor-new tables lanes desk =
    record {
      legal = tt;
      each = λ table lane there.
          rw (desk.each table lane there) (refl, StandsFor-new (length lanes) table (slice_get_within lanes table lane there));
    }

-- a run and one more step
pub IsDeskRun-push : (old mid new : List LaneState) (events : List Event) (replies : List Reply) (event : Event) (replied : Reply) → length replies ≡ length events → IsDeskRun old (zip events replies) mid → IsDeskRun mid ((event, replied) ∷ []) new → IsDeskRun old (zip (events ++ event ∷ []) (replies ++ replied ∷ [])) new
IsDeskRun-push old mid new events replies event replied count run step = λ history stands.
    let after : DeskStandsFor new ((history ++ zip events replies) ++ (event, replied) ∷ []) = step (history ++ zip events replies) (run history stands) in
    rw (zip-append events (event ∷ []) replies (replied ∷ []) count) (rw append_assoc at after)
