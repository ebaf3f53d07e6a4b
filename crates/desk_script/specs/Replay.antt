-- What a script is answered.
use Rattle.std.specs.Prelude.{◌≡◌, ℕ, List, [], ◌∷◌, ◌++◌, length, Option}
use Rattle.std.specs.List.{zip, filter_map}
use Rattle.desk_core.specs.History.{IsLegal}
use Rattle.desk_core.specs.LaneState.{LaneState}
use Rattle.desk_core.specs.Desk.{DeskStandsFor}
use Rattle.desk_core.specs.declared.reply.Reply.{Reply}
use Rattle.desk_script.specs.declared.told.Told.{Told}
use Rattle.desk_script.specs.declared.told.Told.TheVariants as tell
use Rattle.desk_script.specs.declared.line_request.LineRequest.{LineRequest}
use Rattle.desk_script.specs.declared.line_request.LineRequest.TheVariants as ask
use Rattle.desk_script.specs.Asked.{names_after, asked_on, events_of}
use Rattle.desk_script.specs.Texts.{told_text}

-- the answers to lines that ask this, where the desk gave these replies to what it was asked
abbrev pub told_with : List LineRequest → List Reply → List Told
told_with [] replies = []
told_with (ask.Told told ∷ others) replies = told ∷ told_with others replies
told_with (ask.Event event ∷ others) [] = []
told_with (ask.Event event ∷ others) (reply ∷ replies) = tell.Replied reply ∷ told_with others replies

-- These replies are those of a desk of 64 tables to what the lines ask of it.
pub record IsReplied (lines : List (List ℕ)) (replies : List Reply) : Type 0 where
  pub count : length replies ≡ length (events_of (asked_on lines))
  pub legal : IsLegal 64 (zip (events_of (asked_on lines)) replies)

-- The answers to the lines of a script, each a text without its line feed.
pub record Replays (lines answers : List (List ℕ)) : Type 0 where
  pub replies : List Reply
  pub replied : IsReplied lines replies
  pub answers_are : answers ≡ filter_map told_text (told_with (asked_on lines) replies)

-- what a script keeps: the names of the open tables, and the desk
pub record ScriptState : Type 0 where
  pub names : List (List ℕ)
  pub lanes : List LaneState

-- The script has read these lines, and gave them these answers.
pub record Tells (script : ScriptState) (lines : List (List ℕ)) (told : List Told) : Type 0 where
  pub replies : List Reply
  pub count : length replies ≡ length (events_of (asked_on lines))
  pub names : script.names ≡ names_after lines
  pub desk : DeskStandsFor script.lanes (zip (events_of (asked_on lines)) replies)
  pub tables : length script.lanes ≡ 64
  pub told_are : told ≡ told_with (asked_on lines) replies

-- The next line of a script got an answer with this text, whatever the lines before.
pub record AnswersLine (old new : ScriptState) (line : List ℕ) (text : Option (List ℕ)) : Type 0 where
  pub told : Told
  pub text_is : text ≡ told_text told
  pub tells : (lines : List (List ℕ)) (before : List Told) → Tells old lines before → Tells new (lines ++ line ∷ []) (before ++ told ∷ [])
