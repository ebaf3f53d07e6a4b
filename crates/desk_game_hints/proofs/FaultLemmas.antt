-- The fault that the answer to a refused line names.
use Rattle.std.proofs.Common.{◌≡◌, ℕ, List, Bool, true, false, Option, Result, refl, sym, subst, ap, ◌∙◌}
use Rattle.std.specs.Prelude.{if◌then◌else◌, IfSome}
use Rattle.riichi_hand.specs.Rules.{Rules}
use Rattle.riichi_table.specs.declared.outcome.Outcome.{Outcome}
use Rattle.riichi_game.specs.declared.game.Progress.{Progress}
use Rattle.riichi_game_text.specs.Entries.{outcome_of_entry}
use Rattle.riichi_game_text.specs.GameLines.{GameSaid, game_of}
use Rattle.riichi_game_text.specs.declared.fault.GameFault.{GameFault}
use Rattle.riichi_game_text.specs.declared.fault.GameFault.TheVariants.{G14}
use Rattle.std.proofs.lemmas.Bool.{false≢true}
use Rattle.desk_lines.specs.Telling.{is_refused}
use Rattle.desk_lines.specs.declared.line_kind.LineKind.{LineKind}
use Rattle.desk_lines.specs.declared.line_kind.LineKind.TheVariants.{NoRecord, Answered, Refused}
use Rattle.desk_games.specs.Played.{GameSoFar, release}
use Rattle.desk_games.specs.Desks.{is_held_desk}
use Rattle.desk_games.specs.Replies.{LineOfGame, Odd, Blank, Begins, Undo, Entry, Reply, refusal, refused_in, begin_reply, entry_reply, back_reply, last_reply, undo_reply, other_reply, seen_in, IsReply, IsReplyTo}
use Rattle.desk_games.specs.declared.desk.GameDesk.{GameDesk}
use Rattle.desk_games.specs.declared.desk.GameDesk.TheVariants as desk
use Rattle.desk_games.specs.declared.form.GamesForm.{GamesForm}
use Rattle.desk_game_hints.specs.Hinted.{fault_or_none, fault_in, fault_seen, IsHintFor, IsHintBehind, IsHint}

-- where the line is refused, its answer names this fault
abbrev Names : GameDesk → LineOfGame → List ℕ → Reply → Type 0
Names old seen line reply = reply.kind ≡ Refused → reply.answer ≡ Option.Some (refused_in reply.form (fault_seen (is_held_desk old) reply.desk seen line))

accepted : {P : Type 0} (kind : LineKind) → is_refused kind ≡ false → kind ≡ Refused → P
accepted kind other is = absurd (false≢true (sym other ∙ ap is_refused is))

last_names : (form : GamesForm) (game : GameSoFar) (line : List ℕ) (former : Option Progress) → Names (desk.Game game) Undo line (last_reply form game former)
last_names form game line Option.None = λ is. refl
last_names form game line (Option.Some before) = λ is. accepted Answered refl is

undo_if : (form : GamesForm) (game : GameSoFar) (line : List ℕ) (held : Bool) → Names (desk.Game game) Undo line (if held then back_reply form (release game) else last_reply form game game.former)
undo_if form game line true = λ is. accepted Answered refl is
undo_if form game line false = last_names form game line game.former

undo_names : (form : GamesForm) (old : GameDesk) (line : List ℕ) → Names old Undo line (undo_reply form old)
undo_names form desk.NoGame line = λ is. refl
undo_names form desk.Refused line = λ is. refl
undo_names form (desk.Game game) line = undo_if form game line game.is_held

entry_by : (form : GamesForm) (game : GameSoFar) (line : List ℕ) (said : Result Outcome GameFault) → outcome_of_entry game.names game.progress game.rules line ≡ said → Names (desk.Game game) Entry line (entry_reply form game line said)
entry_by form game line (Result.Ok outcome) e = λ is. accepted Answered refl is
entry_by form game line (Result.Err fault) e = λ is. ap (λ (said : Result Outcome GameFault). Option.Some (refused_in form (if game.is_held then G14 else fault_or_none said))) (sym e)

entry_if : (form : GamesForm) (game : GameSoFar) (line : List ℕ) (held : Bool) → game.is_held ≡ held
    → Names (desk.Game game) Entry line (if held then refusal form (desk.Game game) G14 else entry_reply form game line (outcome_of_entry game.names game.progress game.rules line))
entry_if form game line true e =
    λ is. ap (λ (held : Bool). Option.Some (refused_in form (if held then G14 else G14))) e ∙ sym (ap (λ (held : Bool). Option.Some (refused_in form (if held then G14 else fault_in game line))) e)
entry_if form game line false e = entry_by form game line (outcome_of_entry game.names game.progress game.rules line) refl

entry_names : (form : GamesForm) (old : GameDesk) (line : List ℕ) → Names old Entry line (other_reply form old line)
entry_names form desk.NoGame line = λ is. refl
entry_names form desk.Refused line = λ is. refl
entry_names form (desk.Game game) line = entry_if form game line game.is_held refl

begin_names : (form : GamesForm) (old : GameDesk) (words : List (List ℕ)) (line : List ℕ) (said : Option GameSaid) → Names old (Begins words) line (begin_reply form old said)
begin_names form old words line Option.None = λ is. refl
begin_names form old words line (Option.Some said) = λ is. accepted Answered refl is

reply_names : (form : GamesForm) (given : Rules) (old : GameDesk) (seen : LineOfGame) (line : List ℕ) (reply : Reply) → IsReplyTo form given old seen line reply → Names old seen line reply
reply_names form given old Odd line reply is = subst (Names old Odd line) (sym is) (λ kind. refl)
reply_names form given old Blank line reply is = subst (Names old Blank line) (sym is) (λ kind. accepted NoRecord refl kind)
reply_names form given old (Begins words) line reply is = subst (Names old (Begins words) line) (sym is.2) (begin_names form old words line (game_of is.0 words))
reply_names form given old Undo line reply is = subst (Names old Undo line) (sym is) (undo_names form old line)
reply_names form given old Entry line reply is = subst (Names old Entry line) (sym is) (entry_names form old line)

-- the answer to a refused line names the fault that is found behind it
pub answer_names : (form : GamesForm) (given : Rules) (old : GameDesk) (line : List ℕ) (reply : Reply) → IsReply form given old line reply → reply.kind ≡ Refused
    → reply.answer ≡ Option.Some (refused_in reply.form (fault_seen (is_held_desk old) reply.desk (seen_in line) line))
answer_names form given old line reply is = reply_names form given old (seen_in line) line reply is

-- what is found to be a hint behind a line is one for the fault that its answer names
pub hint_named : (form : GamesForm) (given rules : Rules) (old new : GameDesk) (line : List ℕ) (reply : Reply) (kind : LineKind) (hint : Option (List ℕ)) → IsReply form given old line reply → kind ≡ reply.kind → new ≡ reply.desk → rules ≡ given
    → IfSome hint (λ text. IsHintBehind rules (is_held_desk old) new kind line text) → IfSome hint (λ text. IsHint given reply line text)
hint_named form given rules old new line reply kind Option.None is kind_is desk_is same told = told
hint_named form given rules old new line reply kind (Option.Some text) is kind_is desk_is same told =
    let seen = seen_in line in let fault = fault_seen (is_held_desk old) new seen line in (
      fault,
      answer_names form given old line reply is (sym kind_is ∙ told.0) ∙ ap (λ (now : GameDesk). Option.Some (refused_in reply.form (fault_seen (is_held_desk old) now seen line))) (sym desk_is),
      subst (λ (now : GameDesk). IsHintFor given now line fault text) desk_is (subst (λ (hand : Rules). IsHintFor hand new line fault text) same told.1),
    )
