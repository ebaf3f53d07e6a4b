-- Answers to a text of games with hints: below a refused line stands what is wrong.
use Rattle.std.specs.Prelude.{◌≡◌, ℕ, ◌+◌, List, [], ◌∷◌, ◌++◌, map, Bool, Option, None, Some, IfSome, Result, Ok, Err, if◌then◌else◌}
use Rattle.std.specs.List.{cons_option}
use Rattle.riichi_hand.specs.Rules.{Rules}
use Rattle.riichi_game_hints.specs.Hints.{IsGameHint}
use Rattle.riichi_game_hints.specs.Begins.{IsBeginHint}
use Rattle.riichi_table.specs.declared.outcome.Outcome.{Outcome}
use Rattle.riichi_game_text.specs.Entries.{outcome_of_entry}
use Rattle.riichi_game_text.specs.declared.fault.GameFault.{GameFault}
use Rattle.riichi_game_text.specs.declared.fault.GameFault.TheVariants.{G1, G2, G3, G4, G14}
use Rattle.desk_lines.specs.declared.line_kind.LineKind.{LineKind}
use Rattle.desk_lines.specs.declared.line_kind.LineKind.TheVariants.{Refused}
use Rattle.desk_lines.specs.declared.report.DeskReport.{DeskReport}
use Rattle.desk_lines.specs.Telling.{IsToldAs, report_of, with_line_feed}
use Rattle.desk_games.specs.Played.{GameSoFar}
use Rattle.desk_games.specs.Replies.{LineOfGame, Odd, Blank, Begins, Undo, Entry, seen_in, Reply, AreReplies, refused_in}
use Rattle.desk_games.specs.Texts.{text_of_reply, number_if, kind_in}
use Rattle.desk_games.specs.Tellers.{TellsAlike}
use Rattle.desk_games.specs.declared.desk.GameDesk.{GameDesk}
use Rattle.desk_games.specs.declared.desk.GameDesk.TheVariants as desk
use Rattle.desk_games.specs.declared.form.GamesForm.{GamesForm}
use Rattle.desk_game_hints.specs.declared.hinted.HintedGames.{HintedGames}

-- ---- the fault of a refused line

abbrev pub held_or : Bool → GameFault → GameFault
held_or was_held fault = if was_held then G14 else fault

abbrev pub undo_fault : GameDesk → GameFault
undo_fault desk.NoGame = G2
undo_fault desk.Refused = G2
undo_fault (desk.Game game) = G4

abbrev pub fault_or_none : Result Outcome GameFault → GameFault
fault_or_none (Ok outcome) = G4
fault_or_none (Err fault) = fault

abbrev pub fault_in : GameSoFar → List ℕ → GameFault
fault_in game line = fault_or_none (outcome_of_entry game.names game.progress game.rules line)

abbrev pub entry_fault : GameDesk → List ℕ → GameFault
entry_fault desk.NoGame line = G2
entry_fault desk.Refused line = G2
entry_fault (desk.Game game) line = fault_in game line

-- The fault for which a line is refused, by what the line is and by the text of games behind it: that of a line `game`; else where a line
-- of the game was refused before, that; else its own.
abbrev pub fault_seen : Bool → GameDesk → LineOfGame → List ℕ → GameFault
fault_seen was_held now Odd line = held_or was_held G1
fault_seen was_held now Blank line = held_or was_held (entry_fault now line)
fault_seen was_held now (Begins words) line = G3
fault_seen was_held now Undo line = held_or was_held (undo_fault now)
fault_seen was_held now Entry line = held_or was_held (entry_fault now line)

-- ---- the hint of a line

-- By the text of games behind the line, which a refusal leaves in its state: what is wrong with a line that is refused for this fault in
-- the state that the game has come to, and a line to try, which is accepted there; or where no game has a state, one that begins a game.
abbrev pub IsHintFor : Rules → GameDesk → List ℕ → GameFault → List ℕ → Type 0
IsHintFor given desk.NoGame line fault text = IsBeginHint given fault text
IsHintFor given desk.Refused line fault text = IsBeginHint given fault text
IsHintFor given (desk.Game game) line fault text = IsGameHint game.names game.progress game.rules line fault text

-- the same for the fault that is found behind the line
abbrev pub IsFaultBehind : Rules → Bool → GameDesk → List ℕ → List ℕ → Type 0
IsFaultBehind given was_held now line text = IsHintFor given now line (fault_seen was_held now (seen_in line) line) text

-- and of a line that was counted as a refused one
abbrev pub IsHintBehind : Rules → Bool → GameDesk → LineKind → List ℕ → List ℕ → Type 0
IsHintBehind given was_held now kind line text = (kind ≡ Refused) × IsFaultBehind given was_held now line text

-- The text is a hint to a line for the fault that its answer names.
abbrev pub IsHint : Rules → Reply → List ℕ → List ℕ → Type 0
IsHint given reply line text =
    (fault : GameFault) × (reply.answer ≡ Some (refused_in reply.form fault)) × IsHintFor given reply.desk line fault text

-- ---- its text

-- the answer to a line, and its hint below it
abbrev pub text_with : Option (List ℕ) → Option (List ℕ) → Option (List ℕ)
text_with answer None = answer
text_with None (Some hint) = Some hint
text_with (Some answer) (Some hint) = Some (answer ++ 10 ∷ hint)

-- A reply was counted so, and its answer put behind the text that stood there, with a hint below it or without.
pub record PutsHinted (given : Rules) (number : Option ℕ) (line : List ℕ) (reply : Reply) (kind : LineKind) (before after : List ℕ) (now : GameDesk) : Type 0 where
  pub kind_is : kind ≡ reply.kind
  pub desk_is : now ≡ reply.desk
  pub hint : Option (List ℕ)
  pub is_hint : IfSome hint (λ text. IsHint given reply line text)
  pub put : after ≡ before ++ (with_line_feed (text_of_reply number reply) ++ with_line_feed hint)

-- ---- the answers to lines

-- the answers of replies with their hints, of which the first is that to the line of this number
abbrev pub hinted_from : Bool → ℕ → List (Reply × Option (List ℕ)) → List (List ℕ)
hinted_from is_numbered number [] = []
hinted_from is_numbered number (next ∷ others) =
    cons_option (text_with (text_of_reply (number_if is_numbered number) next.0) next.1) (hinted_from is_numbered (number + 1) others)

abbrev pub replies_in : List (Reply × Option (List ℕ)) → List Reply
replies_in hinted = map (λ next. next.0) hinted

-- Below the answer to a line stands a hint to it, or none; a line that is longer than any that is read is taken for its beginning.
abbrev pub HasHint : Rules → List ℕ → Reply × Option (List ℕ) → Type 0
HasHint given line next = IfSome next.1 (λ text. (shown : List ℕ) × IsToldAs 4096 shown line × IsHint given next.0 shown text)

abbrev pub HaveHints : Rules → List (List ℕ) → List (Reply × Option (List ℕ)) → Type 0
HaveHints given [] hinted = hinted ≡ []
HaveHints given (line ∷ lines) hinted =
    (next : Reply × Option (List ℕ)) × (others : List (Reply × Option (List ℕ))) × HasHint given line next
    × (hinted ≡ next ∷ others) × HaveHints given lines others

-- These lines, behind a text of games, have the answers that they have without hints, and below these, one to one, hints or none.
pub record HintsLines (is_numbered : Bool) (form : GamesForm) (given : Rules) (first : GameDesk) (lines told : List (List ℕ)) (report : DeskReport) (last : GameDesk) : Type 0 where
  pub hinted : List (Reply × Option (List ℕ))
  pub are : AreReplies form given first lines (replies_in hinted) last
  pub hints : HaveHints given lines hinted
  pub told_are : told ≡ hinted_from is_numbered 1 hinted
  pub report_is : report ≡ report_of (map kind_in (replies_in hinted))

-- from the first state to the second a teller has taken these lines, and given them these answers
abbrev pub HasToldHinted : HintedGames → HintedGames → List (List ℕ) → List (List ℕ) → DeskReport → Type 0
HasToldHinted first now lines told report =
    TellsAlike now.games first.games × HintsLines first.games.is_numbered first.games.form first.games.given first.games.desk lines told report now.games.desk
