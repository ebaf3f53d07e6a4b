-- How far a game comes by its lines.
use Rattle.std.proofs.Common.{◌≡◌, ℕ, List, [], ◌∷◌, Bool, true, false, ◌||◌, Option, None, Some, Result, Ok, Err, refl, sym, subst, ap, ◌∙◌}
use Rattle.std.specs.Prelude.{if◌then◌else◌}
use Rattle.std.specs.List.{list_any, cons_option}
use Rattle.riichi_hand.specs.Rules.{Rules}
use Rattle.riichi_table.specs.declared.outcome.Outcome.{Outcome}
use Rattle.riichi_game.specs.Games.{after_all}
use Rattle.riichi_game.specs.declared.game.Progress.{Progress}
use Rattle.riichi_game_text.specs.Entries.{outcome_of_entry}
use Rattle.riichi_game_text.specs.declared.fault.GameFault.{GameFault}
use Rattle.riichi_game_text.specs.declared.fault.GameFault.TheVariants.{G1, G14}
use Rattle.desk_games.specs.Played.{GameSoFar}
use Rattle.desk_games.specs.Replies.{LineOfGame, Odd, Blank, Begins, Undo, Entry, seen_in, Reply, blank_reply, refusal, entry_reply, IsReplyTo, AreReplies}
use Rattle.desk_games.specs.Laws.{is_begin, is_undo, outcomes_in, refuses, GoesOnByOutcomes, HeldTakesNone}
use Rattle.desk_games.specs.declared.desk.GameDesk.{GameDesk}
use Rattle.desk_games.specs.declared.desk.GameDesk.TheVariants as desk
use Rattle.desk_games.specs.declared.form.GamesForm.{GamesForm}

-- the game behind lines that said these outcomes, where one was refused, or none
abbrev pub gone_on : GameSoFar → Option Progress → List Outcome → Bool → GameSoFar
gone_on game former outcomes refused = record {
  names = game.names;
  rules = game.rules;
  progress = after_all game.progress game.rules outcomes;
  former = former;
  is_held = game.is_held || refused;
}

-- ---- one line

or_true : (b : Bool) → (b || true) ≡ true
or_true true = refl
or_true false = refl

or_false : (b : Bool) → (b || false) ≡ b
or_false true = refl
or_false false = refl

-- what a line came to that neither begins a game nor takes a line back
abbrev GoesOn : GameSoFar → Reply → Type 0
GoesOn game reply = (former : Option Progress) × (reply.desk ≡ desk.Game (gone_on game former (cons_option reply.outcome []) (refuses reply)))

refused_so : (form : GamesForm) (game : GameSoFar) (fault : GameFault) → GoesOn game (refusal form (desk.Game game) fault)
refused_so form game fault = (game.former, ap (λ (held : Bool). desk.Game (record game { is_held = held })) (sym (or_true game.is_held)))

blank_so : (form : GamesForm) (game : GameSoFar) → GoesOn game (blank_reply form (desk.Game game))
blank_so form game = (game.former, ap (λ (held : Bool). desk.Game (record game { is_held = held })) (sym (or_false game.is_held)))

entry_so : (form : GamesForm) (game : GameSoFar) (line : List ℕ) (entry : Result Outcome GameFault) → GoesOn game (entry_reply form game line entry)
entry_so form game line (Err fault) = refused_so form game fault
entry_so form game line (Ok outcome) = (
  Some game.progress,
  ap (λ (held : Bool). desk.Game (record { names = game.names; rules = game.rules; progress = after_all game.progress game.rules (outcome ∷ []); former = Some game.progress; is_held = held })) (sym (or_false game.is_held)),
)

either_so : (form : GamesForm) (game : GameSoFar) (line : List ℕ) (held : Bool) (entry : Result Outcome GameFault) → GoesOn game (if held then refusal form (desk.Game game) G14 else entry_reply form game line entry)
either_so form game line true entry = refused_so form game G14
either_so form game line false entry = entry_so form game line entry

goes_on_one : (form : GamesForm) (given : Rules) (game : GameSoFar) (seen : LineOfGame) (line : List ℕ) (reply : Reply) → is_begin seen ≡ false → is_undo seen ≡ false → IsReplyTo form given (desk.Game game) seen line reply → GoesOn game reply
goes_on_one form given game Odd line reply other keeps is = subst (λ (r : Reply). GoesOn game r) (sym is) (refused_so form game G1)
goes_on_one form given game Blank line reply other keeps is = subst (λ (r : Reply). GoesOn game r) (sym is) (blank_so form game)
goes_on_one form given game (Begins words) line reply other keeps is = absurd (cc)
goes_on_one form given game Undo line reply other keeps is = absurd (cc)
goes_on_one form given game Entry line reply other keeps is =
    subst (λ (r : Reply). GoesOn game r) (sym is) (either_so form game line game.is_held (outcome_of_entry game.names game.progress game.rules line))

-- ---- more lines

or_assoc : (one two three : Bool) → ((one || two) || three) ≡ (one || (two || three))
or_assoc true two three = refl
or_assoc false two three = refl

one_more : (game : GameSoFar) (former later : Option Progress) (outcome : Option Outcome) (refused others : Bool) (outcomes : List Outcome)
    → gone_on (gone_on game former (cons_option outcome []) refused) later outcomes others ≡ gone_on game later (cons_option outcome outcomes) (refused || others)
one_more game former later None refused others outcomes =
    ap (λ (held : Bool). record { names = game.names; rules = game.rules; progress = after_all game.progress game.rules outcomes; former = later; is_held = held }) (or_assoc game.is_held refused others)
one_more game former later (Some outcome) refused others outcomes =
    ap (λ (held : Bool). record { names = game.names; rules = game.rules; progress = after_all game.progress game.rules (outcome ∷ outcomes); former = later; is_held = held }) (or_assoc game.is_held refused others)

pub goes_on_by_outcomes : GoesOnByOutcomes
goes_on_by_outcomes form given game [] replies last none keep are =
    let blank = blank_so form game in
    (blank.0, are.1 ∙ blank.1 ∙ ap (λ (rs : List Reply). desk.Game (gone_on game blank.0 (outcomes_in rs) (list_any refuses rs))) (sym are.0))
goes_on_by_outcomes form given game (line ∷ lines) replies last none keep are =
    let reply = are.0 in
    let others = are.1 in
    let one : GoesOn game reply = goes_on_one form given game (seen_in line) line reply none.0 keep.0 are.2 in
    let after = gone_on game one.0 (cons_option reply.outcome []) (refuses reply) in
    let rest = goes_on_by_outcomes form given after lines others last none.1 keep.1 (subst (λ (d : GameDesk). AreReplies form given d lines others last) one.1 are.4) in (
      rest.0,
      rest.1 ∙ ap desk.Game (one_more game one.0 rest.0 reply.outcome (refuses reply) (list_any refuses others) (outcomes_in others))
          ∙ ap (λ (rs : List Reply). desk.Game (gone_on game rest.0 (outcomes_in rs) (list_any refuses rs))) (sym are.3),
    )

-- ---- behind a refused line

none_taken : (form : GamesForm) (given : Rules) (game : GameSoFar) (seen : LineOfGame) (line : List ℕ) (reply : Reply) → is_begin seen ≡ false → is_undo seen ≡ false → game.is_held ≡ true → IsReplyTo form given (desk.Game game) seen line reply → reply.outcome ≡ None
none_taken form given game Odd line reply other keeps held is = ap (λ (r : Reply). r.outcome) is
none_taken form given game Blank line reply other keeps held is = ap (λ (r : Reply). r.outcome) is
none_taken form given game (Begins words) line reply other keeps held is = absurd (cc)
none_taken form given game Undo line reply other keeps held is = absurd (cc)
none_taken form given game Entry line reply other keeps held is =
    ap (λ (r : Reply). r.outcome) is
    ∙ ap (λ (b : Bool). (if b then refusal form (desk.Game game) G14 else entry_reply form game line (outcome_of_entry game.names game.progress game.rules line)).outcome) held

pub held_takes_none : HeldTakesNone
held_takes_none form given game [] replies last none keep held are = ap outcomes_in are.0
held_takes_none form given game (line ∷ lines) replies last none keep held are =
    let reply = are.0 in
    let others = are.1 in
    let one : GoesOn game reply = goes_on_one form given game (seen_in line) line reply none.0 keep.0 are.2 in
    let no_outcome = none_taken form given game (seen_in line) line reply none.0 keep.0 held are.2 in
    let after = gone_on game one.0 (cons_option reply.outcome []) (refuses reply) in
    let still : after.is_held ≡ true = ap (λ (b : Bool). b || refuses reply) held in
    let rest = held_takes_none form given after lines others last none.1 keep.1 still (subst (λ (d : GameDesk). AreReplies form given d lines others last) one.1 are.4) in
    ap outcomes_in are.3 ∙ ap (λ (outcome : Option Outcome). cons_option outcome (outcomes_in others)) no_outcome ∙ rest
