-- The game at hand, and the line that it began with.
use Rattle.std.proofs.Common.{◌≡◌, ◌⊎◌, inl, inr, ℕ, List, [], ◌∷◌, Bool, true, false, Option, None, Some, refl, subst, ap, ◌∙◌}
use Rattle.std.specs.List.{list_any}
use Rattle.riichi_hand.specs.Rules.{Rules}
use Rattle.riichi_game_text.specs.GameLines.{GameSaid, game_of, hand_rules_word}
use Rattle.riichi_game_text.specs.TableWords.{IsHandRules}
use Rattle.desk_games.specs.Played.{GameSoFar}
use Rattle.desk_games.specs.Desks.{new_game, begun_desk}
use Rattle.desk_games.specs.Replies.{LineOfGame, Odd, Blank, Begins, Undo, Entry, seen_in, Reply, begin_reply, IsReplyTo, AreReplies}
use Rattle.desk_games.specs.Laws.{is_begin, BeginNone, UndoNone, outcomes_in, refuses, IsAtHand, GameComesFromItsLines}
use Rattle.desk_games.specs.declared.desk.GameDesk.{GameDesk}
use Rattle.desk_games.specs.declared.desk.GameDesk.TheVariants as desk
use Rattle.desk_games.specs.declared.form.GamesForm.{GamesForm}
use Rattle.desk_games.proofs.Outcomes.{gone_on, goes_on_by_outcomes}

-- ---- where no game has a state, none comes without a line that begins one

abbrev has_state : GameDesk → Bool
has_state desk.NoGame = false
has_state desk.Refused = false
has_state (desk.Game game) = true

stays_one : (form : GamesForm) (given : Rules) (now : GameDesk) (seen : LineOfGame) (line : List ℕ) (reply : Reply) → has_state now ≡ false → is_begin seen ≡ false → IsReplyTo form given now seen line reply → reply.desk ≡ now
stays_one form given desk.NoGame Odd line reply none other is = ap (λ (r : Reply). r.desk) is
stays_one form given desk.NoGame Blank line reply none other is = ap (λ (r : Reply). r.desk) is
stays_one form given desk.NoGame (Begins words) line reply none other is = absurd (cc)
stays_one form given desk.NoGame Undo line reply none other is = ap (λ (r : Reply). r.desk) is
stays_one form given desk.NoGame Entry line reply none other is = ap (λ (r : Reply). r.desk) is
stays_one form given desk.Refused Odd line reply none other is = ap (λ (r : Reply). r.desk) is
stays_one form given desk.Refused Blank line reply none other is = ap (λ (r : Reply). r.desk) is
stays_one form given desk.Refused (Begins words) line reply none other is = absurd (cc)
stays_one form given desk.Refused Undo line reply none other is = ap (λ (r : Reply). r.desk) is
stays_one form given desk.Refused Entry line reply none other is = ap (λ (r : Reply). r.desk) is
stays_one form given (desk.Game game) seen line reply none other is = absurd (cc)

stays : (form : GamesForm) (given : Rules) (now : GameDesk) (lines : List (List ℕ)) (replies : List Reply) (last : GameDesk) → has_state now ≡ false → BeginNone lines → AreReplies form given now lines replies last → last ≡ now
stays form given now [] replies last none others are = are.1
stays form given now (line ∷ lines) replies last none others are =
    let one : are.0.desk ≡ now = stays_one form given now (seen_in line) line are.0 none others.0 are.2 in
    stays form given now lines are.1 last none others.1 (subst (λ (d : GameDesk). AreReplies form given d lines are.1 last) one are.4)

-- ---- the line that the game at hand began with

-- the game of a text of games that has one
abbrev game_in : GameSoFar → GameDesk → GameSoFar
game_in other desk.NoGame = other
game_in other desk.Refused = other
game_in other (desk.Game game) = game

-- one line stands before
further : (form : GamesForm) (given : Rules) (next : List ℕ) (lines : List (List ℕ)) (game : GameSoFar) → IsAtHand form given lines game → IsAtHand form given (next ∷ lines) game
further form given next lines game at = record {
  front = next ∷ at.front;
  line = at.line;
  behind = at.behind;
  parts = ap (λ (rest : List (List ℕ)). next ∷ rest) at.parts;
  words = at.words;
  begins = at.begins;
  others = at.others;
  hand = at.hand;
  named = at.named;
  said = at.said;
  says = at.says;
  replies = at.replies;
  are = at.are;
  names = at.names;
  rules = at.rules;
  progress = at.progress;
}

begun_at : (form : GamesForm) (given : Rules) (line : List ℕ) (lines : List (List ℕ)) (words : List (List ℕ)) (hand : Option Rules) (said : Option GameSaid) (others : List Reply) (game : GameSoFar) → BeginNone lines → UndoNone lines
    → seen_in line ≡ Begins words → IsHandRules given (hand_rules_word words) hand → game_of hand words ≡ said → AreReplies form given (begun_desk said) lines others (desk.Game game) → IsAtHand form given (line ∷ lines) game
begun_at form given line lines words hand None others game none keep begins named says are =
    let same : desk.Game game ≡ desk.Refused = stays form given desk.Refused lines others (desk.Game game) refl none are in absurd (cc)
begun_at form given line lines words hand (Some said) others game none keep begins named says are =
    let reached = goes_on_by_outcomes form given (new_game said) lines others (desk.Game game) none keep are in
    let is : game ≡ gone_on (new_game said) reached.0 (outcomes_in others) (list_any refuses others) = ap (game_in game) reached.1 in
    record {
      front = [];
      line = line;
      behind = lines;
      parts = refl;
      words = words;
      begins = begins;
      others = none;
      hand = hand;
      named = named;
      said = said;
      says = says;
      replies = others;
      are = are;
      names = ap (λ (g : GameSoFar). g.names) is;
      rules = ap (λ (g : GameSoFar). g.rules) is;
      progress = ap (λ (g : GameSoFar). g.progress) is;
    }

begun_desk_of : (form : GamesForm) (first : GameDesk) (said : Option GameSaid) → (begin_reply form first said).desk ≡ begun_desk said
begun_desk_of form first None = refl
begun_desk_of form first (Some said) = refl

by_line : (form : GamesForm) (given : Rules) (first : GameDesk) (line : List ℕ) (lines : List (List ℕ)) (reply : Reply) (others : List Reply) (game : GameSoFar) (seen : LineOfGame) → BeginNone lines → UndoNone lines → seen_in line ≡ seen
    → IsReplyTo form given first seen line reply → AreReplies form given reply.desk lines others (desk.Game game) → BeginNone (line ∷ lines) ⊎ IsAtHand form given (line ∷ lines) game
by_line form given first line lines reply others game Odd none keep seen is are = inl (ap is_begin seen, none)
by_line form given first line lines reply others game Blank none keep seen is are = inl (ap is_begin seen, none)
by_line form given first line lines reply others game (Begins words) none keep seen is are =
    let behind : reply.desk ≡ begun_desk (game_of is.0 words) = ap (λ (r : Reply). r.desk) is.2 ∙ begun_desk_of form first (game_of is.0 words) in
    inr (begun_at form given line lines words is.0 (game_of is.0 words) others game none keep seen is.1 refl (subst (λ (d : GameDesk). AreReplies form given d lines others (desk.Game game)) behind are))
by_line form given first line lines reply others game Undo none keep seen is are = inl (ap is_begin seen, none)
by_line form given first line lines reply others game Entry none keep seen is are = inl (ap is_begin seen, none)

at_hand_from : (form : GamesForm) (given : Rules) (first : GameDesk) (lines : List (List ℕ)) (replies : List Reply) (game : GameSoFar) → UndoNone lines → AreReplies form given first lines replies (desk.Game game) → BeginNone lines ⊎ IsAtHand form given lines game
at_hand_from form given first [] replies game keep are = inl tt
at_hand_from form given first (line ∷ lines) replies game keep are =
    elim (at_hand_from form given are.0.desk lines are.1 game keep.1 are.4) as (λ _. BeginNone (line ∷ lines) ⊎ IsAtHand form given (line ∷ lines) game) [
      | inl none ↦ by_line form given first line lines are.0 are.1 game (seen_in line) none keep.1 refl are.2 are.4
      | inr at ↦ inr (further form given line lines game at)
    ]

pub game_comes_from_its_lines : GameComesFromItsLines
game_comes_from_its_lines is_numbered form given lines answers report game keep answered =
    elim (at_hand_from form given desk.NoGame lines answered.replies game keep answered.are) as (λ _. IsAtHand form given lines game) [
      | inl none ↦
          let same : desk.Game game ≡ desk.NoGame = stays form given desk.NoGame lines answered.replies (desk.Game game) refl none answered.are in absurd (cc)
      | inr at ↦ at
    ]
