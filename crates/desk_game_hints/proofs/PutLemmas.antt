-- What is put behind an answer.
use Rattle.std.proofs.Common.{◌≡◌, ℕ, List, [], ◌∷◌, ◌++◌, Option, sym, subst, ap, ◌∙◌}
use Rattle.std.specs.Prelude.{IfSome}
use Rattle.std.proofs.lemmas.List.{append-nil}
use Rattle.riichi_hand.specs.Rules.{Rules}
use Rattle.riichi_table.specs.declared.player.ByPlayer.{ByPlayer}
use Rattle.riichi_table.specs.declared.rules.TableRules.{TableRules}
use Rattle.riichi_game.specs.declared.game.Progress.{Progress}
use Rattle.riichi_game_text.specs.declared.fault.GameFault.{GameFault}
use Rattle.riichi_game_hints.specs.Hints.{IsGameHint}
use Rattle.riichi_game_hints.specs.Begins.{IsBeginHint}
use Rattle.desk_lines.specs.Telling.{with_line_feed}
use Rattle.desk_games.specs.Played.{GameSoFar}
use Rattle.desk_games.specs.declared.desk.GameDesk.{GameDesk}
use Rattle.desk_games.specs.declared.desk.GameDesk.TheVariants as desk
use Rattle.desk_game_hints.specs.Hinted.{IsHintFor}

-- nothing is put
pub none_put : (P : List ℕ → Type 0) (old : List ℕ) → (hint : Option (List ℕ)) × IfSome hint P × (old ≡ old ++ with_line_feed hint)
none_put P old = (Option.None, tt, sym (append-nil old))

-- a text is put that was written where nothing stood
pub one_put : (P : List ℕ → Type 0) (old new before text said : List ℕ) → before ≡ [] → text ≡ before ++ said → new ≡ old ++ (text ++ 10 ∷ []) → P said → (hint : Option (List ℕ)) × IfSome hint P × (new ≡ old ++ with_line_feed hint)
one_put P old new before text said empty written put is =
    let same : text ≡ said = written ∙ ap (λ (front : List ℕ). front ++ said) empty in
    (Option.Some said, is, put ∙ ap (λ (told : List ℕ). old ++ (told ++ 10 ∷ [])) same)

-- what holds of each text that is put may be said in other words
pub put_so : (P Q : List ℕ → Type 0) (old new : List ℕ) → ((text : List ℕ) → P text → Q text) → ((hint : Option (List ℕ)) × IfSome hint P × (new ≡ old ++ with_line_feed hint)) → (hint : Option (List ℕ)) × IfSome hint Q × (new ≡ old ++ with_line_feed hint)
put_so P Q old new so (Option.None, is, put) = (Option.None, is, put)
put_so P Q old new so (Option.Some text, is, put) = (Option.Some text, so text is, put)

-- a hint to a line of a game is one where that game is at hand
pub game_hint : (given : Rules) (now : GameDesk) (game : GameSoFar) (names : ByPlayer (List ℕ)) (progress : Progress) (rules : TableRules) (line : List ℕ) (fault : GameFault) (old new : List ℕ)
    → now ≡ desk.Game game → names ≡ game.names → progress ≡ game.progress → rules ≡ game.rules
    → ((said : List ℕ) × IsGameHint names progress rules line fault said × (new ≡ old ++ said)) → (said : List ℕ) × IsHintFor given now line fault said × (new ≡ old ++ said)
game_hint given now game names progress rules line fault old new is names_are progress_is rules_are told = (
  told.0,
  subst (λ (d : GameDesk). IsHintFor given d line fault told.0) (sym is)
      (subst (λ (ns : ByPlayer (List ℕ)). IsGameHint ns game.progress game.rules line fault told.0) names_are
      (subst (λ (p : Progress). IsGameHint names p game.rules line fault told.0) progress_is
      (subst (λ (rs : TableRules). IsGameHint names progress rs line fault told.0) rules_are told.1))),
  told.2,
)

begin_hint : (given then : Rules) (line : List ℕ) (fault : GameFault) (old new : List ℕ) → then ≡ given
    → ((said : List ℕ) × IsBeginHint then fault said × (new ≡ old ++ said)) → (said : List ℕ) × IsBeginHint given fault said × (new ≡ old ++ said)
begin_hint given then line fault old new same told = (told.0, subst (λ (rules : Rules). IsBeginHint rules fault told.0) same told.1, told.2)

pub no_game_hint : (given then : Rules) (now : GameDesk) (line : List ℕ) (fault : GameFault) (old new : List ℕ) → now ≡ desk.NoGame → then ≡ given
    → ((said : List ℕ) × IsBeginHint then fault said × (new ≡ old ++ said)) → (said : List ℕ) × IsHintFor given now line fault said × (new ≡ old ++ said)
no_game_hint given then now line fault old new is same told =
    subst (λ (d : GameDesk). (said : List ℕ) × IsHintFor given d line fault said × (new ≡ old ++ said)) (sym is) (begin_hint given then line fault old new same told)

pub refused_hint : (given then : Rules) (now : GameDesk) (line : List ℕ) (fault : GameFault) (old new : List ℕ) → now ≡ desk.Refused → then ≡ given
    → ((said : List ℕ) × IsBeginHint then fault said × (new ≡ old ++ said)) → (said : List ℕ) × IsHintFor given now line fault said × (new ≡ old ++ said)
refused_hint given then now line fault old new is same told =
    subst (λ (d : GameDesk). (said : List ℕ) × IsHintFor given d line fault said × (new ≡ old ++ said)) (sym is) (begin_hint given then line fault old new same told)
