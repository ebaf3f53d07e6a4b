-- The games of a text, once one more is read.
use Rattle.std.proofs.Common.{◌≡◌, ◌⊎◌, inl, inr, ℕ, List, [], ◌∷◌, ◌++◌, subst, sym}
use Rattle.riichi_hand.specs.Rules.{Rules}
use Rattle.desk_games.specs.Playing.{PlaysGame}
use Rattle.desk_games.specs.declared.desk.GameDesk.{GameDesk}
use Rattle.desk_games.specs.declared.desk.GameDesk.TheVariants.{NoGame, Refused, Game}
use Rattle.desk_standings.specs.Ended.{EndsGames, Stops, Skips, Ends, EndsGame, SkipsLines, IsNext, IsFaultOf, IsFaultOrWant, HasFault, IsTroubleIn}
use Rattle.desk_standings.specs.declared.ended.EndedGame.{EndedGame}
use Rattle.desk_standings.specs.declared.trouble.Why.{Why}
use Rattle.desk_standings.specs.declared.trouble.Why.TheVariants as why

pub ends_more : {given : Rules} {mid text after : List ℕ} {games : List EndedGame} (game : EndedGame) → EndsGames given mid text games → EndsGame given mid game after → EndsGames given after text (games ++ game ∷ [])
ends_more game Stops next = Ends _ _ _ _ next Stops
ends_more game (Skips text after games skips rest) next = Skips text after _ skips (ends_more game rest next)
ends_more game (Ends text after first games ends rest) next = Ends text after first _ ends (ends_more game rest next)

pub skips_more : {given : Rules} {mid text after : List ℕ} {games : List EndedGame} → EndsGames given mid text games → SkipsLines given mid after → EndsGames given after text games
skips_more Stops next = Skips _ _ _ next Stops
skips_more (Skips text after games skips rest) next = Skips text after _ skips (skips_more rest next)
skips_more (Ends text after first games ends rest) next = Ends text after first _ ends (skips_more rest next)

no_game_fault : (given : Rules) (text : List ℕ) (desk : GameDesk) (refused : ℕ) → IsFaultOf given text desk refused why.NoGame → ⊥
no_game_fault given text NoGame refused fault = fault.1
no_game_fault given text Refused refused fault = fault
no_game_fault given text (Game game) refused fault = fault

-- behind games that are over come lines at fault
pub trouble_behind : (given : Rules) (text rest after : List ℕ) (games : List EndedGame) (desk : GameDesk) (count refused : ℕ) (reason : Why) → EndsGames given rest text games → PlaysGame given rest desk count refused after
    → IsFaultOf given rest desk refused reason → IsTroubleIn given text reason
trouble_behind given text rest after games desk count refused why.NoGame before played fault = absurd (no_game_fault given rest desk refused fault)
trouble_behind given text rest after games desk count refused why.Memory before played fault = tt
trouble_behind given text rest after games desk count refused reason before played fault =
    record { games = games; rest = rest; before = before; desk = desk; count = count; refused = refused; after = after; played = played; fault = fault }

pub trouble_or_want : (given : Rules) (text rest after : List ℕ) (games : List EndedGame) (desk : GameDesk) (count refused : ℕ) (reason : Why) → EndsGames given rest text games → PlaysGame given rest desk count refused after
    → IsFaultOrWant given rest desk refused reason → IsTroubleIn given text reason
trouble_or_want given text rest after games desk count refused reason before played (inl want) = subst (IsTroubleIn given text) (sym want) tt
trouble_or_want given text rest after games desk count refused reason before played (inr fault) = trouble_behind given text rest after games desk count refused reason before played fault

-- the games of a text up to a place, and the lines there
pub next_more : {given : Rules} {text mid after : List ℕ} (games new : List EndedGame) → EndsGames given mid text games → IsNext given mid after games new → EndsGames given after text new
next_more {given} {text} {mid} {after} games new before (inl skips) = subst (EndsGames given after text) (sym skips.1) (skips_more before skips.0)
next_more {given} {text} {mid} {after} games new before (inr ends) = subst (EndsGames given after text) (sym ends.2) (ends_more ends.0 before ends.1)

pub none_yet : {given : Rules} {text : List ℕ} (games : List EndedGame) → games ≡ [] → EndsGames given text text games
none_yet {given} {text} games none = subst (EndsGames given text text) (sym none) Stops

-- of a text that is at its end
pub all_ended : {given : Rules} {text rest : List ℕ} {games : List EndedGame} → EndsGames given rest text games → rest ≡ [] → EndsGames given [] text games
all_ended {given} {text} {rest} {games} before none = subst (λ (left : List ℕ). EndsGames given left text games) none before

-- lines of which none is refused and none begins a game
pub skips_none : (given : Rules) (text rest : List ℕ) (desk : GameDesk) (count refused : ℕ) → PlaysGame given text desk count refused rest → desk ≡ NoGame → refused ≡ 0 → SkipsLines given text rest
skips_none given text rest desk count refused played is none =
    (count, subst (λ (d : GameDesk). PlaysGame given text d count 0 rest) is (subst (λ (n : ℕ). PlaysGame given text desk count n rest) none played))
