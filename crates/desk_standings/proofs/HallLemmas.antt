-- Games in turn, once one more is taken or isn't.
use Rattle.std.proofs.Common.{◌≡◌, ◌∙◌, ℕ, ◌+◌, ◌<◌, List, [], ◌∷◌, ◌++◌, length, take, drop, get_or, refl, subst, sym, ap}
use Rattle.std.proofs.lemmas.List.{take_more, drop_more, take-append-drop}
use Rattle.desk_standings.specs.Halls.{Held, CanTake, TakesInTurn, with_ended, IsLeftAlone, StopsAt}
use Rattle.desk_standings.specs.declared.ended.EndedGame.{EndedGame}
use Rattle.desk_standings.specs.declared.trouble.Why.{Why}

takes_more : (held mid : Held) (games : List EndedGame) (game : EndedGame) → TakesInTurn held games mid → CanTake mid game → TakesInTurn held (games ++ game ∷ []) (with_ended mid game)
takes_more held mid [] game taken can = (subst (λ (now : Held). CanTake now game) taken can, ap (λ (now : Held). with_ended now game) taken)
takes_more held mid (first ∷ games) game taken can = (taken.0, takes_more (with_ended held first) mid games game taken.1 can)

pub takes_next : (held mid new : Held) (games : List EndedGame) (i : ℕ) (game : EndedGame) → i < length games → game ≡ get_or games i game → TakesInTurn held (take i games) mid → CanTake mid game → new ≡ with_ended mid game
    → TakesInTurn held (take (i + 1) games) new
takes_next held mid new games i game inside is taken can with =
    let more = takes_more held mid (take i games) game taken can in
    let same : take i games ++ game ∷ [] ≡ take (i + 1) games = ap (λ (x : EndedGame). take i games ++ x ∷ []) is ∙ sym (take_more games i game inside) in
    subst (TakesInTurn held (take (i + 1) games)) (sym with) (subst (λ (front : List EndedGame). TakesInTurn held front (with_ended mid game)) same more)

pub stops_there : (held mid last : Held) (games : List EndedGame) (i : ℕ) (game : EndedGame) (why : Why) → i < length games → game ≡ get_or games i game → TakesInTurn held (take i games) mid → IsLeftAlone mid game why last → StopsAt held games why last
stops_there held mid last games i game why inside is taken left = record {
  front = take i games;
  game = game;
  behind = drop (i + 1) games;
  parts = sym (take-append-drop i games) ∙ ap (λ (rest : List EndedGame). take i games ++ rest) (drop_more games i game inside ∙ ap (λ (x : EndedGame). x ∷ drop (i + 1) games) (sym is));
  before = mid;
  taken = taken;
  left = left;
}
