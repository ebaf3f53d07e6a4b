-- The final points of a game that is over.
use Rattle.std.proofs.Common.{◌≡◌, ◌∙◌, ℕ, ◌+◌, ◌*◌, ◌≤◌, List, Bool, true, false, cond, Option, None, Some, refl, sym, ap, subst, arith}
use Rattle.std.specs.Prelude.{nat_le, nat_lt, not, ◌&&◌, ◌||◌, ◌==◌, ◌%◌, is_some, if◌then◌else◌, ℤ, pos, ◌+ℤ◌}
use Rattle.std.specs.Ordering.{int_eq}
use Rattle.std.proofs.lemmas.Bool.{and_parts}
use Rattle.std.proofs.lemmas.Bool.Decides.{nat_tests, Decides-int_eq}
use Rattle.std.proofs.lemmas.Int.{ints}
use Rattle.riichi_hand.specs.Rules.{Rules}
use Rattle.riichi_table.specs.Players.{of_player, over_players, sum_over_players}
use Rattle.riichi_table.specs.RulesFaults.{is_points, points_or_0, cost_points, has_points, has_steps, rises, uma_sum, uma_fault, rules_fault}
use Rattle.riichi_table.specs.States.{all_points}
use Rattle.riichi_table.specs.declared.player.ByPlayer.{ByPlayer}
use Rattle.riichi_table.specs.declared.rules.ByPlace.{ByPlace}
use Rattle.riichi_table.specs.declared.rules.TableRules.{TableRules}
use Rattle.riichi_table.specs.declared.rules_fault.RulesFault.{RulesFault}
use Rattle.riichi_table.specs.declared.state.GameState.{GameState}
use Rattle.riichi_game.specs.Games.{first_progress, after_all}
use Rattle.riichi_game.specs.Laws.{HasAll}
use Rattle.riichi_game.specs.declared.game.Progress.{Progress}
use Rattle.riichi_game.proofs.Totals.{first_has_all, keep_all}
use Rattle.riichi_places.specs.Finals.{for_sticks}
use Rattle.riichi_places.specs.declared.finals.FinalPoints.{FinalPoints}
use Rattle.riichi_places.proofs.Ended.{finals_add_up_to_nothing}
use Rattle.riichi_game_text.specs.GameLines.{GameSaid, game_with, game_of}
use Rattle.riichi_game_text.specs.TableWords.{has_twice, with_hand, preset_of, change_by_all, if_faultless, table_rules_of}
use Rattle.riichi_game_text.specs.Words.{rule_words}
use Rattle.desk_lines.specs.Lines.{lines}
use Rattle.desk_games.specs.Desks.{finals}
use Rattle.desk_games.specs.Laws.{IsAtHand, outcomes_in}
use Rattle.desk_games.specs.Played.{GameSoFar}
use Rattle.desk_games.specs.declared.form.GamesForm.TheVariants.{Answers}
use Rattle.desk_games.proofs.AtHand.{game_comes_from_its_lines}
use Rattle.desk_standings.specs.Ended.{EndsGame}
use Rattle.desk_standings.specs.Laws.{LosesNothing, game_sum, GamesAddUpToNothing}
use Rattle.desk_standings.specs.declared.ended.EndedGame.{EndedGame}

-- ---- the rules that a line `game` says have no fault

rules_said : (names : Option (ByPlayer (List ℕ))) (rules : Option TableRules) (words : List (List ℕ)) (said : GameSaid) → game_with names rules words ≡ Some said → rules ≡ Some said.rules
rules_said None rules words said is = absurd (cc)
rules_said (Some names) None words said is = absurd (cc)
rules_said (Some names) (Some rules) words said is = cc

faultless : (rules : Option TableRules) (found : TableRules) → if_faultless rules ≡ Some found → rules_fault found ≡ None
faultless None found is = absurd (cc)
faultless (Some rules) found is = by_test (rules_fault rules) refl is
  where
    by_test : (fault : Option RulesFault) → rules_fault rules ≡ fault → (if is_some fault then None else Some rules) ≡ Some found → rules_fault found ≡ None
    by_test None none same = let one : rules ≡ found = cc in ap rules_fault (sym one) ∙ none
    by_test (Some fault) some same = absurd (cc)

of_words : (hand : Option Rules) (words : List (List ℕ)) (found : TableRules) → table_rules_of hand words ≡ Some found → rules_fault found ≡ None
unfolding table_rules_of
of_words hand words found is = by_test (has_twice words) is
  where
    by_test : (twice : Bool) → (if twice then None else if_faultless (change_by_all words (with_hand hand (preset_of words)))) ≡ Some found → rules_fault found ≡ None
    by_test true none = absurd (cc)
    by_test false some = faultless (change_by_all words (with_hand hand (preset_of words))) found some

said_faultless : (hand : Option Rules) (words : List (List ℕ)) (said : GameSaid) → game_of hand words ≡ Some said → rules_fault said.rules ≡ None
said_faultless hand words said is = of_words hand (rule_words words) said.rules (rules_said _ (table_rules_of hand (rule_words words)) words said is)

-- ---- what that says of them

no_fault : {F : Type 0} (points low less : Bool) (f g h : F) (rest : Option F) → (if not points then Some f else if low then Some g else if less then Some h else rest) ≡ None → (points ≡ true) × (rest ≡ None)
no_fault true false false f g h rest none = (refl, none)
no_fault true false true f g h rest none = absurd (cc)
no_fault true true less f g h rest none = absurd (cc)
no_fault false low less f g h rest none = absurd (cc)

no_sum_fault : {F : Type 0} (steps rising sums : Bool) (f g h : F) → (if not steps then Some f else if rising then Some g else if not sums then Some h else None) ≡ None → sums ≡ true
no_sum_fault true false true f g h none = refl
no_sum_fault true false false f g h none = absurd (cc)
no_sum_fault true true sums f g h none = absurd (cc)
no_sum_fault false rising sums f g h none = absurd (cc)

start_small : (rules : TableRules) → has_points rules ≡ true → rules.start ≤ 1000000
unfolding has_points is_points
start_small rules is =
    let abc = and_parts (is_points rules.start && is_points rules.returns && is_points (points_or_0 rules.extra)) (is_points (cost_points rules.chombo)) is in
    let ab = and_parts (is_points rules.start && is_points rules.returns) (is_points (points_or_0 rules.extra)) abc.0 in
    let a = and_parts (is_points rules.start) (is_points rules.returns) ab.0 in
    let most = and_parts (nat_le rules.start 1000000) (rules.start % 100 == 0) a.0 in
    grind (arith, nat_tests)

uma_nothing : (uma : ByPlace ℤ) → uma_fault uma ≡ None → uma_sum uma ≡ pos 0
unfolding uma_fault
uma_nothing uma none = (Decides-int_eq (uma_sum uma) (pos 0)).0 (no_sum_fault (has_steps uma) (rises uma) (int_eq (uma_sum uma) (pos 0)) _ _ _ none)

-- ---- the final points

sums_to_nothing : (game : GameSoFar) → rules_fault game.rules ≡ None → HasAll game.rules game.progress.state → LosesNothing game → sum_over_players (λ player. (of_player (finals game) player).total) ≡ pos 0
unfolding all_points
sums_to_nothing game none all nothing =
    let parts = no_fault (has_points game.rules) (nat_lt game.rules.start 100) (nat_lt game.rules.returns game.rules.start) _ _ _ (uma_fault game.rules.uma) none in
    let sticks = ap (λ (n : ℕ). sum_over_players (of_player game.progress.state.points) +ℤ pos n) nothing.sticks in
    let sums = finals_add_up_to_nothing game.rules game.progress.state game.progress.penalties (uma_nothing game.rules.uma parts.1) (sticks ∙ all) in
    let penalties = nothing.penalties in
    omega (arith, ints)

pub games_add_up_to_nothing : GamesAddUpToNothing
games_add_up_to_nothing given text rest ended ends kept nothing =
    let game = ends.game in
    let played = ends.played in
    let hand : IsAtHand Answers given (lines played.front) game = game_comes_from_its_lines false Answers given (lines played.front) played.answers played.report game kept played.answered in
    let rules = hand.said.rules in
    let none : rules_fault rules ≡ None = said_faultless hand.hand hand.words hand.said hand.says in
    let parts = no_fault (has_points rules) (nat_lt rules.start 100) (nat_lt rules.returns rules.start) _ _ _ (uma_fault rules.uma) none in
    let all : HasAll rules (after_all (first_progress rules) rules (outcomes_in hand.replies)).state = keep_all (first_progress rules) rules (outcomes_in hand.replies) (first_has_all rules (start_small rules parts.0)) in
    let now : HasAll rules game.progress.state = subst (λ (progress : Progress). HasAll rules progress.state) (sym hand.progress) all in
    let own : HasAll game.rules game.progress.state = subst (λ (own : TableRules). HasAll own game.progress.state) (sym hand.rules) now in
    let sums = sums_to_nothing game (ap rules_fault hand.rules ∙ none) own nothing in
    ap (λ (all : ByPlayer FinalPoints). sum_over_players (λ player. (of_player all player).total)) ends.is_over.end.finals_are ∙ sums
