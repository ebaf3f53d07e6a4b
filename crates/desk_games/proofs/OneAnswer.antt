-- What lines are answered follows from the lines.
use Rattle.std.proofs.Common.{◌≡◌, ℕ, List, [], ◌∷◌, map, Option, None, Some, refl, sym, subst, ap, ◌∙◌}
use Rattle.riichi_hand.specs.Rules.{Rules}
use Rattle.riichi_hand.proofs.RulesTexts.{names_one}
use Rattle.riichi_game_text.specs.GameLines.{game_of, hand_rules_word}
use Rattle.riichi_game_text.specs.TableWords.{IsHandRules}
use Rattle.desk_lines.specs.Telling.{report_of}
use Rattle.desk_games.specs.Replies.{LineOfGame, Odd, Blank, Begins, Undo, Entry, seen_in, Reply, begin_reply, IsReplyTo, AreReplies}
use Rattle.desk_games.specs.Texts.{answers_from, kind_in}
use Rattle.desk_games.specs.Laws.{AnswersAreOne}
use Rattle.desk_games.specs.declared.desk.GameDesk.{GameDesk}
use Rattle.desk_games.specs.declared.form.GamesForm.{GamesForm}

-- words name one set of rules, or none
rules_one : (given : Rules) (word : Option (List ℕ)) (one other : Option Rules) → IsHandRules given word one → IsHandRules given word other → one ≡ other
rules_one given None one other is also = is ∙ sym also
rules_one given (Some text) None None is also = refl
rules_one given (Some text) None (Some rules) is also = absurd (is rules also)
rules_one given (Some text) (Some rules) None is also = absurd (also rules is)
rules_one given (Some text) (Some rules) (Some others) is also = ap Some (names_one text rules others is also)

reply_one : (form : GamesForm) (given : Rules) (now : GameDesk) (seen : LineOfGame) (line : List ℕ) (one other : Reply) → IsReplyTo form given now seen line one → IsReplyTo form given now seen line other → one ≡ other
reply_one form given now Odd line one other is also = is ∙ sym also
reply_one form given now Blank line one other is also = is ∙ sym also
reply_one form given now (Begins words) line one other is also =
    is.2 ∙ ap (λ (hand : Option Rules). begin_reply form now (game_of hand words)) (rules_one given (hand_rules_word words) is.0 also.0 is.1 also.1) ∙ sym also.2
reply_one form given now Undo line one other is also = is ∙ sym also
reply_one form given now Entry line one other is also = is ∙ sym also

replies_one : (form : GamesForm) (given : Rules) (first : GameDesk) (lines : List (List ℕ)) (one other : List Reply) (last other_last : GameDesk) → AreReplies form given first lines one last → AreReplies form given first lines other other_last
    → (one ≡ other) × (last ≡ other_last)
replies_one form given first [] one other last other_last are also = (are.0 ∙ sym also.0, are.1 ∙ sym also.1)
replies_one form given first (line ∷ lines) one other last other_last are also =
    let same : are.0 ≡ also.0 = reply_one form given first (seen_in line) line are.0 also.0 are.2 also.2 in
    let rest = replies_one form given also.0.desk lines are.1 also.1 last other_last (subst (λ (r : Reply). AreReplies form given r.desk lines are.1 last) same are.4) also.4 in (
      are.3 ∙ ap (λ (r : Reply). r ∷ are.1) same ∙ ap (λ (rs : List Reply). also.0 ∷ rs) rest.0 ∙ sym also.3,
      rest.1,
    )

pub answers_are_one : AnswersAreOne
answers_are_one is_numbered form given first lines one other count other_count last other_last answers also =
    let same = replies_one form given first lines answers.replies also.replies last other_last answers.are also.are in (
      answers.answers_are ∙ ap (answers_from is_numbered 1) same.0 ∙ sym also.answers_are,
      answers.report_is ∙ ap (λ (rs : List Reply). report_of (map kind_in rs)) same.0 ∙ sym also.report_is,
      same.1,
    )
