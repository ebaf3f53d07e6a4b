-- One more line is answered, with a hint or without.
use Rattle.std.proofs.Common.{◌≡◌, ℕ, ◌+◌, List, [], ◌∷◌, ◌++◌, map, length, Bool, Option, refl, sym, subst, ap, ◌∙◌, append_assoc, arith}
use Rattle.std.specs.Prelude.{IfSome}
use Rattle.std.specs.List.{cons_option}
use Rattle.std.proofs.lemmas.List.{append-nil, map-append, length-map}
use Rattle.riichi_hand.specs.Rules.{Rules}
use Rattle.desk_lines.specs.declared.line_kind.LineKind.{LineKind}
use Rattle.desk_lines.specs.declared.report.DeskReport.{DeskReport}
use Rattle.desk_lines.specs.Telling.{IsToldAs, answers_in, report_of, report_with, with_line_feed}
use Rattle.desk_game_hints.specs.Hinted.{IsHint, HasHint, HaveHints, text_with, hinted_from, replies_in, HintsLines, HasToldHinted}
use Rattle.desk_games.specs.Replies.{Reply, IsReply, AreReplies}
use Rattle.desk_games.specs.Texts.{text_of_reply, number_if, kind_in}
use Rattle.desk_games.specs.Tellers.{TellsAlike}
use Rattle.desk_games.specs.declared.desk.GameDesk.{GameDesk}
use Rattle.desk_games.specs.declared.form.GamesForm.{GamesForm}
use Rattle.desk_game_hints.specs.declared.hinted.HintedGames.{HintedGames}
use Rattle.desk_games.proofs.ReplyLemmas.{onto_both, reply_as, replies_last, replies_length, kinds_last}

-- the answer and the hint are lines, one behind the other
pub both_lines : (answer hint : Option (List ℕ)) → with_line_feed answer ++ with_line_feed hint ≡ with_line_feed (text_with answer hint)
both_lines Option.None Option.None = refl
both_lines (Option.Some answer) Option.None = append-nil (answer ++ 10 ∷ [])
both_lines Option.None (Option.Some hint) = refl
both_lines (Option.Some answer) (Option.Some hint) = append_assoc answer (10 ∷ []) (hint ++ 10 ∷ []) ∙ sym (append_assoc answer (10 ∷ hint) (10 ∷ []))

hinted_last : (is_numbered : Bool) (number last : ℕ) (hinted : List (Reply × Option (List ℕ))) (next : Reply × Option (List ℕ)) → last ≡ number + length hinted
    → hinted_from is_numbered number (hinted ++ next ∷ []) ≡ hinted_from is_numbered number hinted ++ answers_in (text_with (text_of_reply (number_if is_numbered last) next.0) next.1)
hinted_last is_numbered number last [] next is =
    let same : number ≡ last = grind (arith, is) in ap (λ (n : ℕ). answers_in (text_with (text_of_reply (number_if is_numbered n) next.0) next.1)) same
hinted_last is_numbered number last (one ∷ hinted) next is =
    let told = text_with (text_of_reply (number_if is_numbered number) one.0) one.1 in
    ap (cons_option told) (hinted_last is_numbered (number + 1) last hinted next (grind (arith, is)))
    ∙ onto_both told (hinted_from is_numbered (number + 1) hinted) (answers_in (text_with (text_of_reply (number_if is_numbered last) next.0) next.1))

replies_more : (hinted : List (Reply × Option (List ℕ))) (next : Reply × Option (List ℕ)) → replies_in (hinted ++ next ∷ []) ≡ replies_in hinted ++ next.0 ∷ []
replies_more hinted next = map-append (λ (one : Reply × Option (List ℕ)). one.0) hinted (next ∷ [])

-- ---- one more hint

hints_last : (given : Rules) (lines : List (List ℕ)) (line : List ℕ) (hinted : List (Reply × Option (List ℕ))) (next : Reply × Option (List ℕ)) → HaveHints given lines hinted → HasHint given line next
    → HaveHints given (lines ++ line ∷ []) (hinted ++ next ∷ [])
hints_last given [] line hinted next are is = (next, [], is, ap (λ (hs : List (Reply × Option (List ℕ))). hs ++ next ∷ []) are, refl)
hints_last given (one ∷ lines) line hinted next are is = (
  are.0,
  are.1 ++ next ∷ [],
  are.2,
  ap (λ (hs : List (Reply × Option (List ℕ))). hs ++ next ∷ []) are.3,
  hints_last given lines line are.1 next are.4 is,
)

-- a line may have the hint to the one that it is told as
hint_as : (given : Rules) (line next : List ℕ) (reply : Reply) (hint : Option (List ℕ)) → IsToldAs 4096 line next → IfSome hint (λ text. IsHint given reply line text) → HasHint given next (reply, hint)
hint_as given line next reply Option.None as_this is = is
hint_as given line next reply (Option.Some text) as_this is = (line, as_this, is)

-- one more line is answered
pub hints_line : (is_numbered : Bool) (form : GamesForm) (given : Rules) (first old new : GameDesk) (lines told : List (List ℕ)) (report : DeskReport) (number : ℕ) (line next : List ℕ) (reply : Reply) (hint : Option (List ℕ)) (kind : LineKind)
    → number ≡ length lines + 1 → IsToldAs 4096 line next → HintsLines is_numbered form given first lines told report old → IsReply form given old line reply → kind ≡ reply.kind → new ≡ reply.desk → IfSome hint (λ text. IsHint given reply line text)
    → HintsLines is_numbered form given first (lines ++ next ∷ []) (told ++ answers_in (text_with (text_of_reply (number_if is_numbered number) reply) hint)) (report_with report kind) new
hints_line is_numbered form given first old new lines told report number line next reply hint kind counted as_this before is kind_is desk_is hints =
    let hinted = before.hinted in
    let count = replies_length form given first old lines (replies_in hinted) before.are in
    let as_many : length (replies_in hinted) ≡ length hinted = length-map hinted (λ (one : Reply × Option (List ℕ)). one.0) in
    let more = replies_more hinted (reply, hint) in
    let are = replies_last form given first old lines next (replies_in hinted) reply before.are (reply_as form given old line next reply as_this is) in
    record {
      hinted = hinted ++ (reply, hint) ∷ [];
      are = subst (λ (d : GameDesk). AreReplies form given first (lines ++ next ∷ []) (replies_in (hinted ++ (reply, hint) ∷ [])) d) (sym desk_is)
          (subst (λ (rs : List Reply). AreReplies form given first (lines ++ next ∷ []) rs reply.desk) (sym more) are);
      hints = hints_last given lines next hinted (reply, hint) before.hints (hint_as given line next reply hint as_this hints);
      told_are = ap (λ (ts : List (List ℕ)). ts ++ answers_in (text_with (text_of_reply (number_if is_numbered number) reply) hint)) before.told_are
          ∙ sym (hinted_last is_numbered 1 number hinted (reply, hint) (omega (arith, counted, count, as_many)));
      report_is = ap (λ (r : DeskReport). report_with r kind) before.report_is ∙ ap (report_with (report_of (map kind_in (replies_in hinted)))) kind_is
          ∙ sym (kinds_last (replies_in hinted) reply) ∙ ap (λ (rs : List Reply). report_of (map kind_in rs)) (sym more);
    }

-- one more line was told
pub tells_hinted_line : (first old new : HintedGames) (lines told : List (List ℕ)) (report : DeskReport) (number : ℕ) (front : Option ℕ) (line next : List ℕ) (reply : Reply) (hint : Option (List ℕ)) (kind : LineKind)
    → front ≡ number_if old.games.is_numbered number → TellsAlike new.games old.games → IsReply old.games.form old.games.given old.games.desk line reply → kind ≡ reply.kind → new.games.desk ≡ reply.desk → IfSome hint (λ text. IsHint old.games.given reply line text)
    → number ≡ length lines + 1 → IsToldAs 4096 line next → HasToldHinted first old lines told report
    → HasToldHinted first new (lines ++ next ∷ []) (told ++ answers_in (text_with (text_of_reply front reply) hint)) (report_with report kind)
tells_hinted_line first old new lines told report number front line next reply hint kind front_is same is kind_is desk_is hints counted as_this tells = (
  (same.0 ∙ tells.0.0, same.1 ∙ tells.0.1, same.2 ∙ tells.0.2),
  subst (λ (f : Option ℕ). HintsLines first.games.is_numbered first.games.form first.games.given first.games.desk (lines ++ next ∷ []) (told ++ answers_in (text_with (text_of_reply f reply) hint)) (report_with report kind) new.games.desk)
      (sym (front_is ∙ ap (λ (b : Bool). number_if b number) tells.0.1))
      (hints_line first.games.is_numbered first.games.form first.games.given first.games.desk old.games.desk new.games.desk lines told report number line next reply hint kind counted as_this tells.1
      (subst (λ (form : GamesForm). IsReply form first.games.given old.games.desk line reply) tells.0.2
      (subst (λ (rules : Rules). IsReply old.games.form rules old.games.desk line reply) tells.0.0 is)) kind_is desk_is
      (subst (λ (rules : Rules). IfSome hint (λ (text : List ℕ). IsHint rules reply line text)) tells.0.0 hints)),
)

-- before the first line
pub hints_none : (is_numbered : Bool) (form : GamesForm) (given : Rules) (first : GameDesk) → HintsLines is_numbered form given first [] [] (report_of []) first
hints_none is_numbered form given first = record { hinted = []; are = (refl, refl); hints = refl; told_are = refl; report_is = refl }
