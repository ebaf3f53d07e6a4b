-- What lines come to, once one more of them is read.
use Rattle.std.proofs.Common.{◌≡◌, ℕ, ◌+◌, ◌<◌, inl, inr, List, [], ◌∷◌, ◌++◌, map, length, Bool, true, false, Option, refl, sym, subst, ap, ◌∙◌, append_assoc, arith}
use Rattle.std.specs.Prelude.{nat_lt, codes, if◌then◌else◌}
use Rattle.std.specs.Str.{bytes_eq}
use Rattle.std.specs.List.{cons_option}
use Rattle.std.proofs.lemmas.List.{map-append}
use Rattle.riichi_hand.specs.Rules.{Rules}
use Rattle.riichi_game_text.specs.Entries.{is_odd}
use Rattle.riichi_game_text.specs.Words.{said_in}
use Rattle.riichi_game_text.specs.declared.fault.GameFault.TheVariants.{G1}
use Rattle.desk_lines.specs.declared.line_kind.LineKind.{LineKind}
use Rattle.desk_lines.specs.declared.report.DeskReport.{DeskReport}
use Rattle.desk_lines.specs.Telling.{IsToldAs, answers_in, report_of, report_with}
use Rattle.desk_lines.proofs.TellingLemmas.{report_of_more}
use Rattle.desk_games.specs.Replies.{LineOfGame, Odd, Blank, Begins, Undo, Entry, says_undo, line_of_words, seen_in, Reply, blank_reply, refusal, undo_reply, other_reply, IsReply, IsReplyTo, AreReplies}
use Rattle.desk_games.specs.Texts.{text_of_reply, number_if, answers_from, kind_in, PutsReply, AnswersLines}
use Rattle.desk_games.specs.Tellers.{TellsAlike, HasTold}
use Rattle.desk_games.specs.declared.desk.GameDesk.{GameDesk}
use Rattle.desk_games.specs.declared.form.GamesForm.{GamesForm}
use Rattle.desk_games.specs.declared.games.Games.{Games}

-- ---- what a line is

seen_odd : (line : List ℕ) → is_odd line ≡ true → seen_in line ≡ Odd
seen_odd line odd = ap (λ (b : Bool). if b then Odd else line_of_words (said_in line)) odd

seen_by : (line : List ℕ) (words : List (List ℕ)) → is_odd line ≡ false → said_in line ≡ words → seen_in line ≡ line_of_words words
seen_by line words even said = ap (λ (b : Bool). if b then Odd else line_of_words (said_in line)) even ∙ ap line_of_words said

begins_if : (first : List ℕ) (words : List (List ℕ)) (is : Bool) → bytes_eq first (codes "game") ≡ is → line_of_words (first ∷ words) ≡ (if is then Begins words else if says_undo first words then Undo else Entry)
begins_if first words is same = ap (λ (b : Bool). if b then Begins words else if says_undo first words then Undo else Entry) same

undoes_if : (first : List ℕ) (words : List (List ℕ)) (is : Bool) → bytes_eq first (codes "game") ≡ false → says_undo first words ≡ is → line_of_words (first ∷ words) ≡ (if is then Undo else Entry)
undoes_if first words is other same = begins_if first words false other ∙ ap (λ (b : Bool). if b then Undo else Entry) same

reply_by : (form : GamesForm) (given : Rules) (now : GameDesk) (line : List ℕ) (seen : LineOfGame) (reply : Reply) → seen_in line ≡ seen → IsReplyTo form given now seen line reply → IsReply form given now line reply
reply_by form given now line seen reply seen_is is = subst (λ (s : LineOfGame). IsReplyTo form given now s line reply) (sym seen_is) is

pub odd_reply : (form : GamesForm) (given : Rules) (now : GameDesk) (line : List ℕ) → is_odd line ≡ true → IsReply form given now line (refusal form now G1)
odd_reply form given now line odd = reply_by form given now line Odd (refusal form now G1) (seen_odd line odd) refl

pub no_reply : (form : GamesForm) (given : Rules) (now : GameDesk) (line : List ℕ) → is_odd line ≡ false → said_in line ≡ [] → IsReply form given now line (blank_reply form now)
no_reply form given now line even said = reply_by form given now line Blank (blank_reply form now) (seen_by line [] even said) refl

pub begin_replied : (form : GamesForm) (given : Rules) (now : GameDesk) (line first rest : List ℕ) (reply : Reply) → is_odd line ≡ false → said_in line ≡ first ∷ said_in rest → bytes_eq first (codes "game") ≡ true
    → IsReplyTo form given now (Begins (said_in rest)) rest reply → IsReply form given now line reply
begin_replied form given now line first rest reply even said same is =
    reply_by form given now line (Begins (said_in rest)) reply (seen_by line (first ∷ said_in rest) even said ∙ begins_if first (said_in rest) true same) is

pub undo_replied : (form : GamesForm) (given : Rules) (now : GameDesk) (line first rest : List ℕ) → is_odd line ≡ false → said_in line ≡ first ∷ said_in rest → bytes_eq first (codes "game") ≡ false
    → says_undo first (said_in rest) ≡ true → IsReply form given now line (undo_reply form now)
undo_replied form given now line first rest even said other undo =
    reply_by form given now line Undo (undo_reply form now) (seen_by line (first ∷ said_in rest) even said ∙ undoes_if first (said_in rest) true other undo) refl

pub entry_replied : (form : GamesForm) (given : Rules) (now : GameDesk) (line first rest : List ℕ) → is_odd line ≡ false → said_in line ≡ first ∷ said_in rest → bytes_eq first (codes "game") ≡ false
    → says_undo first (said_in rest) ≡ false → IsReply form given now line (other_reply form now line)
entry_replied form given now line first rest even said other keeps =
    reply_by form given now line Entry (other_reply form now line) (seen_by line (first ∷ said_in rest) even said ∙ undoes_if first (said_in rest) false other keeps) refl

-- the answer to a line `game` stands behind the end of the game before it
pub put_behind_end : (before mid after ended answer : List ℕ) → mid ≡ before ++ ended → after ≡ mid ++ (answer ++ 10 ∷ []) → after ≡ before ++ ((ended ++ answer) ++ 10 ∷ [])
put_behind_end before mid after ended answer first second =
    second ∙ ap (λ (front : List ℕ). front ++ (answer ++ 10 ∷ [])) first ∙ append_assoc before ended (answer ++ 10 ∷ [])
    ∙ ap (λ (rest : List ℕ). before ++ rest) (sym (append_assoc ended answer (10 ∷ [])))

-- ---- lines that are too long

long_is_odd : (line : List ℕ) → 4096 < length line → is_odd line ≡ true
unfolding is_odd
long_is_odd line long = let over : nat_lt 4096 (length line) ≡ true = grind (arith, long) in rw over refl

long_seen : (line : List ℕ) → 4096 < length line → seen_in line ≡ Odd
long_seen line long = seen_odd line (long_is_odd line long)

-- a line may have the reply to this one
pub reply_as : (form : GamesForm) (given : Rules) (now : GameDesk) (line next : List ℕ) (reply : Reply) → IsToldAs 4096 line next → IsReply form given now line reply → IsReply form given now next reply
reply_as form given now line next reply (inl same) is = subst (λ (l : List ℕ). IsReply form given now l reply) same is
reply_as form given now line next reply (inr long) is =
    let odd : reply ≡ refusal form now G1 = subst (λ (seen : LineOfGame). IsReplyTo form given now seen line reply) (long_seen line long.0) is in
    subst (λ (seen : LineOfGame). IsReplyTo form given now seen next reply) (sym (long_seen next long.1)) odd

-- ---- one more line

pub replies_last : (form : GamesForm) (given : Rules) (first now : GameDesk) (lines : List (List ℕ)) (line : List ℕ) (replies : List Reply) (reply : Reply) → AreReplies form given first lines replies now
    → IsReply form given now line reply → AreReplies form given first (lines ++ line ∷ []) (replies ++ reply ∷ []) reply.desk
replies_last form given first now [] line replies reply are is =
    (reply, [], subst (λ (d : GameDesk). IsReply form given d line reply) are.1 is, ap (λ (told : List Reply). told ++ reply ∷ []) are.0, (refl, refl))
replies_last form given first now (next ∷ lines) line replies reply are is = (
  are.0,
  are.1 ++ reply ∷ [],
  are.2,
  ap (λ (told : List Reply). told ++ reply ∷ []) are.3,
  replies_last form given are.0.desk now lines line are.1 reply are.4 is,
)

-- each line has one
pub replies_length : (form : GamesForm) (given : Rules) (first now : GameDesk) (lines : List (List ℕ)) (replies : List Reply) → AreReplies form given first lines replies now → length replies ≡ length lines
replies_length form given first now [] replies are = ap length are.0
replies_length form given first now (line ∷ lines) replies are =
    let others : length are.1 ≡ length lines = replies_length form given are.0.desk now lines are.1 are.4 in
    let all : length replies ≡ length (are.0 ∷ are.1) = ap length are.3 in
    grind (arith, others, all)

pub onto_both : (answer : Option (List ℕ)) (answers more : List (List ℕ)) → cons_option answer (answers ++ more) ≡ cons_option answer answers ++ more
onto_both Option.None answers more = refl
onto_both (Option.Some answer) answers more = refl

answers_last : (is_numbered : Bool) (number last : ℕ) (replies : List Reply) (reply : Reply) → last ≡ number + length replies
    → answers_from is_numbered number (replies ++ reply ∷ []) ≡ answers_from is_numbered number replies ++ answers_in (text_of_reply (number_if is_numbered last) reply)
answers_last is_numbered number last [] reply is =
    let same : number ≡ last = grind (arith, is) in ap (λ n. answers_in (text_of_reply (number_if is_numbered n) reply)) same
answers_last is_numbered number last (next ∷ replies) reply is =
    ap (cons_option (text_of_reply (number_if is_numbered number) next)) (answers_last is_numbered (number + 1) last replies reply (grind (arith, is)))
    ∙ onto_both (text_of_reply (number_if is_numbered number) next) (answers_from is_numbered (number + 1) replies) (answers_in (text_of_reply (number_if is_numbered last) reply))

pub kinds_last : (replies : List Reply) (reply : Reply) → report_of (map kind_in (replies ++ reply ∷ [])) ≡ report_with (report_of (map kind_in replies)) reply.kind
kinds_last replies reply = ap report_of (map-append kind_in replies (reply ∷ [])) ∙ report_of_more (map kind_in replies) reply.kind

-- one more line is answered
pub answers_line : (is_numbered : Bool) (form : GamesForm) (given : Rules) (first old new : GameDesk) (lines answers : List (List ℕ)) (report : DeskReport) (number : ℕ) (line next : List ℕ) (reply : Reply) (kind : LineKind)
    → number ≡ length lines + 1 → IsToldAs 4096 line next → AnswersLines is_numbered form given first lines answers report old → IsReply form given old line reply → kind ≡ reply.kind → new ≡ reply.desk
    → AnswersLines is_numbered form given first (lines ++ next ∷ []) (answers ++ answers_in (text_of_reply (number_if is_numbered number) reply)) (report_with report kind) new
answers_line is_numbered form given first old new lines answers report number line next reply kind counted as_this before is kind_is desk_is =
    let count = replies_length form given first old lines before.replies before.are in
    record {
      replies = before.replies ++ reply ∷ [];
      are = subst (λ (d : GameDesk). AreReplies form given first (lines ++ next ∷ []) (before.replies ++ reply ∷ []) d) (sym desk_is)
          (replies_last form given first old lines next before.replies reply before.are (reply_as form given old line next reply as_this is));
      answers_are = ap (λ (told : List (List ℕ)). told ++ answers_in (text_of_reply (number_if is_numbered number) reply)) before.answers_are
          ∙ sym (answers_last is_numbered 1 number before.replies reply (omega (arith, counted, count)));
      report_is = ap (λ (r : DeskReport). report_with r kind) before.report_is ∙ ap (report_with (report_of (map kind_in before.replies))) kind_is ∙ sym (kinds_last before.replies reply);
    }

-- before the first line
pub answers_none : (is_numbered : Bool) (form : GamesForm) (given : Rules) (first : GameDesk) → AnswersLines is_numbered form given first [] [] (report_of []) first
answers_none is_numbered form given first = record { replies = []; are = (refl, refl); answers_are = refl; report_is = refl }

-- one more line was told
pub tells_line : (first old new : Games) (lines answers : List (List ℕ)) (report : DeskReport) (number : ℕ) (front : Option ℕ) (line next : List ℕ) (reply : Reply) (kind : LineKind) (before after : List ℕ)
    → front ≡ number_if old.is_numbered number → TellsAlike new old → IsReply old.form old.given old.desk line reply → PutsReply front reply kind before after new.desk
    → number ≡ length lines + 1 → IsToldAs 4096 line next → HasTold first old lines answers report
    → HasTold first new (lines ++ next ∷ []) (answers ++ answers_in (text_of_reply front reply)) (report_with report kind)
tells_line first old new lines answers report number front line next reply kind before after front_is same is puts counted as_this tells = (
  (same.0 ∙ tells.0.0, same.1 ∙ tells.0.1, same.2 ∙ tells.0.2),
  subst (λ (f : Option ℕ). AnswersLines first.is_numbered first.form first.given first.desk (lines ++ next ∷ []) (answers ++ answers_in (text_of_reply f reply)) (report_with report kind) new.desk)
      (sym (front_is ∙ ap (λ (b : Bool). number_if b number) tells.0.1))
      (answers_line first.is_numbered first.form first.given first.desk old.desk new.desk lines answers report number line next reply kind counted as_this tells.1
      (subst (λ (form : GamesForm). IsReply form first.given old.desk line reply) tells.0.2
      (subst (λ (rules : Rules). IsReply old.form rules old.desk line reply) tells.0.0 is)) puts.kind_is puts.desk_is),
)
