-- The lines of a game that is played, once one more is, and at their end.
use Rattle.std.proofs.Common.{◌≡◌, ◌⊎◌, inl, inr, None, ℕ, ◌+◌, ◌<◌, ◌≤◌, List, [], ◌∷◌, ◌++◌, true, false, cond, refl, sym, subst, ap, ◌∙◌, length, length-append, drop, arith}
use Rattle.riichi_hand.specs.Rules.{Rules}
use Rattle.desk_lines.specs.Filling.{IsFirstLine}
use Rattle.desk_lines.specs.Lines.{lines}
use Rattle.desk_lines.specs.Telling.{answers_in, is_refused, report_of, report_with}
use Rattle.desk_lines.specs.declared.line_kind.LineKind.{LineKind}
use Rattle.desk_lines.specs.declared.line_kind.LineKind.TheVariants.{NoRecord, Answered, Refused}
use Rattle.desk_lines.specs.declared.report.DeskReport.{DeskReport}
use Rattle.desk_lines.proofs.FillingLemmas.{front_longer}
use Rattle.desk_games.specs.Laws.{BeginNone, is_begin}
use Rattle.desk_games.specs.Playing.{BeginsGame, PlaysGame}
use Rattle.desk_games.specs.Replies.{Reply, IsReply, seen_in}
use Rattle.desk_games.specs.Tellers.{TellsAlike}
use Rattle.desk_games.specs.Texts.{text_of_reply, PutsReply, AnswersLines}
use Rattle.desk_games.specs.declared.desk.GameDesk.{GameDesk}
use Rattle.desk_games.specs.declared.desk.GameDesk.TheVariants.{NoGame}
use Rattle.desk_games.specs.declared.form.GamesForm.TheVariants.{Answers}
use Rattle.desk_games.specs.declared.games.Games.{Games}
use Rattle.desk_games.proofs.FillLemmas.{AnsweredUpTo, reply_for}
use Rattle.desk_games.proofs.ReplyLemmas.{answers_line, answers_none}

-- The lines of a text up to a rest of it are played: so many, of which so many were refused; none behind the first begins a game.
pub record PlayedUpTo (first now : Games) (text rest : List ℕ) (count refused : ℕ) : Type 0 where
  pub answers : List (List ℕ)
  pub so_far : AnsweredUpTo first now text rest answers
  pub count_is : count ≡ length (lines so_far.front)
  pub refused_is : refused ≡ so_far.report.refused
  pub alone : BeginNone (drop 1 (lines so_far.front))
  pub short : count + length rest ≤ length text
  pub few : refused ≤ count

begin_more : (ls : List (List ℕ)) (line : List ℕ) → BeginNone ls → is_begin (seen_in line) ≡ false → BeginNone (ls ++ line ∷ [])
begin_more [] line none is = (is, tt)
begin_more (l ∷ ls) line none is = (none.0, begin_more ls line none.1 is)

alone_more : (ls : List (List ℕ)) (line : List ℕ) → BeginNone (drop 1 ls) → (0 < length ls → is_begin (seen_in line) ≡ false) → BeginNone (drop 1 (ls ++ line ∷ []))
alone_more [] line none is = tt
alone_more (l ∷ ls) line none is = begin_more ls line none (is (omega arith))

more_refused : (report : DeskReport) (kind : LineKind) (refused : ℕ) → refused ≡ report.refused → refused + cond (is_refused kind) 1 0 ≡ (report_with report kind).refused
more_refused report NoRecord refused is = omega (arith, is)
more_refused report Answered refused is = omega (arith, is)
more_refused report Refused refused is = omega (arith, is)

pub none_played : (first : Games) (text : List ℕ) → first.is_numbered ≡ false → first.form ≡ Answers → PlayedUpTo first first text text 0 0
none_played first text plain form = record {
  answers = [];
  so_far = record {
    front = [];
    report = report_of [];
    cut = record { parts = refl; whole = inl refl };
    answered = answers_none false Answers first.given first.desk;
    given = refl;
    numbered = plain;
    form = form;
  };
  count_is = refl;
  refused_is = refl;
  alone = tt;
  short = omega arith;
  few = omega arith;
}

pub line_played : (first old new : Games) (text rest line after : List ℕ) (count refused : ℕ) (reply : Reply) (kind : LineKind) (before behind : List ℕ) → PlayedUpTo first old text rest count refused
    → IsFirstLine rest line after → (0 < count → is_begin (seen_in line) ≡ false) → TellsAlike new old → IsReply old.form old.given old.desk line reply → PutsReply None reply kind before behind new.desk
    → (counted : ℕ) → counted ≡ cond (is_refused kind) 1 0 → counted ≤ 1 → PlayedUpTo first new text after (count + 1) (refused + counted)
line_played first old new text rest line after count refused reply kind before behind played next begins same is puts counted counts one =
    let so_far = played.so_far in
    let more = front_longer text so_far.front rest so_far.cut line after next in
    let answers = played.answers in
    record {
      answers = answers ++ answers_in (text_of_reply None reply);
      so_far = record {
        front = so_far.front ++ next.front;
        report = report_with so_far.report kind;
        cut = more.0;
        answered = subst (λ (ls : List (List ℕ)). AnswersLines false Answers first.given first.desk ls (answers ++ answers_in (text_of_reply None reply)) (report_with so_far.report kind) new.desk) (sym more.1)
            (answers_line false Answers first.given first.desk old.desk new.desk (lines so_far.front) answers so_far.report (length (lines so_far.front) + 1) line line reply kind refl (inl refl) so_far.answered
            (reply_for first old text rest answers line reply so_far is) puts.kind_is puts.desk_is);
        given = same.0 ∙ so_far.given;
        numbered = same.1 ∙ so_far.numbered;
        form = same.2 ∙ so_far.form;
      };
      count_is = omega (arith, played.count_is, ap length more.1, length-append (lines so_far.front) (line ∷ []));
      refused_is = ap (λ (n : ℕ). refused + n) counts ∙ more_refused so_far.report kind refused played.refused_is;
      alone = subst (λ (ls : List (List ℕ)). BeginNone (drop 1 ls)) (sym more.1) (alone_more (lines so_far.front) line played.alone (λ some. begins (omega (arith, some, played.count_is))));
      short = omega (arith, played.short, next.shorter);
      few = omega (arith, played.few, one);
    }

-- at the end of a text that isn't empty, or before another game
ends_before : (text rest : List ℕ) (count : ℕ) → 0 < length text → count + length rest ≤ length text → (rest ≡ []) ⊎ ((0 < count) × BeginsGame rest)
    → ((rest ≡ []) ⊎ BeginsGame rest) × (length rest < length text)
ends_before text rest count some short (inl none) = (inl none, omega (arith, ap length none))
ends_before text rest count some short (inr more) = (inr more.1, omega (arith, more.0, short))

pub all_played : (given : Rules) (desk : GameDesk) (first now : Games) (text rest : List ℕ) (count refused : ℕ) → first.given ≡ given → desk ≡ now.desk → first.desk ≡ NoGame → 0 < length text
    → (rest ≡ []) ⊎ ((0 < count) × BeginsGame rest) → PlayedUpTo first now text rest count refused → PlaysGame given text desk count refused rest
all_played given desk first now text rest count refused is_given is_desk none some next played =
    let so_far = played.so_far in
    let ends = ends_before text rest count some played.short next in
    let behind_none = subst (λ (from : GameDesk). AnswersLines false Answers first.given from (lines so_far.front) played.answers so_far.report now.desk) none so_far.answered in
    let behind = subst (λ (last : GameDesk). AnswersLines false Answers first.given NoGame (lines so_far.front) played.answers so_far.report last) (sym is_desk) behind_none in
    record {
      front = so_far.front;
      cut = so_far.cut;
      answers = played.answers;
      report = so_far.report;
      answered = subst (λ (rules : Rules). AnswersLines false Answers rules NoGame (lines so_far.front) played.answers so_far.report desk) is_given behind;
      count_is = played.count_is;
      refused_is = played.refused_is;
      alone = played.alone;
      next = ends.0;
      shorter = ends.1;
    }
