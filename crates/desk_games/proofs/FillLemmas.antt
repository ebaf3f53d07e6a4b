-- A text of games in memory, once one more line of it is answered, and at its end.
use Rattle.std.proofs.Common.{◌≡◌, ◌⊎◌, inl, inr, ℕ, ◌+◌, ◌-◌, ◌<◌, ◌≤◌, List, [], ◌∷◌, ◌++◌, false, None, Some, refl, sym, subst, ap, ◌∙◌, length, length-append, length-drop, take, drop, arith}
use Rattle.std.proofs.lemmas.List.{append-nil, take_all}
use Rattle.riichi_hand.specs.Rules.{Rules}
use Rattle.desk_lines.specs.Filling.{IsCutBehindLine, IsFirstLine}
use Rattle.desk_lines.specs.Lines.{lines}
use Rattle.desk_lines.specs.Telling.{answers_in, report_of, report_with, text_of, with_line_feed}
use Rattle.desk_lines.specs.declared.line_kind.LineKind.{LineKind}
use Rattle.desk_lines.specs.declared.report.DeskReport.{DeskReport}
use Rattle.desk_lines.proofs.FillingLemmas.{first-others, front_longer, longer_room}
use Rattle.desk_lines.proofs.TellingLemmas.{text_of_more}
use Rattle.desk_games.specs.Desks.{told_at_end}
use Rattle.desk_games.specs.Filling.{WantsMore, FillsFront, FillsEnd, TellsUpTo, WithEnd, WithoutEnd, BeforeLine, FillsFrom, FillsGames}
use Rattle.desk_games.specs.Replies.{Reply, IsReply}
use Rattle.desk_games.specs.Texts.{text_of_reply, PutsReply, AnswersLines}
use Rattle.desk_games.specs.declared.desk.GameDesk.{GameDesk}
use Rattle.desk_games.specs.declared.desk.GameDesk.TheVariants.{NoGame}
use Rattle.desk_games.specs.declared.form.GamesForm.{GamesForm}
use Rattle.desk_games.specs.declared.form.GamesForm.TheVariants.{Answers}
use Rattle.desk_games.specs.declared.games.Games.{Games}
use Rattle.desk_games.specs.Tellers.{TellsAlike}
use Rattle.desk_games.proofs.ReplyLemmas.{answers_line, answers_none}

-- ---- one more line

-- the lines of a text up to a rest of it have these answers
pub record AnsweredUpTo (first now : Games) (text rest : List ℕ) (answers : List (List ℕ)) : Type 0 where
  pub front : List ℕ
  pub report : DeskReport
  pub cut : IsCutBehindLine text front rest
  pub answered : AnswersLines false Answers first.given first.desk (lines front) answers report now.desk
  pub given : now.given ≡ first.given
  pub numbered : now.is_numbered ≡ false
  pub form : now.form ≡ Answers

pub none_answered : (first : Games) (text : List ℕ) → first.is_numbered ≡ false → first.form ≡ Answers → AnsweredUpTo first first text text []
none_answered first text plain form = record {
  front = [];
  report = report_of [];
  cut = record { parts = refl; whole = inl refl };
  answered = answers_none false Answers first.given first.desk;
  given = refl;
  numbered = plain;
  form = form;
}

-- a reply in the form and under the rules of the first teller
pub reply_for : (first old : Games) (text rest : List ℕ) (answers : List (List ℕ)) (line : List ℕ) (reply : Reply) → AnsweredUpTo first old text rest answers → IsReply old.form old.given old.desk line reply
    → IsReply Answers first.given old.desk line reply
reply_for first old text rest answers line reply so_far is =
    subst (λ (rules : Rules). IsReply Answers rules old.desk line reply) so_far.given (subst (λ (form : GamesForm). IsReply form old.given old.desk line reply) so_far.form is)

pub line_answered : (first old new : Games) (text rest line after : List ℕ) (answers : List (List ℕ)) (reply : Reply) (kind : LineKind) (before behind : List ℕ) → AnsweredUpTo first old text rest answers
    → IsFirstLine rest line after → TellsAlike new old → IsReply old.form old.given old.desk line reply → PutsReply None reply kind before behind new.desk
    → AnsweredUpTo first new text after (answers ++ answers_in (text_of_reply None reply))
line_answered first old new text rest line after answers reply kind before behind so_far next same is puts =
    let more = front_longer text so_far.front rest so_far.cut line after next in
    record {
      front = so_far.front ++ next.front;
      report = report_with so_far.report kind;
      cut = more.0;
      answered = subst (λ (ls : List (List ℕ)). AnswersLines false Answers first.given first.desk ls (answers ++ answers_in (text_of_reply None reply)) (report_with so_far.report kind) new.desk) (sym more.1)
          (answers_line false Answers first.given first.desk old.desk new.desk (lines so_far.front) answers so_far.report (length (lines so_far.front) + 1) line line reply kind refl (inl refl) so_far.answered
          (reply_for first old text rest answers line reply so_far is) puts.kind_is puts.desk_is);
      given = same.0 ∙ so_far.given;
      numbered = same.1 ∙ so_far.numbered;
      form = same.2 ∙ so_far.form;
    }

-- no text is left
pub all_answered : (first now : Games) (text rest : List ℕ) (answers : List (List ℕ)) → rest ≡ [] → (so_far : AnsweredUpTo first now text rest answers)
    → AnswersLines false Answers first.given first.desk (lines text) answers so_far.report now.desk
all_answered first now text rest answers none so_far =
    subst (λ (t : List ℕ). AnswersLines false Answers first.given first.desk (lines t) answers so_far.report now.desk)
    (sym (so_far.cut.parts ∙ ap (λ more. so_far.front ++ more) none ∙ append-nil so_far.front)) so_far.answered

-- the answer to the next line has no room
pub wants_more : (first old : Games) (text rest line after : List ℕ) (answers : List (List ℕ)) (reply : Reply) → AnsweredUpTo first old text rest answers → IsFirstLine rest line after
    → IsReply old.form old.given old.desk line reply → (filled size : ℕ) → filled ≤ size → size < filled + length (with_line_feed (text_of_reply None reply)) → WantsMore first.given old.desk (size - filled) rest
wants_more first old text rest line after answers reply so_far next is filled size within longer =
    let others = first-others rest line after next in
    record {
      line = line;
      others = others.0;
      lines_are = others.1;
      reply = reply;
      is_reply = reply_for first old text rest answers line reply so_far is;
      is_longer = omega (arith, within, longer);
    }

-- ---- from a place on

no_bytes : (bytes : List ℕ) → length bytes ≡ 0 → bytes ≡ []
no_bytes [] none = refl
no_bytes (byte ∷ bytes) none = absurd (omega (arith, none))

none_wanted : (given : Rules) (now : GameDesk) (left : ℕ) (text : List ℕ) → text ≡ [] → WantsMore given now left text → ⊥
none_wanted given now left text none wants = omega (arith, ap length wants.lines_are, ap length (ap lines none))

module _ (given : Rules) (text : List ℕ) (from : ℕ) (passed : List (List ℕ)) (passed_report : DeskReport) (now : GameDesk) (before mid : List ℕ) (taken filled : ℕ) (last : GameDesk) (within : from ≤ length text)
    (plays : AnswersLines false Answers given NoGame (lines (take from text)) passed passed_report now) (fills : FillsFront given now (drop from text) before mid taken filled last) where
  all_lengths : from + (taken + length fills.rest) ≡ length text
  all_lengths = omega (arith, ap length fills.cut.parts, length-append fills.front fills.rest, length-drop from text, fills.taken_is, within)

  filled-from : (told : List (List ℕ)) (after : List ℕ) (all up_to : ℕ) → TellsUpTo given text from fills.front fills.rest fills.answers fills.last (length before) told up_to → all ≡ length (text_of told) → all ≤ length before
      → after ≡ text_of told ++ drop all before → FillsFrom given text from before after up_to all
  filled-from told after all up_to tells all_is fits room_is = record {
    passed = passed;
    passed_report = passed_report;
    now = now;
    plays = plays;
    front = fills.front;
    rest = fills.rest;
    cut = fills.cut;
    answers = fills.answers;
    report = fills.report;
    last = fills.last;
    answered = fills.answered;
    told = told;
    tells = tells;
    filled_is = all_is;
    is_within = fits;
    room_is = room_is;
  }

  -- a line has no room
  pub filled_before_line : from + taken < length text → FillsFrom given text from before mid (from + taken) filled
  filled_before_line short =
      filled-from fills.answers mid filled (from + taken)
      (subst (λ (n : ℕ). TellsUpTo given text from fills.front fills.rest fills.answers fills.last (length before) fills.answers (from + n)) (sym fills.taken_is) (BeforeLine (wanted fills.stops)))
      fills.filled_is fills.is_within fills.room_is
    where
      wanted : ((fills.rest ≡ []) × (last ≡ fills.last)) ⊎ WantsMore given fills.last (length before - filled) fills.rest → WantsMore given fills.last (length before - length (text_of fills.answers)) fills.rest
      wanted (inl none) = absurd (omega (arith, all_lengths, ap length none.0, short))
      wanted (inr wants) = subst (λ (n : ℕ). WantsMore given fills.last (length before - n) fills.rest) fills.filled_is wants

  no_rest : length text ≤ from + taken → fills.rest ≡ []
  no_rest long = no_bytes fills.rest (omega (arith, all_lengths, long))

  same_last : length text ≤ from + taken → last ≡ fills.last
  same_last long = same fills.stops
    where
      same : ((fills.rest ≡ []) × (last ≡ fills.last)) ⊎ WantsMore given fills.last (length before - filled) fills.rest → last ≡ fills.last
      same (inl both) = both.1
      same (inr wants) = absurd (none_wanted given fills.last (length before - filled) fills.rest (no_rest long) wants)

  -- the end has no room
  pub filled_without_end : (after : List ℕ) → length text ≤ from + taken → FillsEnd (with_line_feed (told_at_end Answers last)) filled mid after None → FillsFrom given text from before after (length text) filled
  filled_without_end after long none =
      let longer = subst (λ (d : GameDesk). length mid < filled + length (with_line_feed (told_at_end Answers d))) (same_last long) none.0 in
      let size : length mid ≡ length before = omega (arith, ap length fills.room_is, length-append (text_of fills.answers) (drop filled before), length-drop filled before, fills.filled_is, fills.is_within) in
      filled-from fills.answers after filled (length text) (WithoutEnd (no_rest long) (omega (arith, longer, size, fills.filled_is))) fills.filled_is fills.is_within (none.1 ∙ fills.room_is)

  -- all is told
  pub filled_with_end : (after : List ℕ) (more : ℕ) → length text ≤ from + taken → FillsEnd (with_line_feed (told_at_end Answers last)) filled mid after (Some more) → FillsFrom given text from before after (length text + 1) (filled + more)
  filled_with_end after more long some =
      let end = with_line_feed (told_at_end Answers last) in
      let told = fills.answers ++ answers_in (told_at_end Answers last) in
      let all : text_of told ≡ text_of fills.answers ++ end = text_of_more fills.answers (told_at_end Answers last) in
      let size : length mid ≡ length before = omega (arith, ap length fills.room_is, length-append (text_of fills.answers) (drop filled before), length-drop filled before, fills.filled_is, fills.is_within) in
      filled-from told after (filled + more) (length text + 1)
      (subst (λ (d : GameDesk). TellsUpTo given text from fills.front fills.rest fills.answers fills.last (length before) (fills.answers ++ answers_in (told_at_end Answers d)) (length text + 1)) (sym (same_last long)) (WithEnd (no_rest long)))
      (omega (arith, ap length all, length-append (text_of fills.answers) end, some.0, fills.filled_is))
      (omega (arith, some.0, some.1, size))
      (longer_room (text_of fills.answers) end before mid after filled fills.filled_is fills.is_within fills.room_is some.2 ∙ ap (λ t. t ++ drop (filled + length end) before) (sym all)
      ∙ ap (λ n. text_of told ++ drop (filled + n) before) (sym some.0))

-- ---- the whole call

-- from a place behind the text
pub behind_text : (given : Rules) (text : List ℕ) (from : ℕ) (before : List ℕ) → length text < from → FillsGames given text from before before from 0
behind_text given text from before behind = record { behind = λ _. (refl, refl, refl); fills = λ within. absurd (omega (arith, behind, within)) }

-- from a place of the text
pub within_text : (given : Rules) (text : List ℕ) (from : ℕ) (before after : List ℕ) (taken filled : ℕ) → from ≤ length text → FillsFrom given text from before after taken filled → FillsGames given text from before after taken filled
within_text given text from before after taken filled within fills = record { behind = λ behind. absurd (omega (arith, behind, within)); fills = λ _. fills }

-- a new teller passed some lines
pub passed_from_none : (given : Rules) (new : Games) (lines passed : List (List ℕ)) (report : DeskReport) (now : GameDesk) → new.given ≡ given → new.desk ≡ NoGame → AnswersLines false Answers new.given new.desk lines passed report now
    → AnswersLines false Answers given NoGame lines passed report now
passed_from_none given new lines passed report now same none answered =
    subst (λ (d : GameDesk). AnswersLines false Answers given d lines passed report now) none (subst (λ (rules : Rules). AnswersLines false Answers rules new.desk lines passed report now) same answered)

-- and then answered the rest of the text
pub fills_rest : (given : Rules) (now : Games) (text : List ℕ) (from : ℕ) (before mid : List ℕ) (taken filled : ℕ) (last : GameDesk) → now.given ≡ given
    → FillsFront now.given now.desk (take (length text - from) (drop from text)) before mid taken filled last → FillsFront given now.desk (drop from text) before mid taken filled last
fills_rest given now text from before mid taken filled last same fills =
    let whole : take (length text - from) (drop from text) ≡ drop from text = take_all (length text - from) (drop from text) (omega (arith, length-drop from text)) in
    subst (λ (rest : List ℕ). FillsFront given now.desk rest before mid taken filled last) whole
    (subst (λ (rules : Rules). FillsFront rules now.desk (take (length text - from) (drop from text)) before mid taken filled last) same fills)
