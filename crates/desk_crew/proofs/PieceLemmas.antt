-- Where a text is cut into pieces, and the lines that end in each.
use Rattle.std.proofs.Common.{◌≡◌, ℕ, ◌+◌, ◌-◌, ◌*◌, ◌<◌, ◌≤◌, min, inl, inr, Option, None, Some, List, [], ◌∷◌, ◌++◌, map, cond, length, take, drop, get_or, set, append_assoc, length-append, refl, sym, subst, ◌∙◌, ap, arith}
use Rattle.std.proofs.Math.Seq.{take-add}
use Rattle.std.specs.Prelude.{option_map, MatchOption, IfSome}
use Rattle.std.proofs.lemmas.List.{append-nil, take_all, take_more_set, take-append-drop, set-get_or, map-append, length-take, drop-take, drop-append-le}
use Rattle.std.proofs.lemmas.Bool.{cases_lt}
use Rattle.std.proofs.lemmas.List.Folds.{concat-append}
use Rattle.std.proofs.lemmas.List.Sums.{sum_by-append}
use Rattle.std.specs.List.{concat, position_from}
use Rattle.riichi_hand.specs.Rules.{Rules}
use Rattle.desk_lines.specs.declared.report.DeskReport.{DeskReport}
use Rattle.desk_lines.specs.declared.line_kind.LineKind.{LineKind}
use Rattle.desk_lines.specs.declared.tally.Tally.{Tally}
use Rattle.desk_lines.specs.LineAnswer.{line_kind}
use Rattle.desk_lines.specs.Lines.{Cut, cut_of, ended_lines, without_return}
use Rattle.desk_lines.specs.Records.{AnswerKind, AreTold}
use Rattle.desk_lines.specs.Slips.{both_tallies, empty_tally, first_slip, is_like_profile, tally_of}
use Rattle.desk_lines.specs.Telling.{answers_in, both_reports, is_answered, is_refused, report_of}
use Rattle.desk_lines.proofs.CutLemmas.{ended_lines-more, plain_rest}
use Rattle.desk_lines.proofs.LineLemmas.{cut_of_plain}
use Rattle.desk_lines.proofs.SlipLemmas.{position-append, position-later}
use Rattle.desk_crew.specs.declared.piece.Piece.{Piece}
use Rattle.desk_crew.specs.Pieces.{AreCounted, HasAnswers, edge, lines_between}

-- a text up to a place, and on to another
up_to : (text : List ℕ) (from to : ℕ) → from ≤ to → take to text ≡ take from text ++ take (to - from) (drop from text)
up_to text from to order = ap (λ (n : ℕ). take n text) (let same : to ≡ from + (to - from) = omega (arith, order) in same) ∙ take-add from (to - from) text

-- a piece that begins before a place
pub piece_parts : (text rest : List ℕ) (begin from to : ℕ) → begin ≤ length (take from text) → from ≤ to → to ≤ length text → drop begin (take from text) ≡ rest
    → take (to - begin) (drop begin text) ≡ rest ++ take (to - from) (drop from text)
piece_parts text rest begin from to before order within is =
    let short : begin ≤ from = omega (arith, before, length-take from text) in
    let same : begin + (to - begin) ≡ to = omega (arith, short, order) in
    let cut : drop begin (take to text) ≡ take (to - begin) (drop begin text) =
    ap (λ (n : ℕ). drop begin (take n text)) (sym same) ∙ drop-take begin (to - begin) text in
    sym cut ∙ ap (drop begin) (up_to text from to order) ∙ drop-append-le begin (take from text) (take (to - from) (drop from text)) before ∙ ap (λ (front : List ℕ). front ++ take (to - from) (drop from text)) is

-- the lines that end between two places follow those before
pub lines_on : (text : List ℕ) (from to : ℕ) → from ≤ to → ended_lines (take to text) ≡ ended_lines (take from text) ++ lines_between text from to
lines_on text from to order = ap ended_lines (up_to text from to order) ∙ ended_lines-more (take from text) (take (to - from) (drop from text))

-- ---- answers to more lines

pub AreTold-append : (Answers : AnswerKind) (rules : Rules) (lines more told others : List (List ℕ)) → AreTold Answers rules lines told → AreTold Answers rules more others → AreTold Answers rules (lines ++ more) (told ++ others)
AreTold-append Answers rules [] more told others are then = subst (λ (front : List (List ℕ)). AreTold Answers rules more (front ++ others)) (sym are) then
AreTold-append Answers rules (line ∷ lines) more told others are then =
    (are.0, are.1 ++ others, are.2, ap (λ (front : List (List ℕ)). front ++ others) are.3 ∙ append_assoc (answers_in are.0) are.1 others, AreTold-append Answers rules lines more are.1 others are.4 then)

both-append : (kinds others : List LineKind) → report_of (kinds ++ others) ≡ both_reports (report_of kinds) (report_of others)
both-append kinds others =
    let answered = sum_by-append (λ kind. cond (is_answered kind) 1 0) kinds others in
    let refused = sum_by-append (λ kind. cond (is_refused kind) 1 0) kinds others in
    λ i. record { answered = answered i; refused = refused i }

-- lines and others are counted together
pub counted-append : (rules : Rules) (lines others : List (List ℕ)) → report_of (map (line_kind rules) (lines ++ others)) ≡ both_reports (report_of (map (line_kind rules) lines)) (report_of (map (line_kind rules) others))
counted-append rules lines others = ap report_of (map-append (line_kind rules) lines others) ∙ both-append (map (line_kind rules) lines) (map (line_kind rules) others)

both-assoc : (one other more : DeskReport) → both_reports (both_reports one other) more ≡ both_reports one (both_reports other more)
both-assoc one other more =
    let answered : (one.answered + other.answered) + more.answered ≡ one.answered + (other.answered + more.answered) = omega arith in
    let refused : (one.refused + other.refused) + more.refused ≡ one.refused + (other.refused + more.refused) = omega arith in
    λ i. record { answered = answered i; refused = refused i }

both-none : (report : DeskReport) → report ≡ both_reports report (record { answered = 0; refused = 0 })
both-none report =
    let answered : report.answered ≡ report.answered + 0 = omega arith in
    let refused : report.refused ≡ report.refused + 0 = omega arith in
    λ i. record { answered = answered i; refused = refused i }

pub none-both : (report : DeskReport) → report ≡ both_reports (record { answered = 0; refused = 0 }) report
none-both report =
    let answered : report.answered ≡ 0 + report.answered = omega arith in
    let refused : report.refused ≡ 0 + report.refused = omega arith in
    λ i. record { answered = answered i; refused = refused i }

-- ---- what lines and those behind them come to

pub tally-append : (rules : Rules) (lines others : List (List ℕ)) → tally_of rules (lines ++ others) ≡ both_tallies (tally_of rules lines) (tally_of rules others)
tally-append rules lines others =
    let counts = counted-append rules lines others in
    let many : length (lines ++ others) ≡ length lines + length others = length-append lines others in
    let slip = position-append is_like_profile 1 lines others ∙ ap (λ n. first_slip (position_from is_like_profile 1 lines) (position_from is_like_profile n others)) (let same : 1 + length lines ≡ length lines + 1 = omega arith in same)
    ∙ ap (first_slip (position_from is_like_profile 1 lines)) (position-later is_like_profile (length lines) 1 others) in
    λ i. record { counts = counts i; lines = many i; slip = slip i }

slip-assoc : (one other : ℕ) (first second third : Option ℕ)
    → first_slip (first_slip first (option_map (λ n. one + n) second)) (option_map (λ n. (one + other) + n) third) ≡ first_slip first (option_map (λ n. one + n) (first_slip second (option_map (λ n. other + n) third)))
slip-assoc one other (Some line) second third = refl
slip-assoc one other None (Some line) third = refl
slip-assoc one other None None (Some line) = ap Some (let same : (one + other) + line ≡ one + (other + line) = omega arith in same)
slip-assoc one other None None None = refl

pub tallies-assoc : (one other more : Tally) → both_tallies (both_tallies one other) more ≡ both_tallies one (both_tallies other more)
tallies-assoc one other more =
    let counts = both-assoc one.counts other.counts more.counts in
    let many : (one.lines + other.lines) + more.lines ≡ one.lines + (other.lines + more.lines) = omega arith in
    let slip = slip-assoc one.lines other.lines one.slip other.slip more.slip in
    λ i. record { counts = counts i; lines = many i; slip = slip i }

slip-none : (slip : Option ℕ) → slip ≡ first_slip slip None
slip-none (Some line) = refl
slip-none None = refl

pub tally-none : (tally : Tally) → tally ≡ both_tallies tally empty_tally
tally-none tally =
    let counts = both-none tally.counts in
    let many : tally.lines ≡ tally.lines + 0 = omega arith in
    let slip = slip-none tally.slip in
    λ i. record { counts = counts i; lines = many i; slip = slip i }

-- no line ends where a piece has no bytes
no_lines : (text : List ℕ) (place : ℕ) → lines_between text place place ≡ []
no_lines text place =
    let rest = (cut_of (take place text)).rest in
    let none : place - place ≡ 0 = omega arith in
    ap (λ (n : ℕ). ended_lines (rest ++ take n (drop place text))) none ∙ ap ended_lines (append-nil rest)
    ∙ ap (λ (cut : Cut). map without_return cut.ended) (cut_of_plain rest (plain_rest (take place text)))

-- a piece without bytes is answered by nothing
pub answered_nothing : (May : AnswerKind) (rules : Rules) (text answers : List ℕ) (from to : ℕ) → from ≡ to → answers ≡ [] → AreCounted May rules (lines_between text from to) answers empty_tally
answered_nothing May rules text answers from to same none =
    let lines : lines_between text from to ≡ [] = ap (λ (n : ℕ). lines_between text n to) same ∙ no_lines text to in
    record {
      told = [];
      are_told = subst (λ (ls : List (List ℕ)). AreTold May rules ls []) (sym lines) (λ i. []);
      text_is = none;
      tally_is = ap (tally_of rules) (sym lines);
    }

-- what is taken from a piece answers its lines
pub taken : (May : AnswerKind) (rules : Rules) (text : List ℕ) (size number : ℕ) (piece : Piece) (result : Option Tally) (room : List ℕ) → HasAnswers May rules text size piece → piece.number ≡ number → result ≡ piece.tally → room ≡ piece.answers.items
    → IfSome result (AreCounted May rules (lines_between text (edge text size number) (edge text size (number + 1))) room)
taken May rules text size number piece result room answered at report answers =
    by_case result (subst (λ (r : Option Tally). MatchOption r (Unit {0}) (AreCounted May rules (lines_between text (edge text size piece.number) (edge text size (piece.number + 1))) piece.answers.items)) (sym report) answered)
  where
    by_case : (r : Option Tally) → MatchOption r (Unit {0}) (AreCounted May rules (lines_between text (edge text size piece.number) (edge text size (piece.number + 1))) piece.answers.items)
        → IfSome r (AreCounted May rules (lines_between text (edge text size number) (edge text size (number + 1))) room)
    by_case None told = tt
    by_case (Some counted) told =
        subst (λ (answers : List ℕ). AreCounted May rules (lines_between text (edge text size number) (edge text size (number + 1))) answers counted) (sym answers)
        (subst (λ (n : ℕ). AreCounted May rules (lines_between text (edge text size n) (edge text size (n + 1))) piece.answers.items counted) at told)

-- a piece that has no tally claims nothing
pub claims_nothing : (May : AnswerKind) (rules : Rules) (text : List ℕ) (size : ℕ) (piece : Piece) → piece.tally ≡ None → HasAnswers May rules text size piece
claims_nothing May rules text size piece none =
    subst (λ (r : Option Tally). MatchOption r (Unit {0}) (AreCounted May rules (lines_between text (edge text size piece.number) (edge text size (piece.number + 1))) piece.answers.items)) (sym none) tt

-- the lines that end in one more piece
pub lines_to : (text : List ℕ) (size number : ℕ)
    → ended_lines (take (edge text size (number + 1)) text) ≡ ended_lines (take (edge text size number) text) ++ lines_between text (edge text size number) (edge text size (number + 1))
lines_to text size number =
    let product : (number + 1) * size ≡ number * size + size = grind arith in
    lines_on text (edge text size number) (edge text size (number + 1)) (omega (arith, product))

-- the answers of one more piece
pub piece_on : (May : AnswerKind) (rules : Rules) (text : List ℕ) (size number : ℕ) (told others : List (List ℕ)) → AreTold May rules (ended_lines (take (edge text size number) text)) told
    → AreTold May rules (lines_between text (edge text size number) (edge text size (number + 1))) others → AreTold May rules (ended_lines (take (edge text size (number + 1)) text)) (told ++ others)
piece_on May rules text size number told others are then =
    subst (λ (ls : List (List ℕ)). AreTold May rules ls (told ++ others)) (sym (lines_to text size number))
    (AreTold-append May rules (ended_lines (take (edge text size number) text)) (lines_between text (edge text size number) (edge text size (number + 1))) told others are then)

pub front_kept : (n : ℕ) (text : List ℕ) → take (min (length text) n) text ≡ take n text
front_kept n text = elim (cases_lt n (length text)) as (λ _. take (min (length text) n) text ≡ take n text) [
  | inl long ↦ ap (λ (k : ℕ). take k text) (let same : min (length text) n ≡ n = omega (arith, long) in same)
  | inr short ↦ take_all (min (length text) n) text (omega (arith, short)) ∙ sym (take_all n text short)
]

-- ---- rooms one behind another

module _ {X : Type 0} (items : X → List ℕ) where
  abbrev joined : List X → List ℕ
  joined rooms = concat (map items rooms)

  -- one more room, which was filled anew
  pub joined_set : (rooms : List X) (place : ℕ) (room : X) → place < length rooms → joined (take (place + 1) (set rooms place room)) ≡ joined (take place rooms) ++ items room
  joined_set rooms place room within =
      ap joined (take_more_set rooms place room within) ∙ ap concat (map-append items (take place rooms) (room ∷ [])) ∙ concat-append (map items (take place rooms)) (items room ∷ [])
      ∙ ap (λ l. joined (take place rooms) ++ l) (append-nil (items room))

  -- one more room
  pub joined_next : (rooms : List X) (place : ℕ) (none : X) → place < length rooms → joined (take (place + 1) rooms) ≡ joined (take place rooms) ++ items (get_or rooms place none)
  joined_next rooms place none within =
      ap (λ l. joined (take (place + 1) l)) (sym (set-get_or rooms place none)) ∙ joined_set rooms place (get_or rooms place none) within

  -- the rooms behind it follow
  pub joined_parts : (rooms : List X) (place : ℕ) → joined rooms ≡ joined (take place rooms) ++ joined (drop place rooms)
  joined_parts rooms place = ap joined (sym (take-append-drop place rooms)) ∙ ap concat (map-append items (take place rooms) (drop place rooms)) ∙ concat-append (map items (take place rooms)) (map items (drop place rooms))
