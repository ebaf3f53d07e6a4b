-- What was explained, without the lines that begin with two spaces.
use Rattle.std.proofs.Common.{◌≡◌, inl, inr, ℕ, List, [], ◌∷◌, ◌++◌, Bool, true, false, cond, nat_eq, filter, Option, Some, None, refl, sym, subst, ap, ◌∙◌, append_assoc}
use Rattle.std.specs.Prelude.{not, ◌&&◌}
use Rattle.std.specs.List.{filter_map, cons_option}
use Rattle.std.proofs.lemmas.Bool.{cases_Bool, eqb-true, and_parts}
use Rattle.riichi_hand.specs.Rules.{Rules}
use Rattle.riichi_hand.specs.Lines.{outcome_of}
use Rattle.riichi_explain.specs.declared.explaining.Shown.{Shown}
use Rattle.riichi_explain.specs.Explanation.{IsExplanation}
use Rattle.riichi_explain.proofs.PlainTexts.{are_indented, within}
use Rattle.riichi_explain.proofs.ExplainedLines.{outcome_text-lines}
use Rattle.desk_lines.specs.Explained.{IsToldWithWhy, IsExplained, is_indented, without_indented}
use Rattle.desk_lines.specs.Lines.{Cut, cut_of, with_front, byte_in_front, is_plain}
use Rattle.desk_lines.specs.LineAnswer.{answer_of}
use Rattle.desk_lines.specs.LineAnswers.{answers_to}
use Rattle.desk_lines.specs.Profile.{rules_of, record_lines}
use Rattle.desk_lines.specs.Records.{AreTold, AnswerRecords}
use Rattle.desk_lines.specs.Telling.{text_of, answers_in, with_line_feed}
use Rattle.desk_lines.proofs.AnswerPlain.{answer-plain, answer-not_indented}

-- ---- lines at the front of a text

abbrev pub kept_lines : List (List ℕ) → List ℕ
kept_lines lines = text_of (filter (λ line. not (is_indented line)) lines)

-- a line without a line feed, and the line feed that ends it
cut_of_first : (line rest : List ℕ) → is_plain line ≡ true → cut_of (line ++ 10 ∷ rest) ≡ (let cut : Cut = record { ended = line ∷ (cut_of rest).ended; rest = (cut_of rest).rest } in cut)
cut_of_first [] rest plain = refl
cut_of_first (byte ∷ line) rest plain =
    let parts = and_parts (not (nat_eq byte 10)) (is_plain line) plain in
    ap (with_front byte) (cut_of_first line rest parts.1) ∙ other_byte (nat_eq byte 10) parts.0
  where
    other_byte : (feed : Bool) → not feed ≡ true → cond feed (let cut : Cut = record { ended = [] ∷ line ∷ (cut_of rest).ended; rest = (cut_of rest).rest } in cut) (byte_in_front byte (line ∷ (cut_of rest).ended) (cut_of rest).rest)
        ≡ (let cut : Cut = record { ended = (byte ∷ line) ∷ (cut_of rest).ended; rest = (cut_of rest).rest } in cut)
    other_byte true p = absurd (cc)
    other_byte false p = refl

pub without_indented-first : (line rest : List ℕ) → is_plain line ≡ true → is_indented line ≡ false → without_indented (line ++ 10 ∷ rest) ≡ line ++ 10 ∷ without_indented rest
without_indented-first line rest plain other =
    ap (λ (cut : Cut). kept_lines cut.ended) (cut_of_first line rest plain) ∙ first (is_indented line) other
  where
    first : (indented : Bool) → indented ≡ false → text_of (cond (not indented) (line ∷ filter (λ l. not (is_indented l)) (cut_of rest).ended) (filter (λ l. not (is_indented l)) (cut_of rest).ended)) ≡ line ++ 10 ∷ without_indented rest
    first true p = absurd (cc)
    first false p = append_assoc line (10 ∷ []) (without_indented rest)

-- Lines that begin with two spaces are left out. From within one of them, what remains of it is the first line, and what follows is kept.
pub record CutWithin (text rest : List ℕ) : Type 0 where
  pub first : List ℕ
  pub others : List (List ℕ)
  pub ended_is : (cut_of (text ++ rest)).ended ≡ first ∷ others
  pub kept : kept_lines others ≡ without_indented rest

front_ended : (byte : ℕ) (cut : Cut) (first : List ℕ) (others : List (List ℕ)) → cut.ended ≡ first ∷ others → (with_front byte cut).ended ≡ cond (nat_eq byte 10) ([] ∷ first ∷ others) ((byte ∷ first) ∷ others)
front_ended byte cut first others is = elim (nat_eq byte 10) as (λ feed. (cond feed (let all : Cut = record { ended = [] ∷ cut.ended; rest = cut.rest } in all) (byte_in_front byte cut.ended cut.rest)).ended ≡ cond feed ([] ∷ first ∷ others) ((byte ∷ first) ∷ others)) [
  | true ↦ ap (λ (lines : List (List ℕ)). [] ∷ lines) is
  | false ↦ ap (λ (lines : List (List ℕ)). (byte_in_front byte lines cut.rest).ended) is
]

mutual_left : (starts : Bool) (text rest : List ℕ) → within starts text ≡ true → cond starts (without_indented (text ++ rest) ≡ without_indented rest) (CutWithin text rest)
mutual_left true [] rest p = refl
mutual_left false [] rest p = absurd (cc)
mutual_left true (byte ∷ []) rest p = absurd (cc)
mutual_left true (byte ∷ next ∷ text) rest p =
    let one = and_parts (nat_eq byte 32) (nat_eq next 32 && within false text) p in
    let two = and_parts (nat_eq next 32) (within false text) one.1 in
    let more = mutual_left false text rest two.1 in
    let first : byte ≡ 32 = eqb-true byte 32 one.0 in
    let second : next ≡ 32 = eqb-true next 32 two.0 in
    rw (first, second) (ap kept_lines (front_ended 32 (with_front 32 (cut_of (text ++ rest))) (32 ∷ more.first) more.others (front_ended 32 (cut_of (text ++ rest)) more.first more.others more.ended_is)) ∙ more.kept)
mutual_left false (byte ∷ text) rest p = elim (cases_Bool (nat_eq byte 10)) as (λ _. CutWithin (byte ∷ text) rest) [
  | inl feed ↦
      let more : without_indented (text ++ rest) ≡ without_indented rest = mutual_left true text rest (subst (λ (s : Bool). within s text ≡ true) feed p) in record {
        first = [];
        others = (cut_of (text ++ rest)).ended;
        ended_is = ap (λ (feed : Bool). (cond feed (let all : Cut = record { ended = [] ∷ (cut_of (text ++ rest)).ended; rest = (cut_of (text ++ rest)).rest } in all) (byte_in_front byte (cut_of (text ++ rest)).ended (cut_of (text ++ rest)).rest)).ended) feed;
        kept = more;
      }
  | inr other ↦
      let more : CutWithin text rest = mutual_left false text rest (subst (λ (s : Bool). within s text ≡ true) other p) in record {
        first = byte ∷ more.first;
        others = more.others;
        ended_is = front_ended byte (cut_of (text ++ rest)) more.first more.others more.ended_is ∙ ap (λ (feed : Bool). cond feed ([] ∷ more.first ∷ more.others) ((byte ∷ more.first) ∷ more.others)) other;
        kept = more.kept;
      }
]

pub without_indented-lines : (text rest : List ℕ) → are_indented text ≡ true → without_indented (text ++ rest) ≡ without_indented rest
without_indented-lines text rest p = mutual_left true text rest p

-- ---- an answer with its explanation

-- such lines end with a line feed
pub last_feed : (starts : Bool) (byte : ℕ) (text : List ℕ) → within starts text ≡ true → (starts ≡ true → byte ≡ 10) → (more : List ℕ) × (more ++ 10 ∷ [] ≡ byte ∷ text)
last_feed true byte [] p feed = ([], ap (λ (b : ℕ). b ∷ []) (sym (feed refl)))
last_feed false byte [] p feed = absurd (cc)
last_feed true byte (one ∷ []) p feed = absurd (cc)
last_feed true byte (one ∷ two ∷ text) p feed =
    let first = and_parts (nat_eq one 32) (nat_eq two 32 && within false text) p in
    let second = and_parts (nat_eq two 32) (within false text) first.1 in
    let more = last_feed false two text second.1 (λ no. absurd (cc)) in
    (byte ∷ one ∷ more.0, ap (λ (all : List ℕ). byte ∷ one ∷ all) more.1)
last_feed false byte (one ∷ text) p feed =
    let more = last_feed (nat_eq one 10) one text p (eqb-true one 10) in
    (byte ∷ more.0, ap (λ (all : List ℕ). byte ∷ all) more.1)

pub why-lines : (shown : Shown) (rules : Rules) (line why : List ℕ) → IsExplanation shown rules line why → are_indented why ≡ true
unfolding IsExplanation
why-lines shown rules line why is = outcome_text-lines shown rules line (outcome_of rules line) why is

-- one answer and its explanation, without the lines of this
told-left : (shown : Shown) (rules : Rules) (line : List ℕ) (outcome : Option (List ℕ)) (told : Option (List ℕ)) (rest : List ℕ) → IsToldWithWhy shown rules line outcome told
    → ((answer : List ℕ) → outcome ≡ Some answer → (is_plain answer ≡ true) × (is_indented answer ≡ false))
    → without_indented (with_line_feed told ++ rest) ≡ with_line_feed outcome ++ without_indented rest
told-left shown rules line None told rest is plain = ap (λ (t : Option (List ℕ)). without_indented (with_line_feed t ++ rest)) is
told-left shown rules line (Some answer) None rest is plain = absurd is
told-left shown rules line (Some answer) (Some text) rest is plain =
    let parts = plain answer refl in
    let written : text ++ 10 ∷ [] ≡ answer ++ 10 ∷ is.why = ap (λ (t : List ℕ). t ++ 10 ∷ []) is.text_is ∙ append_assoc answer is.more (10 ∷ []) ∙ ap (λ (more : List ℕ). answer ++ more) is.more_is in
    ap (λ (t : List ℕ). without_indented (t ++ rest)) written ∙ ap without_indented (append_assoc answer (10 ∷ is.why) rest)
    ∙ without_indented-first answer (is.why ++ rest) parts.0 parts.1
    ∙ ap (λ (t : List ℕ). answer ++ 10 ∷ t) (without_indented-lines is.why rest (why-lines shown rules line is.why is.explains))
    ∙ sym (append_assoc answer (10 ∷ []) (without_indented rest))

answer-plain-of : (r : Rules) (l : List ℕ) (answer : List ℕ) → answer_of r l ≡ Some answer → (is_plain answer ≡ true) × (is_indented answer ≡ false)
unfolding answer_of
answer-plain-of r l answer is = (answer-plain (outcome_of r l) answer is, answer-not_indented (outcome_of r l) answer is)

explained-left : (shown : Shown) (rules : Rules) (lines told : List (List ℕ)) → AreTold (IsExplained shown) rules lines told → without_indented (text_of told) ≡ text_of (filter_map (answer_of rules) lines)
explained-left shown rules [] told are = ap (λ (t : List (List ℕ)). without_indented (text_of t)) are
explained-left shown rules (line ∷ lines) told are =
    ap (λ (t : List (List ℕ)). without_indented (text_of t)) are.3 ∙ ap without_indented (text_front are.0 are.1)
    ∙ told-left shown rules line (answer_of rules line) are.0 (text_of are.1) are.2 (answer-plain-of rules line)
    ∙ ap (λ (t : List ℕ). with_line_feed (answer_of rules line) ++ t) (explained-left shown rules lines are.1 are.4)
    ∙ sym (text_cons (answer_of rules line) (filter_map (answer_of rules) lines))
  where
    text_front : (answer : Option (List ℕ)) (others : List (List ℕ)) → text_of (answers_in answer ++ others) ≡ with_line_feed answer ++ text_of others
    text_front None others = refl
    text_front (Some answer) others = refl

    text_cons : (answer : Option (List ℕ)) (others : List (List ℕ)) → text_of (cons_option answer others) ≡ with_line_feed answer ++ text_of others
    text_cons None others = refl
    text_cons (Some answer) others = refl

pub explained_answers : (shown : Shown) (given : Rules) (lines told : List (List ℕ)) → AnswerRecords (IsExplained shown) given lines told → without_indented (text_of told) ≡ answers_to given lines
explained_answers shown given lines told are = explained-left shown (rules_of given lines) (record_lines lines) told are
