-- One more line of a text that is answered into a room.
use Rattle.std.proofs.Common.{◌≡◌, ◌⊎◌, ℕ, ◌+◌, ◌-◌, ◌<◌, ◌≤◌, inl, inr, List, [], ◌∷◌, ◌++◌, map, true, Option, Some, None, length, length-append, take, drop, refl, sym, ◌∙◌, ap, append_assoc, arith}
use Rattle.std.proofs.lemmas.Slice.{drop-append-drop}
use Rattle.riichi_hand.specs.Rules.{Rules}
use Rattle.std.proofs.lemmas.List.{append-nil, take_all, take-append-le}
use Rattle.desk_lines.specs.Lines.{Cut, cut_of, without_return, ended_lines, last_line, lines, is_plain}
use Rattle.desk_lines.specs.Filling.{IsCutBehindLine, IsFirstLine, HasNoRoom, replies_by, SetsNone}
use Rattle.desk_lines.specs.Records.{AnswerKind}
use Rattle.desk_lines.specs.LineAnswers.{answers_by}
use Rattle.desk_lines.specs.Profile.{profile_of}
use Rattle.desk_lines.specs.Telling.{text_of, with_line_feed}
use Rattle.desk_lines.proofs.TellingLemmas.{text_of_append}
use Rattle.std.specs.List.{filter_map}
use Rattle.std.proofs.lemmas.List.Elements.{filter_map-append}
use Rattle.desk_lines.proofs.LineLemmas.{cut_of_plain}
use Rattle.desk_lines.proofs.CutLemmas.{cut_of-append, cut_of_first, ended_lines-more}

abbrev lines_in : Cut → List (List ℕ)
lines_in cut = map without_return cut.ended ++ last_line cut.rest

-- a front that ends with a line feed, or is empty, and what follows
pub cut_of-behind : (front more : List ℕ) → (cut_of front).rest ≡ [] → (ended_lines (front ++ more) ≡ ended_lines front ++ ended_lines more) × ((cut_of (front ++ more)).rest ≡ (cut_of more).rest)
cut_of-behind front more none = (
  ended_lines-more front more ∙ ap (λ rest. ended_lines front ++ ended_lines (rest ++ more)) none,
  ap (λ (cut : Cut). cut.rest) (cut_of-append front more) ∙ ap (λ rest. (cut_of (rest ++ more)).rest) none,
)

-- its lines are those of the front and then the others
pub lines-behind : (front more : List ℕ) → (cut_of front).rest ≡ [] → lines (front ++ more) ≡ lines front ++ lines more
lines-behind front more none =
    let cut = cut_of-behind front more none in
    ap (λ ls. ls ++ last_line (cut_of (front ++ more)).rest) cut.0 ∙ ap (λ rest. (ended_lines front ++ ended_lines more) ++ last_line rest) cut.1
    ∙ append_assoc (ended_lines front) (ended_lines more) (last_line (cut_of more).rest)
    ∙ ap (λ ls. ls ++ lines more) (sym (ap (λ rest. ended_lines front ++ last_line rest) none ∙ append-nil (ended_lines front)))

-- one line more is part of the front
pub front_longer : (text front rest : List ℕ) → IsCutBehindLine text front rest → (line after : List ℕ) (first : IsFirstLine rest line after)
    → IsCutBehindLine text (front ++ first.front) after × (lines (front ++ first.front) ≡ lines front ++ line ∷ [])
front_longer text front rest cut line after first =
    let none = ended cut.whole in (
      record {
        parts = cut.parts ∙ ap (λ more. front ++ more) first.cut.parts ∙ sym (append_assoc front first.front after);
        whole = whole first.cut.whole;
      },
      lines-behind front first.front none ∙ ap (λ more. lines front ++ more) first.line_is,
    )
  where
    some : rest ≡ [] → ⊥
    some none = omega (arith, first.shorter, ap length none)

    ended : ((cut_of front).rest ≡ []) ⊎ (rest ≡ []) → (cut_of front).rest ≡ []
    ended (inl none) = none
    ended (inr none) = absurd (some none)

    whole : ((cut_of first.front).rest ≡ []) ⊎ (after ≡ []) → ((cut_of (front ++ first.front)).rest ≡ []) ⊎ (after ≡ [])
    whole (inl none) = inl ((cut_of-behind front first.front (ended cut.whole)).1 ∙ none)
    whole (inr none) = inr none

-- the line that a line feed ends, and a last line without one
pub first_ended : (text bytes after : List ℕ) → text ≡ bytes ++ 10 ∷ after → is_plain bytes ≡ true → IsFirstLine text (without_return bytes) after
first_ended text bytes after parts plain = record {
  front = bytes ++ 10 ∷ [];
  cut = record { parts = parts ∙ sym (append_assoc bytes (10 ∷ []) after); whole = inl (ap (λ (cut : Cut). cut.rest) cut) };
  line_is = ap lines_in cut;
  shorter = omega (arith, ap length parts, length-append bytes (10 ∷ after));
} where
  cut : cut_of (bytes ++ 10 ∷ []) ≡ (let c : Cut = record { ended = bytes ∷ []; rest = [] } in c)
  cut = cut_of_first bytes [] plain

pub first_last : (text : List ℕ) → (text ≡ [] → ⊥) → is_plain text ≡ true → IsFirstLine text (without_return text) []
first_last [] some plain = absurd (some refl)
first_last (byte ∷ bytes) some plain =
    let text = byte ∷ bytes in record {
      front = text;
      cut = record { parts = sym (append-nil text); whole = inr refl };
      line_is = ap lines_in (cut_of_plain text plain);
      shorter = omega arith;
    }

-- the lines of a text are the first and others
pub first-others : (text line after : List ℕ) → IsFirstLine text line after → (others : List (List ℕ)) × (lines text ≡ line ∷ others)
first-others text line after first = elim first.cut.whole as (λ _. (others : List (List ℕ)) × (lines text ≡ line ∷ others)) [
  | inl none ↦ (lines after, ap lines first.cut.parts ∙ lines-behind first.front after none ∙ ap (λ ls. ls ++ lines after) first.line_is)
  | inr none ↦ ([], ap lines (first.cut.parts ∙ ap (λ more. first.front ++ more) none ∙ append-nil first.front) ∙ first.line_is)
]

-- ---- the room

-- more is put behind what fills the front of a room
pub longer_room : (text more : List ℕ) (before room after : List ℕ) (filled : ℕ) → filled ≡ length text → filled ≤ length before → room ≡ text ++ drop filled before
    → after ≡ (take filled room ++ more) ++ drop (filled + length more) room → after ≡ (text ++ more) ++ drop (filled + length more) before
longer_room text more before room after filled is within room_is put =
    let whole : take filled text ≡ text = take_all filled text (omega arith) in
    let front = ap (take filled) room_is ∙ take-append-le filled text (drop filled before) (omega arith) ∙ whole in
    let back = ap (drop (filled + length more)) room_is ∙ drop-append-drop filled before text (filled + length more) (omega arith) (sym is) in
    put ∙ ap (λ f. (f ++ more) ++ drop (filled + length more) room) front ∙ ap (λ b. (text ++ more) ++ b) back

-- what is longer than the room is no line without an answer
pub no_room : (Answers : AnswerKind) (rules : Rules) (line rest after : List ℕ) → IsFirstLine rest line after → (answer : Option (List ℕ)) → Answers rules line answer
    → (filled room : ℕ) → filled ≤ room → room < filled + length (with_line_feed answer) → HasNoRoom Answers rules (room - filled) rest
no_room Answers rules line rest after first None is filled room within longer = absurd (omega arith)
no_room Answers rules line rest after first (Some answer) is filled room within longer =
    let next = first-others rest line after first in record {
      line = line;
      others = next.0;
      lines_are = next.1;
      answer = answer;
      is_told = is;
      is_longer = omega (arith, length-append answer (10 ∷ []));
    }

-- ---- the law

pub pieces : (answer : List ℕ → Option (List ℕ)) (text front rest : List ℕ) → IsCutBehindLine text front rest → replies_by answer text ≡ replies_by answer front ++ replies_by answer rest
pieces answer text front rest cut = both cut.whole
  where
    both : ((cut_of front).rest ≡ []) ⊎ (rest ≡ []) → replies_by answer text ≡ replies_by answer front ++ replies_by answer rest
    both (inl none) =
        ap (replies_by answer) cut.parts ∙ ap (λ ls. text_of (filter_map answer ls)) (lines-behind front rest none) ∙ ap text_of (filter_map-append answer (lines front) (lines rest))
        ∙ text_of_append (filter_map answer (lines front)) (filter_map answer (lines rest))
    both (inr none) =
        ap (replies_by answer) (cut.parts ∙ ap (λ more. front ++ more) none ∙ append-nil front)
        ∙ sym (ap (λ more. replies_by answer front ++ replies_by answer more) none ∙ append-nil (replies_by answer front))

none_set : (by : Rules → List ℕ → Option (List ℕ)) (given : Rules) (all : List (List ℕ)) → ((line : List ℕ) (others : List (List ℕ)) → all ≡ line ∷ others → profile_of line ≡ None)
    → answers_by by given all ≡ filter_map (by given) all
none_set by given [] sets = refl
none_set by given (line ∷ others) sets = rw (sets line others refl) refl

pub as_whole : (by : Rules → List ℕ → Option (List ℕ)) (given : Rules) (text : List ℕ) → SetsNone text → text_of (answers_by by given (lines text)) ≡ replies_by (by given) text
as_whole by given text sets = ap text_of (none_set by given (lines text) sets)

pub ruleset fill_by_facts = (front_longer, no_room, longer_room)
