-- What follows a refusal: the word at fault and what may stand there, a note, and a line that is answered, where one was found.
use Rattle.std.specs.Prelude.{◌≡◌, ◌⊎◌, ℕ, ◌<◌, ◌≤◌, ◌+◌, List, [], ◌++◌, Bool, true, false, Option, None, Some, Result, Ok, IfNone, IfSome, length, codes, option_map, unwrap_or}
use Rattle.std.specs.List.{list_any}
use Rattle.riichi_hand.specs.declared.fault.LineCode.TheVariants.{H4, H8, H9}
use Rattle.riichi_hand.specs.declared.fault.LineFault.{LineFault}
use Rattle.riichi_hand.specs.declared.fault.LineFault.TheVariants.{Line}
use Rattle.riichi_hand.specs.declared.job.Job.{Job}
use Rattle.riichi_hand.specs.Rules.{Rules}
use Rattle.riichi_hand.specs.Lines.{outcome_of, is_other_byte}
use Rattle.riichi_hand.specs.Places.{fault_from}
use Rattle.riichi_hand.specs.Refusals.{key_at, job_at}
use Rattle.riichi_refusals.specs.Refusal.{refusal_lines}
use Rattle.riichi_refusals.specs.Shown.{is_seen}
use Rattle.riichi_text.specs.declared.room.TheConstants.{ANSWER_ROOM}
use Rattle.riichi_hand.specs.Words.{word_of, words_of}
use Rattle.riichi_hints.specs.declared.role.Role.{Role}
use Rattle.riichi_hints.specs.declared.role.Spot.TheVariants.{First}
use Rattle.riichi_hints.specs.Account.{account_text, has_guess, read_words}
use Rattle.riichi_hints.specs.declared.text.TheConstants.{MOST}
use Rattle.riichi_hints.specs.Plain.{IsMadePlain}
use Rattle.riichi_hints.specs.Crowd.{IsCrowdNote, IsNotCrowded}
use Rattle.riichi_hints.specs.Near.{IsKeyNote}
use Rattle.riichi_hints.specs.Numbers.{IsNumberNote}

-- ---- a line that is answered

abbrev pub is_record : Result (Option Job) LineFault → Bool
is_record (Ok (Some job)) = true
is_record outcome = false

-- Under these rules the line is a record, without a fault: it is answered.
abbrev pub IsAnswered : Rules → List ℕ → Type 0
IsAnswered rules line = is_record (outcome_of rules line) ≡ true

-- ---- the note

abbrev pub IsNote : LineFault → List ℕ → List ℕ → Type 0
IsNote (Line H4) line note = IsKeyNote (fault_from (Line H4) line) note
IsNote (Line H8) line note = IsNumberNote (key_at (Line H8) line) (job_at (Line H8) line) line (unwrap_or (option_map word_of (fault_from (Line H8) line)) []) note
IsNote (Line H9) line note = IsCrowdNote line note
IsNote fault line note = Unit {0}

-- where there is no note on H8, no word is at fault; where there is none on H9, no tile is there too often
abbrev pub HasNoNote : LineFault → List ℕ → Type 0
HasNoNote (Line H8) line = fault_from (Line H8) line ≡ None
HasNoNote (Line H9) line = IsNotCrowded line
HasNoNote fault line = Unit {0}

-- ---- the text

abbrev pub IsPrintable : List ℕ → Type 0
IsPrintable text = list_any is_other_byte text ≡ false

-- a line of words, where there are any
abbrev pub told_line : List ℕ → Option (List ℕ) → List ℕ
told_line before None = []
told_line before (Some words) = before ++ words ++ codes "\n"

-- words that aren't printable, or for which there is no room behind so many bytes, aren't told
abbrev pub HaveNoPlace : ℕ → List ℕ → Type 0
HaveNoPlace used words = (list_any is_other_byte words ≡ true) ⊎ (ANSWER_ROOM < used + length words + 10)

-- there is no note, or none that has a place
abbrev pub IsNoteUntold : LineFault → List ℕ → ℕ → Type 0
IsNoteUntold fault line used = HasNoNote fault line ⊎ ((words : List ℕ) × IsNote fault line words × HaveNoPlace used words)

-- ---- the line that is shown

-- what stands before it
abbrev pub mark_of : Bool → List ℕ
mark_of true = codes "  guess: "
mark_of false = codes "  try: "

-- The line is answered under the rules, and the account says what became of each word of the refused line, made plain: kept, read as
-- a word that it names, or left out; and what is a guess. Of a line that is too long there is none.
pub record IsHint (rules : Rules) (line shown account : List ℕ) (guess : Bool) : Type 0 where
  pub answered : IsAnswered rules shown
  pub is_short : length line ≤ MOST
  pub plain : List ℕ
  pub made_plain : IsMadePlain line plain
  pub roles : List Role
  pub account_is : account ≡ account_text (read_words (words_of plain)) roles (words_of shown)
  pub guess_is : guess ≡ has_guess roles First (words_of shown)

abbrev pub said_if : List ℕ → Option (List ℕ)
said_if [] = None
said_if text = Some text

-- the account, where there is one, and below it the line
pub record HintText (shown account : List ℕ) (guess : Bool) (text : List ℕ) : Type 0 where
  pub is_printable : IsPrintable shown
  pub account_is_seen : is_seen account ≡ true
  pub text_is : text ≡ told_line (codes "  here") (said_if account) ++ told_line (mark_of guess) (Some shown)

pub record IsHintText (rules : Rules) (line text : List ℕ) : Type 0 where
  pub shown : List ℕ
  pub account : List ℕ
  pub guess : Bool
  pub is_hint : IsHint rules line shown account guess
  pub told : HintText shown account guess text

abbrev pub IsHintOrNone : Rules → List ℕ → List ℕ → Type 0
IsHintOrNone rules line text = (text ≡ []) ⊎ IsHintText rules line text

-- The text says why a line is refused, and shows a line that is answered under the same rules, or none.
pub record IsRefusalText (rules : Rules) (line : List ℕ) (fault : LineFault) (text : List ℕ) : Type 0 where
  pub note : Option (List ℕ)
  pub is_note : IfSome note (λ words. IsNote fault line words × IsPrintable words)
  pub hint : List ℕ
  pub is_hint : IsHintOrNone rules line hint
  pub text_is : text ≡ refusal_lines line fault ++ (told_line (codes "  ") note ++ hint)

-- It has the note wherever there is one that has a place behind so many bytes and the lines of the refusal.
pub record HasItsNote (rules : Rules) (line : List ℕ) (fault : LineFault) (used : ℕ) (text : List ℕ) : Type 0 where
  pub refusal : IsRefusalText rules line fault text
  pub no_note : IfNone refusal.note (IsNoteUntold fault line (used + length (refusal_lines line fault)))
