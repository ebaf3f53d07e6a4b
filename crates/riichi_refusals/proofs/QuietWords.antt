-- What a refusal says is printable, and has neither quotes nor backslashes.
use Rattle.std.proofs.Common.{◌≡◌, ℕ, List, [], ◌∷◌, Bool, true, false, cond, nat_eq, nat_lt, Option, Some, None, refl}
use Rattle.std.specs.Prelude.{codes, not, ◌||◌, ◌==◌, slice_index_or, unwrap_or, IfSome}
use Rattle.std.specs.List.{list_all, starts_with}
use Rattle.riichi_tiles.specs.declared.notation.NotationCode.{NotationCode}
use Rattle.riichi_tiles.specs.declared.notation.NotationCode.TheVariants.{N1}
use Rattle.riichi_hand.specs.declared.fault.LineCode.{LineCode}
use Rattle.riichi_hand.specs.declared.fault.LineCode.TheVariants.{H1, H2, H3, H4, H8}
use Rattle.riichi_hand.specs.declared.fault.LineFault.{LineFault}
use Rattle.riichi_hand.specs.declared.fault.LineFault.TheVariants.{Line, Notation}
use Rattle.riichi_hand.specs.declared.line.job_name.JobName.{JobName}
use Rattle.riichi_hand.specs.declared.line.job_name.JobName.TheVariants.{Win}
use Rattle.riichi_hand.specs.declared.line.key.Key.{Key}
use Rattle.riichi_hand.specs.declared.line.key.Key.TheVariants.{By, Seat, Round, Riichi, Flags, Counters, Sticks}
use Rattle.riichi_hand.specs.Keys.{has_key, key_name, key_meaning}
use Rattle.riichi_hand.specs.Refusals.{key_at, job_at}
use Rattle.riichi_refusals.specs.Faults.{line_words, notation_words, first_word_words, keys_words, job_words, entry_words, byte_words}
use Rattle.riichi_refusals.specs.LineWords.{word_at_fault}
use Rattle.riichi_refusals.specs.Meaning.{is_long, foreign_at, foreign_words, code_words, refusal_words, key_text, refusal_key}

abbrev pub is_quiet : ℕ → Bool
is_quiet byte = not ((byte == 34) || (byte == 92) || nat_lt byte 32)

abbrev pub quiet : List ℕ → Bool
quiet text = list_all is_quiet text

either : (test : Bool) (one other : List ℕ) → quiet one ≡ true → quiet other ≡ true → quiet (cond test one other) ≡ true
either true one other p q = p
either false one other p q = q

line_words-quiet : (code : LineCode) → quiet (line_words code) ≡ true
line_words-quiet H1 = refl
line_words-quiet code = refl

notation_words-quiet : (code : NotationCode) → quiet (notation_words code) ≡ true
notation_words-quiet N1 = refl
notation_words-quiet code = refl

first_word_words-quiet : (word : Option (List ℕ)) → quiet (first_word_words word) ≡ true
first_word_words-quiet None = refl
first_word_words-quiet (Some word) = either (starts_with nat_eq word (codes "rules")) _ _ refl refl

keys_words-quiet : (job : JobName) → quiet (keys_words job) ≡ true
keys_words-quiet Win = refl
keys_words-quiet job = refl

meaning-quiet : (job : JobName) (key : Key) → quiet (unwrap_or (key_meaning key) (keys_words job)) ≡ true
meaning-quiet job By = refl
meaning-quiet job Seat = refl
meaning-quiet job Round = refl
meaning-quiet job Riichi = refl
meaning-quiet job Flags = refl
meaning-quiet job Counters = refl
meaning-quiet job Sticks = refl
meaning-quiet job key = keys_words-quiet job

job_words-quiet : (job : JobName) (key : Option Key) → quiet (job_words job key) ≡ true
job_words-quiet job None = keys_words-quiet job
job_words-quiet job (Some key) = either (has_key job key) _ _ (meaning-quiet job key) (keys_words-quiet job)

entry_words-quiet : (job : Option JobName) (key : Option Key) → quiet (entry_words job key) ≡ true
unfolding entry_words
entry_words-quiet None key = refl
entry_words-quiet (Some job) key = job_words-quiet job key

byte_words-quiet : (line : List ℕ) (place : ℕ) → quiet (byte_words line place) ≡ true
unfolding byte_words
byte_words-quiet line place =
    either (starts_with nat_eq line (239 ∷ 187 ∷ 191 ∷ [])) _ _ refl (either (nat_eq (slice_index_or line place 0) 9) _ _ refl refl)

foreign_words-quiet : (line : List ℕ) → quiet (foreign_words line) ≡ true
unfolding foreign_words
foreign_words-quiet line = let at = unwrap_or (foreign_at line) 0 in either (is_long line) (line_words H1) (byte_words line at) refl (byte_words-quiet line at)

code_words-quiet : (code : LineCode) (line : List ℕ) → quiet (code_words code line) ≡ true
unfolding code_words
code_words-quiet H1 line = foreign_words-quiet line
code_words-quiet H2 line = first_word_words-quiet (word_at_fault H2 line)
code_words-quiet H4 line = entry_words-quiet (job_at (Line H4) line) (key_at (Line H4) line)
code_words-quiet code line = line_words-quiet code

pub refusal_words-quiet : (line : List ℕ) (fault : LineFault) → quiet (refusal_words line fault) ≡ true
unfolding refusal_words
refusal_words-quiet line (Line code) = code_words-quiet code line
refusal_words-quiet line (Notation name fault) = notation_words-quiet fault.code

-- ---- keys

pub key_name-quiet : (key : Key) → quiet (key_name key) ≡ true
key_name-quiet By = refl
key_name-quiet key = refl

key_text-quiet : (fault : LineFault) (key : Option Key) → IfSome (key_text fault key) (λ name. quiet name ≡ true)
unfolding key_text
key_text-quiet fault (Some key) = key_name-quiet key
key_text-quiet (Line H3) None = refl
key_text-quiet (Line H8) None = refl
key_text-quiet (Line code) None = tt
key_text-quiet (Notation name fault) None = refl

pub refusal_key-quiet : (line : List ℕ) (fault : LineFault) → IfSome (refusal_key line fault) (λ name. quiet name ≡ true)
refusal_key-quiet line fault = key_text-quiet fault (key_at fault line)
