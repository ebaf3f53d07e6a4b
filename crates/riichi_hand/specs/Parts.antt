-- What the words of a line say.
use Rattle.std.specs.Prelude.{ℕ, List, [], Bool, false, not, Option, None, Some, unwrap_or, is_some, drop}
use Rattle.riichi_hand.specs.declared.line.job_name.JobName.{JobName}
use Rattle.riichi_hand.specs.declared.line.job_name.JobName.TheVariants.{Waits}
use Rattle.riichi_hand.specs.declared.line.key.Key.{Key}
use Rattle.riichi_hand.specs.declared.line.words.Words.{Words}
use Rattle.riichi_hand.specs.Words.{words_of}
use Rattle.riichi_hand.specs.Keys.{job_named, ValueOf}
use Rattle.riichi_hand.specs.Entries.{cut_at_equals, first_item, Entries, entries_of}

-- The first word is a job, the second a hand: a word without `=`.

abbrev pub job_word : Option (List ℕ) → Option JobName
job_word None = None
job_word (Some word) = job_named word

abbrev pub job_in : List (List ℕ) → Option JobName
job_in words = job_word (first_item words)

abbrev pub hand_word : List (List ℕ) → Option (List ℕ)
hand_word words = first_item (drop 1 words)

abbrev pub is_hand : Option (List ℕ) → Bool
is_hand None = false
is_hand (Some word) = not (is_some (cut_at_equals word))

-- What the words of a line say. Without a job or a hand an earlier fault holds, and what stands here doesn't matter.
pub record LineParts : Type 0 where
  pub job : JobName
  pub hand : List ℕ
  pub entries : Entries

abbrev pub line_parts : JobName → List ℕ → List (List ℕ) → LineParts
line_parts job hand words = record { job = job; hand = hand; entries = entries_of job words }

abbrev pub parts_of : List (List ℕ) → LineParts
parts_of words = line_parts (unwrap_or (job_in words) Waits) (unwrap_or (hand_word words) []) (drop 2 words)

-- the same of words that were cut
abbrev pub parts_in : Words → LineParts
parts_in words = line_parts words.job words.hand.now (words_of words.entries.now)

abbrev pub value : (key : Key) → LineParts → Option (ValueOf key)
value key parts = parts.entries.value key

abbrev pub is_missing : LineParts → Key → Bool
is_missing parts key = not (is_some (value key parts))
