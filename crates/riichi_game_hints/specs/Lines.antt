-- Lines that stand below an answer.
use Rattle.std.specs.Prelude.{◌≡◌, ◌==◌, ◌⊎◌, ℕ, List, [], ◌++◌, length, codes, if◌then◌else◌}

-- what is guessed, in a line of its own, where something is
abbrev pub here_line : List ℕ → List ℕ
here_line guess = if length guess == 0 then [] else codes "\n  here " ++ guess

-- what stands before a line to try
abbrev pub game_mark : List ℕ → List ℕ
game_mark guess = if length guess == 0 then codes "\n  try: " else codes "\n  guess: "

-- and before the words of a line `game`
abbrev pub game_mark_of : List ℕ → List ℕ
game_mark_of guess = if length guess == 0 then codes "\n  try: game " else codes "\n  guess: game "

-- Behind the text that stood there stands what is guessed, and a line behind its mark; or neither.
abbrev pub PutsHintLine : List ℕ → List ℕ → List ℕ → List ℕ → List ℕ → Type 0
PutsHintLine guess mark line before after = (after ≡ before) ⊎ (after ≡ before ++ (here_line guess ++ (mark ++ line)))

-- What is guessed, where something is, and behind it a rest that goes with it.
pub record IsMadeBy (IsRest : List ℕ → List ℕ → Type 0) (text : List ℕ) : Type 0 where
  pub guess : List ℕ
  pub rest : List ℕ
  pub is_rest : IsRest guess rest
  pub text_is : text ≡ here_line guess ++ rest

-- behind the text that stood there, what was made of a line
abbrev pub PutsMadeBy : (List ℕ → List ℕ → Type 0) → List ℕ → List ℕ → Type 0
PutsMadeBy IsRest before after = (said : List ℕ) × IsMadeBy IsRest said × (after ≡ before ++ said)
