-- What was made of a line stands behind a text.
use Rattle.std.proofs.Common.{◌≡◌, ℕ, List, [], ◌++◌, inl, inr, refl, sym, ◌∙◌}
use Rattle.std.proofs.lemmas.List.{append-nil}
use Rattle.riichi_game_hints.specs.Lines.{here_line, PutsHintLine, PutsMadeBy}

pub nothing_made : (P : List ℕ → List ℕ → Type 0) (old new : List ℕ) → P [] [] → new ≡ old → PutsMadeBy P old new
nothing_made P old new none same = ([], record { guess = []; rest = []; is_rest = none; text_is = refl }, same ∙ sym (append-nil old))

-- words for which nothing is guessed
pub words_made : (P : List ℕ → List ℕ → Type 0) (old new words : List ℕ) → P [] words → new ≡ old ++ words → PutsMadeBy P old new
words_made P old new words is told = (words, record { guess = []; rest = words; is_rest = is; text_is = refl }, told)

-- a line behind its mark, below what is guessed
pub line_made : (P : List ℕ → List ℕ → Type 0) (guess mark line old new : List ℕ) → P [] [] → P guess (mark ++ line) → PutsHintLine guess mark line old new → PutsMadeBy P old new
line_made P guess mark line old new none is (inl same) = nothing_made P old new none same
line_made P guess mark line old new none is (inr told) =
    (here_line guess ++ (mark ++ line), record { guess = guess; rest = mark ++ line; is_rest = is; text_is = refl }, told)
