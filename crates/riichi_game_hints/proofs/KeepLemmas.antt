-- What is kept of a line, byte by byte.
use Rattle.std.proofs.Common.{◌≡◌, ℕ, ◌+◌, ◌<◌, List, [], ◌∷◌, ◌++◌, length, map, take, get_or}
use Rattle.std.proofs.lemmas.List.{map_more}
use Rattle.riichi_game_hints.specs.Keeping.{digit_or_space, space_for_mark}

pub digits_more : (line : List ℕ) (i : ℕ) → i < length line → map digit_or_space (take (i + 1) line) ≡ map digit_or_space (take i line) ++ digit_or_space (get_or line i 0) ∷ []
digits_more line i h = map_more digit_or_space line i 0 h

pub parted_more : (line : List ℕ) (i : ℕ) → i < length line → map space_for_mark (take (i + 1) line) ≡ map space_for_mark (take i line) ++ space_for_mark (get_or line i 0) ∷ []
parted_more line i h = map_more space_for_mark line i 0 h
