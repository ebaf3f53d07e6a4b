-- Where a word can't be, the words behind it change nothing.
use Rattle.std.proofs.Common.{◌≡◌, ℕ, List, [], ◌∷◌, None, refl}
use Rattle.riichi_game_text.specs.TableWords.{change_by_all}

pub none_stays : (words : List (List ℕ)) → change_by_all words None ≡ None
none_stays [] = refl
none_stays (word ∷ words) = none_stays words
