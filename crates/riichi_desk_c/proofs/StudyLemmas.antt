-- The answer to a question, without the line feed behind it.
use Rattle.std.proofs.Common.{◌≡◌, ℕ, ◌+◌, ◌-◌, List, [], ◌∷◌, ◌++◌, Option, None, Some, length, length-append, take, refl, ap, ◌∙◌, arith}
use Rattle.std.proofs.lemmas.List.{take_at}
use Rattle.desk_lines.specs.Telling.{with_line_feed}
use Rattle.riichi_desk_c.specs.Studies.{object_in}

pub object_end : (answer : Option (List ℕ)) (text : List ℕ) → text ≡ with_line_feed answer → take (length text - 1) text ≡ object_in answer
object_end None text e = ap (λ (t : List ℕ). take (length t - 1) t) e
object_end (Some told) text e = ap (λ (t : List ℕ). take (length t - 1) t) e ∙ take_at told (10 ∷ []) (length (told ++ 10 ∷ []) - 1) (one (length told) (length-append told (10 ∷ [])))
  where
    one : {n : ℕ} (m : ℕ) → n ≡ m + 1 → m ≡ n - 1
    one m f = omega (arith, f)
