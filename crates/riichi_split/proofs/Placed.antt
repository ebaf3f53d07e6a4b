-- One set more, in its place.
use Rattle.std.proofs.Common.{◌≡◌, ℕ, ◌+◌, ◌<◌, List, [], ◌∷◌, ◌++◌, length, length-append, take, slice_set, refl, sym, ◌∙◌, ap, arith}
use Rattle.riichi_tiles.specs.declared.block.Block.{Block}
use Rattle.riichi_split.specs.Sets.{in_four_places, AreSets}

in_four_places-push : (sets : List Block) (block : Block) → length sets < 4 → slice_set (in_four_places sets) (length sets) block ≡ in_four_places (sets ++ block ∷ [])
in_four_places-push [] block room = refl
in_four_places-push (a ∷ []) block room = refl
in_four_places-push (a ∷ b ∷ []) block room = refl
in_four_places-push (a ∷ b ∷ c ∷ []) block room = refl
in_four_places-push (a ∷ b ∷ c ∷ d ∷ sets) block room = absurd (omega (arith, room))

take-placed : (sets : List Block) (block : Block) → length sets < 4 → take (length sets + 1) (in_four_places (sets ++ block ∷ [])) ≡ sets ++ block ∷ []
take-placed [] block room = refl
take-placed (a ∷ []) block room = refl
take-placed (a ∷ b ∷ []) block room = refl
take-placed (a ∷ b ∷ c ∷ []) block room = refl
take-placed (a ∷ b ∷ c ∷ d ∷ sets) block room = absurd (omega (arith, room))

pub AreSets_push : (blocks : List Block) (count : ℕ) (block : Block) → AreSets blocks count → length (take count blocks) < 4 → AreSets (slice_set blocks count block) (count + 1)
AreSets_push blocks count block are room =
    let sets = take count blocks in
    let set_is : slice_set blocks count block ≡ in_four_places (sets ++ block ∷ []) = ap (λ bs. slice_set bs count block) are.places ∙ ap (λ n. slice_set (in_four_places sets) n block) are.counted ∙ in_four_places-push sets block room in
    let taken : take (count + 1) (slice_set blocks count block) ≡ sets ++ block ∷ [] = ap (take (count + 1)) set_is ∙ ap (λ n. take (n + 1) (in_four_places (sets ++ block ∷ []))) are.counted ∙ take-placed sets block room in
    record {
      places = set_is ∙ ap in_four_places (sym taken);
      counted = ap (λ n. n + 1) are.counted ∙ sym (length-append sets (block ∷ [])) ∙ ap length (sym taken);
      at_most_four = omega (arith, are.counted, room);
    }
