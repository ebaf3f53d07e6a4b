-- The text of a value of JSON.
use Rattle.std.specs.Prelude.{◌≡◌, ℕ, ◌<◌, List, length}
use Rattle.std.proofs.Common.{ap}
use Rattle.json.specs.Json.{Json}
use Rattle.json.specs.Print.{print}
use Rattle.json.specs.Tree.{json_tokens}
use Rattle.riichi_hand.specs.declared.fault.LineCode.TheVariants.{H1}
use Rattle.riichi_hand.specs.declared.fault.LineFault.{LineFault}
use Rattle.riichi_hand.specs.declared.fault.LineFault.TheVariants.{Line}
use Rattle.riichi_hand.specs.Rules.{Rules}
use Rattle.riichi_refusals.specs.Meaning.{long_keys_alike, long_places_alike, long_words_alike}
use Rattle.desk_core.specs.declared.answer.Answer.{Answer}
use Rattle.desk_json.specs.Trees.{answer_tree, refused_tree, refusal_tree}

-- with no space and no line's end
unfoldable pub json_text : Json → List ℕ
json_text json = print (json_tokens json)

abbrev pub answer_json : Rules → Answer → List ℕ
answer_json rules answer = json_text (answer_tree rules answer)

abbrev pub refusal_json : List ℕ → LineFault → List ℕ
refusal_json line fault = json_text (refusal_tree line fault)

-- lines of more than 4,096 bytes are refused alike
long_trees_alike : (line other : List ℕ) → 4096 < length line → 4096 < length other → refusal_tree line (Line H1) ≡ refusal_tree other (Line H1)
unfolding refusal_tree
long_trees_alike line other long long_other =
    let keys = long_keys_alike line other in
    let places = long_places_alike line other long long_other in
    let words = long_words_alike line other long long_other in
    λ i. refused_tree (Line H1) (keys i) (places i) (words i)

pub long_texts_alike : (line other : List ℕ) → 4096 < length line → 4096 < length other → refusal_json line (Line H1) ≡ refusal_json other (Line H1)
long_texts_alike line other long long_other = ap json_text (long_trees_alike line other long long_other)
