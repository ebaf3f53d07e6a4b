-- The text of a value by the texts of its parts, with no tokens between.
use Rattle.std.proofs.Common.{◌≡◌, ℕ, Bool, true, false, cond, ◌&&◌, List, [], ◌∷◌, ◌++◌, refl, sym, ap, ◌∙◌, append_assoc}
use Rattle.std.proofs.lemmas.List.{append-nil}
use Rattle.json.specs.Token.{Token}
use Rattle.json.specs.Json.{Json, null, boolean, number, string, array, object, Items, no_items, item, Members, no_members, member}
use Rattle.json.specs.Print.{print, print_from, quoted, token_text}
use Rattle.json.specs.Tree.{json_tokens, items_tokens, members_tokens}
use Rattle.desk_json.specs.Parts.{comma_if}
use Rattle.desk_json.specs.Text.{json_text}

unfoldable mutual
  pub written : Json → List ℕ
  written null = token_text Token.null
  written (boolean b) = token_text (Token.boolean b)
  written (number s) = s
  written (string s) = quoted s
  written (array js) = 91 ∷ items_written false js
  written (object ms) = 123 ∷ members_written false ms

  -- with the bracket that ends them
  pub items_written : Bool → Items → List ℕ
  items_written later no_items = 93 ∷ []
  items_written later (item j js) = comma_if later ++ (written j ++ items_written true js)

  pub members_written : Bool → Members → List ℕ
  members_written later no_members = 125 ∷ []
  members_written later (member k j ms) = comma_if later ++ ((quoted k ++ 58 ∷ []) ++ (written j ++ members_written true ms))

begun : (later : Bool) → cond {A = List ℕ} (later && true) (44 ∷ []) [] ≡ comma_if later
begun true = refl
begun false = refl

ended : (later : Bool) → cond {A = List ℕ} (later && false) (44 ∷ []) [] ≡ []
ended true = refl
ended false = refl

pub item_ends : (c w i r : List ℕ) → c ++ (w ++ (i ++ r)) ≡ (c ++ (w ++ i)) ++ r
item_ends c w i r = simp append_assoc

pub member_ends : (c k w i r : List ℕ) → c ++ (k ++ (w ++ (i ++ r))) ≡ (c ++ (k ++ (w ++ i))) ++ r
member_ends c k w i r = simp append_assoc

mutual
  unfolding print_from written

  -- what is printed of a value before other tokens
  printed : (later : Bool) (j : Json) (rest : List Token) → print_from later (json_tokens j ++ rest) ≡ comma_if later ++ (written j ++ print_from true rest)
  printed later null rest = ap (λ c. c ++ (token_text Token.null ++ print_from true rest)) (begun later)
  printed later (boolean b) rest = ap (λ c. c ++ (token_text (Token.boolean b) ++ print_from true rest)) (begun later)
  printed later (number s) rest = ap (λ c. c ++ (s ++ print_from true rest)) (begun later)
  printed later (string s) rest = ap (λ c. c ++ (quoted s ++ print_from true rest)) (begun later)
  printed later (array js) rest =
      ap (λ c. c ++ (91 ∷ print_from false (items_tokens js ++ rest))) (begun later)
      ∙ ap (λ t. comma_if later ++ (91 ∷ t)) (printed_items false js rest)
  printed later (object ms) rest =
      ap (λ c. c ++ (123 ∷ print_from false (members_tokens ms ++ rest))) (begun later)
      ∙ ap (λ t. comma_if later ++ (123 ∷ t)) (printed_members false ms rest)

  printed_items : (later : Bool) (js : Items) (rest : List Token) → print_from later (items_tokens js ++ rest) ≡ items_written later js ++ print_from true rest
  printed_items later no_items rest = ap (λ c. c ++ (93 ∷ print_from true rest)) (ended later)
  printed_items later (item j js) rest =
      ap (print_from later) (append_assoc (json_tokens j) (items_tokens js) rest)
      ∙ printed later j (items_tokens js ++ rest)
      ∙ ap (λ t. comma_if later ++ (written j ++ t)) (printed_items true js rest)
      ∙ item_ends (comma_if later) (written j) (items_written true js) (print_from true rest)

  printed_members : (later : Bool) (ms : Members) (rest : List Token) → print_from later (members_tokens ms ++ rest) ≡ members_written later ms ++ print_from true rest
  printed_members later no_members rest = ap (λ c. c ++ (125 ∷ print_from true rest)) (ended later)
  printed_members later (member k j ms) rest =
      ap (λ c. c ++ ((quoted k ++ 58 ∷ []) ++ print_from false ((json_tokens j ++ members_tokens ms) ++ rest))) (begun later)
      ∙ ap (λ ts. comma_if later ++ ((quoted k ++ 58 ∷ []) ++ print_from false ts)) (append_assoc (json_tokens j) (members_tokens ms) rest)
      ∙ ap (λ t. comma_if later ++ ((quoted k ++ 58 ∷ []) ++ t)) (printed false j (members_tokens ms ++ rest))
      ∙ ap (λ t. comma_if later ++ ((quoted k ++ 58 ∷ []) ++ (written j ++ t))) (printed_members true ms rest)
      ∙ member_ends (comma_if later) (quoted k ++ 58 ∷ []) (written j) (members_written true ms) (print_from true rest)

pub text_written : (j : Json) → json_text j ≡ written j
unfolding json_text print_from
text_written j = ap print (sym (append-nil (json_tokens j))) ∙ printed false j [] ∙ append-nil (written j)
