-- The text of an object with one member more is that of the object without its brace, the member, and the brace.
use Rattle.std.proofs.Common.{◌≡◌, ℕ, Bool, true, false, List, [], ◌∷◌, ◌++◌, refl, sym, ap, ◌∙◌, append_assoc}
use Rattle.std.proofs.lemmas.List.{append_cancel_right}
use Rattle.std.specs.Prelude.{codes}
use Rattle.json.specs.Json.{Json, object, Members, no_members, member}
use Rattle.json.specs.Print.{quoted, escape_byte}
use Rattle.desk_json.specs.Parts.{comma_if}
use Rattle.desk_json.specs.Text.{json_text}
use Rattle.desk_json.specs.Trees.{Named}
use Rattle.desk_json.proofs.Written.{written, members_written, text_written, member_ends}
use Rattle.riichi_hand.specs.Rules.{Rules}
use Rattle.riichi_score.specs.declared.answer.WinAnswer.{WinAnswer}
use Rattle.riichi_score.specs.declared.answer.WinAnswer.TheVariants.{Won, NoYaku, NoWin}
use Rattle.desk_core.specs.declared.answer.Answer.TheVariants as answer
use Rattle.desk_json.specs.Text.{answer_json}
use Rattle.desk_json.specs.Trees.{answer_tree, win_tree, score_tree}
use Rattle.desk_reasons.specs.Trees.{with_last, with_member}

-- a member behind others
unfoldable pub member_text : Named → List ℕ
member_text named = 44 ∷ ((quoted named.0 ++ 58 ∷ []) ++ written named.1)

-- members without the brace that ends them
unfoldable open_members : Bool → Members → List ℕ
open_members later no_members = []
open_members later (member name value members) = comma_if later ++ ((quoted name ++ 58 ∷ []) ++ (written value ++ open_members true members))

closed : (later : Bool) (members : Members) → members_written later members ≡ open_members later members ++ 125 ∷ []
unfolding written open_members
closed later no_members = refl
closed later (member name value members) =
    ap (λ t. comma_if later ++ ((quoted name ++ 58 ∷ []) ++ (written value ++ t))) (closed true members)
    ∙ member_ends (comma_if later) (quoted name ++ 58 ∷ []) (written value) (open_members true members) (125 ∷ [])

closed_with : (members : Members) (named : Named) → members_written true (with_last members named) ≡ open_members true members ++ (member_text named ++ 125 ∷ [])
unfolding written open_members member_text
closed_with no_members named = sym (append_assoc (44 ∷ (quoted named.0 ++ 58 ∷ [])) (written named.1) (125 ∷ []))
closed_with (member name value members) named =
    ap (λ t. 44 ∷ ((quoted name ++ 58 ∷ []) ++ (written value ++ t))) (closed_with members named)
    ∙ member_ends (44 ∷ []) (quoted name ++ 58 ∷ []) (written value) (open_members true members) (member_text named ++ 125 ∷ [])

-- behind a text that only lacks the brace, the member and the brace are what lacks
pub one_more : (now before : List ℕ) (name : List ℕ) (value : Json) (members : Members) (named : Named)
    → now ++ codes "}" ≡ before ++ json_text (object (member name value members))
    → now ++ (member_text named ++ codes "}") ≡ before ++ json_text (with_member (object (member name value members)) named)
unfolding with_member written open_members
one_more now before name value members named e =
    let opened = 123 ∷ ((quoted name ++ 58 ∷ []) ++ (written value ++ open_members true members)) in
    let whole : json_text (object (member name value members)) ≡ opened ++ 125 ∷ [] =
    text_written (object (member name value members)) ∙ ap (λ t. 123 ∷ t) (closed false (member name value members)) in
    let front : now ≡ before ++ opened =
    append_cancel_right now (before ++ opened) (125 ∷ []) (e ∙ ap (λ t. before ++ t) whole ∙ sym (append_assoc before opened (125 ∷ []))) in
    ap (λ t. t ++ (member_text named ++ codes "}")) front
    ∙ append_assoc before opened (member_text named ++ codes "}")
    ∙ ap (λ t. before ++ t) (sym (
    text_written (with_member (object (member name value members)) named)
    ∙ ap (λ t. 123 ∷ ((quoted name ++ 58 ∷ []) ++ (written value ++ t))) (closed_with members named)
    ∙ member_ends (123 ∷ []) (quoted name ++ 58 ∷ []) (written value) (open_members true members) (member_text named ++ codes "}")))

-- the object of a win
pub win_more : (before now : List ℕ) (rules : Rules) (win : WinAnswer) (named : Named) → now ++ codes "}" ≡ before ++ answer_json rules (answer.Win win)
    → now ++ (member_text named ++ codes "}") ≡ before ++ json_text (with_member (win_tree rules win) named)
unfolding answer_tree win_tree score_tree
win_more before now rules (Won score) named e = one_more now before _ _ _ named e
win_more before now rules NoYaku named e = one_more now before _ _ _ named e
win_more before now rules NoWin named e = one_more now before _ _ _ named e

-- the member `why`
pub why_member : (tree : Json) → member_text (codes "why", tree) ≡ codes ",\"why\":" ++ json_text tree
unfolding member_text escape_byte
why_member tree = ap (λ t. codes ",\"why\":" ++ t) (sym (text_written tree))
