-- The text of a refusal's tree is made of the pieces that are written.
use Rattle.std.proofs.Common.{◌≡◌, ℕ, List, [], ◌∷◌, ◌++◌, true, Option, Some, None, refl, ap, ◌∙◌, append_assoc, decimal}
use Rattle.std.specs.Prelude.{IfSome, codes}
use Rattle.json.specs.Json.{string}
use Rattle.json.specs.Print.{escape, escape_byte, quoted}
use Rattle.riichi_tiles.specs.declared.notation.NotationCode.{NotationCode}
use Rattle.riichi_tiles.specs.declared.notation.NotationCode.TheVariants.{N1}
use Rattle.riichi_hand.specs.FaultTexts.{line_code_text, notation_code_text, name_text}
use Rattle.riichi_hand.specs.declared.fault.LineCode.{LineCode}
use Rattle.riichi_hand.specs.declared.fault.LineCode.TheVariants.{H1}
use Rattle.riichi_hand.specs.declared.fault.TextName.{TextName}
use Rattle.riichi_hand.specs.declared.fault.TextName.TheVariants.{Hand}
use Rattle.riichi_hand.specs.declared.fault.LineFault.{LineFault}
use Rattle.riichi_hand.specs.declared.fault.LineFault.TheVariants.{Line, Notation}
use Rattle.riichi_hand.specs.declared.line.record.Place.{Place}
use Rattle.riichi_refusals.specs.Meaning.{refusal_key, refusal_place, refusal_words}
use Rattle.riichi_refusals.proofs.QuietWords.{quiet, refusal_words-quiet, refusal_key-quiet}
use Rattle.desk_json.specs.Parts.{code_json, key_json, place_json, words_json, refused_json, refusal_parts}
use Rattle.desk_json.specs.Text.{refusal_json}
use Rattle.desk_json.specs.Trees.{members_of, key_members, place_members, refused_tree, refusal_tree}
use Rattle.desk_json.proofs.WordLemmas.{escape_same}
use Rattle.desk_json.proofs.Written.{written, members_written, text_written}

escape_code : (code : LineCode) → escape (line_code_text code) ≡ line_code_text code
unfolding escape_byte
escape_code H1 = refl
escape_code _ = refl

escape_notation : (code : NotationCode) → escape (notation_code_text code) ≡ notation_code_text code
unfolding escape_byte
escape_notation N1 = refl
escape_notation _ = refl

escape_name : (name : TextName) → escape (name_text name) ≡ name_text name
unfolding escape_byte
escape_name Hand = refl
escape_name _ = refl

-- ---- the members behind those of the fault

place_with : (at length w : List ℕ) → codes ",\"at\":" ++ (at ++ (codes ",\"length\":" ++ (length ++ w))) ≡ (codes ",\"at\":" ++ at ++ codes ",\"length\":" ++ length) ++ w
place_with at length w = simp append_assoc

key_with : (key p w : List ℕ) → escape key ≡ key → codes ",\"key\":" ++ (quoted key ++ (p ++ w)) ≡ (codes ",\"key\":\"" ++ key ++ codes "\"") ++ p ++ w
key_with key p w same = simp (append_assoc, same)

words_written : (words : List ℕ) → escape words ≡ words → members_written true (members_of ((codes "words", string words) ∷ [])) ≡ words_json words
unfolding written escape_byte words_json
words_written words said = simp (append_assoc, said)

placed_written : (place : Option Place) (words : List ℕ) → escape words ≡ words
    → members_written true (members_of (place_members place ++ (codes "words", string words) ∷ [])) ≡ place_json place ++ words_json words
unfolding written escape_byte place_json
placed_written None words said = words_written words said
placed_written (Some place) words said =
    ap (λ t. codes ",\"at\":" ++ (decimal place.at ++ (codes ",\"length\":" ++ (decimal place.length ++ t)))) (words_written words said)
    ∙ place_with (decimal place.at) (decimal place.length) (words_json words)

more_written : (key : Option (List ℕ)) (place : Option Place) (words : List ℕ) → IfSome key (λ name. escape name ≡ name) → escape words ≡ words
    → members_written true (members_of (key_members key ++ place_members place ++ (codes "words", string words) ∷ [])) ≡ key_json key ++ place_json place ++ words_json words
unfolding written escape_byte key_json
more_written None place words same said = placed_written place words said
more_written (Some key) place words same said =
    ap (λ t. codes ",\"key\":" ++ (quoted key ++ t)) (placed_written place words said) ∙ key_with key (place_json place) (words_json words) same

-- ---- those of the fault, by the texts of its code and its name
line_with : (code k p w : List ℕ) → escape code ≡ code
    → codes "{\"answer\":\"refused\",\"code\":" ++ (quoted code ++ (k ++ p ++ w)) ≡ (codes "{\"answer\":\"refused\",\"code\":\"" ++ code ++ codes "\"") ++ k ++ p ++ w
line_with code k p w same = simp (append_assoc, same)

notation_with : (code name place k p w : List ℕ) → escape code ≡ code → escape name ≡ name
    → codes "{\"answer\":\"refused\",\"code\":" ++ (quoted code ++ (codes ",\"text\":" ++ (quoted name ++ (codes ",\"place\":" ++ (place ++ (k ++ p ++ w))))))
    ≡ (codes "{\"answer\":\"refused\",\"code\":\"" ++ code ++ codes "\",\"text\":\"" ++ name ++ codes "\",\"place\":" ++ place) ++ k ++ p ++ w
notation_with code name place k p w same same_name = simp (append_assoc, same, same_name)

refused_written : (fault : LineFault) (key : Option (List ℕ)) (place : Option Place) (words : List ℕ) → IfSome key (λ name. escape name ≡ name) → escape words ≡ words
    → written (refused_tree fault key place words) ≡ refused_json fault key place words
unfolding written escape_byte code_json
refused_written (Line code) key place words same said =
    ap (λ t. codes "{\"answer\":\"refused\",\"code\":" ++ (quoted (line_code_text code) ++ t)) (more_written key place words same said)
    ∙ line_with (line_code_text code) (key_json key) (place_json place) (words_json words) (escape_code code)
refused_written (Notation name fault) key place words same said =
    ap (λ t. codes "{\"answer\":\"refused\",\"code\":" ++ (quoted (notation_code_text fault.code) ++ (codes ",\"text\":" ++ (quoted (name_text name) ++ (codes ",\"place\":" ++ (decimal fault.place ++ t))))))
    (more_written key place words same said)
    ∙ notation_with (notation_code_text fault.code) (name_text name) (decimal fault.place) (key_json key) (place_json place) (words_json words) (escape_notation fault.code) (escape_name name)

escape_key : (key : Option (List ℕ)) → IfSome key (λ name. quiet name ≡ true) → IfSome key (λ name. escape name ≡ name)
escape_key None is = tt
escape_key (Some key) is = escape_same key is

pub refusal_written : (line : List ℕ) (fault : LineFault) → refusal_json line fault ≡ refusal_parts line fault
unfolding refusal_tree refusal_parts
refusal_written line fault =
    text_written (refusal_tree line fault)
    ∙ refused_written fault (refusal_key line fault) (refusal_place line fault) (refusal_words line fault)
    (escape_key (refusal_key line fault) (refusal_key-quiet line fault)) (escape_same (refusal_words line fault) (refusal_words-quiet line fault))
