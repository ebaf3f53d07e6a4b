-- The text of each answer's tree is made of the pieces that are written.
use Rattle.std.proofs.Common.{◌≡◌, ℕ, Bool, true, false, cond, List, [], ◌∷◌, ◌++◌, refl, sym, ap, ◌∙◌, append_assoc, decimal, nat_le}
use Rattle.std.specs.Prelude.{codes, ◌==◌}
use Rattle.std.specs.Fmt.{signed_decimal}
use Rattle.json.specs.Json.{Json, string}
use Rattle.json.specs.Print.{escape, escape_byte, quoted}
use Rattle.riichi_hand.specs.Rules.{Rules}
use Rattle.riichi_hand.specs.RulesWords.{rules_words, is_house, house_words}
use Rattle.riichi_score.specs.declared.payers.Payment.{Payment}
use Rattle.riichi_score.specs.declared.payers.Payment.TheVariants.{Ron, Tsumo, DealerTsumo}
use Rattle.riichi_score.specs.declared.score.Score.{Score}
use Rattle.riichi_score.specs.declared.answer.WinAnswer.{WinAnswer}
use Rattle.riichi_score.specs.declared.answer.WinAnswer.TheVariants.{Won, NoYaku, NoWin}
use Rattle.riichi_shape.specs.LiveCopies.{live_in}
use Rattle.riichi_text.specs.Tiles.{kind_text}
use Rattle.riichi_shape.specs.declared.accepts.Accepts.{Accepts}
use Rattle.riichi_shape.specs.declared.accepts.Accepts.TheVariants.{Thirteen, Fourteen}
use Rattle.riichi_shape.specs.declared.discard.Discard.{Discard}
use Rattle.riichi_shape.specs.declared.shape_answer.ShapeAnswer.{ShapeAnswer}
use Rattle.riichi_names.specs.Names.{japanese}
use Rattle.riichi_yaku.specs.declared.table.Yaku.{Yaku}
use Rattle.riichi_yaku.specs.Table as table
use Rattle.riichi_yaku.specs.YakuSets.{is_yakuman, yaku_in}
use Rattle.desk_core.specs.declared.answer.Answer.TheVariants as answer
use Rattle.desk_json.specs.Parts as parts
use Rattle.desk_json.specs.Parts.{yaku_json, names_json, limit_json, truth_json, payment_json, worth_json, points_json, score_json, yaku_list_json, quoted_kind, live_json, pairs_json, accepted_json, discard_json, discards_json, accepts_json, shape_json}
use Rattle.desk_json.specs.Text.{answer_json}
use Rattle.desk_json.specs.Trees.{answer_tree, members_of, object_of, natural, kind_tree, yaku_tree, limit_tree, payment_tree, rules_members, score_tree, win_tree, kinds_held, waits_tree, live_tree, accepted_members, discard_tree, accepts_members, shape_tree}
use Rattle.desk_json.proofs.Lists.{items_joined}
use Rattle.desk_json.proofs.WordLemmas.{escape_kind, escape_name, escape_rules, escape_word}
use Rattle.desk_json.proofs.Written.{written, members_written, text_written}

-- ---- wins

yaku_with : (n : ℕ) (word name : List ℕ) → escape word ≡ word → escape name ≡ name
    → written (object_of ((codes "number", natural n) ∷ (codes "word", string word) ∷ (codes "japanese", string name) ∷ []))
    ≡ codes "{\"number\":" ++ decimal n ++ (codes ",\"word\":\"" ++ word ++ codes "\",\"japanese\":\"" ++ name ++ codes "\"}")
unfolding written escape_byte
yaku_with n word name same same_name = simp (append_assoc, same, same_name)

pub yaku_written : (yaku : Yaku) → written (yaku_tree yaku) ≡ yaku_json yaku
unfolding yaku_tree yaku_json names_json
yaku_written yaku = yaku_with (table.number yaku) (table.word yaku) (japanese yaku) (escape_word yaku) (escape_name yaku)

limit_written : (base : ℕ) → written (limit_tree base) ≡ limit_json base
unfolding written escape_byte limit_tree
limit_written base = by_tests (base == 2000) (base == 3000) (base == 4000) (base == 6000) (nat_le 8000 base)
  where
    by_tests : (a b c d e : Bool) →
        written (cond a (string (codes "mangan")) (cond b (string (codes "haneman")) (cond c (string (codes "baiman")) (cond d (string (codes "sanbaiman")) (cond e (string (codes "yakuman")) Json.null)))))
        ≡ cond a (codes "\"mangan\"") (cond b (codes "\"haneman\"") (cond c (codes "\"baiman\"") (cond d (codes "\"sanbaiman\"") (cond e (codes "\"yakuman\"") (codes "null")))))
    by_tests false false false false false = refl
    by_tests _ _ _ _ _ = refl

payment_written : (payment : Payment) → written (payment_tree payment) ≡ payment_json payment
unfolding written escape_byte payment_tree
payment_written (Ron points) = refl
payment_written (Tsumo other dealer) = simp append_assoc
payment_written (DealerTsumo each) = refl

truth_written : (truth : Bool) → written (Json.boolean truth) ≡ truth_json truth
unfolding written
truth_written true = refl
truth_written false = refl

-- a score with the texts of its truth, limit, payment, yaku and end
score_with : Score → List ℕ → List ℕ → List ℕ → List ℕ → List ℕ → List ℕ
score_with score truth limit payment yaku end =
    codes "{\"answer\":\"won\",\"yakuman\":" ++ (truth ++ (codes ",\"han\":" ++ (decimal score.han ++ (codes ",\"fu\":" ++ (decimal score.fu
    ++ (codes ",\"dora\":" ++ (decimal score.dora ++ (codes ",\"base\":" ++ (decimal score.base ++ (codes ",\"limit\":" ++ (limit
    ++ (codes ",\"payment\":" ++ (payment ++ (codes ",\"gain\":" ++ (decimal score.gain ++ (codes ",\"yaku\":[" ++ (yaku ++ end)))))))))))))))))

same_score : (score : Score) (t t' l l' p p' y y' n n' : List ℕ) → t ≡ t' → l ≡ l' → p ≡ p' → y ≡ y' → n ≡ n' → score_with score t l p y n ≡ score_with score t' l' p' y' n'
same_score score t t' l l' p p' y y' n n' e f g h k = cc

grouped : (a t b h c f d o e s g l i p j n k y x r z : List ℕ)
    → a ++ (t ++ (b ++ (h ++ (c ++ (f ++ (d ++ (o ++ (e ++ (s ++ (g ++ (l ++ (i ++ (p ++ (j ++ (n ++ (k ++ ((y ++ x) ++ (r ++ z))))))))))))))))))
    ≡ ((((((((((((a ++ t) ++ b) ++ h) ++ c) ++ f) ++ d) ++ o) ++ (((((((e ++ s) ++ g) ++ l) ++ i) ++ p) ++ j) ++ n)) ++ k) ++ y) ++ x) ++ r) ++ z
grouped a t b h c f d o e s g l i p j n k y x r z = simp append_assoc

-- the rules with the brace behind them, where they are told and where they aren't
rules_with : (words : List ℕ) → escape words ≡ words → codes ",\"rules\":" ++ (quoted words ++ codes "}") ≡ (codes ",\"rules\":\"" ++ words ++ codes "\"") ++ codes "}"
rules_with words same = simp (append_assoc, same)

rules_written : (rules : Rules) → members_written true (members_of (rules_members rules)) ≡ parts.rules_json rules ++ codes "}"
unfolding written escape_byte house_words
rules_written rules =
    let words = rules_words rules in
    elim (is_house rules) as (λ test. members_written true (members_of (cond test ((codes "rules", string words) ∷ []) [])) ≡ cond test (codes ",\"rules\":\"" ++ words ++ codes "\"") [] ++ codes "}")
    [ true ↦ rules_with words (escape_rules rules) | false ↦ refl ]

score_written : (rules : Rules) (score : Score) → written (score_tree rules score) ≡ (score_json score ++ parts.rules_json rules) ++ codes "}"
unfolding written escape_byte score_tree score_json worth_json points_json score_with
score_written rules score =
    same_score score _ (truth_json (is_yakuman score.yaku)) _ (limit_json score.base) _ (payment_json score.payment) _ (yaku_list_json score.yaku ++ codes "]") _ (parts.rules_json rules ++ codes "}")
    (truth_written (is_yakuman score.yaku)) (limit_written score.base) (payment_written score.payment) (items_joined yaku_tree yaku_json yaku_written (yaku_in score.yaku)) (rules_written rules)
    ∙ grouped (codes "{\"answer\":\"won\",\"yakuman\":") (truth_json (is_yakuman score.yaku)) (codes ",\"han\":") (decimal score.han) (codes ",\"fu\":") (decimal score.fu)
    (codes ",\"dora\":") (decimal score.dora) (codes ",\"base\":") (decimal score.base) (codes ",\"limit\":") (limit_json score.base)
    (codes ",\"payment\":") (payment_json score.payment) (codes ",\"gain\":") (decimal score.gain) (codes ",\"yaku\":[") (yaku_list_json score.yaku) (codes "]") (parts.rules_json rules) (codes "}")

-- an answer's sort, and the rules behind it
sort_written : (sort : List ℕ) (rules : Rules) → sort ++ members_written true (members_of (rules_members rules)) ≡ (sort ++ parts.rules_json rules) ++ codes "}"
sort_written sort rules = ap (λ t. sort ++ t) (rules_written rules) ∙ sym (append_assoc sort (parts.rules_json rules) (codes "}"))

pub win_written : (rules : Rules) (win : WinAnswer) → answer_json rules (answer.Win win) ≡ parts.win_json rules win
unfolding answer_tree win_tree parts.win_json parts.open_win_json parts.worth_members_json written escape_byte
win_written rules (Won score) = text_written (score_tree rules score) ∙ score_written rules score
win_written rules NoYaku = text_written (win_tree rules NoYaku) ∙ sort_written (codes "{\"answer\":\"no yaku\"") rules
win_written rules NoWin = text_written (win_tree rules NoWin) ∙ sort_written (codes "{\"answer\":\"no win\"") rules

-- ---- waits

kind_written : (kind : ℕ) → written (kind_tree kind) ≡ quoted_kind kind
unfolding written
kind_written kind = ap (λ t. 34 ∷ (t ++ 34 ∷ [])) (escape_kind kind)

pub list_ends : (a y x z : List ℕ) → a ++ ((y ++ x) ++ z) ≡ (a ++ y) ++ (x ++ z)
list_ends a y x z = simp append_assoc

pub waits_written : (rules : Rules) (marks : ℕ) → answer_json rules (answer.Waits marks) ≡ parts.waits_json marks
unfolding answer_tree waits_tree parts.waits_json written escape_byte
waits_written rules marks =
    text_written (waits_tree marks)
    ∙ ap (λ t. codes "{\"answer\":\"waits\",\"kinds\":[" ++ (t ++ codes "}")) (items_joined kind_tree quoted_kind kind_written (kinds_held marks))
    ∙ list_ends (codes "{\"answer\":\"waits\",\"kinds\":[") (parts.kinds_json marks) (codes "]") (codes "}")

-- ---- shapes

live_with : (kind live : List ℕ) → codes "{\"kind\":" ++ ((34 ∷ (kind ++ 34 ∷ [])) ++ (codes ",\"live\":" ++ (live ++ codes "}")))
    ≡ (((codes "{\"kind\":\"" ++ kind) ++ codes "\",\"live\":") ++ live) ++ codes "}"
live_with kind live = simp append_assoc

live_written : (pair : ℕ × ℕ) → written (live_tree pair) ≡ live_json pair
unfolding written escape_byte live_tree live_json
live_written pair =
    ap (λ t. codes "{\"kind\":" ++ ((34 ∷ (t ++ 34 ∷ [])) ++ (codes ",\"live\":" ++ (decimal pair.1 ++ codes "}")))) (escape_kind pair.0)
    ∙ live_with (kind_text pair.0) (decimal pair.1)

accepted_with : (pairs live : List ℕ) → codes ",\"accepts\":[" ++ ((pairs ++ codes "]") ++ (codes ",\"live\":" ++ (live ++ codes "}")))
    ≡ codes "," ++ ((((codes "\"accepts\":[" ++ pairs) ++ codes "],\"live\":") ++ live) ++ codes "}")
accepted_with pairs live = simp append_assoc

accepted_written : (pairs : List (ℕ × ℕ)) → members_written true (members_of (accepted_members pairs)) ≡ codes "," ++ accepted_json pairs
unfolding written escape_byte accepted_json
accepted_written pairs =
    ap (λ t. codes ",\"accepts\":[" ++ (t ++ (codes ",\"live\":" ++ (decimal (live_in pairs) ++ codes "}")))) (items_joined live_tree live_json live_written pairs)
    ∙ accepted_with (pairs_json pairs) (decimal (live_in pairs))

discard_with : (kind accepted : List ℕ) → codes "{\"discard\":" ++ ((34 ∷ (kind ++ 34 ∷ [])) ++ (codes "," ++ accepted))
    ≡ ((codes "{\"discard\":\"" ++ kind) ++ codes "\",") ++ accepted
discard_with kind accepted = simp append_assoc

discard_written : (discard : Discard) → written (discard_tree discard) ≡ discard_json discard
unfolding written escape_byte discard_tree discard_json
discard_written discard =
    ap (λ t. codes "{\"discard\":" ++ ((34 ∷ (t ++ 34 ∷ [])) ++ members_written true (members_of (accepted_members discard.accepted)))) (escape_kind discard.kind)
    ∙ ap (λ t. codes "{\"discard\":" ++ ((34 ∷ (kind_text discard.kind ++ 34 ∷ [])) ++ t)) (accepted_written discard.accepted)
    ∙ discard_with (kind_text discard.kind) (accepted_json discard.accepted)

accepts_written : (accepts : Accepts) → members_written true (members_of (accepts_members accepts)) ≡ codes "," ++ accepts_json accepts
unfolding written escape_byte accepts_json
accepts_written (Thirteen accepted) = accepted_written accepted
accepts_written (Fourteen discards) =
    ap (λ t. codes ",\"discards\":[" ++ (t ++ codes "}")) (items_joined discard_tree discard_json discard_written discards)
    ∙ list_ends (codes ",\"discards\":[") (discards_json discards) (codes "]") (codes "}")

shape_ends : (a s c t : List ℕ) → a ++ (s ++ (c ++ t)) ≡ ((a ++ s) ++ c) ++ t
shape_ends a s c t = simp append_assoc

pub shape_written : (rules : Rules) (shape : ShapeAnswer) → answer_json rules (answer.Shape shape) ≡ shape_json shape
unfolding answer_tree shape_tree shape_json written escape_byte
shape_written rules shape =
    text_written (shape_tree shape)
    ∙ ap (λ t. codes "{\"answer\":\"shape\",\"shanten\":" ++ (signed_decimal shape.shanten ++ t)) (accepts_written shape.accepts)
    ∙ shape_ends (codes "{\"answer\":\"shape\",\"shanten\":") (signed_decimal shape.shanten) (codes ",") (accepts_json shape.accepts)
