-- A reader gets the tree of an answer back from its text.
use Rattle.std.proofs.Common.{◌≡◌, ℕ, ◌≤◌, Bool, true, false, cond, List, [], ◌∷◌, Some, sym, ap, ◌∙◌, arith, nat_le}
use Rattle.std.specs.Prelude.{codes, ◌==◌}
use Rattle.std.proofs.lemmas.Option.{same_Some}
use Rattle.json.specs.Json.{Json, null, string, document}
use Rattle.json.specs.Tree.{depth, items_depth, members_depth, HasNumbers, ItemsHaveNumbers, MembersHaveNumbers}
use Rattle.json.proofs.Printed.Decimals.{IsNumber-decimal, IsNumber-signed_decimal}
use Rattle.json.proofs.Printed.Trees.{document-print}
use Rattle.riichi_hand.specs.Rules.{Rules}
use Rattle.riichi_hand.specs.RulesWords.{rules_words, is_house}
use Rattle.riichi_score.specs.declared.payers.Payment.{Payment}
use Rattle.riichi_score.specs.declared.payers.Payment.TheVariants.{Ron, Tsumo, DealerTsumo}
use Rattle.riichi_score.specs.declared.score.Score.{Score}
use Rattle.riichi_score.specs.declared.answer.WinAnswer.{WinAnswer}
use Rattle.riichi_score.specs.declared.answer.WinAnswer.TheVariants.{Won}
use Rattle.riichi_shape.specs.declared.accepts.Accepts.{Accepts}
use Rattle.riichi_shape.specs.declared.accepts.Accepts.TheVariants.{Thirteen, Fourteen}
use Rattle.riichi_shape.specs.declared.discard.Discard.{Discard}
use Rattle.riichi_yaku.specs.declared.table.Yaku.{Yaku}
use Rattle.riichi_yaku.specs.Table as table
use Rattle.riichi_yaku.specs.YakuSets.{yaku_in}
use Rattle.riichi_yaku.proofs.Sets.{below_count}
use Rattle.desk_core.specs.declared.answer.Answer.{Answer}
use Rattle.desk_core.specs.declared.answer.Answer.TheVariants as answer
use Rattle.desk_json.specs.Text.{json_text, answer_json}
use Rattle.desk_json.specs.Trees.{json_items, members_of, kind_tree, yaku_tree, limit_tree, payment_tree, rules_members, score_tree, win_tree, kinds_held, waits_tree, live_tree, accepted_members, discard_tree, accepts_members, shape_tree, answer_tree}
use Rattle.desk_json.specs.Whole.{Each, IsWholePayment, IsWholeScore, IsWholePair, IsWholeList, IsWholeDiscard, IsWholeAccepts, IsWholeWin, IsWhole}
use Rattle.desk_json.proofs.Same.{each_of_all, same_answers}

-- ---- the numbers are numbers of JSON

items_numbers : {X : Type 0} (tree : X → Json) (P : X → Type 0) → ((x : X) → P x → HasNumbers (tree x)) → (xs : List X) → Each P xs → ItemsHaveNumbers (json_items tree xs)
items_numbers tree P each [] h = tt
items_numbers tree P each (x ∷ xs) h = (each x h.0, items_numbers tree P each xs h.1)

yaku_numbers : (yaku : Yaku) → HasNumbers (yaku_tree yaku)
unfolding yaku_tree
yaku_numbers yaku = (IsNumber-decimal (table.number yaku) (omega (arith, below_count yaku)), (tt, (tt, tt)))

limit_numbers : (base : ℕ) → HasNumbers (limit_tree base)
unfolding limit_tree
limit_numbers base = by_tests (base == 2000) (base == 3000) (base == 4000) (base == 6000) (nat_le 8000 base)
  where
    by_tests : (a b c d e : Bool) →
        HasNumbers (cond a (string (codes "mangan")) (cond b (string (codes "haneman")) (cond c (string (codes "baiman")) (cond d (string (codes "sanbaiman")) (cond e (string (codes "yakuman")) null)))))
    by_tests false false false false false = tt
    by_tests _ _ _ _ _ = tt

payment_numbers : (payment : Payment) → IsWholePayment payment → HasNumbers (payment_tree payment)
unfolding payment_tree
payment_numbers (Ron points) h = (IsNumber-decimal points (omega arith), tt)
payment_numbers (Tsumo other dealer) h = (IsNumber-decimal dealer (omega arith), (IsNumber-decimal other (omega arith), tt))
payment_numbers (DealerTsumo each) h = (IsNumber-decimal each (omega arith), tt)

rules_numbers : (rules : Rules) → MembersHaveNumbers (members_of (rules_members rules))
rules_numbers rules =
    elim (is_house rules) as (λ test. MembersHaveNumbers (members_of (cond test ((codes "rules", string (rules_words rules)) ∷ []) [])))
    [ true ↦ (tt, tt) | false ↦ tt ]

score_numbers : (rules : Rules) (score : Score) → IsWholeScore score → HasNumbers (score_tree rules score)
unfolding score_tree
score_numbers rules score h =
    let han = IsNumber-decimal score.han (omega arith) in
    let fu = IsNumber-decimal score.fu (omega arith) in
    let dora = IsNumber-decimal score.dora (omega arith) in
    let base = IsNumber-decimal score.base (omega arith) in
    let gain = IsNumber-decimal score.gain (omega arith) in
    let yaku = items_numbers yaku_tree (λ yaku. Unit {0}) (λ yaku h. yaku_numbers yaku) (yaku_in score.yaku) (each_of_all (yaku_in score.yaku)) in
    (tt, (tt, (han, (fu, (dora, (base, (limit_numbers score.base, (payment_numbers score.payment h.payment, (gain, (yaku, rules_numbers rules))))))))))

win_numbers : (rules : Rules) (win : WinAnswer) → IsWholeWin win → HasNumbers (win_tree rules win)
unfolding win_tree
win_numbers rules (Won score) h = score_numbers rules score h
win_numbers rules other h = (tt, rules_numbers rules)

kinds_numbers : (kinds : List ℕ) → ItemsHaveNumbers (json_items kind_tree kinds)
kinds_numbers [] = tt
kinds_numbers (kind ∷ kinds) = (tt, kinds_numbers kinds)

live_numbers : (pair : ℕ × ℕ) → IsWholePair pair → HasNumbers (live_tree pair)
unfolding live_tree
live_numbers pair h = (tt, (IsNumber-decimal pair.1 (omega (arith, h.1)), tt))

accepted_numbers : (pairs : List (ℕ × ℕ)) → IsWholeList pairs → MembersHaveNumbers (members_of (accepted_members pairs))
accepted_numbers pairs h = (items_numbers live_tree IsWholePair live_numbers pairs h.each, (IsNumber-decimal _ (omega (arith, h.live)), tt))

discard_numbers : (discard : Discard) → IsWholeDiscard discard → HasNumbers (discard_tree discard)
unfolding discard_tree
discard_numbers discard h = (tt, accepted_numbers discard.accepted h.accepted)

accepts_numbers : (accepts : Accepts) → IsWholeAccepts accepts → MembersHaveNumbers (members_of (accepts_members accepts))
accepts_numbers (Thirteen accepted) h = accepted_numbers accepted h
accepts_numbers (Fourteen discards) h = (items_numbers discard_tree IsWholeDiscard discard_numbers discards h, tt)

numbers : (rules : Rules) (a : Answer) → IsWhole a → HasNumbers (answer_tree rules a)
unfolding answer_tree waits_tree shape_tree
numbers rules (answer.Win win) h = win_numbers rules win h
numbers rules (answer.Waits marks) h = (tt, (kinds_numbers (kinds_held marks), tt))
numbers rules (answer.Shape shape) h = (tt, (IsNumber-signed_decimal shape.shanten h.shanten, accepts_numbers shape.accepts h.accepts))

-- ---- no answer is nested deep

items_shallow : {X : Type 0} (tree : X → Json) (d : ℕ) → ((x : X) → depth (tree x) ≤ d) → (xs : List X) → items_depth (json_items tree xs) ≤ d
items_shallow tree d each [] = omega arith
items_shallow tree d each (x ∷ xs) = omega (arith, each x, items_shallow tree d each xs)

yaku_shallow : (yaku : Yaku) → depth (yaku_tree yaku) ≤ 1
unfolding yaku_tree
yaku_shallow yaku = omega arith

limit_shallow : (base : ℕ) → depth (limit_tree base) ≤ 0
unfolding limit_tree
limit_shallow base = by_tests (base == 2000) (base == 3000) (base == 4000) (base == 6000) (nat_le 8000 base)
  where
    by_tests : (a b c d e : Bool) →
        depth (cond a (string (codes "mangan")) (cond b (string (codes "haneman")) (cond c (string (codes "baiman")) (cond d (string (codes "sanbaiman")) (cond e (string (codes "yakuman")) null))))) ≤ 0
    by_tests false false false false false = omega arith
    by_tests _ _ _ _ _ = omega arith

payment_shallow : (payment : Payment) → depth (payment_tree payment) ≤ 1
unfolding payment_tree
payment_shallow (Ron points) = omega arith
payment_shallow _ = omega arith

rules_shallow : (rules : Rules) → members_depth (members_of (rules_members rules)) ≤ 0
rules_shallow rules =
    elim (is_house rules) as (λ test. members_depth (members_of (cond test ((codes "rules", string (rules_words rules)) ∷ []) [])) ≤ 0)
    [ true ↦ omega arith | false ↦ omega arith ]

score_shallow : (rules : Rules) (score : Score) → depth (score_tree rules score) ≤ 3
unfolding score_tree
score_shallow rules score =
    let yaku = items_shallow yaku_tree 1 yaku_shallow (yaku_in score.yaku) in
    omega (arith, limit_shallow score.base, payment_shallow score.payment, yaku, rules_shallow rules)

win_shallow : (rules : Rules) (win : WinAnswer) → depth (win_tree rules win) ≤ 3
unfolding win_tree
win_shallow rules (Won score) = score_shallow rules score
win_shallow rules other = omega (arith, rules_shallow rules)

kind_shallow : (kind : ℕ) → depth (kind_tree kind) ≤ 0
kind_shallow kind = omega arith

live_shallow : (pair : ℕ × ℕ) → depth (live_tree pair) ≤ 1
unfolding live_tree
live_shallow pair = omega arith

accepted_shallow : (pairs : List (ℕ × ℕ)) → members_depth (members_of (accepted_members pairs)) ≤ 2
accepted_shallow pairs = omega (arith, items_shallow live_tree 1 live_shallow pairs)

discard_shallow : (discard : Discard) → depth (discard_tree discard) ≤ 3
unfolding discard_tree
discard_shallow discard = omega (arith, accepted_shallow discard.accepted)

accepts_shallow : (accepts : Accepts) → members_depth (members_of (accepts_members accepts)) ≤ 4
accepts_shallow (Thirteen accepted) = omega (arith, accepted_shallow accepted)
accepts_shallow (Fourteen discards) = omega (arith, items_shallow discard_tree 3 discard_shallow discards)

shallow : (rules : Rules) (a : Answer) → depth (answer_tree rules a) ≤ 5
unfolding answer_tree waits_tree shape_tree
shallow rules (answer.Win win) = omega (arith, win_shallow rules win)
shallow rules (answer.Waits marks) = omega (arith, items_shallow kind_tree 0 kind_shallow (kinds_held marks))
shallow rules (answer.Shape shape) = omega (arith, accepts_shallow shape.accepts)

-- ---- answers

pub reads_back : (rules : Rules) (a : Answer) → IsWhole a → document (answer_json rules a) ≡ Some (answer_tree rules a)
unfolding json_text
reads_back rules a h = document-print (answer_tree rules a) (numbers rules a h) (omega (arith, shallow rules a))

pub same_texts : (rules others : Rules) (a b : Answer) → IsWhole a → IsWhole b → answer_json rules a ≡ answer_json others b → a ≡ b
same_texts rules others a b h k e =
    same_answers rules others a b h k (same_Some (answer_tree rules a) (answer_tree others b) (sym (reads_back rules a h) ∙ ap document e ∙ reads_back others b k))
