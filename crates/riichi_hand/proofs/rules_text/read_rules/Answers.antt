use Rattle.std.proofs.Common.{◌≡◌, ◌∷◌, ◌+◌, ◌-◌, ◌++◌, length-append, List, ℕ, inl, refl, sym, ap, subst, length, arith}
use Rattle.std.proofs.lemmas.List.{nil_from_length}
use Rattle.riichi_hand.specs.Rules.{Rules}
use Rattle.riichi_hand.specs.RulesText.{IsWrongAt, rules_text}
use Rattle.riichi_hand.proofs.RulesTexts.{IsReadTo, read_on, stops_at, wrong_names_none, read_whole, names_one}
use Rattle.riichi_hand.proofs.rules_text.read_rules.Goals as goal

pub returns-in_default-clause-only : goal.returns-in_default-clause-only
returns-in_default-clause-only c = λ rules names. wrong_names_none c.args.text.now 0 rules (inl (record { place_is = refl; none = c.in_default.ensures })) names

within : (text front words : List ℕ) (byte : ℕ) → text ≡ front ++ byte ∷ words → length text - length words + length words ≡ length text
within text front words byte is = omega (arith, ap length is, length-append front (byte ∷ words))

stops : (c : goal.In_default-switch_before) → IsWrongAt c.args.text.now (length c.args.text.now - length c.in-Some-split_first.words.now)
stops c =
    let words = c.in-Some-split_first.words.now in
    let byte = c.in-Some-split_first.sign.now in
    let read = subst (λ (rest : List ℕ). IsReadTo c.args.text.now rest (c.loop-sign.rules)) c.in-Some-split_first.ensures.cases.0 c.loop-sign.invariant in
    let lengths = within c.args.text.now (rules_text read.profile read.changes) words byte read.text_is in
    stops_at c.args.text.now words byte _ (c.loop-sign.rules) read c.in_default-switch_before.ensures lengths

pub returns-in_default-switch_before-clause-only : goal.returns-in_default-switch_before-clause-only
returns-in_default-switch_before-clause-only c = λ rules names. wrong_names_none c.args.text.now _ rules (stops c) names

pub returns-in_default-switch_before-clause-fault : goal.returns-in_default-switch_before-clause-fault
returns-in_default-switch_before-clause-fault c = stops c

pub loop-sign-preserved : goal.loop-sign-preserved
loop-sign-preserved c =
    let words = c.in-Some-split_first.words.now in
    let byte = c.in-Some-split_first.sign.now in
    let read = subst (λ (rest : List ℕ). IsReadTo c.args.text.now rest (c.loop-sign.rules)) c.in-Some-split_first.ensures.cases.0 c.loop-sign.invariant in
    let cut = c.in-Some-switch_before.ensures in
    subst (λ (rules : Rules). IsReadTo c.args.text.now c.in-Some-switch_before.behind.now rules) (sym c.with-rules.ensures.value)
    (read_on c.args.text.now words c.in-Some-switch_before.behind.now byte c.in-Some-switch_before.switch (c.loop-sign.rules) read cut.0 cut.1)

pub returns-clause-only : goal.returns-clause-only
returns-clause-only c = λ rules names.
    let end = nil_from_length c.loop-sign.rest.now c.in_default-split_first.ensures.cases in
    let read = subst (λ (rest : List ℕ). IsReadTo c.args.text.now rest (c.loop-sign.rules)) end c.loop-sign.invariant in
    names_one c.args.text.now (c.loop-sign.rules) rules (read_whole c.args.text.now (c.loop-sign.rules) read) names
