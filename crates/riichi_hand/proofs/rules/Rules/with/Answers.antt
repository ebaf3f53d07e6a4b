use Rattle.std.proofs.Common.{◌∙◌, ◌*◌, ◌%◌, ◌^◌, sym, ap, arith}
use Rattle.std.proofs.lemmas.Nat.{one_shl, xor_lt, pow_below}
use Rattle.std.specs.Bool.{beq}
use Rattle.riichi_hand.specs.declared.switch.TheConstants.Switch.{COUNT}
use Rattle.riichi_hand.specs.Rules.{is_on}
use Rattle.riichi_hand.proofs.Switches.{kept_is, turned_is, with_this, with_other}
use Rattle.riichi_hand.proofs.rules.Rules.with.Goals as goal

pub invariant_of-result : goal.invariant_of-result
invariant_of-result c =
    let n = c.number.result in
    xor_lt COUNT c.self.inside.bits (1 * 2 ^ n % 2 ^ 16) c.self.invariant
    (omega (arith, one_shl n 16 (omega (arith, c.number.ensures.below)), pow_below n COUNT c.number.ensures.below))

pub returns-then-has-is_on-clause-value : goal.returns-then-has-is_on-clause-value
returns-then-has-is_on-clause-value c =
    c.self.view_is ∙ kept_is c.args.switch c.args.is_on c.args.self (sym (ap (λ b. beq b c.args.is_on) c.has.ensures) ∙ c.if-has-is_on.true)

pub returns-else-has-is_on-clause-value : goal.returns-else-has-is_on-clause-value
returns-else-has-is_on-clause-value c =
    turned_is c.args.switch c.args.is_on c.args.self c.self.inside.bits c.number.result
    (sym (ap (λ b. beq b c.args.is_on) c.has.ensures) ∙ c.if-has-is_on.false) c.self.view_is c.number.ensures.value

pub returns-else-has-is_on-clause-this : goal.returns-else-has-is_on-clause-this
returns-else-has-is_on-clause-this c =
    ap (is_on c.args.switch) (returns-else-has-is_on-clause-value c) ∙ with_this c.args.switch c.args.is_on c.args.self

pub returns-else-has-is_on-clause-others : goal.returns-else-has-is_on-clause-others
returns-else-has-is_on-clause-others c other differ =
    ap (is_on other) (returns-else-has-is_on-clause-value c) ∙ with_other c.args.switch other c.args.is_on c.args.self differ
