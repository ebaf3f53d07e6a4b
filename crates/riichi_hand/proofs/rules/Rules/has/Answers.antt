use Rattle.std.proofs.Common.{◌∙◌, ◌/◌, ◌^◌, nat_eq, ap, refl}
use Rattle.std.specs.Int.{bit_at}
use Rattle.std.proofs.lemmas.Grind.{and_numeral}
use Rattle.riichi_hand.specs.Rules.{is_on, switch_number}
use Rattle.riichi_hand.proofs.rules.Rules.has.Goals as goal

pub returns : goal.returns
unfolding is_on
returns c =
    let bits = c.self.inside.bits in
    ap (λ n. nat_eq n 1) (and_numeral (bits / 2 ^ c.number.result) 0 refl ∙ ap (bit_at bits) c.number.ensures.value)
    ∙ ap (λ b. nat_eq (bit_at b (switch_number c.args.switch)) 1) c.self.view_is
