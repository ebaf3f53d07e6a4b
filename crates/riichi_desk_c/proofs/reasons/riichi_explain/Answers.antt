use Rattle.std.proofs.Common.{◌≡◌, Option, None, refl, sym, subst, ◌∙◌}
use Rattle.std.specs.Prelude.{codes}
use Rattle.riichi_hand.specs.Rules.{Rules}
use Rattle.riichi_desk_c.specs.Replies.{rules_numbered}
use Rattle.riichi_desk_c.specs.Reasons.{IsReasonUnder}
use Rattle.riichi_desk_c.proofs.reasons.riichi_explain.Goals as goal

-- no profile has this number
pub returns-in_default-clause-placed : goal.returns-in_default-clause-placed
returns-in_default-clause-placed c =
    let none : rules_numbered c.args.rules ≡ None = sym c.rules_numbered.ensures ∙ c.in_default.is in
    let refusal = codes "refused rules" in (
      refusal,
      subst (λ (rules : Option Rules). IsReasonUnder rules c.args.line.now refusal) (sym none) refl,
      record { needed_is = c.place.ensures.needed; fits = c.place.ensures.fits; untouched = c.place.ensures.untouched },
    )
