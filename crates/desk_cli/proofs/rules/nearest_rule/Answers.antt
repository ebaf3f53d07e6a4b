use Rattle.std.proofs.Common.{◌≡◌, ◌+◌, ◌*◌, ◌<◌, ◌≤◌, ℕ, List, Option, None, Some, length, get_or, arith}
use Rattle.std.specs.Prelude.{MatchOption}
use Rattle.riichi_hand.specs.declared.switch.Switch.{Switch}
use Rattle.riichi_hand.specs.declared.switch.Switch.TheVariants as switch
use Rattle.riichi_hand.specs.declared.switch.TheConstants.Switch.{COUNT}
use Rattle.riichi_hand.specs.Rules.{every_switch, switch_number}
use Rattle.desk_cli.specs.Near.{changes, IsNearestRule}
use Rattle.desk_cli.proofs.rules.nearest_rule.Goals as goal

-- what is known of each place of the table is known of every rule
each_rule : (word : List ℕ) (least index : ℕ) → COUNT ≤ index → ((k : ℕ) → k < index → least ≤ changes word (get_or every_switch k switch.RedFives)) → (rule : Switch) → least ≤ changes word rule
each_rule word least index all each switch.RedFives = each 0 (omega arith)
each_rule word least index all each other = each (switch_number other) (omega arith)

nearest_of : (word : List ℕ) (least index : ℕ) (nearest : Option Switch) → COUNT ≤ index → ((k : ℕ) → k < index → least ≤ changes word (get_or every_switch k switch.RedFives))
    → MatchOption nearest ((length word < 3 * least) × (3 * least ≤ length word + 3)) (λ nearest. (least ≡ changes word nearest) × (3 * least ≤ length word)) → IsNearestRule word nearest
nearest_of word least index None all each kept = λ rule. let here = each_rule word least index all each rule in let far = kept.0 in omega (arith, here, far)
nearest_of word least index (Some nearest) all each kept =
    let is = kept.0 in
    let near = kept.1 in (
      omega (arith, is, near),
      λ rule. let here = each_rule word least index all each rule in omega (arith, here, is),
    )

pub returns : goal.returns
returns c = nearest_of c.args.word.now c.loop-switch.least c.loop-switch.switch-index c.loop-switch.nearest (omega arith) c.loop-switch.invariant.none_nearer c.loop-switch.invariant.kept
