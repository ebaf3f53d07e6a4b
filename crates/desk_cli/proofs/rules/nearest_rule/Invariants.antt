use Rattle.std.proofs.Common.{◌≡◌, ◌+◌, ◌*◌, ◌<◌, ◌≤◌, ℕ, Option, length, get_or}
use Rattle.std.specs.Prelude.{MatchOption}
use Rattle.riichi_hand.specs.declared.switch.Switch.TheVariants.{RedFives}
use Rattle.desk_cli.specs.Near.{changes}
use Rattle.desk_cli.proofs.rules.nearest_rule.Given as goal

-- no rule so far is nearer than the least, which the nearest has, or which is just too far
abbrev pub invariant-loop-switch : goal.invariant-loop-switch
invariant-loop-switch l = record {
  none_nearer : (k : ℕ) → k < l.switch-index → l.least ≤ changes l.word (get_or l.switch-items k RedFives);
  kept : MatchOption l.nearest ((length l.word < 3 * l.least) × (3 * l.least ≤ length l.word + 3)) (λ nearest. (l.least ≡ changes l.word nearest) × (3 * l.least ≤ length l.word));
}
