use Rattle.std.proofs.Common.{ℕ, ◌≤◌, sym, subst, arith}
use Rattle.std.proofs.lemmas.List.FromFn.{get_or-map-range_with_len}
use Rattle.riichi_text.specs.Tiles.{digit_of}
use Rattle.riichi_text.proofs.kind.digit_of.Goals as goal

pub returns-clause-value : goal.returns-clause-value
returns-clause-value c = get_or-map-range_with_len digit_of 0 34 c.args.kind c.args.kind 0 c.requires (omega arith)

pub returns-clause-ascii : goal.returns-clause-ascii
returns-clause-ascii c = subst (λ (digit : ℕ). digit ≤ 57) (sym (returns-clause-value c)) (omega arith)
