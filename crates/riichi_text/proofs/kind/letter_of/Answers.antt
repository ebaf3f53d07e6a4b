use Rattle.std.proofs.Common.{ℕ, ◌<◌, sym, subst, arith}
use Rattle.std.proofs.lemmas.List.FromFn.{get_or-map-range_with_len}
use Rattle.riichi_text.specs.Tiles.{letter_of}
use Rattle.riichi_text.proofs.Letters.{letter_below}
use Rattle.riichi_text.proofs.kind.letter_of.Goals as goal

pub returns-clause-value : goal.returns-clause-value
returns-clause-value c = get_or-map-range_with_len letter_of 0 34 c.args.kind c.args.kind 0 c.requires (omega arith)

pub returns-clause-ascii : goal.returns-clause-ascii
returns-clause-ascii c = subst (λ (letter : ℕ). letter < 128) (sym (returns-clause-value c)) (letter_below c.args.kind)
