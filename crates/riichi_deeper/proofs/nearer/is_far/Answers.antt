use Rattle.std.proofs.Common.{◌≡◌, ℤ, pos, to_z, of_z, ap, ◌∙◌, rules}
use Rattle.std.proofs.Common as width
use lib.Signed.{lt_z}
use Rattle.riichi_deeper.proofs.NearerLemmas.{far_is}
use Rattle.riichi_deeper.proofs.nearer.is_far.Goals as goal

pub returns : goal.returns
returns c = let same : to_z width.w8 (of_z width.w8 c.args.shanten) ≡ c.args.shanten = search rules in λ lack e. ap (lt_z (pos 0)) same ∙ far_is c.args.shanten lack e
