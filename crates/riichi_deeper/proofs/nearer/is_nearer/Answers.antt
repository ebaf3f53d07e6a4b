use Rattle.std.proofs.Common.{◌≡◌, to_z, of_z, ◌∙◌, rules}
use Rattle.std.proofs.Common as width
use Rattle.riichi_deeper.proofs.NearerLemmas.{nearer_is}
use Rattle.riichi_deeper.proofs.nearer.is_nearer.Goals as goal

pub returns : goal.returns
returns c =
    let same_after : to_z width.w8 (of_z width.w8 c.args.after) ≡ c.args.after = search rules in
    let same_before : to_z width.w8 (of_z width.w8 c.args.before) ≡ c.args.before = search rules in
    λ lack less e f. nearer_is c.is_far.result (to_z width.w8 (of_z width.w8 c.args.after)) (to_z width.w8 (of_z width.w8 c.args.before)) less lack (c.is_far.ensures lack (same_before ∙ f)) (same_after ∙ e) (same_before ∙ f)
