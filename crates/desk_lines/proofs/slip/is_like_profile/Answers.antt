use Rattle.std.proofs.Common.{ℕ, List, ◌∙◌, ap, take}
use Rattle.desk_lines.specs.Slips.{begins_word, is_like_profile, without_mark, without_space}
use Rattle.desk_lines.proofs.SlipLemmas.{front_is}
use Rattle.desk_lines.proofs.slip.is_like_profile.Goals as goal

pub returns : goal.returns
unfolding is_like_profile
returns c =
    let line = c.args.line.now in
    let front = ap (λ (n : ℕ). take n line) c.min.ensures ∙ front_is 32 line in
    c.begins_word.ensures ∙ ap begins_word (c.without_space.ensures ∙ ap (λ (t : List ℕ). without_space t) (c.without_mark.ensures ∙ ap without_mark front))
