use Rattle.std.proofs.Common.{[], ◌∷◌, ◌++◌, List, ℕ, ap, ◌∙◌}
use Rattle.riichi_chances.specs.declared.rows.Column.TheVariants.{Win, WinAtMost}
use Rattle.riichi_chances.proofs.RowLemmas.{ready_begin, ready_follow}
use Rattle.riichi_chances.proofs.counting.ready_rows.Goals as goal

pub follow-requires-clause-few : goal.follow-requires-clause-few
follow-requires-clause-few c =
    ready_begin Win c.args.span c.args.live c.requires.unseen c.all_draws-all.result c.all_draws-all.ensures c.all.result (c.all.ensures Win) c.push.new.self (c.push.ensures ∙ ap (λ (places : List ℕ). places ++ 0 ∷ []) c.new-rests.ensures)

pub follow-requires-2-clause-few : goal.follow-requires-2-clause-few
follow-requires-2-clause-few c =
    ready_begin WinAtMost c.args.span c.args.live c.requires.unseen c.all_draws-all.result c.all_draws-all.ensures c.all.result (c.all.ensures WinAtMost) c.push.new.self (c.push.ensures ∙ ap (λ (places : List ℕ). places ++ 0 ∷ []) c.new-rests.ensures)

pub returns-clause-win : goal.returns-clause-win
returns-clause-win c =
    ready_follow Win c.args.span c.args.live c.requires.unseen c.all_draws-all.result c.all_draws-all.ensures c.all.result (c.all.ensures Win) c.push.new.self (c.push.ensures ∙ ap (λ (places : List ℕ). places ++ 0 ∷ []) c.new-rests.ensures) c.follow.result c.follow.ensures

pub returns-clause-win_at_most : goal.returns-clause-win_at_most
returns-clause-win_at_most c =
    ready_follow WinAtMost c.args.span c.args.live c.requires.unseen c.all_draws-all.result c.all_draws-all.ensures c.all.result (c.all.ensures WinAtMost) c.push.new.self (c.push.ensures ∙ ap (λ (places : List ℕ). places ++ 0 ∷ []) c.new-rests.ensures) c.follow-2.result c.follow-2.ensures
