use Rattle.std.proofs.Common.{◌∙◌}
use Rattle.desk_run.proofs.Allowed.{opens}
use Rattle.desk_run.proofs.board.Board.lay.Goals as goal

pub new-requires : goal.new-requires
new-requires c = opens c.args.size c.as_slice.result.now c.in_ok-slots.slots.items
    (c.as_slice.ensures.value ∙ c.in_ok-words.ensures.items_if_clones_equal (λ y e. e)) c.in_ok-slots.ensures
