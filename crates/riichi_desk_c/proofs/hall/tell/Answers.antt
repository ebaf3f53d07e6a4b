use Rattle.std.proofs.Common.{◌≡◌, Option, Some, sym, subst, ◌∙◌}
use Rattle.desk_hall.specs.Messages.{request_in}
use Rattle.riichi_hand.specs.Rules.{Rules}
use Rattle.riichi_desk_c.specs.Hall.{TellsUnder}
use Rattle.riichi_desk_c.specs.Replies.{rules_numbered}
use Rattle.riichi_desk_c.proofs.hall.tell.Goals as goal

pub returns : goal.returns
returns c =
    let rules : rules_numbered c.args.rules ≡ Some c.in-Some.given = sym c.rules_numbered.ensures ∙ c.in-Some.is in
    subst (λ (rules : Option Rules). TellsUnder rules c.args.book.now c.args.number (request_in c.args.asked) c.args.room.now c.tell_of_book.new.room c.tell_of_book.result c.tell_of_book.new.row) (sym rules) c.tell_of_book.ensures
