use Rattle.std.proofs.Common.{◌≡◌, ◌≤◌, ◌+◌, ◌++◌, length, codes}
use Rattle.riichi_hints.specs.Numbers as spec
use Rattle.riichi_hints.proofs.Rooms.{two_parts}
use Rattle.riichi_hints.proofs.numbers.add_win_words.Goals as goal

pub returns : goal.returns
returns c =
    let one = c.add_all.new.text.items in
    let new = c.add_all-2.new.text.items in
    let doubt = spec.doubt_text c.args.line.now c.args.hand.now in
    let adds : length one + length doubt ≤ 128 → new ≡ one ++ doubt = rw c.doubt_words.ensures at c.add_all-2.ensures.all in
    two_parts 128 c.args.note.now.items one new (codes " wanted beside the winning tile of on=") doubt c.add_all.ensures.all adds
