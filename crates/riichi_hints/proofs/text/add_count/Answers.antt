use Rattle.std.proofs.Common.{◌∙◌, ◌≤◌, ◌++◌, ℕ, List, [], length, codes, ap, sym, refl, arith, length-append}
use Rattle.std.proofs.lemmas.List.{append-nil}
use Rattle.riichi_hints.specs.Crowd as spec
use Rattle.riichi_hints.proofs.Rooms.{part_more}
use Rattle.riichi_hints.proofs.text.add_count.Goals as goal

pub returns : goal.returns
returns c = λ fits.
    let old = c.args.note.now.items in
    let before = c.args.before.now in
    let thing = c.args.thing.now in
    let many = spec.many_text c.args.count in
    let end = spec.plural_end c.args.count in
    let whole = old ++ (before ++ (many ++ (codes " " ++ (thing ++ end)))) in
    let room : length whole ≤ 128 = omega (arith, fits, length-append old (before ++ (many ++ (codes " " ++ (thing ++ end))))) in
    let one = part_more 128 old c.add_all.new.text.items _ before (many ++ (codes " " ++ (thing ++ end))) whole c.as_bytes.ensures.value c.add_all.ensures.all refl room in
    let two = part_more 128 c.add_all.new.text.items c.add_many.new.note.items many many (codes " " ++ (thing ++ end)) whole refl c.add_many.ensures one room in
    let three = part_more 128 c.add_many.new.note.items c.add_all-2.new.text.items (codes " ") (codes " ") (thing ++ end) whole refl c.add_all-2.ensures.all two room in
    let four = part_more 128 c.add_all-2.new.text.items c.add_all-3.new.text.items _ thing end whole c.as_bytes-2.ensures.value c.add_all-3.ensures.all three room in
    let last = ap (λ (text : List ℕ). c.add_all-3.new.text.items ++ text) (append-nil end) ∙ four in
    let five = part_more 128 c.add_all-3.new.text.items c.add_all-4.new.text.items _ end [] whole c.plural_end.ensures c.add_all-4.ensures.all last room in
    sym (append-nil c.add_all-4.new.text.items) ∙ five
