use Rattle.std.proofs.Common.{◌∙◌, ◌<◌, ◌≤◌, ◌++◌, ap, sym, map, length, arith}
use Rattle.std.specs.List.{concat}
use Rattle.std.proofs.lemmas.List.{take_all}
use Rattle.desk_crew.proofs.PieceLemmas.{joined_set}
use Rattle.desk_crew.proofs.rooms.Rooms.clear.Goals as goal

pub loop-place-preserved : goal.loop-place-preserved
loop-place-preserved c =
    let rooms = c.loop-place.self.rooms.items in
    let place = c.loop-place.place in
    let within : place < length rooms = let test = c.loop-place-test.true in let end = c.len-place-end.ensures in let all = c.loop-place.self.all in let first = c.args.self.now.all in omega (arith, test, end, all, first) in
    joined_set (λ room. room.items) rooms place c.clear.new.self within ∙ ap (λ l. l ++ c.clear.new.self.items) c.loop-place.invariant ∙ c.clear.ensures.items

pub returns : goal.returns
returns c =
    let rooms = c.loop-place.self.rooms.items in
    let place = c.loop-place.place in
    let past : length rooms ≤ place = let test = c.loop-place-test.false in let end = c.len-place-end.ensures in let all = c.loop-place.self.all in let first = c.args.self.now.all in omega (arith, test, end, all, first) in
    ap (λ l. concat (map (λ room. room.items) l)) (sym (take_all place rooms past)) ∙ c.loop-place.invariant
