use Rattle.std.proofs.Common.{◌≡◌, ◌∙◌, ◌<◌, ◌+◌, ◌++◌, ℕ, List, ap, sym, subst, map, length, take, drop, arith}
use Rattle.std.specs.List.{concat}
use Rattle.std.proofs.lemmas.Result.{err_from_is_err_and}
use Rattle.desk_lines.specs.Streams.{WritesAll, StopsWriting}
use Rattle.desk_lines.proofs.StreamLemmas.{WritesAll-trans, StopsWriting-after, StopsWriting_more}
use Rattle.desk_crew.proofs.PieceLemmas.{joined_next, joined_parts}
use Rattle.desk_crew.proofs.rooms.Rooms.write.Given.{Over}
use Rattle.desk_crew.proofs.rooms.Rooms.write.Goals.{After-write_all}
use Rattle.desk_crew.proofs.rooms.Rooms.write.Goals as goal

-- the answers up to this room and with it
next_room : (g : Over) (c : After-write_all g) → concat (map (λ room. room.items) (take (c.loop-place.place + 1) c.args.self.now.rooms.items))
    ≡ concat (map (λ room. room.items) (take c.loop-place.place c.args.self.now.rooms.items)) ++ c.as_slice.result.now
next_room g c =
    let rooms = c.args.self.now.rooms.items in
    let place = c.loop-place.place in
    let within : place < length rooms = let test = c.loop-place-test.true in let end = c.len-place-end.ensures in omega (arith, test, end) in
    joined_next (λ room. room.items) rooms place c.index.result.now within
    ∙ ap (λ l. concat (map (λ room. room.items) (take place rooms)) ++ l) (ap (λ room. room.items) (sym c.index.ensures) ∙ sym c.as_slice.ensures.value)

pub returns-in_err-write_all : goal.returns-in_err-write_all
returns-in_err-write_all g c =
    let p = err_from_is_err_and c.from_residual.result c.from_residual.ensures.1 in
    let sink = g.W.Sink in
    let rooms = c.args.self.now.rooms.items in
    let place = c.loop-place.place in
    let failed = c.in_err-write_all.ensures in
    let start = c.args.writer.now in
    let new = c.write_all.new.writer in
    let before = concat (map (λ room. room.items) (take place rooms)) in
    let behind = concat (map (λ room. room.items) (drop (place + 1) rooms)) in
    let stops = StopsWriting_more sink start new (before ++ c.as_slice.result.now) behind (StopsWriting-after sink start c.loop-place.writer new before c.as_slice.result.now c.loop-place.invariant failed.1) in
    let whole : (before ++ c.as_slice.result.now) ++ behind ≡ concat (map (λ room. room.items) rooms) =
    ap (λ l. l ++ behind) (sym (next_room g (goal.at.returns-in_err-write_all g c).After-write_all)) ∙ sym (joined_parts (λ room. room.items) rooms (place + 1)) in
    rw (p.1, p.2) (failed.0, subst (λ (text : List ℕ). StopsWriting sink start new text) whole stops)

pub loop-place-preserved : goal.loop-place-preserved
loop-place-preserved g c =
    let before = concat (map (λ room. room.items) (take c.loop-place.place c.args.self.now.rooms.items)) in
    subst (λ (text : List ℕ). WritesAll g.W.Sink c.args.writer.now c.write_all.new.writer text) (sym (next_room g (goal.at.loop-place-preserved g c).After-write_all))
    (WritesAll-trans g.W.Sink c.args.writer.now c.loop-place.writer c.write_all.new.writer before c.as_slice.result.now c.loop-place.invariant c.in_ok-write_all.ensures)
