use Rattle.std.proofs.Common.{◌≡◌, ◌<◌, ◌+◌, ◌-◌, ◌∙◌, List, ℕ, Some, true, ap, length, take, drop, get_or, arith, length-drop, length-take, eq-eqb}
use Rattle.std.specs.List.{list_all}
use Rattle.std.proofs.lemmas.List.{take_all}
use Rattle.riichi_tiles.specs.Melds.{cut_at}
use Rattle.riichi_tiles.proofs.CutLemmas.{plain, around, cut_at-front, cut_at-none}
use Rattle.riichi_tiles.proofs.cuts.split_at_mark.Goals as goal

cut_there : (mark place : ℕ) (text : List ℕ) → place < length text → get_or text place 0 ≡ mark → list_all (plain mark) (take place text) ≡ true
    → cut_at mark text ≡ Some (take place text, take (length text - (place + 1)) (drop (place + 1) text))
cut_there mark place text within is before =
    ap (cut_at mark) (around text place within) ∙ cut_at-front mark (get_or text place 0) (take place text) (take (length text - (place + 1)) (drop (place + 1) text)) (eq-eqb (get_or text place 0) mark is) before

pub returns-then-byte-mark : goal.returns-then-byte-mark
returns-then-byte-mark c =
    let place = c.loop-place.place in
    let text = c.args.text.now in
    let within : place < length text = omega arith in
    (cut_there c.args.mark place text within c.if-byte-mark.true c.loop-place.invariant, omega (arith, length-take (length text - (place + 1)) (drop (place + 1) text), length-drop (place + 1) text))

pub returns : goal.returns
returns c =
    let text = c.args.text.now in
    let all : take c.loop-place.place text ≡ text = take_all c.loop-place.place text (omega arith) in
    cut_at-none c.args.mark text (rw all at c.loop-place.invariant)
