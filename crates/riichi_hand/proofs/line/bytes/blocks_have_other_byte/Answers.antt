use Rattle.std.proofs.Common.{◌≡◌, ℕ, ◌+◌, ◌-◌, false, ◌||◌, List, take, drop, length, length-drop, sym, ap, ap₂, ◌∙◌, arith}
use Rattle.std.specs.List.{list_any}
use Rattle.std.proofs.Math.Seq.{take-add}
use Rattle.std.proofs.lemmas.Bool.{or_parts}
use Rattle.std.proofs.lemmas.List.{take_all, take-append-drop}
use Rattle.std.proofs.lemmas.List.Folds.{list_any-append}
use Rattle.riichi_hand.specs.Lines.{is_other_byte}
use Rattle.riichi_hand.proofs.line.bytes.blocks_have_other_byte.Goals as goal

-- in front of a place or behind it
parts : (place : ℕ) (line : List ℕ) → list_any is_other_byte line ≡ (list_any is_other_byte (take place line) || list_any is_other_byte (drop place line))
parts place line = ap (list_any is_other_byte) (sym (take-append-drop place line)) ∙ list_any-append is_other_byte (take place line) (drop place line)

-- in front of a place, or in the bytes from there on
next : (place more : ℕ) (line : List ℕ) → list_any is_other_byte (take (place + more) line) ≡ (list_any is_other_byte (take place line) || list_any is_other_byte (take more (drop place line)))
next place more line = ap (list_any is_other_byte) (take-add place more line) ∙ list_any-append is_other_byte (take place line) (take more (drop place line))

pub returns-then-block_has_other_byte : goal.returns-then-block_has_other_byte
returns-then-block_has_other_byte c =
    let rest = drop c.loop-place.place c.args.line.now in
    let here = sym c.block_has_other_byte.ensures ∙ c.if-block_has_other_byte.true in
    let behind = parts 16 rest ∙ ap (λ found. found || list_any is_other_byte (drop 16 rest)) here in
    sym (parts c.loop-place.place c.args.line.now ∙ ap₂ (λ a b. a || b) c.loop-place.invariant behind)

pub loop-place-preserved : goal.loop-place-preserved
loop-place-preserved c =
    let here = sym c.block_has_other_byte.ensures ∙ c.if-block_has_other_byte.false in
    next c.loop-place.place 16 c.args.line.now ∙ ap₂ (λ a b. a || b) c.loop-place.invariant here

pub returns : goal.returns
returns c =
    let line = c.args.line.now in
    let last = length line - 16 in
    let more = c.loop-place.place - last in
    let same : last + more ≡ c.loop-place.place = omega (arith, c.loop-place-test.false) in
    let seen = ap (λ n. list_any is_other_byte (take n line)) same ∙ c.loop-place.invariant in
    let front : list_any is_other_byte (take last line) ≡ false = (or_parts _ _ (sym (next last more line) ∙ seen)).0 in
    let whole = take_all 16 (drop last line) (omega (arith, length-drop last line, c.requires)) in
    c.block_has_other_byte-2.ensures ∙ ap (list_any is_other_byte) whole ∙ sym (parts last line ∙ ap (λ found. found || list_any is_other_byte (drop last line)) front)
