use Rattle.std.proofs.Common.{◌∙◌, ◌++◌, ℕ, List, ap, sym, refl}
use Rattle.riichi_hand.specs.Words.{words_of}
use Rattle.riichi_hints.specs.Crowd.{crowd_text, next_mark, places_text, word_text}
use Rattle.riichi_hints.proofs.Rooms.{part_more}
use Rattle.riichi_hints.proofs.crowd.crowd_words.Goals as goal

pub loop-word-preserved : goal.loop-word-preserved
loop-word-preserved c = λ fits.
    let digit = c.args.tile.digit in
    let suit = c.args.tile.suit in
    let words = c.loop-word.words.items in
    let mark = c.loop-word.mark.now in
    let word = c.in-Some.word.now in
    let after = words_of c.in-Some.after.now in
    let text = word_text digit suit mark word in
    let new = c.add_word-mark.new.words.items in
    let whole = crowd_text digit suit c.args.line.now in
    let before = ap (λ (ws : List (List ℕ)). words ++ places_text digit suit mark ws) (sym c.in-Some.ensures.words.0) ∙ c.loop-word.invariant fits in
    ap (λ (m : List ℕ). new ++ places_text digit suit m after) c.add_word-mark.ensures.mark
    ∙ part_more 128 words new text text (places_text digit suit (next_mark digit suit mark word) after) whole refl c.add_word-mark.ensures.text before fits
