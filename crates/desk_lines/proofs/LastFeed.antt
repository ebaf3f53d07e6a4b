-- What comes after the last line feed of a text.
use Rattle.std.proofs.Common.{◌≡◌, ℕ, ◌+◌, ◌-◌, ◌<◌, ◌≤◌, List, [], ◌∷◌, ◌++◌, true, length, take, drop, get_or, append_assoc, sym, subst, ◌∙◌, ap, arith}
use Rattle.std.specs.Prelude.{◌==◌}
use Rattle.std.proofs.lemmas.List.{take_all, length-drop, get_or-drop}
use Rattle.riichi_tiles.proofs.CutLemmas.{around}
use Rattle.desk_lines.specs.Lines.{Cut, cut_of, is_plain}
use Rattle.desk_lines.proofs.CutLemmas.{cut_of-append, cut_of_first, plain_rest}
use Rattle.desk_lines.proofs.FillingLemmas.{cut_of-behind}
use Rattle.desk_lines.proofs.LineLemmas.{cut_of_plain, plain_before}

-- what comes after the last line feed is the rest
rest_behind : (front after : List ℕ) → is_plain after ≡ true → (cut_of (front ++ 10 ∷ after)).rest ≡ after
rest_behind front after plain =
    let none : (cut_of (front ++ 10 ∷ [])).rest ≡ [] =
    ap (λ (cut : Cut). cut.rest) (cut_of-append front (10 ∷ [])) ∙ ap (λ (cut : Cut). cut.rest) (cut_of_first (cut_of front).rest [] (plain_rest front)) in
    ap (λ (all : List ℕ). (cut_of all).rest) (sym (append_assoc front (10 ∷ []) after))
    ∙ (cut_of-behind (front ++ 10 ∷ []) after none).1 ∙ ap (λ (cut : Cut). cut.rest) (cut_of_plain after plain)

-- no line feed from a place on
plain_from : (text : List ℕ) (place : ℕ) → place ≤ length text → ((k : ℕ) → place ≤ k → k < length text → (get_or text k 0 == 10) ≡ true → ⊥) → is_plain (drop place text) ≡ true
plain_from text place within none =
    let rest = drop place text in
    let lengths = length-drop place text in
    rw (take_all (length rest) rest (omega arith)) at
    (plain_before rest (length rest) (omega arith) (λ k l is. none (place + k) (omega arith) (omega (arith, lengths, l)) (subst (λ (byte : ℕ). (byte == 10) ≡ true) (get_or-drop place text k 0) is)))

pub rest_of_none : (text : List ℕ) → ((k : ℕ) → 0 ≤ k → k < length text → (get_or text k 0 == 10) ≡ true → ⊥) → text ≡ (cut_of text).rest
rest_of_none text none = sym (ap (λ (cut : Cut). cut.rest) (cut_of_plain text (plain_from text 0 (omega arith) none)))

pub rest_of_some : (text : List ℕ) (place : ℕ) → place < length text → get_or text place 0 ≡ 10 → ((k : ℕ) → place + 1 ≤ k → k < length text → (get_or text k 0 == 10) ≡ true → ⊥)
    → drop (place + 1) text ≡ (cut_of text).rest
rest_of_some text place within feed none =
    let after = drop (place + 1) text in
    let whole : take (length text - (place + 1)) after ≡ after = take_all (length text - (place + 1)) after (omega (arith, length-drop (place + 1) text)) in
    let parts : text ≡ take place text ++ 10 ∷ after =
    around text place within ∙ ap (λ (byte : ℕ). take place text ++ byte ∷ take (length text - (place + 1)) after) feed ∙ ap (λ (rest : List ℕ). take place text ++ 10 ∷ rest) whole in
    sym (ap (λ (all : List ℕ). (cut_of all).rest) parts ∙ rest_behind (take place text) after (plain_from text (place + 1) (omega arith) none))
