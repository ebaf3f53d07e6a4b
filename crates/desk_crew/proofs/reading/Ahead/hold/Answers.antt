use Rattle.std.proofs.Common.{◌≡◌, ◌-◌, ◌∙◌, ℕ, ◌++◌, List, cond, Result, Ok, Err, ap, length, take, drop, arith}
use Rattle.std.specs.Prelude.{OnOk, is_ok}
use Rattle.std.proofs.lemmas.List.{take_all, length-drop}
use Rattle.desk_lines.specs.Lines.{cut_of}
use Rattle.desk_crew.proofs.PieceLemmas.{front_kept}
use Rattle.desk_crew.proofs.reading.Ahead.hold.Goals as goal

on_ok : {T E : Type 0} (r : Result T E) (new some other kept : List ℕ) → new ≡ cond (is_ok r) some other → some ≡ kept → OnOk r (new ≡ kept)
on_ok (Ok value) new some other kept is same = is ∙ same
on_ok (Err error) new some other kept is same = tt

pub returns-clause-held : goal.returns-clause-held
returns-clause-held c =
    let text = c.args.text.now in
    let begin = c.ended_bytes.result in
    let rest = take (length text - begin) (drop begin text) in
    let whole : rest ≡ (cut_of text).rest = take_all (length text - begin) (drop begin text) (omega (arith, length-drop begin text)) ∙ c.ended_bytes.ensures.rest in
    on_ok c.extend_from_slice.result c.extend_from_slice.new.self.items (c.clear.new.self.items ++ take c.min.result rest) c.clear.new.self.items (take 8194 (cut_of text).rest) c.extend_from_slice.ensures.items
    (ap (λ (front : List ℕ). front ++ take c.min.result rest) c.clear.ensures.items ∙ ap (λ (n : ℕ). take n rest) c.min.ensures ∙ front_kept 8194 rest ∙ ap (take 8194) whole)
