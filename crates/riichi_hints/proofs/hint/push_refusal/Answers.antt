use Rattle.std.proofs.Common.{◌≡◌, ◌∙◌, ◌+◌, ◌++◌, ℕ, List, IfNone, length, codes, ap, refl, subst, append_assoc, length-append}
use Rattle.riichi_refusals.specs.Refusal.{refusal_lines}
use Rattle.riichi_hints.specs.Hint.{IsNoteUntold, told_line}
use Rattle.riichi_hints.proofs.hint.push_refusal.Goals as goal

pub returns-clause-note : goal.returns-clause-note
returns-clause-note c =
    let old = c.args.text.now.bytes in
    let fault = c.args.refusal.now.fault in
    let line = c.args.line.now in
    let lines = refusal_lines line fault in
    let note = c.push_note.ensures.0 in
    let hint = c.push_hint.ensures.0 in
    let noted = told_line (codes "  ") note in
    let used : length c.push_refusal_lines.new.text.bytes ≡ length old + length lines = ap length c.push_refusal_lines.ensures ∙ length-append old lines in
    let one = c.push_note.ensures.3 ∙ ap (λ (text : List ℕ). text ++ noted) c.push_refusal_lines.ensures in
    let both = c.push_hint.ensures.2 ∙ ap (λ (text : List ℕ). text ++ hint) one in (
      lines ++ (noted ++ hint),
      record {
        refusal = record { note = note; is_note = c.push_note.ensures.1; hint = hint; is_hint = c.push_hint.ensures.1; text_is = refl };
        no_note = subst (λ (so_far : ℕ). IfNone note (IsNoteUntold fault line so_far)) used c.push_note.ensures.2;
      },
      both ∙ (append_assoc (old ++ lines) noted hint ∙ append_assoc old lines (noted ++ hint)),
    )
