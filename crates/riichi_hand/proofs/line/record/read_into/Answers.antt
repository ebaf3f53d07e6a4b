use Rattle.std.proofs.Common.{rules, ◌≡◌, ◌∙◌, ℕ, List, Option, Err, false, drop, sym, ap, refl}
use Rattle.riichi_hand.specs.declared.fault.LineFault.{LineFault}
use Rattle.riichi_hand.specs.declared.line.job_name.JobName.TheVariants.{Waits}
use Rattle.riichi_hand.specs.declared.line.words.Words.{Words}
use Rattle.riichi_hand.specs.declared.line.texts.Texts.{Texts}
use Rattle.riichi_hand.specs.Faults.{first_fault}
use Rattle.riichi_hand.specs.Words.{words_of, from_words}
use Rattle.riichi_hand.specs.Parts.{LineParts, parts_of, parts_in}
use Rattle.riichi_hand.specs.Places.{entry_from}
use Rattle.riichi_hand.proofs.PlaceLemmas.{no_mark, word_from-none}
use Rattle.riichi_hand.specs.Jobs.{job_of}
use Rattle.riichi_hand.specs.Lines.{is_no_record, word_faults, entry_faults, need_faults, text_faults, job_faults}
use Rattle.riichi_hand.proofs.OutcomeLemmas.{first_fault-later, first_fault-here, outcome-err, outcome-ok}
use Rattle.riichi_hand.proofs.line.record.read_into.Goals as goal

pub returns-in_err-words-clause-value : goal.returns-in_err-words-clause-value
returns-in_err-words-clause-value c =
    let line = c.args.line.now in
    let some : is_no_record line ≡ false = sym c.is_no_record.ensures ∙ c.if-is_no_record.false in
    let parts = parts_of (words_of line) in
    let fault = c.in_err-words.field-0.0 in
    let refused : c.from_residual.result ≡ Err fault = search rules in
    let first = first_fault-here (word_faults line) _ fault c.in_err-words.ensures.step in
    refused ∙ sym (outcome-err c.args.rules line parts fault c.if-line-gt-MOST_LINE.false some refl first)

pub returns-in_err-fill-clause-value : goal.returns-in_err-fill-clause-value
returns-in_err-fill-clause-value c =
    let line = c.args.line.now in
    let some : is_no_record line ≡ false = sym c.is_no_record.ensures ∙ c.if-is_no_record.false in
    let parts = parts_in c.in_ok-words.words in
    let fault = c.in_err-fill.field-0.0 in
    let refused : c.from_residual-in_err-fill.result ≡ Err fault = search rules in
    let first = first_fault-later (word_faults line) _ c.in_ok-words.ensures.step.0 ∙ first_fault-here (entry_faults parts) _ fault c.in_err-fill.ensures.step in
    refused ∙ sym (outcome-err c.args.rules line parts fault c.if-line-gt-MOST_LINE.false some c.in_ok-words.ensures.step.1 first)

pub returns-in_err-needed-clause-value : goal.returns-in_err-needed-clause-value
returns-in_err-needed-clause-value c =
    let line = c.args.line.now in
    let some : is_no_record line ≡ false = sym c.is_no_record.ensures ∙ c.if-is_no_record.false in
    let parts = parts_in c.in_ok-words.words in
    let fault = c.in_err-needed.field-0.0 in
    let refused : c.from_residual-in_err-needed.result ≡ Err fault = search rules in
    let first = first_fault-later (word_faults line) _ c.in_ok-words.ensures.step.0 ∙ first_fault-later (entry_faults parts) _ c.in_ok-fill.ensures.step.0 ∙ first_fault-here (need_faults parts) _ fault c.in_err-needed.ensures in
    refused ∙ sym (outcome-err c.args.rules line parts fault c.if-line-gt-MOST_LINE.false some c.in_ok-words.ensures.step.1 first)

pub returns-in_err-spell-clause-value : goal.returns-in_err-spell-clause-value
returns-in_err-spell-clause-value c =
    let line = c.args.line.now in
    let some : is_no_record line ≡ false = sym c.is_no_record.ensures ∙ c.if-is_no_record.false in
    let parts = parts_in c.in_ok-words.words in
    let fault = c.in_err-spell.field-0.0 in
    let refused : c.from_residual-in_err-spell.result ≡ Err fault = search rules in
    let first = first_fault-later (word_faults line) _ c.in_ok-words.ensures.step.0 ∙ first_fault-later (entry_faults parts) _ c.in_ok-fill.ensures.step.0 ∙ first_fault-later (need_faults parts) _ c.in_ok-needed.ensures.0 ∙ first_fault-here (text_faults parts) _ fault c.in_err-spell.ensures in
    refused ∙ sym (outcome-err c.args.rules line parts fault c.if-line-gt-MOST_LINE.false some c.in_ok-words.ensures.step.1 first)

pub returns-in_err-job-clause-value : goal.returns-in_err-job-clause-value
returns-in_err-job-clause-value c =
    let line = c.args.line.now in
    let some : is_no_record line ≡ false = sym c.is_no_record.ensures ∙ c.if-is_no_record.false in
    let parts = parts_in c.in_ok-words.words in
    let fault = c.in_err-job.field-0.0 in
    let refused : c.from_residual-in_err-job.result ≡ Err fault = search rules in
    let first = first_fault-later (word_faults line) _ c.in_ok-words.ensures.step.0 ∙ first_fault-later (entry_faults parts) _ c.in_ok-fill.ensures.step.0 ∙ first_fault-later (need_faults parts) _ c.in_ok-needed.ensures.0 ∙ first_fault-later (text_faults parts) _ c.in_ok-spell.ensures.0 ∙ ap (λ (texts : Texts). first_fault (job_faults c.args.rules parts texts parts.job)) (sym c.in_ok-spell.ensures.1) ∙ c.in_err-job.ensures in
    refused ∙ sym (outcome-err c.args.rules line parts fault c.if-line-gt-MOST_LINE.false some c.in_ok-words.ensures.step.1 first)

pub returns-clause-value : goal.returns-clause-value
returns-clause-value c =
    let line = c.args.line.now in
    let some : is_no_record line ≡ false = sym c.is_no_record.ensures ∙ c.if-is_no_record.false in
    let parts = parts_in c.in_ok-words.words in
    let none = first_fault-later (word_faults line) _ c.in_ok-words.ensures.step.0 ∙ first_fault-later (entry_faults parts) _ c.in_ok-fill.ensures.step.0 ∙ first_fault-later (need_faults parts) _ c.in_ok-needed.ensures.0 ∙ first_fault-later (text_faults parts) _ c.in_ok-spell.ensures.0 ∙ ap (λ (texts : Texts). first_fault (job_faults c.args.rules parts texts parts.job)) (sym c.in_ok-spell.ensures.1) ∙ c.in_ok-job.ensures.0 in
    let job = c.in_ok-job.ensures.1 ∙ ap (λ (texts : Texts). job_of c.args.rules parts texts parts.job) c.in_ok-spell.ensures.1 in
    outcome-ok c.args.rules line parts c.in_ok-job.job c.if-line-gt-MOST_LINE.false some c.in_ok-words.ensures.step.1 none job

-- where a word after the hand is at fault

pub returns-then-line-gt-MOST_LINE-clause-from : goal.returns-then-line-gt-MOST_LINE-clause-from
returns-then-line-gt-MOST_LINE-clause-from c = no_mark (λ from. from.now) c.args.fields.now.at_fault (c.requires.fields Waits).doubled

pub returns-in_err-words-clause-from : goal.returns-in_err-words-clause-from
returns-in_err-words-clause-from c =
    let line = c.args.line.now in
    let fault = c.in_err-words.field-0.0 in
    let refused : c.from_residual.result ≡ Err fault = search rules in
    let none = no_mark (λ from. from.now) c.args.fields.now.at_fault (c.requires.fields Waits).doubled in
    rw refused (none ∙ sym (word_from-none (parts_of (words_of line)).job (drop 2 (from_words line)) _ _ _ fault c.in_err-words.ensures.step))

-- the same by the words that were cut and by the line
of_line : (line : List ℕ) (words : Words) (fault : LineFault) (from : Option (List ℕ)) → parts_of (words_of line) ≡ parts_in words → from_words words.entries.now ≡ drop 2 (from_words line)
    → from ≡ entry_from words.job fault (from_words words.entries.now) → from ≡ entry_from (parts_of (words_of line)).job fault (drop 2 (from_words line))
of_line line words fault from parts froms is =
    is ∙ ap (λ (p : LineParts). entry_from p.job fault (from_words words.entries.now)) (sym parts) ∙ ap (entry_from (parts_of (words_of line)).job fault) froms

pub returns-in_err-fill-clause-from : goal.returns-in_err-fill-clause-from
returns-in_err-fill-clause-from c =
    let fault = c.in_err-fill.field-0.0 in
    let refused : c.from_residual-in_err-fill.result ≡ Err fault = search rules in
    rw refused (of_line c.args.line.now c.in_ok-words.words fault _ c.in_ok-words.ensures.step.1 c.in_ok-words.ensures.from c.in_err-fill.ensures.from)

pub returns-in_err-needed-clause-from : goal.returns-in_err-needed-clause-from
returns-in_err-needed-clause-from c =
    let fault = c.in_err-needed.field-0.0 in
    let refused : c.from_residual-in_err-needed.result ≡ Err fault = search rules in
    rw refused (of_line c.args.line.now c.in_ok-words.words fault _ c.in_ok-words.ensures.step.1 c.in_ok-words.ensures.from (c.in_ok-fill.ensures.none fault))

pub returns-in_err-spell-clause-from : goal.returns-in_err-spell-clause-from
returns-in_err-spell-clause-from c =
    let fault = c.in_err-spell.field-0.0 in
    let refused : c.from_residual-in_err-spell.result ≡ Err fault = search rules in
    rw refused (of_line c.args.line.now c.in_ok-words.words fault _ c.in_ok-words.ensures.step.1 c.in_ok-words.ensures.from (c.in_ok-fill.ensures.none fault))

pub returns-in_err-job-clause-from : goal.returns-in_err-job-clause-from
returns-in_err-job-clause-from c =
    let fault = c.in_err-job.field-0.0 in
    let refused : c.from_residual-in_err-job.result ≡ Err fault = search rules in
    rw refused (of_line c.args.line.now c.in_ok-words.words fault _ c.in_ok-words.ensures.step.1 c.in_ok-words.ensures.from (c.in_ok-fill.ensures.none fault))
