use Rattle.std.proofs.Common.{◌≡◌, ◌∙◌, ◌+◌, ◌++◌, ◌∷◌, List, ℕ, Bool, ◌||◌, [], length, length-append, refl, sym, ap, subst, arith}
use Rattle.desk_io.specs.declared.sink.Sink.{Ghosts as OfSink}
use Rattle.desk_cli.specs.declared.request.Manner.{Manner}
use Rattle.desk_lines.specs.Lines.{lines}
use Rattle.riichi_desk.specs.Answering.{AnswersTexts, WritesInManner, has_refusal, none, one_more}
use Rattle.riichi_desk.proofs.answering.Answering.files.Goals.{then-is_input+in_ok-is_refused, else-is_input+in_ok-stream+in_ok-is_refused-2}
use Rattle.riichi_desk.proofs.answering.Answering.files.Goals as goal

-- one more text is answered
next : {W : Type 0} (sink : OfSink W) (manner held : Manner) (start old new writer : W) (count : ℕ) (was is now : Bool) → held ≡ manner
    → ((given : List (List ℕ)) × (length given ≡ count) × AnswersTexts sink manner start given old was)
    → ((text : List ℕ) × WritesInManner sink old new held (lines text) × (is ≡ has_refusal held.rules text)) → writer ≡ new → now ≡ (was || is)
    → (given : List (List ℕ)) × (length given ≡ count + 1) × AnswersTexts sink manner start given writer now
next sink manner held start old new writer count was is now same so_far answered here said =
    let text = answered.0 in
    let given = so_far.0 ++ text ∷ [] in
    let done = subst (λ (m : Manner). WritesInManner sink old new m (lines text)) same answered.1 in
    let refusal = answered.2 ∙ ap (λ (m : Manner). has_refusal m.rules text) same in
    let more = one_more so_far.0 text old new was so_far.2 done in (
      given,
      length-append so_far.0 (text ∷ []) ∙ ap (λ n. n + 1) so_far.1,
      subst (λ (b : Bool). AnswersTexts sink manner start given writer b) (sym (said ∙ ap (λ b. was || b) refusal))
          (subst (λ v. AnswersTexts sink manner start given v (was || has_refusal manner.rules text)) (sym here) more),
    )

pub loop-file-init : goal.loop-file-init
loop-file-init g c = record { manner = refl; answered = ([], refl, none) }

pub loop-file-preserved : goal.loop-file-preserved
loop-file-preserved g c = elim c.if-is_input.branch [
  | then-is_input+in_ok-is_refused w ↦
      let l = c.loop-file in
      let e = w.in_ok-is_refused.ensures in
      record {
        manner = ap (λ s. s.manner) w.self-is ∙ e.kept ∙ l.invariant.manner;
        answered = next g.W.Sink _ l.self.manner _ _ _ _ _ _ _ _ l.invariant.manner l.invariant.answered e.answered (ap (λ s. s.writer) w.self-is) w.is_refused-is;
      }
  | else-is_input+in_ok-stream+in_ok-is_refused-2 w ↦
      let l = c.loop-file in
      let e = w.in_ok-is_refused-2.ensures in
      record {
        manner = ap (λ s. s.manner) w.self-is ∙ e.kept ∙ l.invariant.manner;
        answered = next g.W.Sink _ l.self.manner _ _ _ _ _ _ _ _ l.invariant.manner l.invariant.answered e.answered (ap (λ s. s.writer) w.self-is) w.is_refused-is;
      }
]
