-- No answer has a line feed in it, or begins with two spaces.
use Rattle.std.proofs.Common.{◌≡◌, ℕ, ℤ, pos, negsuc, suc, ◌+◌, ◌%◌, List, [], ◌∷◌, ◌++◌, true, false, cond, nat_eq, Option, Some, None, Result, Ok, Err, refl, subst, arith}
use Rattle.std.specs.Prelude.{◌==◌, codes, decimal}
use Rattle.std.specs.Fmt.{signed_decimal}
use Rattle.riichi_tiles.specs.Printing.{tiles_text, once}
use Rattle.riichi_tiles.specs.declared.notation.NotationCode.{NotationCode}
use Rattle.riichi_tiles.specs.declared.notation.NotationCode.TheVariants.{N1, N2, N3, N4, N5, N6}
use Rattle.riichi_hand.specs.declared.fault.LineCode.{LineCode}
use Rattle.riichi_hand.specs.declared.fault.LineCode.TheVariants.{H1, H2, H3, H4, H5, H6, H7, H8, H9, H10, H11, H12, H13, H14, H15, H16}
use Rattle.riichi_hand.specs.declared.fault.TextName.{TextName}
use Rattle.riichi_hand.specs.declared.fault.TextName.TheVariants.{Hand, On, Dora, Ura, Seen}
use Rattle.riichi_hand.specs.declared.fault.LineFault.{LineFault}
use Rattle.riichi_hand.specs.declared.fault.LineFault.TheVariants.{Line, Notation}
use Rattle.riichi_hand.specs.declared.job.Job.{Job}
use Rattle.riichi_hand.specs.FaultTexts.{line_code_text, notation_code_text, name_text, fault_text}
use Rattle.riichi_split.specs.Waits.{waits_text}
use Rattle.riichi_yaku.specs.Table.{word}
use Rattle.riichi_yaku.specs.YakuSets.{is_yakuman, yaku_words, yaku_in}
use Rattle.riichi_score.specs.declared.payers.Payment.{Payment}
use Rattle.riichi_score.specs.declared.payers.Payment.TheVariants.{Ron, Tsumo, DealerTsumo}
use Rattle.riichi_score.specs.declared.score.Score.{Score}
use Rattle.riichi_score.specs.declared.answer.WinAnswer.{WinAnswer}
use Rattle.riichi_score.specs.declared.answer.WinAnswer.TheVariants.{Won, NoYaku, NoWin}
use Rattle.riichi_score.specs.Text.{payment_text, worth_text, dora_text, win_text}
use Rattle.riichi_shape.specs.LiveCopies.{live_in}
use Rattle.riichi_shape.specs.declared.accepts.Accepts.{Accepts}
use Rattle.riichi_shape.specs.declared.accepts.Accepts.TheVariants.{Thirteen, Fourteen}
use Rattle.riichi_shape.specs.declared.discard.Discard.{Discard}
use Rattle.riichi_shape.specs.declared.shape_answer.ShapeAnswer.{ShapeAnswer}
use Rattle.riichi_text.specs.Tiles.{letter_of, kind_text}
use Rattle.riichi_text.proofs.Letters.{letter_high}
use Rattle.riichi_shape.specs.Text.{pair_text, kinds_text, list_text, discard_text, accepts_text, shape_text}
use Rattle.riichi_explain.proofs.PlainTexts.{plain, after, after3, after4, after5, byte-plain, flat_map-plain, decimal-plain, kind_text-plain, tiles_text-plain, word-plain}
use Rattle.desk_core.specs.AnswerText.{answer_text}
use Rattle.desk_core.specs.Value.{value_of}
use Rattle.desk_core.specs.declared.answer.Answer.{Answer}
use Rattle.desk_core.specs.declared.answer.Answer.TheVariants as answer
use Rattle.desk_lines.specs.Explained.{is_indented}
use Rattle.desk_lines.specs.LineAnswer.{outcome_text}

abbrev Outcome : Type 0
Outcome = Result (Option Job) LineFault

-- ---- faults

line_code-plain : (code : LineCode) → plain (line_code_text code) ≡ true
line_code-plain = elim [ H1 ↦ refl | H2 ↦ refl | H3 ↦ refl | H4 ↦ refl | H5 ↦ refl | H6 ↦ refl | H7 ↦ refl | H8 ↦ refl | H9 ↦ refl | H10 ↦ refl | H11 ↦ refl | H12 ↦ refl | H13 ↦ refl | H14 ↦ refl | H15 ↦ refl | H16 ↦ refl ]

notation_code-plain : (code : NotationCode) → plain (notation_code_text code) ≡ true
notation_code-plain = elim [ N1 ↦ refl | N2 ↦ refl | N3 ↦ refl | N4 ↦ refl | N5 ↦ refl | N6 ↦ refl ]

name-plain : (name : TextName) → plain (name_text name) ≡ true
name-plain = elim [ Hand ↦ refl | On ↦ refl | Dora ↦ refl | Ura ↦ refl | Seen ↦ refl ]

fault_text-plain : (fault : LineFault) → plain (fault_text fault) ≡ true
fault_text-plain (Line code) = line_code-plain code
fault_text-plain (Notation name fault) =
    let front = codes "refused " ++ notation_code_text fault.code ++ codes " " ++ name_text name ++ codes " at " in
    after front (decimal fault.place) (after5 (codes "refused ") (notation_code_text fault.code) (codes " ") (name_text name) (codes " at ") refl (notation_code-plain fault.code) refl (name-plain name) refl) (decimal-plain fault.place)

-- ---- wins

payment-plain : (payment : Payment) → plain (payment_text payment) ≡ true
payment-plain (Ron points) = decimal-plain points
payment-plain (Tsumo other dealer) = after3 (decimal other) (codes "/") (decimal dealer) (decimal-plain other) refl (decimal-plain dealer)
payment-plain (DealerTsumo each) = after (decimal each) (codes " all") (decimal-plain each) refl

worth-plain : (score : Score) → plain (worth_text score) ≡ true
worth-plain score = elim (is_yakuman score.yaku) as (λ test. plain (cond test (codes "yakuman ") (decimal score.han ++ codes " han " ++ decimal score.fu ++ codes " fu ")) ≡ true) [
  | true ↦ refl
  | false ↦ after4 (decimal score.han) (codes " han ") (decimal score.fu) (codes " fu ") (decimal-plain score.han) refl (decimal-plain score.fu) refl
]

yaku_words-plain : (set : ℕ) → plain (yaku_words set) ≡ true
unfolding yaku_words
yaku_words-plain set = flat_map-plain (λ yaku. codes " " ++ word yaku) (yaku_in set) word-plain

dora-plain : (dora : ℕ) → plain (dora_text dora) ≡ true
dora-plain dora = elim (nat_eq dora 0) as (λ test. plain (cond test [] (codes " dora " ++ decimal dora)) ≡ true) [ true ↦ refl | false ↦ decimal-plain dora ]

win_text-plain : (win : WinAnswer) → plain (win_text win) ≡ true
unfolding win_text
win_text-plain NoWin = refl
win_text-plain NoYaku = refl
win_text-plain (Won score) =
    let front = codes "won " ++ worth_text score ++ payment_text score.payment ++ codes " gain " ++ decimal score.gain in
    after (front ++ yaku_words score.yaku) (dora_text score.dora) (after front (yaku_words score.yaku)
    (after5 (codes "won ") (worth_text score) (payment_text score.payment) (codes " gain ") (decimal score.gain) refl (worth-plain score) (payment-plain score.payment) refl (decimal-plain score.gain))
    (yaku_words-plain score.yaku)) (dora-plain score.dora)

-- ---- waits and shapes

waits-plain : (kinds : ℕ) → plain (waits_text kinds) ≡ true
waits-plain kinds = elim (kinds == 0) as (λ test. plain (cond test (codes "-") (tiles_text (once kinds))) ≡ true) [ true ↦ refl | false ↦ tiles_text-plain (once kinds) ]

pair-plain : (pair : ℕ × ℕ) → plain (pair_text pair) ≡ true
pair-plain pair = byte-plain (49 + pair.0 % 9) (letter_of pair.0 ∷ 58 ∷ (48 + pair.1) ∷ []) (omega arith) (byte-plain (letter_of pair.0) (58 ∷ (48 + pair.1) ∷ []) (omega (arith, letter_high pair.0)) (byte-plain (48 + pair.1) [] (omega arith) refl))

kinds-plain : (pairs : List (ℕ × ℕ)) → plain (kinds_text pairs) ≡ true
kinds-plain [] = refl
kinds-plain (pair ∷ pairs) = flat_map-plain pair_text (pair ∷ pairs) pair-plain

list-plain : (pairs : List (ℕ × ℕ)) → plain (list_text pairs) ≡ true
unfolding list_text
list-plain pairs = after4 (codes " accepts") (kinds_text pairs) (codes " live ") (decimal (live_in pairs)) refl (kinds-plain pairs) refl (decimal-plain (live_in pairs))

discard-plain : (discard : Discard) → plain (discard_text discard) ≡ true
unfolding discard_text
discard-plain discard = after3 (codes " discard ") (kind_text discard.kind) (list_text discard.accepted) refl (kind_text-plain discard.kind) (list-plain discard.accepted)

accepts-plain : (accepts : Accepts) → plain (accepts_text accepts) ≡ true
unfolding accepts_text
accepts-plain (Thirteen accepted) = list-plain accepted
accepts-plain (Fourteen discards) = flat_map-plain discard_text discards discard-plain

signed-plain : (number : ℤ) → plain (signed_decimal number) ≡ true
signed-plain (pos n) = decimal-plain n
signed-plain (negsuc n) = decimal-plain (suc n)

shape_text-plain : (shape : ShapeAnswer) → plain (shape_text shape) ≡ true
unfolding shape_text
shape_text-plain shape = after3 (codes "shanten ") (signed_decimal shape.shanten) (accepts_text shape.accepts) refl (signed-plain shape.shanten) (accepts-plain shape.accepts)

answer_text-plain : (said : Answer) → plain (answer_text said) ≡ true
unfolding answer_text
answer_text-plain (answer.Win win) = win_text-plain win
answer_text-plain (answer.Waits kinds) = waits-plain kinds
answer_text-plain (answer.Shape shape) = shape_text-plain shape

-- what holds of each answer and of each fault holds of what is said of an outcome
of_said : (P : List ℕ → Type 0) → ((said : Answer) → P (answer_text said)) → ((fault : LineFault) → P (fault_text fault)) → (outcome : Outcome) (said : List ℕ) → outcome_text outcome ≡ Some said → P said
of_said P answers faults (Ok None) said is = absurd (cc)
of_said P answers faults (Ok (Some job)) said is = let same : answer_text (value_of job) ≡ said = cc in subst P same (answers (value_of job))
of_said P answers faults (Err fault) said is = let same : fault_text fault ≡ said = cc in subst P same (faults fault)

pub answer-plain : (outcome : Outcome) (said : List ℕ) → outcome_text outcome ≡ Some said → plain said ≡ true
answer-plain = of_said (λ text. plain text ≡ true) answer_text-plain fault_text-plain

-- ---- how an answer begins

answer-begins : (said : Answer) → is_indented (answer_text said) ≡ false
unfolding answer_text win_text shape_text
answer-begins (answer.Win NoWin) = refl
answer-begins _ = refl

fault-begins : (fault : LineFault) → is_indented (fault_text fault) ≡ false
fault-begins (Line code) = refl
fault-begins (Notation name fault) = refl

pub answer-not_indented : (outcome : Outcome) (said : List ℕ) → outcome_text outcome ≡ Some said → is_indented said ≡ false
answer-not_indented = of_said (λ text. is_indented text ≡ false) answer-begins fault-begins
