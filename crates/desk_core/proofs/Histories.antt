-- What one more turn changes in what a table's turns say.
use Rattle.std.proofs.Common.{◌≡◌, ℕ, ◌<◌, ◌≤◌, ◌⊎◌, true, eqb, List, [], ◌∷◌, ◌++◌, length, take, drop, Some, None, refl, sym, ap, ◌∙◌, subst, inl, inr, ⊎_elim, arith, length-append, append_assoc, append-nil}
use Rattle.std.specs.Prelude.{slice_get, if◌then◌else◌, ◌||◌}
use Rattle.std.specs.List.{cons_option, list_any}
use Rattle.std.proofs.lemmas.List.{take-append-le, take-append-drop}
use Rattle.std.proofs.lemmas.List.Elements.{filter_map-append}
use Rattle.std.proofs.lemmas.List.Folds.{list_any-append}
use Rattle.std.proofs.lemmas.Option.{slice_get_within}
use Rattle.std.proofs.lemmas.Bool.{cases_lt}
use Rattle.std.proofs.Math.Bool.{or-false}
use Rattle.std.proofs.Math.Seq.{take-append_seam}
use Rattle.desk_core.proofs.Lists.{filter_map-take_while-push, slice_get-append_left, slice_get-push}
use Rattle.desk_core.specs.LaneState.{is_among}
use Rattle.desk_core.specs.Ticketed.{Ticketed}
use Rattle.desk_core.specs.declared.answer.Answer.{Answer}
use Rattle.desk_core.specs.History.{Turn, is_close, has_closed, submitted, submitted_job, HasArrived, given, answer_in, withdrawn, withdrawn_in, is_given, is_withdrawn}
use Rattle.desk_core.specs.declared.event.Event.{Event}
use Rattle.desk_core.specs.declared.event.Event.TheVariants.{Arrive, Close}
use Rattle.desk_core.specs.declared.reply.Reply.{Reply}

close_submits_nothing : (event : Event) (replied : Reply) → is_close event ≡ true → submitted_job event replied ≡ None
close_submits_nothing (Close table) replied closes = refl
close_submits_nothing event replied closes = cc

pub submitted-push : (turns : List Turn) (turn : Turn) → submitted (turns ++ turn ∷ []) ≡ submitted turns ++ (if has_closed turns then [] else cons_option (submitted_job turn.0 turn.1) [])
submitted-push turns turn =
    filter_map-take_while-push (λ t. submitted_job t.0 t.1) (λ t. is_close t.0) turns turn (close_submits_nothing turn.0 turn.1)

pub has_closed-push : (turns : List Turn) (turn : Turn) → has_closed (turns ++ turn ∷ []) ≡ (has_closed turns || is_close turn.0)
has_closed-push turns turn =
    list_any-append (λ t. is_close t.0) turns (turn ∷ []) ∙ ap (λ b. has_closed turns || b) (or-false (is_close turn.0))

pub given-push : (turns : List Turn) (turn : Turn) → given (turns ++ turn ∷ []) ≡ given turns ++ cons_option (answer_in turn.1) []
given-push turns turn = filter_map-append (λ t. answer_in t.1) turns (turn ∷ [])

pub withdrawn-push : (turns : List Turn) (turn : Turn) → withdrawn (turns ++ turn ∷ []) ≡ withdrawn turns ++ cons_option (withdrawn_in turn.0 turn.1) []
withdrawn-push turns turn = filter_map-append (λ t. withdrawn_in t.0 t.1) turns (turn ∷ [])

-- a turn that gives and withdraws nothing
abbrev pub IsQuiet : Turn → Type 0
IsQuiet turn = (answer_in turn.1 ≡ None) × (withdrawn_in turn.0 turn.1 ≡ None)

pub given_same : (turns : List Turn) (turn : Turn) → answer_in turn.1 ≡ None → given (turns ++ turn ∷ []) ≡ given turns
given_same turns turn none = given-push turns turn ∙ (rw none (append-nil (given turns)))

pub withdrawn_same : (turns : List Turn) (turn : Turn) → withdrawn_in turn.0 turn.1 ≡ None → withdrawn (turns ++ turn ∷ []) ≡ withdrawn turns
withdrawn_same turns turn none = withdrawn-push turns turn ∙ (rw none (append-nil (withdrawn turns)))

pub is_given-same : (turns : List Turn) (turn : Turn) (i : ℕ) → answer_in turn.1 ≡ None → is_given (turns ++ turn ∷ []) i ≡ is_given turns i
is_given-same turns turn i none = ap (list_any (λ (answer : ℕ × Answer). eqb answer.0 i)) (given_same turns turn none)

pub is_withdrawn-same : (turns : List Turn) (turn : Turn) (i : ℕ) → withdrawn_in turn.0 turn.1 ≡ None → is_withdrawn (turns ++ turn ∷ []) i ≡ is_withdrawn turns i
is_withdrawn-same turns turn i none = ap (λ w. is_among w i) (withdrawn_same turns turn none)

-- no later turn takes a job back

pub length-submitted-push : (turns : List Turn) (turn : Turn) → length (submitted turns) ≤ length (submitted (turns ++ turn ∷ []))
length-submitted-push turns turn = rw (submitted-push turns turn, length-append) (omega arith)

length-submitted-append : (turns more : List Turn) → length (submitted turns) ≤ length (submitted (turns ++ more))
length-submitted-append turns [] = rw (append-nil turns) (omega arith)
length-submitted-append turns (turn ∷ more) =
    let rest : length (submitted (turns ++ turn ∷ [])) ≤ length (submitted ((turns ++ turn ∷ []) ++ more)) = length-submitted-append (turns ++ turn ∷ []) more in
    let same : (turns ++ turn ∷ []) ++ more ≡ turns ++ (turn ∷ more) = append_assoc turns (turn ∷ []) more in
    let rest' : length (submitted (turns ++ turn ∷ [])) ≤ length (submitted (turns ++ (turn ∷ more))) = rw same at rest in
    omega (arith, length-submitted-push turns turn, rest')

length-submitted-take : (q : ℕ) (turns : List Turn) → length (submitted (take q turns)) ≤ length (submitted turns)
length-submitted-take q turns =
    let P : List Turn → Type 0 = λ all. length (submitted (take q turns)) ≤ length (submitted all) in
    subst P (take-append-drop q turns) (length-submitted-append (take q turns) (drop q turns))

pub slice_get-submitted-push : (turns : List Turn) (turn : Turn) (i : ℕ) → i < length (submitted turns) → slice_get (submitted (turns ++ turn ∷ [])) i ≡ slice_get (submitted turns) i
slice_get-submitted-push turns turn i within = rw (submitted-push turns turn) (slice_get-append_left (submitted turns) _ i within)

-- a piece that has arrived has a ticket that was given out
pub HasArrived-within : (turns : List Turn) (i : ℕ) → HasArrived turns i → i < length (submitted turns)
HasArrived-within turns i (q, a) = slice_get_within (submitted turns) i _ a.job

-- it has arrived for good
pub HasArrived-push : (turns : List Turn) (turn : Turn) (i : ℕ) → HasArrived turns i → HasArrived (turns ++ turn ∷ []) i
HasArrived-push turns turn i (q, a) =
    let here : q < length turns = slice_get_within turns q _ a.turn in
    let front : take q (turns ++ turn ∷ []) ≡ take q turns = take-append-le q turns (turn ∷ []) (omega arith) in (
      q,
      record {
        piece = a.piece;
        reply = a.reply;
        turn = slice_get-append_left turns (turn ∷ []) q here ∙ a.turn;
        seq = a.seq;
        job = slice_get-submitted-push turns turn i (HasArrived-within turns i (q, a)) ∙ a.job;
        known = rw front a.known;
      },
    )

-- the turn is the arrival of ticket i's piece
pub record BringsIn (turns : List Turn) (turn : Turn) (i : ℕ) : Type 0 where
  pub piece : Ticketed
  pub reply : Reply
  pub turn_is : turn ≡ (Arrive piece, reply)
  pub seq : piece.ticket.seq ≡ i
  pub job : slice_get (submitted turns) i ≡ Some piece.job

pub HasArrived-from_BringsIn : (turns : List Turn) (turn : Turn) (i : ℕ) → BringsIn turns turn i → HasArrived (turns ++ turn ∷ []) i
HasArrived-from_BringsIn turns turn i b =
    let within : i < length (submitted turns) = slice_get_within (submitted turns) i _ b.job in (
      length turns,
      record {
        piece = b.piece;
        reply = b.reply;
        turn = slice_get-push turns turn ∙ ap Some b.turn_is;
        seq = b.seq;
        job = slice_get-submitted-push turns turn i within ∙ b.job;
        known = rw (take-append_seam turns (turn ∷ [])) within;
      },
    )

pub HasArrived-push_cases : (turns : List Turn) (turn : Turn) (i : ℕ) → HasArrived (turns ++ turn ∷ []) i → HasArrived turns i ⊎ BringsIn turns turn i
HasArrived-push_cases turns turn i (q, a) =
    let inside : q < length (turns ++ turn ∷ []) = slice_get_within (turns ++ turn ∷ []) q _ a.turn in
    let last : q ≤ length turns = omega (arith, length-append turns (turn ∷ [])) in
    let front : take q (turns ++ turn ∷ []) ≡ take q turns = take-append-le q turns (turn ∷ []) last in
    let known : i < length (submitted (take q turns)) = rw front at a.known in
    let within : i < length (submitted turns) = omega (arith, length-submitted-take q turns) in
    let job : slice_get (submitted turns) i ≡ Some a.piece.job = sym (slice_get-submitted-push turns turn i within) ∙ a.job in
    ⊎_elim (λ here. inl (
      q,
      record {
        piece = a.piece;
        reply = a.reply;
        turn = sym (slice_get-append_left turns (turn ∷ []) q here) ∙ a.turn;
        seq = a.seq;
        job = job;
        known = known;
      },
    )) (λ past.
    let at_end : q ≡ length turns = omega arith in
    let same : slice_get (turns ++ turn ∷ []) (length turns) ≡ Some (Arrive a.piece, a.reply) = rw at_end at a.turn in
    let some : Some turn ≡ Some (Arrive a.piece, a.reply) = sym (slice_get-push turns turn) ∙ same in
    inr (record { piece = a.piece; reply = a.reply; turn_is = cc; seq = a.seq; job = job }))
    (cases_lt q (length turns))
