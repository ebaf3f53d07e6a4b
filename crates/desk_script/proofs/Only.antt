-- The lines of a script have no two answers without a want of memory.
use Rattle.std.proofs.Common.{◌≡◌, ◌≢◌, ℕ, List, [], ◌∷◌, length, Option, None, Some, refl, sym, ap, ◌∙◌, subst, arith}
use Rattle.std.specs.Prelude.{codes}
use Rattle.std.specs.List.{filter_map, cons_option, AllByRecursion}
use Rattle.std.proofs.lemmas.List.Elements.{recursion_from_All}
use Rattle.desk_core.proofs.Unique.{replies_unique}
use Rattle.desk_core.specs.declared.reply.Reply.{Reply}
use Rattle.desk_core.specs.declared.reply.Reply.TheVariants as reply
use Rattle.desk_core.specs.declared.refusal.SubmitFault.TheVariants as fault
use Rattle.desk_script.specs.declared.told.Told.TheVariants as tell
use Rattle.desk_script.specs.declared.line_request.LineRequest.{LineRequest}
use Rattle.desk_script.specs.declared.line_request.LineRequest.TheVariants as ask
use Rattle.desk_script.specs.Asked.{asked_on, events_of}
use Rattle.desk_script.specs.Texts.{told_text, reply_text}
use Rattle.desk_script.specs.Replay.{told_with, Replays}
use Rattle.desk_script.specs.OnlyReplay.{IsOnlyReplay}

abbrev NoMemory : Reply → Type 0
NoMemory replied = replied ≡ reply.Refused fault.Memory

-- no line speaks of a want of memory
abbrev NoWant : List ℕ → Type 0
NoWant answer = answer ≢ codes "refused C3"

behind : (first : Option (List ℕ)) (others : List (List ℕ)) → AllByRecursion NoWant (cons_option first others) → AllByRecursion NoWant others
behind None others all = all
behind (Some text) others all = all.1

replied_text : (replied : Reply) → told_text (tell.Replied replied) ≡ Some (reply_text replied)
unfolding told_text
replied_text replied = refl

-- so no reply is one
no_want : (asked : List LineRequest) (replies : List Reply) → length replies ≡ length (events_of asked) → AllByRecursion NoWant (filter_map told_text (told_with asked replies))
    → AllByRecursion (λ r. ¬ NoMemory r) replies
no_want [] [] same all = tt
no_want [] (first ∷ replies) same all = absurd (omega arith)
no_want (ask.Told told ∷ others) replies same all = no_want others replies same (behind (told_text told) (filter_map told_text (told_with others replies)) all)
no_want (ask.Event event ∷ others) [] same all = absurd (omega arith)
no_want (ask.Event event ∷ others) (first ∷ replies) same all =
    let told : AllByRecursion NoWant (reply_text first ∷ filter_map told_text (told_with others replies)) =
    subst (λ (text : Option (List ℕ)). AllByRecursion NoWant (cons_option text (filter_map told_text (told_with others replies)))) (replied_text first) all in
    (λ is. told.0 (ap reply_text is), no_want others replies (omega arith) told.1)

pub only_replay : (lines answers : List (List ℕ)) → Replays lines answers → IsOnlyReplay lines answers
only_replay lines answers one ample others other plenty =
    let asked = asked_on lines in
    let first = no_want asked one.replies one.replied.count (subst (λ (all : List (List ℕ)). AllByRecursion NoWant all) one.answers_are (recursion_from_All _ answers ample)) in
    let second = no_want asked other.replies other.replied.count (subst (λ (all : List (List ℕ)). AllByRecursion NoWant all) other.answers_are (recursion_from_All _ others plenty)) in
    let same : other.replies ≡ one.replies = replies_unique 64 [] (events_of asked) other.replies one.replies other.replied.count one.replied.count other.replied.legal one.replied.legal second first in
    other.answers_are ∙ ap (λ replies. filter_map told_text (told_with asked replies)) same ∙ sym one.answers_are
