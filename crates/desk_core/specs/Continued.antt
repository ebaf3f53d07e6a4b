-- How a history goes on.
use Rattle.std.specs.Prelude.{◌≡◌, ◌≢◌, ℕ, List, ◌++◌, length, All}
use Rattle.std.specs.List.{zip}
use Rattle.desk_core.specs.History.{Turn, IsLegal}
use Rattle.desk_core.specs.declared.event.Event.{Event}
use Rattle.desk_core.specs.declared.reply.Reply.{Reply}
use Rattle.desk_core.specs.declared.reply.Reply.TheVariants as reply
use Rattle.desk_core.specs.declared.refusal.SubmitFault.TheVariants as fault

-- after the history these events have these replies, and none is a want of memory
pub record GoesOnWith (tables : ℕ) (history : List Turn) (events : List Event) (replies : List Reply) : Type 0 where
  pub count : length replies ≡ length events
  pub legal : IsLegal tables (history ++ zip events replies)
  pub ample : All (λ replied. replied ≢ reply.Refused fault.Memory) replies

-- whatever events follow, they have replies without a want of memory
abbrev pub CanGoOn : ℕ → List Turn → Type 0
CanGoOn tables history = (events : List Event) → (replies : List Reply) × GoesOnWith tables history events replies
