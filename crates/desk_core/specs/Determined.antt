-- The replies are determined by the events, but for want of memory.
use Rattle.std.specs.Prelude.{◌≡◌, ◌≢◌, ℕ, List, length, All}
use Rattle.std.specs.List.{zip}
use Rattle.desk_core.specs.History.{IsLegal}
use Rattle.desk_core.specs.declared.event.Event.{Event}
use Rattle.desk_core.specs.declared.reply.Reply.{Reply}
use Rattle.desk_core.specs.declared.reply.Reply.TheVariants as reply
use Rattle.desk_core.specs.declared.refusal.SubmitFault.TheVariants as fault

-- the replies of a run of these events that met no want of memory
pub record IsRunOf (tables : ℕ) (events : List Event) (replies : List Reply) : Type 0 where
  pub count : length replies ≡ length events
  pub legal : IsLegal tables (zip events replies)
  pub ample : All (λ replied. replied ≢ reply.Refused fault.Memory) replies
