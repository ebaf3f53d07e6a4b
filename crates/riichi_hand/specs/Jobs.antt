-- The job of a line, with the defaults of the keys that may be missing.
use Rattle.std.specs.Prelude.{◌≡◌, ℕ, Option, None, Some, option_map, unwrap_or}
use Rattle.riichi_hand.specs.Rules.{Rules}
use Rattle.riichi_hand.specs.declared.win.WinParts.{WinParts}
use Rattle.riichi_hand.specs.declared.job.Job.{Job}
use Rattle.riichi_hand.specs.declared.job.Job.TheVariants as jobs
use Rattle.riichi_hand.specs.declared.line.job_name.JobName.{JobName}
use Rattle.riichi_hand.specs.declared.line.job_name.JobName.TheVariants.{Win, Waits, Shape}
use Rattle.riichi_hand.specs.declared.line.key.Key.TheVariants.{By, Seat, Round, Riichi, Flags, Counters, Sticks}
use Rattle.riichi_hand.specs.declared.line.needed.WinKeys.{WinKeys}
use Rattle.riichi_hand.specs.declared.line.needed.Needed.{Needed}
use Rattle.riichi_hand.specs.declared.line.needed.Needed.TheVariants as needs
use Rattle.riichi_hand.specs.declared.line.texts.Texts.{Texts}
use Rattle.riichi_hand.specs.HandParts.{HandParts, ShapeParts}
use Rattle.riichi_hand.specs.Win.{kept_under, no_flags}
use Rattle.riichi_hand.specs.Parts.{LineParts, value}
use Rattle.riichi_hand.specs.Texts.{only_kind, reds}

abbrev pub and_then : {X Y : Type 0} → Option X → (X → Option Y) → Option Y
and_then None f = None
and_then (Some x) f = f x

-- how a win came about and whose it is, where the line says each
abbrev pub win_keys : LineParts → Option WinKeys
win_keys parts =
    and_then (value By parts) (λ by. and_then (value Seat parts) (λ seat. and_then (value Round parts) (λ round.
    Some (record { by = by; seat = seat; round = round }))))

-- the job, with what it must be given
abbrev pub AreNeeded : Needed → LineParts → Type 0
AreNeeded (needs.Win keys) parts = (parts.job ≡ Win) × (win_keys parts ≡ Some keys)
AreNeeded needs.Waits parts = parts.job ≡ Waits
AreNeeded needs.Shape parts = parts.job ≡ Shape

abbrev pub win_parts : Rules → LineParts → Texts → ℕ → WinKeys → WinParts
win_parts rules parts texts winning keys = record {
  rules = rules;
  concealed = texts.hand;
  melds = texts.melds;
  winning = winning;
  by = keys.by;
  seat = keys.seat;
  round = keys.round;
  riichi = unwrap_or (value Riichi parts) 0;
  flags = unwrap_or (value Flags parts) no_flags;
  dora = texts.dora;
  ura = texts.ura;
  counters = unwrap_or (value Counters parts) 0;
  sticks = unwrap_or (value Sticks parts) 0;
  reds = reds parts;
}

-- the win of a line, where it has one winning tile and the keys that a win must have
abbrev pub win_of_line : Rules → LineParts → Texts → Option WinParts
win_of_line rules parts texts =
    and_then (only_kind texts.on) (λ winning. option_map (win_parts rules parts texts winning) (win_keys parts))

abbrev pub hand_of_line : Texts → HandParts
hand_of_line texts = record { concealed = texts.hand; melds = texts.melds }

abbrev pub shape_of_line : Texts → ShapeParts
shape_of_line texts = record { tiles = texts.hand; melds = texts.melds; seen = texts.seen }

abbrev pub job_of : Rules → LineParts → Texts → JobName → Option Job
job_of rules parts texts Win = option_map (λ won. jobs.Win (kept_under rules won)) (win_of_line rules parts texts)
job_of rules parts texts Waits = Some (jobs.Waits (hand_of_line texts))
job_of rules parts texts Shape = Some (jobs.Shape (shape_of_line texts))
