-- The answers to a script are determined by its lines, but for want of memory.
use Rattle.std.specs.Prelude.{◌≡◌, ◌≢◌, ℕ, List, codes}
use Rattle.std.specs.List.{All}
use Rattle.desk_script.specs.Replay.{Replays}

-- no answer speaks of a want of memory
abbrev pub MeetsNoWant : List (List ℕ) → Type 0
MeetsNoWant answers = All (λ answer. answer ≢ codes "refused C3") answers

-- there are no other answers to these lines without a want of memory
abbrev pub IsOnlyReplay : List (List ℕ) → List (List ℕ) → Type 0
IsOnlyReplay lines answers = MeetsNoWant answers → (others : List (List ℕ)) → Replays lines others → MeetsNoWant others → others ≡ answers
