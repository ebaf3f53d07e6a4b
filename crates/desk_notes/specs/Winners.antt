-- Two winners' lines that are both paid the same counters and sticks.
use Rattle.std.specs.Prelude.{ℕ, ◌+◌, List, [], ◌∷◌, ◌++◌, Bool, false, not, ◌&&◌, ◌||◌, Option, None, Some, Result, Ok, Err, nat_eq, nat_lt, decimal, codes, if◌then◌else◌}
use Rattle.riichi_hand.specs.declared.fault.LineFault.{LineFault}
use Rattle.riichi_hand.specs.declared.job.Job.{Job}
use Rattle.riichi_hand.specs.declared.job.Job.TheVariants.{Win, Waits, Shape}
use Rattle.riichi_hand.specs.declared.win.WinParts.{WinParts}
use Rattle.riichi_hand.specs.Win.{is_ron, wind_kind}

-- ---- two wins

-- both by ron, on the same kind and in the same round, from different seats
abbrev pub may_be_of_one_discard : WinParts → WinParts → Bool
may_be_of_one_discard one other =
    is_ron one.by && (is_ron other.by && (nat_eq one.winning other.winning
    && (nat_eq (wind_kind one.round) (wind_kind other.round) && not (nat_eq (wind_kind one.seat) (wind_kind other.seat)))))

-- with the same counters and sticks, of which there are some
abbrev pub are_both_paid : WinParts → WinParts → Bool
are_both_paid one other =
    may_be_of_one_discard one other && (nat_eq one.counters other.counters && (nat_eq one.sticks other.sticks
    && (nat_lt 0 one.counters || nat_lt 0 one.sticks)))

-- ---- one line behind others

-- what a line comes to: no record, a job, or why it is refused
abbrev pub LineOutcome : Type 0
LineOutcome = Result (Option Job) LineFault

-- behind this win a line is a win that is paid the same once more
abbrev pub is_paid_again : Option WinParts → LineOutcome → Bool
is_paid_again None outcome = false
is_paid_again (Some one) (Ok None) = false
is_paid_again (Some one) (Ok (Some (Win other))) = are_both_paid one other
is_paid_again (Some one) (Ok (Some (Waits hand))) = false
is_paid_again (Some one) (Ok (Some (Shape tiles))) = false
is_paid_again (Some one) (Err fault) = false

-- the win that the last record is, where it is one: a line that is no record leaves it
abbrev pub last_win_by : Option WinParts → LineOutcome → Option WinParts
last_win_by before (Ok None) = before
last_win_by before (Ok (Some (Win win))) = Some win
last_win_by before (Ok (Some (Waits hand))) = None
last_win_by before (Ok (Some (Shape tiles))) = None
last_win_by before (Err fault) = None

-- ---- many lines

-- the win that the last record is
abbrev pub last_win : Option WinParts → List LineOutcome → Option WinParts
last_win before [] = before
last_win before (outcome ∷ outcomes) = last_win (last_win_by before outcome) outcomes

-- a number stands before others where it is told
abbrev pub put_if : Bool → ℕ → List ℕ → List ℕ
put_if is_told number numbers = if is_told then number ∷ numbers else numbers

-- The numbers of the lines, from this one on, that are wins and paid what the win before them was paid: notes and empty lines may stand between
abbrev pub paid_again_from : Option WinParts → ℕ → List LineOutcome → List ℕ
paid_again_from before number [] = []
paid_again_from before number (outcome ∷ outcomes) =
    put_if (is_paid_again before outcome) number (paid_again_from (last_win_by before outcome) (number + 1) outcomes)

-- ---- what is said of it

-- the name of the text, and the number of the second line
abbrev pub winners_text : List ℕ → ℕ → List ℕ
winners_text name line =
    codes "riichi_desk: " ++ (name ++ (codes ": line " ++ (decimal line
    ++ codes ": this win and the one before it are by ron on the same tile, with the same counters and sticks, and both are paid them; where it was one discard, one of the lines leaves them out")))
