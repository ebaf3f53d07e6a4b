-- How far answers are, in numbers.
use Rattle.std.specs.Prelude.{List, [], ◌++◌, ◌%◌, nat_lt, codes, decimal}
use Rattle.desk_io.specs.declared.reached.Reached.{Reached}
use Rattle.std.specs.Prelude.{ℕ, ◌-◌, ◌*◌, ◌/◌, ◌^◌, min, Option, Some, None, ◌==◌, if◌then◌else◌}

-- the hundredth parts of a whole that are done, rounded down, at most all; of nothing all is done
abbrev pub share_of : ℕ → ℕ → ℕ
share_of done whole = if whole == 0 then 100 else min (done * 100 / whole) 100

-- what a number of 64 bits holds of another
abbrev pub held_of : ℕ → ℕ
held_of number = min number (2 ^ 64 - 1)

-- so many lines in so many thousandths of a second, as lines a second, rounded down; none in no time
abbrev pub rate_of : ℕ → ℕ → ℕ
rate_of lines millis = if millis == 0 then 0 else held_of (lines * 1000 / millis)

-- the seconds, rounded down, in which what is left of a whole is done as fast as what is done; unknown where nothing is
abbrev pub left_of : ℕ → ℕ → ℕ → Option ℕ
left_of done whole millis = if done == 0 then None else Some (held_of (millis * (whole - done) / (done * 1000)))

-- the seconds that are left, from a minute on in minutes too
abbrev pub time_text : ℕ → List ℕ
time_text seconds = if nat_lt seconds 60 then codes ", " ++ decimal seconds ++ codes " s left" else codes ", " ++ decimal (seconds / 60) ++ codes " min " ++ decimal (seconds % 60) ++ codes " s left"

abbrev pub left_text : Option ℕ → List ℕ
left_text None = []
left_text (Some seconds) = time_text seconds

-- how far the answers are
abbrev pub shown_text : ℕ → ℕ → ℕ → Option ℕ → List ℕ
shown_text lines millis done None = decimal lines ++ (codes " lines, " ++ (decimal (rate_of lines millis) ++ codes " lines a second"))
shown_text lines millis done (Some whole) = decimal (share_of done whole) ++ (codes " %, " ++ (decimal (rate_of lines millis) ++ (codes " lines a second" ++ left_text (left_of done whole millis))))

abbrev pub reached_text : Reached → List ℕ
reached_text reached = shown_text reached.lines reached.millis reached.done reached.whole
