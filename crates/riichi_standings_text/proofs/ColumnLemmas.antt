-- One column more, and the parts of a line.
use Rattle.std.proofs.Common.{◌≡◌, ℕ, zero, suc, ◌+◌, ◌-◌, ◌≤◌, List, ◌++◌, ap, sym, ◌∙◌, arith, append_assoc}
use Rattle.std.specs.Prelude.{Result, Ok, Err, OnOk, flat_map}
use Rattle.std.specs.List.{range_with_len}
use Rattle.std.proofs.lemmas.List.{append-nil}

range_more : (f : ℕ → List ℕ) (first count : ℕ) → flat_map f (range_with_len first (suc count)) ≡ flat_map f (range_with_len first count) ++ f (first + count)
range_more f first zero =
    let here : first + zero ≡ first = omega arith in
    append-nil (f first) ∙ ap f (sym here)
range_more f first (suc count) =
    let there : (first + 1) + count ≡ first + suc count = omega arith in
    ap (λ rest. f first ++ rest) (range_more f (first + 1) count ∙ ap (λ column. flat_map f (range_with_len (first + 1) count) ++ f column) there)
    ∙ sym (append_assoc (f first) (flat_map f (range_with_len (first + 1) count)) (f (first + suc count)))

-- what is written of the columns from the first on, and of one more
pub columns_more : (f : ℕ → List ℕ) (first column : ℕ) → first ≤ column
    → flat_map f (range_with_len first ((column + 1) - first)) ≡ flat_map f (range_with_len first (column - first)) ++ f column
columns_more f first column behind =
    let one : (column + 1) - first ≡ suc (column - first) = omega arith in
    let same : first + (column - first) ≡ column = omega arith in
    ap (λ count. flat_map f (range_with_len first count)) one ∙ range_more f first (column - first)
    ∙ ap (λ place. flat_map f (range_with_len first (column - first)) ++ f place) same

pub column_written : (old before text next new columns sep points : List ℕ) → before ≡ old ++ columns → text ≡ before ++ sep → new ≡ text ++ points → next ≡ columns ++ (sep ++ points) → new ≡ old ++ next
column_written old before text next new columns sep points first second third all = cc (append_assoc old columns (sep ++ points), append_assoc (old ++ columns) sep points)

-- three parts, one behind another
pub parts_written : {T E : Type 0} (r : Result T E) (old first second new one two three : List ℕ) → first ≡ old ++ one → second ≡ first ++ two → OnOk r (new ≡ second ++ three) → OnOk r (new ≡ old ++ (one ++ two ++ three))
parts_written (Ok value) old first second new one two three a b c = cc (c, append_assoc old one two, append_assoc old (one ++ two) three)
parts_written (Err error) old first second new one two three a b c = c
