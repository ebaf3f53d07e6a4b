-- What one call of a reader or a writer moved, and whether it failed.
use Rattle.std.specs.Prelude.{ℕ, zero, suc, ◌+◌, List, [], ◌∷◌, take, Option, None, Some, Result, Ok, Err}

-- `read(buffer)` gave these bytes, the front of the buffer
abbrev pub bytes_read : {E : Type 0} → Result ℕ E → List ℕ → List ℕ
bytes_read (Ok count) buffer = take count buffer
bytes_read (Err error) buffer = []

-- 1 for a read that failed
abbrev pub failed_reads : {E : Type 0} → Result ℕ E → ℕ
failed_reads (Ok count) = 0
failed_reads (Err error) = 1

-- 1 for a read that found the end: it gave none, though the buffer had room
abbrev pub found_ends : {E : Type 0} → Result ℕ E → List ℕ → ℕ
found_ends (Err error) buffer = 0
found_ends (Ok zero) (byte ∷ buffer) = 1
found_ends (Ok zero) [] = 0
found_ends (Ok (suc count)) buffer = 0

-- `write(bytes)` took these of them
abbrev pub bytes_taken : {E : Type 0} → Result ℕ E → List ℕ → List ℕ
bytes_taken (Ok count) bytes = take count bytes
bytes_taken (Err error) bytes = []

-- 1 for a write that failed: an error, or none taken of some bytes
abbrev pub failed_writes : {E : Type 0} → Result ℕ E → List ℕ → ℕ
failed_writes (Err error) bytes = 1
failed_writes (Ok zero) (byte ∷ bytes) = 1
failed_writes (Ok zero) [] = 0
failed_writes (Ok (suc count)) bytes = 0

-- calls are counted from 1, so that none has the number 0
abbrev pub call_number : Option ℕ → Option ℕ
call_number None = None
call_number (Some zero) = None
call_number (Some (suc number)) = Some (suc number)

-- the number of a call that comes after these calls, where one is to come
abbrev pub call_after : ℕ → ℕ → Option ℕ
call_after calls zero = None
call_after calls (suc further) = Some (calls + suc further)
