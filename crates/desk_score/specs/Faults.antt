-- How the faults of a text are reported: as which fault of a score, by which code and words, with which exit status.
use Rattle.std.specs.Prelude.{ℕ, List, codes}
use Rattle.desk_lines.specs.declared.fault.DeskFault.{DeskFault}
use Rattle.desk_lines.specs.declared.fault.DeskFault.TheVariants as desk
use Rattle.desk_score.specs.declared.score_fault.ScoreFault.{ScoreFault}
use Rattle.desk_score.specs.declared.score_fault.ScoreFault.TheVariants.{Read, Write, Memory, Range, Thread}

abbrev pub desk_fault : DeskFault → ScoreFault
desk_fault desk.Read = Read
desk_fault desk.Write = Write
desk_fault desk.Memory = Memory

-- the same where answers are written into memory: a write fails where there is none
abbrev pub fault_in_memory : DeskFault → ScoreFault
fault_in_memory desk.Read = Read
fault_in_memory desk.Write = Memory
fault_in_memory desk.Memory = Memory

-- the code of a fault
abbrev pub code_of : ScoreFault → List ℕ
code_of Read = codes "F1"
code_of Write = codes "F2"
code_of Memory = codes "F3"
code_of Range = codes "B1"
code_of Thread = codes "B4"

-- a fault in words
abbrev pub score_fault_words : ScoreFault → List ℕ
score_fault_words Read = codes "the input can't be read, or has no end"
score_fault_words Write = codes "the answers can't be written"
score_fault_words Memory = codes "there is no memory"
score_fault_words Range = codes "there are too many files, or too many hands in one"
score_fault_words Thread = codes "there is no thread"

-- 2 where there was too much, 3 where input or output failed, 4 where there was no memory or no thread
abbrev pub status_of : ScoreFault → ℕ
status_of Range = 2
status_of Read = 3
status_of Write = 3
status_of Memory = 4
status_of Thread = 4
