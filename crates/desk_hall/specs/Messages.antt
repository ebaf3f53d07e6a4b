-- A message to one of many tables.
use Rattle.std.specs.Prelude.{◌≡◌, ℕ, List, Bool, Option, None, Some}
use Rattle.desk_hall.specs.Decided.{Request, HandsIn, Withdraws, IsJudged}
use Rattle.desk_hall.specs.Fronts.{first_front}
use Rattle.desk_hall.specs.Playing.{MeetsFault}
use Rattle.desk_hall.specs.declared.message.Asked.{Asked}
use Rattle.desk_hall.specs.declared.message.Asked.TheVariants as asked
use Rattle.desk_hall.specs.declared.message.Reply.{Reply}
use Rattle.desk_hall.specs.declared.message.Reply.TheVariants.{NoTable, NoBook, Judged}
use Rattle.desk_hall.specs.declared.message.Table.{Table}

abbrev pub request_in : Asked → Request
request_in (asked.Line line) = HandsIn line.now
request_in asked.Withdrawal = Withdraws

-- what a message to a table comes to, by that table's book
abbrev pub IsReplyOf : {P : Type 0} → (P → List ℕ → Option P) → (P → P → Bool) → Table P → ℕ → Request → Reply P → Type 0
IsReplyOf reads same table number request NoTable = ⊥
IsReplyOf reads same table number request NoBook = MeetsFault reads (first_front table.start) table.deals.now
IsReplyOf reads same table number request (Judged judged) = IsJudged reads same table.start table.deals.now number request judged

abbrev pub IsHallReply : {P : Type 0} → (P → List ℕ → Option P) → (P → P → Bool) → Option (Table P) → ℕ → Request → Reply P → Type 0
IsHallReply reads same None number request reply = reply ≡ NoTable
IsHallReply reads same (Some table) number request reply = IsReplyOf reads same table number request reply
