-- What answers are written as.
use Rattle.std.specs.Prelude.{ℕ, List, [], Option, None, Some, codes}
use Rattle.desk_lines.specs.Numbered.{words_front, object_front}
use Rattle.desk_games.specs.declared.form.GamesForm.{GamesForm}
use Rattle.desk_games.specs.declared.form.GamesForm.TheVariants.{Answers, Explained, Objects, Sheet}
use Rattle.desk_games.specs.declared.form.Writing.{Writing}
use Rattle.desk_games.specs.declared.form.Writing.TheVariants.{Words, Members, Rows}

abbrev pub writing_of : GamesForm → Writing
writing_of Answers = Words
writing_of Explained = Words
writing_of Objects = Members
writing_of Sheet = Rows

-- an answer that has these words, these members as an object, and these rows in a sheet
abbrev pub written : Writing → List ℕ → List ℕ → List ℕ → List ℕ
written Words words members rows = words
written Members words members rows = members
written Rows words members rows = rows

-- ---- what stands before an answer

-- the number of its line, where that is told
abbrev pub number_front : Option ℕ → List ℕ
number_front None = []
number_front (Some number) = words_front number

-- the brace, and the number as the first member
abbrev pub brace_front : Option ℕ → List ℕ
brace_front None = codes "{"
brace_front (Some number) = object_front number

-- rows of a sheet have no numbers
abbrev pub front_text : GamesForm → Option ℕ → List ℕ
front_text form number = written (writing_of form) (number_front number) (brace_front number) []
