-- Which tables are open after some lines of a script.
use Rattle.std.specs.Prelude.{ℕ, List, [], ◌∷◌, ◌++◌, length, take, position, Option, None, Some, nat_lt, if◌then◌else◌}
use Rattle.std.specs.List.{filter_map}
use Rattle.std.specs.Str.{bytes_eq}
use Rattle.desk_script.specs.declared.action.Action.{Action}
use Rattle.desk_script.specs.declared.action.Action.TheVariants.{Open, Submit, Arrive, Close, Take, Withdraw}
use Rattle.desk_script.specs.Words.{is_blank}
use Rattle.desk_script.specs.Commands.{Said, command_of}

-- the name that a command says to open
abbrev pub name_to_open : List ℕ → Action → Option (List ℕ)
name_to_open name Open = Some name
name_to_open name Submit = None
name_to_open name (Arrive seq) = None
name_to_open name Close = None
name_to_open name Take = None
name_to_open name (Withdraw seq) = None

abbrev pub opened_by : Option Said → Option (List ℕ)
opened_by None = None
opened_by (Some said) = name_to_open said.name said.action

-- the name that a line says to open
unfoldable pub opened : List ℕ → Option (List ℕ)
opened line = if nat_lt 8192 (length line) then None else if is_blank line then None else opened_by (command_of line)

-- a text that has no place among others is new
abbrev pub new_at : Option ℕ → List ℕ → List (List ℕ)
new_at (Some place) text = []
new_at None text = text ∷ []

abbrev pub new_text : List (List ℕ) → List ℕ → List (List ℕ)
new_text others text = new_at (position (bytes_eq text) others) text

-- the texts that are not among others, each once, where it comes first
abbrev pub new_texts : List (List ℕ) → List (List ℕ) → List (List ℕ)
new_texts others [] = []
new_texts others (text ∷ texts) = new_text others text ++ new_texts (others ++ new_text others text) texts

-- the names that the lines say to open, each once, where it comes first, the first 64 of them
abbrev pub open_tables : List (List ℕ) → List (List ℕ)
open_tables lines = take 64 (new_texts [] (filter_map opened lines))
