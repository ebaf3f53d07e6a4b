use Rattle.std.proofs.Common.{ℕ, List, [], ◌∷◌, ◌++◌, ap, ◌∙◌}
use Rattle.desk_script.specs.Asked.{asked_by, asked_from, asked_on, names_after, names_by}
use Rattle.desk_script.proofs.Scripts.{asked_from-append}
use Rattle.desk_script.proofs.OpenedTables.{names_after_are}
use Rattle.desk_script.proofs.laws.each_line_asks_of_the_tables_before_it.Goals as goal

pub returns : goal.returns
returns c = λ front rest line.
    let others = asked_from (names_by (names_after front) line) rest in
    (others, asked_from-append [] front (line ∷ rest) ∙ ap (λ (names : List (List ℕ)). asked_on front ++ asked_by names line ∷ others) (names_after_are front))
