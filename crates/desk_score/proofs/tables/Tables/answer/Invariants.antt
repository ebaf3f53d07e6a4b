use Rattle.std.proofs.Common.{◌≡◌, ℕ, List, ◌++◌, map, option_map}
use Rattle.std.specs.Vec.Iter.{into_iter_items}
use Rattle.desk_score.specs.Score.{AllGive}
use Rattle.desk_score.specs.Tables.{AreAnswered}
use Rattle.desk_score.proofs.tables.Tables.answer.Given as goal

-- the readers so far gave their texts, to the end
abbrev pub invariant-loop-reader : goal.invariant-loop-reader
invariant-loop-reader g l =
    (texts : List (List ℕ)) × record {
      given : AllGive g.R.Source l.yielded texts;
      read : AreAnswered (option_map (λ names. map (λ name. name.now) names.now) l.fn.names) l.rules texts l.tables;
      parts : l.fn.readers.items ≡ l.yielded ++ into_iter_items l.reader-iterator;
    }
