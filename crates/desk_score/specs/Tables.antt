-- What was read of the tables, and answered.
use Rattle.std.specs.Prelude.{◌≡◌, ◌↔◌, ℕ, List, length, Option, IsTrue}
use Rattle.riichi_hand.specs.Rules.{Rules}
use Rattle.desk_score.specs.declared.tables.Tables.{Tables}
use Rattle.desk_score.specs.Score.{score_by, score_report, score_slips, AreWithinLimit}

-- The lines of these texts were counted.
pub record AreCounted (given : Rules) (texts : List (List ℕ)) (tables : Tables) : Type 0 where
  pub count : tables.count ≡ length texts
  pub limit : IsTrue tables.within_limit ↔ AreWithinLimit given texts
  pub report : tables.report ≡ score_report given texts
  pub slips : tables.slips.items ≡ score_slips given texts

-- These texts were answered, of tables whose names may be told.
pub record AreAnswered (names : Option (List (List ℕ))) (given : Rules) (texts : List (List ℕ)) (tables : Tables) : Type 0 where
  pub told : tables.answers.text.items ≡ score_by names given texts
  pub counted : AreCounted given texts tables
