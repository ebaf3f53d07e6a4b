-- What a question of a player is answered.
use Rattle.std.specs.Prelude.{◌≡◌, ℕ, List, [], Option, None, Some, codes, ◌⊎◌}
use Rattle.riichi_study.specs.Lines.{study_of}
use Rattle.desk_study.specs.Answers.{studied}
use Rattle.desk_study.specs.Tellers.{LineAsksTooMany}
use Rattle.desk_study.specs.declared.form.StudiesForm.TheVariants.{Objects}
use Rattle.riichi_desk_c.specs.Reasons.{IsPlaced}

-- the object that answers it, nothing where it asks nothing
abbrev pub object_in : Option (List ℕ) → List ℕ
object_in None = []
object_in (Some text) = text

abbrev pub study_object : List ℕ → List ℕ
study_object line = object_in (studied Objects None (study_of line))

-- or that a hand may come to more hands than so many, whose chances or whose worth are asked
pub record IsTooMany (most_chances most_worths : ℕ) (line text : List ℕ) : Type 0 where
  pub text_is : text ≡ codes "{\"answer\":\"refused\",\"code\":\"places\"}"
  pub many : LineAsksTooMany most_chances most_worths line

-- into the room was put one of these
abbrev pub PlacesStudied : List ℕ → ℕ → ℕ → ℕ → List ℕ → List ℕ → Type 0
PlacesStudied line most_chances most_worths needed before after = (text : List ℕ) × ((text ≡ study_object line) ⊎ IsTooMany most_chances most_worths line text) × IsPlaced text needed before after
