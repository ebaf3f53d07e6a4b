-- What a hand is worth as the members of an object.
use Rattle.std.specs.Prelude.{ℕ, List, ◌++◌, codes, if◌then◌else◌, map}
use Rattle.riichi_hand.specs.Hand.{is_thirteen}
use Rattle.riichi_text.specs.Tiles.{kind_text}
use Rattle.riichi_shape.specs.EveryWinning.{shanten_of}
use Rattle.riichi_chances.specs.Draws.{unseen_of}
use Rattle.riichi_chances_text.specs.PointTexts.{points_members}
use Rattle.riichi_worth.specs.Worths.{best_worths, worth_of}
use Rattle.riichi_worth.specs.declared.discards.DiscardWorth.{DiscardWorth}
use Rattle.riichi_worth.specs.declared.worth.Worth.{Worth}
use Rattle.riichi_study.specs.ChanceTexts.{are_counted}
use Rattle.riichi_study.specs.WorthParts.{WorthParts}
use Rattle.desk_json.specs.Parts.{listed}
use Rattle.desk_study.specs.ChanceObjects.{front_json}

abbrev pub worth_name : List ℕ
worth_name = codes "\"answer\":\"worth\","

abbrev pub worth_members : Worth → List ℕ
worth_members worth = points_members worth.points worth.rest

abbrev pub worth_after_json : DiscardWorth → List ℕ
worth_after_json one = codes "{\"discard\":\"" ++ kind_text one.kind ++ codes "\"," ++ worth_members one.worth ++ codes "}"

-- each of some discards
abbrev pub each_worth_json : List DiscardWorth → List ℕ
each_worth_json each = listed (map worth_after_json each)

abbrev pub counted_worth_json : WorthParts → ℕ → List ℕ
counted_worth_json parts turns =
    if is_thirteen parts.hand.tiles parts.hand.melds then codes "true," ++ worth_members (worth_of parts.stakes parts.hand turns)
    else codes "true,\"discards\":[" ++ each_worth_json (best_worths parts.stakes parts.hand turns) ++ codes "]"

abbrev pub worth_answer_members : WorthParts → ℕ → List ℕ
worth_answer_members parts turns =
    front_json worth_name (shanten_of parts.hand.tiles parts.hand.melds) turns (unseen_of parts.hand) ++ (if are_counted parts.hand turns then counted_worth_json parts turns else codes "false") ++ codes "}"
