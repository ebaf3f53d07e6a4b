-- The names of a list, one after another.
use Rattle.std.proofs.Common.{◌≡◌, ℕ, List, [], ◌∷◌, Bool, Option, None, Some, refl, ap, ◌∙◌}
use Rattle.riichi_tiles.specs.Melds.{cut_at}
use Rattle.riichi_hand.specs.Words.{items_of}
use Rattle.riichi_hand.proofs.CutLemmas.{last_item, next_item}
use Rattle.riichi_table.specs.declared.player.ByPlayer.{ByPlayer}
use Rattle.riichi_game_text.specs.Names.{player_named}
use Rattle.riichi_game_text.specs.Listed.{with_all, with_another}

pub none_listed : (names : ByPlayer (List ℕ)) (items : List (List ℕ)) → with_all names items None ≡ None
none_listed names [] = refl
none_listed names (item ∷ items) = refl

-- a list is its first name and the names behind the first comma
pub first_listed : (names : ByPlayer (List ℕ)) (list name behind : List ℕ) (listed : ByPlayer Bool) → cut_at 44 list ≡ Some (name, behind)
    → with_all names (items_of list) (Some listed) ≡ with_all names (items_of behind) (with_another listed (player_named names name))
first_listed names list name behind listed cut = ap (λ items. with_all names items (Some listed)) (next_item list [] list name behind refl cut)

pub last_listed : (names : ByPlayer (List ℕ)) (list : List ℕ) (listed : ByPlayer Bool) → cut_at 44 list ≡ None
    → with_all names (items_of list) (Some listed) ≡ with_all names [] (with_another listed (player_named names list))
last_listed names list listed cut = ap (λ items. with_all names items (Some listed)) (last_item list [] list refl cut)

all_listed : (names : ByPlayer (List ℕ)) (listed : Option (ByPlayer Bool)) → with_all names [] listed ≡ listed
all_listed names None = refl
all_listed names (Some listed) = refl

pub last_alone : (names : ByPlayer (List ℕ)) (list : List ℕ) (listed : ByPlayer Bool) → cut_at 44 list ≡ None
    → with_all names (items_of list) (Some listed) ≡ with_another listed (player_named names list)
last_alone names list listed cut = last_listed names list listed cut ∙ all_listed names (with_another listed (player_named names list))

pub ruleset list_facts = (none_listed, first_listed, last_alone)
