-- The names of the open tables are the first 64 that the lines say to open.
use Rattle.std.proofs.Math.Nat.{min-le_left}
use Rattle.std.proofs.Common.{◌≡◌, ◌≤◌, ◌<◌, ◌⊎◌, inl, inr, ℕ, ◌+◌, List, [], ◌∷◌, ◌++◌, length, ⊎_elim, refl, sym, ap, ◌∙◌, arith, length-append, append_assoc}
use Rattle.std.specs.Prelude.{take, position, Option, None, Some, nat_lt, Bool, true, false, if◌then◌else◌}
use Rattle.std.specs.List.{filter_map, cons_option}
use Rattle.std.specs.Str.{bytes_eq}
use Rattle.std.proofs.lemmas.Bool.{cases_lt, lt-ltb, le-ltb}
use Rattle.std.proofs.lemmas.List.{append-nil, length-take, length-take-le, take_all, take-append-le}
use Rattle.desk_script.specs.declared.action.Action.{Action}
use Rattle.desk_script.specs.declared.action.Action.TheVariants.{Open, Submit, Arrive, Close, Take, Withdraw}
use Rattle.desk_script.specs.Words.{is_blank}
use Rattle.desk_script.specs.Commands.{Said, command_of}
use Rattle.desk_script.specs.Asked.{names_after, names_by, names_for, names_from, names_of_command}
use Rattle.desk_script.specs.OpenTables.{name_to_open, new_at, new_text, new_texts, open_tables, opened, opened_by}

-- the names with one more, where it has no place among them and there are fewer than 64
abbrev with_name_at : List (List ℕ) → Option (List ℕ) → Option ℕ → List (List ℕ)
with_name_at names None place = names
with_name_at names (Some name) place = take 64 (names ++ new_at place name)

abbrev with_name : List (List ℕ) → Option (List ℕ) → List (List ℕ)
with_name names None = names
with_name names (Some name) = take 64 (names ++ new_text names name)

same_names : (names : List (List ℕ)) → length names ≤ 64 → names ≡ take 64 (names ++ [])
same_names names few = sym (ap (take 64) (append-nil names) ∙ take_all 64 names few)

one_more : (names : List (List ℕ)) (name : List ℕ) → length names ≤ 64 → (if nat_lt (length names) 64 then names ++ name ∷ [] else names) ≡ take 64 (names ++ name ∷ [])
one_more names name few = by (cases_lt (length names) 64) where
  by : (length names < 64) ⊎ (64 ≤ length names) → (if nat_lt (length names) 64 then names ++ name ∷ [] else names) ≡ take 64 (names ++ name ∷ [])
  by (inl room) = rw (lt-ltb (length names) 64 room) (sym (take_all 64 (names ++ name ∷ []) (omega (arith, room, length-append names (name ∷ [])))))
  by (inr full) = rw (le-ltb (length names) 64 full) (sym (take-append-le 64 names (name ∷ []) full ∙ take_all 64 names few))

names_for-is : (names : List (List ℕ)) (said : Said) (action : Action) (place : Option ℕ) → length names ≤ 64 → said.action ≡ action → names_for names said place ≡ with_name_at names (name_to_open said.name action) place
names_for-is names said Open (Some place) few is = same_names names few
names_for-is names said Open None few is = rw is (one_more names said.name few)
names_for-is names said Submit (Some place) few is = refl
names_for-is names said Submit None few is = rw is refl
names_for-is names said (Arrive seq) (Some place) few is = refl
names_for-is names said (Arrive seq) None few is = rw is refl
names_for-is names said Close (Some place) few is = refl
names_for-is names said Close None few is = rw is refl
names_for-is names said Take (Some place) few is = refl
names_for-is names said Take None few is = rw is refl
names_for-is names said (Withdraw seq) (Some place) few is = refl
names_for-is names said (Withdraw seq) None few is = rw is refl

at_its_place : (names : List (List ℕ)) (name : List ℕ) (action : Action) → with_name_at names (name_to_open name action) (position (bytes_eq name) names) ≡ with_name names (name_to_open name action)
at_its_place names name Open = refl
at_its_place names name Submit = refl
at_its_place names name (Arrive seq) = refl
at_its_place names name Close = refl
at_its_place names name Take = refl
at_its_place names name (Withdraw seq) = refl

of_command : (names : List (List ℕ)) (said : Option Said) → length names ≤ 64 → names_of_command names said ≡ with_name names (opened_by said)
of_command names None few = refl
of_command names (Some said) few = names_for-is names said said.action (position (bytes_eq said.name) names) few refl ∙ at_its_place names said.name said.action

of_line : (long blank : Bool) (names : List (List ℕ)) (said : Option Said) → length names ≤ 64
    → (if long then names else if blank then names else names_of_command names said) ≡ with_name names (if long then None else if blank then None else opened_by said)
of_line true blank names said few = refl
of_line false true names said few = refl
of_line false false names said few = of_command names said few

names_by-is : (names : List (List ℕ)) (line : List ℕ) → length names ≤ 64 → names_by names line ≡ with_name names (opened line)
unfolding names_by opened
names_by-is names line few = of_line (nat_lt 8192 (length line)) (is_blank line) names (command_of line) few

-- the first 64 of the names and the new ones among those that are said to open
abbrev all_names : List (List ℕ) → List (List ℕ) → List (List ℕ)
all_names names said = take 64 (names ++ new_texts names said)

-- once there are 64 names, no line adds one
when_full : (more : List (List ℕ)) (said : List (List ℕ)) → 64 ≤ length more → all_names (take 64 more) said ≡ take 64 (more ++ new_texts more said)
when_full more said full =
    let kept = take 64 more in
    let size : length kept ≡ 64 = length-take-le 64 more full in
    take-append-le 64 kept (new_texts kept said) (omega (arith, size)) ∙ take_all 64 kept (omega (arith, size)) ∙ sym (take-append-le 64 more (new_texts more said) full)

-- up to then each new one is added
with_room : (more : List (List ℕ)) (said : List (List ℕ)) → length more ≤ 64 → all_names (take 64 more) said ≡ take 64 (more ++ new_texts more said)
with_room more said few = ap (λ (names : List (List ℕ)). all_names names said) (take_all 64 more few)

all_names-taken : (more : List (List ℕ)) (said : List (List ℕ)) → all_names (take 64 more) said ≡ take 64 (more ++ new_texts more said)
all_names-taken more said = ⊎_elim (λ room. with_room more said (omega (arith, room))) (λ full. when_full more said full) (cases_lt (length more) 64)

all_names-next : (names : List (List ℕ)) (name : Option (List ℕ)) (said : List (List ℕ)) → all_names (with_name names name) said ≡ all_names names (cons_option name said)
all_names-next names None said = refl
all_names-next names (Some name) said =
    let new = new_text names name in
    all_names-taken (names ++ new) said ∙ ap (take 64) (append_assoc names new (new_texts (names ++ new) said))

few_with_name : (names : List (List ℕ)) (name : Option (List ℕ)) → length names ≤ 64 → length (with_name names name) ≤ 64
few_with_name names None few = few
few_with_name names (Some name) few = let size = length-take 64 (names ++ new_text names name) in omega (arith, size, min-le_left 64 (length (names ++ new_text names name)))

names_from-are : (names lines : List (List ℕ)) → length names ≤ 64 → names_from names lines ≡ all_names names (filter_map opened lines)
names_from-are names [] few = same_names names few
names_from-are names (line ∷ lines) few =
    let after = with_name names (opened line) in
    ap (λ (n : List (List ℕ)). names_from n lines) (names_by-is names line few) ∙ names_from-are after lines (few_with_name names (opened line) few)
    ∙ all_names-next names (opened line) (filter_map opened lines)

-- the tables that are open after some lines
pub names_after_are : (lines : List (List ℕ)) → names_after lines ≡ open_tables lines
names_after_are lines = names_from-are [] lines (omega arith)
