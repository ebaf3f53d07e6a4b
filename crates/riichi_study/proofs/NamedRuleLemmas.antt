-- The rules that a text is read as are those that it names.
use Rattle.std.proofs.Common.{◌≡◌, ℕ, zero, suc, ◌≤◌, Bool, true, false, inl, inr, List, [], ◌∷◌, ◌++◌, Option, None, Some, length, map, refl, sym, ap, ◌∙◌, arith, length-append}
use Rattle.std.proofs.lemmas.Bool.{eqb-true}
use Rattle.std.proofs.lemmas.Bool.Decides.{nat_tests}
use Rattle.std.specs.Prelude.{◌==◌, if◌then◌else◌}
use Rattle.std.specs.List.{flat_map}
use Rattle.riichi_hand.specs.Rules.{Rules, every_switch, switch_word, with_switch}
use Rattle.riichi_hand.specs.RulesText.{Change, First, NamesRules, Profile, Second, change_text, profile_number, profile_rules, with_changes}
use Rattle.riichi_hand.specs.RulesWords.{sign}
use Rattle.riichi_hand.specs.declared.switch.Switch.{Switch}
use Rattle.riichi_hand.specs.declared.switch.Switch.TheVariants as switch
use Rattle.riichi_tiles.proofs.Members.{IsIn, in-left, in-map, in-right}
use Rattle.riichi_study.specs.NamedRules.{behind_front, change_to, changed_by, every_change, first_way, or_else, read_behind, rules_named}

-- ---- what stands behind a front

pub front_is : (front text behind : List ℕ) → behind_front front text ≡ Some behind → text ≡ front ++ behind
front_is [] text behind e = cc
front_is (byte ∷ front) [] behind e = absurd (cc)
front_is (byte ∷ front) (first ∷ text) behind e = by_test (byte == first) refl (front_is front text behind) e
  where
    by_test : (t : Bool) → (byte == first) ≡ t → (behind_front front text ≡ Some behind → text ≡ front ++ behind) → (if t then behind_front front text else None) ≡ Some behind → first ∷ text ≡ byte ∷ front ++ behind
    by_test true same later e = let is : byte ≡ first = eqb-true byte first same in let rest = later e in cc
    by_test false same later e = absurd (cc)

same_byte : (byte : ℕ) → (byte == byte) ≡ true
same_byte byte = grind (arith, nat_tests)

pub front_there : (front behind : List ℕ) → behind_front front (front ++ behind) ≡ Some behind
front_there [] behind = refl
front_there (byte ∷ front) behind = ap (λ t. if t then behind_front front (front ++ behind) else None) (same_byte byte) ∙ front_there front behind

-- ---- a way that leads to rules

-- the first way that leads to rules is one of them
way_is : {X : Type 0} (way : X → Option Rules) (xs : List X) (rules : Rules) → first_way way xs ≡ Some rules → (x : X) × (way x ≡ Some rules)
way_is way [] rules e = absurd (cc)
way_is way (x ∷ xs) rules e = by_first (way x) refl (way_is way xs rules) e
  where
    by_first : (found : Option Rules) → way x ≡ found → (first_way way xs ≡ Some rules → (one : _) × (way one ≡ Some rules)) → or_else found (first_way way xs) ≡ Some rules → (one : _) × (way one ≡ Some rules)
    by_first None is later e = later e
    by_first (Some one) is later e = (x, is ∙ e)

-- where one leads to rules, the first does
way_there : {X : Type 0} (way : X → Option Rules) (xs : List X) (x : X) (rules : Rules) → IsIn x xs → way x ≡ Some rules → (first : Rules) × (first_way way xs ≡ Some first)
way_there way [] x rules here e = absurd here
way_there way (y ∷ ys) x rules (inl same) e = (rules, ap (λ found. or_else found (first_way way ys)) (ap way same ∙ e))
way_there way (y ∷ ys) x rules (inr later) e = by_first (way y) refl (way_there way ys x rules later e)
  where
    by_first : (found : Option Rules) → way y ≡ found → (first : Rules) × (first_way way ys ≡ Some first) → (first : Rules) × (or_else (way y) (first_way way ys) ≡ Some first)
    by_first None is there = (there.0, ap (λ found. or_else found (first_way way ys)) is ∙ there.1)
    by_first (Some one) is there = (one, ap (λ found. or_else found (first_way way ys)) is)

behind_is : (read : List ℕ → Option Rules) (found : Option (List ℕ)) (rules : Rules) → read_behind read found ≡ Some rules → (behind : List ℕ) × (found ≡ Some behind) × (read behind ≡ Some rules)
behind_is read None rules e = absurd (cc)
behind_is read (Some behind) rules e = (behind, refl, e)

-- ---- every change is one of them

each_switch : (which : Switch) → IsIn which every_switch
each_switch switch.RedFives = inl refl
each_switch switch.Raise = inr (inl refl)
each_switch switch.AddYakuman = inr (inr (inl refl))
each_switch switch.DoubleYakuman = inr (inr (inr (inl refl)))
each_switch switch.CountedYakuman = inr (inr (inr (inr (inl refl))))
each_switch switch.DoubleWindPair = inr (inr (inr (inr (inr (inl refl)))))
each_switch switch.KongDrawFu = inr (inr (inr (inr (inr (inr (inl refl))))))
each_switch switch.OpenSimples = inr (inr (inr (inr (inr (inr (inr (inl refl)))))))
each_switch switch.OpenPinfuFu = inr (inr (inr (inr (inr (inr (inr (inr (inl refl))))))))
each_switch switch.Ippatsu = inr (inr (inr (inr (inr (inr (inr (inr (inr (inl refl)))))))))
each_switch switch.Ura = inr (inr (inr (inr (inr (inr (inr (inr (inr (inr (inl refl))))))))))
each_switch switch.BlessingOfMan = inr (inr (inr (inr (inr (inr (inr (inr (inr (inr (inr (inl refl)))))))))))

by_sign : (on : Bool) (which : Switch) → IsIn (change_to on which) every_change
by_sign true which = in-left (change_to true which) (map (change_to true) every_switch) (map (change_to false) every_switch) (in-map (change_to true) which every_switch (each_switch which))
by_sign false which = in-right (change_to false which) (map (change_to true) every_switch) (map (change_to false) every_switch) (in-map (change_to false) which every_switch (each_switch which))

each_change : (change : Change) → IsIn change every_change
each_change change = by_sign change.is_on change.which

each_profile : (profile : Profile) → IsIn profile (First ∷ Second ∷ [])
each_profile First = inl refl
each_profile Second = inr (inl refl)

-- ---- changes that spell a text

-- what is read is spelled
record AreSpelled (rules changed : Rules) (text : List ℕ) : Type 0 where
  changes : List Change
  text_is : text ≡ flat_map change_text changes
  rules_are : changed ≡ with_changes rules changes

spelled : (most : ℕ) (rules changed : Rules) (text : List ℕ) → changed_by most rules text ≡ Some changed → AreSpelled rules changed text
unfolding changed_by
spelled most rules changed [] e = record { changes = []; text_is = refl; rules_are = cc }
spelled zero rules changed (byte ∷ text) e = absurd (cc)
spelled (suc most) rules changed (byte ∷ text) e =
    let way : Change → Option Rules = λ change. read_behind (changed_by most (with_switch change.which change.is_on rules)) (behind_front (change_text change) (byte ∷ text)) in
    let one = way_is way every_change changed e in
    let change : Change = one.0 in
    let behind = behind_is (changed_by most (with_switch change.which change.is_on rules)) (behind_front (change_text change) (byte ∷ text)) changed one.1 in
    let later = spelled most (with_switch change.which change.is_on rules) changed behind.0 behind.2 in
    record {
      changes = change ∷ later.changes;
      text_is = front_is (change_text change) (byte ∷ text) behind.0 behind.1 ∙ ap (λ rest. change_text change ++ rest) later.text_is;
      rules_are = later.rules_are;
    }

some_sign : (on : Bool) → length (sign on) ≡ 1
some_sign true = refl
some_sign false = refl

some_text : (change : Change) → 1 ≤ length (change_text change)
some_text change = omega (arith, length-append (sign change.is_on) (switch_word change.which), some_sign change.is_on)

-- what is spelled is read
reads : (changes : List Change) (most : ℕ) (rules : Rules) (text : List ℕ) → text ≡ flat_map change_text changes → length text ≤ most → (changed : Rules) × (changed_by most rules text ≡ Some changed)
unfolding changed_by
reads changes most rules [] e few = (rules, refl)
reads [] most rules (byte ∷ text) e few = absurd (cc)
reads (change ∷ changes) zero rules (byte ∷ text) e few = absurd (omega (arith, few))
reads (change ∷ changes) (suc most) rules (byte ∷ text) e few =
    let behind = flat_map change_text changes in
    let way : Change → Option Rules = λ one. read_behind (changed_by most (with_switch one.which one.is_on rules)) (behind_front (change_text one) (byte ∷ text)) in
    let rest_few : length behind ≤ most = omega (arith, few, ap length e, length-append (change_text change) behind, some_text change) in
    let later = reads changes most (with_switch change.which change.is_on rules) behind refl rest_few in
    let there : behind_front (change_text change) (byte ∷ text) ≡ Some behind = ap (behind_front (change_text change)) e ∙ front_there (change_text change) behind in
    way_there way every_change change later.0 (each_change change) (ap (read_behind (changed_by most (with_switch change.which change.is_on rules))) there ∙ later.1)

-- ---- a text

pub names : (text : List ℕ) (rules : Rules) → rules_named text ≡ Some rules → NamesRules text rules
unfolding rules_named
names text rules e =
    let way : Profile → Option Rules = λ profile. read_behind (changed_by (length text) (profile_rules profile)) (behind_front (profile_number profile) text) in
    let one = way_is way (First ∷ Second ∷ []) rules e in
    let profile : Profile = one.0 in
    let behind = behind_is (changed_by (length text) (profile_rules profile)) (behind_front (profile_number profile) text) rules one.1 in
    let later = spelled (length text) (profile_rules profile) rules behind.0 behind.2 in
    record {
      profile = profile;
      changes = later.changes;
      text_is = front_is (profile_number profile) text behind.0 behind.1 ∙ ap (λ rest. profile_number profile ++ rest) later.text_is;
      rules_are = later.rules_are;
    }

some_named : (text : List ℕ) (rules : Rules) → NamesRules text rules → (read : Rules) × (rules_named text ≡ Some read)
unfolding rules_named
some_named text rules names =
    let behind = flat_map change_text names.changes in
    let way : Profile → Option Rules = λ profile. read_behind (changed_by (length text) (profile_rules profile)) (behind_front (profile_number profile) text) in
    let few : length behind ≤ length text = omega (arith, ap length names.text_is, length-append (profile_number names.profile) behind) in
    let later = reads names.changes (length text) (profile_rules names.profile) behind refl few in
    let there : behind_front (profile_number names.profile) text ≡ Some behind = ap (behind_front (profile_number names.profile)) names.text_is ∙ front_there (profile_number names.profile) behind in
    way_there way (First ∷ Second ∷ []) names.profile later.0 (each_profile names.profile) (ap (read_behind (changed_by (length text) (profile_rules names.profile))) there ∙ later.1)

-- the rules that a text names are read, where all that it names are the same
pub named : (text : List ℕ) (rules : Rules) → NamesRules text rules → ((other : Rules) → NamesRules text other → rules ≡ other) → Some rules ≡ rules_named text
named text rules are only =
    let read = some_named text rules are in
    ap (λ (one : Rules). Some one) (only read.0 (names text read.0 read.1)) ∙ sym read.1

-- none are read, where it names none
pub none_named : (text : List ℕ) → ((rules : Rules) → NamesRules text rules → ⊥) → None ≡ rules_named text
none_named text none = by_read (rules_named text) refl
  where
    by_read : (read : Option Rules) → rules_named text ≡ read → None ≡ rules_named text
    by_read None e = sym e
    by_read (Some rules) e = absurd (none rules (names text rules e))
