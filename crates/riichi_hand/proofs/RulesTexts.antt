-- What a text of rules can be read as.
use Rattle.std.proofs.Common.{◌≡◌, ◌≢◌, ◌∙◌, ◌+◌, ◌^◌, ◌<◌, ◌≤◌, inl, inr, ℕ, get_or, Bool, true, false, nat_eq, List, [], ◌∷◌, ◌++◌, Option, Some, length, refl, sym, ap, subst, arith, append_assoc, length-append}
use Rattle.std.specs.Prelude.{◌⊎◌, ◌&&◌, ◌||◌, codes, find, if◌then◌else◌}
use Rattle.std.specs.Bool.{beq}
use Rattle.std.specs.List.{flat_map, list_any}
use Rattle.std.proofs.lemmas.Bool.{cases_eq}
use Rattle.std.proofs.lemmas.Bool.Decides.{nat_tests}
use Rattle.riichi_hand.proofs.Switches.{same_switch, same_rules, with_this, with_other, with_switch_few}
use Rattle.riichi_hand.specs.Rules.{Rules, every_switch, first_profile, second_profile, switch_word, switch_number, is_on, with_switch}
use Rattle.riichi_hand.specs.declared.switch.TheConstants.Switch.{COUNT}
use Rattle.riichi_hand.specs.declared.switch.Switch.{Switch}
use Rattle.riichi_hand.specs.declared.switch.Switch.TheVariants as switch
use Rattle.riichi_hand.specs.RulesWords.{sign, change_words, changed_words, rules_words}
use Rattle.riichi_hand.specs.RulesText.{Profile, First, Second, profile_number, profile_rules, Change, change_text, rules_text, with_changes, NamesRules, ends_word, IsWrongAt}

-- ---- no word of a rule begins another one

abbrev begins : List ℕ → List ℕ → Bool
begins text [] = true
begins [] (byte ∷ bytes) = false
begins (first ∷ rest) (byte ∷ bytes) = nat_eq first byte && begins rest bytes

abbrev switch_at : List ℕ → Option Switch
switch_at text = find (λ which. begins text (switch_word which)) every_switch

word_at : (which : Switch) (rest : List ℕ) → switch_at (switch_word which ++ rest) ≡ Some which
word_at switch.RedFives rest = refl
word_at _ rest = refl

behind_same : (word rest other : List ℕ) → word ++ rest ≡ word ++ other → rest ≡ other
behind_same [] rest other same = same
behind_same (byte ∷ word) rest other same = behind_same word rest other (cc)

same_word : (a b : Switch) (rest other : List ℕ) → switch_word a ++ rest ≡ switch_word b ++ other → (a ≡ b) × (rest ≡ other)
same_word a b rest other same =
    let both : Some a ≡ Some b = sym (word_at a rest) ∙ ap switch_at same ∙ word_at b other in
    let is : a ≡ b = cc in
    (is, behind_same (switch_word b) rest other (ap (λ which. switch_word which ++ rest) (sym is) ∙ same))

-- ---- the changes behind a number

mark : Bool → ℕ
mark true = 43
mark false = 45

opened : (on : Bool) (which : Switch) (rest : List ℕ) → change_text (record { is_on = on; which = which }) ++ rest ≡ mark on ∷ (switch_word which ++ rest)
unfolding mark
opened true which rest = refl
opened false which rest = refl

signed : (on : Bool) (rest : List ℕ) → sign on ++ rest ≡ mark on ∷ rest
unfolding mark
signed true rest = refl
signed false rest = refl

same_mark : (on other : Bool) → mark on ≡ mark other → on ≡ other
unfolding mark
same_mark true true same = refl
same_mark true false same = absurd (omega arith)
same_mark false true same = absurd (omega arith)
same_mark false false same = refl

-- The text behind some changes is that of the later ones.
record AreLater (done more : List Change) (rest : List ℕ) : Type 0 where
  changes : List Change
  parts : more ≡ done ++ changes
  rest_is : rest ≡ flat_map change_text changes

later : (done more : List Change) (rest : List ℕ) → flat_map change_text done ++ rest ≡ flat_map change_text more → AreLater done more rest
later [] more rest same = record { changes = more; parts = refl; rest_is = same }
later (change ∷ done) [] rest same =
    let open_text = opened change.is_on change.which (flat_map change_text done ++ rest) in
    let whole : change_text change ++ (flat_map change_text done ++ rest) ≡ [] = sym (append_assoc (change_text change) (flat_map change_text done) rest) ∙ same in
    absurd (cc)
later (change ∷ done) (other ∷ more) rest same =
    let open_one = opened change.is_on change.which (flat_map change_text done ++ rest) in
    let open_other = opened other.is_on other.which (flat_map change_text more) in
    let whole : change_text change ++ (flat_map change_text done ++ rest) ≡ change_text other ++ flat_map change_text more = sym (append_assoc (change_text change) (flat_map change_text done) rest) ∙ same in
    let marks : mark change.is_on ≡ mark other.is_on = cc in
    let words : switch_word change.which ++ (flat_map change_text done ++ rest) ≡ switch_word other.which ++ flat_map change_text more = cc in
    let on = same_mark change.is_on other.is_on marks in
    let two = same_word change.which other.which (flat_map change_text done ++ rest) (flat_map change_text more) words in
    let is : other ≡ change = λ k. record { is_on = sym on k; which = sym two.0 k } in
    let behind = later done more rest two.1 in
    let all = behind.parts in
    record { changes = behind.changes; parts = cc; rest_is = behind.rest_is }

marked : (on : Bool) → (nat_eq (mark on) 43 || nat_eq (mark on) 45) ≡ true
unfolding mark
marked true = refl
marked false = refl

ends_changes : (changes : List Change) → ends_word (flat_map change_text changes) ≡ true
ends_changes [] = refl
ends_changes (change ∷ changes) = ap ends_word (opened change.is_on change.which (flat_map change_text changes)) ∙ marked change.is_on

-- ---- a text names one choice of rules

same_first : (byte first : ℕ) (rest other : List ℕ) → byte ∷ rest ≡ first ∷ other → byte ≡ first
same_first byte first rest other same = cc

same_profile : (a b : Profile) (rest other : List ℕ) → profile_number a ++ rest ≡ profile_number b ++ other → (a ≡ b) × (rest ≡ other)
same_profile First First rest other same = (refl, cc)
same_profile First Second rest other same = absurd (omega (arith, same_first 49 50 rest other same))
same_profile Second First rest other same = absurd (omega (arith, same_first 50 49 rest other same))
same_profile Second Second rest other same = (refl, cc)

no_text : (changes : List Change) → [] ≡ flat_map change_text changes → changes ≡ []
no_text [] same = refl
no_text (change ∷ changes) same = let open_text = opened change.is_on change.which (flat_map change_text changes) in absurd (cc)

with_none : (changes : List Change) → changes ++ [] ≡ changes
with_none [] = refl
with_none (change ∷ changes) = ap (λ more. change ∷ more) (with_none changes)

bytes_with_none : (bytes : List ℕ) → bytes ++ [] ≡ bytes
bytes_with_none [] = refl
bytes_with_none (byte ∷ bytes) = ap (λ more. byte ∷ more) (bytes_with_none bytes)

pub names_one : (text : List ℕ) (rules other : Rules) → NamesRules text rules → NamesRules text other → rules ≡ other
names_one text rules other names names_other =
    let two = same_profile names.profile names_other.profile _ _ (sym names.text_is ∙ names_other.text_is) in
    let behind = later names.changes names_other.changes [] (bytes_with_none (flat_map change_text names.changes) ∙ two.1) in
    let none = no_text behind.changes behind.rest_is in
    let changes : names_other.changes ≡ names.changes = behind.parts ∙ ap (λ more. names.changes ++ more) none ∙ with_none names.changes in
    names.rules_are ∙ ap (λ profile. with_changes (profile_rules profile) names.changes) two.0 ∙ ap (with_changes (profile_rules names_other.profile)) (sym changes) ∙ sym names_other.rules_are

-- a text that is wrong somewhere names none
pub wrong_names_none : (text : List ℕ) (place : ℕ) (rules : Rules) → IsWrongAt text place → NamesRules text rules → ⊥
wrong_names_none text place rules (inl lacks) names =
    let not = lacks.none names.profile (flat_map change_text names.changes) names.text_is in
    let ends = ends_changes names.changes in
    absurd (cc)
wrong_names_none text place rules (inr lacks) names =
    let front = profile_number lacks.profile in
    let changed = flat_map change_text lacks.changes in
    let whole : front ++ (changed ++ (sign lacks.is_on ++ lacks.rest)) ≡ profile_number names.profile ++ flat_map change_text names.changes
    = sym (append_assoc front changed (sign lacks.is_on ++ lacks.rest)) ∙ sym (append_assoc (front ++ changed) (sign lacks.is_on) lacks.rest) ∙ sym lacks.text_is ∙ names.text_is in
    let two = same_profile lacks.profile names.profile _ _ whole in
    let behind = later lacks.changes names.changes (sign lacks.is_on ++ lacks.rest) two.1 in
    at_change behind.changes lacks.is_on lacks.rest behind.rest_is lacks.none
  where
    at_change : (changes : List Change) (on : Bool) (rest : List ℕ) → sign on ++ rest ≡ flat_map change_text changes → ((which : Switch) (behind : List ℕ) → rest ≡ switch_word which ++ behind → ends_word behind ≡ false) → ⊥
    at_change [] on rest same none = let first = signed on rest in absurd (cc)
    at_change (change ∷ changes) on rest same none =
        let first = signed on rest in
        let open_text = opened change.is_on change.which (flat_map change_text changes) in
        let words : rest ≡ switch_word change.which ++ flat_map change_text changes = cc in
        let not = none change.which (flat_map change_text changes) words in
        let ends = ends_changes changes in
        absurd (cc)

-- ---- how far a text is read

-- The text is rules up to what is left of it.
pub record IsReadTo (text rest : List ℕ) (rules : Rules) : Type 0 where
  pub profile : Profile
  pub changes : List Change
  pub text_is : text ≡ rules_text profile changes ++ rest
  pub rules_are : rules ≡ with_changes (profile_rules profile) changes
  pub ends : ends_word rest ≡ true

pub begun : (text rest : List ℕ) (rules : Rules) (profile : Profile) → text ≡ profile_number profile ++ rest → ends_word rest ≡ true → rules ≡ profile_rules profile → IsReadTo text rest rules
begun text rest rules profile text_is ends rules_are =
    record { profile = profile; changes = []; text_is = text_is ∙ ap (λ number. number ++ rest) (sym (bytes_with_none (profile_number profile))); rules_are = rules_are; ends = ends }

sign_is : (byte : ℕ) → (nat_eq byte 43 || nat_eq byte 45) ≡ true → sign (nat_eq byte 43) ≡ byte ∷ []
sign_is byte is = grind arith

with_more : (rules : Rules) (changes : List Change) (change : Change) → with_changes rules (changes ++ change ∷ []) ≡ with_switch change.which change.is_on (with_changes rules changes)
with_more rules [] change = refl
with_more rules (first ∷ changes) change = with_more (with_switch first.which first.is_on rules) changes change

text_more : (changes : List Change) (change : Change) (rest : List ℕ) → flat_map change_text (changes ++ change ∷ []) ++ rest ≡ flat_map change_text changes ++ (change_text change ++ rest)
text_more [] change rest = ap (λ text. text ++ rest) (bytes_with_none (change_text change))
text_more (first ∷ changes) change rest =
    append_assoc (change_text first) (flat_map change_text (changes ++ change ∷ [])) rest ∙ ap (λ text. change_text first ++ text) (text_more changes change rest) ∙ sym (append_assoc (change_text first) (flat_map change_text changes) (change_text change ++ rest))

pub read_on : (text words behind : List ℕ) (byte : ℕ) (which : Switch) (rules : Rules) → IsReadTo text (byte ∷ words) rules → words ≡ switch_word which ++ behind → ends_word behind ≡ true → IsReadTo text behind (with_switch which (nat_eq byte 43) rules)
read_on text words behind byte which rules read words_are ends =
    let change : Change = record { is_on = nat_eq byte 43; which = which } in
    let number = profile_number read.profile in
    let signs = sign_is byte read.ends in
    let rest : byte ∷ words ≡ change_text change ++ behind
    = ap (λ text. byte ∷ text) words_are ∙ ap (λ front. front ++ (switch_word which ++ behind)) (sym signs) ∙ sym (append_assoc (sign (nat_eq byte 43)) (switch_word which) behind) in
    record {
      profile = read.profile;
      changes = read.changes ++ change ∷ [];
      text_is = read.text_is ∙ append_assoc number (flat_map change_text read.changes) (byte ∷ words) ∙ ap (λ text. number ++ (flat_map change_text read.changes ++ text)) rest ∙ ap (λ text. number ++ text) (sym (text_more read.changes change behind)) ∙ sym (append_assoc number (flat_map change_text (read.changes ++ change ∷ [])) behind);
      rules_are = ap (with_switch which (nat_eq byte 43)) read.rules_are ∙ sym (with_more (profile_rules read.profile) read.changes change);
      ends = ends;
    }

pub read_whole : (text : List ℕ) (rules : Rules) → IsReadTo text [] rules → NamesRules text rules
read_whole text rules read =
    record { profile = read.profile; changes = read.changes; text_is = read.text_is ∙ bytes_with_none (rules_text read.profile read.changes); rules_are = read.rules_are }

pub stops_at : (text words : List ℕ) (byte place : ℕ) (rules : Rules) → IsReadTo text (byte ∷ words) rules → ((which : Switch) (behind : List ℕ) → words ≡ switch_word which ++ behind → ends_word behind ≡ false) → place + length words ≡ length text → IsWrongAt text place
stops_at text words byte place rules read none at =
    let front = rules_text read.profile read.changes in
    let signs = sign_is byte read.ends in
    let text_is : text ≡ (front ++ sign (nat_eq byte 43)) ++ words
    = read.text_is ∙ ap (λ sign. front ++ (sign ++ words)) (sym signs) ∙ sym (append_assoc front (sign (nat_eq byte 43)) words) in
    inr (record {
      profile = read.profile;
      changes = read.changes;
      is_on = nat_eq byte 43;
      rest = words;
      text_is = text_is;
      place_is = omega (arith, at, ap length text_is, length-append (front ++ sign (nat_eq byte 43)) words);
      none = none;
    })

-- a word that is none of the table's is no word of a rule
pub each_word : (text : List ℕ) (index : ℕ) → COUNT ≤ index → ((k : ℕ) → k < index → (behind : List ℕ) → text ≡ switch_word (get_or every_switch k switch.RedFives) ++ behind → ends_word behind ≡ false)
    → (which : Switch) (behind : List ℕ) → text ≡ switch_word which ++ behind → ends_word behind ≡ false
each_word text index all none switch.RedFives behind same = none 0 (omega arith) behind same
each_word text index all none other behind same = none (switch_number other) (omega arith) behind same

-- ---- what is printed

changes_from : Rules → Rules → List Switch → List Change
changes_from profile rules [] = []
changes_from profile rules (which ∷ more) = if beq (is_on which rules) (is_on which profile) then changes_from profile rules more else record { is_on = is_on which rules; which = which } ∷ changes_from profile rules more

text_step : (same : Bool) (profile rules : Rules) (which : Switch) (more : List Switch) → flat_map (change_words profile rules) more ≡ flat_map change_text (changes_from profile rules more)
    → (if same then [] else sign (is_on which rules) ++ switch_word which) ++ flat_map (change_words profile rules) more
    ≡ flat_map change_text (if same then changes_from profile rules more else record { is_on = is_on which rules; which = which } ∷ changes_from profile rules more)
text_step true profile rules which more is = is
text_step false profile rules which more is = ap (λ text. (sign (is_on which rules) ++ switch_word which) ++ text) is

texts : (profile rules : Rules) (switches : List Switch) → flat_map (change_words profile rules) switches ≡ flat_map change_text (changes_from profile rules switches)
unfolding changes_from change_words
texts profile rules [] = refl
texts profile rules (which ∷ more) = text_step (beq (is_on which rules) (is_on which profile)) profile rules which more (texts profile rules more)

-- ---- a change that was made stays, and each one that is wanted is made

-- the next rule is turned where it is another than in the profile
step : Rules → Rules → Rules → Switch → Rules
step profile rules now which = if beq (is_on which rules) (is_on which profile) then now else with_switch which (is_on which rules) now

stepped : (profile rules now : Rules) (which : Switch) (more : List Switch)
    → with_changes now (changes_from profile rules (which ∷ more)) ≡ with_changes (step profile rules now which) (changes_from profile rules more)
unfolding changes_from step
stepped profile rules now which more = by (beq (is_on which rules) (is_on which profile))
  where
    by : (same : Bool) → with_changes now (if same then changes_from profile rules more else record { is_on = is_on which rules; which = which } ∷ changes_from profile rules more)
        ≡ with_changes (if same then now else with_switch which (is_on which rules) now) (changes_from profile rules more)
    by true = refl
    by false = refl

beq_same : (one other : Bool) → beq one other ≡ true → one ≡ other
beq_same true true same = refl
beq_same true false same = absurd (cc)
beq_same false true same = absurd (cc)
beq_same false false same = refl

-- of another rule nothing changes
step_other : (profile rules now : Rules) (which other : Switch) → other ≢ which → is_on other (step profile rules now which) ≡ is_on other now
unfolding step
step_other profile rules now which other apart = by (beq (is_on which rules) (is_on which profile))
  where
    by : (same : Bool) → is_on other (if same then now else with_switch which (is_on which rules) now) ≡ is_on other now
    by true = refl
    by false = with_other which other (is_on which rules) now apart

-- a rule that is still as in the profile, or already as it is to be, is as it is to be
step_this : (profile rules now : Rules) (which : Switch) → (is_on which now ≡ is_on which profile) ⊎ (is_on which now ≡ is_on which rules) → is_on which (step profile rules now which) ≡ is_on which rules
unfolding step
step_this profile rules now which so_far = by (beq (is_on which rules) (is_on which profile)) refl so_far
  where
    by : (same : Bool) → beq (is_on which rules) (is_on which profile) ≡ same → (is_on which now ≡ is_on which profile) ⊎ (is_on which now ≡ is_on which rules)
        → is_on which (if same then now else with_switch which (is_on which rules) now) ≡ is_on which rules
    by true is (inl as_in_profile) = as_in_profile ∙ sym (beq_same _ _ is)
    by true is (inr done) = done
    by false is so_far = with_this which (is_on which rules) now

done_stays : (profile rules now : Rules) (switches : List Switch) (which : Switch) → is_on which now ≡ is_on which rules → is_on which (with_changes now (changes_from profile rules switches)) ≡ is_on which rules
unfolding changes_from
done_stays profile rules now [] which done = done
done_stays profile rules now (next ∷ more) which done =
    ap (is_on which) (stepped profile rules now next more)
    ∙ done_stays profile rules (step profile rules now next) more which (elim (cases_eq (switch_number which) (switch_number next)) [
      | inl same ↦
          let is : which ≡ next = same_switch which next same in
          subst (λ (one : Switch). is_on which now ≡ is_on which rules → is_on which (step profile rules now one) ≡ is_on which rules) is (λ is_done. step_this profile rules now which (inr is_done)) done
      | inr apart ↦ step_other profile rules now next which (λ is. apart (ap switch_number is)) ∙ done
    ])

abbrev is_among : Switch → List Switch → Bool
is_among which switches = list_any (λ other. nat_eq (switch_number which) (switch_number other)) switches

all_done : (profile rules now : Rules) (switches : List Switch) (which : Switch) → is_among which switches ≡ true → is_on which now ≡ is_on which profile
    → is_on which (with_changes now (changes_from profile rules switches)) ≡ is_on which rules
all_done profile rules now [] which among as_in_profile = absurd (cc)
all_done profile rules now (next ∷ more) which among as_in_profile =
    ap (is_on which) (stepped profile rules now next more)
    ∙ elim (cases_eq (switch_number which) (switch_number next)) [
      | inl same ↦
          let is : which ≡ next = same_switch which next same in
          done_stays profile rules (step profile rules now next) more which
          (subst (λ (one : Switch). is_on which now ≡ is_on which profile → is_on which (step profile rules now one) ≡ is_on which rules) is (λ as_before. step_this profile rules now which (inl as_before)) as_in_profile)
      | inr apart ↦
          all_done profile rules (step profile rules now next) more which
          (later_among (switch_number which) (switch_number next) (is_among which more) apart among)
          (step_other profile rules now next which (λ is. apart (ap switch_number is)) ∙ as_in_profile)
    ]
  where
    later_among : (a b : ℕ) (more : Bool) → a ≢ b → (nat_eq a b || more) ≡ true → more ≡ true
    later_among a b more apart among = grind (arith, nat_tests)

each_among : (which : Switch) → is_among which every_switch ≡ true
each_among switch.RedFives = refl
each_among _ = refl

-- no more than the rules of the table
few_with : (rules : Rules) (changes : List Change) → rules < 2 ^ COUNT → with_changes rules changes < 2 ^ COUNT
few_with rules [] few = few
few_with rules (change ∷ changes) few = few_with (with_switch change.which change.is_on rules) changes (with_switch_few change.which change.is_on rules few)

all_turned : (profile rules : Rules) → profile < 2 ^ COUNT → rules < 2 ^ COUNT → with_changes profile (changes_from profile rules every_switch) ≡ rules
all_turned profile rules few low =
    let turned = with_changes profile (changes_from profile rules every_switch) in
    same_rules turned rules (few_with profile (changes_from profile rules every_switch) few) low (λ which. all_done profile rules profile every_switch which (each_among which) refl)

pub printed_names : (rules : Rules) → rules < 2 ^ COUNT → NamesRules (rules_words rules) rules
unfolding rules_words changed_words
printed_names rules low = by_number (is_on switch.RedFives rules && is_on switch.Raise rules)
  where
    few_in : (profile : Profile) → profile_rules profile < 2 ^ COUNT
    few_in First = omega arith
    few_in Second = omega arith

    from : (profile : Profile) → NamesRules (changed_words (profile_number profile) (profile_rules profile) rules) rules
    from profile = record {
      profile = profile;
      changes = changes_from (profile_rules profile) rules every_switch;
      text_is = ap (λ text. profile_number profile ++ text) (texts (profile_rules profile) rules every_switch);
      rules_are = sym (all_turned (profile_rules profile) rules (few_in profile) low);
    }

    by_number : (changed : Bool) → NamesRules (if changed then changed_words (codes "2") second_profile rules else changed_words (codes "1") first_profile rules) rules
    by_number true = from Second
    by_number false = from First
