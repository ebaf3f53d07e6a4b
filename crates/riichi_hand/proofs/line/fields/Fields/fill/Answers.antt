use Rattle.std.proofs.Common.{rules, ◌≡◌, ◌<◌, Bool, length, ◌∙◌, [], ◌∷◌, ◌++◌, map, List, ℕ, Option, Some, None, true, false, ap, sym, refl, subst, append_assoc}
use Rattle.std.specs.Prelude.{is_some, not, option_map, if◌then◌else◌}
use Rattle.std.specs.List.{list_any}
use Rattle.std.proofs.lemmas.List.{append-nil, map-append}
use Rattle.riichi_hand.specs.declared.line.key.Key.{Key}
use Rattle.riichi_hand.specs.Words.{words_of, from_words, word_of}
use Rattle.riichi_hand.specs.Keys.{value_for_key}
use Rattle.riichi_hand.specs.declared.fault.LineCode.TheVariants.{H4, H5}
use Rattle.riichi_hand.specs.Faults.{coded, first_fault}
use Rattle.riichi_hand.specs.Entries.{is_entry, is_bad, Entries, entries_of, Holds}
use Rattle.riichi_hand.specs.Places.{or_other, bad_from, has_doubled, doubled_from, entry_from}
use Rattle.riichi_hand.proofs.FieldLemmas.{entries_of-last}
use Rattle.riichi_hand.proofs.WordLemmas.{from_words-begins}
use Rattle.riichi_hand.proofs.PlaceLemmas.{no_mark, marked, first_at-last, any_bad, bad_from-here, entry_from-none}
use Rattle.riichi_hand.proofs.line.fields.Fields.fill.Goals as goal

pub loop-rest-init : goal.loop-rest-init
loop-rest-init c =
    let holds = c.requires c.args.words.now.job in (
      [],
      record {
        from = sym c.without_spaces-rest.ensures.from;
        good = refl;
        holds = holds;
        again = no_mark (λ from. from.now) c.args.self.now.at_fault holds.doubled;
        begins = c.without_spaces-rest.ensures.begins;
      },
    )

pub loop-rest-preserved : goal.loop-rest-preserved
loop-rest-preserved c =
    let so_far = c.loop-rest.invariant in
    let job = c.args.words.now.job in
    let first = c.in-Some.ensures in
    let text = c.loop-rest.rest.now in
    let word = word_of text in
    let froms = so_far.0 in
    let before = map word_of froms in
    let after = c.without_spaces-rest-in-loop-rest.result.now in
    let keyed : Key × List ℕ = (c.in-Some.entry.key, c.in-Some.entry.value.now) in
    let more : map word_of (froms ++ text ∷ []) ≡ before ++ word ∷ [] = map-append word_of froms (text ∷ []) in
    let here_from : from_words text ≡ text ∷ from_words after = first.1 ∙ ap (λ rest. text ∷ rest) (sym c.without_spaces-rest-in-loop-rest.ensures.from) in
    let from : from_words c.args.words.now.entries.now ≡ (froms ++ text ∷ []) ++ from_words after = so_far.1.from ∙ ap (λ rest. froms ++ rest) here_from ∙ sym (append_assoc froms (text ∷ []) (from_words after)) in
    let last = entries_of-last job before word keyed first.0 in
    let value : is_some (value_for_key keyed.0 keyed.1) ≡ true = sym c.put.ensures.answer ∙ c.if-not-put.false in
    let good : list_any (is_bad job) (before ++ word ∷ []) ≡ false = ap (λ (e : Entries). e.has_bad_word) last ∙ rw (so_far.1.good, value) refl in
    let Of : Entries → Type 0 = λ entries. Holds c.put.new.self entries in
    let holds : Holds c.put.new.self (entries_of job (before ++ word ∷ [])) = subst Of (sym last) (c.put.ensures.holds _ so_far.1.holds) in
    let mark = marked (λ from. from.now) c.loop-rest.self.at_fault c.loop-rest.rest c.put.new.self.at_fault (has_doubled job (before ++ word ∷ [])) c.put.ensures.from holds.doubled in
    let again : option_map (λ from. from.now) c.put.new.self.at_fault ≡ doubled_from job (froms ++ text ∷ []) =
    mark ∙ ap (λ (old : Option (List ℕ)). or_other old (if has_doubled job (before ++ word ∷ []) then Some text else None)) so_far.1.again ∙ sym (first_at-last (has_doubled job) [] froms text) in
    let OfWords : List (List ℕ) → Type 0 = λ ws. Holds c.put.new.self (entries_of job ws) in (
      froms ++ text ∷ [],
      record {
        from = from;
        good = ap (list_any (is_bad job)) more ∙ good;
        holds = subst OfWords (sym more) holds;
        again = again;
        begins = c.without_spaces-rest-in-loop-rest.ensures.begins;
      },
    )

-- a word that is no entry
pub returns-in_default-clause-step : goal.returns-in_default-clause-step
returns-in_default-clause-step c =
    let so_far = c.loop-rest.invariant.1 in
    let job = c.args.words.now.job in
    let froms = c.loop-rest.invariant.0 in
    let text = c.loop-rest.rest.now in
    let some : 0 < length text = search rules in
    let here = from_words-begins text some so_far.begins in
    let bad : is_bad job (word_of text) ≡ true = ap (λ (keyed : Option (Key × List ℕ)). not (is_entry keyed)) c.in_default.ensures in
    let any : list_any (is_bad job) (words_of c.args.words.now.entries.now) ≡ true =
    ap (λ all. list_any (is_bad job) (map word_of all)) (so_far.from ∙ ap (λ rest. froms ++ rest) here.1) ∙ any_bad job froms here.0 text bad in
    rw any refl

pub returns-in_default-clause-from : goal.returns-in_default-clause-from
returns-in_default-clause-from c =
    let so_far = c.loop-rest.invariant.1 in
    let job = c.args.words.now.job in
    let text = c.loop-rest.rest.now in
    let some : 0 < length text = search rules in
    let here = from_words-begins text some so_far.begins in
    let bad : is_bad job (word_of text) ≡ true = ap (λ (keyed : Option (Key × List ℕ)). not (is_entry keyed)) c.in_default.ensures in
    sym (ap (bad_from job) (so_far.from ∙ ap (λ rest. c.loop-rest.invariant.0 ++ rest) here.1) ∙ bad_from-here job c.loop-rest.invariant.0 here.0 text so_far.good bad)

-- a word with no value of its key
pub returns-then-not-put-clause-from : goal.returns-then-not-put-clause-from
returns-then-not-put-clause-from c =
    let so_far = c.loop-rest.invariant.1 in
    let job = c.args.words.now.job in
    let text = c.loop-rest.rest.now in
    let first = c.in-Some.ensures in
    let keyed : Key × List ℕ = (c.in-Some.entry.key, c.in-Some.entry.value.now) in
    let none : is_some (value_for_key keyed.0 keyed.1) ≡ false = sym c.put.ensures.answer ∙ c.if-not-put.true in
    let bad : is_bad job (word_of text) ≡ true = ap (λ (k : Option (Key × List ℕ)). not (is_entry k)) first.0 ∙ ap not none in
    sym (ap (bad_from job) (so_far.from ∙ ap (λ rest. c.loop-rest.invariant.0 ++ rest) first.1) ∙ bad_from-here job c.loop-rest.invariant.0 _ text so_far.good bad)

-- no word is left
all_words : (before words rest : List (List ℕ)) → words ≡ before ++ rest → rest ≡ [] → words ≡ before
all_words before words rest is none = is ∙ ap (λ r. before ++ r) none ∙ append-nil before

no_faults : (a b : Bool) → a ≡ false → b ≡ false → first_fault (coded H4 a ∷ coded H5 b ∷ []) ≡ None
no_faults a b none single = rw (none, single) refl

pub returns-clause-step : goal.returns-clause-step
returns-clause-step c =
    let so_far = c.loop-rest.invariant.1 in
    let job = c.args.words.now.job in
    let before = map word_of c.loop-rest.invariant.0 in
    let none : c.loop-rest.rest.now ≡ [] = search rules in
    let words : words_of c.args.words.now.entries.now ≡ before = ap (map word_of) (all_words c.loop-rest.invariant.0 _ _ so_far.from (ap from_words none)) in
    let Of : List (List ℕ) → Type 0 = λ ws. Holds c.loop-rest.self (entries_of job ws) in
    let holds = subst Of (sym words) so_far.holds in
    let single : is_some c.loop-rest.self.at_fault ≡ false = search rules in
    (no_faults _ _ (ap (list_any (is_bad job)) words ∙ so_far.good) (sym holds.doubled ∙ single), holds)

pub returns-clause-none : goal.returns-clause-none
returns-clause-none c fault =
    let so_far = c.loop-rest.invariant.1 in
    let job = c.args.words.now.job in
    let froms = c.loop-rest.invariant.0 in
    let none : c.loop-rest.rest.now ≡ [] = search rules in
    let all : from_words c.args.words.now.entries.now ≡ froms = all_words froms _ _ so_far.from (ap from_words none) in
    let single : is_some c.loop-rest.self.at_fault ≡ false = search rules in
    let mark = no_mark (λ from. from.now) c.loop-rest.self.at_fault single in
    mark ∙ sym (entry_from-none job froms fault so_far.good (sym so_far.again ∙ mark)) ∙ ap (entry_from job fault) (sym all)
