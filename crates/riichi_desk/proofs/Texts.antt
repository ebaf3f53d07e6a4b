-- Texts that the words of the command line are.
use Rattle.std.proofs.Common.{◌≡◌, ◌∙◌, ◌+◌, ◌<◌, ℕ, List, [], ◌∷◌, ◌++◌, Option, None, Some, length, take, get_or, refl, sym, ap, append_assoc}
use Rattle.std.proofs.lemmas.List.{take_more}
use Rattle.std.proofs.lemmas.List.Concat.{flat_map-append}
use Rattle.std.specs.Prelude.{map}
use Rattle.std.specs.Borrow.{Bor}
use Rattle.std.specs.Io.KnownBytes.{Consumes, IsAtEnd}
use Rattle.std.specs.List.{flat_map}
use Rattle.desk_cli.specs.Requests.{texts}

with_nothing : (bytes : List ℕ) → bytes ++ [] ≡ bytes
with_nothing [] = refl
with_nothing (byte ∷ bytes) = ap (λ more. byte ∷ more) (with_nothing bytes)

-- a reader over memory that has nothing left gave all of it
pub whole_text : (left : Option (List ℕ)) (bytes text : List ℕ) → Consumes (Some bytes) left text → IsAtEnd left → text ≡ bytes
whole_text None bytes text taken end = absurd taken
whole_text (Some rest) bytes text taken end = sym (taken ∙ ap (λ more. text ++ more) end ∙ with_nothing text)

texts_more : (words : List (Bor (List ℕ))) (word : Bor (List ℕ)) → texts (words ++ word ∷ []) ≡ texts words ++ word.now ∷ []
texts_more [] word = refl
texts_more (first ∷ words) word = ap (λ more. first.now ∷ more) (texts_more words word)

-- one more word of a text that is put together of words
pub one_more_word : (put : List ℕ → List ℕ) (words : List (Bor (List ℕ))) (index : ℕ) (word : Bor (List ℕ)) → index < length words → word ≡ get_or words index word
    → flat_map put (texts (take (index + 1) words)) ≡ flat_map put (texts (take index words)) ++ put word.now
one_more_word put words index word within is =
    ap (λ front. flat_map put (texts front)) (take_more words index word within ∙ ap (λ last. take index words ++ last ∷ []) (sym is)) ∙ ap (flat_map put) (texts_more (take index words) word)
    ∙ flat_map-append put (texts (take index words)) (word.now ∷ []) ∙ ap (λ more. flat_map put (texts (take index words)) ++ more) (with_nothing (put word.now))
