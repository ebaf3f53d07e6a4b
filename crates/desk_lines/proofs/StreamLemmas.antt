-- One more read, and one more write.
use Rattle.std.proofs.Common.{◌≡◌, ◌≢◌, ℕ, List, [], ◌∷◌, ◌++◌, Result, Ok, Err, refl, sym, subst, ◌∙◌, ap, append_assoc, arith}
use Rattle.std.proofs.lemmas.List.{append-nil}
use Rattle.std.specs.Prelude.{IfErr, IsErrAnd}
use Rattle.std.specs.Io.KnownBytes.{Consumes}
use Rattle.std.proofs.KnownBytes.{Appends-nil, Appends-trans, Consumes-trans}
use Rattle.desk_io.specs.declared.source.Source.{Ghosts as OfSource}
use Rattle.desk_io.specs.declared.sink.Sink.{Ghosts as OfSink}
use Rattle.desk_lines.specs.Streams.{IsProperFront, WritesAll, StopsWriting, Gives}

pub Gives-more : {R : Type 0} (source : OfSource R) (old mid new : R) (text bytes : List ℕ) → Gives source old mid text
    → source.given new ≡ source.given mid ++ bytes → Consumes (source.left mid) (source.left new) bytes → Gives source old new (text ++ bytes)
Gives-more source old mid new text bytes gives more taken = record {
  appended = more ∙ ap (λ front. front ++ bytes) gives.appended ∙ append_assoc (source.given old) text bytes;
  taken = Consumes-trans (source.left old) (source.left mid) (source.left new) text bytes gives.taken taken;
}

pub IsProperFront-append : (before front text : List ℕ) → IsProperFront front text → IsProperFront (before ++ front) (before ++ text)
IsProperFront-append before front text is = (is.0, ap (λ all. before ++ all) is.1 ∙ sym (append_assoc before front is.0), is.2)

append-some : (rest more : List ℕ) → rest ≢ [] → rest ++ more ≢ []
append-some [] more some = absurd (some refl)
append-some (byte ∷ rest) more some = λ is. cc

pub IsProperFront-more : (front text more : List ℕ) → IsProperFront front text → IsProperFront front (text ++ more)
IsProperFront-more front text more is = (is.0 ++ more, ap (λ all. all ++ more) is.1 ∙ append_assoc front is.0 more, append-some is.0 more is.2)

module _ {W : Type 0} (sink : OfSink W) where
  pub WritesAll_nil : (writer : W) → WritesAll sink writer writer []
  WritesAll_nil writer = record {
    appended = sym (append-nil (sink.written writer));
    held = Appends-nil (sink.contents writer);
    not_failed = refl;
  }

  pub WritesAll-trans : (start old new : W) (text more : List ℕ) → WritesAll sink start old text → WritesAll sink old new more
      → WritesAll sink start new (text ++ more)
  WritesAll-trans start old new text more first then = record {
    appended = then.appended ∙ ap (λ all. all ++ more) first.appended ∙ append_assoc (sink.written start) text more;
    held = Appends-trans (sink.contents start) (sink.contents old) (sink.contents new) text more first.held then.held;
    not_failed = then.not_failed ∙ first.not_failed;
  }

  -- a text was written, and then the writing of more stopped
  pub StopsWriting-after : (start old new : W) (text more : List ℕ) → WritesAll sink start old text → StopsWriting sink old new more
      → StopsWriting sink start new (text ++ more)
  StopsWriting-after start old new text more first stops = record {
    front = text ++ stops.front;
    is_front = IsProperFront-append text stops.front more stops.is_front;
    appended = stops.appended ∙ ap (λ all. all ++ stops.front) first.appended ∙ append_assoc (sink.written start) text stops.front;
    held = Appends-trans (sink.contents start) (sink.contents old) (sink.contents new) text stops.front first.held stops.held;
    failed = let same = first.not_failed in let grew = stops.failed in omega arith;
  }

  -- the text that was to be written went on
  pub StopsWriting_more : (start new : W) (text more : List ℕ) → StopsWriting sink start new text → StopsWriting sink start new (text ++ more)
  StopsWriting_more start new text more stops = record {
    front = stops.front;
    is_front = IsProperFront-more stops.front text more stops.is_front;
    appended = stops.appended;
    held = stops.held;
    failed = stops.failed;
  }

-- what holds of an error, at the error
pub err_at : {T E : Type 0} (r : Result T E) (P : E → Type 0) → IfErr r P → (e : E) → r ≡ Err e → P e
err_at {T = T} {E = E} r P holds e is = subst (λ (s : Result T E). IfErr s P) is holds

-- the fault that is passed on is the one that is returned
pub passed_on : {T E : Type 0} (r : Result T E) (given fault : E) → IsErrAnd r (λ f. f ≡ given) → r ≡ Err fault → given ≡ fault
passed_on (Ok value) given fault passed is = absurd passed
passed_on (Err told) given fault passed is = let same : told ≡ fault = cc in sym passed ∙ same

pub ruleset replay_text_facts = (WritesAll_nil, StopsWriting_more)
