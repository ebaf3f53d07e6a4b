-- The lines of a text whose reader is read once more.
use Rattle.std.proofs.Common.{◌≡◌, ◌∙◌, ◌+◌, ◌≤◌, ◌++◌, List, ℕ, Bool, true, false, ap, sym, subst, refl, inl, inr}
use Rattle.std.proofs.lemmas.List.{append-nil}
use Rattle.desk_io.specs.declared.source.Source.{Ghosts as OfSource}
use Rattle.desk_lines.specs.Lines.{cut_of, lines, last_line, ended_lines}
use Rattle.desk_lines.specs.Reading.{IsRead, with_end, AreToldAs, kept}
use Rattle.desk_lines.specs.Streams.{Gives, AreWhole}
use Rattle.desk_lines.proofs.CutLemmas.{ended_lines-more, kept_goes_on, kept-more, last_told}
use Rattle.desk_lines.proofs.StreamLemmas.{Gives-more}

pub told_more : (most : ℕ) → most + 2 ≤ 8194 → (text held bytes given : List ℕ) → held ≡ kept 8194 text → given ≡ held ++ bytes → AreToldAs most (ended_lines given) (ended_lines ((cut_of text).rest ++ bytes))
told_more most enough text held bytes given is given_is =
    subst (λ (all : List ℕ). AreToldAs most (ended_lines all) (ended_lines ((cut_of text).rest ++ bytes))) (sym (given_is ∙ ap (λ front. front ++ bytes) is)) (kept_goes_on most 8194 enough text bytes).tells

pub keeps_more : (most : ℕ) → most + 2 ≤ 8194 → (text held bytes given : List ℕ) → held ≡ kept 8194 text → given ≡ held ++ bytes → kept 8194 (text ++ bytes) ≡ kept 8194 given
keeps_more most enough text held bytes given is given_is = kept-more most 8194 enough text bytes ∙ ap (kept 8194) (ap (λ front. front ++ bytes) (sym is) ∙ sym given_is)

-- the whole lines of what the reader has given are those of the text and more, for which those stand that were cut now
module _ {R : Type 0} (source : OfSource R) (old mid new : R) (most : ℕ) (enough : most + 2 ≤ 8194) (text held given : List ℕ) where
  abbrev pub Whole : Type 0
  Whole = (all : List ℕ) × (whole later : List (List ℕ)) × Gives source old new all × AreWhole (source.is_ended new) all whole × (whole ≡ ended_lines text ++ later) × AreToldAs most (ended_lines given) later

  -- the reader has found its end
  pub at_end : Gives source old mid text → held ≡ kept 8194 text → IsRead source mid new held given true → Gives source old new text × AreToldAs most (ended_lines given) (last_line (cut_of text).rest)
  at_end gives is read = (
    subst (λ (all : List ℕ). Gives source old new all) (ap (λ bytes. text ++ bytes) read.end.0 ∙ append-nil text) (Gives-more source old mid new text read.bytes gives read.gives.appended read.gives.taken),
    subst (λ (all : List ℕ). AreToldAs most (ended_lines all) (last_line (cut_of text).rest)) (sym (read.text_is ∙ ap with_end is)) (last_told most 8194 enough text),
  )

  pub whole_lines : (is_end : Bool) → Gives source old mid text → held ≡ kept 8194 text → IsRead source mid new held given is_end → Whole
  whole_lines true gives is read = let end = at_end gives is read in (text, lines text, last_line (cut_of text).rest, end.0, inr (read.end.1, refl), refl, end.1)
  whole_lines false gives is read = (
    text ++ read.bytes,
    ended_lines (text ++ read.bytes),
    ended_lines ((cut_of text).rest ++ read.bytes),
    Gives-more source old mid new text read.bytes gives read.gives.appended read.gives.taken,
    inl refl,
    ended_lines-more text read.bytes,
    told_more most enough text held read.bytes given is read.text_is,
  )
