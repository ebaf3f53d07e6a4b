use Rattle.std.proofs.Common.{◌≡◌, ◌+◌, ◌≤◌, ◌<◌, ◌∙◌, ℕ, zero, suc, List, ◌++◌, Result, Ok, Err, length, take, ap, arith}
use Rattle.std.proofs.Math.Seq.{take-append_seam, take-append-add}
use Rattle.desk_io.specs.Calls.{found_ends}
use Rattle.std.proofs.lemmas.List.{take-append-le}
use borrow.Rule.Slice.PartMut.{put_mid, post_of}
use Rattle.desk_lines.proofs.stream.read_behind.Goals as goal

-- a read that gives some bytes found no end
ends_stay : {E : Type 0} (result : Result ℕ E) (new old count : ℕ) (buffer : List ℕ) → result ≡ Ok count → 0 < count → new ≡ old + found_ends result buffer → new ≡ old
ends_stay (Err error) new old count buffer is some ends = absurd (let no : ⊥ = cc in no)
ends_stay (Ok zero) new old count buffer is some ends = let none : 0 ≡ count = cc in absurd (omega (arith, none, some))
ends_stay (Ok (suc given)) new old count buffer is some ends = omega (arith, ends)

-- what is behind the first bytes of a room
behind : (held later buffer : List ℕ) (room count : ℕ) → count ≤ length buffer → take (length held + count) (put_mid (length held) room (held ++ later) buffer) ≡ held ++ take count buffer
behind held later buffer room count within =
    let rest = post_of (length held) room (held ++ later) in
    ap (λ front. take (length held + count) (front ++ (buffer ++ rest))) (take-append_seam held later)
    ∙ take-append-add held (buffer ++ rest) count ∙ ap (λ more. held ++ more) (take-append-le count buffer rest within)

pub returns-in-Ok-clause-read : goal.returns-in-Ok-clause-read
returns-in-Ok-clause-read g c =
    let held = c.args.held.now in
    let bytes = take c.in-Ok.count c.read.new.buffer in
    let bound : c.in-Ok.count ≤ length c.read.new.buffer = c.in-Ok.ensures.bound.0 in (
      omega arith,
      record {
        bytes = bytes;
        gives = record { appended = c.in-Ok.ensures.given; taken = c.in-Ok.ensures.left.0 };
        not_failed = let same = c.in-Ok.ensures.failures in omega arith;
        end = ends_stay c.read.result _ _ c.in-Ok.count _ c.in-Ok.is (omega arith) c.read.ensures.ends;
        text_is = rw c.copy_from_slice.ensures.after (behind held _ c.read.new.buffer _ c.in-Ok.count bound);
      },
    )
