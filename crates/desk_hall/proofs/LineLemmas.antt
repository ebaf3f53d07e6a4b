-- A line of a book, cut from its text.
use Rattle.std.proofs.Common.{◌≡◌, ℕ, List, [], ◌∷◌, ◌++◌, Bool, true, false, nat_eq, Option, None, Some, refl, sym, subst, ap, ◌∙◌, append_assoc}
use Rattle.std.specs.Prelude.{◌&&◌, ◌||◌, not}
use Rattle.riichi_tiles.specs.Melds.{in_front, cut_at}
use Rattle.riichi_tiles.proofs.CutLemmas.{Joins, cut_joins}
use Rattle.desk_hall.specs.Deals.{Deal, gone_words, is_one_line, says_gone, is_book_deal, line_of, ended, IsDealOf}
use Rattle.desk_hall.specs.Playing.{IsNextDeal}

abbrev first_of : Option (List ℕ × List ℕ) → List ℕ
first_of None = []
first_of (Some cut) = cut.0

-- no line feed before the first one
plain_front : (byte : ℕ) (cut : Option (List ℕ × List ℕ)) (line after : List ℕ) → nat_eq byte 10 ≡ false → ((front rest : List ℕ) → cut ≡ Some (front, rest) → is_one_line front ≡ true)
    → in_front byte cut ≡ Some (line, after) → is_one_line line ≡ true
plain_front byte None line after other plain is = absurd (cc)
plain_front byte (Some cut) line after other plain is =
    let line_is : byte ∷ cut.0 ≡ line = ap first_of is in
    subst (λ (l : List ℕ). is_one_line l ≡ true) line_is (rw other (plain cut.0 cut.1 refl))

cut_by : (byte : ℕ) (bytes line after : List ℕ) (here : Bool) → nat_eq byte 10 ≡ here → ((front rest : List ℕ) → cut_at 10 bytes ≡ Some (front, rest) → is_one_line front ≡ true)
    → cut_at 10 (byte ∷ bytes) ≡ Some (line, after) → is_one_line line ≡ true
cut_by byte bytes line after true is plain cut = let found : Some ([], bytes) ≡ Some (line, after) = rw is at cut in subst (λ (l : List ℕ). is_one_line l ≡ true) (ap first_of found) refl
cut_by byte bytes line after false is plain cut = let found : in_front byte (cut_at 10 bytes) ≡ Some (line, after) = rw is at cut in plain_front byte (cut_at 10 bytes) line after is plain found

pub cut_plain : (text line after : List ℕ) → cut_at 10 text ≡ Some (line, after) → is_one_line line ≡ true
cut_plain [] line after cut = absurd (cc)
cut_plain (byte ∷ bytes) line after cut = cut_by byte bytes line after (nat_eq byte 10) refl (cut_plain bytes) cut

pub cut_parts : (text line after : List ℕ) → cut_at 10 text ≡ Some (line, after) → text ≡ line ++ 10 ∷ after
unfolding Joins
cut_parts text line after cut = subst (λ (c : Option (List ℕ × List ℕ)). Joins 10 text c) cut (cut_joins 10 text)

-- without the words before it the line of a deal is one line too
one_line_of : (line : List ℕ) (is : Bool) → (let deal : Deal = record { line = line; is_withdrawn = is } in is_one_line (line_of deal) ≡ true) → is_one_line line ≡ true
unfolding gone_words
one_line_of line true plain = plain
one_line_of line false plain = plain

pub kept_so : (deal : Deal) → is_one_line (line_of deal) ≡ true → (deal.is_withdrawn || not (says_gone deal.line)) ≡ true → is_book_deal deal ≡ true
unfolding is_book_deal
kept_so deal plain so = ap (λ (b : Bool). b && (deal.is_withdrawn || not (says_gone deal.line))) (one_line_of deal.line deal.is_withdrawn plain) ∙ so

pub next_is : (text line after : List ℕ) (deal : Deal) → cut_at 10 text ≡ Some (line, after) → IsDealOf line deal → IsNextDeal text deal after
next_is text line after deal cut is = record {
  parts = cut_parts text line after cut ∙ sym (append_assoc line (10 ∷ []) after) ∙ ap (λ (l : List ℕ). ended l ++ after) (sym is.line_is);
  kept = kept_so deal (subst (λ (l : List ℕ). is_one_line l ≡ true) (sym is.line_is) (cut_plain text line after cut)) is.live_so;
}
