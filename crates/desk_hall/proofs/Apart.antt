-- Tables that know nothing of one another.
use Rattle.std.proofs.Common.{◌≡◌, ℕ, zero, suc, List, [], ◌∷◌, Bool, true, false, nat_eq, Option, None, Some, refl, sym, ap, ◌∙◌}
use Rattle.std.specs.Prelude.{option_map, slice_get}
use Rattle.std.specs.List.{cons_option}
use Rattle.desk_hall.proofs.Numbers.{both_next, zero_next, next_zero}
use Rattle.desk_hall.specs.Books.{Book}
use Rattle.desk_hall.specs.Histories.{Sent, next_book, book_after, books_by, sent_if, sent_to}
use Rattle.desk_hall.specs.Laws.{TablesAreApart}

abbrev book_if : {P : Type 0} → (P → List ℕ → Option P) → (P → P → Bool) → Bool → Sent → Option (Book P) → Option (Book P)
book_if reads same true sent book = option_map (λ b. next_book reads same b sent) book
book_if reads same false sent book = book

one_apart : {P : Type 0} (reads : P → List ℕ → Option P) (same : P → P → Bool) (at : ℕ) (sent : Sent) (books : List (Book P)) (table : ℕ)
    → slice_get (books_by reads same at sent books) table ≡ book_if reads same (nat_eq at table) sent (slice_get books table)
one_apart reads same at sent [] table = none (nat_eq at table)
  where
    none : (is : Bool) → None ≡ book_if reads same is sent None
    none true = refl
    none false = refl
one_apart reads same zero sent (book ∷ books) zero = refl
one_apart reads same zero sent (book ∷ books) (suc table) = ap (λ (b : Bool). book_if reads same b sent (slice_get books table)) (sym (zero_next table))
one_apart reads same (suc at) sent (book ∷ books) zero = ap (λ (b : Bool). book_if reads same b sent (Some book)) (sym (next_zero at))
one_apart reads same (suc at) sent (book ∷ books) (suc table) =
    one_apart reads same at sent books table ∙ ap (λ (b : Bool). book_if reads same b sent (slice_get books table)) (sym (both_next at table))

then_others : {P : Type 0} (reads : P → List ℕ → Option P) (same : P → P → Bool) (is : Bool) (sent : Sent) (others : List Sent) (book : Option (Book P))
    → option_map (λ b. book_after reads same b others) (book_if reads same is sent book) ≡ option_map (λ b. book_after reads same b (cons_option (sent_if is sent) others)) book
then_others reads same true sent others None = refl
then_others reads same true sent others (Some book) = refl
then_others reads same false sent others None = refl
then_others reads same false sent others (Some book) = refl

as_it_is : {P : Type 0} (reads : P → List ℕ → Option P) (same : P → P → Bool) (book : Option (Book P)) → book ≡ option_map (λ b. book_after reads same b []) book
as_it_is reads same None = refl
as_it_is reads same (Some book) = refl

pub tables_are_apart : {P : Type 0} (reads : P → List ℕ → Option P) (same : P → P → Bool) → TablesAreApart reads same
tables_are_apart reads same books [] table = as_it_is reads same (slice_get books table)
tables_are_apart {P} reads same books (posted ∷ others) table =
    let rest = sent_to table others in
    tables_are_apart reads same (books_by reads same posted.table posted.sent books) others table
    ∙ ap (λ (o : Option (Book P)). option_map (λ b. book_after reads same b rest) o) (one_apart reads same posted.table posted.sent books table)
    ∙ then_others reads same (nat_eq posted.table table) posted.sent rest (slice_get books table)
