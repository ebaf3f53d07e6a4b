-- Sessions, table by table.
use Rattle.std.proofs.Common.{◌≡◌, ℕ, zero, suc, ◌+◌, ◌*◌, ◌≤◌, List, [], ◌∷◌, ◌++◌, length, take, drop, refl, ap, sym, ◌∙◌, subst, arith, add-one, IsPermutation}
use Rattle.std.specs.List.{range_with_len}
use Rattle.std.proofs.lemmas.List.{append-nil, take_all, drop_all, drop-append-le, take-append-le, length-take}
use Rattle.std.proofs.lemmas.List.FromFn.{length-range_with_len}
use Rattle.std.proofs.lemmas.List.Sorted.{length_permutation}
use Rattle.riichi_seats.specs.Seatings.{seated_in, IsSession, IsSeating, tables_of}
use Rattle.riichi_seats.specs.declared.table.Table.{Table}

-- four times as many players as tables sit at these
pub seats_of_tables : (tables : ℕ) (order : List ℕ) → length order ≡ 4 * tables → seated_in (tables_of order) ≡ order
seats_of_tables zero [] h = refl
seats_of_tables zero (a ∷ order) h = absurd (omega arith)
seats_of_tables (suc tables) [] h = absurd (omega arith)
seats_of_tables (suc tables) (a ∷ []) h = absurd (omega arith)
seats_of_tables (suc tables) (a ∷ b ∷ []) h = absurd (omega arith)
seats_of_tables (suc tables) (a ∷ b ∷ c ∷ []) h = absurd (omega arith)
seats_of_tables (suc tables) (a ∷ b ∷ c ∷ d ∷ order) h =
    ap (λ rest. a ∷ b ∷ c ∷ d ∷ rest) (seats_of_tables tables order (omega arith))

pub length_tables : (tables : ℕ) (order : List ℕ) → length order ≡ 4 * tables → length (tables_of order) ≡ tables
length_tables zero [] h = refl
length_tables zero (a ∷ order) h = absurd (omega arith)
length_tables (suc tables) [] h = absurd (omega arith)
length_tables (suc tables) (a ∷ []) h = absurd (omega arith)
length_tables (suc tables) (a ∷ b ∷ []) h = absurd (omega arith)
length_tables (suc tables) (a ∷ b ∷ c ∷ []) h = absurd (omega arith)
length_tables (suc tables) (a ∷ b ∷ c ∷ d ∷ order) h = ap suc (length_tables tables order (omega arith))

-- the tables of an order of all players are a session
pub session_by_order : (tables : ℕ) (order : List ℕ) → IsPermutation (range_with_len 0 (4 * tables)) order → IsSession tables (tables_of order)
session_by_order tables order h =
    let long : length order ≡ 4 * tables = length_permutation _ _ h ∙ length-range_with_len 0 (4 * tables) in
    let P : List ℕ → Type 0 = λ seats. IsPermutation (range_with_len 0 (4 * tables)) seats in
    subst P (sym (seats_of_tables tables order long)) h

pub session_length : (tables : ℕ) (order : List ℕ) → IsPermutation (range_with_len 0 (4 * tables)) order → length (tables_of order) ≡ tables
session_length tables order h = length_tables tables order (length_permutation _ _ h ∙ length-range_with_len 0 (4 * tables))

length_seats : (games : List Table) → length (seated_in games) ≡ 4 * length games
length_seats [] = refl
length_seats (game ∷ games) = omega (arith, length_seats games)

-- there are so many tables, since all players sit
enough : (tables : ℕ) (games : List Table) → IsSession tables (take tables games) → tables ≤ length games
enough tables games h = omega (arith, length_permutation _ _ h, length-range_with_len 0 (4 * tables), length_seats (take tables games), length-take tables games)

-- a session behind the others
session_behind : (tables sessions : ℕ) (games session : List Table) → length session ≡ tables → IsSession tables session
    → IsSeating tables sessions games → IsSeating tables (suc sessions) (games ++ session)
session_behind tables zero games session long here before =
    let P : List Table → Type 0 = λ games. IsSeating tables 1 (games ++ session) in
    let whole : take tables session ≡ session = take_all tables session (omega arith) in
    let none : drop tables session ≡ [] = drop_all tables session (omega arith) in
    subst P (sym before) (subst (IsSession tables) (sym whole) here, none)
session_behind tables (suc sessions) games session long here before =
    let many : tables ≤ length games = enough tables games before.0 in
    let first : take tables (games ++ session) ≡ take tables games = take-append-le tables games session many in
    let rest : drop tables (games ++ session) ≡ drop tables games ++ session = drop-append-le tables games session many in (
      subst (IsSession tables) (sym first) before.0,
      subst (IsSeating tables (suc sessions)) (sym rest) (session_behind tables sessions (drop tables games) session long here before.1),
    )

pub one_more : (tables sessions : ℕ) (order : List ℕ) (games after : List Table) → IsPermutation (range_with_len 0 (4 * tables)) order
    → after ≡ games ++ tables_of order → IsSeating tables sessions games → IsSeating tables (sessions + 1) after
one_more tables sessions order games after all pushed before =
    subst (λ n. IsSeating tables n after) (sym (add-one sessions))
    (subst (IsSeating tables (suc sessions)) (sym pushed)
    (session_behind tables sessions games (tables_of order) (session_length tables order all) (session_by_order tables order all) before))

-- what is put back into a list of the same length is the list
pub put_back : (n : ℕ) (new old : List ℕ) → n ≡ length old → length new ≡ length old → take n (new ++ drop (length new) old) ≡ new
put_back n new old whole same =
    let none : drop (length new) old ≡ [] = drop_all (length new) old (omega arith) in
    ap (λ rest. take n (new ++ rest)) none ∙ ap (take n) (append-nil new) ∙ take_all n new (omega arith)
