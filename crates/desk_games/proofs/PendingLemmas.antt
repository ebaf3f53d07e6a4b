-- Lines of which the last stands in the room of texts.
use Rattle.std.proofs.Common.{◌≡◌, ℕ, List, [], ◌∷◌, ◌++◌, sym, ap, ◌∙◌, append_assoc}
use Rattle.std.proofs.lemmas.List.{append-nil}

-- the line is put, and the room is empty
pub line_put : (bytes text put cleared : List ℕ) → put ≡ bytes ++ (text ++ 10 ∷ []) → cleared ≡ [] → put ++ cleared ≡ (bytes ++ text) ++ 10 ∷ []
line_put bytes text put cleared is empty =
    ap (λ (rest : List ℕ). put ++ rest) empty ∙ append-nil put ∙ is ∙ sym (append_assoc bytes text (10 ∷ []))

-- the next line is written into the empty room
pub line_begun : (bytes text before written line : List ℕ) → bytes ++ text ≡ before ++ 10 ∷ [] → text ≡ [] → written ≡ text ++ line → bytes ++ written ≡ before ++ 10 ∷ line
line_begun bytes text before written line is empty begun =
    ap (λ (rest : List ℕ). bytes ++ rest) begun ∙ sym (append_assoc bytes text line) ∙ ap (λ (front : List ℕ). front ++ line) is
    ∙ append_assoc before (10 ∷ []) line

-- an answer behind its front is put with what stands below it
pub answer_put : (old bytes text put first front answer below : List ℕ) → first ≡ front ++ answer → bytes ++ text ≡ (old ++ first) ++ below → put ≡ bytes ++ (text ++ 10 ∷ [])
    → put ≡ old ++ ((front ++ (answer ++ below)) ++ 10 ∷ [])
answer_put old bytes text put first front answer below is pending told =
    told ∙ sym (append_assoc bytes text (10 ∷ [])) ∙ ap (λ (all : List ℕ). all ++ 10 ∷ []) (pending
    ∙ append_assoc old first below ∙ ap (λ (f : List ℕ). old ++ (f ++ below)) is ∙ ap (λ (rest : List ℕ). old ++ rest) (append_assoc front answer below))
    ∙ append_assoc old (front ++ (answer ++ below)) (10 ∷ [])

-- nothing stands below
pub nothing_below : (bytes : List ℕ) → bytes ≡ bytes ++ []
nothing_below bytes = sym (append-nil bytes)
