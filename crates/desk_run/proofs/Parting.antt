-- One more seat of a new board.
use Rattle.std.proofs.Common.{◌≡◌, ℕ, ◌<◌, List, [], ◌∷◌, ◌++◌, length, sym, ◌∙◌, subst, ap, refl, ⊎_elim}
use mathlib.Core.Option.{some}
use lib.ListN.{get_elem?}
use Rattle.atomic_table.proofs.Lists.{at_longer, at_last}
use Rattle.atomic_table.specs.Seated.{TableId}
use Rattle.desk_run.specs.Parts.{IsNewTable, AreNewTables, IsNewWorker, AreNewWorkers}
use Rattle.desk_run.specs.SeatStates.{TableState, WorkerState}
use Rattle.desk_run.proofs.LanePlaces.{at_push}

pub more_tables : (id : TableId) (places n : ℕ) (ts us : List TableState) (t : TableState) → AreNewTables id places ts → length ts ≡ n → IsNewTable id places n t → us ≡ ts ++ t ∷ [] → AreNewTables id places us
more_tables id places n ts us t old many new e i u at = ⊎_elim (λ (h : (i < length ts) × (get_elem? ts i ≡ some u)). old i u h.1)
    (λ (h : (i ≡ length ts) × (t ≡ u)). subst (λ (m : ℕ). IsNewTable id places m u) (sym (h.0 ∙ many)) (subst (IsNewTable id places n) h.1 new))
    (at_push ts t u i (ap (λ (l : List TableState). get_elem? l i) (sym e) ∙ at))

pub more_workers : (id : TableId) (ts us : List WorkerState) (t : WorkerState) → AreNewWorkers id ts → IsNewWorker id t → us ≡ ts ++ t ∷ [] → AreNewWorkers id us
more_workers id ts us t old new e i u at = ⊎_elim (λ (h : (i < length ts) × (get_elem? ts i ≡ some u)). old i u h.1)
    (λ (h : (i ≡ length ts) × (t ≡ u)). subst (IsNewWorker id) h.1 new)
    (at_push ts t u i (ap (λ (l : List WorkerState). get_elem? l i) (sym e) ∙ at))

-- the seats that are left when the last one is taken away
pub fewer_workers : (id : TableId) (ts us : List WorkerState) (t : WorkerState) → AreNewWorkers id ts → ts ≡ us ++ t ∷ [] → AreNewWorkers id us
fewer_workers id ts us t new e i u at = new i u (ap (λ (l : List WorkerState). get_elem? l i) e ∙ at_longer us (t ∷ []) i u at)

pub last_worker : (id : TableId) (ts us : List WorkerState) (t : WorkerState) → AreNewWorkers id ts → ts ≡ us ++ t ∷ [] → IsNewWorker id t
last_worker id ts us t new e = new (length us) t (ap (λ (l : List WorkerState). get_elem? l (length us)) e ∙ at_last us t (length us) refl)

pub last_table : (id : TableId) (places : ℕ) (ts us : List TableState) (t : TableState) → AreNewTables id places ts → ts ≡ us ++ t ∷ [] → IsNewTable id places (length us) t
last_table id places ts us t new e = new (length us) t (ap (λ (l : List TableState). get_elem? l (length us)) e ∙ at_last us t (length us) refl)

pub fewer_tables : (id : TableId) (places : ℕ) (ts us : List TableState) (t : TableState) → AreNewTables id places ts → ts ≡ us ++ t ∷ [] → AreNewTables id places us
fewer_tables id places ts us t new e i u at = new i u (ap (λ (l : List TableState). get_elem? l i) e ∙ at_longer us (t ∷ []) i u at)
