use Rattle.std.proofs.Common.{◌≡◌, List, map, length, take, ap, sym, ◌∙◌, refl, rules}
use Rattle.std.specs.Bool.{Decides}
use Rattle.std.proofs.Math.Seq.{take-append_seam}
use Rattle.std.proofs.lemmas.Bool.{false≢true}
use Rattle.std.proofs.lemmas.Bool.Decides.{Decides-and, Decides-eqb, Decides-like, same_from_decides}
use Rattle.std.proofs.lemmas.Slice.Eq.{slice_eq-Decides}
use Rattle.riichi_shape.specs.Equality.{discards_decide, discards_eq}
use Rattle.riichi_shape.specs.KeptDiscards.{all_copies, kept_of, in_fourteen_places, told}
use Rattle.riichi_shape.specs.declared.kept_discard.KeptDiscard.{KeptDiscard}
use Rattle.riichi_shape.specs.contracts.kept_discard.KeptDiscardPartialEq.TheImpl.{ghosts as kept}
use Rattle.riichi_shape.specs.contracts.discard_order.DiscardOrderPartialEq.TheImpl.{ghosts as orders}
use Rattle.riichi_shape.proofs.discard_list.DiscardListPartialEq.eq.Goals as goal

kept_decides : (a b : KeptDiscard) → Decides (kept.eq a b) (a ≡ b)
kept_decides a b = search rules

same_placed : (a b : List KeptDiscard) → in_fourteen_places a ≡ in_fourteen_places b → length a ≡ length b → a ≡ b
same_placed a b places lengths =
    sym (take-append_seam a _) ∙ ap (take (length a)) places ∙ ap (λ n. take n (in_fourteen_places b)) lengths ∙ take-append_seam b _

orders_decide : (a b : List KeptDiscard) → Decides (orders.eq a b) (a ≡ b)
orders_decide a b =
    Decides-like (orders.eq a b) (λ p. same_placed a b p.0 p.1) (λ e. (ap in_fourteen_places e, ap length e))
    (Decides-and _ _ (slice_eq-Decides kept_decides (in_fourteen_places a) (in_fourteen_places b) _ refl) (Decides-eqb (length a) (length b)))

pub returns-then-eq : goal.returns-then-eq
returns-then-eq c =
    let a = c.self.inside in
    let b = c.other.inside in
    let copies : a.copies ≡ b.copies = (slice_eq-Decides Decides-eqb a.copies b.copies c.eq.result c.eq.ensures).0 c.if-eq.true in
    let shown : a.order ≡ b.order → c.args.self.now ≡ c.args.other.now = λ e.
    sym c.self.view_is ∙ ap (λ k. map (told k) a.order) copies ∙ ap (map (told b.copies)) e ∙ c.other.view_is in
    let order : c.args.self.now ≡ c.args.other.now → a.order ≡ b.order = λ e.
    c.self.invariant.order_is ∙ ap (map kept_of) (c.self.view_is ∙ e ∙ sym c.other.view_is) ∙ sym c.other.invariant.order_is in
    same_from_decides c.eq-then-eq.result (discards_eq c.args.self.now c.args.other.now)
    (Decides-like c.eq-then-eq.result shown order (rw c.eq-then-eq.ensures (orders_decide a.order b.order)))
    (discards_decide c.args.self.now c.args.other.now)

pub returns-else-eq : goal.returns-else-eq
returns-else-eq c =
    let a = c.self.inside in
    let b = c.other.inside in
    let tested = slice_eq-Decides Decides-eqb a.copies b.copies c.eq.result c.eq.ensures in
    same_from_decides c.eq.result (discards_eq c.args.self.now c.args.other.now) (
      λ t. absurd (false≢true (sym c.if-eq.false ∙ t)),
      λ e. tested.1 (c.self.invariant.copies_are ∙ ap all_copies (c.self.view_is ∙ e ∙ sym c.other.view_is) ∙ sym c.other.invariant.copies_are),
    )
    (discards_decide c.args.self.now c.args.other.now)
