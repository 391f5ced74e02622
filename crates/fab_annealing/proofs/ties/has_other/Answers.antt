use Rattle.std.proofs.Common.{◌≡◌, ℕ, List, length, get_or, sym, ◌∙◌, ap, subst, inl, inr, arith}
use Rattle.std.proofs.lemmas.Bool.{cases_eq}
use Rattle.std.proofs.lemmas.List.{get_or_default}
use Rattle.std.proofs.lemmas.List.Elements.{Contains-get_or}
use Rattle.std.specs.List.{Contains}
use Rattle.fab_annealing.specs.Measured.{items_of}
use Rattle.fab_annealing.proofs.Kept.{numbers_read}
use Rattle.fab_annealing.proofs.ties.has_other.Goals as goal

pub returns-then-other-item-clause-other : goal.returns-then-other-item-clause-other
returns-then-other-item-clause-other c = λ _.
    let items = c.deref-other-items.result.now in
    let is = c.deref-other-items.ensures.value ∙ numbers_read c.args.nets.now.items.items c.args.net c.index.result.now c.requires c.index.ensures in
    let other = get_or items c.loop-other.other-index 0 in
    (other, c.if-other-item.true, subst (λ (ns : List ℕ). Contains ns other) is (Contains-get_or items c.loop-other.other-index 0 c.loop-other-test.true))

pub loop-other-preserved : goal.loop-other-preserved
loop-other-preserved c = λ k low.
    let is = c.deref-other-items.ensures.value ∙ numbers_read c.args.nets.now.items.items c.args.net c.index.result.now c.requires c.index.ensures in
    elim (cases_eq k c.loop-other.other-index) [
      | inl e ↦ subst (λ m. get_or (items_of c.args.nets.now c.args.net) m 0 ≡ c.args.item) (sym e)
          (ap (λ (ns : List ℕ). get_or ns c.loop-other.other-index 0) (sym is) ∙ c.if-other-item.false)
      | inr n ↦ c.loop-other.invariant k (omega arith)
    ]

pub returns-clause-alone : goal.returns-clause-alone
returns-clause-alone c = λ _ k d low.
    let is = c.deref-other-items.ensures.value ∙ numbers_read c.args.nets.now.items.items c.args.net c.index.result.now c.requires c.index.ensures in
    get_or_default (items_of c.args.nets.now c.args.net) k d 0 low ∙ c.loop-other.invariant k (omega (arith, low, c.loop-other-test.false, ap length is))
