use Rattle.std.proofs.Common.{ℕ, List, get_or, sym, ◌∙◌, subst, inl, inr, arith}
use Rattle.std.proofs.lemmas.Bool.{cases_eq}
use Rattle.std.proofs.lemmas.Grind.{get_or_default_zero}
use Rattle.fab_annealing.specs.inner.Standing.{IsTried}
use Rattle.fab_annealing.proofs.Falling.{falls_refl, falls_trans, still_both}
use Rattle.fab_annealing.proofs.descent.try_sites.Goals as goal

pub try_site-requires-clause-item : goal.try_site-requires-clause-item
try_site-requires-clause-item c = omega (arith, c.loop-site.invariant.falls.keeps.count, c.requires.item)

pub try_site-requires-clause-same_kind : goal.try_site-requires-clause-same_kind
try_site-requires-clause-same_kind c =
    (c.requires.sites c.loop-site.site-index 0 c.loop-site-test.true).1 ∙ sym (c.loop-site.invariant.falls.keeps.kinds c.args.item c.requires.item ∙ c.requires.kind)

pub loop-site-init : goal.loop-site-init
loop-site-init c = record { kept = c.requires.kept; falls = falls_refl c.args.board.now c.args.placement.now.sites.items; tried = λ e k low. absurd (omega (arith, low)) }

pub loop-site-preserved : goal.loop-site-preserved
loop-site-preserved c =
    let a = c.args.placement.now.sites.items in
    let b = c.loop-site.placement.sites.items in
    let d = c.try_site.new.placement.sites.items in
    let inv = c.loop-site.invariant in
    let step = c.in_ok-try_site.ensures in
    record {
      kept = step.kept;
      falls = falls_trans c.args.board.now a b d inv.falls step.falls;
      tried = λ e k low.
          let still = still_both c.args.board.now a b d inv.falls step.falls e in
          elim (cases_eq k c.loop-site.site-index) [
            | inl f ↦ subst (λ n. IsTried c.args.board.now d c.args.item (get_or c.args.sites.now n 0)) (sym f) (step.tried still.1)
            | inr n ↦ subst (λ (s : List ℕ). IsTried c.args.board.now s c.args.item (get_or c.args.sites.now k 0)) (sym still.2) (inv.tried still.0 k (omega arith))
          ];
    }

pub returns-clause-tried : goal.returns-clause-tried
returns-clause-tried c = λ e site among.
    subst (λ s. IsTried c.args.board.now c.loop-site.placement.sites.items c.args.item s) (sym (get_or_default_zero c.args.sites.now among.0 site among.1) ∙ among.2)
    (c.loop-site.invariant.tried e among.0 (omega (arith, among.1, c.loop-site-test.false)))
