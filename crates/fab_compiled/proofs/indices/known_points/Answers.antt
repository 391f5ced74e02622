use Rattle.std.proofs.Common.{◌≡◌, ℕ, ◌+◌, ◌-◌, suc, sym, ◌∙◌, subst, arith}
use Rattle.fab_systems_laws.specs.Ternary.{Tern}
use Rattle.fab_solutions_laws.specs.fab_ternary_laws_Shown.{first_terns}
use Rattle.fab_compiled.specs.Terns.{seen}
use Rattle.fab_compiled.specs.inner.Indices.{IsNumberBelow}
use Rattle.fab_compiled.proofs.Numbered.{all_below, bit_below, none_below}
use Rattle.fab_compiled.proofs.indices.known_points.Goals as goal

pub loop-place-init : goal.loop-place-init
loop-place-init c = record {
  low = omega arith;
  so_far = none_below (λ k. seen c.args.view.now.terns.now c.args.view.now.leads.now (c.args.start + (c.args.count + k))) (c.args.count - c.args.count)
      c.args.above (omega arith);
}

pub loop-place-preserved : goal.loop-place-preserved
loop-place-preserved c =
    let at : ℕ → Tern = seen c.args.view.now.terns.now c.args.view.now.leads.now in
    let place = c.loop-place.place in
    let found = c.in_ok-number.ensures in
    let many : c.args.count - (place - 1) ≡ suc (c.args.count - place) = omega (arith, c.loop-place.invariant.low, c.loop-place-test.true) in
    record {
      low = omega (arith, c.loop-place.invariant.low);
      so_far = subst (λ (n : ℕ). IsNumberBelow (first_terns n (λ k. at (c.args.start + (place - 1 + k)))) c.args.above c.in_ok-number.number) (sym many)
          (bit_below at c.args.start place (place - 1) (c.args.count - place) c.args.above c.loop-place.number c.in_ok-number.number found.0
          (omega (arith, c.loop-place-test.true)) (sym c.at.ensures ∙ found.1) found.2 c.loop-place.invariant.so_far);
    }

pub returns : goal.returns
returns c =
    all_below (seen c.args.view.now.terns.now c.args.view.now.leads.now) c.args.start c.args.count c.loop-place.place c.args.above c.loop-place.number
    (omega (arith, c.loop-place-test.false)) c.loop-place.invariant.so_far
