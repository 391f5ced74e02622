use Rattle.std.proofs.Common.{rules, ◌≡◌, ◌∙◌, ℕ, List, [], Some, is_some, ap, arith}
use Rattle.std.proofs.lemmas.Grind.{common_steps}
use Rattle.fab_fasm.specs.declared.feature.Feature.{Feature}
use Rattle.fab_features.specs.Design.{site_features, cell_features}
use Rattle.fab_features.specs.inner.Listing.{site_at}
use Rattle.fab_features.proofs.Pushed.{none_flat, more_flat, pushes_same, pushes_none}
use Rattle.fab_features.proofs.features.push_bels.Goals as goal
use Rattle.fab_features.proofs.features.push_bels.Goals.{in-Some+in_ok-push_cell, in_default}

pub loop-bel-init : goal.loop-bel-init
loop-bel-init c = none_flat c.args.features.now.items (λ bel. site_features c.args.lookup.now.packed.now c.args.lookup.now.implementation.now (site_at c.args.x c.args.y bel))

pub loop-bel-preserved : goal.loop-bel-preserved
loop-bel-preserved c =
    let l = c.loop-bel in
    let start = c.args.features.now.items in
    let site = site_at c.args.x c.args.y l.bel in
    let f : ℕ → List Feature = λ bel. site_features c.args.lookup.now.packed.now c.args.lookup.now.implementation.now (site_at c.args.x c.args.y bel) in
    let packed = c.args.lookup.now.packed.now in
    let resets : c.is_some-resets.result ≡ is_some packed.reset = first_of (search rules, grind (arith, common_steps)) in
    elim c.match-cell_on.branch [
      | in-Some+in_ok-push_cell w ↦
          rw w.features-is (more_flat start l.features.items w.push_cell.new.features.items f l.bel l.invariant
          (pushes_same l.features.items w.push_cell.new.features.items _ (f l.bel) (ap (λ r. cell_features r site (Some w.in-Some.cell.now)) resets ∙ ap (cell_features (is_some packed.reset) site) w.in-Some.ensures) w.in_ok-push_cell.ensures))
      | in_default w ↦
          rw w.features-is (more_flat start l.features.items l.features.items f l.bel l.invariant
          (pushes_same l.features.items l.features.items [] (f l.bel) (ap (cell_features (is_some packed.reset) site) w.in_default.ensures) (pushes_none l.features.items)))
    ]
