-- What is known of what a point shows stays known where more is known of all points.
use Rattle.std.proofs.Common.{ℕ, ◌+◌, ◌-◌, ◌<◌, List, length, Option, Some, sym, subst, arith}
use Rattle.fab_systems_laws.specs.Ternary.{Tern, IsBelow}
use Rattle.fab_systems_laws.proofs.Order.{below_self}
use Rattle.fab_compiled.proofs.fab_solutions_laws_Orders.{under_at, through_grows}
use Rattle.fab_compiled.proofs.fab_equations_Numbering.{some_there}
use Rattle.fab_compiled.specs.declared.tree.Tree.{Tree}
use Rattle.fab_compiled.specs.Trees.{tree_value}
use Rattle.fab_compiled.specs.Leading.{PointTerns}
use Rattle.fab_compiled.proofs.TreesGrow.{tree_grows}
use Rattle.fab_network.specs.declared.network.Source.{Source}
use Rattle.fab_network.specs.declared.network.Drive.{Drive}
use Rattle.fab_network.specs.declared.network.Drive.TheVariants.{Given, Flop, Same, Value, Hold}
use Rattle.fab_network.specs.Network.{tern_in, source_tern, drive_tern, shown_tern, IsFitSource, IsFitDrive, AreFit}

module _ (trees : List Tree) (count : ℕ) (t u : PointTerns) (grow : (point : ℕ) → point < count → IsBelow (t point) (u point)) where
  pub source_grows : (source : Source) → IsFitSource trees count source → IsBelow (source_tern trees t source) (source_tern trees u source)
  source_grows source fit =
      subst (λ (o : Option Tree). IsBelow (tern_in o t source.first source.bit) (tern_in o u source.first source.bit)) (sym fit.is)
      (under_at (tree_value (λ place. t (source.first + place)) fit.tree) (tree_value (λ place. u (source.first + place)) fit.tree)
      (tree_grows (count - source.first) (λ place. t (source.first + place)) (λ place. u (source.first + place))
      (λ k l. grow (source.first + k) (omega (arith, fit.begins))) fit.tree fit.made fit.inside) source.bit)

  drive_grows : (held : Tern) (point : ℕ) → point < count → (drive : Drive) → IsFitDrive trees count drive →
      IsBelow (drive_tern trees held t point (Some drive)) (drive_tern trees held u point (Some drive))
  drive_grows held point within Given fit = grow point within
  drive_grows held point within (Flop clock next) fit = grow point within
  drive_grows held point within (Same other) fit = grow other fit
  drive_grows held point within (Value source) fit = source_grows source fit
  drive_grows held point within (Hold gate latched) fit =
      through_grows (source_tern trees t gate) (source_tern trees t latched) held (source_tern trees u gate) (source_tern trees u latched) held
      (source_grows gate fit.0) (source_grows latched fit.1) (below_self held)

pub shown_grows : (trees : List Tree) (drives : List Drive) → AreFit trees drives → (t u : PointTerns) → ((point : ℕ) → point < length drives → IsBelow (t point) (u point)) →
    (held : Tern) (point : ℕ) → point < length drives → IsBelow (shown_tern trees drives held t point) (shown_tern trees drives held u point)
shown_grows trees drives fit t u grow held point within =
    let there = some_there drives point within in
    subst (λ (o : Option Drive). IsBelow (drive_tern trees held t point o) (drive_tern trees held u point o)) (sym there.1)
    (drive_grows trees (length drives) t u grow held point within there.0 (fit point there.0 there.1))
