-- What is kept of a text: the table of each instance's module is at hand.
use Rattle.std.proofs.Common.{◌≡◌, ℕ, ◌<◌, List, length, get_or, slice_get, Some, refl, sym, ap, ◌∙◌, arith}
use Rattle.std.specs.Borrow.{Bor}
use Rattle.std.proofs.lemmas.Option.{slice_get_within, slice_get_read}
use Rattle.fab_syntax.specs.declared.tree.Expr.{Expr}
use Rattle.fab_syntax.specs.Plain.{PlainModule}
use Rattle.fab_values.specs.Declarations.{declarations}
use Rattle.fab_equations.specs.Instances.{Instance, instances}
use Rattle.fab_equations.specs.Numbering.{IsInstanceOfNumber}
use Rattle.fab_equations.specs.inner.Placed.{IsPlaced, Keeps}
use Rattle.fab_equations.specs.declared.placed.PlacedInstance.{PlacedInstance}
use Rattle.fab_equations.specs.declared.tables.Table.{Table}
use Rattle.fab_equations.proofs.Numbering.{same_value, instances_stand}

module _ (text : List PlainModule) (tables : List Table) (exprs : List (Bor Expr)) (placed : List PlacedInstance) (count : ℕ) (keeps : Keeps text tables exprs placed count)
    (number : ℕ) (less : number < length (instances text)) (here : PlacedInstance) (read : here ≡ get_or placed number here) where
  pub is_placed : IsPlaced text number here
  is_placed = keeps.placed_are.1 number here (slice_get_read placed (length placed) number here refl (omega (arith, keeps.placed_are.0, less)) read)

  stands : slice_get text is_placed.i.number ≡ Some is_placed.i.here
  stands = (instances_stand text keeps.sound number is_placed.i is_placed.is).1

  pub module_kept : here.«module» < length tables
  module_kept = omega (arith, is_placed.of_module, keeps.tables_are.0, slice_get_within text is_placed.i.number is_placed.i.here stands)

  pub names_kept : (table : Table) → table ≡ get_or tables here.«module» table → (i : Instance) → IsInstanceOfNumber text number i → table.names ≡ declarations i.here
  names_kept table is i numbered =
      let same : is_placed.i ≡ i = same_value (slice_get (instances text) number) is_placed.i i is_placed.is numbered in
      let there : slice_get tables is_placed.i.number ≡ Some table =
      ap (slice_get tables) (sym is_placed.of_module) ∙ slice_get_read tables (length tables) here.«module» table refl module_kept is in
      (keeps.tables_are.1 is_placed.i.number is_placed.i.here table stands there).names ∙ ap (λ (j : Instance). declarations j.here) same

  pub number_kept : (i : Instance) → IsInstanceOfNumber text number i → here.«module» ≡ i.number
  number_kept i numbered =
      is_placed.of_module ∙ ap (λ (j : Instance). j.number) (same_value (slice_get (instances text) number) is_placed.i i is_placed.is numbered)
