-- Sources over places: what they have, and that their points are there. Both stay where trees are added.
use Rattle.std.proofs.Common.{◌≡◌, ℕ, ◌+◌, ◌-◌, ◌≤◌, List, length, Option, sym, ap, ◌∙◌, arith}
use Rattle.fab_syntax.specs.Plain.{PlainExpr, PlainModule}
use Rattle.fab_syntax.specs.Sound.{IsSound}
use Rattle.fab_meaning.specs.Points.{Path, Driver, outside, copy, bit_of, flop, hold}
use Rattle.fab_systems_laws.specs.Ternary.{Tern}
use Rattle.fab_ternary_laws.specs.Operators.{tern_at}
use Rattle.fab_ternary_laws.specs.Values.{tern_value}
use Rattle.fab_ternary_laws.specs.Shown.{tern_names}
use Rattle.fab_values.specs.Declarations.{declarations, bits_of}
use Rattle.fab_equations.specs.Instances.{Instance, points}
use Rattle.fab_equations.specs.Numbering.{IsInstanceOfNumber, points_before}
use Rattle.fab_equations.specs.Equations.{IsSource, SourceFits}
use Rattle.fab_equations.specs.declared.driver.Source.{Source as MeantSource}
use Rattle.fab_equations.proofs.Located.{points_within}
use Rattle.fab_compiled.specs.declared.tree.Tree.{Tree, Const, Bits, Pick', Cat', Not', And', Or', Xor', Equal', Minus', Cond'}
use Rattle.fab_compiled.specs.Trees.{tree_value, IsBelowPlace}
use Rattle.fab_compiled.specs.Values.{CompiledValues}
use Rattle.fab_network.specs.declared.network.Source.{Source}
use Rattle.fab_network.specs.declared.network.Drive.{Drive}
use Rattle.fab_network.specs.declared.network.Drive.TheVariants.{Given, Flop, Same, Value, Hold}
use Rattle.fab_network.specs.Network.{tern_in, IsFitSource, IsFitDrive}
use Rattle.fab_wiring.specs.Wiring.{IsSourceOf, IsDriveOf}
use Rattle.fab_wiring.specs.inner.Trees.{IsTreeFor, AreKept, IsMade, HasSource}

below_more : (a b : ℕ) → a ≤ b → (tree : Tree) → IsBelowPlace a tree → IsBelowPlace b tree
below_more a b l (Const bits) h = tt
below_more a b l (Bits first count) h = omega arith
below_more a b l (Pick' first width p index) h = (omega (arith, h.0), below_more a b l index h.1)
below_more a b l (Cat' p low width q high) h = (below_more a b l low h.0, below_more a b l high h.1)
below_more a b l (Not' p e) h = below_more a b l e h
below_more a b l (And' p e q f) h = (below_more a b l e h.0, below_more a b l f h.1)
below_more a b l (Or' p e q f) h = (below_more a b l e h.0, below_more a b l f h.1)
below_more a b l (Xor' p e q f) h = (below_more a b l e h.0, below_more a b l f h.1)
below_more a b l (Equal' width p e q f) h = (below_more a b l e h.0, below_more a b l f h.1)
below_more a b l (Minus' width p e q f) h = (below_more a b l e h.0, below_more a b l f h.1)
below_more a b l (Cond' p c q e r f) h = (below_more a b l c h.0, below_more a b l e h.1, below_more a b l f h.2)

-- ---- a source for the bit of an expression

module _ (text : List PlainModule) (sound : IsSound text) (values : CompiledValues) (trees : List Tree) (meant : MeantSource) (first tree : ℕ)
    (begins : (i : Instance) → IsInstanceOfNumber text meant.instance i → first ≡ points_before text meant.instance)
    (made : (i : Instance) → IsInstanceOfNumber text meant.instance i → IsTreeFor text trees i meant.expr tree) where
  abbrev source : Source
  source = record { tree = tree; first = first; bit = meant.bit }

  source_is : (path : Path) (e : PlainExpr) → IsSource text meant path e → IsSourceOf text trees path e meant.bit source
  source_is path e is =
      let for = made is.i is.instance_is in
      let compiled = for.compiled e is.expression in
      record {
        value = λ t s same.
            ap (λ (o : Option Tree). tern_in o s first meant.bit) for.is
            ∙ ap (λ (n : ℕ). tern_at (tree_value (λ place. s (n + place)) for.tree) meant.bit) (begins is.i is.instance_is)
            ∙ ap (λ (ts : List Tern). tern_at ts meant.bit) (values text sound meant.instance is.i is.instance_is t s same e for.tree compiled.0 compiled.1)
            ∙ ap (λ (x : Path). tern_at (tern_value (tern_names text t x) e) meant.bit) is.at;
      }

  source_fits : HasSource text meant → SourceFits text meant → IsFitSource trees (length (points text)) source
  source_fits there fits =
      let is = there.2 in
      let e = there.1 in
      let for = made is.i is.instance_is in
      let compiled = for.compiled e is.expression in
      let within = points_within text meant.instance is.i is.instance_is in
      let starts = begins is.i is.instance_is in
      record {
        tree = for.tree;
        is = for.is;
        made = compiled.1.made;
        within = omega (arith, (fits is.i e is.instance_is is.expression).1, compiled.1.is_wide, compiled.1.tree_wide);
        begins = omega (arith, within, starts);
        inside = below_more (bits_of (declarations is.i.here)) (length (points text) - first) (omega (arith, within, starts)) for.tree compiled.1.below;
      }

  pub source_made : HasSource text meant → SourceFits text meant → IsMade text trees meant source
  source_made there fits = record { value = source_is; fit = source_fits there fits }

-- ---- more trees

module _ (text : List PlainModule) (old new : List Tree) (kept : AreKept old new) (count : ℕ) where
  pub fit_stays : (source : Source) → IsFitSource old count source → IsFitSource new count source
  fit_stays source fit = record { tree = fit.tree; is = kept source.tree fit.tree fit.is; made = fit.made; within = fit.within; begins = fit.begins; inside = fit.inside }

  pub source_stays : (path : Path) (e : PlainExpr) (bit : ℕ) (source : Source) → IsFitSource old count source → IsSourceOf text old path e bit source →
      IsSourceOf text new path e bit source
  source_stays path e bit source fit of = record {
    value = λ t s same.
        ap (λ (o : Option Tree). tern_in o s source.first source.bit) (kept source.tree fit.tree fit.is ∙ sym fit.is)
        ∙ of.value t s same;
  }

  pub drive_fit_stays : (drive : Drive) → IsFitDrive old count drive → IsFitDrive new count drive
  drive_fit_stays Given fit = tt
  drive_fit_stays (Flop clock next) fit = fit_stays next fit
  drive_fit_stays (Same other) fit = fit
  drive_fit_stays (Value source) fit = fit_stays source fit
  drive_fit_stays (Hold gate latched) fit = (fit_stays gate fit.0, fit_stays latched fit.1)

  pub drive_stays : (d : Driver) (drive : Drive) → IsFitDrive old count drive → IsDriveOf text old d drive → IsDriveOf text new d drive
  drive_stays outside Given fit of = tt
  drive_stays (copy other) (Same n) fit of = of
  drive_stays (bit_of path e bit) (Value source) fit of = source_stays path e bit source fit of
  drive_stays (flop path clock e bit) (Flop kind source) fit of = (of.0, source_stays path e bit source fit of.1)
  drive_stays (hold path g e bit) (Hold opens latched) fit of = (source_stays path g 0 opens fit.0 of.0, source_stays path e bit latched fit.1 of.1)
  drive_stays d drive fit of = absurd of

pub made_stays : (text : List PlainModule) (old new : List Tree) → AreKept old new → (meant : MeantSource) (source : Source) →
    IsMade text old meant source → IsMade text new meant source
made_stays text old new kept meant source made = record {
  value = λ path e is. source_stays text old new kept (length (points text)) path e meant.bit source made.fit (made.value path e is);
  fit = fit_stays text old new kept (length (points text)) source made.fit;
}
