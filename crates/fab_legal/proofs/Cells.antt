-- Cells with their sites, and refusals.
use Rattle.std.proofs.Common.{◌≡◌, ℕ, List, Vec, Global, length, get_or, Option, Some, MatchOption, refl, sym, ap, ◌∙◌, subst}
use Rattle.fab_kinds.specs.declared.kind.Kind.TheVariants as kinds
use Rattle.fab_implementation.specs.fab_model.specs.Grid.{PlainFabric}
use Rattle.fab_implementation.specs.fab_fabric.specs.declared.wire.Site.{Site}
use Rattle.fab_implementation.specs.fab_netlist.specs.Packed.{PlainPacked}
use Rattle.fab_implementation.specs.Plain.{Pad, PlainImplementation}
use Rattle.fab_legal.specs.Turns.{AreRight, IsFirstWrongAt, IsFirstWrong}
use Rattle.fab_legal.specs.Lines.{IsRightLine, IsCell, CellsHaveSites, sites, IsNew}
use Rattle.fab_implementation.specs.fab_fabric.specs.Names.{site_text}
use Rattle.fab_legal.specs.Broken.{cell_text, IsSiteItem, again, IsCellItem, wrong_line, unnamed, IsFirstBroken, Explains}
use Rattle.fab_legal.specs.inner.Answers.{Breaks}
use Rattle.fab_legal.specs.inner.Keeping.{Binds, AreSites}
use Rattle.fab_legal.specs.declared.lines.Binding.{Binding}
use Rattle.fab_legal.specs.declared.lines.Binding.TheVariants as bindings
use Rattle.fab_legal.specs.declared.broken.CheckFault.{CheckFault}
use Rattle.fab_legal.specs.declared.broken.CheckFault.TheVariants as faults
use Rattle.fab_legal.proofs.Lists.{first_wrong, at_read}

-- a refusal by an item
pub breaks_by : (rule : ℕ) (IsItem : List ℕ → Type 0) (fault : CheckFault) (item text : List ℕ) → fault ≡ faults.Broken (record { rule = rule; item = item }) → item ≡ text → IsItem text →
    Breaks rule IsItem fault
breaks_by rule IsItem fault item text is same breaks =
    subst (λ (f : CheckFault). Breaks rule IsItem f) (sym is) (refl, subst IsItem (sym same) breaks)

-- a part's refusal explains that of the whole
pub explained : (fabric : PlainFabric) (packed : PlainPacked) (fixed : List Pad) (implementation : PlainImplementation) (rule : ℕ) (IsItem : List ℕ → Type 0) (fault : CheckFault) →
    ((item : List ℕ) → IsItem item → IsFirstBroken fabric packed fixed implementation rule item) → Breaks rule IsItem fault → Explains fabric packed fixed implementation fault
explained fabric packed fixed implementation rule IsItem (faults.Broken broken) first breaks =
    subst (λ (r : ℕ). IsFirstBroken fabric packed fixed implementation r broken.item) (sym breaks.0) (first broken.item breaks.1)
explained fabric packed fixed implementation rule IsItem faults.Memory first breaks = tt

module _ (fabric : PlainFabric) (packed : PlainPacked) (implementation : PlainImplementation) (count : ℕ) (seen : List (ℕ × Site)) (binding : Binding) (count_is : count ≡ length packed.cells)
    (seen_is : seen ≡ implementation.cells) (bound : Binds fabric kinds.Lut4c count seen binding) where
  moved : Binds fabric kinds.Lut4c (length packed.cells) implementation.cells binding
  moved =
      subst (λ (n : ℕ). Binds fabric kinds.Lut4c n implementation.cells binding) count_is
      (subst (λ (lines : List (ℕ × Site)). Binds fabric kinds.Lut4c count lines binding) seen_is bound)

  at_binding : (other : Binding) → binding ≡ other → Binds fabric kinds.Lut4c (length packed.cells) implementation.cells other
  at_binding other is = subst (λ (b : Binding). Binds fabric kinds.Lut4c (length packed.cells) implementation.cells b) is moved

  pub cells_bound : (sites : Vec Site Global) → binding ≡ bindings.Sites sites → CellsHaveSites fabric packed implementation × AreSites implementation.cells (length packed.cells) sites.items
  cells_bound sites is = at_binding (bindings.Sites sites) is

  pub cell_wrong : (place : ℕ) (line : ℕ × Site) → binding ≡ bindings.WrongLine place → line ≡ get_or seen place line → IsCellItem fabric packed implementation (cell_text line.0)
  cell_wrong place line is read =
      let first = at_binding (bindings.WrongLine place) is in
      let there : line ≡ get_or implementation.cells place line = read ∙ ap (λ (lines : List (ℕ × Site)). get_or lines place line) seen_is in
      wrong_line (first_wrong (IsRightLine fabric kinds.Lut4c (IsCell packed)) implementation.cells place line first (at_read implementation.cells place line first.inside there))

  pub cell_unnamed : (number : ℕ) → binding ≡ bindings.Unnamed number → IsCellItem fabric packed implementation (cell_text number)
  cell_unnamed number is =
      let found = at_binding (bindings.Unnamed number) is in
      unnamed found.0 (record { is_cell = found.1.below; unnamed = found.1.unnamed; before = found.1.before })

-- a site that is used again
pub site_broken : (i : PlainImplementation) (seen : List Site) (place : ℕ) (o : Option ℕ) (site : Site) → seen ≡ sites i → MatchOption o (AreRight IsNew seen) (IsFirstWrongAt IsNew seen) → o ≡ Some place →
    site ≡ get_or seen place site → IsSiteItem i (site_text site)
site_broken i seen place o site seen_is found is read =
    let here : IsFirstWrongAt IsNew seen place = subst (λ (x : Option ℕ). MatchOption x (AreRight IsNew seen) (IsFirstWrongAt IsNew seen)) is found in
    again (subst (λ (list : List Site). IsFirstWrong IsNew list site) seen_is (first_wrong IsNew seen place site here (at_read seen place site here.inside read)))
