-- Roots of nets by nodes.
use mathlib.Core.Bool.{beq}
use Rattle.std.proofs.Common.{◌≡◌, ◌↔◌, IsTrue, Bool, true, false, Option, Some, None, ℕ, ◌<◌, List, [], ◌∷◌, length, Contains, refl, sym, ap, ◌∙◌, subst, inl, inr}
use Rattle.std.proofs.lemmas.Bool.{false≢true}
use Rattle.fab_kinds.specs.declared.kind.Kind.TheVariants as kinds
use Rattle.fab_model.specs.Grid.{PlainFabric}
use Rattle.fab_fabric.specs.Fabric.{AreTiles}
use Rattle.fab_fabric.specs.Wires.{numbered_wire}
use Rattle.fab_fabric.specs.declared.wire.Site.{Site}
use Rattle.fab_fabric.specs.declared.wire.Wire.{Wire}
use Rattle.fab_netlist.specs.Packed.{PlainPacked}
use Rattle.fab_netlist.proofs.Members.{in_none, first_or_later, first_in}
use Rattle.fab_implementation.specs.Plain.{PlainImplementation}
use Rattle.fab_legal.specs.Legal.{ArePlaced}
use Rattle.fab_legal.specs.Nets.{Net, port_net, cell_net, IsRoot}
use Rattle.fab_legal.specs.Steps.{pin_wire}
use Rattle.fab_legal.proofs.Once.{one_site}
use Rattle.fab_nodes_laws.specs.Nodes.{IsMatrixInput}
use Rattle.fab_nodes_laws.proofs.MatrixInputs.{root_input}
use Rattle.fab_route.specs.Plain.{PlainNodes, numbering_of, node_of}
use Rattle.fab_route.specs.Over.{IsOver}
use Rattle.fab_route.specs.inner.Wanted.{IsRootNode, AreRoots}

module _ (fabric : PlainFabric) (tiles : AreTiles fabric) (packed : PlainPacked) (placement : PlainImplementation) (placed : ArePlaced fabric packed placement) (nodes : PlainNodes) (over : IsOver fabric nodes) where
  -- a net with one root
  one_root : (net : Net) (wire : Wire) → IsRoot fabric placement net wire → ((other : Wire) → IsRoot fabric placement net other → other ≡ wire) → AreRoots fabric placement nodes net (node_of nodes wire ∷ [])
  one_root net wire root alone node = (forth, back)
    where
      input : IsMatrixInput fabric wire
      input = root_input fabric tiles packed placement placed net wire root

      there : numbered_wire ((numbering_of nodes).wire (node_of nodes wire)) ≡ wire
      there = ap numbered_wire (over.there wire input)

      forth : Contains (node_of nodes wire ∷ []) node → IsRootNode fabric placement nodes net node
      forth here = elim (first_or_later (node_of nodes wire) [] node here) [
        | inl same ↦ subst (λ (n : ℕ). IsRootNode fabric placement nodes net n) same (over.inside wire input, subst (λ (w : Wire). IsRoot fabric placement net w) (sym there) root)
        | inr none ↦ absurd (in_none node none)
      ]

      back : IsRootNode fabric placement nodes net node → Contains (node_of nodes wire ∷ []) node
      back is =
          let same = alone (numbered_wire ((numbering_of nodes).wire node)) is.1 in
          first_in (node_of nodes wire) [] node
          (over.are_nodes.apart (node_of nodes wire) node (over.inside wire input) is.0 (over.there wire input ∙ sym (ap (λ (w : Wire). w.0) same)))

  pub cell_root : (number : ℕ) (site : Site) → Contains placement.cells (number, site) → AreRoots fabric placement nodes (cell_net number) (node_of nodes (pin_wire fabric site 7) ∷ [])
  cell_root number site here = one_root (cell_net number) (pin_wire fabric site 7) (record { site = site; listed = here; wire_is = refl })
      (λ other root. root.wire_is ∙ ap (λ (s : Site). pin_wire fabric s 7) (one_site (λ n. n < length packed.cells) fabric kinds.Lut4c placement.cells number root.site site placed.cells.lines_right root.listed here))

  pub port_root : (port : List ℕ) (site : Site) → Contains placement.ins (port, site) → AreRoots fabric placement nodes (port_net port) (node_of nodes (pin_wire fabric site 2) ∷ [])
  port_root port site here = one_root (port_net port) (pin_wire fabric site 2) (record { site = site; listed = here; wire_is = refl })
      (λ other root. root.wire_is ∙ ap (λ (s : Site). pin_wire fabric s 2) (one_site (λ p. Contains packed.inputs p) fabric kinds.Io placement.ins port root.site site placed.ports.ins.lines_right root.listed here))

  pub moved_roots : (net : Net) (roots more : List ℕ) → more ≡ roots → AreRoots fabric placement nodes net roots → AreRoots fabric placement nodes net more
  moved_roots net roots more same are = subst (λ (rs : List ℕ). AreRoots fabric placement nodes net rs) (sym same) are

-- a value that is told
pub value_told : (Q : Bool → Type 0) (found value : Bool) → ((v : Bool) → (◌≡◌ {A = Option Bool} (Some found) (Some v)) ↔ Q v) → IsTrue (beq found value) ↔ Q value
value_told Q true true told = ((λ e. (told true).0 refl), λ q. refl)
value_told Q false false told = ((λ e. (told false).0 refl), λ q. refl)
value_told Q true false told = ((λ e. absurd (false≢true e)), λ q. absurd (apart ((told false).1 q)))
  where
    apart : ◌≡◌ {A = Option Bool} (Some true) (Some false) → ⊥
    apart e = cc
value_told Q false true told = ((λ e. absurd (false≢true e)), λ q. absurd (apart ((told true).1 q)))
  where
    apart : ◌≡◌ {A = Option Bool} (Some false) (Some true) → ⊥
    apart e = cc

pub no_value : (Q : Bool → Type 0) (value : Bool) → ((v : Bool) → (◌≡◌ {A = Option Bool} None (Some v)) ↔ Q v) → IsTrue false ↔ Q value
no_value Q value told = ((λ e. absurd (false≢true e)), λ q. absurd (apart value ((told value).1 q)))
  where
    apart : (v : Bool) → ◌≡◌ {A = Option Bool} None (Some v) → ⊥
    apart v e = cc
