-- What breaks a rule is not legal.
use Rattle.std.proofs.Common.{ℕ, List}
use Rattle.fab_kinds.specs.declared.kind.Kind.TheVariants as kinds
use Rattle.fab_implementation.specs.fab_model.specs.Grid.{PlainFabric}
use Rattle.fab_implementation.specs.fab_netlist.specs.Packed.{PlainPacked}
use Rattle.fab_implementation.specs.Plain.{Pad, PlainImplementation}
use Rattle.fab_legal.specs.Lines.{IsRightLine, IsCell, IsInput, IsOutput, IsNew, StandsOn, sites, CellsHaveSites, SitesDiffer, PortsHavePads, ConstraintsHold}
use Rattle.fab_legal.specs.Nets.{IsRightStart}
use Rattle.fab_legal.specs.Legal.{HasRightSteps, HasRightEntries, NetsBeginRight}
use Rattle.fab_legal.specs.Broken.{IsCellItem, wrong_line, unnamed, IsSiteItem, again, IsPortItem, wrong_in, wrong_out, unnamed_in, unnamed_out, IsConstraintItem, elsewhere, IsNetItem, name, start, rule_1, rule_2, rule_3, rule_4, rule_5, rule_6, rule_7, rule_8, rule_9, BrokenIsNotLegal}
use Rattle.fab_legal.proofs.Lists.{wrong_not_right}
use Rattle.fab_legal.proofs.SinkLaw.{sink_required}

module _ (fabric : PlainFabric) (packed : PlainPacked) (i : PlainImplementation) where
  no_cell_item : (item : List ℕ) → IsCellItem fabric packed i item → CellsHaveSites fabric packed i → ⊥
  no_cell_item item (wrong_line {line} first) cells = wrong_not_right (IsRightLine fabric kinds.Lut4c (IsCell packed)) i.cells line first cells.lines_right
  no_cell_item item (unnamed {number} right first) cells = first.unnamed (cells.all_named number first.is_cell)

  no_site_item : (item : List ℕ) → IsSiteItem i item → SitesDiffer i → ⊥
  no_site_item item (again {site} first) differ = wrong_not_right IsNew (sites i) site first differ

  no_port_item : (item : List ℕ) → IsPortItem fabric packed i item → PortsHavePads fabric packed i → ⊥
  no_port_item item (wrong_in {line} first) ports = wrong_not_right (IsRightLine fabric kinds.Io (IsInput packed)) i.ins line first ports.ins.lines_right
  no_port_item item (wrong_out {line} right first) ports = wrong_not_right (IsRightLine fabric kinds.Io (IsOutput packed)) i.outs line first ports.outs.lines_right
  no_port_item item (unnamed_in {port} ins outs first) ports = first.wrong (ports.ins.all_named port (first.place, first.is_at.0, first.is_at.1))
  no_port_item item (unnamed_out {port} ins outs all first) ports = first.wrong (ports.outs.all_named port (first.place, first.is_at.0, first.is_at.1))

  no_constraint_item : (fixed : List Pad) (item : List ℕ) → IsConstraintItem fixed i item → ConstraintsHold fixed i → ⊥
  no_constraint_item fixed item (elsewhere {pad} first) hold = wrong_not_right (StandsOn i) fixed pad first hold

  no_net_item : (item : List ℕ) → IsNetItem fabric packed i item → NetsBeginRight fabric packed i → ⊥
  no_net_item item (name {place} {tree} at before wrong) right = wrong (right place tree at.0 at).name
  no_net_item item (start {place} {tree} {edge} at before right_name first text_is) right =
      wrong_not_right (IsRightStart fabric i tree) tree.edges edge first (right place tree at.0 at).starts

pub broken_is_not_legal : BrokenIsNotLegal
broken_is_not_legal fabric packed fixed i rule item made (rule_1 breaks) legal = no_cell_item fabric packed i item breaks legal.placed.cells
broken_is_not_legal fabric packed fixed i rule item made (rule_2 cells breaks) legal = no_site_item fabric packed i item breaks legal.placed.sites
broken_is_not_legal fabric packed fixed i rule item made (rule_3 cells sites breaks) legal = no_port_item fabric packed i item breaks legal.placed.ports
broken_is_not_legal fabric packed fixed i rule item made (rule_4 placed breaks) legal = no_constraint_item fabric packed i fixed item breaks legal.constraints
broken_is_not_legal fabric packed fixed i rule item made (rule_5 placed hold breaks) legal = wrong_not_right (HasRightSteps fabric) i.trees breaks.tree breaks.first_tree legal.steps
broken_is_not_legal fabric packed fixed i rule item made (rule_6 placed hold steps breaks) legal = wrong_not_right HasRightEntries i.trees breaks.tree breaks.first_tree legal.reached
broken_is_not_legal fabric packed fixed i rule item made (rule_7 placed hold steps reached breaks) legal = no_net_item fabric packed i item breaks legal.nets
broken_is_not_legal fabric packed fixed i rule item made (rule_8 placed hold steps reached nets breaks) legal =
    breaks.first.wrong (legal.sinks _ _ (sink_required fabric packed i legal.placed.cells legal.placed.ports breaks.sink (breaks.first.place, breaks.first.is_at.0, breaks.first.is_at.1)))
broken_is_not_legal fabric packed fixed i rule item made (rule_9 placed hold steps reached nets stand breaks) legal =
    breaks.two (legal.apart breaks.wire breaks.one_net breaks.other_net breaks.in_one breaks.in_other)
