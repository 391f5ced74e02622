-- A module without instances fits, item by item.
use Rattle.std.proofs.Common.{◌≡◌, List, [], ◌∷◌, All}
use Rattle.std.proofs.lemmas.List.Elements.{All-nil, All-cons, All-weaker}
use Rattle.fab_syntax.specs.Plain.{PlainExpr, PlainItem, PlainModule, wire, reg, assign, latch, clocked, instance}
use Rattle.fab_syntax.specs.Sound.{refusals, mentions_in, subexpressions, item_expressions, Every, width_of, width_of_name, SelectFits, OperandsFit, SidesFit, InstanceFits, PortIsDriven, ItemIsDriven, ClockFits, IsScalarInput}
use Rattle.fab_parts_sound_laws.specs.Fits.{FitsIn}
use Rattle.fab_parts_sound_laws.proofs.Expressions.{Holds, every}

-- the selects and the operands of an expression fit
abbrev pub IsSized : PlainModule → PlainExpr → Type 0
IsSized m e = SelectFits m e × OperandsFit m e

-- what there is to show of an item, apart from names and drivers
abbrev pub ItemFits : PlainModule → PlainItem → Type 0
ItemFits m (wire shape name) = Unit {0}
ItemFits m (reg shape name) = Unit {0}
ItemFits m (assign target e) = Holds (IsSized m) e × (width_of_name m target ≡ width_of m e)
ItemFits m (latch target gate e) = Holds (IsSized m) gate × Holds (IsSized m) e × (width_of m gate ≡ 1) × (width_of_name m target ≡ width_of m e)
ItemFits m (clocked clock target e) = Holds (IsSized m) e × (width_of_name m target ≡ width_of m e) × IsScalarInput m clock
ItemFits m (instance module_name i joins) = ⊥

module _ (m : PlainModule) where
  selects : (e : PlainExpr) → Holds (IsSized m) e → Every (SelectFits m) e
  selects e sized = All-weaker (IsSized m) (SelectFits m) (λ sub is. is.0) (subexpressions e) (every (IsSized m) e sized)

  operands : (e : PlainExpr) → Holds (IsSized m) e → Every (OperandsFit m) e
  operands e sized = All-weaker (IsSized m) (OperandsFit m) (λ sub is. is.1) (subexpressions e) (every (IsSized m) e sized)

  one : (P : PlainExpr → Type 0) (e : PlainExpr) → P e → All P (e ∷ [])
  one P e holds = All-cons P e [] holds (All-nil P)

  item_selects : (item : PlainItem) → ItemFits m item → All (Every (SelectFits m)) (item_expressions item)
  item_selects (wire shape name) fits = All-nil (Every (SelectFits m))
  item_selects (reg shape name) fits = All-nil (Every (SelectFits m))
  item_selects (assign target e) fits = one (Every (SelectFits m)) e (selects e fits.0)
  item_selects (latch target gate e) fits = All-cons (Every (SelectFits m)) gate (e ∷ []) (selects gate fits.0) (one (Every (SelectFits m)) e (selects e fits.1))
  item_selects (clocked clock target e) fits = one (Every (SelectFits m)) e (selects e fits.0)
  item_selects (instance module_name i joins) fits = absurd fits

  item_widths : (item : PlainItem) → ItemFits m item → All (Every (OperandsFit m)) (item_expressions item) × SidesFit m item
  item_widths (wire shape name) fits = (All-nil (Every (OperandsFit m)), tt)
  item_widths (reg shape name) fits = (All-nil (Every (OperandsFit m)), tt)
  item_widths (assign target e) fits = (one (Every (OperandsFit m)) e (operands e fits.0), fits.1)
  item_widths (latch target gate e) fits =
      (All-cons (Every (OperandsFit m)) gate (e ∷ []) (operands gate fits.0) (one (Every (OperandsFit m)) e (operands e fits.1)), (fits.2, fits.3))
  item_widths (clocked clock target e) fits = (one (Every (OperandsFit m)) e (operands e fits.0), fits.1)
  item_widths (instance module_name i joins) fits = absurd fits

  item_instances : (before : List PlainModule) (item : PlainItem) → ItemFits m item → InstanceFits before m item
  item_instances before (wire shape name) fits = tt
  item_instances before (reg shape name) fits = tt
  item_instances before (assign target e) fits = tt
  item_instances before (latch target gate e) fits = tt
  item_instances before (clocked clock target e) fits = tt
  item_instances before (instance module_name i joins) fits = absurd fits

  item_clocks : (text : List PlainModule) (item : PlainItem) → ItemFits m item → ClockFits text m item
  item_clocks text (wire shape name) fits = tt
  item_clocks text (reg shape name) fits = tt
  item_clocks text (assign target e) fits = tt
  item_clocks text (latch target gate e) fits = tt
  item_clocks text (clocked clock target e) fits = fits.2
  item_clocks text (instance module_name i joins) fits = absurd fits

  pub flat_fits : (text before : List PlainModule) → refusals [] (mentions_in m) ≡ [] → All (ItemFits m) m.items → All (PortIsDriven text m) m.ports → All (ItemIsDriven text m) m.items → FitsIn text before m
  flat_fits text before names items ports_driven items_driven = record {
    names = names;
    selects = All-weaker (ItemFits m) (λ item. All (Every (SelectFits m)) (item_expressions item)) item_selects m.items items;
    widths = All-weaker (ItemFits m) (λ item. All (Every (OperandsFit m)) (item_expressions item) × SidesFit m item) item_widths m.items items;
    instances = All-weaker (ItemFits m) (InstanceFits before m) (item_instances before) m.items items;
    ports_driven = ports_driven;
    items_driven = items_driven;
    clocks = All-weaker (ItemFits m) (ClockFits text m) (item_clocks text) m.items items;
  }
