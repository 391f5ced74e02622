-- The sources of a driver are expressions that have values, and bits within them.
use Rattle.std.proofs.Common.{◌≡◌, ℕ, ◌<◌, true, Bool, List, [], ◌∷◌, All, Contains, Option, Some, slice_get, refl, sym, ap, subst, ◌∙◌, arith}
use Rattle.fab_syntax.specs.Declarations.{module_named, is_input, width, width_if_any}
use Rattle.fab_syntax.specs.declared.tree.Port.{Port}
use Rattle.fab_syntax.specs.Plain.{PlainExpr, PlainJoin, assign, latch, clocked, instance, PlainModule}
use Rattle.fab_syntax.specs.Sound.{joined_expressions, item_expressions, width_of, width_of_name, FitsPort, JoinFits, IsJoinedOnce, InstanceFits, port_named}
use Rattle.fab_values.specs.fab_meaning.specs.Points.{module_at}
use Rattle.fab_values.specs.fab_meaning.proofs.Modules.{all_holds, module_at_holds}
use Rattle.fab_values.specs.fab_meaning.proofs.SoundTexts.{some_value, instances_fit, contains_first, contains_later}
use Rattle.fab_values.specs.Declarations.{Declaration, declarations}
use Rattle.fab_values.specs.Evaluation.{expr_width, IsFit}
use Rattle.fab_equations.specs.Instances.{Instance, instances, expressions}
use Rattle.fab_equations.specs.Numbering.{IsInstanceOfNumber}
use Rattle.fab_equations.specs.Tables.{IsExpression, DrivesName}
use Rattle.fab_equations.specs.Equations.{SourceFits, DriverFits}
use Rattle.fab_equations.specs.Lookups.{IsHere, IsBit, IsJoinedAbove}
use Rattle.fab_equations.specs.declared.lookups.Here.{Here}
use Rattle.fab_equations.specs.declared.lookups.LocalBit.{LocalBit}
use Rattle.fab_equations.specs.declared.driver.Source.{Source}
use Rattle.fab_equations.specs.declared.driver.Driver.TheVariants as given
use Rattle.fab_equations.specs.declared.tables.LocalDriver.TheVariants as local
use Rattle.fab_equations.proofs.Numbering.{same_value, instances_stand}
use Rattle.fab_equations.proofs.Standing.{child_item}
use Rattle.fab_equations.proofs.Driven.{port_input, port_shape, wide_name}
use Rattle.fab_equations.proofs.Fitting.{in_flat, same_width, sides_fit, item_expression_fits}

source_fits : (text : List PlainModule) (source : Source) (i : Instance) (e : PlainExpr) → IsInstanceOfNumber text source.instance i → IsExpression text source.expr e →
    IsFit (declarations i.here) e × (source.bit < expr_width (declarations i.here) e) → SourceFits text source
source_fits text source i e is there fit j f j_is f_there =
    let same : i ≡ j = same_value (slice_get (instances text) source.instance) i j is j_is in
    let same_e : e ≡ f = same_value (slice_get (expressions text) source.expr) e f there f_there in
    subst (λ (x : Instance). IsFit (declarations x.here) f × (source.bit < expr_width (declarations x.here) f)) same
    (subst (λ (y : PlainExpr). IsFit (declarations i.here) y × (source.bit < expr_width (declarations i.here) y)) same_e fit)

module _ (text : List PlainModule) (number : ℕ) (bit : LocalBit) (is : IsBit text number bit) (here : Here) (kept : IsHere text bit.instance here) where
  at_path : module_at text is.i.path ≡ Some is.i.here
  at_path = (instances_stand text kept.sound bit.instance is.i is.is).0

  target_wide : width_of_name is.i.here is.d.name ≡ width is.d.shape
  target_wide = wide_name text number bit is here kept

  -- a bit of an expression as wide as the name
  within : (e : PlainExpr) → width_of_name is.i.here is.d.name ≡ width_of is.i.here e → bit.bit < expr_width (declarations is.i.here) e
  within e same = omega (arith, is.less, target_wide, same, same_width is.i.here e)

  pub value_fits : (expr : ℕ) → DrivesName text is.i.here is.d.name (local.Value expr) →
      DriverFits text (given.Value (record { instance = bit.instance; expr = expr; bit = bit.bit }))
  value_fits expr (e, there, item) =
      source_fits text (record { instance = bit.instance; expr = expr; bit = bit.bit }) is.i e is.is there (
        item_expression_fits text kept.sound is.i.path is.i.here at_path (assign is.d.name e) item kept.narrow e (contains_first e e [] refl),
        within e (sides_fit text kept.sound is.i.path is.i.here at_path (assign is.d.name e) item),
      )

  pub flop_fits : (clock next clock_number : ℕ) → DrivesName text is.i.here is.d.name (local.Flop clock next) →
      DriverFits text (given.Flop clock_number (record { instance = bit.instance; expr = next; bit = bit.bit }))
  flop_fits clock next clock_number (c, e, under, there, item) =
      source_fits text (record { instance = bit.instance; expr = next; bit = bit.bit }) is.i e is.is there (
        item_expression_fits text kept.sound is.i.path is.i.here at_path (clocked c is.d.name e) item kept.narrow e (contains_first e e [] refl),
        within e (sides_fit text kept.sound is.i.path is.i.here at_path (clocked c is.d.name e) item),
      )

  pub hold_fits : (gate expr : ℕ) → DrivesName text is.i.here is.d.name (local.Hold gate expr) →
      DriverFits text (given.Hold (record { instance = bit.instance; expr = gate; bit = 0 }) (record { instance = bit.instance; expr = expr; bit = bit.bit }))
  hold_fits gate expr (g, e, gate_there, there, item) =
      let sides : (width_of is.i.here g ≡ 1) × (width_of_name is.i.here is.d.name ≡ width_of is.i.here e) =
      sides_fit text kept.sound is.i.path is.i.here at_path (latch is.d.name g e) item in
      let fit : (x : PlainExpr) → Contains (g ∷ e ∷ []) x → IsFit (declarations is.i.here) x =
      λ x among. item_expression_fits text kept.sound is.i.path is.i.here at_path (latch is.d.name g e) item kept.narrow x among in (
        source_fits text (record { instance = bit.instance; expr = gate; bit = 0 }) is.i g is.is gate_there
            (fit g (contains_first g g (e ∷ []) refl), omega (arith, sides.0, same_width is.i.here g)),
        source_fits text (record { instance = bit.instance; expr = expr; bit = bit.bit }) is.i e is.is there
            (fit e (contains_later g e (e ∷ []) (contains_first e e [] refl)), within e sides.1),
      )

  pub joined_fits : DrivesName text is.i.here is.d.name local.Input → (source : Source) → IsJoinedAbove text bit.instance bit.declared source →
      DriverFits text (given.Value (record { instance = source.instance; expr = source.expr; bit = bit.bit }))
  joined_fits input source up =
      let above = up.above in
      let child = up.child.child in
      let to = up.joined in
      let m = above.here in
      let item = instance child.module_name child.name child.joins in
      let stands : module_at text above.path ≡ Some m = (instances_stand text kept.sound source.instance above up.above_is).0 in
      let holds : Contains m.items item = child_item m.items up.place child up.child.is in
      let same : up.input.i ≡ is.i = same_value (slice_get (instances text) bit.instance) up.input.i is.i up.input.is is.is in
      let same_d : up.input.d ≡ is.d =
      same_value (slice_get (declarations is.i.here) bit.declared) up.input.d is.d (ap (λ (i : Instance). slice_get (declarations i.here) bit.declared) (sym same) ∙ up.input.declares) is.declares in
      let of : module_named text child.module_name ≡ Some is.i.here = up.child.of ∙ ap (λ (i : Instance). Some i.here) same in
      let port_is : to.join.port ≡ is.d.name = to.port_is ∙ ap (λ (d : Declaration). d.name) same_d in
      let among : Contains (item_expressions item) to.e =
      in_flat (λ (join : PlainJoin). joined_expressions join.to) child.joins to.join to.e to.holds
      (subst (λ (o : Option PlainExpr). Contains (joined_expressions o) to.e) (sym to.to) (contains_first to.e to.e [] refl)) in
      let Fits : PlainModule → Type 0 = λ b. All (JoinFits m b) child.joins × All (IsJoinedOnce child.joins) b.ports in
      let all = module_at_holds (λ (n : PlainModule). All (InstanceFits text n) n.items) text above.path m (instances_fit text kept.sound.instances) stands in
      let below = some_value (module_named text child.module_name) Fits (all_holds (InstanceFits text m) m.items item all holds) in
      let same_below : below.0 ≡ is.i.here = same_value (module_named text child.module_name) below.0 is.i.here below.1 of in
      let join : JoinFits m is.i.here to.join =
      subst (λ (b : PlainModule). JoinFits m b to.join) same_below (all_holds (JoinFits m below.0) child.joins to.join below.2.0 to.holds) in
      let port = some_value (port_named is.i.here.ports to.join.port) (λ (p : Port). FitsPort m p.input (width p.shape) to.join.to) join in
      let is_in : port.0.input ≡ true = sym (port_input is.i.here.ports to.join.port port.0 port.1) ∙ ap (is_input is.i.here.ports) port_is ∙ input in
      let wide : width_of m to.e ≡ width port.0.shape =
      subst (λ (o : Option PlainExpr). FitsPort m true (width port.0.shape) o) to.to
      (subst (λ (b : Bool). FitsPort m b (width port.0.shape) to.join.to) is_in port.2) in
      let declared : width_of_name is.i.here to.join.port ≡ width port.0.shape = ap width_if_any (port_shape is.i.here.ports is.i.here.items to.join.port port.0 port.1) in
      let named : width_of_name is.i.here to.join.port ≡ width_of_name is.i.here is.d.name = ap (width_of_name is.i.here) port_is in
      let expr : source.expr ≡ to.number = cc in
      source_fits text (record { instance = source.instance; expr = source.expr; bit = bit.bit }) above to.e up.above_is
      (ap (slice_get (expressions text)) expr ∙ to.expression) (
        item_expression_fits text kept.sound above.path m stands item holds kept.narrow to.e among,
        omega (arith, is.less, target_wide, wide, declared, named, same_width m to.e),
      )
