-- The joins of an instance, one more.
use Rattle.std.proofs.Common.{◌≡◌, ℕ, ◌+◌, Bool, true, false, if◌then◌else◌, List, [], ◌∷◌, ◌++◌, length, slice_get, Contains, Option, Some, None, refl, sym, ap, subst, ◌∙◌, inl, inr, arith}
use Rattle.std.proofs.lemmas.Bool.{cases_Bool}
use Rattle.std.proofs.lemmas.List.Elements.{All-contains}
use Rattle.std.proofs.lemmas.Slice.Eq.{bytes_eq-Decides}
use Rattle.std.specs.Option.{IsSomeAnd}
use Rattle.std.specs.Str.{bytes_eq}
use Rattle.fab_syntax.specs.declared.tree.Port.{Port}
use Rattle.fab_syntax.specs.Plain.{PlainExpr, variable, PlainJoin, PlainItem, PlainModule}
use Rattle.fab_syntax.specs.Declarations.{width, is_input, one_if_same, one_if_variable, times_driven, times_joined, times_joined_out}
use Rattle.fab_syntax.specs.Sound.{joined_expressions, JoinFits, FitsPort, port_named}
use Rattle.fab_values.specs.Declarations.{Declaration, declarations, found_in, number_of, item_declarations, port_declaration}
use Rattle.fab_values.specs.declared.names.Local.{Local}
use Rattle.fab_values.specs.declared.names.Role.TheVariants as roles
use Rattle.fab_equations.specs.Instances.{expressions}
use Rattle.fab_equations.specs.Children.{Child}
use Rattle.fab_equations.specs.Tables.{IsExpression}
use Rattle.fab_equations.specs.inner.Building.{put_at, put_variable, DeclaresOnce, Spot, AreDriven, IsDrivenSoFar, AreJoined, IsInstance, IsJoin, AreJoinedSoFar}
use Rattle.fab_equations.specs.declared.tables.LocalDriver.{LocalDriver}
use Rattle.fab_equations.specs.declared.tables.LocalDriver.TheVariants.{Output}
use Rattle.fab_equations.proofs.ListPlaces.{at_place, stands_in, found_itself}
use Rattle.fab_equations.proofs.Roles.{is_input_role, input_role, port_found}
use Rattle.fab_equations.proofs.DrivenNames.{driven_same, variable_step, joined_out_append, put_here, put_elsewhere}
use Rattle.fab_equations.proofs.SoundModules.{once_here}

joined_append : (joins : List PlainJoin) (join : PlainJoin) (name : List ℕ) → times_joined (joins ++ join ∷ []) name ≡ times_joined joins name + one_if_same join.port name
joined_append [] join name = omega arith
joined_append (x ∷ joins) join name = omega (arith, joined_append joins join name)

-- the port of a join that fits
pub record IsPort (m below : PlainModule) (join : PlainJoin) : Type 0 where
  pub port : Port
  pub is : port_named below.ports join.port ≡ Some port
  pub fits : FitsPort m port.input (width port.shape) join.to

some_port : (m : PlainModule) (to : Option PlainExpr) (o : Option Port) → IsSomeAnd o (λ port. FitsPort m port.input (width port.shape) to) →
    (port : Port) × (o ≡ Some port) × FitsPort m port.input (width port.shape) to
some_port m to None fits = absurd fits
some_port m to (Some port) fits = (port, refl, fits)

pub port_of : (spot : Spot) (number : ℕ) (child : Child) (below : PlainModule) (so_far : List PlainJoin) (join : PlainJoin) (es : List PlainExpr) →
    IsInstance spot number child below → IsJoin spot child so_far join es → IsPort spot.here below join
port_of spot number child below so_far join es here next =
    let fits : JoinFits spot.here below join = All-contains (JoinFits spot.here below) child.joins join here.fit (stands_in so_far join next.rest child.joins next.parts) in
    let port = some_port spot.here join.to (port_named below.ports join.port) fits in
    record { port = port.0; is = port.1; fits = port.2 }

-- a name that is declared as no input is the name of no input
not_input : (ds : List Declaration) (name : List ℕ) (local : Local) (number : ℕ) (d : Declaration) → DeclaresOnce ds → found_in ds name ≡ Some local →
    is_input_role local.role ≡ false → slice_get ds number ≡ Some d → d.role ≡ roles.Input → bytes_eq name d.name ≡ false
not_input ds name local number d once found other at input =
    elim (cases_Bool (bytes_eq name d.name)) [
      | inl t ↦ (
          let same : name ≡ d.name = (bytes_eq-Decides name d.name).0 t in
          let it = found_itself 0 ds number d (once d.name) at in
          let both : Some local ≡ Some it.0 = sym found ∙ ap (found_in ds) same ∙ it.1 in
          let one : local ≡ it.0 = cc in
          let role : is_input_role local.role ≡ true = ap (λ (l : Local). is_input_role l.role) one ∙ ap is_input_role (it.2 ∙ input) in cc)
      | inr f ↦ f
    ]

-- the joins so far, and one more that is to no input
pub inputs_kept : (spot : Spot) (all so_far : List PlainJoin) (join : PlainJoin) (ds : List Declaration) (local : Local) (inputs : List (Option ℕ)) → DeclaresOnce ds →
    found_in ds join.port ≡ Some local → is_input_role local.role ≡ false → AreJoined spot all so_far ds inputs → AreJoined spot all (so_far ++ join ∷ []) ds inputs
inputs_kept spot all so_far join ds local inputs once found other are number d at input =
    let old = are number d at input in
    let f : bytes_eq join.port d.name ≡ false = not_input ds join.port local number d once found other at input in
    let none : one_if_same join.port d.name ≡ 0 = rw f refl in
    (old.0, old.1, elim old.2 [ inl unset ↦ inl (omega (arith, unset, joined_append so_far join d.name)) | inr told ↦ inr told ])

-- the joins so far, and one more to an input
pub inputs_put : (spot : Spot) (all so_far : List PlainJoin) (join : PlainJoin) (ds : List Declaration) (e : PlainExpr) (added : ℕ) (inputs : List (Option ℕ)) → DeclaresOnce ds →
    join.to ≡ Some e → IsExpression spot.text added e → Contains all join → AreJoined spot all so_far ds inputs →
    AreJoined spot all (so_far ++ join ∷ []) ds (put_at inputs (number_of ds join.port) (Some added))
inputs_put spot all so_far join ds e added inputs once to expression holds are number d at input =
    let old = are number d at input in
    elim (cases_Bool (bytes_eq join.port d.name)) [
      | inl t ↦ (
          let same : join.port ≡ d.name = (bytes_eq-Decides join.port d.name).0 t in (
            Some added,
            put_here ds inputs join.port number d (Some added) old.0 once at same old.1,
            inr (record { number = added; e = e; join = join; is = refl; expression = expression; holds = holds; port_is = same; to = to }),
          ))
      | inr f ↦ (
          let none : one_if_same join.port d.name ≡ 0 = rw f refl in (
            old.0,
            put_elsewhere ds inputs join.port number d (Some added) at f ∙ old.1,
            elim old.2 [ inl unset ↦ inl (omega (arith, unset, joined_append so_far join d.name)) | inr told ↦ inr told ],
          ))
    ]

-- ---- one more join

abbrev pub out_of : (below : PlainModule) → PlainJoin → (name : List ℕ) → ℕ
out_of below join name = if is_input below.ports join.port then 0 else one_if_variable join.to name

drivers_with : (spot : Spot) (items : List PlainItem) (below : PlainModule) (so_far : List PlainJoin) (join : PlainJoin) (drivers : List LocalDriver) →
    AreDriven spot (λ name. (times_driven spot.text items name + times_joined_out (Some below) so_far name) + out_of below join name) drivers →
    AreDriven spot (λ name. times_driven spot.text items name + times_joined_out (Some below) (so_far ++ join ∷ []) name) drivers
drivers_with spot items below so_far join drivers are =
    driven_same spot (λ name. (times_driven spot.text items name + times_joined_out (Some below) so_far name) + out_of below join name)
    (λ name. times_driven spot.text items name + times_joined_out (Some below) (so_far ++ join ∷ []) name) drivers
    (λ name. omega (arith, joined_out_append (Some below) so_far join name)) are

drivers_kept : (spot : Spot) (items : List PlainItem) (below : PlainModule) (so_far : List PlainJoin) (join : PlainJoin) (drivers : List LocalDriver) →
    ((name : List ℕ) → out_of below join name ≡ 0) → AreDriven spot (λ name. times_driven spot.text items name + times_joined_out (Some below) so_far name) drivers →
    AreDriven spot (λ name. times_driven spot.text items name + times_joined_out (Some below) (so_far ++ join ∷ []) name) drivers
drivers_kept spot items below so_far join drivers none are =
    drivers_with spot items below so_far join drivers
    (driven_same spot (λ name. times_driven spot.text items name + times_joined_out (Some below) so_far name) _ drivers (λ name. omega (arith, none name)) are)

role_false : (port : Port) → port.input ≡ false → is_input_role (port_declaration port).role ≡ false
role_false port f = ap (λ b. is_input_role (if b then roles.Input else roles.Output)) f

module _ (spot : Spot) (items : List PlainItem) (number : ℕ) (child : Child) (below : PlainModule) (so_far : List PlainJoin) (join : PlainJoin) (es : List PlainExpr)
    (drivers : List LocalDriver) (inputs : List (Option ℕ)) (here : IsInstance spot number child below) (next : IsJoin spot child so_far join es)
    (are : AreJoinedSoFar spot items child below so_far drivers inputs) where
  -- nothing is joined, so the port is an output
  pub none_step : join.to ≡ None → AreJoinedSoFar spot items child below (so_far ++ join ∷ []) drivers inputs
  none_step none =
      let port = port_of spot number child below so_far join es here next in
      let found = port_found 0 below.ports (item_declarations below.items) join.port port.port port.is in
      let out : port.port.input ≡ false = output (width port.port.shape) port.port.input (subst (FitsPort spot.here port.port.input (width port.port.shape)) none port.fits) in
      record {
        drivers_are = drivers_kept spot items below so_far join drivers (λ name. ap (λ b. if b then 0 else one_if_variable join.to name) (found.3 ∙ out) ∙ ap (λ to. one_if_variable to name) none) are.drivers_are;
        inputs_are = inputs_kept spot child.joins so_far join (declarations below) found.0 inputs here.once found.1 (ap is_input_role found.2 ∙ role_false port.port out) are.inputs_are;
      }
    where
      output : (n : ℕ) (b : Bool) → FitsPort spot.here b n None → b ≡ false
      output n true fits = absurd fits
      output n false fits = refl

  -- a port of a join is declared
  pub declared_port : found_in (declarations below) join.port ≡ None → AreJoinedSoFar spot items child below (so_far ++ join ∷ []) drivers inputs
  declared_port none =
      let port = port_of spot number child below so_far join es here next in
      let found = port_found 0 below.ports (item_declarations below.items) join.port port.port port.is in
      let both : Some found.0 ≡ None = sym found.1 ∙ none in cc

  pub input_step : (e : PlainExpr) (added : ℕ) (local : Local) → join.to ≡ Some e → added ≡ length es → found_in (declarations below) join.port ≡ Some local →
      local.role ≡ roles.Input → AreJoinedSoFar spot items child below (so_far ++ join ∷ []) drivers (put_at inputs (number_of (declarations below) join.port) (Some added))
  input_step e added local to place found role =
      let input : is_input below.ports join.port ≡ true = input_role 0 below.ports below.items join.port local found ∙ ap is_input_role role in
      let all : es ++ e ∷ next.more ≡ expressions spot.text = subst (λ o. es ++ (joined_expressions o ++ next.more) ≡ expressions spot.text) to next.all in
      record {
        drivers_are = drivers_kept spot items below so_far join drivers (λ name. ap (λ b. if b then 0 else one_if_variable join.to name) input) are.drivers_are;
        inputs_are = inputs_put spot child.joins so_far join (declarations below) e added inputs here.once to (at_place es e next.more (expressions spot.text) added all place)
            (stands_in so_far join next.rest child.joins next.parts) are.inputs_are;
      }

  pub output_step : (e : PlainExpr) (local : Local) → join.to ≡ Some e → found_in (declarations below) join.port ≡ Some local → is_input_role local.role ≡ false →
      AreJoinedSoFar spot items child below (so_far ++ join ∷ []) (put_variable drivers (declarations spot.here) e (Output number local.first)) inputs
  output_step e local to found role =
      let output : is_input below.ports join.port ≡ false = input_role 0 below.ports below.items join.port local found ∙ role in
      let driver = Output number local.first in
      let drives : (target : List ℕ) → e ≡ variable target → (n : ℕ) → IsDrivenSoFar spot n target driver =
      (λ target is n. record {
        child = child;
        join = join;
        below = below;
        local = local;
        is = here.is;
        holds = stands_in so_far join next.rest child.joins next.parts;
        joined = to ∙ ap (λ x. Some x) is;
        stands = here.stands;
        output = output;
        declares = found;
        first = refl;
      }) in
      let put = variable_step spot (λ name. times_driven spot.text items name + times_joined_out (Some below) so_far name) drivers e driver (once_here spot) drives are.drivers_are in
      let more : (name : List ℕ) → one_if_variable (Some e) name ≡ out_of below join name =
      (λ name. sym (ap (λ b. if b then 0 else one_if_variable join.to name) output ∙ ap (λ o. one_if_variable o name) to)) in
      record {
        drivers_are = drivers_with spot items below so_far join (put_variable drivers (declarations spot.here) e driver)
            (driven_same spot _ _ (put_variable drivers (declarations spot.here) e driver) (λ name. ap (λ n. (times_driven spot.text items name + times_joined_out (Some below) so_far name) + n) (more name)) put);
        inputs_are = inputs_kept spot child.joins so_far join (declarations below) local inputs here.once found role are.inputs_are;
      }
