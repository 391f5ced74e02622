use Rattle.std.proofs.Common.{◌≡◌, ◌++◌, [], ◌∷◌, false, inl, inr, Some, ap, sym, subst, ◌∙◌}
use Rattle.fab_syntax.specs.Plain.{plain_expr, plain_join, plain_option}
use Rattle.fab_syntax.specs.Sound.{joined_expressions}
use Rattle.fab_values.specs.Declarations.{declarations, found_in, number_of}
use Rattle.fab_equations.specs.inner.Building.{listed, put_at, put_variable, AreJoinedSoFar}
use Rattle.fab_equations.specs.declared.tables.LocalDriver.TheVariants.{Output}
use Rattle.fab_equations.proofs.Roles.{is_input_role}
use Rattle.fab_equations.proofs.JoinedInputs.{none_step, declared_port, input_step, output_step}
use Rattle.fab_equations.proofs.joining.add_join.Goals as goal

pub returns-in_default-clause-joins : goal.returns-in_default-clause-joins
returns-in_default-clause-joins c spot items child below so_far names below_names here next are =
    none_step spot items c.args.number child below so_far (plain_join c.args.join.now) (listed c.args.exprs.now.items) c.args.drivers.now.items c.args.inputs.now.items here next are
    (ap plain_option c.in_default.is)

pub returns-in_default-get-clause-joins : goal.returns-in_default-get-clause-joins
returns-in_default-get-clause-joins c spot items child below so_far names below_names here next are =
    declared_port spot items c.args.number child below so_far (plain_join c.args.join.now) (listed c.args.exprs.now.items) c.args.drivers.now.items c.args.inputs.now.items here next are
    ((λ j. found_in (sym below_names j) (sym c.bytes.ensures j)) ∙ sym c.get.ensures ∙ c.in_default-get.is)

pub returns-in-Input-clause-joins : goal.returns-in-Input-clause-joins
returns-in-Input-clause-joins c spot items child below so_far names below_names here next are =
    let join = plain_join c.args.join.now in
    let to : join.to ≡ Some (plain_expr c.in-Some.expr) = ap plain_option c.in-Some.is in
    let found : found_in (declarations below) join.port ≡ Some c.in-Some-get.port =
    (λ j. found_in (sym below_names j) (sym c.bytes.ensures j)) ∙ sym c.get.ensures ∙ c.in-Some-get.is in
    let put = c.put.ensures in
    let inputs : c.put.new.items.items ≡ put_at c.args.inputs.now.items (number_of (declarations below) join.port) (Some c.in_ok-added.added) =
    put ∙ ap (λ p. put_at c.args.inputs.now.items p (Some c.in_ok-added.added)) (c.number.ensures ∙ (λ j. number_of (below_names j) (c.bytes-in-Input.ensures j))) in
    subst (AreJoinedSoFar _ _ _ _ _ _) (sym inputs)
    (input_step spot items c.args.number child below so_far join (listed c.args.exprs.now.items) c.args.drivers.now.items c.args.inputs.now.items here next are
    (plain_expr c.in-Some.expr) c.in_ok-added.added c.in-Some-get.port to c.in_ok-added.ensures.number found c.in-Input.is)

role : (c : goal.After-put_target) → is_input_role c.in-Some-get.port.role ≡ false
role c = elim c.in-Output.is [ inl output ↦ ap is_input_role output | inr more ↦ (elim more [ inl wire ↦ ap is_input_role wire | inr reg ↦ ap is_input_role reg ]) ]

pub returns-in-Output : goal.returns-in-Output
returns-in-Output c =
    let join = plain_join c.args.join.now in
    let e = plain_expr c.in-Some.expr in
    let to : join.to ≡ Some e = ap plain_option c.in-Some.is in
    record {
      exprs = c.in_ok-added.ensures.added ∙ ap (λ o. listed c.args.exprs.now.items ++ joined_expressions o) (sym to);
      joins = λ spot items child below so_far names below_names here next are.
          let found : found_in (declarations below) join.port ≡ Some c.in-Some-get.port =
          (λ j. found_in (sym below_names j) (sym c.bytes.ensures j)) ∙ sym c.get.ensures ∙ c.in-Some-get.is in
          let drivers : c.put_target.new.drivers.items ≡ put_variable c.args.drivers.now.items (declarations spot.here) e (Output c.args.number c.in-Some-get.port.first) =
          c.put_target.ensures ∙ ap (λ ds. put_variable c.args.drivers.now.items ds e (Output c.args.number c.in-Some-get.port.first)) names in
          subst (λ ds. AreJoinedSoFar spot items child below (so_far ++ join ∷ []) ds c.args.inputs.now.items) (sym drivers)
          (output_step spot items c.args.number child below so_far join (listed c.args.exprs.now.items) c.args.drivers.now.items c.args.inputs.now.items here next are
          e c.in-Some-get.port to found (role c));
    }
