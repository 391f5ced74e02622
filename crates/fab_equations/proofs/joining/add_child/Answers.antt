use Rattle.std.proofs.Common.{rules, ◌≡◌, length, map, replicate, None, Some, refl, sym, ap, ◌∙◌, arith}
use Rattle.std.specs.Map.{lookup}
use Rattle.std.specs.Str.{bytes_eq}
use Rattle.fab_syntax.specs.Plain.{plain_join}
use Rattle.fab_equations.specs.Counting.{count_or_none}
use Rattle.fab_equations.specs.Children.{children}
use Rattle.fab_equations.specs.inner.Building.{listed}
use Rattle.fab_equations.proofs.ChildSteps.{child_step, child_of, below_here, instance_here, none_joined, names_below, names_step}
use Rattle.fab_equations.proofs.joining.add_child.Goals as goal

pub returns-clause-inside : goal.returns-clause-inside
returns-clause-inside c spot so_far names known item old =
    let of = c.args.of.now in
    let name = c.args.name.now in
    let joins = map plain_join c.args.joins.now in
    let es = listed c.args.exprs.now.items in
    let before = c.args.before.now in
    let b = c.in-Some.below in
    let number : lookup (λ key. bytes_eq of key.items) before.numbers.entries ≡ Some b.number =
    ap (λ n. lookup (λ key. bytes_eq n key.items) before.numbers.entries) (sym c.bytes.ensures) ∙ c.in-Some.ensures.number in
    let counted = c.in-Some.ensures.instances ∙ ap (λ n. (count_or_none (lookup (λ key. bytes_eq n key.items) before.counts.entries)).instances) c.bytes.ensures in
    let place : c.in-Ok.number ≡ length (children so_far) = omega (arith, c.in-Ok.ensures.1, c.len.ensures, old.children_count) in
    let wide : c.len-2.result ≡ length b.table.now.firsts.items = omega (arith, c.len-2.ensures) in
    let unset : c.in_ok-inputs.inputs.items ≡ replicate c.len-2.result None = c.in_ok-inputs.ensures.items_if_clones_equal (λ y is. search rules) in
    let start = none_joined spot so_far of name joins es before item known b.number number b.table.now c.args.inside.now.drivers.items c.in_ok-inputs.inputs.items c.len-2.result
    c.in-Some.ensures.table wide unset old.drivers in
    let all = c.in_ok-add_joins.ensures.joins spot so_far (child_of of name joins) (below_here spot so_far of name joins es before item known b.number number).below item.more names
    (names_below spot so_far of name joins es before item known b.number number b.table.now c.in-Some.ensures.table)
    (instance_here spot so_far of name joins es before item known b.number number c.in-Ok.number place) refl item.all start in
    child_step spot so_far of name joins es before item known b.number number c.args.inside.now _ b.instances _ old counted all
    (names_step spot so_far of name joins es c.args.inside.now.child_names.keys c.insert.new.self.keys c.in_ok-key.key item (c.in_ok-key.ensures.items ∙ c.bytes-2.ensures)
    c.in_ok-insert.ensures.keys old.child_names)
    c.saturating_add-inside.ensures c.in_ok-push.ensures.items refl refl
