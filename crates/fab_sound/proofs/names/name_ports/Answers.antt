use Rattle.std.proofs.Common.{◌≡◌, ◌∙◌, ◌++◌, [], sym, ap, subst, drop, true, false, get_or, is_some, rules}
use Rattle.std.proofs.lemmas.List.{drop_all}
use Rattle.fab_syntax.specs.Sound.{refusals}
use Rattle.fab_sound.specs.declared.tables.Declared.{Declared}
use Rattle.fab_sound.specs.inner.Checks.{found, Gives, net_declared, net_of}
use Rattle.std.specs.Option.{option_or}
use Rattle.fab_sound.proofs.Nets.{ports_step, or_none}
use Rattle.fab_sound.proofs.Noting.{not_true, not_false, port_nets, ports_twice, ports_pass}
use Rattle.fab_sound.proofs.names.name_ports.Goals as goal

pub returns-then-not-branch-clause-names : goal.returns-then-not-branch-clause-names
returns-then-not-branch-clause-names c = λ before notes rest.
    let at = c.loop-port.invariant.0 before notes rest in
    let item : c.port-item.result ≡ get_or c.args.ports.now c.loop-port.port-index c.port-item.result = search rules in
    let refused : c.in_ok-declare.field-0 ≡ false = search rules in
    let there : is_some (found c.loop-port.names c.port-item.result.name) ≡ true = not_false _ (sym c.in_ok-declare.ensures.new ∙ refused) in
    let h = ports_twice _ c.loop-port.names c.loop-port.names c.args.ports.now c.loop-port.port-index c.port-item.result c.loop-port-test.true item at.0 at.1 there rest in
    (h.0, at.2 ∙ h.1)

pub loop-port-preserved : goal.loop-port-preserved
loop-port-preserved c =
    let item : c.port-item.result ≡ get_or c.args.ports.now c.loop-port.port-index c.port-item.result = search rules in
    let fresh : c.in_ok-declare.field-0 ≡ true = search rules in
    let absent : is_some (found c.loop-port.names c.port-item.result.name) ≡ false = not_true _ (sym c.in_ok-declare.ensures.new ∙ fresh) in
    let gives = subst (λ (d : Declared). Gives c.loop-port.names c.declare.new.names c.port-item.result.name d) c.port_declaration.ensures (c.in_ok-declare.ensures.gives fresh) in (
      λ before notes rest.
          let at = c.loop-port.invariant.0 before notes rest in
          let h = ports_pass _ c.loop-port.names c.declare.new.names c.args.ports.now c.loop-port.port-index c.port-item.result c.loop-port-test.true item at.0 at.1 absent gives rest in
          (h.0, h.1, at.2 ∙ h.2),
      λ name. ports_step _ c.loop-port.names c.declare.new.names c.args.ports.now c.loop-port.port-index c.port-item.result c.loop-port-test.true item absent gives name
          ∙ c.loop-port.invariant.1 name,
    )

pub returns-clause-names : goal.returns-clause-names
returns-clause-names c = λ before notes rest.
    let at = c.loop-port.invariant.0 before notes rest in
    let none : drop c.loop-port.port-index c.args.ports.now ≡ [] = drop_all c.loop-port.port-index c.args.ports.now c.loop-port-test.false in
    (at.0, at.1, at.2 ∙ ap (λ ports. refusals at.0 (port_nets ports ++ rest)) none)

pub returns-clause-nets : goal.returns-clause-nets
returns-clause-nets c = λ fits name.
    let none : drop c.loop-port.port-index c.args.ports.now ≡ [] = drop_all c.loop-port.port-index c.args.ports.now c.loop-port-test.false in
    sym (or_none (net_declared (found c.loop-port.names name)))
    ∙ ap (λ ports. option_or (net_declared (found c.loop-port.names name)) (net_of ports [] name)) (sym none)
    ∙ c.loop-port.invariant.1 name
