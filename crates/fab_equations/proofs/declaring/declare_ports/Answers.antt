use Rattle.std.proofs.Common.{◌≡◌, ◌++◌, [], ◌∷◌, ◌∙◌}
use Rattle.fab_values.specs.Declarations.{Declaration, port_declaration}
use Rattle.fab_equations.proofs.NamedOnce.{ports_step, kept_firsts}
use Rattle.fab_equations.proofs.declaring.declare_ports.Goals as goal

pub declare-requires : goal.declare-requires
declare-requires c =
    (ports_step c.args.ports.now c.loop-port.port-index c.port-item.result c.args.declared.now.names c.loop-port.declared.names c.loop-port-test.true c.port-item.is
    c.loop-port.invariant.0 c.requires).0

pub loop-port-preserved : goal.loop-port-preserved
loop-port-preserved c =
    let port = c.port-item.result in
    let pushed : c.declare.new.self.names ≡ c.loop-port.declared.names ++ port_declaration port ∷ [] =
    c.in_ok-declare.ensures.names
    ∙ (λ j. c.loop-port.declared.names ++ (let d : Declaration = record { name = port.name; shape = port.shape; role = c.role_of_port-role.ensures j } in d) ∷ []) in (
      pushed
          ∙ (ports_step c.args.ports.now c.loop-port.port-index port c.args.declared.now.names c.loop-port.declared.names c.loop-port-test.true c.port-item.is
          c.loop-port.invariant.0 c.requires).1,
      λ from. kept_firsts c.loop-port.declared.names c.declare.new.self.names (port_declaration port) c.loop-port.declared.firsts.items c.declare.new.self.firsts.items pushed
          c.in_ok-declare.ensures.firsts (c.loop-port.invariant.1 from),
    )
