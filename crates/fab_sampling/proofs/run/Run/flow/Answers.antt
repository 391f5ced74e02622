use Rattle.std.proofs.Common.{◌<◌, IfErr, OnOk, Some, refl, inl}
use Rattle.std.proofs.lemmas.Result.{IfErr-weaker, err_from_is_err_and, on_ok_weaker}
use Rattle.fab_desk.specs.Memory.{map_of}
use Rattle.fab_outputs.specs.Storing.{IsDone}
use Rattle.fab_sample_runs_laws.specs.fab_flow_Flowing.{FlowFiles, HasFlowCause, MakesFlow}
use Rattle.fab_sample_runs_laws.specs.Commands.{rounds}
use Rattle.fab_sampling.proofs.Ending.{flow_ends}
use Rattle.fab_sampling.proofs.Flowed.{has_flowed}
use Rattle.fab_sampling.proofs.Named.{flow_named, never}
use Rattle.fab_sampling.proofs.run.Run.flow.Goals as goal

pub returns-in_err-fabric-clause-ends : goal.returns-in_err-fabric-clause-ends
returns-in_err-fabric-clause-ends g c =
    let residual = err_from_is_err_and c.from_residual.result c.from_residual.ensures.1 in rw (residual.1, residual.2) (inl refl)

pub returns-in_err-blif-clause-ends : goal.returns-in_err-blif-clause-ends
returns-in_err-blif-clause-ends g c =
    let residual = err_from_is_err_and c.from_residual-in_err-blif.result c.from_residual-in_err-blif.ensures.1 in rw (residual.1, residual.2) (inl refl)

pub returns-in_err-base-clause-ends : goal.returns-in_err-base-clause-ends
returns-in_err-base-clause-ends g c =
    let residual = err_from_is_err_and c.from_residual-in_err-base.result c.from_residual-in_err-base.ensures.1 in rw (residual.1, residual.2) (inl refl)

pub returns-clause-done : goal.returns-clause-done
returns-clause-done g c =
    on_ok_weaker c.do_flow.result (λ done. has_flowed c.args.self.now c.do_flow.new.desk c.requires done)
    (flow_named (λ (n : FlowFiles). OnOk c.do_flow.result (IsDone (λ files. MakesFlow files n rounds) (Some (map_of c.args.self.now.shelf)) (Some (map_of c.do_flow.new.desk)))) _ _ _
    c.in_ok-fabric.ensures c.in_ok-blif.ensures c.in_ok-base.ensures c.do_flow.ensures.done)

pub returns-clause-ends : goal.returns-clause-ends
returns-clause-ends g c =
    IfErr-weaker c.do_flow.result _ _ (λ fault cause. flow_ends c.samples_are_ready.ensures c.args.self.now c.requires (0 < 0) (0 < 0) never never fault cause)
    (flow_named (λ (n : FlowFiles). IfErr c.do_flow.result (HasFlowCause (Some (map_of c.args.self.now.shelf)) n rounds (0 < 0) (0 < 0))) _ _ _
    c.in_ok-fabric.ensures c.in_ok-blif.ensures c.in_ok-base.ensures c.do_flow.ensures.cause)
