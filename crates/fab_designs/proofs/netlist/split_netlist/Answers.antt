use Rattle.std.proofs.Common.{inl}
use Rattle.std.proofs.lemmas.Result.{IfErr-weaker, IfOk-weaker, err_from_is_err_and}
use Rattle.fab_designs.proofs.Parts.{split_is_refused, split_is_spelled}
use Rattle.fab_designs.proofs.SplitNetlists.{netlist_made}
use Rattle.fab_designs.proofs.netlist.split_netlist.Goals as goal

pub returns-in_err-netlist-clause-refused : goal.returns-in_err-netlist-clause-refused
returns-in_err-netlist-clause-refused c =
    let residual = err_from_is_err_and c.from_residual.result c.from_residual.ensures.1 in
    rw (residual.1, residual.2) (λ some. inl (c.in_err-netlist.ensures.refused some))

pub split-requires : goal.split-requires
split-requires c = c.in_ok-netlist.ensures.made

pub returns-clause-spelled : goal.returns-clause-spelled
returns-clause-spelled c =
    let read = c.in_ok-netlist.ensures in
    split_is_spelled c.args.bytes.now c.in_ok-netlist.netlist c.split.result read.fine read.netlist c.split.ensures.fits c.split.ensures.split

pub returns-clause-acyclic : goal.returns-clause-acyclic
returns-clause-acyclic c = IfOk-weaker c.split.result _ _ (λ netlist kept. kept c.in_ok-netlist.ensures.acyclic) c.split.ensures.acyclic

pub returns-clause-small : goal.returns-clause-small
returns-clause-small c =
    let read = c.in_ok-netlist.ensures in
    IfOk-weaker c.split.result _ _ (λ netlist spelled. (netlist_made c.args.bytes.now netlist spelled).small)
    (split_is_spelled c.args.bytes.now c.in_ok-netlist.netlist c.split.result read.fine read.netlist c.split.ensures.fits c.split.ensures.split)

pub returns-clause-refused : goal.returns-clause-refused
returns-clause-refused c =
    let read = c.in_ok-netlist.ensures in
    IfErr-weaker c.split.result _ _
    (λ fault told some. split_is_refused c.args.blif.now c.args.bytes.now c.last_line.result c.in_ok-netlist.netlist fault read.fine read.netlist c.last_line.ensures told some)
    c.split.ensures.refused
