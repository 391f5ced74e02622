use Rattle.std.proofs.Common.{sym, subst}
use Rattle.fab_implementation.specs.Plain.{Pad}
use Rattle.fab_implementation.specs.OnFabric.{IsSite}
use Rattle.fab_impl.proofs.writer.put_pads.Goals as goal

pub site_text-requires : goal.site_text-requires
site_text-requires c = subst (λ (pad : Pad). IsSite c.args.fabric.now pad.1) (sym c.loop-port-item.is) (c.requires c.loop-port.port-index c.loop-port-item.result c.loop-port-test.true)
