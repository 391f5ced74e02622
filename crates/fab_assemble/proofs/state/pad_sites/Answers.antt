use Rattle.std.proofs.Common.{List, map, reverse, sym, ◌∙◌, subst}
use Rattle.fab_implementation.specs.Plain.{Pad}
use Rattle.fab_assemble.specs.inner.Sites.{HoldPads}
use Rattle.fab_assemble.proofs.Sites.{last_first, pads_more}
use Rattle.fab_assemble.proofs.state.pad_sites.Goals as goal

pub loop-port-preserved : goal.loop-port-preserved
loop-port-preserved c =
    let line = c.in-Some.field-0 in
    subst (λ (lines : List Pad). HoldPads lines c.insert.new.self.entries) (sym (last_first (λ line. line.now) c.loop-port.yielded line))
    (pads_more (reverse (map (λ line. line.now) c.loop-port.yielded)) line.now c.loop-port.sites.entries c.insert.new.self.entries c.in_ok-key.key
    (c.in_ok-key.ensures.items ∙ c.bytes.ensures) c.loop-port.invariant c.in_ok-insert.ensures.entries)
