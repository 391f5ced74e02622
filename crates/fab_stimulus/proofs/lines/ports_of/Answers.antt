use Rattle.std.proofs.Common.{List, ap, ◌∙◌, take}
use Rattle.fab_implementation.specs.Plain.{Pad}
use Rattle.fab_texts.specs.Rows.{Word}
use Rattle.fab_lines.specs.Items.{is_among}
use Rattle.fab_stimulus.specs.Stimuli.{ports_of}
use Rattle.fab_stimulus.proofs.Once.{new_port}
use Rattle.fab_stimulus.proofs.lines.ports_of.Goals as goal

pub add-requires : goal.add-requires
add-requires c =
    let pads = c.args.pads.now in
    let i = c.loop-port.port-index in
    ap (λ (ports : List Word). is_among ports c.bytes.result.now) c.loop-port.invariant
    ∙ ap (λ (word : Word). is_among (ports_of (take i pads)) word) (c.bytes.ensures ∙ ap (λ (pad : Pad). pad.0) c.loop-port-item.is)
    ∙ new_port pads i c.loop-port-item.result c.loop-port-test.true c.requires
