use Rattle.std.proofs.Common.{ap}
use Rattle.std.proofs.lemmas.Result.{IfOk-weaker}
use Rattle.fab_implementation.specs.fab_fabric.specs.Wires.{numbered_wire}
use Rattle.fab_legal.proofs.texts.wire_text.Goals as goal

pub returns : goal.returns
returns c =
    let place = c.wires_are_numbered.ensures.some_place c.args.fabric.now c.args.wire.0 c.requires in
    IfOk-weaker c.wire_name.result _ _
    (λ name named. record {
      x = place.0;
      y = place.1;
      number = place.2;
      inside = place.3;
      wire_is = ap numbered_wire place.4;
      text_is = named place.0 place.1 place.2 place.3 place.4;
    })
    c.wire_name.ensures
