use Rattle.std.proofs.Common.{◌∙◌, ◌++◌, ap, map, sym}
use Rattle.std.proofs.lemmas.Result.{on_ok_weaker}
use Rattle.fab_syntax.specs.Plain.{plain_item}
use Rattle.fab_text_loads_laws.specs.fab_fabric_text_defs_Top.{chain_wire, carrying_items}
use Rattle.fab_gen_top.specs.inner.Standing.{placed_of}
use Rattle.fab_gen_top.proofs.Steps.{seen_twice}
use Rattle.fab_gen_top.proofs.wires.push_carrying.Goals as goal

pub returns-in-Chain : goal.returns-in-Chain
returns-in-Chain c =
    let fabric = c.args.fabric.now in
    let are =
    ap (λ mode. carrying_items mode fabric) (sym c.text_mode.ensures ∙ c.in-Chain.is)
    ∙ ap (map chain_wire) (sym c.requires)
    ∙ seen_twice chain_wire (placed_of fabric) c.args.places.now in
    on_ok_weaker c.push_chain_wires.result (λ made. made ∙ ap (λ ws. map plain_item c.args.items.now.items ++ ws) (sym are)) c.push_chain_wires.ensures
