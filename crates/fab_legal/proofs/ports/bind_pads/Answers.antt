use Rattle.std.proofs.Common.{◌∙◌, refl}
use Rattle.fab_bits.specs.Keys.{key_names}
use Rattle.fab_legal.proofs.PortNumbers.{bound_names, wrong_names, unnamed_names, as_many_names}
use Rattle.fab_legal.proofs.ports.bind_pads.Goals as goal

pub returns-in-Sites : goal.returns-in-Sites
returns-in-Sites c =
    let bound = bound_names c.args.fabric.now (key_names c.args.names.keys) c.args.pads.now c.len.result c.deref.result.now c.in_ok-sites.field-0 (as_many_names c.args.names.keys c.len.result c.len.ensures.len)
    (c.deref.ensures.value ∙ c.in_ok-lines.ensures) c.in_ok-sites.ensures c.in-Sites.sites c.in-Sites.is in
    (bound.0, record { names_are = refl; lines_are = c.in_ok-lines.ensures; sites_are = bound.1 })

pub returns-in-WrongLine : goal.returns-in-WrongLine
returns-in-WrongLine c =
    wrong_names c.args.fabric.now (key_names c.args.names.keys) c.args.pads.now c.len.result c.deref.result.now c.in_ok-sites.field-0 (as_many_names c.args.names.keys c.len.result c.len.ensures.len)
    (c.deref.ensures.value ∙ c.in_ok-lines.ensures) c.in_ok-sites.ensures c.in-WrongLine.place c.in-WrongLine.is

pub returns-in-Unnamed : goal.returns-in-Unnamed
returns-in-Unnamed c =
    unnamed_names c.args.fabric.now (key_names c.args.names.keys) c.args.pads.now c.len.result c.deref.result.now c.in_ok-sites.field-0 (as_many_names c.args.names.keys c.len.result c.len.ensures.len)
    (c.deref.ensures.value ∙ c.in_ok-lines.ensures) c.in_ok-sites.ensures c.in-Unnamed.number c.requires.apart c.in-Unnamed.is
