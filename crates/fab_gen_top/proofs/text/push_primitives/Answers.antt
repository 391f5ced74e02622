use Rattle.std.proofs.Common.{◌≡◌, ◌∙◌, ◌++◌, ap, map}
use Rattle.std.specs.List.{list_any}
use Rattle.std.proofs.lemmas.Result.{on_ok_weaker}
use Rattle.fab_kinds.specs.declared.kind.Kind.TheVariants as kinds
use Rattle.fab_syntax.specs.Plain.{plain_module}
use Rattle.fab_fabric.specs.Sites.{same_kind}
use Rattle.fab_text_loads_laws.specs.fab_fabric_text_defs_Text.{is_used}
use Rattle.fab_gen_top.proofs.Steps.{primitive_if, kinds_used}
use Rattle.fab_gen_top.proofs.text.push_primitives.Goals as goal

pub returns : goal.returns
returns c =
    let fabric = c.args.fabric.now in
    let old = map plain_module c.args.modules.now.items in
    let first : c.is_used.result ≡ is_used fabric kinds.Lut4c =
    c.is_used.ensures ∙ ap (list_any (λ tile. list_any (λ bel. same_kind bel.kind kinds.Lut4c) tile.bels)) c.requires.types in
    let second : c.is_used-2.result ≡ is_used fabric kinds.Io =
    c.is_used-2.ensures ∙ ap (list_any (λ tile. list_any (λ bel. same_kind bel.kind kinds.Io) tile.bels)) c.requires.types in
    let third : c.is_used-3.result ≡ is_used fabric kinds.Mux8 =
    c.is_used-3.ensures ∙ ap (list_any (λ tile. list_any (λ bel. same_kind bel.kind kinds.Mux8) tile.bels)) c.requires.types in
    on_ok_weaker c.push_primitive-3.result
    (λ last.
    last
    ∙ ap (λ xs. xs ++ primitive_if c.is_used-3.result kinds.Mux8)
    (c.in_ok-push_primitive-2.ensures ∙ ap (λ xs. xs ++ primitive_if c.is_used-2.result kinds.Io) c.in_ok-push_primitive.ensures)
    ∙ (λ j. ((old ++ primitive_if (first j) kinds.Lut4c) ++ primitive_if (second j) kinds.Io) ++ primitive_if (third j) kinds.Mux8)
    ∙ kinds_used (is_used fabric) old)
    c.push_primitive-3.ensures
