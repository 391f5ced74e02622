use Rattle.std.proofs.Common.{◌≡◌, ◌∙◌, ◌++◌, ◌∷◌, [], List, ap, map, subst, sym, append_assoc}
use Rattle.std.specs.List.{flat_map}
use Rattle.std.proofs.lemmas.List.{map_push}
use Rattle.fab_syntax.specs.declared.tree.Module.{Module}
use Rattle.fab_syntax.specs.Plain.{PlainModule, plain_module}
use Rattle.fab_prim.specs.Modules.{module_of_kind}
use Rattle.fab_text_loads_laws.specs.fab_fabric_text_defs_Top.{top_module}
use Rattle.fab_text_loads_laws.specs.fab_fabric_text_defs_Text.{used_kinds, standing_types, tile_modules}
use Rattle.fab_text_loads_laws.specs.fab_fabric_text_defs_Mode.{text_mode}
use Rattle.fab_text_loads_laws.specs.fab_fabric_text_defs_Texts.{loaders_of}
use Rattle.fab_drives_laws.specs.Drives.{ShowsDrives}
use Rattle.fab_drives_laws.proofs.Loaders.{loaders_named}
use Rattle.fab_syntax.specs.Sound.{IsSound}
use Rattle.fab_gen_top.specs.inner.Standing.{type_of}
use Rattle.fab_gen_top.proofs.text.generate.Goals as goal

pub returns-clause-text : goal.returns-clause-text
returns-clause-text c =
    let fabric = c.args.fabric.now in
    let used : List PlainModule = map module_of_kind (used_kinds fabric) in
    let tiles : List PlainModule = flat_map (tile_modules (text_mode fabric)) (standing_types fabric) in
    let loaders : List PlainModule = loaders_of (text_mode fabric) fabric.rows in
    let primitives_made : map plain_module c.push_primitives.new.modules.items ≡ used =
    c.in_ok-push_primitives.ensures ∙ ap (λ (ms : List Module). map plain_module ms ++ used) c.new-modules.ensures.items in
    let types_made : map plain_module c.push_types.new.modules.items ≡ used ++ tiles =
    c.in_ok-push_types.ensures
    ∙ (λ j. primitives_made j ++ flat_map (tile_modules (text_mode fabric)) ((ap (map (type_of fabric)) c.deref-2.ensures.value ∙ c.in_ok-standing.ensures.types) j)) in
    let with_loaders : map plain_module c.push_loaders.new.modules.items ≡ (used ++ tiles) ++ loaders =
    c.in_ok-push_loaders.ensures.modules ∙ ap (λ ms. ms ++ loaders) types_made in
    ap (map plain_module) c.in_ok-push.ensures.items
    ∙ map_push plain_module c.push_loaders.new.modules.items _
    ∙ (λ j. with_loaders j ++ c.in_ok-top_module.ensures j ∷ [])
    ∙ append_assoc (used ++ tiles) loaders (top_module fabric ∷ [])
    ∙ append_assoc used tiles (loaders ++ top_module fabric ∷ [])

pub returns-clause-is_text : goal.returns-clause-is_text
returns-clause-is_text c named =
    let fabric = c.args.fabric.now in
    let standing = c.in_ok-standing.ensures in
    record {
      loaders = loaders_of (text_mode fabric) fabric.rows;
      are = c.in_ok-push_loaders.ensures.loaders;
      is = returns-clause-text c;
      sound = subst IsSound (sym (returns-clause-text c)) (c.fabric_texts_are_sound.ensures fabric standing.is_fabric standing.are_tiles named);
    }

pub returns-clause-drives : goal.returns-clause-drives
returns-clause-drives c =
    let fabric = c.args.fabric.now in
    subst (ShowsDrives fabric) (sym (returns-clause-text c))
    (c.fabric_texts_show_drives.ensures fabric (loaders_of (text_mode fabric) fabric.rows) c.in_ok-standing.ensures.is_fabric c.in_ok-standing.ensures.are_tiles
    (loaders_named c.in_ok-push_loaders.ensures.loaders))

pub returns-clause-loads : goal.returns-clause-loads
returns-clause-loads c named =
    let fabric = c.args.fabric.now in
    c.fabric_texts_load.ensures fabric _ c.in_ok-standing.ensures.is_fabric (returns-clause-is_text c named)
