-- How long the printed text of a fabric is with its loaders, and where these stand.
use Rattle.std.proofs.Common.{◌≡◌, ◌≤◌, ◌+◌, ◌-◌, ◌∙◌, ℕ, List, [], ◌∷◌, ◌++◌, length, map, drop, refl, sym, ap, arith, append_assoc, length-append}
use Rattle.std.specs.List.{flat_map, remove_range}
use Rattle.std.proofs.lemmas.List.{take_at, drop_at}
use Rattle.fab_syntax.specs.Plain.{PlainModule}
use Rattle.fab_syntax.specs.Spelling.{module_text, text_bytes}
use Rattle.fab_prim.specs.Modules.{module_of_kind}
use Rattle.fab_model.specs.declared.mode.Mode.{Mode}
use Rattle.fab_model.specs.declared.mode.Mode.TheVariants as modes
use Rattle.fab_model.specs.Grid.{PlainFabric}
use Rattle.fab_gen_loader.specs.Expressions.{loader_module}
use Rattle.fab_gen_loader.proofs.Small.{is_small}
use Rattle.fab_gen_top.specs.fab_fabric_text_defs_Mode.{text_mode}
use Rattle.fab_assemble.specs.fab_fabric_text_defs_Top.{top_module}
use Rattle.fab_assemble.specs.fab_fabric_text_defs_Text.{used_kinds, standing_types, tile_modules, fabric_text}
use Rattle.fab_assemble.specs.fab_fabric_text_defs_Texts.{loaders_of}
use Rattle.fab_flow.specs.Generating.{generated_text, unloaded_text, text_length}
use Rattle.fab_flow.proofs.Parts.{bytes_of_both}

-- the loaders that the generator makes
abbrev pub made_loaders : PlainFabric → List PlainModule
made_loaders fabric = loaders_of (text_mode fabric) fabric.rows

-- they are short
loaders_short : (mode : Mode) (rows : ℕ) → rows ≤ 31 → length (text_bytes (loaders_of mode rows)) ≤ 65536
loaders_short modes.Frames rows few =
    let alone = length-append (module_text (loader_module rows)) [] in
    let small = (is_small rows (loader_module rows) few refl).short in
    omega (arith, alone, small)
loaders_short modes.Chain rows few = omega arith

-- what stands in front of them
abbrev pub front_of : PlainFabric → List PlainModule
front_of fabric = map module_of_kind (used_kinds fabric) ++ flat_map (tile_modules (text_mode fabric)) (standing_types fabric)

pub in_front : (fabric : PlainFabric) (loaders : List PlainModule) → fabric_text fabric loaders ≡ front_of fabric ++ (loaders ++ top_module fabric ∷ [])
in_front fabric loaders =
    sym (append_assoc (map module_of_kind (used_kinds fabric)) (flat_map (tile_modules (text_mode fabric)) (standing_types fabric)) (loaders ++ top_module fabric ∷ []))

-- modules behind others and before others
length_between : (front loaders behind : List PlainModule)
    → length (text_bytes (front ++ (loaders ++ behind))) ≡ length (text_bytes (front ++ behind)) + length (text_bytes loaders)
length_between front loaders behind =
    let whole = ap length (bytes_of_both front (loaders ++ behind)) in
    let rest = ap length (bytes_of_both loaders behind) in
    let without = ap length (bytes_of_both front behind) in
    let first = length-append (text_bytes front) (text_bytes (loaders ++ behind)) in
    let second = length-append (text_bytes loaders) (text_bytes behind) in
    let third = length-append (text_bytes front) (text_bytes behind) in
    omega (arith, whole, rest, without, first, second, third)

-- so a text with its loaders in it is little longer than without
pub little_more : (fabric : PlainFabric) (behind : List PlainModule) → fabric.rows ≤ 31
    → length (text_bytes (front_of fabric ++ (made_loaders fabric ++ behind))) ≤ length (text_bytes (front_of fabric ++ behind)) + 65536
little_more fabric behind few =
    let parts = length_between (front_of fabric) (made_loaders fabric) behind in
    let short = loaders_short (text_mode fabric) fabric.rows few in
    omega (arith, parts, short)

pub little_longer : (fabric : PlainFabric) → fabric.rows ≤ 31 → length (text_bytes (generated_text fabric)) ≤ text_length fabric + 65536
little_longer fabric few =
    let with_loaders = ap (λ (ms : List PlainModule). length (text_bytes ms)) (in_front fabric (made_loaders fabric)) in
    let without = ap (λ (ms : List PlainModule). length (text_bytes ms)) (in_front fabric []) in
    let more = little_more fabric (top_module fabric ∷ []) few in
    omega (arith, with_loaders, without, more)

-- ---- the loaders in their text

-- a list without what stands behind its first part
pub without : (front loaders behind : List PlainModule) → remove_range (front ++ (loaders ++ behind)) (length front) (length front + length loaders) ≡ front ++ behind
without front loaders behind =
    let last : drop (length front + length loaders) (front ++ (loaders ++ behind)) ≡ behind =
    ap (drop (length front + length loaders)) (sym (append_assoc front loaders behind))
    ∙ drop_at (front ++ loaders) behind (length front + length loaders) (length-append front loaders) in
    (λ j. take_at front (loaders ++ behind) (length front) refl j ++ last j)

-- they stand right in front of the top
pub text_long : (fabric : PlainFabric) (modules : List PlainModule) → modules ≡ generated_text fabric → length modules ≡ length (front_of fabric) + length (made_loaders fabric) + 1
text_long fabric modules is =
    let whole = ap length (is ∙ in_front fabric (made_loaders fabric)) in
    let front = length-append (front_of fabric) (made_loaders fabric ++ top_module fabric ∷ []) in
    let loaders = length-append (made_loaders fabric) (top_module fabric ∷ []) in
    omega (arith, whole, front, loaders)

-- the text without them, where the top stands at a place
pub without_loaders : (fabric : PlainFabric) (modules : List PlainModule) (top : ℕ) → modules ≡ generated_text fabric → top + 1 ≡ length modules
    → remove_range modules (top - length (made_loaders fabric)) top ≡ unloaded_text fabric
without_loaders fabric modules top is at =
    let long = text_long fabric modules is in
    let ends : top ≡ length (front_of fabric) + length (made_loaders fabric) = omega (arith, long, at) in
    let begins : top - length (made_loaders fabric) ≡ length (front_of fabric) = omega (arith, ends) in
    (λ j. remove_range ((is ∙ in_front fabric (made_loaders fabric)) j) (begins j) (ends j))
    ∙ without (front_of fabric) (made_loaders fabric) (top_module fabric ∷ [])
    ∙ sym (in_front fabric [])
