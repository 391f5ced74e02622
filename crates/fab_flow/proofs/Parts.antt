-- A printed text in three parts: up to some of its modules, these, and what follows them.
use Rattle.std.proofs.Common.{◌≡◌, ◌≤◌, ◌+◌, ◌∙◌, ℕ, List, [], ◌∷◌, ◌++◌, length, map, take, drop, refl, sym, ap, arith, length-append, append_assoc}
use Rattle.std.specs.List.{remove_range}
use Rattle.std.proofs.lemmas.List.{take-append-drop, take-take, take-map, drop-map, map-append}
use Rattle.fab_syntax.specs.declared.tree.Module.{Module}
use Rattle.fab_syntax.specs.Plain.{PlainModule, plain_module}
use Rattle.fab_syntax.specs.Spelling.{module_text, text_bytes}

abbrev pub printed : List Module → List ℕ
printed modules = text_bytes (map plain_module modules)

-- the modules of two lists one behind the other
pub bytes_of_both : (ms ns : List PlainModule) → text_bytes (ms ++ ns) ≡ text_bytes ms ++ text_bytes ns
bytes_of_both [] ns = refl
bytes_of_both (m ∷ ms) ns = ap (λ bytes. module_text m ++ bytes) (bytes_of_both ms ns) ∙ sym (append_assoc (module_text m) (text_bytes ms) (text_bytes ns))

printed_both : (ms ns : List Module) → printed (ms ++ ns) ≡ printed ms ++ printed ns
printed_both ms ns = ap text_bytes (map-append plain_module ms ns) ∙ bytes_of_both (map plain_module ms) (map plain_module ns)

-- a list and what stands behind a place in it
printed_at : (place : ℕ) (modules : List Module) → printed (take place modules) ++ printed (drop place modules) ≡ printed modules
printed_at place modules = sym (printed_both (take place modules) (drop place modules)) ∙ ap printed (take-append-drop place modules)

-- the three printed lists that two splits give, put together
pub whole_printed : (from to : ℕ) (modules first front loaders behind : List Module) → first ≡ take to modules → behind ≡ drop to modules
    → front ≡ take from first → loaders ≡ drop from first → printed front ++ (printed loaders ++ printed behind) ≡ printed modules
whole_printed from to modules first front loaders behind first_is behind_is front_is loaders_are =
    sym (append_assoc (printed front) (printed loaders) (printed behind))
    ∙ (λ j. (printed (front_is j) ++ printed (loaders_are j)) ++ printed (behind_is j))
    ∙ ap (λ bytes. bytes ++ printed (drop to modules)) (printed_at from first ∙ ap printed first_is)
    ∙ printed_at to modules

-- and how long the outer two are
pub outer_length : (from to : ℕ) (modules first front behind : List Module) → from ≤ to → first ≡ take to modules → behind ≡ drop to modules
    → front ≡ take from first → length (printed front) + length (printed behind) ≡ length (text_bytes (remove_range (map plain_module modules) from to))
outer_length from to modules first front behind order first_is behind_is front_is =
    let front_part : printed front ≡ text_bytes (take from (map plain_module modules)) =
    ap printed (front_is ∙ ap (take from) first_is ∙ take-take from to modules order) ∙ ap text_bytes (sym (take-map plain_module from modules)) in
    let behind_part : printed behind ≡ text_bytes (drop to (map plain_module modules)) = ap printed behind_is ∙ ap text_bytes (sym (drop-map plain_module to modules)) in
    let whole = ap length (bytes_of_both (take from (map plain_module modules)) (drop to (map plain_module modules))) in
    let joined = length-append (text_bytes (take from (map plain_module modules))) (text_bytes (drop to (map plain_module modules))) in
    let front_length = ap length front_part in
    let behind_length = ap length behind_part in
    omega (arith, whole, joined, front_length, behind_length)
