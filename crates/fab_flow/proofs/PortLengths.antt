-- The same of a text with a serial port: where its loaders stand, and how much longer it is than the text without them.
use Rattle.std.proofs.Common.{◌≡◌, ◌≤◌, ◌+◌, ◌-◌, ◌∙◌, ℕ, List, [], ◌∷◌, ◌++◌, length, refl, sym, ap, arith, append_assoc, length-append}
use Rattle.std.specs.List.{remove_range}
use Rattle.fab_syntax.specs.Plain.{PlainModule}
use Rattle.fab_syntax.specs.Spelling.{text_bytes}
use Rattle.fab_meaning.specs.Points.{last_of}
use Rattle.fab_model.specs.Grid.{PlainFabric}
use Rattle.fab_assemble.specs.fab_fabric_text_defs_Top.{top_module}
use Rattle.fab_assemble.specs.fab_fabric_text_defs_Text.{fabric_text}
use Rattle.fab_serial.specs.Module.{serial_module, serial_top, serial_text}
use Rattle.fab_flow.specs.Generating.{generated_text, unloaded_text}
use Rattle.fab_flow.specs.Serial.{text_with_port, serial_length}
use Rattle.fab_flow.proofs.Lengths.{made_loaders, front_of, in_front, without, text_long, little_more}

-- the last module of a list that ends so
last_behind : (front : List PlainModule) (m : PlainModule) → last_of (front ++ m ∷ []) ≡ last_of (m ∷ [])
last_behind [] m = refl
last_behind (x ∷ []) m = refl
last_behind (x ∷ y ∷ front) m = last_behind (y ∷ front) m

-- the port and the top in front of it
abbrev port_of : PlainFabric → List PlainModule
port_of fabric = serial_module ∷ serial_top (top_module fabric) ∷ []

-- with any loaders
with_loaders : (fabric : PlainFabric) (loaders : List PlainModule) → serial_text (fabric_text fabric loaders) ≡ front_of fabric ++ (loaders ++ top_module fabric ∷ port_of fabric)
with_loaders fabric loaders =
    let top = top_module fabric in
    let is = in_front fabric loaders ∙ sym (append_assoc (front_of fabric) loaders (top ∷ [])) in
    let last = ap last_of is ∙ last_behind (front_of fabric ++ loaders) top in
    rw (last, is)
    (append_assoc (front_of fabric ++ loaders) (top ∷ []) (port_of fabric)
    ∙ append_assoc (front_of fabric) loaders (top ∷ port_of fabric))

with_port : (fabric : PlainFabric) → text_with_port fabric ≡ front_of fabric ++ (made_loaders fabric ++ top_module fabric ∷ port_of fabric)
with_port fabric = with_loaders fabric (made_loaders fabric)

pub port_text_long : (fabric : PlainFabric) (modules : List PlainModule) → modules ≡ text_with_port fabric → length modules ≡ length (front_of fabric) + length (made_loaders fabric) + 3
port_text_long fabric modules is =
    let whole = ap length (is ∙ with_port fabric) in
    let front = length-append (front_of fabric) (made_loaders fabric ++ top_module fabric ∷ port_of fabric) in
    let loaders = length-append (made_loaders fabric) (top_module fabric ∷ port_of fabric) in
    omega (arith, whole, front, loaders)

pub port_without_loaders : (fabric : PlainFabric) (modules : List PlainModule) (top : ℕ) → modules ≡ text_with_port fabric
    → top + 1 ≡ length (generated_text fabric) → remove_range modules (top - length (made_loaders fabric)) top ≡ serial_text (unloaded_text fabric)
port_without_loaders fabric modules top is at =
    let long = text_long fabric (generated_text fabric) refl in
    let ends : top ≡ length (front_of fabric) + length (made_loaders fabric) = omega (arith, long, at) in
    let begins : top - length (made_loaders fabric) ≡ length (front_of fabric) = omega (arith, ends) in
    (λ j. remove_range ((is ∙ with_port fabric) j) (begins j) (ends j))
    ∙ without (front_of fabric) (made_loaders fabric) (top_module fabric ∷ port_of fabric)
    ∙ sym (with_loaders fabric [])

pub longer_with_port : (fabric : PlainFabric) → fabric.rows ≤ 31 → length (text_bytes (text_with_port fabric)) ≤ serial_length fabric + 65536
longer_with_port fabric few =
    let whole = ap (λ (ms : List PlainModule). length (text_bytes ms)) (with_port fabric) in
    let unloaded = ap (λ (ms : List PlainModule). length (text_bytes ms)) (with_loaders fabric []) in
    let more = little_more fabric (top_module fabric ∷ port_of fabric) few in
    omega (arith, whole, unloaded, more)
