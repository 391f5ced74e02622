-- The last module of a text as plain data.
use Rattle.std.proofs.Common.{◌≡◌, ℕ, zero, suc, ◌-◌, List, [], ◌∷◌, ◌++◌, map, length, slice_get, Option, option_map, option_to_list, Some, append_assoc, sym, ap, ◌∙◌, subst, arith}
use Rattle.std.proofs.lemmas.List.{map-append}
use Rattle.fab_syntax.specs.declared.tree.Module.{Module}
use Rattle.fab_syntax.specs.Plain.{plain_module}
use Rattle.fab_meaning.specs.Points.{last_of}
use Rattle.fab_serial.specs.Module.{serial_module, serial_top, serial_text}

last_at : (modules : List Module) (k : ℕ) (m : Module) → length modules ≡ suc k → slice_get modules k ≡ Some m → last_of (map plain_module modules) ≡ Some (plain_module m)
last_at [] k m long found = absurd (omega (arith, long))
last_at (first ∷ []) k m long found =
    let first_one : k ≡ 0 = omega (arith, long) in
    let at : Some first ≡ Some m = subst (λ j. slice_get (first ∷ []) j ≡ Some m) first_one found in
    ap (λ o. option_map plain_module o) at
last_at (first ∷ second ∷ modules) zero m long found = absurd (omega (arith, long))
last_at (first ∷ second ∷ modules) (suc k) m long found = last_at (second ∷ modules) k m (omega (arith, long)) found

pub last_plain : (modules : List Module) (m : Module) → Some m ≡ slice_get modules (length modules - 1) → last_of (map plain_module modules) ≡ Some (plain_module m)
last_plain [] m found = cc
last_plain (first ∷ modules) m found =
    let place : length (first ∷ modules) - 1 ≡ length modules = omega arith in
    last_at (first ∷ modules) (length modules) m (omega arith) (ap (slice_get (first ∷ modules)) (sym place) ∙ sym found)

-- the modules of a text, the port, and the new top where there is one
pub with_port : (modules lent : List Module) (port : Module) (top : Option Module) (all : List Module) → lent ≡ modules → plain_module port ≡ serial_module →
    map plain_module (option_to_list top) ≡ map serial_top (option_to_list (last_of (map plain_module lent))) → all ≡ (modules ++ port ∷ []) ++ option_to_list top →
    map plain_module all ≡ serial_text (map plain_module modules)
with_port modules lent port top all same port_is top_is all_are =
    let behind : map plain_module (option_to_list top) ≡ map serial_top (option_to_list (last_of (map plain_module modules))) =
    top_is ∙ ap (λ ms. map serial_top (option_to_list (last_of (map plain_module ms)))) same in
    ap (map plain_module) (all_are ∙ append_assoc modules (port ∷ []) (option_to_list top))
    ∙ (map-append plain_module modules (port ∷ option_to_list top)
    ∙ (λ j. map plain_module modules ++ port_is j ∷ behind j))
