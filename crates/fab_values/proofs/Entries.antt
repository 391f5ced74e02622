-- The map of the declared names finds what their list says.
use Rattle.std.proofs.Common.{◌≡◌, ℕ, suc, ◌+◌, Bool, true, false, cond, not, nat_lt, length, List, [], ◌∷◌, ◌++◌, Vec, map, Option, Some, None, refl, sym, ap, ◌∙◌, inl, inr, arith, subst}
use Rattle.std.proofs.lemmas.Bool.{cases_Bool}
use Rattle.std.proofs.lemmas.List.{map-append}
use Rattle.std.specs.Str.{bytes_eq}
use Rattle.std.specs.Map.{lookup}
use Rattle.std.specs.List.{position, prefix_len}
use Rattle.fab_values.specs.Declarations.{Declaration, width, bits_of, found_from, number_of}
use Rattle.fab_values.specs.Places.{declared, AreFrom}
use Rattle.fab_values.specs.declared.names.Local.{Local}

pub bits_to_end : {A : Type 0} (first end : ℕ) (entries : List (Vec ℕ A × Local)) → AreFrom first end entries → end ≡ first + bits_of (map declared entries)
bits_to_end first end [] are = omega (arith, are)
bits_to_end first end (entry ∷ entries) are = omega (arith, bits_to_end (first + width entry.1.shape) end entries are.1)

pub lookup_found : {A : Type 0} (name : List ℕ) (first end : ℕ) (entries : List (Vec ℕ A × Local)) → AreFrom first end entries →
    lookup (λ key. bytes_eq name key.items) entries ≡ found_from first (map declared entries) name
lookup_found name first end [] are = refl
lookup_found name first end (entry ∷ entries) are =
    let rest : lookup (λ key. bytes_eq name key.items) entries ≡ found_from (first + width entry.1.shape) (map declared entries) name =
    lookup_found name (first + width entry.1.shape) end entries are.1 in
    let here : entry.1 ≡ record { first = first; shape = entry.1.shape; role = entry.1.role } =
    ap (λ (f : ℕ). let local : Local = record { first = f; shape = entry.1.shape; role = entry.1.role } in local) are.0 in
    λ j. cond (bytes_eq name entry.0.items) (Some (here j)) (rest j)

pub from_more : {A : Type 0} (first end : ℕ) (entries : List (Vec ℕ A × Local)) (key : Vec ℕ A) (local : Local) → AreFrom first end entries → local.first ≡ end →
    AreFrom first (end + width local.shape) (entries ++ (key, local) ∷ [])
from_more first end [] key local are starts = (starts ∙ are, ap (λ n. n + width local.shape) are)
from_more first end (entry ∷ entries) key local are starts = (are.0, from_more (first + width entry.1.shape) end entries key local are.1 starts)

passed_over : {A : Type 0} (name : List ℕ) (entries : List (Vec ℕ A × Local)) →
    prefix_len (λ key. not (bytes_eq name key.items)) (map (λ entry. entry.0) entries) ≡ prefix_len (λ d. not (bytes_eq name d.name)) (map declared entries)
passed_over name [] = refl
passed_over name (entry ∷ entries) = ap (λ n. cond (not (bytes_eq name entry.0.items)) (1 + n) 0) (passed_over name entries)

as_many : {A : Type 0} (entries : List (Vec ℕ A × Local)) → length (map (λ entry. entry.0) entries) ≡ length (map declared entries)
as_many [] = refl
as_many (entry ∷ entries) = ap suc (as_many entries)

-- a key stands among the entries where its name stands among the declarations
pub position_declared : {A : Type 0} (name : List ℕ) (entries : List (Vec ℕ A × Local)) →
    position (λ key. bytes_eq name key.items) (map (λ entry. entry.0) entries) ≡ number_of (map declared entries) name
position_declared name entries = λ j. cond (nat_lt (passed_over name entries j) (as_many entries j)) (Some (passed_over name entries j)) None
