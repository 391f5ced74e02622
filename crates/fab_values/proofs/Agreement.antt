-- The bits of an instance are the names of an assignment.
use Rattle.std.proofs.Common.{◌≡◌, ℕ, zero, suc, ◌+◌, Bool, true, false, cond, List, [], ◌∷◌, ◌++◌, length, take, drop, map, Option, Some, None, refl, sym, ap, ◌∙◌, subst, inl, inr, arith}
use Rattle.std.proofs.Math.Seq.{take-append_seam, drop-append_seam}
use Rattle.std.proofs.lemmas.Bool.{cases_Bool, false≢true}
use Rattle.std.proofs.lemmas.List.{map-append}
use Rattle.std.proofs.lemmas.Slice.Eq.{bytes_eq-Decides}
use Rattle.std.specs.Str.{bytes_eq}
use Rattle.fab_bits.specs.Bits.{first_bits}
use Rattle.fab_bits.proofs.Numbers.{length_first_bits, first_bits_same}
use Rattle.fab_syntax.specs.Declarations.{width, item_shape, declared_shape, width_if_any, declared_width, width_in}
use Rattle.fab_syntax.specs.declared.tree.Port.{Port}
use Rattle.fab_syntax.specs.Plain.{PlainItem, wire, reg, assign, latch, clocked, instance, PlainModule}
use Rattle.fab_meaning.specs.Points.{Path, Point, point}
use Rattle.fab_meaning.specs.Settled.{Assignment}
use Rattle.fab_meaning.proofs.Dependence.{same_name}
use Rattle.fab_values.specs.Declarations.{Declaration, port_declaration, item_declarations, declarations, bits_named, bits_from, declared_points, declared_at}

flip : (a b : List ℕ) → bytes_eq a b ≡ bytes_eq b a
flip a b =
    elim (cases_Bool (bytes_eq a b)) [
      | inl t ↦ subst (λ x. bytes_eq a x ≡ bytes_eq x a) ((bytes_eq-Decides a b).0 t) refl
      | inr f ↦ elim (cases_Bool (bytes_eq b a)) [
        | inl u ↦ absurd (false≢true (sym f ∙ subst (λ x. bytes_eq x b ≡ true) ((bytes_eq-Decides b a).0 u) (same_name b)))
        | inr g ↦ f ∙ sym g
      ]
    ]

-- the width of the first declaration of a name
abbrev width_among : List Declaration → List ℕ → ℕ
width_among [] name = 0
width_among (d ∷ ds) name = cond (bytes_eq name d.name) (width d.shape) (width_among ds name)

bits_are : (now : Assignment) (path : Path) (name : List ℕ) (count bit : ℕ) → map now (bits_from path name count bit) ≡ first_bits count (λ i. now (point path name (bit + i)))
bits_are now path name zero bit = refl
bits_are now path name (suc count) bit =
    let here : now (point path name bit) ≡ now (point path name (bit + 0)) = ap (λ n. now (point path name n)) (omega arith) in
    let rest : map now (bits_from path name count (suc bit)) ≡ first_bits count (λ i. now (point path name (bit + suc i))) =
    bits_are now path name count (suc bit) ∙ first_bits_same count _ _ (λ i l. ap (λ n. now (point path name n)) (omega arith)) in
    λ j. here j ∷ rest j

all_bits : (now : Assignment) (path : Path) (name : List ℕ) (count : ℕ) → map now (bits_from path name count 0) ≡ first_bits count (λ i. now (point path name i))
all_bits now path name count = bits_are now path name count 0 ∙ first_bits_same count _ _ (λ i l. ap (λ n. now (point path name n)) (omega arith))

bits_among : (now : Assignment) (path : Path) (ds : List Declaration) (name : List ℕ) →
    bits_named ds (map now (declared_points path ds)) name ≡ first_bits (width_among ds name) (λ bit. now (point path name bit))
bits_among now path [] name = refl
bits_among now path (d ∷ ds) name =
    let here = map now (bits_from path d.name (width d.shape) 0) in
    let rest = map now (declared_points path ds) in
    let parted : map now (declared_points path (d ∷ ds)) ≡ here ++ rest = map-append now (bits_from path d.name (width d.shape) 0) (declared_points path ds) in
    let is : here ≡ first_bits (width d.shape) (λ i. now (point path d.name i)) = all_bits now path d.name (width d.shape) in
    let wide : width d.shape ≡ length here = sym (ap length is ∙ length_first_bits (width d.shape) (λ i. now (point path d.name i))) in
    elim (cases_Bool (bytes_eq name d.name)) [
      | inl t ↦ rw t (
          (λ j. take (wide j) (parted j)) ∙ take-append_seam here rest ∙ is
          ∙ ap (λ n. first_bits (width d.shape) (λ i. now (point path n i))) (sym ((bytes_eq-Decides name d.name).0 t)))
      | inr f ↦ rw f (
          (λ j. bits_named ds (drop (wide j) (parted j)) name) ∙ ap (λ bits. bits_named ds bits name) (drop-append_seam here rest)
          ∙ bits_among now path ds name)
    ]

width_of_items : (items : List PlainItem) (name : List ℕ) → width_among (item_declarations items) name ≡ width_if_any (item_shape items name)
width_of_items [] name = refl
width_of_items (wire shape other ∷ items) name =
    elim (cases_Bool (bytes_eq other name)) [ inl t ↦ rw (flip name other, t) refl | inr f ↦ rw (flip name other, f) (width_of_items items name) ]
width_of_items (reg shape other ∷ items) name =
    elim (cases_Bool (bytes_eq other name)) [ inl t ↦ rw (flip name other, t) refl | inr f ↦ rw (flip name other, f) (width_of_items items name) ]
width_of_items (assign target e ∷ items) name = width_of_items items name
width_of_items (latch target gate e ∷ items) name = width_of_items items name
width_of_items (clocked clock target e ∷ items) name = width_of_items items name
width_of_items (instance module_name i joins ∷ items) name = width_of_items items name

width_of_module : (ports : List Port) (items : List PlainItem) (name : List ℕ) →
    width_among (map port_declaration ports ++ item_declarations items) name ≡ declared_width ports items name
width_of_module [] items name = width_of_items items name
width_of_module (port ∷ ports) items name =
    elim (cases_Bool (bytes_eq port.name name)) [ inl t ↦ rw (flip name port.name, t) refl | inr f ↦ rw (flip name port.name, f) (width_of_module ports items name) ]

pub bits_are_names : (found : Option PlainModule) (now : Assignment) (path : Path) (name : List ℕ) →
    bits_named (declared_at found) (map now (declared_points path (declared_at found))) name ≡ first_bits (width_in found name) (λ bit. now (point path name bit))
bits_are_names None now path name = refl
bits_are_names (Some m) now path name =
    bits_among now path (declarations m) name ∙ ap (λ n. first_bits n (λ bit. now (point path name bit))) (width_of_module m.ports m.items name)
