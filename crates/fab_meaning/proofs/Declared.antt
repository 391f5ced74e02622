-- The bits of declared names.
use Rattle.std.proofs.Common.{◌≡◌, ◌≢◌, ℕ, zero, suc, ◌<◌, true, false, List, [], ◌∷◌, ◌++◌, map, length, get_or, refl, ap, ◌∙◌, inl, inr, arith, Some, All, Contains}
use Rattle.std.specs.Str.{bytes_eq}
use Rattle.std.proofs.lemmas.Bool.{cases_Bool}
use Rattle.std.proofs.lemmas.List.Elements.{All-head, All-tail}
use Rattle.std.proofs.lemmas.Slice.Eq.{bytes_eq-Decides}
use Rattle.fab_bits.specs.Bits.{first_bits}
use Rattle.fab_syntax.specs.declared.tree.Shape.TheVariants.{Scalar}
use Rattle.fab_syntax.specs.declared.tree.Port.{Port}
use Rattle.fab_syntax.specs.Plain.{PlainItem, PlainModule}
use Rattle.fab_syntax.specs.Declarations.{width, width_in, declared_width}
use Rattle.fab_meaning.specs.Points.{Path, point, module_at}
use Rattle.fab_meaning.specs.Settled.{Assignment, names_at}

-- names that differ are told apart
pub bytes_apart : (a b : List ℕ) → a ≢ b → bytes_eq a b ≡ false
bytes_apart a b apart = elim (cases_Bool (bytes_eq a b)) [ inl t ↦ absurd (apart ((bytes_eq-Decides a b).0 t)) | inr f ↦ f ]

-- a name among scalar ports is one bit wide, whatever follows
pub width_of_scalar : (scalars ports : List Port) (items : List PlainItem) (name : List ℕ) → All (λ port. port.shape ≡ Scalar) scalars →
    Contains (map (λ port. port.name) scalars) name → declared_width (scalars ++ ports) items name ≡ 1
width_of_scalar scalars ports items name flat there = found scalars there.0 flat there.1 there.2
  where
    found : (scalars : List Port) (k : ℕ) → All (λ port. port.shape ≡ Scalar) scalars → k < length (map (λ port. port.name) scalars) →
        get_or (map (λ (port : Port). port.name) scalars) k name ≡ name → declared_width (scalars ++ ports) items name ≡ 1
    found [] k flat l e = absurd (omega arith)
    found (port ∷ scalars) zero flat l e =
        let here : bytes_eq port.name name ≡ true = (bytes_eq-Decides port.name name).1 e in
        rw here (ap width (All-head (λ (p : Port). p.shape ≡ Scalar) port scalars flat))
    found (port ∷ scalars) (suc k) flat l e =
        elim (cases_Bool (bytes_eq port.name name)) [
          | inl t ↦ rw t (ap width (All-head (λ (p : Port). p.shape ≡ Scalar) port scalars flat))
          | inr f ↦ rw f (found scalars k (All-tail (λ (p : Port). p.shape ≡ Scalar) port scalars flat) (omega arith) e)
        ]

-- ports of other names are passed over
pub width_passed : (others ports : List Port) (items : List PlainItem) (name : List ℕ) → All (λ port. port.name ≢ name) others →
    declared_width (others ++ ports) items name ≡ declared_width ports items name
width_passed [] ports items name apart = refl
width_passed (other ∷ others) ports items name apart =
    let f : bytes_eq other.name name ≡ false = bytes_apart other.name name (All-head (λ (p : Port). p.name ≢ name) other others apart) in
    rw f (width_passed others ports items name (All-tail (λ (p : Port). p.name ≢ name) other others apart))

-- the bits of a name at an instance
pub bits_of_name : (text : List PlainModule) (now : Assignment) (path : Path) (here : PlainModule) (name : List ℕ) (n : ℕ) →
    module_at text path ≡ Some here → declared_width here.ports here.items name ≡ n →
    names_at text now path name ≡ first_bits n (λ bit. now (point path name bit))
bits_of_name text now path here name n stands wide =
    ap (λ k. first_bits k (λ bit. now (point path name bit))) (ap (λ m. width_in m name) stands ∙ wide)
