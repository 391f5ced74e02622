-- A list has one first wrong item, and a wire has one text.
use Rattle.std.proofs.Common.{◌≡◌, ℕ, List, sym, ap, ◌∙◌, subst, inl, inr}
use Rattle.std.proofs.lemmas.Bool.{cases_order}
use Rattle.fab_model.specs.Grid.{PlainFabric}
use Rattle.fab_fabric.specs.Names.{full_name, name_at}
use Rattle.fab_fabric.specs.Wires.{wire_index}
use Rattle.fab_fabric.specs.declared.wire.Wire.{Wire}
use Rattle.fab_fabric.proofs.Numbered.{one_place}
use Rattle.fab_netlist.specs.Plain.{IsAt}
use Rattle.fab_legal.specs.Turns.{IsFirstWrong}
use Rattle.fab_legal.specs.Broken.{IsWireText}
use Rattle.fab_legal.proofs.Lists.{same_at}

pub record SameFirst {X : Type 0} {IsRight : List X → X → Type 0} {xs : List X} {x y : X} (first : IsFirstWrong IsRight xs x) (second : IsFirstWrong IsRight xs y) : Type 0 where
  pub place : first.place ≡ second.place
  pub item : x ≡ y

-- of two first wrong items none stands before the other
pub one_first : {X : Type 0} (IsRight : List X → X → Type 0) (xs : List X) (x y : X) (first : IsFirstWrong IsRight xs x) (second : IsFirstWrong IsRight xs y) → SameFirst first second
one_first {X} IsRight xs x y first second = elim (cases_order first.place second.place) [
  | inl same ↦ record { place = same; item = same_at xs second.place x y (subst (λ (n : ℕ). IsAt xs n x) same first.is_at) second.is_at }
  | inr (inl less) ↦ absurd (first.wrong (second.before first.place x less first.is_at))
  | inr (inr more) ↦ absurd (second.wrong (first.before second.place y more second.is_at))
]

pub one_text : (fabric : PlainFabric) (wire : Wire) (a b : List ℕ) → IsWireText fabric wire a → IsWireText fabric wire b → a ≡ b
one_text fabric wire a b first second =
    let index : wire_index fabric first.x first.y first.number ≡ wire_index fabric second.x second.y second.number = ap (λ (w : Wire). w.0) (sym first.wire_is ∙ second.wire_is) in
    let same = one_place fabric first.x first.y first.number second.x second.y second.number first.inside second.inside index in
    first.text_is
    ∙ ap (λ (x : ℕ). full_name x first.y (name_at fabric x first.y first.number)) same.0
    ∙ ap (λ (y : ℕ). full_name second.x y (name_at fabric second.x y first.number)) same.1
    ∙ ap (λ (n : ℕ). full_name second.x second.y (name_at fabric second.x second.y n)) same.2
    ∙ sym second.text_is
