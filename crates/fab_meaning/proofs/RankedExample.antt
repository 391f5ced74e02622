-- The example text of two levels meets what the laws ask for: its names are driven once, and an input port of it is a ranked set.
use Rattle.std.proofs.Common.{◌≡◌, ℕ, ◌+◌, ◌≤◌, true, false, List, All, codes, refl, sym, ◌∙◌, subst, inl, inr, arith}
use Rattle.std.specs.Str.{bytes_eq}
use Rattle.std.proofs.lemmas.Bool.{cases_Bool, false≢true}
use Rattle.std.proofs.lemmas.Slice.Eq.{bytes_eq-Decides}
use Rattle.fab_syntax.specs.Plain.{variable}
use Rattle.fab_syntax.specs.Declarations.{is_input, one_if_same, times_driven}
use Rattle.fab_meaning.specs.Points.{Point, point, Driver, bit_of, Drives}
use Rattle.fab_meaning.specs.Settled.{Assignment}
use Rattle.fab_meaning.specs.Reads.{same_point}
use Rattle.fab_meaning.specs.Sound.{JoinsOnce, DrivesOnce}
use Rattle.fab_meaning.specs.Ranked.{AreDrivenBy, AreRanked}
use Rattle.fab_meaning.proofs.Dependence.{same_point_is, same_point_refl, variable_reads}
use Rattle.fab_meaning.proofs.Modules.{each_all}
use Rattle.fab_meaning.proofs.SingleDrivers.{one_driver}
use Rattle.fab_meaning.proofs.Settling.{some_settled}
use Rattle.fab_meaning.proofs.Examples.{keeper, middle, frame, levels, mid, low, x_driven}

-- of two names at most one is this one
one_of_two : (a b name : List ℕ) → bytes_eq a b ≡ false → one_if_same a name + (one_if_same b name + 0) ≤ 1
one_of_two a b name apart =
    elim (cases_Bool (bytes_eq a name)) [
      | inl t ↦ (
          let same : a ≡ name = (bytes_eq-Decides a name).0 t in
          let other : bytes_eq b name ≡ false =
          elim (cases_Bool (bytes_eq b name)) [
            | inl u ↦ absurd (false≢true (sym apart ∙ (bytes_eq-Decides a b).1 (same ∙ sym ((bytes_eq-Decides b name).0 u))))
            | inr f ↦ f
          ] in
          rw (t, other) (omega arith))
      | inr f ↦ (
          let one : one_if_same b name ≤ 1 = elim (cases_Bool (bytes_eq b name)) [ inl u ↦ rw u (omega arith) | inr g ↦ rw g (omega arith) ] in
          rw f (omega arith))
    ]

-- the inputs clk and x of a keeper are none of its targets y and z
keeper_inputs : (name : List ℕ) → is_input keeper.ports name ≡ true → times_driven levels keeper.items name ≡ 0
keeper_inputs name h =
    elim (cases_Bool (bytes_eq (codes "clk") name)) [
      | inl t ↦ subst (λ n. times_driven levels keeper.items n ≡ 0) ((bytes_eq-Decides (codes "clk") name).0 t) refl
      | inr f ↦ elim (cases_Bool (bytes_eq (codes "x") name)) [
        | inl t ↦ subst (λ n. times_driven levels keeper.items n ≡ 0) ((bytes_eq-Decides (codes "x") name).0 t) refl
        | inr g ↦ absurd (false≢true (sym (no_input f g) ∙ h))
      ]
    ]
  where
    no_input : bytes_eq (codes "clk") name ≡ false → bytes_eq (codes "x") name ≡ false → is_input keeper.ports name ≡ false
    no_input f g = rw (f, g) (elim (cases_Bool (bytes_eq (codes "y") name)) [
      | inl t ↦ rw t refl
      | inr k ↦ rw k (elim (cases_Bool (bytes_eq (codes "z") name)) [ inl t ↦ rw t refl | inr l ↦ rw l refl ])
    ])

keeper_once : DrivesOnce levels keeper
keeper_once = record {
  inputs = keeper_inputs;
  names = λ name. one_of_two (codes "y") (codes "z") name refl;
  instances = λ name. omega arith;
  joins = each_all JoinsOnce keeper.items (tt, (tt, tt));
}

middle_once : DrivesOnce levels middle
middle_once = record {
  inputs = λ name h. refl;
  names = λ name. omega arith;
  instances = λ name. one_of_two (codes "low") (codes "off") name refl;
  joins = each_all JoinsOnce middle.items ((λ port. one_of_two (codes "clk") (codes "x") port refl), ((λ port. one_of_two (codes "clk") (codes "x") port refl), tt));
}

frame_once : DrivesOnce levels frame
frame_once = record {
  inputs = λ name h. refl;
  names = λ name. omega arith;
  instances = λ name. elim (cases_Bool (bytes_eq (codes "mid") name)) [ inl t ↦ rw t (omega arith) | inr f ↦ rw f (omega arith) ];
  joins = each_all JoinsOnce frame.items ((λ port. one_of_two (codes "c") (codes "a") port refl), tt);
}

pub levels_once : All (DrivesOnce levels) levels
levels_once = each_all (DrivesOnce levels) levels (keeper_once, (middle_once, (frame_once, tt)))

-- ---- the input x of the first keeper, given what is joined to it

abbrev pub x_point : Point
x_point = point low (codes "x") 0

abbrev pub a_point : Point
a_point = point mid (codes "a") 0

abbrev pub x_driver : Driver
x_driver = bit_of mid (variable (codes "a")) 0

x_alone : AreDrivenBy levels (same_point x_point) (λ p. x_driver)
x_alone = record {
  each = λ p h. subst (λ (q : Point). Drives levels q x_driver) (same_point_is x_point p h) x_driven;
  only = λ p d h drives. one_driver levels levels_once p d x_driver drives (subst (λ (q : Point). Drives levels q x_driver) (same_point_is x_point p h) x_driven);
}

x_ranked : AreRanked levels (same_point x_point) (same_point a_point) (λ p. x_driver) (λ p. 0) 1
x_ranked = record {
  bound = λ p h. omega arith;
  apart = λ p h. subst (λ (q : Point). same_point x_point q ≡ false) (same_point_is a_point p h) refl;
  lower = λ p q h r. inl (subst (λ (s : Point). same_point a_point s ≡ true) (sym (variable_reads levels mid (codes "a") q refl r)) (same_point_refl a_point));
}

-- so it has a settled assignment, in which it has what stands at the other end of its join
x_settled : (inputs held old : Assignment) → (new : Assignment) × (new x_point ≡ old a_point)
x_settled inputs held old =
    let s = some_settled levels (same_point x_point) (same_point a_point) (λ p. x_driver) (λ p. 0) 1 x_alone x_ranked inputs held old in
    (s.0, s.1 x_point x_driver (same_point_refl x_point) x_driven ∙ s.2 a_point refl)
