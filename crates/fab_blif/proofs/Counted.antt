-- How often names and nets stand in lists.
use Rattle.std.proofs.Common.{◌≡◌, ℕ, zero, suc, ◌+◌, ◌≤◌, Bool, true, cond, nat_eq, List, [], ◌∷◌, ◌++◌, map, Contains, refl, sym, ap, ◌∙◌, inl, inr, arith, eq-eqb, eqb-true}
use Rattle.std.specs.List.{count_by, filter}
use Rattle.std.specs.Str.{bytes_eq}
use Rattle.std.proofs.lemmas.Bool.{cases_Bool, false≢true}
use Rattle.std.proofs.lemmas.Grind.{common_steps}
use Rattle.std.proofs.lemmas.List.Sums.{sum_by-append, sum_by-cons}
use Rattle.std.proofs.lemmas.Slice.Eq.{bytes_eq-Decides}
use Rattle.fab_netlist.specs.Plain.{IsAt}
use Rattle.fab_netlist.specs.WellMade.{times}
use Rattle.fab_netlist.proofs.Members.{first_or_later, in_none}
use Rattle.fab_blif.specs.declared.design.Use.{Use}
use Rattle.fab_blif.specs.Judged.{is_of}

pub count_first : {X : Type 0} (p : X → Bool) (x : X) (xs : List X) → count_by p (x ∷ xs) ≡ cond (p x) 1 0 + count_by p xs
count_first p x xs = sum_by-cons (λ y. cond (p y) 1 0) x xs

pub count_joined : {X : Type 0} (p : X → Bool) (xs ys : List X) → count_by p (xs ++ ys) ≡ count_by p xs + count_by p ys
count_joined p xs ys = sum_by-append (λ y. cond (p y) 1 0) xs ys

count_here : {X : Type 0} (p : X → Bool) (x : X) (xs : List X) → p x ≡ true → count_by p (x ∷ xs) ≡ 1 + count_by p xs
count_here p x xs here = count_first p x xs ∙ ap (λ (b : Bool). cond {A = ℕ} b 1 0 + count_by p xs) here

-- what stands in a list is counted
pub counted : {X : Type 0} (p : X → Bool) (x : X) (xs : List X) → p x ≡ true → Contains xs x → 1 ≤ count_by p xs
counted p x [] here among = absurd (in_none x among)
counted p x (y ∷ xs) here among =
    elim (first_or_later y xs x among) [
      | inl same ↦ omega (arith, count_here p y xs (ap p same ∙ here))
      | inr later ↦ omega (arith, count_first p y xs, counted p x xs here later)
    ]

same_bytes : (a b : List ℕ) → a ≡ b → bytes_eq b a ≡ true
same_bytes a b same = grind (arith, common_steps, bytes_eq-Decides)

-- a name that stands once has one place
pub one_place : (names : List (List ℕ)) (name : List ℕ) (j k : ℕ) → count_by (bytes_eq name) names ≤ 1 → IsAt names j name → IsAt names k name → j ≡ k
one_place [] name j k once first second = absurd (omega (arith, first.0))
one_place (x ∷ xs) name zero zero once first second = refl
one_place (x ∷ xs) name zero (suc k) once first second =
    absurd (omega (arith, once, count_here (bytes_eq name) x xs (same_bytes x name first.1), counted (bytes_eq name) name xs (same_bytes name name refl) (k, omega (arith, second.0), second.1)))
one_place (x ∷ xs) name (suc j) zero once first second =
    absurd (omega (arith, once, count_here (bytes_eq name) x xs (same_bytes x name second.1), counted (bytes_eq name) name xs (same_bytes name name refl) (j, omega (arith, first.0), first.1)))
one_place (x ∷ xs) name (suc j) (suc k) once first second =
    ap suc (one_place xs name j k (omega (arith, once, count_first (bytes_eq name) x xs)) (omega (arith, first.0), first.1) (omega (arith, second.0), second.1))

-- what is left out counts no more
pub count_kept : {X Y : Type 0} (p : Y → Bool) (f : X → Y) (keep : X → Bool) (xs : List X) → count_by p (map f (filter keep xs)) ≤ count_by p (map f xs)
count_kept p f keep [] = omega arith
count_kept p f keep (x ∷ xs) =
    elim (cases_Bool (keep x)) [
      | inl t ↦ rw t (omega (arith, count_first p (f x) (map f (filter keep xs)), count_first p (f x) (map f xs), count_kept p f keep xs))
      | inr f' ↦ rw f' (omega (arith, count_first p (f x) (map f xs), count_kept p f keep xs))
    ]

-- a net counts no more than its name
pub times_named : (name : ℕ → List ℕ) (net : ℕ) (nets : List ℕ) → times net nets ≤ count_by (bytes_eq (name net)) (map name nets)
times_named name net [] = omega arith
times_named name net (other ∷ nets) =
    elim (cases_Bool (nat_eq other net)) [
      | inl t ↦ rw t (omega (arith, count_here (bytes_eq (name net)) (name other) (map name nets) (same_bytes (name other) (name net) (ap name (eqb-true other net t))), times_named name net nets))
      | inr f ↦ rw f (omega (arith, count_first (bytes_eq (name net)) (name other) (map name nets), times_named name net nets))
    ]

pub times_kept : (net : ℕ) (keep : ℕ → Bool) (nets : List ℕ) → times net (filter keep nets) ≤ times net nets
times_kept net keep [] = omega arith
times_kept net keep (other ∷ nets) =
    elim (cases_Bool (keep other)) [
      | inl t ↦ rw t (omega (arith, times_kept net keep nets))
      | inr f ↦ rw f (omega (arith, times_kept net keep nets))
    ]

-- a net stands among the nets of uses as often as uses of it
pub times_used : (net : ℕ) (used : List Use) → times net (map (λ (u : Use). u.net) used) ≡ count_by (is_of net) used
times_used net [] = refl
times_used net (u ∷ used) =
    elim (cases_Bool (nat_eq net u.net)) [
      | inl t ↦ (let same : nat_eq u.net net ≡ true = eq-eqb u.net net (sym (eqb-true net u.net t)) in rw same (omega (arith, count_here (is_of net) u used t, times_used net used)))
      | inr f ↦ elim (cases_Bool (nat_eq u.net net)) [
        | inl t ↦ absurd (false≢true (sym f ∙ eq-eqb net u.net (sym (eqb-true u.net net t))))
        | inr g ↦ rw g (omega (arith, count_first (is_of net) u used, ap {B = ℕ} (λ (b : Bool). cond b 1 0) f, times_used net used))
      ]
    ]
