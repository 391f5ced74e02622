-- Whether what is read lies in a set is told by going through a list.
use Rattle.std.proofs.Common.{◌≡◌, zero, suc, Bool, true, not, ◌||◌, List, [], ◌∷◌, Contains, refl, sym, ◌∙◌, subst, inl, inr, arith}
use Rattle.std.specs.List.{list_all}
use Rattle.std.proofs.lemmas.Bool.{cases_Bool, false≢true, and_parts, and_from, or_cases, or_left, or_right, not-true, not_from_false}
use Rattle.fab_load_runs_laws.proofs.Growing.{IsPart}

-- whether each listed point that is read is in the set
abbrev pub all_inside : {P : Type 0} → (read has : P → Bool) → List P → Bool
all_inside read has points = list_all (λ p. not (read p) || has p) points

module _ {P : Type 0} (read : P → Bool) where
  pub inside_has : (has : P → Bool) (points : List P) → all_inside read has points ≡ true → (p : P) → Contains points p → read p ≡ true → has p ≡ true
  inside_has has [] h p c r = absurd (omega (arith, c.1))
  inside_has has (q ∷ points) h p (zero, b, e) r =
      let here = and_parts (not (read q) || has q) (all_inside read has points) h in
      let at : (not (read p) || has p) ≡ true = subst (λ x. (not (read x) || has x) ≡ true) e here.0 in
      elim (or_cases (not (read p)) (has p) at) [ inl n ↦ absurd (false≢true (sym (not-true (read p) n) ∙ r)) | inr y ↦ y ]
  inside_has has (q ∷ points) h p (suc n, b, e) r =
      inside_has has points (and_parts (not (read q) || has q) (all_inside read has points) h).1 p (n, omega (arith, b), e) r

  pub inside_from : (has : P → Bool) (points : List P) → IsPart read has → all_inside read has points ≡ true
  inside_from has [] part = refl
  inside_from has (p ∷ points) part =
      and_from (not (read p) || has p) (all_inside read has points)
      (elim (cases_Bool (read p)) [
        | inl r ↦ or_right (not (read p)) (has p) (part p r)
        | inr n ↦ or_left (not (read p)) (has p) (not_from_false (read p) n)
      ])
      (inside_from has points part)

  pub inside_grows : (some all : P → Bool) (points : List P) → IsPart some all → all_inside read some points ≡ true → all_inside read all points ≡ true
  inside_grows some all [] part h = refl
  inside_grows some all (p ∷ points) part h =
      let both = and_parts (not (read p) || some p) (all_inside read some points) h in
      and_from (not (read p) || all p) (all_inside read all points)
      (elim (or_cases (not (read p)) (some p) both.0) [
        | inl n ↦ or_left (not (read p)) (all p) n
        | inr y ↦ or_right (not (read p)) (all p) (part p y)
      ])
      (inside_grows some all points part both.1)
