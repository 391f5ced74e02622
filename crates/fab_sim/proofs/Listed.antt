-- Points that take drawn values, in the order of a list, by their marks.
use Rattle.std.proofs.Common.{◌≡◌, ℕ, zero, suc, ◌+◌, Bool, true, false, List, [], ◌∷◌, length, Some, refl, ap, ◌∙◌, subst, arith}
use Rattle.std.specs.List.{slice_get}
use Rattle.fab_draws.specs.Draws.{is_one}
use Rattle.fab_meaning.specs.Points.{Point}
use Rattle.fab_meaning.specs.Settled.{Assignment}
use Rattle.fab_stepping.specs.Drawing.{marked_before}
use Rattle.fab_ordering_laws.specs.Ordered.{AreDrawn, none, passes, takes}

-- the marks of points tell a set, and its points have the words of their places
pub record AreMarkedSo (draws : ℕ → ℕ) (Has : Point → Type 0) (values : Assignment) (mark : Bool) (ps : List Point) (marks : List Bool) (first : ℕ) : Type 0 where
  pub has : (k : ℕ) (p : Point) → slice_get ps k ≡ Some p → slice_get marks k ≡ Some mark → Has p
  pub others : (k : ℕ) (p : Point) → slice_get ps k ≡ Some p → (slice_get marks k ≡ Some mark → ⊥) → Has p → ⊥
  pub words : (k : ℕ) (p : Point) → slice_get ps k ≡ Some p → slice_get marks k ≡ Some mark → values p ≡ is_one (draws (first + marked_before mark marks k))

module _ (draws : ℕ → ℕ) (Has : Point → Type 0) (values : Assignment) where
  -- behind the first point
  taken_tail : (mark : Bool) (p : Point) (ps : List Point) (marks : List Bool) (first : ℕ) → ((k : ℕ) → marked_before mark (mark ∷ marks) (suc k) ≡ suc (marked_before mark marks k)) →
      AreMarkedSo draws Has values mark (p ∷ ps) (mark ∷ marks) first → AreMarkedSo draws Has values mark ps marks (1 + first)
  taken_tail mark p ps marks first count are = record {
    has = λ k q e f. are.has (suc k) q e f;
    others = λ k q e f. are.others (suc k) q e f;
    words = λ k q e f.
        let place : first + marked_before mark (mark ∷ marks) (suc k) ≡ 1 + first + marked_before mark marks k = omega (arith, count k) in
        are.words (suc k) q e f ∙ ap (λ n. is_one (draws n)) place;
  }

  passed_tail : (mark other : Bool) (p : Point) (ps : List Point) (marks : List Bool) (first : ℕ) → ((k : ℕ) → marked_before mark (other ∷ marks) (suc k) ≡ marked_before mark marks k) →
      AreMarkedSo draws Has values mark (p ∷ ps) (other ∷ marks) first → AreMarkedSo draws Has values mark ps marks first
  passed_tail mark other p ps marks first count are = record {
    has = λ k q e f. are.has (suc k) q e f;
    others = λ k q e f. are.others (suc k) q e f;
    words = λ k q e f. are.words (suc k) q e f ∙ ap (λ n. is_one (draws (first + n))) (count k);
  }

  taken_first : (mark : Bool) (p : Point) (ps : List Point) (marks : List Bool) (first : ℕ) → marked_before mark (mark ∷ marks) zero ≡ 0 →
      AreMarkedSo draws Has values mark (p ∷ ps) (mark ∷ marks) first → values p ≡ is_one (draws first)
  taken_first mark p ps marks first count are =
      let place : first + marked_before mark (mark ∷ marks) zero ≡ first = omega (arith, count) in
      are.words zero p refl refl ∙ ap (λ n. is_one (draws n)) place

  moved : (ps : List Point) (first last other : ℕ) → last ≡ other → AreDrawn draws Has values ps first last → AreDrawn draws Has values ps first other
  moved ps first last other e drawn = subst (AreDrawn draws Has values ps first) e drawn

  pub are_drawn : (mark : Bool) (ps : List Point) (marks : List Bool) (first : ℕ) → length marks ≡ length ps → AreMarkedSo draws Has values mark ps marks first →
      AreDrawn draws Has values ps first (first + marked_before mark marks (length marks))
  are_drawn mark [] [] first long are = moved [] first first (first + 0) (omega arith) none
  are_drawn mark [] (m ∷ marks) first long are = absurd (omega (arith, long))
  are_drawn mark (p ∷ ps) [] first long are = absurd (omega (arith, long))
  are_drawn true (p ∷ ps) (true ∷ marks) first long are =
      moved (p ∷ ps) first (1 + first + marked_before true marks (length marks)) (first + suc (marked_before true marks (length marks))) (omega arith)
      (takes (are.has zero p refl refl) (taken_first true p ps marks first refl are)
      (are_drawn true ps marks (1 + first) (omega (arith, long)) (taken_tail true p ps marks first (λ k. refl) are)))
  are_drawn true (p ∷ ps) (false ∷ marks) first long are =
      passes (are.others zero p refl (λ e. cc)) (are_drawn true ps marks first (omega (arith, long)) (passed_tail true false p ps marks first (λ k. refl) are))
  are_drawn false (p ∷ ps) (true ∷ marks) first long are =
      passes (are.others zero p refl (λ e. cc)) (are_drawn false ps marks first (omega (arith, long)) (passed_tail false true p ps marks first (λ k. refl) are))
  are_drawn false (p ∷ ps) (false ∷ marks) first long are =
      moved (p ∷ ps) first (1 + first + marked_before false marks (length marks)) (first + suc (marked_before false marks (length marks))) (omega arith)
      (takes (are.has zero p refl refl) (taken_first false p ps marks first refl are)
      (are_drawn false ps marks (1 + first) (omega (arith, long)) (taken_tail false p ps marks first (λ k. refl) are)))
