-- Steps between tiles, rows by number, and rows by their count among others.
use Rattle.std.proofs.Common.{◌≡◌, ℕ, zero, suc, ◌+◌, ◌-◌, Bool, true, false, cond, List, [], ◌∷◌, take, count_by, All, slice_get, refl, sym, ap, ap₂, ◌∙◌, arith, subst, Option, Some, None, option_map, option_and_then, nat_eq, inl, inr}
use Rattle.std.proofs.lemmas.Bool.{cases_Bool, false≢true}
use Rattle.std.proofs.lemmas.Bool.Decides.{eqb_tells, nat_tests}
use Rattle.std.proofs.lemmas.Option.{slice_get_within, get_or_from_slice_get}
use Rattle.std.proofs.lemmas.List.Elements.{All-get_or}
use Rattle.std.proofs.lemmas.List.Sums.{sum_by-cons}
use Rattle.fab_model.specs.declared.tiles.Dir.{Dir}
use Rattle.fab_model.specs.declared.tiles.Dir.TheVariants as dirs
use Rattle.fab_model.specs.declared.tiles.WireRow.{WireRow}
use Rattle.fab_model.specs.Rows.{is_jump, same_dir}
use Rattle.fab_model.specs.Joins.{IsAhead, IsNth}
use Rattle.fab_model.specs.Cascade.{opposite, step, nth_row}

-- ---- options

pub map_gives : {A B : Type 0} (f : A → B) (from : Option A) (b : B) → option_map f from ≡ Some b → (a : A) × (from ≡ Some a) × (f a ≡ b)
map_gives f None b h = cc
map_gives f (Some a) b h = (a, refl, cc)

pub then_gives : {A B : Type 0} (f : A → Option B) (from : Option A) (b : B) → option_and_then f from ≡ Some b → (a : A) × (from ≡ Some a) × (f a ≡ Some b)
then_gives f None b h = cc
then_gives f (Some a) b h = (a, refl, h)

-- ---- directions

-- the test of two directions
pub same_dir_is : (a b : Dir) → same_dir a b ≡ true → a ≡ b
same_dir_is dirs.North dirs.North h = refl
same_dir_is dirs.East dirs.East h = refl
same_dir_is dirs.South dirs.South h = refl
same_dir_is dirs.West dirs.West h = refl
same_dir_is dirs.Jump dirs.Jump h = refl
same_dir_is a b h = absurd (false≢true h)

pub same_dir_self : (a : Dir) → same_dir a a ≡ true
same_dir_self dirs.North = refl
same_dir_self dirs.East = refl
same_dir_self dirs.South = refl
same_dir_self dirs.West = refl
same_dir_self dirs.Jump = refl

-- the opposite of the opposite
pub opposite_twice : (dir : Dir) → opposite (opposite dir) ≡ dir
opposite_twice dirs.North = refl
opposite_twice dirs.East = refl
opposite_twice dirs.South = refl
opposite_twice dirs.West = refl
opposite_twice dirs.Jump = refl

-- a step leads to the place ahead
pub step_is_ahead : (dir : Dir) (x y : ℕ) (at : ℕ × ℕ) → step dir x y ≡ Some at → IsAhead dir x y at.0 at.1
step_is_ahead dirs.North x y at h = grind (arith, nat_tests)
step_is_ahead dirs.East x y at h = grind arith
step_is_ahead dirs.South x y at h = grind arith
step_is_ahead dirs.West x y at h = grind (arith, nat_tests)
step_is_ahead dirs.Jump x y at h = cc

-- the place ahead is a step away
pub ahead_is_step : (dir : Dir) (x y x2 y2 : ℕ) → IsAhead dir x y x2 y2 → step dir x y ≡ Some (x2, y2)
ahead_is_step dirs.North x y x2 y2 h = grind (arith, nat_tests)
ahead_is_step dirs.East x y x2 y2 h = grind arith
ahead_is_step dirs.South x y x2 y2 h = grind arith
ahead_is_step dirs.West x y x2 y2 h = grind (arith, nat_tests)
ahead_is_step dirs.Jump x y x2 y2 h = absurd h

-- what is ahead has what is behind
pub ahead_turns : (dir : Dir) (x y x2 y2 : ℕ) → IsAhead dir x y x2 y2 → IsAhead (opposite dir) x2 y2 x y
ahead_turns dirs.North x y x2 y2 h = (sym h.0, h.1)
ahead_turns dirs.East x y x2 y2 h = (h.0, sym h.1)
ahead_turns dirs.South x y x2 y2 h = (sym h.0, h.1)
ahead_turns dirs.West x y x2 y2 h = (h.0, sym h.1)
ahead_turns dirs.Jump x y x2 y2 h = h

-- only rows that are no jumps lead to a neighbour
pub ahead_no_jump : (dir : Dir) (x y x2 y2 : ℕ) → IsAhead dir x y x2 y2 → is_jump dir ≡ false
ahead_no_jump dirs.North x y x2 y2 h = refl
ahead_no_jump dirs.East x y x2 y2 h = refl
ahead_no_jump dirs.South x y x2 y2 h = refl
ahead_no_jump dirs.West x y x2 y2 h = refl
ahead_no_jump dirs.Jump x y x2 y2 h = absurd h

-- ---- rows by number

-- what holds of each item holds of the item at a number
pub item_holds : {X : Type 0} (P : X → Type 0) (xs : List X) (number : ℕ) (x : X) → All P xs → slice_get xs number ≡ Some x → P x
item_holds P xs number x all h =
    subst P (get_or_from_slice_get xs number x x h) (All-get_or P xs number x (slice_get_within xs number x h) all)

-- how many pass a test, by the first row
count_first : (test : WireRow → Bool) (row : WireRow) (rows : List WireRow) (number : ℕ) → count_by test (take (suc number) (row ∷ rows)) ≡ cond (test row) 1 0 + count_by test (take number rows)
count_first test row rows number = sum_by-cons (λ row. cond (test row) 1 0) row (take number rows)

count_yes : (test : WireRow → Bool) (row : WireRow) (rows : List WireRow) (number : ℕ) → test row ≡ true → count_by test (take (suc number) (row ∷ rows)) ≡ 1 + count_by test (take number rows)
count_yes test row rows number passes = count_first test row rows number ∙ ap (λ passes. cond passes 1 0 + count_by test (take number rows)) passes

count_no : (test : WireRow → Bool) (row : WireRow) (rows : List WireRow) (number : ℕ) → test row ≡ false → count_by test (take (suc number) (row ∷ rows)) ≡ count_by test (take number rows)
count_no test row rows number fails = count_first test row rows number ∙ ap (λ passes. cond passes 1 0 + count_by test (take number rows)) fails ∙ omega arith

-- the row that is found passes the test, and as many do before it
pub nth_row_is : (test : WireRow → Bool) (rows : List WireRow) (first i : ℕ) (found : ℕ × WireRow) → nth_row test rows first i ≡ Some found → (number : ℕ) × (found.0 ≡ first + number) × IsNth test rows number i found.1
nth_row_is test [] first i found h = cc
nth_row_is test (row ∷ rows) first i found h =
    elim (cases_Bool (test row)) [
      | inl passes ↦ elim (eqb_tells i 0) [
        | inl is ↦ (
            let found_is : Some (first, row) ≡ Some found = rw (passes, is.0) at h in
            let same : (first, row) ≡ found = cc in
            let zero_is : i ≡ 0 = is.1 in
            (0, sym (ap (λ pair. pair.0) same) ∙ omega arith, (ap (λ pair. Some pair.1) same, subst (λ row. test row ≡ true) (ap (λ pair. pair.1) same) passes, sym zero_is)))
        | inr is ↦ (
            let later : nth_row test rows (first + 1) (i - 1) ≡ Some found = rw (passes, is.0) at h in
            let g = nth_row_is test rows (first + 1) (i - 1) found later in
            let not_zero : i ≡ 0 → ⊥ = is.1 in
            (suc g.0, g.1 ∙ omega arith, (g.2.0, g.2.1, count_yes test row rows g.0 passes ∙ omega (arith, g.2.2, not_zero))))
      ]
      | inr fails ↦ (
          let later : nth_row test rows (first + 1) i ≡ Some found = rw fails at h in
          let g = nth_row_is test rows (first + 1) i found later in
          (suc g.0, g.1 ∙ omega arith, (g.2.0, g.2.1, count_no test row rows g.0 fails ∙ g.2.2)))
    ]

-- a row that passes is found by how many pass before it
pub is_nth_row : (test : WireRow → Bool) (rows : List WireRow) (first number i : ℕ) (row : WireRow) → IsNth test rows number i row → nth_row test rows first i ≡ Some (first + number, row)
is_nth_row test [] first number i row nth = cc
is_nth_row test (head ∷ rows) first zero i row nth =
    let head_is : head ≡ row = (let h = nth.0 in cc) in
    let passes : test head ≡ true = ap test head_is ∙ nth.1 in
    let zero_is : i ≡ 0 = sym nth.2 in
    let tests : nat_eq i 0 ≡ true = grind (arith, nat_tests) in
    rw (passes, tests) (ap₂ (λ number row. Some (number, row)) (omega arith) head_is)
is_nth_row test (head ∷ rows) first (suc number) i row nth =
    let moved : first + 1 + number ≡ first + suc number = omega arith in
    elim (cases_Bool (test head)) [
      | inl passes ↦ (
          let count_is : 1 + count_by test (take number rows) ≡ i = sym (count_yes test head rows number passes) ∙ nth.2 in
          let tests : nat_eq i 0 ≡ false = grind (arith, nat_tests) in
          let g = is_nth_row test rows (first + 1) number (i - 1) row (nth.0, nth.1, omega (arith, count_is)) in
          rw (passes, tests) (g ∙ ap (λ number. Some (number, row)) moved))
      | inr fails ↦ (
          let count_is : count_by test (take number rows) ≡ i = sym (count_no test head rows number fails) ∙ nth.2 in
          let g = is_nth_row test rows (first + 1) number i row (nth.0, nth.1, count_is) in
          rw fails (g ∙ ap (λ number. Some (number, row)) moved))
    ]
