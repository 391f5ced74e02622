-- Marks that are set and taken away, point by point.
use Rattle.std.proofs.Common.{◌≡◌, ◌≢◌, ℕ, ◌+◌, ◌<◌, ◌≤◌, Bool, false, List, [], ◌∷◌, ◌++◌, length, Some, refl, sym, ap, ◌∙◌, inl, inr, arith, slice_set}
use Rattle.std.specs.List.{slice_get}
use Rattle.std.proofs.lemmas.Bool.{cases_eq, cases_lt}
use Rattle.std.proofs.lemmas.List.{length-set}
use Rattle.std.proofs.lemmas.Option.{slice_get_within}
use Rattle.fab_equations.proofs.Placing.{get_set_other}
use Rattle.fab_load_points.proofs.Marking.{push_at, push_last}
use Rattle.fab_load_points.proofs.Statuses.{set_there}
use Rattle.fab_network.specs.declared.network.Drive.{Drive}
use Rattle.fab_phases.specs.Cycles.{IsIn}
use Rattle.fab_sim.specs.inner.Made.{stored_by}
use Rattle.fab_sim.specs.inner.Rooms.{free_by, IsUnmarked}

-- ---- marks that are taken away

pub record UnmarkedSoFar (points : List ℕ) (count : ℕ) (old now : List Bool) : Type 0 where
  pub long : length now ≡ length old
  pub lost : (place point : ℕ) → place < count → slice_get points place ≡ Some point → slice_get now point ≡ Some false
  pub others : (point : ℕ) → (IsIn points point → ⊥) → slice_get now point ≡ slice_get old point

pub unmarked_none : (points : List ℕ) (old : List Bool) → UnmarkedSoFar points 0 old old
unmarked_none points old = record { long = refl; lost = λ place point l e. absurd (omega arith); others = λ point absent. refl }

pub unmarked_more : (points : List ℕ) (count : ℕ) (old now new : List Bool) (point : ℕ) → slice_get points count ≡ Some point → point < length now → new ≡ slice_set now point false →
    UnmarkedSoFar points count old now → UnmarkedSoFar points (count + 1) old new
unmarked_more points count old now new point at less is so_far = record {
  long = ap length is ∙ length-set now point false ∙ so_far.long;
  lost = λ place other l e.
      elim (cases_eq other point) [
        | inl same ↦ ap (λ (xs : List Bool). slice_get xs other) is ∙ ap (slice_get (slice_set now point false)) same ∙ set_there now point false less
        | inr apart ↦
            let earlier : place < count =
            elim (cases_lt place count) [
              | inl before ↦ before
              | inr past ↦
                  let last : place ≡ count = omega (arith, past, l) in
                  let both : Some point ≡ Some other = sym at ∙ ap (slice_get points) (sym last) ∙ e in
                  let same : point ≡ other = cc in absurd (apart (sym same))
            ] in
            ap (λ (xs : List Bool). slice_get xs other) is ∙ get_set_other now point other false apart ∙ so_far.lost place other earlier e
      ];
  others = λ other absent.
      let apart : other ≢ point = λ e. absent (count, point, at, sym e) in
      ap (λ (xs : List Bool). slice_get xs other) is ∙ get_set_other now point other false apart ∙ so_far.others other absent;
}

pub unmarked_all : (points : List ℕ) (count : ℕ) (old now : List Bool) → length points ≤ count → UnmarkedSoFar points count old now → IsUnmarked points old now
unmarked_all points count old now all so_far = record {
  lost = λ point there.
      let at : slice_get points there.0 ≡ Some point = there.2 ∙ ap Some there.3 in
      let inside = slice_get_within points there.0 point at in so_far.lost there.0 point (omega (arith, inside, all)) at;
  others = so_far.others;
}

-- ---- marks that are set

-- the marks of the first points, by their drives and by whether they are loading points
abbrev MarkedBy : (by : Drive → Bool → Bool) → (drives : List Drive) (loads : List Bool) (count : ℕ) → List Bool → Type 0
MarkedBy by drives loads count marks =
    (point : ℕ) (drive : Drive) (load : Bool) → point < count → slice_get drives point ≡ Some drive → slice_get loads point ≡ Some load → slice_get marks point ≡ Some (by drive load)

more_marked : (by : Drive → Bool → Bool) (drives : List Drive) (loads : List Bool) (count : ℕ) (old new : List Bool) (drive : Drive) (load mark : Bool) → new ≡ old ++ mark ∷ [] →
    length old ≡ count → slice_get drives count ≡ Some drive → slice_get loads count ≡ Some load → mark ≡ by drive load → MarkedBy by drives loads count old →
    MarkedBy by drives loads (count + 1) new
more_marked by drives loads count old new drive load mark is long at loads_at value so_far point d l less e f =
    elim (cases_lt point count) [
      | inl before ↦ ap (λ (xs : List Bool). slice_get xs point) is ∙ push_at old mark point (omega (arith, before, long)) ∙ so_far point d l before e f
      | inr past ↦
          let last : point ≡ count = omega (arith, past, less) in
          let drives_same : Some drive ≡ Some d = sym at ∙ ap (slice_get drives) (sym last) ∙ e in
          let drive_is : drive ≡ d = cc in
          let loads_same : Some load ≡ Some l = sym loads_at ∙ ap (slice_get loads) (sym last) ∙ f in
          let load_is : load ≡ l = cc in
          ap (λ (xs : List Bool). slice_get xs point) is ∙ ap (slice_get (old ++ mark ∷ [])) (last ∙ sym long) ∙ push_last old mark
          ∙ ap (λ (b : Bool). Some b) (value ∙ (λ i. by (drive_is i) (load_is i)))
    ]

abbrev pub MarkedSoFar : (drives : List Drive) (loads : List Bool) (count : ℕ) → List Bool → Type 0
MarkedSoFar drives loads count free =
    (point : ℕ) (drive : Drive) (load : Bool) → point < count → slice_get drives point ≡ Some drive → slice_get loads point ≡ Some load → slice_get free point ≡ Some (free_by drive load)

pub marked_more : (drives : List Drive) (loads : List Bool) (count : ℕ) (old new : List Bool) (drive : Drive) (load mark : Bool) → new ≡ old ++ mark ∷ [] → length old ≡ count →
    slice_get drives count ≡ Some drive → slice_get loads count ≡ Some load → mark ≡ free_by drive load → MarkedSoFar drives loads count old →
    MarkedSoFar drives loads (count + 1) new
marked_more = more_marked free_by

-- the same of flip-flops and latches
abbrev pub StoredSoFar : (drives : List Drive) (loads : List Bool) (count : ℕ) → List Bool → Type 0
StoredSoFar drives loads count registers =
    (point : ℕ) (drive : Drive) (load : Bool) → point < count → slice_get drives point ≡ Some drive → slice_get loads point ≡ Some load → slice_get registers point ≡ Some (stored_by drive load)

pub stored_more : (drives : List Drive) (loads : List Bool) (count : ℕ) (old new : List Bool) (drive : Drive) (load mark : Bool) → new ≡ old ++ mark ∷ [] → length old ≡ count →
    slice_get drives count ≡ Some drive → slice_get loads count ≡ Some load → mark ≡ stored_by drive load → StoredSoFar drives loads count old →
    StoredSoFar drives loads (count + 1) new
stored_more = more_marked stored_by
