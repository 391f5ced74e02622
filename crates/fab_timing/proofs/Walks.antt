-- Walks of a design are walks over the nodes of its tables, and the path that is found there is the longest walk.
use Rattle.std.proofs.Common.{◌≡◌, ℕ, ◌+◌, ◌≤◌, List, [], ◌∷◌, Option, Some, None, refl, sym, ap, ◌∙◌, subst, arith}
use Rattle.fab_model.specs.Grid.{PlainFabric}
use Rattle.fab_fabric.specs.Wires.{numbered_wire}
use Rattle.fab_fabric.specs.declared.wire.Wire.{Wire}
use Rattle.fab_netlist.specs.Packed.{PlainPacked}
use Rattle.fab_implementation.specs.Plain.{PlainImplementation}
use Rattle.fab_timing.specs.Walks.{IsEnd, Stop, GoesOn, IsTimedWalk, PlainPath, IsLongest, Comes, IsLatestAt}
use Rattle.fab_timing.specs.Walks as walks
use Rattle.fab_timing.specs.inner.Arrivals.{PlainSteps, Arrives, begins, goes, IsLatest}
use Rattle.fab_timing.specs.inner.Tables.{GoesTo, IsTrail, EndsWith}
use Rattle.fab_timing.specs.inner.Design.{StepsAre, EndsAre, IsPathTo, trail, nothing}

module _ (fabric : PlainFabric) (packed : PlainPacked) (implementation : PlainImplementation) (steps : PlainSteps) (are : StepsAre fabric packed implementation steps) where
  -- ---- sums at wires

  comes_arrives : (wire : Wire) (sum : ℕ) → Comes fabric packed implementation wire sum → Arrives steps wire.0 sum
  comes_arrives wire sum (walks.begins start) = begins ((are.starts wire sum).1 start)
  comes_arrives wire sum (walks.goes {from = from} {sum = old} {units = units} before step) = goes from.0 old units (comes_arrives from old before) ((are.before from wire units).1 step)

  arrives_comes : (node sum : ℕ) → Arrives steps node sum → Comes fabric packed implementation (numbered_wire node) sum
  arrives_comes node sum (begins start) = walks.begins ((are.starts (numbered_wire node) sum).0 start)
  arrives_comes node sum (goes from old units before listed) =
      walks.goes (arrives_comes from old before) ((are.before (numbered_wire from) (numbered_wire node) units).0 listed)

  pub latest_at : (wire : Wire) (latest : Option ℕ) → IsLatest steps wire.0 latest → IsLatestAt fabric packed implementation wire latest
  latest_at wire None none = λ sum comes. none sum (comes_arrives wire sum comes)
  latest_at wire (Some sum) is = (arrives_comes wire.0 sum is.0, λ other comes. is.1 other (comes_arrives wire other comes))

  -- ---- a trail is a walk

  goes_on : (at : Stop) (more : List Stop) (last : Stop) (units delay : ℕ) → GoesTo steps at more last → IsEnd fabric packed implementation last.0 units → delay ≡ last.1 + units →
      GoesOn fabric packed implementation at more delay
  goes_on at [] last units delay same is_end delay_is =
      (units, subst (λ (wire : Wire). IsEnd fabric packed implementation wire units) (ap (λ (s : Stop). s.0) (sym same)) is_end, delay_is ∙ ap (λ (s : Stop). s.1 + units) (sym same))
  goes_on at (next ∷ more) last units delay on is_end delay_is =
      (on.0, (are.before at.0 next.0 on.0).0 on.1, on.2, goes_on next more last units delay on.3 is_end delay_is)

  trail_walks : (stops : List Stop) (last : Stop) (units delay : ℕ) → IsTrail steps stops last → IsEnd fabric packed implementation last.0 units → delay ≡ last.1 + units →
      IsTimedWalk fabric packed implementation stops delay
  trail_walks [] last units delay none is_end delay_is = absurd none
  trail_walks (first ∷ more) last units delay is is_end delay_is = ((are.starts first.0 first.1).0 is.0, goes_on first more last units delay is.1 is_end delay_is)

  -- ---- a walk comes to an end

  record Ends (delay : ℕ) : Type 0 where
    end : Wire
    units : ℕ
    is_end : IsEnd fabric packed implementation end units
    sum : ℕ
    arrives : Arrives steps end.0 sum
    delay_is : delay ≡ sum + units

  ends_from : (at : Stop) (more : List Stop) (delay : ℕ) → Arrives steps at.0.0 at.1 → GoesOn fabric packed implementation at more delay → Ends delay
  ends_from at [] delay arrives on = record { end = at.0; units = on.0; is_end = on.1; sum = at.1; arrives = arrives; delay_is = on.2 }
  ends_from at (next ∷ more) delay arrives on =
      ends_from next more delay (subst (Arrives steps next.0.0) (sym on.2) (goes at.0.0 at.1 on.0 arrives ((are.before at.0 next.0 on.0).1 on.1))) on.3

  walk_ends : (stops : List Stop) (delay : ℕ) → IsTimedWalk fabric packed implementation stops delay → Ends delay
  walk_ends [] delay none = absurd none
  walk_ends (first ∷ more) delay walk = ends_from first more delay (begins ((are.starts first.0 first.1).1 walk.0)) walk.1

  -- ---- the longest walk

  module _ (ends : List (ℕ × ℕ)) (ends_are : EndsAre fabric packed implementation ends) (latest : ℕ → Option ℕ) (all : (node : ℕ) → IsLatest steps node (latest node)) where
    -- an end of the tables that a delay does not exceed
    record IsBounded (delay : ℕ) : Type 0 where
      node : ℕ
      most : ℕ
      ends_so : EndsWith ends latest node most
      least : delay ≤ most

    bounded : (delay : ℕ) → Ends delay → IsBounded delay
    bounded delay found = by_latest (latest found.end.0) refl (all found.end.0)
      where
        by_latest : (o : Option ℕ) → latest found.end.0 ≡ o → IsLatest steps found.end.0 o → IsBounded delay
        by_latest None is none = absurd (none found.sum found.arrives)
        by_latest (Some sum) is greatest = record {
          node = found.end.0;
          most = sum + found.units;
          ends_so = record { units = found.units; listed = (ends_are found.end found.units).1 found.is_end; sum = sum; comes = is; delay_is = refl };
          least = (let less = greatest.1 found.sum found.arrives in let same = found.delay_is in omega (arith, less, same));
        }

    pub path_is_longest : (path : PlainPath) → IsPathTo steps ends latest path → IsLongest fabric packed implementation path
    path_is_longest path (trail end greatest stops) =
        let found = greatest.0 in
        let units = found.units in
        let is_end : IsEnd fabric packed implementation (numbered_wire end) units = (ends_are (numbered_wire end) units).0 found.listed in
        walks.walk (trail_walks path.stops (numbered_wire end, found.sum) units path.delay (stops found.sum found.comes) is_end found.delay_is)
        (λ others delay other.
        (let bound = bounded delay (walk_ends others delay other) in
        let most = greatest.1 bound.node bound.most bound.ends_so in
        let least = bound.least in
        omega (arith, most, least)))
    path_is_longest path (nothing none) = walks.none (λ others delay other. (let bound = bounded delay (walk_ends others delay other) in none bound.node bound.most bound.ends_so))
