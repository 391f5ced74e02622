-- Each sound text with the two clocks has a simulation.
use Rattle.std.proofs.Common.{◌≡◌, Bool, true, false, List, [], ◌∷◌, if◌then◌else◌, refl, sym, ap, inl, inr}
use Rattle.std.proofs.lemmas.Bool.{cases_Bool, false≢true}
use Rattle.fab_syntax.specs.Plain.{PlainModule}
use Rattle.fab_syntax.specs.Sound.{IsSound}
use Rattle.fab_systems_laws.specs.Ternary.{Tern, no, unknown, known}
use Rattle.fab_meaning.specs.Points.{Point, Driver, Drives}
use Rattle.fab_meaning.specs.Reads.{is_declared}
use Rattle.fab_meaning.specs.Runs.{user_clock_name}
use Rattle.fab_meaning.specs.Sound.{PointsOfSoundTextsHaveOneDriver}
use Rattle.fab_sound.specs.Narrow.{AreNarrow}
use Rattle.fab_use_defs.specs.fab_state_Plain.{PlainState}
use Rattle.fab_ternary_laws.specs.Shown.{Terns}
use Rattle.fab_load_runs_laws.specs.Runs.{HasClocks, LoadingIsDecided, LoadsExist}
use Rattle.fab_solutions_laws.specs.Solutions.{tern_kept}
use Rattle.fab_solutions_laws.specs.Laws.{LeastSolutionsExist}
use Rattle.fab_simulation_laws.specs.Simulation.{zeros, IsLoaded, with_registers, given, shown_at, IsCycle, AreCycles, none, after}
use Rattle.fab_simulation_laws.specs.Laws.{SimulationsExist}

module _ (one : PointsOfSoundTextsHaveOneDriver) (least : LeastSolutionsExist) (text : List PlainModule) (state : PlainState) (sound : IsSound text)
    (narrow : AreNarrow text) where
  -- what the driver of a declared point keeps; what other points are left with is free
  kept_by : (held t : Terns) (p : Point) (declared : Bool) → is_declared text p ≡ declared → Tern
  kept_by held t p true is_there = tern_kept text user_clock_name held t p (one text sound p is_there).0
  kept_by held t p false is_there = unknown

  kept_is : (held t : Terns) (p : Point) (d : Driver) (declared : Bool) (e : is_declared text p ≡ declared) → declared ≡ true → Drives text p d →
      kept_by held t p declared e ≡ tern_kept text user_clock_name held t p d
  unfolding kept_by
  kept_is held t p d true e holds drives = ap (tern_kept text user_clock_name held t p) (sym ((one text sound p e).2 d drives))
  kept_is held t p d false e holds drives = absurd (false≢true holds)

  pub cycles_exist : (lines : List (List Bool)) (held : Terns) → (shown : List (List Tern)) × (last : Terns) × AreCycles text state held lines shown last
  cycles_exist [] held = ([], held, none)
  cycles_exist (values ∷ lines) held =
      let found = least text sound narrow (given state.ins values) held in
      let next : Terns = λ p. kept_by held found.0 p (is_declared text p) refl in
      let cycle : IsCycle text state held values (shown_at state.outs found.0) next = record {
        now = found.0;
        least = found.1;
        shows = refl;
        leaves = λ p d declared drives. kept_is held found.0 p d (is_declared text p) refl declared drives;
      } in
      let rest = cycles_exist lines next in
      (shown_at state.outs found.0 ∷ rest.0, rest.1, after cycle rest.2)

module _ (decided : LoadingIsDecided) (loads : LoadsExist) (text : List PlainModule) (sound : IsSound text) (clocks : HasClocks text)
    (words : List (List Bool)) where
  loaded_exist : (held : Terns) × IsLoaded text words held
  loaded_exist =
      let has = decided text sound in
      let found = loads text sound clocks words zeros in (
        (λ p. if has.0 p then known (found.0 p) else no),
        record {
          after = found.0;
          loads = found.1;
          loaded = λ p is. ap (λ b. if b then known (found.0 p) else no) (has.1.whole p is);
          others = λ p none.
              elim (cases_Bool (has.0 p)) [
                | inl holds ↦ absurd (none (has.1.sound p holds))
                | inr fails ↦ ap (λ b. if b then known (found.0 p) else no) fails
              ];
        },
      )

pub simulations_exist : PointsOfSoundTextsHaveOneDriver → LeastSolutionsExist → LoadingIsDecided → LoadsExist → SimulationsExist
simulations_exist one least decided loads text state words lines sound narrow clocks =
    let start = loaded_exist decided loads text sound clocks words in
    let run = cycles_exist one least text state sound narrow lines (with_registers state.ffs start.0) in
    (run.0, record { loaded = start.0; is_loaded = start.1; last = run.1; cycles = run.2 })
