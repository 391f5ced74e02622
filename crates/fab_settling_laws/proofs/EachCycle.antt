-- The ends of the cycles' blocks are the instants of a run of cycles of use.
use Rattle.std.proofs.Common.{◌≡◌, ℕ, Bool, false, List, [], ◌∷◌, map, refl, sym, ◌∙◌, subst, inl, inr}
use Rattle.std.proofs.lemmas.List.Elements.{All-nil, All-cons}
use Rattle.fab_systems_laws.specs.Steps.{blocks_then}
use Rattle.fab_meaning.specs.Points.{Point, Driver, flop, Drives}
use Rattle.fab_meaning.specs.Settled.{Assignment, IsSettledOn}
use Rattle.fab_meaning.specs.Runs.{user_clock_name, Ticks}
use Rattle.fab_meaning.specs.Activation.{State, IsTick}
use Rattle.fab_meaning.specs.Loading.{IsLoading}
use Rattle.fab_netlist.specs.Plain.{name_of}
use Rattle.fab_netlist.specs.Meaning.{IsRun}
use Rattle.fab_netlist.specs.Packing.{packed}
use Rattle.fab_prim.specs.Ports.{top_name}
use Rattle.fab_runs_laws.specs.fab_text_loads_laws_Loads.{IsConfigured}
use Rattle.fab_runs_laws.specs.fab_use_defs_Sites.{top_point}
use Rattle.fab_runs_laws.specs.fab_use_defs_Design.{at_flip_flop}
use Rattle.fab_runs_laws.specs.fab_use_defs_Cycles.{Instant, AreInstants, Feeds, AreCycles}
use Rattle.fab_runs_laws.specs.fab_use_defs_Sources.{source_value}
use Rattle.fab_runs_laws.specs.Carrying.{MeetsSources}
use Rattle.fab_runs_laws.proofs.Setting.{Setting, cells_made}
use Rattle.fab_runs_laws.proofs.DesignRank.{settles_once}
use Rattle.fab_runs_laws.proofs.Instants.{Has}
use Rattle.fab_runs_laws.proofs.CyclesRun.{runs_from}
use Rattle.fab_settling_laws.specs.Blocks.{HasAtMost, BlockCycle, IsBlockCycle, AreBlockCycles, end_of, as_cycle}
use Rattle.fab_settling_laws.specs.Settling.{SettlesFrom}
use Rattle.fab_settling_laws.proofs.Origins.{IsRegister, source_register, register_flop}
use Rattle.fab_settling_laws.proofs.OneStep.{shown_again, kept_again, Stands, Keeps, loading_driver, use_steps, user_stands, feeding_steps, free_steps}
use Rattle.fab_settling_laws.proofs.Blocks.{value_same, meets, source_still, design_settles, reads_sourced}

-- the values given are the same
same_given : (cycles : List BlockCycle) → map (λ c. c.given) (map as_cycle cycles) ≡ map (λ c. c.given) cycles
same_given [] = refl
same_given (cycle ∷ more) = (let rest = same_given more in λ j. cycle.given ∷ rest j)

module _ (s : Setting) where
  -- what is held is what a state holds, as far as design points show it
  record Holds (held : Assignment) (u : State) : Type 0 where
    loading : (p : Point) → IsLoading s.text p → held p ≡ u.held p
    registers : (p : Point) → IsRegister (packed s.netlist) s.implementation p → held p ≡ u.held p

  -- ---- the end of a cycle's blocks

  module _ (end : State) (stands : Stands s end) (held : Assignment) (holds : Holds held end) where
    held_configured : IsConfigured s.fabric s.bits held
    held_configured = s.laws.goes s.fabric s.text s.bits end.held held s.is s.is_text stands.configured holds.loading

    loading_settled : IsSettledOn (IsLoading s.text) s.text end.now held end.now
    loading_settled p d loads drives =
        stands.rest.settled p d loads drives ∙ shown_again s.text end.held end.now held end.now p d (λ q. refl) (sym (holds.loading p loads))

    -- behind blocks the state meets its sources, as the settled assignment does; so it is itself settled
    module _ (start : State) (stands_first : Stands s start) (keeps : Keeps s start end) (settled : Assignment)
        (is_settled : IsSettledOn (Has s) s.text start.now start.held settled) (same : (p : Point) → Has s p → end.now p ≡ settled p) where
      end_meets : MeetsSources s.fabric (packed s.netlist) s.implementation end.now held end.now
      end_meets p source design from =
          let as_held : source_value end.now held end.now p source ≡ source_value end.now end.held end.now p source =
          value_same end.now end.now held end.held end.now end.now p source (λ is. refl) (λ is. holds.registers p (source_register s p source from is))
          (λ q among. refl) in
          let still = source_still s start stands_first settled is_settled end keeps p source from end.now settled
          (λ q among. same q (inl (inr (reads_sourced s p source from q among)))) in
          same p (inl design) ∙ meets s start stands_first settled is_settled p source design from ∙ sym (as_held ∙ still)

      end_settled : IsSettledOn (Has s) s.text end.now held end.now
      end_settled =
          (s.laws.by_sources s.fabric s.text (packed s.netlist) s.fixed s.implementation s.bits end.now held end.now s.is s.are s.is_text (cells_made s) s.legal
          s.configures held_configured loading_settled).1 end_meets

    -- a tick from what is held leaves what it leaves in the state
    ticked : (next : Assignment) × Ticks (Has s) s.text user_clock_name held end.now next
    ticked = (settles_once s held end.now held_configured stands.rest.low.0).ticks user_clock_name end.now

    same_tick : (after : State) → IsTick s.text user_clock_name end after → (p : Point) (d : Driver) → Has s p → Drives s.text p d → held p ≡ end.held p →
        ticked.0 p ≡ after.held p
    same_tick after tick p d has drives same =
        ticked.1 p d has drives ∙ kept_again s.text user_clock_name held end.held end.now p d same ∙ sym (tick.keeps p d drives)

    register_has : (p : Point) → IsRegister (packed s.netlist) s.implementation p → Has s p
    register_has p register = subst (Has s) (sym register.is) (inl (inr (inr (inl (at_flip_flop register.bound register.latched)))))

    ticked_holds : (after : State) → IsTick s.text user_clock_name end after → Holds ticked.0 after
    ticked_holds after tick = record {
      loading = λ p loads. (let one = loading_driver s p loads in same_tick after tick p one.0 (inr loads) one.1 (holds.loading p loads));
      registers = λ p register.
          let at = register_flop s p register in
          same_tick after tick p (flop at.path user_clock_name at.next 0) (register_has p register) at.drives (holds.registers p register);
    }

  -- ---- cycles

  fed_still : (given : List Bool) (a b : State) → Stands s b → Keeps s a b → Feeds s.netlist s.implementation given a.now →
      Feeds s.netlist s.implementation given b.now
  fed_still given a b stands keeps fed = record {
    quiet = stands.rest.quiet;
    low = stands.rest.low.0;
    pads = λ place net site at among. keeps.pads (top_point site top_name) (name_of s.netlist net, site, among, refl) ∙ fed.pads place net site at among;
  }

  module _ (count : ℕ) (most : HasAtMost (Has s) count) where
    abbrev OneCycle : BlockCycle → (before after : State) → Type 0
    OneCycle = IsBlockCycle (Has s) count s.text s.netlist s.implementation

    abbrev Cycles : List BlockCycle → (before after : State) → Type 0
    Cycles = AreBlockCycles (Has s) count s.text s.netlist s.implementation

    module _ (cycle : BlockCycle) (before after : State) (stands : Stands s before) (is : OneCycle cycle before after) where
      free : Stands s cycle.settled × Keeps s before cycle.settled
      free = free_steps s (blocks_then cycle.blocks cycle.more) before cycle.settled stands is.steps

      fed_on : Stands s after × ((p : Point) → after.held p ≡ cycle.ticked.held p)
      fed_on = feeding_steps s cycle.changes cycle.ticked after (user_stands s cycle.settled cycle.ticked free.0 is.ticks) is.changes

      some : (now : Assignment) × IsSettledOn (Has s) s.text before.now before.held now × ((p : Point) → (Has s p → ⊥) → now p ≡ false)
      some = (settles_once s before.held before.now stands.configured stands.rest.low.0).exists (λ p. false)

      module _ (held : Assignment) (holds : Holds held before) where
        end_holds : Holds held cycle.settled
        end_holds = record {
          loading = λ p loads. holds.loading p loads ∙ sym (free.1.holding p loads);
          registers = λ p register. holds.registers p register ∙ sym (free.1.registers p register);
        }

        next : (left : Assignment) × Ticks (Has s) s.text user_clock_name held cycle.settled.now left
        next = ticked cycle.settled free.0 held end_holds

        instants : AreInstants (Has s) s.text (end_of cycle ∷ []) held next.0
        instants = (
          next.0,
          end_settled cycle.settled free.0 held end_holds before stands free.1 some.0 some.1
              (design_settles s before stands some.0 some.1 count most cycle.blocks cycle.more cycle.settled is.blocks is.steps),
          free.0.rest.low,
          next.1,
          λ p has. refl,
        )

        next_holds : Holds next.0 after
        unfolding next
        next_holds =
            let left = ticked_holds cycle.settled free.0 held end_holds cycle.ticked is.ticks in
            record {
              loading = λ p loads. left.loading p loads ∙ sym (fed_on.1 p);
              registers = λ p register. left.registers p register ∙ sym (fed_on.1 p);
            }

    cycles_run : (cycles : List BlockCycle) (before after : State) (held : Assignment) → Stands s before → Holds held before → Cycles cycles before after →
        (last : Assignment) × AreCycles (Has s) s.text s.netlist s.implementation (map as_cycle cycles) held last
    cycles_run [] before after held stands holds are = (held, λ p has. refl)
    cycles_run (cycle ∷ more) before after held stands holds (between, is, are) =
        let IsGiven : Instant → Type 0 = λ i. Feeds s.netlist s.implementation cycle.given i.inputs in
        let free_to = free cycle before between stands is in
        let fed = fed_still cycle.given before cycle.settled free_to.0 free_to.1 is.fed in
        let left = next cycle before between stands is held holds in
        let rest = cycles_run more between after left.0 (fed_on cycle before between stands is).0 (next_holds cycle before between stands is held holds) are in
        (rest.0, ((refl, All-cons IsGiven (end_of cycle) [] fed (All-nil IsGiven)), left.0, instants cycle before between stands is held holds, rest.1))

    pub settles_from : (start : State) → Stands s start → SettlesFrom (Has s) count s.text s.netlist s.netlist s.implementation start
    settles_from start stands = record {
      stays = λ events after steps. (let used = use_steps s events start after stands steps in (used.0.rest, used.1));
      once = λ events before steps.
          (let used = (use_steps s events start before stands steps).0 in settles_once s before.held before.now used.configured used.rest.low.0);
      settles = λ events before after blocks more settled steps are free is_settled.
          design_settles s before (use_steps s events start before stands steps).0 settled is_settled count most blocks more after are free;
      runs = λ cycles after are. cycles_run cycles start after start.held stands (record { loading = λ p loads. refl; registers = λ p register. refl }) are;
      shows = λ cycles after latches are holds.
          let run = cycles_run cycles start after start.held stands (record { loading = λ p loads. refl; registers = λ p register. refl }) are in
          let shown = (runs_from s start.held stands.configured).shows (map as_cycle cycles) run.0 latches run.1 holds in
          (shown.0, subst (λ vectors. IsRun s.netlist latches vectors shown.0) (same_given cycles) shown.1, shown.2);
    }
