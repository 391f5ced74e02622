-- Whatever is fed, there is a run of cycles.
use Rattle.std.proofs.Common.{◌≡◌, ℕ, Bool, true, false, List, [], ◌∷◌, ◌++◌, refl, sym, ap, ◌∙◌, subst, inl, inr}
use Rattle.std.specs.List.{All, AllZip}
use Rattle.std.proofs.lemmas.Bool.{cases_Bool, false≢true}
use Rattle.std.proofs.lemmas.List.Elements.{All-nil, All-cons, All-head, All-tail, All-push}
use Rattle.fab_syntax.specs.Plain.{PlainModule}
use Rattle.fab_syntax.specs.Declarations.{is_input, is_input_of}
use Rattle.fab_meaning.specs.Points.{Point, point, outside, module_at}
use Rattle.fab_meaning.specs.Settled.{Assignment, IsSettledOn}
use Rattle.fab_meaning.specs.Runs.{clock_name, user_clock_name, AreClocksLow, Ticks}
use Rattle.fab_model.specs.Grid.{PlainFabric}
use Rattle.fab_fabric.specs.Fabric.{IsFabric}
use Rattle.fab_points_laws.specs.fab_fabric_text_defs_Top.{top_module}
use Rattle.fab_netlist.specs.Plain.{PlainNetlist}
use Rattle.fab_implementation.specs.Plain.{PlainImplementation}
use Rattle.fab_points_laws.specs.fab_fabric_text_defs_Texts.{IsFabricText}
use Rattle.fab_points_laws.specs.fab_use_defs_Cycles.{Instant, AreInstants, Feeds, EndsCycle, IsCycle, Cycle, AreCycles}
use Rattle.fab_points_laws.specs.fab_use_defs_Headline.{SettlesOnce, DesignPoints, IsFed, RunsFrom}
use Rattle.fab_points_laws.proofs.EachSource.{has_fabric}
use Rattle.fab_runs_laws.specs.Feeding.{AreFedAlike, AreGivenAlike, IsCycleAtLow, FedDesignsRun}
use Rattle.fab_runs_laws.proofs.Behind.{one_more_instant, one_more_cycle}

-- the last clock of a cycle is told by clocks alone
pub ends_alike : (run instants : List Instant) → AllZip AreFedAlike run instants → EndsCycle instants → EndsCycle run
ends_alike [] [] alike ends = ends
ends_alike [] (j ∷ more) alike ends = absurd alike
ends_alike (i ∷ run) [] alike ends = absurd alike
ends_alike (i ∷ []) (j ∷ []) alike ends = alike.0.clock ∙ ends
ends_alike (i ∷ []) (j ∷ k ∷ more) alike ends = absurd alike.1
ends_alike (i ∷ h ∷ run) (j ∷ []) alike ends = absurd alike.1
ends_alike (i ∷ h ∷ run) (j ∷ k ∷ more) alike ends = (alike.0.clock ∙ ends.0, ends_alike (h ∷ run) (k ∷ more) alike.1 ends.1)

module _ (fabric : PlainFabric) (text : List PlainModule) (netlist : PlainNetlist) (implementation : PlainImplementation) (is : IsFabric fabric) (is_text : IsFabricText fabric text) where
  abbrev Has : Point → Type 0
  Has = DesignPoints fabric text netlist implementation

  -- ---- an instant

  -- An input of the top that is fed 0 is 0 where the points beside the design are 0: it is one of them, or shows what is fed.
  fed_low : (name : List ℕ) (inputs held now : Assignment) → is_input (top_module fabric).ports name ≡ true → inputs (point [] name 0) ≡ false → IsSettledOn Has text inputs held now →
      ((p : Point) → (Has p → ⊥) → now p ≡ false) → now (point [] name 0) ≡ false
  fed_low name inputs held now is_port low settled others =
      elim (cases_Bool (now (point [] name 0))) [
        | inr done ↦ done
        | inl high ↦ (
            let input : is_input_of (module_at text []) name ≡ true = ap (λ m. is_input_of m name) (has_fabric fabric text is is_text).top_is ∙ is_port in
            let shows : Has (point [] name 0) → now (point [] name 0) ≡ false = λ has. settled (point [] name 0) outside has (inl (record { top = refl; input = input; is = refl })) ∙ low in
            others (point [] name 0) (λ has. false≢true (sym (shows has) ∙ high)))
      ]

  -- an instant in which this is fed
  pub record Goes (i : Instant) (held : Assignment) : Type 0 where
    pub instant : Instant
    pub next : Assignment
    pub alike : AreFedAlike instant i
    pub settled : IsSettledOn Has text instant.inputs held instant.now
    pub low : AreClocksLow instant.now
    pub ticks : Ticks Has text instant.clock held instant.now next

  pub goes : (i : Instant) (held : Assignment) → SettlesOnce Has text i.inputs held → i.inputs (point [] clock_name 0) ≡ false → i.inputs (point [] user_clock_name 0) ≡ false → Goes i held
  goes i held once low user_low =
      let found = once.exists (λ p. false) in
      let tick = once.ticks i.clock found.0 in
      record {
        instant = record { inputs = i.inputs; now = found.0; clock = i.clock };
        next = tick.0;
        alike = record { inputs = refl; clock = refl };
        settled = found.1;
        low = (fed_low clock_name i.inputs held found.0 refl low found.1 found.2, fed_low user_clock_name i.inputs held found.0 refl user_low found.1 found.2);
        ticks = tick.1;
      }

  module _ (read : PlainNetlist) (start : Assignment) (runs : RunsFrom fabric text read netlist implementation start) where
    -- ---- a cycle behind others

    module _ (behind : List Cycle) (between : Assignment) (are_behind : AreCycles Has text netlist implementation behind start between) (given : List Bool) where
      abbrev IsGiven : Instant → Type 0
      IsGiven i = Feeds netlist implementation given i.inputs

      abbrev IsTick : Instant → Type 0
      IsTick i = IsFed netlist implementation given i

      abbrev IsLow : Instant → Type 0
      IsLow i = i.inputs (point [] user_clock_name 0) ≡ false

      record Run (instants : List Instant) (held : Assignment) : Type 0 where
        run : List Instant
        alike : AllZip AreFedAlike run instants
        fed : All IsGiven run
        next : Assignment
        are : AreInstants Has text run held next

      -- the next instant, behind ticks of CLK in the cycle
      next_goes : (i : Instant) (done : List Instant) (held : Assignment) → IsGiven i → IsLow i → AreInstants Has text done between held → All IsTick done → Goes i held
      next_goes i done held feeds low are_done ticks = goes i held (runs.settles behind done between held given i.inputs are_behind are_done ticks feeds) feeds.low low

      fed_alike : (first second : Instant) → AreFedAlike first second → IsGiven second → IsGiven first
      fed_alike first second alike feeds = subst (λ (inputs : Assignment). Feeds netlist implementation given inputs) (sym alike.inputs) feeds

      instants_run : (instants done : List Instant) (held : Assignment) → EndsCycle instants → All IsGiven instants → All IsLow instants → AreInstants Has text done between held →
          All IsTick done → Run instants held
      instants_run [] done held ends fed low are_done ticks = absurd ends
      instants_run (i ∷ []) done held ends fed low are_done ticks =
          let feeds = All-head IsGiven i [] fed in
          let last = next_goes i done held feeds (All-head IsLow i [] low) are_done ticks in
          record {
            run = last.instant ∷ [];
            alike = (last.alike, tt);
            fed = All-cons IsGiven last.instant [] (fed_alike last.instant i last.alike feeds) (All-nil IsGiven);
            next = last.next;
            are = (last.next, last.settled, last.low, last.ticks, λ p has. refl);
          }
      instants_run (i ∷ j ∷ more) done held ends fed low are_done ticks =
          let feeds = All-head IsGiven i (j ∷ more) fed in
          let first = next_goes i done held feeds (All-head IsLow i (j ∷ more) low) are_done ticks in
          let feeds_first = fed_alike first.instant i first.alike feeds in
          let are_more = one_more_instant text Has done first.instant between held first.next are_done (first.next, first.settled, first.low, first.ticks, λ p has. refl) in
          let rest = instants_run (j ∷ more) (done ++ first.instant ∷ []) first.next ends.1 (All-tail IsGiven i (j ∷ more) fed) (All-tail IsLow i (j ∷ more) low) are_more
          (All-push IsTick done first.instant ticks (feeds_first, first.alike.clock ∙ ends.0)) in
          record {
            run = first.instant ∷ rest.run;
            alike = (first.alike, rest.alike);
            fed = All-cons IsGiven first.instant rest.run feeds_first rest.fed;
            next = rest.next;
            are = (first.next, first.settled, first.low, first.ticks, rest.are);
          }

    -- ---- cycles

    abbrev IsFine : Cycle → Type 0
    IsFine = IsCycleAtLow netlist implementation

    cycles_run : (cycles behind : List Cycle) (between : Assignment) → All IsFine cycles → AreCycles Has text netlist implementation behind start between →
        (run : List Cycle) × AllZip AreGivenAlike run cycles × (last : Assignment) × AreCycles Has text netlist implementation run between last
    cycles_run [] behind between fine are_behind = ([], tt, between, (λ p has. refl))
    cycles_run (c ∷ more) behind between fine are_behind =
        let is_fine = All-head IsFine c more fine in
        let first = instants_run behind between are_behind c.given c.instants [] between is_fine.0.0 is_fine.0.1 is_fine.1 (λ p has. refl) (All-nil (IsTick behind between are_behind c.given)) in
        let cycle : Cycle = record { given = c.given; instants = first.run } in
        let is_cycle : IsCycle netlist implementation cycle = (ends_alike first.run c.instants first.alike is_fine.0.0, first.fed) in
        let rest = cycles_run more (behind ++ cycle ∷ []) first.next (All-tail IsFine c more fine)
        (one_more_cycle text Has netlist implementation behind cycle start between first.next are_behind is_cycle first.are) in (
          cycle ∷ rest.0,
          (record { given = refl; instants = first.alike }, rest.1),
          rest.2,
          (is_cycle, first.next, first.are, rest.3),
        )

pub fed_designs_run : FedDesignsRun
fed_designs_run fabric text read netlist implementation start is is_text runs cycles fine =
    cycles_run fabric text netlist implementation is is_text read start runs cycles [] start fine (λ p has. refl)
