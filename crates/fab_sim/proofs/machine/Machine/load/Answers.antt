use Rattle.std.proofs.Common.{◌≡◌, ℕ, Bool, List, length, map, sym, ap, subst, ◌∙◌, arith}
use Rattle.std.specs.List.{slice_get}
use Rattle.std.specs.Vec.{with_items}
use Rattle.std.proofs.lemmas.List.{with_items_is}
use Rattle.fab_meaning.specs.Loading.{OfferWords, offered_at}
use Rattle.fab_ternary.specs.declared.Tern.{Tern}
use Rattle.fab_network.specs.Passes.{kept_tern}
use Rattle.fab_network.proofs.Forming.{no_forms}
use Rattle.fab_ordering_laws.specs.fab_simulation_laws_Simulation.{zeros}
use Rattle.fab_phases.specs.Words.{AreLoadSteps, IsLoadingAt, word_bits}
use Rattle.fab_phases.specs.Cycles.{IsRunningAt}
use Rattle.fab_state_points.specs.Standing.{data_width, first_data}
use Rattle.fab_state_points.specs.Entries.{in_entries, out_entries, register_entries}
use Rattle.fab_sim.specs.inner.Starting.{IsSetOut}
use Rattle.fab_sim.proofs.Numbers.{ffs_once, numbers_within}
use Rattle.fab_sim.proofs.Loaded.{data_within, holds_first, holds_last, pieces_of_words, pieces_wide, solvable, strobe_within}
use Rattle.fab_sim.proofs.Started.{starts_as}
use Rattle.fab_sim.proofs.machine.Machine.load.Goals as goal

pub load_stream-requires-clause-solvable : goal.load_stream-requires-clause-solvable
load_stream-requires-clause-solvable c =
    solvable c.numbered_exists.ensures.numbers c.numbered_exists.ensures.points c.numbered_solutions.ensures.least c.least_solutions.ensures.exist c.requires.0
    c.args.self.now.network c.requires.2.of.network

pub set_out-requires-clause-strobe : goal.set_out-requires-clause-strobe
set_out-requires-clause-strobe c =
    let m = c.args.self.now in
    let of = c.requires.2.of in
    let within = strobe_within c.requires.0 m.network of.network m.points.stream of.stands.has of.stands.stream in
    let long = c.deref_mut-2.ensures.len ∙ sym c.deref_mut.ensures.len ∙ ap length c.deref_mut.ensures.value ∙ of.given in
    omega (arith, within, long)

pub set_out-requires-clause-carrier : goal.set_out-requires-clause-carrier
set_out-requires-clause-carrier c =
    let m = c.args.self.now in
    let of = c.requires.2.of in
    let within = data_within c.requires.0 m.network of.network m.points.stream of.stands.has of.stands.stream in
    let long = c.deref_mut-2.ensures.len ∙ sym c.deref_mut.ensures.len ∙ ap length c.deref_mut.ensures.value ∙ of.given in
    omega (arith, within, long)

pub set_out-requires-clause-ins : goal.set_out-requires-clause-ins
set_out-requires-clause-ins c =
    let of = c.requires.2.of in
    numbers_within c.requires.0 (in_entries c.requires.1.ins) c.args.self.now.points.ins.items (length c.deref_mut-2.result.now) of.stands.ins
    (c.deref_mut-2.ensures.len ∙ sym c.deref_mut.ensures.len ∙ ap length c.deref_mut.ensures.value ∙ of.given)

pub set_out-requires-clause-ffs : goal.set_out-requires-clause-ffs
set_out-requires-clause-ffs c =
    let of = c.requires.2.of in
    numbers_within c.requires.0 (register_entries c.requires.1.ffs) c.args.self.now.points.ffs.items (length c.deref_mut-2.result.now) of.stands.ffs
    (c.deref_mut-2.ensures.len ∙ sym c.deref_mut.ensures.len ∙ ap length c.deref_mut.ensures.value ∙ of.given)

pub set_out-requires-clause-once : goal.set_out-requires-clause-once
set_out-requires-clause-once c = ffs_once c.requires.0 c.requires.1 c.args.self.now.points.ffs.items c.requires.2.of.once c.requires.2.of.stands.ffs

pub ask_for_run-requires-clause-outs : goal.ask_for_run-requires-clause-outs
ask_for_run-requires-clause-outs c place number e =
    let m = c.args.self.now in
    let of = c.requires.2.of in
    numbers_within c.requires.0 (out_entries c.requires.1.outs) m.points.outs.items (length m.network.drives.items) of.stands.outs of.network.long place number
    (ap (λ (ns : List ℕ). slice_get ns place) (sym c.deref-2.ensures.value) ∙ e)

pub returns-clause-runs : goal.returns-clause-runs
returns-clause-runs c text state new loaded is_loaded =
    let m = c.args.self.now in
    let of = new.of in
    let carrier = m.points.stream.carrier in
    let pieces = offered_at (data_width carrier) (map word_bits c.args.words.now) in
    -- what loading leaves
    let loading = subst (IsLoadingAt m.network m.loading new.loads (first_data carrier) (data_width carrier) m.demand) (sym c.deref_mut.ensures.value) new.loading in
    let steps = subst (λ (xs : List Tern). AreLoadSteps m.network new.loads (first_data carrier) pieces (kept_tern xs) (kept_tern c.load_stream.new.given))
    c.deref_mut.ensures.value
    (c.load_stream.ensures.steps new.loads loading) in
    let offers = subst (λ (offered : List (List Bool)). OfferWords offered is_loaded.loads.moments) (pieces_of_words text m.points.stream of.stands.stream c.args.words.now)
    is_loaded.loads.offers in
    let begins = holds_first text m.network of.network m.points.stream of.stands.has of.stands.stream (kept_tern m.given.items) new.first in
    let holding = holds_last text m.network of.network m.points.stream of.stands.has of.stands.stream c.points_of_sound_texts_have_one_driver.ensures
    c.numbered_exists.ensures.numbers c.numbered_exists.ensures.points c.numbered_solutions.ensures.solve c.numbered_kept.ensures
    c.loading_is_known.ensures.known
    c.loading_is_known.ensures.kept new.loads new.are pieces (pieces_wide carrier c.args.words.now) is_loaded.loads.moments (kept_tern m.given.items) (kept_tern c.load_stream.new.given) zeros
    is_loaded.after begins
    steps offers is_loaded.loads.run in
    -- what is set then
    let filled : (with_items m.given c.load_stream.new.given).items ≡ c.load_stream.new.given =
    with_items_is m.given c.load_stream.new.given (c.load_stream.auto.given ∙ c.deref_mut.ensures.len) in
    let filled_again : (with_items (with_items m.given c.load_stream.new.given) c.set_out.new.given).items ≡ c.set_out.new.given =
    with_items_is (with_items m.given c.load_stream.new.given) c.set_out.new.given (c.set_out.auto.given ∙ c.deref_mut-2.ensures.len) in
    let set = subst (λ (values : List Bool). IsSetOut m.points values (kept_tern c.load_stream.new.given) (kept_tern c.set_out.new.given)) c.deref.ensures.value
    (subst (λ (xs : List Tern). IsSetOut m.points c.deref.result.now (kept_tern xs) (kept_tern c.set_out.new.given)) (c.deref_mut-2.ensures.value ∙ filled)
    c.set_out.ensures) in
    let starts = starts_as text state m new is_loaded.after (kept_tern c.load_stream.new.given) (kept_tern c.set_out.new.given) holding set loaded
    is_loaded.loaded
    is_loaded.others in
    let left : c.deref-3.result.now ≡ c.set_out.new.given = c.deref-3.ensures.value ∙ filled_again in
    let running = c.ask_for_run.ensures.running m.points.ins.items (λ place number e.
    let opened = starts.opened place number e in (opened.0, ap (λ (xs : List Tern). kept_tern xs number) left ∙ opened.1)) in
    record {
      of = record {
        network = of.network;
        once = of.once;
        stands = of.stands;
        values = of.values;
        given = ap length filled_again ∙ c.set_out.auto.given ∙ c.deref_mut-2.ensures.len ∙ sym c.deref_mut.ensures.len ∙ ap length c.deref_mut.ensures.value
            ∙ of.given;
        loads = of.loads;
        clock = of.clock;
        demand = c.ask_for_run.ensures.points ∙ c.load_stream.ensures.points ∙ of.demand;
      };
      holds = kept_tern c.set_out.new.given;
      running = subst (λ (xs : List Tern). IsRunningAt m.network m.points.ins.items m.points.outs.items c.ask_for_run.new.demand xs
          (kept_tern c.set_out.new.given))
          (sym filled_again)
          (subst (λ (xs : List Tern). IsRunningAt m.network m.points.ins.items m.points.outs.items c.ask_for_run.new.demand xs (kept_tern xs)) left
          (subst (λ (outs : List ℕ). IsRunningAt m.network m.points.ins.items outs c.ask_for_run.new.demand c.deref-3.result.now
          (kept_tern c.deref-3.result.now))
          c.deref-2.ensures.value running));
      forms = no_forms m.network.trees.items m.network.drives.items c.ask_for_run.new.demand.own c.ask_for_run.new.demand.leads c.ask_for_run.new.demand.terns
          c.begin_run.new.forms.items c.begin_run.ensures;
      agree = starts.agree;
      low = starts.low;
    }

pub returns-clause-fresh : goal.returns-clause-fresh
returns-clause-fresh c text state new loaded is_loaded =
    let m = c.args.self.now in
    let of = new.of in
    let carrier = m.points.stream.carrier in
    let pieces = offered_at (data_width carrier) (map word_bits c.args.words.now) in
    -- what loading leaves
    let loading = subst (IsLoadingAt m.network m.loading new.loads (first_data carrier) (data_width carrier) m.demand) (sym c.deref_mut.ensures.value) new.loading in
    let steps = subst (λ (xs : List Tern). AreLoadSteps m.network new.loads (first_data carrier) pieces (kept_tern xs) (kept_tern c.load_stream.new.given))
    c.deref_mut.ensures.value
    (c.load_stream.ensures.steps new.loads loading) in
    let offers = subst (λ (offered : List (List Bool)). OfferWords offered is_loaded.loads.moments) (pieces_of_words text m.points.stream of.stands.stream c.args.words.now)
    is_loaded.loads.offers in
    let begins = holds_first text m.network of.network m.points.stream of.stands.has of.stands.stream (kept_tern m.given.items) new.first in
    let holding = holds_last text m.network of.network m.points.stream of.stands.has of.stands.stream c.points_of_sound_texts_have_one_driver.ensures
    c.numbered_exists.ensures.numbers c.numbered_exists.ensures.points c.numbered_solutions.ensures.solve c.numbered_kept.ensures
    c.loading_is_known.ensures.known
    c.loading_is_known.ensures.kept new.loads new.are pieces (pieces_wide carrier c.args.words.now) is_loaded.loads.moments (kept_tern m.given.items) (kept_tern c.load_stream.new.given) zeros
    is_loaded.after begins
    steps offers is_loaded.loads.run in
    -- what is set then
    let filled : (with_items m.given c.load_stream.new.given).items ≡ c.load_stream.new.given =
    with_items_is m.given c.load_stream.new.given (c.load_stream.auto.given ∙ c.deref_mut.ensures.len) in
    let filled_again : (with_items (with_items m.given c.load_stream.new.given) c.set_out.new.given).items ≡ c.set_out.new.given =
    with_items_is (with_items m.given c.load_stream.new.given) c.set_out.new.given (c.set_out.auto.given ∙ c.deref_mut-2.ensures.len) in
    let set = subst (λ (values : List Bool). IsSetOut m.points values (kept_tern c.load_stream.new.given) (kept_tern c.set_out.new.given)) c.deref.ensures.value
    (subst (λ (xs : List Tern). IsSetOut m.points c.deref.result.now (kept_tern xs) (kept_tern c.set_out.new.given)) (c.deref_mut-2.ensures.value ∙ filled)
    c.set_out.ensures) in
    let starts = starts_as text state m new is_loaded.after (kept_tern c.load_stream.new.given) (kept_tern c.set_out.new.given) holding set loaded
    is_loaded.loaded
    is_loaded.others in
    record {
      of = record {
        network = of.network;
        once = of.once;
        stands = of.stands;
        values = of.values;
        given = ap length filled_again ∙ c.set_out.auto.given ∙ c.deref_mut-2.ensures.len ∙ sym c.deref_mut.ensures.len ∙ ap length c.deref_mut.ensures.value
            ∙ of.given;
        demand = c.ask_for_run.ensures.points ∙ c.load_stream.ensures.points ∙ of.demand;
        loads = of.loads;
        clock = of.clock;
      };
      held = λ number p d is drives holds. ap (λ (xs : List Tern). kept_tern xs number) filled_again ∙ starts.agree number p d is drives holds;
    }
