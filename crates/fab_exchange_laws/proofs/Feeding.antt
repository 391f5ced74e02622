-- Whatever is fed while words come, there is a run.
use Rattle.std.proofs.Common.{◌≡◌, Bool, false, List, [], ◌∷◌, ◌++◌, map, refl, sym, ap, ap₂, ◌∙◌, subst}
use Rattle.std.specs.List.{All, AllZip}
use Rattle.std.proofs.lemmas.List.{map-append}
use Rattle.std.proofs.lemmas.List.Elements.{All-nil, All-cons, All-head, All-tail}
use Rattle.fab_meaning.specs.Points.{point}
use Rattle.fab_meaning.specs.Settled.{Assignment}
use Rattle.fab_meaning.specs.Runs.{user_clock_name}
use Rattle.fab_gen_loader.specs.Machine.{Word}
use Rattle.fab_loading_laws.specs.Latches.{Turn, words_of}
use Rattle.fab_text_loads_laws.specs.Loads.{IsTurn}
use Rattle.fab_text_loads_laws.proofs.Offered.{offered_whole}
use Rattle.fab_runs_laws.specs.Feeding.{AreFedAlike, AreGivenAlike}
use Rattle.fab_runs_laws.specs.fab_use_defs_Cycles.{Instant, AreInstants, Cycle}
use Rattle.fab_runs_laws.proofs.Instants.{Has, Passes}
use Rattle.fab_exchange_laws.specs.Runs.{FeedsPads, IsOpenCycle, AreOpenCycles, UseRun, moment_of, moments_of, IsPartFed, IsUseRun, IsOpenCycleAtLow, FeedsRun, AreRunsAlike}
use Rattle.fab_exchange_laws.specs.Exchanges.{partial_words}
use Rattle.fab_runs_laws.proofs.Feeding.{ends_alike, goes}
use Rattle.fab_exchange_laws.proofs.Along.{Along}
use Rattle.fab_exchange_laws.proofs.Instants.{Exchange, writing, goes_on}
use Rattle.fab_exchange_laws.proofs.Cycles.{split_turns, words_split, all_instants}
use Rattle.fab_exchange_laws.proofs.Settles.{settles_once}

-- ---- what is fed alike

moment_alike : (i j : Instant) → AreFedAlike i j → moment_of i ≡ moment_of j
moment_alike i j alike = λ k. record { inputs = alike.inputs k; clock = alike.clock k }

moments_alike : (is js : List Instant) → AllZip AreFedAlike is js → map moment_of is ≡ map moment_of js
moments_alike [] [] alike = refl
moments_alike [] (j ∷ js) alike = absurd alike
moments_alike (i ∷ is) [] alike = absurd alike
moments_alike (i ∷ is) (j ∷ js) alike = ap₂ (λ moment more. moment ∷ more) (moment_alike i j alike.0) (moments_alike is js alike.1)

module _ (e : Exchange) where
  cycles_alike : (cs ds : List Cycle) → AllZip AreGivenAlike cs ds → map moment_of (all_instants e cs) ≡ map moment_of (all_instants e ds)
  cycles_alike [] [] alike = refl
  cycles_alike [] (d ∷ ds) alike = absurd alike
  cycles_alike (c ∷ cs) [] alike = absurd alike
  cycles_alike (c ∷ cs) (d ∷ ds) alike =
      map-append moment_of c.instants (all_instants e cs)
      ∙ ap₂ (λ front back. front ++ back) (moments_alike c.instants d.instants alike.0.instants) (cycles_alike cs ds alike.1)
      ∙ sym (map-append moment_of d.instants (all_instants e ds))

  runs_alike : (run fed : UseRun) → AreRunsAlike run fed → moments_of run ≡ moments_of fed
  runs_alike run fed alike =
      map-append moment_of (all_instants e run.cycles) run.part
      ∙ ap₂ (λ front back. front ++ back) (cycles_alike run.cycles fed.cycles alike.cycles) (moments_alike run.part fed.part alike.part)
      ∙ sym (map-append moment_of (all_instants e fed.cycles) fed.part)

  -- ---- instants

  abbrev IsLow : Instant → Type 0
  IsLow i = i.inputs (point [] user_clock_name 0) ≡ false

  module _ (given : List Bool) where
    abbrev IsGiven : Instant → Type 0
    IsGiven i = FeedsPads e.s.netlist e.s.implementation given i.inputs

    abbrev IsPart : Instant → Type 0
    IsPart i = IsPartFed e.s.netlist e.s.implementation given i

    given_alike : (is js : List Instant) → AllZip AreFedAlike is js → All IsGiven js → All IsGiven is
    given_alike [] [] alike fed = All-nil IsGiven
    given_alike [] (j ∷ js) alike fed = absurd alike
    given_alike (i ∷ is) [] alike fed = absurd alike
    given_alike (i ∷ is) (j ∷ js) alike fed =
        All-cons IsGiven i is (subst (λ (inputs : Assignment). FeedsPads e.s.netlist e.s.implementation given inputs) (sym alike.0.inputs) (All-head IsGiven j js fed))
        (given_alike is js alike.1 (All-tail IsGiven j js fed))

    parts_alike : (is js : List Instant) → AllZip AreFedAlike is js → All IsPart js → All IsPart is
    parts_alike [] [] alike fed = All-nil IsPart
    parts_alike [] (j ∷ js) alike fed = absurd alike
    parts_alike (i ∷ is) [] alike fed = absurd alike
    parts_alike (i ∷ is) (j ∷ js) alike fed =
        let here = All-head IsPart j js fed in
        All-cons IsPart i is
        (subst (λ (inputs : Assignment). FeedsPads e.s.netlist e.s.implementation given inputs) (sym alike.0.inputs) here.0, alike.0.clock ∙ here.1)
        (parts_alike is js alike.1 (All-tail IsPart j js fed))

    of_parts : (is : List Instant) → All IsPart is → All IsGiven is
    of_parts [] fed = All-nil IsGiven
    of_parts (i ∷ is) fed = All-cons IsGiven i is (All-head IsPart i is fed).0 (of_parts is (All-tail IsPart i is fed))

    record Run (is : List Instant) (rest : List Word) (held : Assignment) : Type 0 where
      run : List Instant
      alike : AllZip AreFedAlike run is
      next : Assignment
      are : AreInstants (Has e.s) e.s.text run held next
      way : Along (writing e) next rest

    instants_run : (is : List Instant) (turns : List Turn) (rest : List Word) (held : Assignment) → All IsGiven is → All IsLow is → AllZip IsTurn turns (map moment_of is) →
        Along (writing e) held (words_of turns ++ rest) → Run is rest held
    instants_run [] [] rest held fed low are way = record { run = []; alike = tt; next = held; are = λ p has. refl; way = way }
    instants_run [] (turn ∷ turns) rest held fed low are way = absurd are
    instants_run (i ∷ is) [] rest held fed low are way = absurd are
    instants_run (i ∷ is) (turn ∷ turns) rest held fed low are way =
        let clock = (All-head IsGiven i is fed).low in
        let once = settles_once e held i.inputs (words_of (turn ∷ turns) ++ rest) way clock in
        let one = goes e.s.fabric e.s.text e.s.netlist e.s.implementation e.s.is e.s.is_text i held once clock (All-head IsLow i is low) in
        let passes : Passes e.s one.instant held one.next = record { settled = one.settled; low = one.low; ticks = one.ticks } in
        let is_turn : IsTurn turn (moment_of one.instant) = subst (IsTurn turn) (sym (moment_alike one.instant i one.alike)) are.0 in
        let behind = goes_on e one.instant held one.next passes turn turns rest is_turn way in
        let more = instants_run is turns rest one.next (All-tail IsGiven i is fed) (All-tail IsLow i is low) are.1 behind in
        record {
          run = one.instant ∷ more.run;
          alike = (one.alike, more.alike);
          next = more.next;
          are = (one.next, one.settled, one.low, one.ticks, more.are);
          way = more.way;
        }

  -- ---- cycles

  abbrev IsFine : Cycle → Type 0
  IsFine = IsOpenCycleAtLow e.s.netlist e.s.implementation

  record CyclesRun (cycles : List Cycle) (rest : List Word) (held : Assignment) : Type 0 where
    run : List Cycle
    alike : AllZip AreGivenAlike run cycles
    next : Assignment
    are : AreOpenCycles (Has e.s) e.s.text e.s.netlist e.s.implementation run held next
    way : Along (writing e) next rest

  cycles_run : (cycles : List Cycle) (turns : List Turn) (rest : List Word) (held : Assignment) → All IsFine cycles → AllZip IsTurn turns (map moment_of (all_instants e cycles)) →
      Along (writing e) held (words_of turns ++ rest) → CyclesRun cycles rest held
  cycles_run [] [] rest held fine are way = record { run = []; alike = tt; next = held; are = λ p has. refl; way = way }
  cycles_run [] (turn ∷ turns) rest held fine are way = absurd are
  cycles_run (c ∷ more) turns rest held fine are way =
      let is_fine = All-head IsFine c more fine in
      let front = map moment_of c.instants in
      let back = map moment_of (all_instants e more) in
      let split = split_turns turns front back (subst (AllZip IsTurn turns) (map-append moment_of c.instants (all_instants e more)) are) in
      let words = words_split turns front back split rest in
      let first = instants_run c.given c.instants split.first (words_of split.second ++ rest) held is_fine.0.1 is_fine.1 split.of_front (subst (Along (writing e) held) words way) in
      let cycle : Cycle = record { given = c.given; instants = first.run } in
      let is_open : IsOpenCycle e.s.netlist e.s.implementation cycle =
      (ends_alike first.run c.instants first.alike is_fine.0.0, given_alike c.given first.run c.instants first.alike is_fine.0.1) in
      let others = cycles_run more split.second rest first.next (All-tail IsFine c more fine) split.of_back first.way in
      record {
        run = cycle ∷ others.run;
        alike = (record { given = refl; instants = first.alike }, others.alike);
        next = others.next;
        are = (is_open, first.next, first.are, others.are);
        way = others.way;
      }

  -- ---- a run

  pub run_exists : (start : Assignment) → Along (writing e) start (partial_words e.s.fabric e.others e.first e.last) → (fed : UseRun) (taken rest : List Word) →
      taken ++ rest ≡ partial_words e.s.fabric e.others e.first e.last → FeedsRun e.s.text e.s.netlist e.s.implementation taken fed →
      (run : UseRun) × AreRunsAlike run fed × (after : Assignment) × IsUseRun (Has e.s) e.s.text e.s.netlist e.s.implementation taken run start after
  run_exists start way fed taken rest same feeds =
      let turns = feeds.writes.turns in
      let front = map moment_of (all_instants e fed.cycles) in
      let back = map moment_of fed.part in
      let split = split_turns turns front back (subst (AllZip IsTurn turns) (map-append moment_of (all_instants e fed.cycles) fed.part) feeds.writes.each) in
      let written : words_of turns ≡ taken = feeds.writes.written ∙ offered_whole e.s.fabric e.s.text (writing e).has.tiles e.frames taken in
      let all : partial_words e.s.fabric e.others e.first e.last ≡ words_of split.first ++ (words_of split.second ++ rest) = sym same ∙ ap (λ ws. ws ++ rest) (sym written) ∙ words_split turns front back split rest in
      let cycles = cycles_run fed.cycles split.first (words_of split.second ++ rest) start feeds.cycles split.of_front (subst (Along (writing e) start) all way) in
      let part = instants_run fed.given fed.part split.second rest cycles.next (of_parts fed.given fed.part feeds.part) feeds.low split.of_back cycles.way in
      let run : UseRun = record { cycles = cycles.run; given = fed.given; part = part.run } in
      let alike : AreRunsAlike run fed = record { cycles = cycles.alike; given = refl; part = part.alike } in (
        run,
        alike,
        part.next,
        record {
          between = cycles.next;
          cycles = cycles.are;
          part = part.are;
          fed = parts_alike fed.given part.run fed.part part.alike feeds.part;
          writes = record { turns = turns; each = subst (AllZip IsTurn turns) (sym (runs_alike run fed alike)) feeds.writes.each; written = feeds.writes.written };
        },
      )
