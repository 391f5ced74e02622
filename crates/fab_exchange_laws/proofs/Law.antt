-- Columns that a legal implementation does not use are exchanged while its design runs.
use Rattle.std.proofs.Common.{◌≡◌, Bool, List, [], ◌∷◌, ◌++◌, map, sym, ap, ◌∙◌, subst}
use Rattle.std.specs.List.{All, AllZip}
use Rattle.std.proofs.lemmas.List.{map-append, append-nil}
use Rattle.fab_meaning.specs.Settled.{Assignment}
use Rattle.fab_model.specs.declared.mode.Mode.TheVariants as modes
use Rattle.fab_model.specs.Drive.{PlainBits}
use Rattle.fab_netlist.specs.Packing.{packed}
use Rattle.fab_netlist.proofs.Wired.{wired}
use Rattle.fab_gen_loader.specs.Machine.{Word}
use Rattle.fab_loading_laws.specs.Latches.{words_of}
use Rattle.fab_text_loads_laws.specs.fab_fabric_text_defs_Mode.{text_mode}
use Rattle.fab_text_loads_laws.specs.Loads.{IsTurn, IsConfigured}
use Rattle.fab_text_loads_laws.proofs.InMode.{modes_agree}
use Rattle.fab_text_loads_laws.proofs.Loader.{has_loader}
use Rattle.fab_text_loads_laws.proofs.Offered.{offered_whole}
use Rattle.fab_partial.specs.Columns.{lies_within, exchanged}
use Rattle.fab_runs_laws.specs.fab_use_defs_Configuring.{Configures}
use Rattle.fab_runs_laws.specs.fab_use_defs_Cycles.{Cycle, Instant, AreInstants, AreCycles}
use Rattle.fab_runs_laws.specs.fab_use_defs_Registers.{HoldsLatches}
use Rattle.fab_runs_laws.specs.fab_use_defs_Headline.{IsFed}
use Rattle.fab_runs_laws.proofs.Setting.{Laws, Setting}
use Rattle.fab_runs_laws.proofs.Start.{held_latches}
use Rattle.fab_runs_laws.proofs.Instants.{Has, Ready}
use Rattle.fab_runs_laws.proofs.CyclesRun as runs
use Rattle.fab_runs_laws.proofs.CyclesRun.{runs_from, ticks_configured}
use Rattle.fab_exchange_laws.specs.Runs.{UseRun, IsUseRun, moment_of}
use Rattle.fab_exchange_laws.specs.Exchanges.{HoldsBeside, partial_words, ShowsRun, RunsThrough, UnusedColumnsExchange, ArrivedDesignsRun}
use Rattle.fab_exchange_laws.proofs.Unread.{unused_change, new_bits}
use Rattle.fab_exchange_laws.proofs.Along.{begins_along, configured_holds, along_holds, ends_configured}
use Rattle.fab_exchange_laws.proofs.Instants.{ShownLaws, Exchange, writing, Stands}
use Rattle.fab_exchange_laws.proofs.Settles.{settles_once}
use Rattle.fab_exchange_laws.proofs.Feeding.{run_exists}
use Rattle.fab_exchange_laws.proofs.Cycles.{split_turns, words_split, last_held, one_more, one_vector, vectors, all_instants, cycles_show, part_show}

module _ (e : Exchange) (start : Assignment) (holds_beside : HoldsBeside e.s.fabric e.first e.last e.s.bits start) where
  abbrev all_words : List Word
  all_words = partial_words e.s.fabric e.others e.first e.last

  abbrev IsRunOf : List Word → UseRun → (after : Assignment) → Type 0
  IsRunOf taken run after = IsUseRun (Has e.s) e.s.text e.s.netlist e.s.implementation taken run start after

  begins : (latches : List Bool) → HoldsLatches e.s.netlist e.s.implementation start latches → Stands e start latches all_words
  begins latches holds = record { way = begins_along (writing e) start holds_beside; holds = holds }

  -- ---- a run

  record Through (run : UseRun) (rest : List Word) (after : Assignment) (latches : List Bool) : Type 0 where
    shows : ShowsRun e.s.netlist e.s.implementation run latches
    last_latches : List Bool
    stands : Stands e after last_latches rest

  through : (run : UseRun) (taken rest : List Word) (after : Assignment) (latches : List Bool) → taken ++ rest ≡ all_words → IsRunOf taken run after →
      HoldsLatches e.s.netlist e.s.implementation start latches → Through run rest after latches
  through run taken rest after latches same is_run holds =
      let turns = is_run.writes.turns in
      let front = map moment_of (all_instants e run.cycles) in
      let back = map moment_of run.part in
      let split = split_turns turns front back (subst (AllZip IsTurn turns) (map-append moment_of (all_instants e run.cycles) run.part) is_run.writes.each) in
      let written : words_of turns ≡ taken = is_run.writes.written ∙ offered_whole e.s.fabric e.s.text (writing e).has.tiles e.frames taken in
      let all : all_words ≡ words_of split.first ++ (words_of split.second ++ rest) = sym same ∙ ap (λ ws. ws ++ rest) (sym written) ∙ words_split turns front back split rest in
      let nows = (e.s.laws.one_run e.s.netlist (wired e.s.made) e.s.acyclic latches (vectors e run.cycles)).0 in
      let cycles = cycles_show e run.cycles split.first (words_of split.second ++ rest) start is_run.between latches nows.0 is_run.cycles split.of_front nows.1
      (subst (Stands e start latches) all (begins latches holds)) in
      let held = last_held e.s.netlist latches nows.0 in
      let more = (e.s.laws.one_run e.s.netlist (wired e.s.made) e.s.acyclic held (run.given ∷ [])).0 in
      let one = one_vector e.s.netlist held run.given more.0 more.1 in
      let part = part_show e run.given run.part split.second rest is_run.between after held one.0 one.1 is_run.fed split.of_back is_run.part cycles.1 in
      record {
        shows = record {
          nows = nows.0;
          nets = one.0;
          is_run = one_more e.s.netlist latches (vectors e run.cycles) nows.0 run.given one.0 nows.1 one.1;
          cycles = cycles.0;
          part = part.0;
        };
        last_latches = held;
        stands = part.1;
      }

  some_latches : (latches : List Bool) × HoldsLatches e.s.netlist e.s.implementation start latches
  some_latches = held_latches e.s.fabric e.s.netlist e.s.fixed e.s.implementation e.s.made e.s.legal start

  -- ---- all of it

  abbrev new_setting : Setting
  new_setting = record e.s { bits = exchanged (lies_within e.first e.last) e.s.bits e.others; configures = e.change e.others }

  pub runs_through : RunsThrough e.s.fabric e.s.text e.s.netlist e.s.implementation e.first e.last e.s.bits e.others start
  runs_through = record {
    latches = some_latches;
    shows = λ run words after latches front is_run holds. (through run words front.0 after latches front.1 is_run holds).shows;
    settles = λ run words after inputs front is_run low.
        settles_once e after inputs front.0 (through run words front.0 after some_latches.0 front.1 is_run some_latches.1).stands.way low;
    exists = λ fed words front feeds. run_exists e start (begins_along (writing e) start holds_beside) fed words front.0 front.1 feeds;
    breaks = λ run words after front is_run.
        along_holds (writing e) after front.0 (through run words front.0 after some_latches.0 front.1 is_run some_latches.1).stands.way;
    leaves = λ run after is_run.
        let all = through run all_words [] after some_latches.0 (append-nil all_words) is_run some_latches.1 in
        let behind = ends_configured (writing e) after all.stands.way in
        (behind, e.change e.others, runs_from new_setting after behind);
  }

-- behind cycles of use, and ticks of CLK in the next one, the configuration stands
module _ (s : Setting) where
  still_there : (start : Assignment) → IsConfigured s.fabric s.bits start → (cycles : List Cycle) (instants : List Instant) (between held : Assignment) (given : List Bool) →
      AreCycles (Has s) s.text s.netlist s.implementation cycles start between → AreInstants (Has s) s.text instants between held →
      All (IsFed s.netlist s.implementation given) instants → IsConfigured s.fabric s.bits held
  still_there start configured cycles instants between held given are_cycles are_instants fed =
      let latches = held_latches s.fabric s.netlist s.fixed s.implementation s.made s.legal start in
      let ready : Ready s start latches.0 = record { configured = configured; holds = latches.1 } in
      let run = (s.laws.one_run s.netlist (wired s.made) s.acyclic latches.0 (map (λ (c : Cycle). c.given) cycles)).0 in
      let behind = (runs.cycles_show s cycles start between latches.0 run.0 are_cycles run.1 ready).1 in
      ticks_configured s given instants between held fed are_instants behind.1.configured

pub columns_exchange : Laws → ShownLaws → UnusedColumnsExchange
columns_exchange laws shown_laws fabric text netlist fixed implementation first last others mode is are is_text made acyclic legal unused =
    let setting : (bits : PlainBits) → Configures fabric (packed netlist) implementation bits → Setting =
    λ bits configures. record {
      laws = laws;
      fabric = fabric;
      text = text;
      netlist = netlist;
      fixed = fixed;
      implementation = implementation;
      bits = bits;
      is = is;
      are = are;
      is_text = is_text;
      made = made;
      acyclic = acyclic;
      legal = legal;
      configures = configures;
    } in
    let frames : text_mode fabric ≡ modes.Frames = modes_agree fabric ∙ mode in
    let loader = has_loader fabric text is is_text frames in
    record {
      loaded = λ bits moments held after start writes run same.
          laws.goes fabric text bits after start is is_text (((laws.loads fabric text is is_text).loads bits).configures moments held after writes run) same;
      reached = λ bits start configures configured cycles instants between held given are_cycles are_instants fed.
          still_there (setting bits configures) start configured cycles instants between held given are_cycles are_instants fed;
      begins = λ bits start configured.
          configured_holds (record {
            fabric = fabric;
            text = text;
            next = loader.0;
            has = loader.1;
            is = is;
            keeps = shown_laws.keeps;
            first = first;
            last = last;
            bits = bits;
            others = others;
          }) start configured;
      exchange = λ bits start configures holds.
          runs_through (record {
            s = setting bits configures;
            laws = shown_laws;
            frames = frames;
            first = first;
            last = last;
            others = others;
            change = λ more. unused_change fabric (packed netlist) fixed implementation (lies_within first last) bits more are legal unused configures;
          }) start holds;
    }

pub arrived_run : Laws → ArrivedDesignsRun
arrived_run laws fabric text netlist fixed implementation first last bits others after is are is_text made acyclic legal unused configures configured =
    let own = new_bits fabric (packed netlist) fixed implementation (lies_within first last) are legal unused bits others configures in
    let s : Setting = record {
      laws = laws;
      fabric = fabric;
      text = text;
      netlist = netlist;
      fixed = fixed;
      implementation = implementation;
      bits = exchanged (lies_within first last) bits others;
      is = is;
      are = are;
      is_text = is_text;
      made = made;
      acyclic = acyclic;
      legal = legal;
      configures = own;
    } in
    (own, runs_from s after configured)
