-- What runs the packed netlist runs the one that was read, where the packed one runs as that does.
use Rattle.std.proofs.Common.{◌≡◌, ◌<◌, ◌&&◌, ℕ, Bool, List, [], ◌∷◌, map, length, sym, ap, ◌∙◌, subst}
use Rattle.std.specs.Prelude.{Contains}
use Rattle.std.proofs.lemmas.Bool.{lt-ltb}
use Rattle.std.proofs.lemmas.List.Elements.{All-weaker, Contains-append_right}
use Rattle.fab_syntax.specs.Plain.{PlainModule}
use Rattle.fab_meaning.specs.Points.{Point}
use Rattle.fab_meaning.specs.Settled.{Assignment}
use Rattle.fab_meaning.specs.Activation.{State}
use Rattle.fab_model.specs.Grid.{PlainFabric}
use Rattle.fab_netlist.specs.declared.netlist.Latch.{Latch}
use Rattle.fab_netlist.specs.Plain.{PlainNetlist, IsAt}
use Rattle.fab_netlist.specs.Wide.{RunsAs, within}
use Rattle.fab_implementation.specs.Plain.{Pad, PlainImplementation}
use Rattle.fab_state.specs.Plain.{PlainState}
use Rattle.fab_assemble.specs.fab_use_defs_Cycles.{Cycle, Instant, EachShows, Shows}
use Rattle.fab_assemble.specs.fab_use_defs_Headline.{RunsDesign, RunsFrom}
use Rattle.fab_assemble.specs.fab_settling_laws_Blocks.{as_cycle}
use Rattle.fab_assemble.specs.fab_settling_laws_Settling.{SettlesDesign, SettlesFrom}
use Rattle.fab_outputs.specs.Storing.{PlainOutput}
use Rattle.fab_flow.specs.Assembling.{IsAssembly}
use Rattle.fab_flow.specs.Flowing.{IsFlow}

-- each of the first nets has its value
pub has_within : (nets : ℕ) (now : ℕ → Bool) (net : ℕ) → net < nets → within nets now net ≡ now net
has_within nets now net below = ap (λ (is : Bool). is && now net) (lt-ltb net nets below)

module _ (read netlist : PlainNetlist) (alike : RunsAs read netlist) where
  -- ---- pads

  module _ (implementation : PlainImplementation) where
    shows_read : (nets : ℕ → Bool) (i : Instant) → Shows netlist implementation i.now nets → Shows read implementation i.now (within (length read.nets) nets)
    shows_read nets i shows = record {
      outputs = λ place net site at among.
          let below = alike.ports net (Contains-append_right read.inputs read.outputs net (place, at.0, at.1)) in
          shows.outputs place net site (subst (λ (ports : List ℕ). IsAt ports place net) (sym alike.outputs) at)
          (subst (λ (name : List ℕ). Contains implementation.outs (name, site)) (sym (alike.names net below)) among)
          ∙ sym (has_within (length read.nets) nets net below);
      driven = shows.driven;
      released = shows.released;
    }

    each_shows : (cycles : List Cycle) (nows : List (ℕ → Bool)) → EachShows netlist implementation cycles nows
        → EachShows read implementation cycles (map (within (length read.nets)) nows)
    each_shows [] [] shows = tt
    each_shows [] (nets ∷ later) shows = absurd shows
    each_shows (c ∷ more) [] shows = absurd shows
    each_shows (c ∷ more) (nets ∷ later) (here, rest) = (
      All-weaker (λ (i : Instant). Shows netlist implementation i.now nets) (λ (i : Instant). Shows read implementation i.now (within (length read.nets) nets))
          (λ i shows. shows_read nets i shows) c.instants here,
      each_shows more later rest,
    )

    -- ---- the headline

    module _ (text : List PlainModule) where
      runs_from : (fabric : PlainFabric) (start : Assignment) → RunsFrom fabric text netlist netlist implementation start → RunsFrom fabric text read netlist implementation start
      runs_from fabric start runs = record {
        latches = runs.latches;
        shows = λ cycles after latches are holds.
            let shown = runs.shows cycles after latches are holds in
            let vectors = map (λ (c : Cycle). c.given) cycles in
            (map (within (length read.nets)) shown.0, alike.runs latches vectors shown.0 shown.1, each_shows cycles shown.0 shown.2);
        resets = λ cycles cycle between after are is instants given.
            runs.resets cycles cycle between after are is instants (given.0, alike.reset ∙ given.1, given.2);
        settles = runs.settles;
      }

      pub runs_read : (fabric : PlainFabric) (words : List ℕ) (state : PlainState) → RunsDesign fabric text netlist netlist implementation words state
          → RunsDesign fabric text read netlist implementation words state
      runs_read fabric words state runs = record {
        exist = runs.exist;
        once = runs.once;
        writable = runs.writable;
        runs = λ moments held after start writes run same. runs_from fabric start (runs.runs moments held after start writes run same);
        begins = λ held latches holds held_latches place latch at.
            runs.begins held latches holds held_latches place latch (subst (λ (all : List Latch). IsAt all place latch) (sym alike.latches) at);
      }

      settles_from : (Has : Point → Type 0) (count : ℕ) (start : State) → SettlesFrom Has count text netlist netlist implementation start
          → SettlesFrom Has count text read netlist implementation start
      settles_from Has count start settles = record {
        stays = settles.stays;
        once = settles.once;
        settles = settles.settles;
        runs = settles.runs;
        shows = λ cycles after latches are holds.
            let shown = settles.shows cycles after latches are holds in (
              map (within (length read.nets)) shown.0,
              alike.runs latches (map (λ c. c.given) cycles) shown.0 shown.1,
              each_shows (map as_cycle cycles) shown.0 shown.2,
            );
      }

      pub settles_read : (fabric : PlainFabric) (words : List ℕ) → SettlesDesign fabric text netlist netlist implementation words
          → SettlesDesign fabric text read netlist implementation words
      settles_read fabric words settles = record {
        counted = settles.counted;
        from = λ moments held after start count writes run same rest most.
            settles_from _ count start (settles.from moments held after start count writes run same rest most);
      }

  -- ---- what is made

  pub assembly_read : (fabric : PlainFabric) (implementation : PlainImplementation) (base : List ℕ) (outputs : List PlainOutput)
      → IsAssembly fabric netlist netlist implementation base outputs → IsAssembly fabric read netlist implementation base outputs
  assembly_read fabric implementation base outputs made = record {
    bits = made.bits;
    configures = made.configures;
    bit_map = made.bit_map;
    outputs_are = made.outputs_are;
    runs = λ text is. runs_read implementation text fabric _ _ (made.runs text is);
    settles = λ text is. settles_read implementation text fabric _ (made.settles text is);
  }

  pub flow_read : (fabric : PlainFabric) (fixed : List Pad) (allowed : ℕ) (base : List ℕ) (outputs : List PlainOutput)
      → IsFlow fabric netlist netlist fixed allowed base outputs → IsFlow fabric read netlist fixed allowed base outputs
  unfolding assembly_read
  flow_read fabric fixed allowed base outputs made = record {
    implementation = made.implementation;
    mapping = made.mapping;
    legal = made.legal;
    text = made.text;
    drives = made.drives;
    loads = made.loads;
    short = made.short;
    readable = made.readable;
    assembled = made.assembled;
    assembly = assembly_read fabric made.implementation base made.assembled made.assembly;
    runs = runs_read made.implementation _ fabric _ _ made.runs;
    settles = settles_read made.implementation _ fabric _ made.settles;
    outputs_are = made.outputs_are;
  }
