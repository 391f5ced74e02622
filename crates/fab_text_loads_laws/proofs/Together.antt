-- The law of loading, put together.
use Rattle.std.proofs.Common.{List, [], ◌∷◌, refl, ap}
use Rattle.std.proofs.lemmas.List.Elements.{All-nil}
use Rattle.fab_syntax.specs.Plain.{PlainModule}
use Rattle.fab_syntax.specs.Declarations.{is_input_of}
use Rattle.fab_syntax.specs.Sound.{IsSound}
use Rattle.fab_meaning.specs.Runs.{clock_name, user_clock_name, Moment}
use Rattle.fab_meaning.specs.Loading.{AreAlike, IsIdle, LoadingRunsAgree, LoadingPointsStay}
use Rattle.fab_drives_laws.specs.fab_model_Grid.{PlainFabric}
use Rattle.fab_drives_laws.specs.fab_fabric_Fabric.{IsFabric}
use Rattle.fab_drives_laws.specs.fab_gen_loader_Loader.{NextValues}
use Rattle.fab_drives_laws.specs.fab_fabric_text_defs_Texts.{IsFabricText}
use Rattle.fab_loading_laws.specs.Streams.{stream_words, StreamsLoad, TicksKeepMachines}
use Rattle.fab_loading_laws.specs.Chain.{TilesAreOneChain, ChainLoads}
use Rattle.fab_load_runs_laws.specs.Runs.{HasClocks, RunsExist}
use Rattle.fab_drives_laws.proofs.Texts.{HasFabric}
use Rattle.fab_text_loads_laws.specs.Loads.{RunsOnce, LoadsConfigurations}
use Rattle.fab_text_loads_laws.proofs.ChainRuns.{chain_configures, chain_goes, chain_shows, chain_rests}
use Rattle.fab_text_loads_laws.proofs.ChainWithin.{chain_named_are_loading}
use Rattle.fab_text_loads_laws.proofs.Frames.{still_configured, configuration_stays}
use Rattle.fab_text_loads_laws.proofs.Loader.{HasLoader, HasChain, by_frames, by_chain, carrier}
use Rattle.fab_text_loads_laws.proofs.Named.{named_are_loading}
use Rattle.fab_text_loads_laws.proofs.Runs.{writing_configures, configured_shows}
use Rattle.fab_text_loads_laws.proofs.Written.{words_written}

-- moments are like themselves
alike : (text : List PlainModule) (moments : List Moment) → AreAlike text moments moments
alike text [] = tt
alike text (moment ∷ moments) = (refl, (λ p stream. refl), alike text moments)

module _ (agree : LoadingRunsAgree) (stay : LoadingPointsStay) (exist : RunsExist) where
  runs_once : (text : List PlainModule) → IsSound text → HasClocks text → RunsOnce text
  runs_once text sound clocks = record {
    exists = exist text sound clocks;
    once = λ moments held after other run other_run. agree text moments moments held held after other (alike text moments) (λ p loading. refl) run other_run;
    settles_once = λ inputs held now other settled other_settled.
        stay text [] inputs inputs held held now other (All-nil (IsIdle text inputs)) (λ p loading. refl) settled other_settled (λ p stream. refl);
    idle = λ moments inputs later held after now last. stay text moments inputs later held after now last;
  }

  text_runs_once : (fabric : PlainFabric) (text : List PlainModule) → HasFabric fabric text → IsSound text → RunsOnce text
  text_runs_once fabric text has sound =
      runs_once text sound (record {
        loader_clock = ap (λ m. is_input_of m clock_name) has.top_is;
        user_clock = ap
            (λ m. is_input_of m user_clock_name) has.top_is;
      })

  frames_load : TicksKeepMachines → StreamsLoad → (fabric : PlainFabric) (next : NextValues) (text : List PlainModule) → IsFabric fabric →
      HasLoader fabric next text → IsSound text →
      LoadsConfigurations fabric text
  frames_load keeps load fabric next text is has sound = record {
    named = named_are_loading fabric next text has;
    runs = text_runs_once fabric text has.tiles sound;
    loads = λ bits. record {
      writable = words_written text (stream_words fabric bits);
      configures = writing_configures fabric next text has is keeps load bits;
      stays = configuration_stays fabric next text has is keeps bits;
      goes = still_configured fabric next text has is bits;
      shows = configured_shows fabric next text has is bits;
    };
  }

  chain_loads : TilesAreOneChain → ChainLoads → (fabric : PlainFabric) (text : List PlainModule) → IsFabric fabric → HasChain fabric text → IsSound text →
      LoadsConfigurations fabric text
  chain_loads one_chain load fabric text is has sound = record {
    named = chain_named_are_loading fabric text has is;
    runs = text_runs_once fabric text has.tiles sound;
    loads = λ bits. record {
      writable = words_written text (stream_words fabric bits);
      configures = chain_configures fabric text has is one_chain load bits;
      stays = chain_rests fabric text has is bits;
      goes = chain_goes fabric text has is bits;
      shows = chain_shows fabric text has is bits;
    };
  }

  pub fabric_loads : TicksKeepMachines → StreamsLoad → TilesAreOneChain → ChainLoads → (fabric : PlainFabric) (text : List PlainModule) → IsFabric fabric →
      IsFabricText fabric text → LoadsConfigurations fabric text
  fabric_loads keeps load one_chain load_chain fabric text is is_text =
      elim (carrier fabric text is is_text) [
        | by_frames next has ↦ frames_load keeps load fabric next text is has is_text.sound
        | by_chain has ↦ chain_loads one_chain load_chain fabric text is has is_text.sound
      ]
