-- Loading sets each latch of a fabric's text, and the inputs that carry words are there.
use Rattle.std.proofs.Common.{false, List, [], refl, ap, inl, inr, nat_lt}
use Rattle.std.proofs.lemmas.Bool.{false≢true}
use Rattle.fab_syntax.specs.Plain.{PlainModule}
use Rattle.fab_syntax.specs.Declarations.{is_input_of, width_in}
use Rattle.fab_meaning.specs.Points.{Point, point}
use Rattle.fab_meaning.specs.Runs.{clock_name}
use Rattle.fab_meaning.specs.Loading.{IsStream, by_stream, IsLoading, write_strobe_name}
use Rattle.fab_model.specs.Grid.{PlainFabric}
use Rattle.fab_fabric.specs.Fabric.{IsFabric}
use Rattle.fab_netlist_traces_laws.proofs.fab_drives_laws_Texts.{HasFabric}
use Rattle.fab_text_loads_laws.specs.Loads.{NamedAreLoading}
use Rattle.fab_text_loads_laws.specs.Points.{in_configuration}
use Rattle.fab_fabric_text_defs.specs.Texts.{IsFabricText}
use Rattle.fab_text_loads_laws.proofs.Carried.{latches_in_configurations}
use Rattle.fab_ordering_laws.specs.Laws.{LatchesLoad}

-- only configurations have latches
pub latches_load : (fabric : PlainFabric) (text : List PlainModule) → IsFabric fabric → IsFabricText fabric text → NamedAreLoading fabric text → LatchesLoad text
latches_load fabric text is is_text named p path gate e bit declared drives =
    let found = latches_in_configurations fabric text is is_text p path gate e bit drives in
    named p (in_configuration found.0 found.1 found.2 found.3 found.4) declared

-- ---- the stream

module _ (fabric : PlainFabric) (text : List PlainModule) (has : HasFabric fabric text) where
  pub strobe_streams : IsStream text (point [] write_strobe_name 0)
  strobe_streams = record {
    input = record { top = refl; input = ap (λ m. is_input_of m write_strobe_name) has.top_is; is = refl };
    declared = ap (λ m. nat_lt 0 (width_in m write_strobe_name)) has.top_is;
    named = inr (inl refl);
  }

  pub clock_streams : IsStream text (point [] clock_name 0)
  clock_streams = record {
    input = record { top = refl; input = ap (λ m. is_input_of m clock_name) has.top_is; is = refl };
    declared = ap (λ m. nat_lt 0 (width_in m clock_name)) has.top_is;
    named = inl refl;
  }

-- an input that carries words is a loading point
pub stream_loads : (text : List PlainModule) (p : Point) → IsStream text p → IsLoading text p
stream_loads text p is = ((λ q. false), (λ q has. absurd (false≢true has)), by_stream is)
