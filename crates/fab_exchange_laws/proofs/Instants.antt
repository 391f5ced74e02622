-- One instant of use while words come: the pads show the netlist's nets, and flip-flops take what the latches take.
use Rattle.std.proofs.Common.{◌≡◌, ℕ, Bool, List, ◌∷◌, ◌++◌, refl, inr}
use Rattle.fab_systems_laws.specs.Ternary.{known}
use Rattle.fab_meaning.specs.Points.{Point}
use Rattle.fab_meaning.specs.Settled.{Assignment, IsSettledOn}
use Rattle.fab_meaning.specs.Runs.{user_clock_name, Ticks}
use Rattle.fab_meaning.specs.Loading.{IsLoading}
use Rattle.fab_model.specs.declared.mode.Mode.TheVariants as modes
use Rattle.fab_model.specs.Drive.{PlainBits}
use Rattle.fab_netlist.specs.Plain.{bit_at}
use Rattle.fab_netlist.specs.Meaning.{Meets, next_held}
use Rattle.fab_netlist.specs.Packing.{packed}
use Rattle.fab_gen_loader.specs.Machine.{Word}
use Rattle.fab_loading_laws.specs.Latches.{Turn, words_of}
use Rattle.fab_loading_laws.specs.Streams.{TicksKeepMachines}
use Rattle.fab_text_loads_laws.specs.fab_drives_laws_Points.{ShowsBits}
use Rattle.fab_text_loads_laws.specs.fab_fabric_text_defs_Mode.{text_mode}
use Rattle.fab_text_loads_laws.specs.Loads.{IsTurn}
use Rattle.fab_text_loads_laws.proofs.Loader.{has_loader}
use Rattle.fab_partial.specs.Columns.{lies_within, exchanged}
use Rattle.fab_runs_laws.specs.fab_points_laws_Laws.{DesignSettlesByShownSources, ShownDesignSettlesOnce, ShownIsKnown}
use Rattle.fab_runs_laws.specs.Carrying.{MeetsSources, TakesNext}
use Rattle.fab_runs_laws.specs.fab_points_laws_Known.{KnowsBits}
use Rattle.fab_runs_laws.specs.fab_use_defs_Configuring.{Configures}
use Rattle.fab_runs_laws.specs.fab_use_defs_Cycles.{Instant, Shows}
use Rattle.fab_runs_laws.specs.fab_use_defs_Registers.{HoldsLatches}
use Rattle.fab_runs_laws.proofs.Setting.{Setting, cells_made}
use Rattle.fab_runs_laws.proofs.Instants as instants
use Rattle.fab_runs_laws.proofs.Instants.{Has, Passes, same_holds}
use Rattle.fab_exchange_laws.specs.Runs.{FeedsPads, moment_of}
use Rattle.fab_exchange_laws.proofs.Along.{Writing, shown, Along, along_shows, after_turn, same_along}

-- the laws on which this stands, beside those of a setting
pub record ShownLaws : Type 0 where
  pub by_sources : DesignSettlesByShownSources
  pub known : ShownIsKnown
  pub once : ShownDesignSettlesOnce
  pub keeps : TicksKeepMachines

-- A design on a fabric in frames, and columns that get other bits. It reads none of their bits, so its own stay such whatever these are.
pub record Exchange : Type 0 where
  pub s : Setting
  pub laws : ShownLaws
  pub frames : text_mode s.fabric ≡ modes.Frames
  pub first : ℕ
  pub last : ℕ
  pub others : PlainBits
  pub change : (bits : PlainBits) → Configures s.fabric (packed s.netlist) s.implementation (exchanged (lies_within first last) s.bits bits)

module _ (e : Exchange) where
  abbrev pub writing : Writing
  writing =
      let loader = has_loader e.s.fabric e.s.text e.s.is e.s.is_text e.frames in
      record {
        fabric = e.s.fabric;
        text = e.s.text;
        next = loader.0;
        has = loader.1;
        is = e.s.is;
        keeps = e.laws.keeps;
        first = e.first;
        last = e.last;
        bits = e.s.bits;
        others = e.others;
      }

  -- the words that are to come, and values of the latches
  pub record Stands (held : Assignment) (latches : List Bool) (rest : List Word) : Type 0 where
    pub way : Along writing held rest
    pub holds : HoldsLatches e.s.netlist e.s.implementation held latches

  module _ (i : Instant) (held next : Assignment) (passes : Passes e.s i held next) (rest : List Word) (way : Along writing held rest) where
    loading_settled : IsSettledOn (IsLoading e.s.text) e.s.text i.inputs held i.now
    loading_settled p d loads drives = passes.settled p d (inr loads) drives

    loading_ticks : Ticks (IsLoading e.s.text) e.s.text i.clock held i.now next
    loading_ticks p d loads drives = passes.ticks p d (inr loads) drives

    -- the bits of this instant are bits of the design
    abbrev bits_now : PlainBits
    bits_now = exchanged (lies_within e.first e.last) e.s.bits (shown writing i.now)

    shows_now : ShowsBits e.s.fabric bits_now i.now
    shows_now = along_shows writing i.inputs held i.now loading_settled rest way

    -- so each point has the value of its source,
    met : MeetsSources e.s.fabric (packed e.s.netlist) e.s.implementation i.inputs held i.now
    met =
        (e.laws.by_sources e.s.fabric e.s.text (packed e.s.netlist) e.s.fixed e.s.implementation bits_now i.inputs held i.now e.s.is e.s.are e.s.is_text (cells_made e.s) e.s.legal
        (e.change (shown writing i.now)) shows_now loading_settled).0 passes.settled

    knows : KnowsBits e.s.fabric bits_now (λ q. known (i.now q))
    knows = e.laws.known e.s.fabric e.s.text bits_now i.inputs held i.now (λ q. known (i.now q)) e.s.is e.s.is_text shows_now loading_settled (λ p loads. refl)

    module _ (given latches : List Bool) (holds : HoldsLatches e.s.netlist e.s.implementation held latches) (feeds : FeedsPads e.s.netlist e.s.implementation given i.inputs)
        (nets : ℕ → Bool) (meets : Meets e.s.netlist (bit_at given) (bit_at latches) nets) where
      -- and the pads show the nets
      pub carried : Shows e.s.netlist e.s.implementation i.now nets × TakesNext e.s.netlist e.s.implementation i.now nets
      carried = instants.carried e.s i held next passes latches holds met given feeds.pads nets meets

      -- at a tick of UserCLK the flip-flops take what the latches take
      pub user_holds : i.clock ≡ user_clock_name → HoldsLatches e.s.netlist e.s.implementation next (next_held e.s.netlist nets)
      user_holds clock =
          instants.user_holds e.s i held next passes latches holds met given feeds.pads nets meets bits_now (e.change (shown writing i.now)) knows clock

  -- the words that are to come behind an instant
  pub goes_on : (i : Instant) (held next : Assignment) → Passes e.s i held next → (turn : Turn) (turns : List Turn) (rest : List Word) → IsTurn turn (moment_of i) →
      Along writing held (words_of (turn ∷ turns) ++ rest) → Along writing next (words_of turns ++ rest)
  goes_on i held next passes turn turns rest is_turn way =
      let all = words_of (turn ∷ turns) ++ rest in
      after_turn writing (moment_of i) held i.now next (loading_settled i held next passes all way) (loading_ticks i held next passes all way) turn turns rest is_turn way

  -- all this stays where the design points hold the same
  pub same_stands : (held after : Assignment) (latches : List Bool) (rest : List Word) → ((p : Point) → Has e.s p → after p ≡ held p) → Stands held latches rest → Stands after latches rest
  same_stands held after latches rest same stands = record {
    way = same_along writing held after rest (λ p loads. same p (inr loads)) stands.way;
    holds = same_holds e.s held after latches same stands.holds;
  }
