-- The content of some columns is exchanged while a design runs that does not use them.
use Rattle.std.specs.Prelude.{◌≡◌, ℕ, Bool, true, false, List, [], ◌∷◌, ◌++◌, map, All, not, Some, slice_range}
use Rattle.fab_bits.specs.Bits.{number, digits}
use Rattle.fab_syntax.specs.Plain.{PlainModule}
use Rattle.fab_meaning.specs.Points.{Point, point}
use Rattle.fab_meaning.specs.Settled.{Assignment}
use Rattle.fab_meaning.specs.Runs.{clock_name, Moment, IsRunOn}
use Rattle.fab_meaning.specs.Loading.{IsLoading}
use Rattle.fab_model.specs.declared.mode.Mode.TheVariants as modes
use Rattle.fab_model.specs.Tiles.{PlainTile}
use Rattle.fab_model.specs.Grid.{PlainFabric, tile_at}
use Rattle.fab_model.specs.Drive.{PlainBits}
use Rattle.fab_fabric.specs.Fabric.{IsFabric, AreTiles}
use Rattle.fab_netlist.specs.Plain.{PlainNetlist}
use Rattle.fab_netlist.specs.WellMade.{IsWellMade}
use Rattle.fab_netlist.specs.Cycles.{HasNoCycle}
use Rattle.fab_netlist.specs.Meaning.{IsRun}
use Rattle.fab_netlist.specs.Packed.{PlainPacked}
use Rattle.fab_netlist.specs.Packing.{packed}
use Rattle.fab_implementation.specs.Plain.{Pad, PlainImplementation}
use Rattle.fab_gen_loader.specs.Machine.{Machine, Word}
use Rattle.fab_gen_loader.specs.Loader.{machine_at}
use Rattle.fab_frames.specs.Stream.{stream_mode}
use Rattle.fab_loading_laws.specs.Streams.{stream_words}
use Rattle.fab_text_loads_laws.specs.Points.{loader_path}
use Rattle.fab_text_loads_laws.specs.fab_drives_laws_Points.{place_path}
use Rattle.fab_text_loads_laws.specs.fab_tile_drives_laws_Tiles.{ShowsTileBits}
use Rattle.fab_partial.specs.Columns.{lies_within, partial_stream, exchanged}
use Rattle.fab_partial.specs.Use.{AreUnused}
use Rattle.fab_runs_laws.specs.fab_legal_Legal.{IsLegal}
use Rattle.fab_runs_laws.specs.fab_fabric_text_defs_Texts.{IsFabricText}
use Rattle.fab_runs_laws.specs.fab_text_loads_laws_Loads.{Writes, IsConfigured}
use Rattle.fab_runs_laws.specs.fab_use_defs_Configuring.{Configures}
use Rattle.fab_runs_laws.specs.fab_use_defs_Cycles.{Cycle, Instant, AreInstants, AreCycles, Shows, EachShows}
use Rattle.fab_runs_laws.specs.fab_use_defs_Registers.{HoldsLatches}
use Rattle.fab_runs_laws.specs.fab_use_defs_Headline.{SettlesOnce, DesignPoints, IsFed, RunsFrom}
use Rattle.fab_exchange_laws.specs.Runs.{UseRun, IsUseRun, FeedsRun, AreRunsAlike}

-- ---- where words of some columns may begin

-- the column that an address names, in its five high bits
abbrev pub named_column : Word → ℕ
named_column address = number (slice_range address 27 32)

-- Where the loader awaits the words of rows or strobes a frame, its address names one of these columns.
pub record StrobesWithin (first last : ℕ) (machine : Machine) : Type 0 where
  pub awaits : machine.state ≡ 2 → lies_within first last (named_column machine.address) ≡ true
  pub strobes : machine.strobe ≡ true → lies_within first last (named_column machine.address) ≡ true

-- The configuration latches of the other columns hold these bits, and the loader is about to set none of them. Of these columns nothing is said.
-- So it is behind a bitstream that was loaded whole, and wherever words of these columns were broken off.
pub record HoldsBeside (fabric : PlainFabric) (first last : ℕ) (bits : PlainBits) (held : Assignment) : Type 0 where
  pub loader : StrobesWithin first last (machine_at held loader_path fabric.rows)
  pub latches : (x y : ℕ) (tile : PlainTile) → tile_at fabric x y ≡ Some tile → lies_within first last x ≡ false →
      ShowsTileBits (place_path x y) tile (bits x y) held

-- ---- what words of some columns do to a design

-- the words of the stream of some columns, as the loader takes them
abbrev pub partial_words : PlainFabric → PlainBits → (first last : ℕ) → List Word
partial_words fabric bits first last = map (digits 32) (partial_stream fabric bits first last)

-- the first of these words, or all of them
abbrev pub AreFirstWords : PlainFabric → PlainBits → (first last : ℕ) → List Word → Type 0
AreFirstWords fabric bits first last words = (rest : List Word) × (words ++ rest ≡ partial_words fabric bits first last)

-- a run of a design in which words are written
abbrev pub IsDesignRun : PlainFabric → List PlainModule → PlainNetlist → PlainImplementation → List Word → UseRun → (start after : Assignment) → Type 0
IsDesignRun fabric text netlist implementation words run start after =
    IsUseRun (DesignPoints fabric text netlist implementation) text netlist implementation words run start after

-- In each cycle, and in the begun one behind them, the pads show what the nets have in one run of the netlist.
pub record ShowsRun (netlist : PlainNetlist) (implementation : PlainImplementation) (run : UseRun) (latches : List Bool) : Type 0 where
  pub nows : List (ℕ → Bool)
  pub nets : ℕ → Bool
  pub is_run : IsRun netlist latches (map (λ (c : Cycle). c.given) run.cycles ++ run.given ∷ []) (nows ++ nets ∷ [])
  pub cycles : EachShows netlist implementation run.cycles nows
  pub part : All (λ (i : Instant). Shows netlist implementation i.now nets) run.part

-- From a start on, words of some columns are written while the design runs: all of them, or the first alone. So what is said of a run holds within
-- the stream too, and where it is broken off.
pub record RunsThrough (fabric : PlainFabric) (text : List PlainModule) (netlist : PlainNetlist) (implementation : PlainImplementation)
    (first last : ℕ) (bits others : PlainBits) (start : Assignment) : Type 0 where
  -- The flip-flops hold values of the latches,
  pub latches : (latches : List Bool) × HoldsLatches netlist implementation start latches
  -- and from these the pads show a run of the netlist, in every instant.
  pub shows : (run : UseRun) (words : List Word) (after : Assignment) (latches : List Bool) → AreFirstWords fabric others first last words →
      IsDesignRun fabric text netlist implementation words run start after → HoldsLatches netlist implementation start latches →
      ShowsRun netlist implementation run latches
  -- Behind such a run exactly one assignment is settled, whatever comes in, and it can be ticked.
  pub settles : (run : UseRun) (words : List Word) (after inputs : Assignment) → AreFirstWords fabric others first last words →
      IsDesignRun fabric text netlist implementation words run start after → inputs (point [] clock_name 0) ≡ false →
      SettlesOnce (DesignPoints fabric text netlist implementation) text inputs after
  -- So there is one for whatever is fed.
  pub exists : (fed : UseRun) (words : List Word) → AreFirstWords fabric others first last words → FeedsRun text netlist implementation words fed →
      (run : UseRun) × AreRunsAlike run fed × (after : Assignment) × IsDesignRun fabric text netlist implementation words run start after
  -- Wherever the words are broken off, words of these columns may begin again.
  pub breaks : (run : UseRun) (words : List Word) (after : Assignment) → AreFirstWords fabric others first last words →
      IsDesignRun fabric text netlist implementation words run start after → HoldsBeside fabric first last bits after
  -- Behind the last word the columns have the new bits and all others those that they had. These are bits of the design, so it runs on.
  pub leaves : (run : UseRun) (after : Assignment) →
      IsDesignRun fabric text netlist implementation (partial_words fabric others first last) run start after →
      IsConfigured fabric (exchanged (lies_within first last) bits others) after
      × Configures fabric (packed netlist) implementation (exchanged (lies_within first last) bits others)
      × RunsFrom fabric text netlist netlist implementation after

-- What words of some columns do in a text, for a netlist and its implementation.
pub record ExchangesColumns (fabric : PlainFabric) (text : List PlainModule) (netlist : PlainNetlist) (implementation : PlainImplementation)
    (first last : ℕ) (others : PlainBits) : Type 0 where
  -- Loading a bitstream leaves a text that is configured with its bits,
  pub loaded : (bits : PlainBits) (moments : List Moment) (held after start : Assignment) → Writes text (stream_words fabric bits) moments →
      IsRunOn (IsLoading text) text moments held after → ((p : Point) → IsLoading text p → start p ≡ after p) → IsConfigured fabric bits start
  -- and so does each run of use behind that, in which no word is written.
  pub reached : (bits : PlainBits) (start : Assignment) → Configures fabric (packed netlist) implementation bits → IsConfigured fabric bits start →
      (cycles : List Cycle) (instants : List Instant) (between held : Assignment) (given : List Bool) →
      AreCycles (DesignPoints fabric text netlist implementation) text netlist implementation cycles start between →
      AreInstants (DesignPoints fabric text netlist implementation) text instants between held → All (IsFed netlist implementation given) instants →
      IsConfigured fabric bits held
  -- From there words of the columns may begin,
  pub begins : (bits : PlainBits) (start : Assignment) → IsConfigured fabric bits start → HoldsBeside fabric first last bits start
  -- and wherever they may, they exchange the columns while the design runs.
  pub exchange : (bits : PlainBits) (start : Assignment) → Configures fabric (packed netlist) implementation bits →
      HoldsBeside fabric first last bits start → RunsThrough fabric text netlist implementation first last bits others start

-- ---- the laws

-- Configuration bits of a legal implementation stay such bits, whatever stands in columns that it does not use.
abbrev pub UnusedBitsMayChange : Type 0
UnusedBitsMayChange =
    (fabric : PlainFabric) (packed : PlainPacked) (fixed : List Pad) (implementation : PlainImplementation) (there : ℕ → Bool) (bits others : PlainBits) →
    AreTiles fabric → IsLegal fabric packed fixed implementation → AreUnused fabric implementation there → Configures fabric packed implementation bits →
    Configures fabric packed implementation (exchanged there bits others)

-- In each text of a fabric in frames, columns that a legal implementation does not use are exchanged while its design runs. A chain has no words of
-- columns: each of its words moves all bits.
abbrev pub UnusedColumnsExchange : Type 0
UnusedColumnsExchange =
    (fabric : PlainFabric) (text : List PlainModule) (netlist : PlainNetlist) (fixed : List Pad) (implementation : PlainImplementation)
    (first last : ℕ) (others : PlainBits) → stream_mode fabric ≡ modes.Frames → IsFabric fabric → AreTiles fabric → IsFabricText fabric text →
    IsWellMade netlist → HasNoCycle netlist → IsLegal fabric (packed netlist) fixed implementation →
    AreUnused fabric implementation (lies_within first last) → ExchangesColumns fabric text netlist implementation first last others

-- A second design that uses none of the other columns runs from what the words of these columns leave, if the new bits are its own.
abbrev pub ArrivedDesignsRun : Type 0
ArrivedDesignsRun =
    (fabric : PlainFabric) (text : List PlainModule) (netlist : PlainNetlist) (fixed : List Pad) (implementation : PlainImplementation)
    (first last : ℕ) (bits others : PlainBits) (after : Assignment) → IsFabric fabric → AreTiles fabric → IsFabricText fabric text →
    IsWellMade netlist → HasNoCycle netlist → IsLegal fabric (packed netlist) fixed implementation →
    AreUnused fabric implementation (λ x. not (lies_within first last x)) → Configures fabric (packed netlist) implementation others →
    IsConfigured fabric (exchanged (lies_within first last) bits others) after →
    Configures fabric (packed netlist) implementation (exchanged (lies_within first last) bits others) × RunsFrom fabric text netlist netlist implementation after
