-- The laws that stand beside that of settling: use goes on, both clocks may tick at once, and pads that are left alone are released.
use Rattle.std.proofs.Common.{◌≡◌, ℕ, List, [], map, refl, inl, inr, arith}
use Rattle.std.proofs.lemmas.List.Elements.{All-nil}
use Rattle.fab_bits.specs.Bits.{digits}
use Rattle.fab_systems_laws.specs.Ternary.{known}
use Rattle.fab_syntax.specs.Plain.{PlainModule}
use Rattle.fab_meaning.specs.Points.{Point}
use Rattle.fab_meaning.specs.Settled.{Assignment, IsSettledOn}
use Rattle.fab_meaning.specs.Runs.{Moment, IsRunOn}
use Rattle.fab_meaning.specs.Loading.{IsLoading}
use Rattle.fab_meaning.proofs.SoundTexts.{sound_drives_once}
use Rattle.fab_nested_laws.specs.Together.{loader_moment}
use Rattle.fab_nested_laws.proofs.LoadingTakes.{to_one}
use Rattle.fab_model.specs.Grid.{PlainFabric}
use Rattle.fab_model.specs.Drive.{PlainBits}
use Rattle.fab_fabric.specs.Fabric.{IsFabric, AreTiles}
use Rattle.fab_frames.specs.Stream.{stream}
use Rattle.fab_netlist.specs.Plain.{PlainNetlist}
use Rattle.fab_netlist.specs.WellMade.{IsWellMade}
use Rattle.fab_netlist.specs.Cycles.{HasNoCycle}
use Rattle.fab_netlist.specs.Packing.{packed}
use Rattle.fab_implementation.specs.Plain.{Pad, PlainImplementation}
use Rattle.fab_runs_laws.specs.fab_legal_Legal.{IsLegal}
use Rattle.fab_runs_laws.specs.fab_fabric_text_defs_Texts.{IsFabricText}
use Rattle.fab_runs_laws.specs.fab_use_defs_Configuring.{Configures}
use Rattle.fab_runs_laws.specs.fab_text_loads_laws_Loads.{Writes, IsConfigured}
use Rattle.fab_runs_laws.proofs.Setting.{Laws, Setting}
use Rattle.fab_settling_laws.specs.Going.{LegalDesignsGoOn}
use Rattle.fab_settling_laws.specs.Together.{LegalDesignsTakeBoth}
use Rattle.fab_settling_laws.specs.Released.{IsLoadedWith, FirstZeroReleases}
use Rattle.fab_settling_laws.proofs.OneStep.{loading_law}
use Rattle.fab_settling_laws.proofs.Going.{order_blocks, goes_on, resting, rests}
use Rattle.fab_settling_laws.proofs.Both.{to_user_cycles, from_user_cycles, block_cycle_in_turn}
use Rattle.fab_settling_laws.proofs.Rows.{settled_right, settled_with}
use Rattle.fab_settling_laws.proofs.PadRows.{leaves, pad_rows, pad_rows_are}

module _ (s : Setting) where
  abbrev words : List ℕ
  words = stream s.fabric s.bits

  -- what the words leave is the configuration
  left : (moments : List Moment) (held after start : Assignment) → Writes s.text (map (digits 32) words) moments → IsRunOn (IsLoading s.text) s.text moments held after →
      ((p : Point) → IsLoading s.text p → start p ≡ after p) → IsConfigured s.fabric s.bits start
  left moments held after start writes run same =
      s.laws.goes s.fabric s.text s.bits after start s.is s.is_text (((loading_law s).loads s.bits).configures moments held after writes run) same

  left_with : (start : Assignment) → IsLoadedWith s.text words start → IsConfigured s.fabric s.bits start
  left_with start with = left with.moments with.held with.after start with.writes with.run with.same

-- what a law supposes, as one record
abbrev setting : (laws : Laws) (fabric : PlainFabric) (text : List PlainModule) (netlist : PlainNetlist) (fixed : List Pad) (implementation : PlainImplementation)
    (bits : PlainBits) → IsFabric fabric → AreTiles fabric → IsFabricText fabric text → IsWellMade netlist → HasNoCycle netlist →
    IsLegal fabric (packed netlist) fixed implementation → Configures fabric (packed netlist) implementation bits → Setting
setting laws fabric text netlist fixed implementation bits is are is_text made acyclic legal configures = record {
  laws = laws;
  fabric = fabric;
  text = text;
  netlist = netlist;
  fixed = fixed;
  implementation = implementation;
  bits = bits;
  is = is;
  are = are;
  is_text = is_text;
  made = made;
  acyclic = acyclic;
  legal = legal;
  configures = configures;
}

pub legal_designs_go_on : Laws → LegalDesignsGoOn
legal_designs_go_on laws fabric text netlist fixed implementation bits is are is_text made acyclic legal configures =
    let s : Setting = setting laws fabric text netlist fixed implementation bits is are is_text made acyclic legal configures in
    record {
      orders = λ points all. order_blocks s points all;
      starts = λ moments held after writes run.
          (let configured = left s moments held after after writes run (λ p loads. refl) in
          (resting s after configured, (rests s after configured).0, (rests s after configured).1));
      from = λ moments held after start count writes run same rest.
          goes_on s count start (record { rest = rest; configured = left s moments held after start.held writes run same });
    }

pub legal_designs_take_both : Laws → LegalDesignsTakeBoth
legal_designs_take_both laws fabric text netlist fixed implementation bits is are is_text made acyclic legal configures =
    let s : Setting = setting laws fabric text netlist fixed implementation bits is are is_text made acyclic legal configures in
    record {
      runs = λ moments held after start writes run same cycles last.
          let one = to_one text (sound_drives_once text is_text.sound) moments held after run in
          let configured = left s (map loader_moment moments) held after start writes one same in
          (to_user_cycles s cycles start last configured, from_user_cycles s cycles start last configured);
      settles = λ count cycle before after is. block_cycle_in_turn s count cycle before after is;
    }

pub first_zero_releases : Laws → FirstZeroReleases
first_zero_releases laws fabric text netlist fixed implementation bits is are is_text made acyclic legal configures site lists selects =
    let s : Setting = setting laws fabric text netlist fixed implementation bits is are is_text made acyclic legal configures in
    let rows = pad_rows s site lists selects in
    record {
      released = λ inputs start now with settled.
          let loading : IsSettledOn (IsLoading text) text inputs start now = λ p d loads drives. settled p d (inl loads) drives in
          let knows = laws.known fabric text bits inputs start now (λ q. known (now q)) is is_text (left_with s start with) loading (λ p loads. refl) in
          settled_right s inputs start [] rows (pad_rows_are s site lists selects inputs start) now knows (All-nil _) (λ p d among drives. settled p d (inr among) drives)
          (leaves s site lists selects) (7, omega arith, refl);
      exists = λ inputs start now with settled.
          settled_with s inputs start (left_with s start with) now settled rows (pad_rows_are s site lists selects inputs start);
    }
