-- The flip-flops of CLK in a fabric's text are the registers of its loader, or in a chain those that keep the configuration bits.
use Rattle.std.proofs.Common.{◌≡◌, ℕ, List, [], ◌∷◌, refl, sym, ap, ◌∙◌, subst, inl, inr, Option, Some, None, All, Contains, ◌<◌}
use Rattle.std.specs.Str.{bytes_eq}
use Rattle.std.proofs.lemmas.Bool.{cases_Bool}
use Rattle.std.proofs.lemmas.Slice.Eq.{bytes_eq-Decides}
use Rattle.std.proofs.lemmas.List.Elements.{All-head, All-tail}
use Rattle.fab_syntax.specs.Plain.{PlainExpr, PlainJoin, PlainModule, variable, clocked}
use Rattle.fab_syntax.specs.Declarations.{is_input_of}
use Rattle.fab_meaning.specs.Points.{Path, Found, instance_in, module_at}
use Rattle.fab_meaning.specs.Runs.{clock_name, user_clock_name, join_named, join_of, named_by, clock_of}
use Rattle.fab_meaning.proofs.Clocks.{clock_at_top}
use Rattle.fab_drives_laws.specs.fab_model_mode_Mode_TheVariants as modes
use Rattle.fab_drives_laws.specs.fab_model_Tiles.{PlainTile, tile_bits}
use Rattle.fab_drives_laws.specs.fab_model_Grid.{PlainFabric, tile_at}
use Rattle.fab_drives_laws.specs.fab_fabric_Names.{place_name}
use Rattle.fab_drives_laws.specs.fab_fabric_Fabric.{IsFabric}
use Rattle.fab_drives_laws.specs.fab_gen_tile_MatrixModule.{matrix_module}
use Rattle.fab_drives_laws.specs.fab_gen_loader_Loader.{loader_of}
use Rattle.fab_drives_laws.specs.fab_fabric_text_defs_Top.{top_module}
use Rattle.fab_drives_laws.specs.Points.{place_path}
use Rattle.fab_drives_laws.specs.fab_gen_tile_ConfigModule.{config_module}
use Rattle.fab_drives_laws.specs.fab_gen_tile_TileModule.{tile_module}
use Rattle.fab_drives_laws.specs.fab_prim_Modules.{module_of_kind}
use Rattle.fab_drives_laws.specs.fab_gen_tile_Names.{latch_name}
use Rattle.fab_drives_laws.specs.fab_fabric_text_defs_Mode.{text_mode}
use Rattle.fab_drives_laws.proofs.Apart.{told_apart}
use Rattle.fab_drives_laws.proofs.Instances.{found_tile, tile_instance_found}
use Rattle.fab_drives_laws.proofs.Places.{placed_tile}
use Rattle.fab_drives_laws.proofs.Texts.{HasFabric}
use Rattle.fab_text_loads_laws.specs.Points.{loader_path, config_path}
use Rattle.fab_text_loads_laws.proofs.Loader.{register_names}
use Rattle.fab_text_loads_laws.proofs.Parts.{flop_is, NoInstance, NoLatch, NoFlop, ByUserClock, IsTopPart, top_is, IsRegister, loader_is, IsLatchOf, config_is, matrix_is, kind_is, KeepsClock, IsTilePart, tile_is, IsPart, the_top, the_loader, a_tile, a_config, a_matrix, a_bel, IsFlopOf}

-- ---- UserCLK stays UserCLK on the way up

-- whatever is joined to the port UserCLK is UserCLK
abbrev LeadsOn : List PlainJoin → Type 0
LeadsOn joins = (e : PlainExpr) → join_named joins user_clock_name ≡ Some e → e ≡ variable user_clock_name

keeping_leads_on : (joins : List PlainJoin) → All KeepsClock joins → LeadsOn joins
keeping_leads_on [] all e is = absurd cc
keeping_leads_on (join ∷ joins) all e is =
    elim (cases_Bool (bytes_eq join.port user_clock_name)) [
      | inl here ↦ (
          let to : join.to ≡ Some e = rw here at is in
          let clock : join.to ≡ Some (variable user_clock_name) = All-head KeepsClock join joins all ((bytes_eq-Decides join.port user_clock_name).0 here) in
          let both : Some e ≡ Some (variable user_clock_name) = sym to ∙ clock in cc)
      | inr past ↦ keeping_leads_on joins (All-tail KeepsClock join joins all) e (rw past at is)
    ]

named_leads : (to : Option PlainExpr) (lead : List ℕ → Option (List ℕ)) (c : List ℕ) → ((e : PlainExpr) → to ≡ Some e → e ≡ variable user_clock_name) →
    named_by to lead ≡ Some c → lead user_clock_name ≡ Some c
named_leads None lead c only is = absurd cc
named_leads (Some e) lead c only is = subst (λ e. named_by (Some e) lead ≡ Some c) (only e refl) is

-- if it is a clock of the top, it is that one of the name further up
clock_above : (text : List PlainModule) (path : Path) (i : List ℕ) (found : Found) (c : List ℕ) → instance_in (module_at text path) i ≡ Some found → LeadsOn found.joins →
    clock_of text (i ∷ path) user_clock_name ≡ Some c → clock_of text path user_clock_name ≡ Some c
clock_above text path i found c at leads is =
    elim (cases_Bool (is_input_of (module_at text (i ∷ path)) user_clock_name)) [
      | inl input ↦ (
          let step : named_by (join_of (instance_in (module_at text path) i) user_clock_name) (λ name. clock_of text path name) ≡ Some c = rw input at is in
          let there : named_by (join_named found.joins user_clock_name) (λ name. clock_of text path name) ≡ Some c =
          subst (λ f. named_by (join_of f user_clock_name) (λ name. clock_of text path name) ≡ Some c) at step in
          named_leads (join_named found.joins user_clock_name) (λ name. clock_of text path name) c leads there)
      | inr other ↦ (let none : None ≡ Some c = rw other at is in absurd cc)
    ]

-- what has CLK as its clock: a register of a loader, or what keeps a bit in a chain
pub data IsOfClock (fabric : PlainFabric) (path : Path) (target : List ℕ) : Type 0 where
  of_loader : text_mode fabric ≡ modes.Frames → path ≡ loader_path → Contains (register_names fabric.rows) target → IsOfClock fabric path target
  of_bit : (x y : ℕ) (tile : PlainTile) (number : ℕ) → text_mode fabric ≡ modes.Chain → tile_at fabric x y ≡ Some tile → number < tile_bits tile →
      path ≡ config_path x y →
      target ≡ latch_name number → IsOfClock fabric path target

module _ (fabric : PlainFabric) (text : List PlainModule) (has : HasFabric fabric text) (is_fabric : IsFabric fabric) where
  -- UserCLK of a BEL is that of the top
  bel_clock : (x y : ℕ) (tile : PlainTile) (i : List ℕ) (found : Found) (c : List ℕ) → tile_at fabric x y ≡ Some tile → instance_in (module_at text (place_path x y)) i ≡ Some found →
      All KeepsClock found.joins → clock_of text (i ∷ place_path x y) user_clock_name ≡ Some c → c ≡ user_clock_name
  bel_clock x y tile i found c there at keeps is =
      let of_tile : clock_of text (place_path x y) user_clock_name ≡ Some c = clock_above text (place_path x y) i found c at (keeping_leads_on found.joins keeps) is in
      let here : instance_in (module_at text []) (place_name x y) ≡ Some (found_tile fabric (placed_tile x y tile)) =
      ap (λ m. instance_in m (place_name x y)) has.top_is ∙ tile_instance_found fabric is_fabric x y tile there in
      let first : LeadsOn (found_tile fabric (placed_tile x y tile)).joins = λ e same. (let both : Some (variable user_clock_name) ≡ Some e = same in cc) in
      let of_top : clock_of text [] user_clock_name ≡ Some c = clock_above text [] (place_name x y) (found_tile fabric (placed_tile x y tile)) c here first of_tile in
      let both : Some user_clock_name ≡ Some c = sym (clock_at_top text (top_module fabric) user_clock_name has.top_is refl) ∙ of_top in cc

  pub flop_of_clock : (path : Path) (m : PlainModule) (clock target : List ℕ) (e : PlainExpr) → IsPart fabric path m →
      Contains m.items (clocked clock target e) →
      clock_of text path clock ≡ Some clock_name → IsOfClock fabric path target
  flop_of_clock path m clock target e (the_top at is) there clocks =
      absurd (flop_is (IsTopPart fabric) NoLatch NoFlop m (top_module fabric) (top_is fabric) is clock target e there)
  flop_of_clock path m clock target e (the_loader next frames at is) there clocks =
      of_loader frames at (flop_is NoInstance NoLatch (IsRegister fabric.rows) m (loader_of fabric.rows next)
      (loader_is fabric.rows next) is clock target e there)
  flop_of_clock path m clock target e (a_tile x y tile stands at is) there clocks =
      let mode = text_mode fabric in
      absurd (flop_is (IsTilePart tile) NoLatch NoFlop m (tile_module mode tile) (tile_is mode tile) is clock target e there)
  flop_of_clock path m clock target e (a_config x y tile stands at is) there clocks =
      let mode = text_mode fabric in
      let found = flop_is NoInstance (IsLatchOf mode tile) (IsFlopOf mode tile) m (config_module mode tile) (config_is mode tile) is clock target e there in
      of_bit x y tile found.1.0 found.0 stands found.1.1 at found.1.2
  flop_of_clock path m clock target e (a_matrix tile is) there clocks =
      absurd (flop_is NoInstance NoLatch NoFlop m (matrix_module tile) (matrix_is tile) is clock target e there)
  flop_of_clock path m clock target e (a_bel x y tile i found kind stands at found_here keeps is) there clocks =
      let user : clock ≡ user_clock_name = flop_is NoInstance NoLatch ByUserClock m (module_of_kind kind) (kind_is kind) is clock target e there in
      let here : instance_in (module_at text (place_path x y)) i ≡ Some found = ap (λ m. instance_in m i) (has.stands x y tile stands).tile_is ∙ found_here in
      let clocked_here : clock_of text (i ∷ place_path x y) user_clock_name ≡ Some clock_name = (λ j. clock_of text (sym at j) (sym user j)) ∙ clocks in
      absurd (told_apart 0 clock_name user_clock_name refl (bel_clock x y tile i found clock_name stands here keeps clocked_here))
