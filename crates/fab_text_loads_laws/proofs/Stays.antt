-- The loading points hold at a tick what they hold, where the flip-flops of CLK and the latches do; and so they do through all moments without words.
use Rattle.std.proofs.Common.{◌≡◌, ℕ, Bool, true, false, List, [], ◌∷◌, cond, sym, ap, ◌∙◌, subst, inl, inr, Option, Some, None, All, Contains}
use Rattle.std.specs.Str.{bytes_eq}
use Rattle.std.proofs.lemmas.Bool.{cases_Bool}
use Rattle.std.proofs.lemmas.Slice.Eq.{bytes_eq-Decides}
use Rattle.std.proofs.lemmas.List.Elements.{All-head, All-tail}
use Rattle.fab_syntax.specs.Plain.{PlainExpr, PlainItem, PlainModule, wire, reg, assign, latch, clocked, instance}
use Rattle.fab_syntax.specs.Declarations.{module_named, is_input_of}
use Rattle.fab_meaning.specs.Value.{value, bit_at}
use Rattle.fab_meaning.specs.Points.{Path, Point, point, Driver, outside, copy, bit_of, flop, hold, JoinDrives, ItemDrives, Drives, module_at}
use Rattle.fab_meaning.specs.Reads.{is_declared}
use Rattle.fab_meaning.specs.Settled.{Assignment, names_at, IsSettledOn}
use Rattle.fab_meaning.specs.Runs.{clock_name, clock_of, is_clock, Ticks, Moment, IsRunOn}
use Rattle.fab_meaning.specs.Loading.{IsDerived, Within, by_flop, by_stream, by_reads, IsClosed, IsLoading}
use Rattle.fab_drives_laws.specs.fab_model_Grid.{PlainFabric, tile_at}
use Rattle.fab_drives_laws.specs.fab_fabric_Fabric.{IsFabric}
use Rattle.fab_drives_laws.specs.fab_model_Tiles.{PlainTile}
use Rattle.fab_drives_laws.specs.fab_fabric_text_defs_Mode.{text_mode}
use Rattle.fab_drives_laws.proofs.Texts.{HasFabric}
use Rattle.fab_text_loads_laws.specs.Points.{config_path}
use Rattle.fab_text_loads_laws.specs.Loads.{IsQuiet}
use Rattle.fab_text_loads_laws.proofs.Parts.{part_at, latch_of_tile, IsLatchOf, LoaderIs}
use Rattle.fab_text_loads_laws.proofs.Clocks.{IsOfClock, flop_of_clock}

-- ---- which item a flip-flop and a latch are

-- a process of the module at a path drives the point
record IsFlopItem (text : List PlainModule) (p : Point) (path : Path) (clock : List ℕ) : Type 0 where
  here : PlainModule
  target : List ℕ
  e : PlainExpr
  stands : module_at text path ≡ Some here
  there : Contains here.items (clocked clock target e)
  at : p ≡ point path target p.bit

pub record IsLatchItem (text : List PlainModule) (p : Point) (path : Path) : Type 0 where
  pub here : PlainModule
  pub target : List ℕ
  pub gate : PlainExpr
  pub e : PlainExpr
  pub stands : module_at text path ≡ Some here
  pub there : Contains here.items (latch target gate e)
  pub at : p ≡ point path target p.bit

-- an instance drives no flip-flop and no latch
join_is_wire : (path : Path) (i : List ℕ) (input : Bool) (port : List ℕ) (to : Option PlainExpr) (p : Point) (d : Driver) → JoinDrives path i input port to p d →
    (Waits : Driver → Type 0) → ((e : PlainExpr) (bit : ℕ) → Waits (bit_of path e bit) → ⊥) → ((other : Point) → Waits (copy other) → ⊥) → Waits d → ⊥
join_is_wire path i input port None p d drives Waits no_wire no_copy waits = drives
join_is_wire path i true port (Some e) p d drives Waits no_wire no_copy waits = no_wire e p.bit (subst Waits drives.1 waits)
join_is_wire path i false port (Some e) p d drives Waits no_wire no_copy waits = no_copy (point (i ∷ path) port p.bit) (subst Waits drives.3 waits)

abbrev IsFlopDriver : Driver → Type 0
IsFlopDriver (flop path clock next bit) = Unit {0}
IsFlopDriver outside = ⊥
IsFlopDriver (copy other) = ⊥
IsFlopDriver (bit_of path e bit) = ⊥
IsFlopDriver (hold path gate e bit) = ⊥

abbrev IsHoldDriver : Driver → Type 0
IsHoldDriver (hold path gate e bit) = Unit {0}
IsHoldDriver outside = ⊥
IsHoldDriver (copy other) = ⊥
IsHoldDriver (bit_of path e bit) = ⊥
IsHoldDriver (flop path clock next bit) = ⊥

-- of each item
module _ (text : List PlainModule) (p : Point) (path : Path) (here : PlainModule) (stands : module_at text path ≡ Some here) where
  flop_of_item : (item : PlainItem) (own : Path) (clock : List ℕ) (next : PlainExpr) (bit : ℕ) → Contains here.items item → ItemDrives text path item p (flop own clock next bit) →
      IsFlopItem text p own clock
  flop_of_item (wire shape name) own clock next bit there drives = absurd drives
  flop_of_item (reg shape name) own clock next bit there drives = absurd drives
  flop_of_item (assign target e) own clock next bit there drives = absurd (subst IsFlopDriver drives.1 tt)
  flop_of_item (latch target gate e) own clock next bit there drives = absurd (subst IsFlopDriver drives.1 tt)
  flop_of_item (clocked other target e) own clock next bit there drives =
      let is : flop own clock next bit ≡ flop path other e p.bit = drives.1 in
      let same_path : own ≡ path = cc in
      let same_clock : clock ≡ other = cc in
      record {
        here = here;
        target = target;
        e = e;
        stands = ap (module_at text) same_path ∙ stands;
        there = subst (λ c. Contains here.items (clocked c target e)) (sym same_clock) there;
        at = drives.0 ∙ ap (λ path. point path target p.bit) (sym same_path);
      }
  flop_of_item (instance module_name i joins) own clock next bit there drives =
      absurd (join_is_wire path i (is_input_of (module_named text module_name) drives.0.port) drives.0.port drives.0.to p (flop own clock next bit) drives.2
      IsFlopDriver (λ e bit is. is) (λ other is. is) tt)

  latch_of_item : (item : PlainItem) (own : Path) (gate data_value : PlainExpr) (bit : ℕ) → Contains here.items item → ItemDrives text path item p (hold own gate data_value bit) →
      IsLatchItem text p own
  latch_of_item (wire shape name) own gate data_value bit there drives = absurd drives
  latch_of_item (reg shape name) own gate data_value bit there drives = absurd drives
  latch_of_item (assign target e) own gate data_value bit there drives = absurd (subst IsHoldDriver drives.1 tt)
  latch_of_item (clocked clock target e) own gate data_value bit there drives = absurd (subst IsHoldDriver drives.1 tt)
  latch_of_item (latch target other e) own gate data_value bit there drives =
      let is : hold own gate data_value bit ≡ hold path other e p.bit = drives.1 in
      let same_path : own ≡ path = cc in
      record {
        here = here;
        target = target;
        gate = other;
        e = e;
        stands = ap (module_at text) same_path ∙ stands;
        there = there;
        at = drives.0 ∙ ap (λ path. point path target p.bit) (sym same_path);
      }
  latch_of_item (instance module_name i joins) own gate data_value bit there drives =
      absurd (join_is_wire path i (is_input_of (module_named text module_name) drives.0.port) drives.0.port drives.0.to p (hold own gate data_value bit) drives.2
      IsHoldDriver (λ e bit is. is) (λ other is. is) tt)

flop_item : (text : List PlainModule) (p : Point) (path : Path) (clock : List ℕ) (next : PlainExpr) (bit : ℕ) → Drives text p (flop path clock next bit) → IsFlopItem text p path clock
flop_item text p path clock next bit (inl driven) = absurd (subst IsFlopDriver driven.is tt)
flop_item text p path clock next bit (inr driven) = flop_of_item text p driven.path driven.module_here driven.stands driven.item path clock next bit driven.holds driven.drives

pub latch_item : (text : List PlainModule) (p : Point) (path : Path) (gate data_value : PlainExpr) (bit : ℕ) → Drives text p (hold path gate data_value bit) → IsLatchItem text p path
latch_item text p path gate data_value bit (inl driven) = absurd (subst IsHoldDriver driven.is tt)
latch_item text p path gate data_value bit (inr driven) = latch_of_item text p driven.path driven.module_here driven.stands driven.item path gate data_value bit driven.holds driven.drives

-- ---- a tick

-- a point that is within is declared
within_declared : (text : List PlainModule) (flops : Point → Bool) (p : Point) → Within text flops p → is_declared text p ≡ true
within_declared text flops p (by_flop declared is) = declared
within_declared text flops p (by_stream stream) = stream.declared
within_declared text flops p (by_reads d declared drives derived reads) = declared

module _ (fabric : PlainFabric) (text : List PlainModule) (has : HasFabric fabric text) (loader : LoaderIs fabric text) (is : IsFabric fabric) where
  module _ (clock : List ℕ) (held now after : Assignment) (ticks : Ticks (IsLoading text) text clock held now after)
      (flop_keeps : clock ≡ clock_name → (path : Path) (target : List ℕ) (bit : ℕ) → IsOfClock fabric path target → is_declared text
      (point path target bit) ≡ true →
      after (point path target bit) ≡ held (point path target bit))
      (latch_keeps : (x y : ℕ) (tile : PlainTile) (target : List ℕ) (bit : ℕ) → tile_at fabric x y ≡ Some tile → IsLatchOf (text_mode fabric) tile target →
      is_declared text (point (config_path x y) target bit) ≡ true →
      after (point (config_path x y) target bit) ≡ held (point (config_path x y) target bit)) where
    flop_stays : (p : Point) (path : Path) (name : List ℕ) (e : PlainExpr) (bit : ℕ) → is_declared text p ≡ true → IsLoading text p →
        Drives text p (flop path name e bit) →
        clock_of text path name ≡ Some clock_name → after p ≡ held p
    flop_stays p path name e bit declared loading drives clocks =
        let taken = bit_at (value (names_at text now path) e) bit in
        let kept_is : after p ≡ cond (bytes_eq clock_name clock) taken (held p) =
        ticks p (flop path name e bit) loading drives
        ∙ ap (λ found. cond (is_clock clock found) taken (held p)) clocks in
        elim (cases_Bool (bytes_eq clock_name clock)) [
          | inl ticked ↦ (
              let item = flop_item text p path name e bit drives in
              let found =
              flop_of_clock fabric text has is path item.here name item.target item.e
              (part_at fabric text has loader path item.here item.stands) item.there clocks in
              ap after item.at
              ∙ flop_keeps (sym ((bytes_eq-Decides clock_name clock).0 ticked)) path item.target p.bit found
              (subst (λ q. is_declared text q ≡ true) item.at declared)
              ∙ ap held (sym item.at))
          | inr idle ↦ kept_is ∙ ap (λ b. cond b taken (held p)) idle
        ]

    latch_stays : (p : Point) (path : Path) (gate e : PlainExpr) (bit : ℕ) → is_declared text p ≡ true → Drives text p (hold path gate e bit) → after p ≡ held p
    latch_stays p path gate e bit declared drives =
        let item = latch_item text p path gate e bit drives in
        let found = latch_of_tile fabric path item.here item.target item.gate item.e (part_at fabric text has loader path item.here item.stands) item.there in
        let same : p ≡ point (config_path found.0 found.1) item.target p.bit = item.at ∙ ap (λ path. point path item.target p.bit) found.4 in
        ap after same
        ∙ latch_keeps found.0 found.1 found.2 item.target p.bit found.3 found.5 (subst (λ q. is_declared text q ≡ true) same declared)
        ∙ ap held (sym same)

    derived_stays : (p : Point) (d : Driver) → is_declared text p ≡ true → IsLoading text p → Drives text p d → IsDerived d → after p ≡ held p
    derived_stays p outside declared loading drives derived = absurd derived
    derived_stays p (copy other) declared loading drives derived = ticks p (copy other) loading drives
    derived_stays p (bit_of path e bit) declared loading drives derived = ticks p (bit_of path e bit) loading drives
    derived_stays p (flop path name e bit) declared loading drives derived = absurd derived
    derived_stays p (hold path gate e bit) declared loading drives derived = latch_stays p path gate e bit declared drives

    within_stays : (flops : Point → Bool) → IsClosed text flops → (p : Point) → Within text flops p → IsLoading text p → after p ≡ held p
    within_stays flops closed p (by_flop declared is) loading =
        let at = closed p is in
        flop_stays p at.path at.clock at.next at.bit declared loading at.drives at.clocked
    within_stays flops closed p (by_stream stream) loading = ticks p outside loading (inl stream.input)
    within_stays flops closed p (by_reads d declared drives derived reads) loading = derived_stays p d declared loading drives derived

    pub all_stay : (p : Point) → IsLoading text p → after p ≡ held p
    all_stay p loading = within_stays loading.0 loading.1 p loading.2 loading

-- ---- a run

module _ (text : List PlainModule) (Configured : Assignment → Type 0)
    (goes : (held after : Assignment) → Configured held → ((p : Point) → IsLoading text p → after p ≡ held p) → Configured after)
    (one_stays : (moment : Moment) (held now after : Assignment) → Configured held → IsQuiet moment → IsSettledOn (IsLoading text) text moment.inputs held now →
    Ticks (IsLoading text) text moment.clock held now after → (p : Point) → IsLoading text p → after p ≡ held p) where
  pub run_stays : (moments : List Moment) (held after : Assignment) → Configured held → All IsQuiet moments → IsRunOn (IsLoading text) text moments held after →
      (p : Point) → IsLoading text p → after p ≡ held p
  run_stays [] held after configured quiet run p loading = run p loading
  run_stays (moment ∷ moments) held after configured quiet (now, between, settled, low, ticks, rest) p loading =
      let stay = one_stays moment held now between configured (All-head IsQuiet moment moments quiet) settled ticks in
      run_stays moments between after (goes held between configured stay) (All-tail IsQuiet moment moments quiet) rest p loading
      ∙ stay p loading
