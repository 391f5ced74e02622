-- All bits of a name have one kind of driver, so a set of flip-flops leads to all of them or to none.
use Rattle.std.proofs.Common.{◌≡◌, ℕ, Bool, true, false, List, ◌∷◌, Contains, Option, Some, None, refl, sym, ap, ◌∙◌, subst, inl, inr, All}
use Rattle.std.specs.Prelude.{nat_lt}
use Rattle.std.proofs.lemmas.List.Elements.{All-contains}
use Rattle.fab_syntax.specs.Declarations.{module_named, width, width_in, width_if_any, is_input_of}
use Rattle.fab_syntax.specs.declared.tree.Port.{Port}
use Rattle.fab_syntax.specs.Plain.{PlainExpr, variable, PlainJoin, PlainItem, wire, reg, assign, latch, clocked, instance, PlainModule}
use Rattle.fab_syntax.specs.Sound.{IsSound, InstanceFits, JoinFits, FitsPort, IsJoinedOnce, port_named}
use Rattle.fab_meaning.specs.Points.{Path, Point, point, Driver, outside, copy, bit_of, flop, hold, instance_named, instance_in, module_of, module_at, JoinDrives, ItemDrives, Drives}
use Rattle.fab_meaning.specs.Reads.{is_declared}
use Rattle.fab_meaning.specs.Sound.{DrivesOnce}
use Rattle.fab_meaning.specs.Loading.{Within, by_flop, by_stream, by_reads}
use Rattle.fab_meaning.proofs.Counted.{instance_found}
use Rattle.fab_meaning.proofs.Dependence.{same_point_refl, same_point_is}
use Rattle.fab_meaning.proofs.Modules.{module_at_holds}
use Rattle.fab_meaning.proofs.SoundTexts.{some_value, instances_fit, sound_drives_once}
use Rattle.fab_meaning.proofs.SingleDrivers.{one_driver}
use Rattle.fab_equations.proofs.Driven.{port_input, port_shape}

-- ---- drivers of other bits

-- the driver of another bit of the name
abbrev pub other_bit : Driver → ℕ → Driver
other_bit outside b = outside
other_bit (copy other) b = copy (point other.path other.name b)
other_bit (bit_of path e bit) b = bit_of path e b
other_bit (flop path clock next bit) b = flop path clock next b
other_bit (hold path gate e bit) b = hold path gate e b

abbrev moved : Point → ℕ → Point
moved p b = point p.path p.name b

join_bit : (path : Path) (i : List ℕ) (input : Bool) (port : List ℕ) (to : Option PlainExpr) (p : Point) (d : Driver) (b : ℕ) →
    JoinDrives path i input port to p d → JoinDrives path i input port to (moved p b) (other_bit d b)
join_bit path i true port None p d b h = absurd h
join_bit path i false port None p d b h = absurd h
join_bit path i true port (Some e) p d b h = (ap (λ q. moved q b) h.0, ap (λ x. other_bit x b) h.1)
join_bit path i false port (Some e) p d b h = (h.0, h.1, ap (λ q. moved q b) h.2, ap (λ x. other_bit x b) h.3)

item_bit : (text : List PlainModule) (path : Path) (item : PlainItem) (p : Point) (d : Driver) (b : ℕ) →
    ItemDrives text path item p d → ItemDrives text path item (moved p b) (other_bit d b)
item_bit text path (wire shape name) p d b h = absurd h
item_bit text path (reg shape name) p d b h = absurd h
item_bit text path (assign target e) p d b h = (ap (λ q. moved q b) h.0, ap (λ x. other_bit x b) h.1)
item_bit text path (latch target gate e) p d b h = (ap (λ q. moved q b) h.0, ap (λ x. other_bit x b) h.1)
item_bit text path (clocked clock target e) p d b h = (ap (λ q. moved q b) h.0, ap (λ x. other_bit x b) h.1)
item_bit text path (instance module_name i joins) p d b h =
    (h.0, h.1, join_bit path i (is_input_of (module_named text module_name) h.0.port) h.0.port h.0.to p d b h.2)

pub bit_driven : (text : List PlainModule) (p : Point) (d : Driver) (b : ℕ) → Drives text p d → Drives text (point p.path p.name b) (other_bit d b)
bit_driven text p d b (inl h) = inl (record { top = h.top; input = h.input; is = ap (λ x. other_bit x b) h.is })
bit_driven text p d b (inr h) =
    inr (record {
      path = h.path;
      module_here = h.module_here;
      item = h.item;
      stands = h.stands;
      holds = h.holds;
      drives = item_bit text h.path h.item p d b h.drives;
    })

-- ---- copies

join_copied : (path : Path) (i : List ℕ) (input : Bool) (port : List ℕ) (to : Option PlainExpr) (p other : Point) → JoinDrives path i input port to p (copy other) → other.bit ≡ p.bit
join_copied path i true port None p other h = absurd h
join_copied path i false port None p other h = absurd h
join_copied path i true port (Some e) p other h = let apart = h.1 in cc
join_copied path i false port (Some e) p other h =
    let copied = h.3 in
    let at : other ≡ point (i ∷ path) port p.bit = cc in ap (λ (q : Point). q.bit) at

item_copied : (text : List PlainModule) (path : Path) (item : PlainItem) (p other : Point) → ItemDrives text path item p (copy other) → other.bit ≡ p.bit
item_copied text path (wire shape name) p other h = absurd h
item_copied text path (reg shape name) p other h = absurd h
item_copied text path (assign target e) p other h = let apart = h.1 in cc
item_copied text path (latch target gate e) p other h = let apart = h.1 in cc
item_copied text path (clocked clock target e) p other h = let apart = h.1 in cc
item_copied text path (instance module_name i joins) p other h = join_copied path i (is_input_of (module_named text module_name) h.0.port) h.0.port h.0.to p other h.2

-- a copy is of the bit of the same number
pub copied_bit : (text : List PlainModule) (p other : Point) → Drives text p (copy other) → other.bit ≡ p.bit
copied_bit text p other (inl h) = let apart = h.is in cc
copied_bit text p other (inr h) = item_copied text h.path h.item p other h.drives

module _ (text : List PlainModule) (sound : IsSound text) where
  pub same_driver : (p : Point) (d e : Driver) → Drives text p d → Drives text p e → d ≡ e
  same_driver p d e a b = one_driver text (sound_drives_once text sound) p d e a b

  -- an output port is as wide as the name that it drives
  copy_wide : (path : Path) (here : PlainModule) (module_name i : List ℕ) (joins : List PlainJoin) (join : PlainJoin) (name : List ℕ) →
      module_at text path ≡ Some here → Contains here.items (instance module_name i joins) → Contains joins join →
      is_input_of (module_named text module_name) join.port ≡ false → join.to ≡ Some (variable name) →
      width_in (module_at text path) name ≡ width_in (module_at text (i ∷ path)) join.port
  copy_wide path here module_name i joins join name stands holds there leaves to =
      let once = module_at_holds (DrivesOnce text) text path here (sound_drives_once text sound) stands in
      let found : instance_named here.items i ≡ Some (record { module_name = module_name; joins = joins }) = instance_found here.items module_name i joins holds (once.instances i) in
      let Fits : PlainModule → Type 0 = λ b. All (JoinFits here b) joins × All (IsJoinedOnce joins) b.ports in
      let all = module_at_holds (λ (m : PlainModule). All (InstanceFits text m) m.items) text path here (instances_fit text sound.instances) stands in
      let below = some_value (module_named text module_name) Fits (All-contains (InstanceFits text here) here.items (instance module_name i joins) all holds) in
      let at : module_at text (i ∷ path) ≡ Some below.0 =
      ap (λ m. module_of text (instance_in m i)) stands ∙ ap (module_of text) found ∙ below.1 in
      let port = some_value (port_named below.0.ports join.port) (λ (p : Port). FitsPort here p.input (width p.shape) join.to) (All-contains (JoinFits here below.0) joins join below.2.0 there) in
      let output : port.0.input ≡ false =
      sym (port_input below.0.ports join.port port.0 port.1) ∙ sym (ap (λ m. is_input_of m join.port) below.1) ∙ leaves in
      let wide : FitsPort here false (width port.0.shape) (Some (variable name)) =
      subst (λ (o : Option PlainExpr). FitsPort here false (width port.0.shape) o) to
      (subst (λ (input : Bool). FitsPort here input (width port.0.shape) join.to) output port.2) in
      ap (λ m. width_in m name) stands ∙ wide ∙ sym (ap (λ m. width_in m join.port) at ∙ ap width_if_any (port_shape below.0.ports below.0.items join.port port.0 port.1))

  copy_join : (path : Path) (here : PlainModule) (module_name i : List ℕ) (joins : List PlainJoin) (join : PlainJoin) (p other : Point) →
      module_at text path ≡ Some here → Contains here.items (instance module_name i joins) → Contains joins join →
      (input : Bool) → is_input_of (module_named text module_name) join.port ≡ input → (to : Option PlainExpr) → join.to ≡ to →
      JoinDrives path i input join.port to p (copy other) → width_in (module_at text p.path) p.name ≡ width_in (module_at text other.path) other.name
  copy_join path here module_name i joins join p other stands holds there true way None is h = absurd h
  copy_join path here module_name i joins join p other stands holds there false way None is h = absurd h
  copy_join path here module_name i joins join p other stands holds there true way (Some e) is h = let apart = h.1 in cc
  copy_join path here module_name i joins join p other stands holds there false way (Some e) is h =
      let to : join.to ≡ Some (variable h.0) = is ∙ ap (λ x. Some x) h.1 in
      let copied = h.3 in
      let port : other ≡ point (i ∷ path) join.port p.bit = cc in
      ap (λ (q : Point). width_in (module_at text q.path) q.name) h.2 ∙ copy_wide path here module_name i joins join h.0 stands holds there way to
      ∙ sym (ap (λ (q : Point). width_in (module_at text q.path) q.name) port)

  copy_item : (path : Path) (here : PlainModule) (item : PlainItem) (p other : Point) → module_at text path ≡ Some here → Contains here.items item →
      ItemDrives text path item p (copy other) → width_in (module_at text p.path) p.name ≡ width_in (module_at text other.path) other.name
  copy_item path here (wire shape name) p other stands holds h = absurd h
  copy_item path here (reg shape name) p other stands holds h = absurd h
  copy_item path here (assign target e) p other stands holds h = let apart = h.1 in cc
  copy_item path here (latch target gate e) p other stands holds h = let apart = h.1 in cc
  copy_item path here (clocked clock target e) p other stands holds h = let apart = h.1 in cc
  copy_item path here (instance module_name i joins) p other stands holds h =
      copy_join path here module_name i joins h.0 p other stands holds h.1 (is_input_of (module_named text module_name) h.0.port) refl h.0.to refl h.2

  copied_wide : (p other : Point) → Drives text p (copy other) → width_in (module_at text p.path) p.name ≡ width_in (module_at text other.path) other.name
  copied_wide p other (inl h) = let apart = h.is in cc
  copied_wide p other (inr h) = copy_item h.path h.module_here h.item p other h.stands h.holds h.drives

  pub copied_declared : (p other : Point) (b : ℕ) → Drives text p (copy other) → is_declared text (point p.path p.name b) ≡ true →
      is_declared text (point other.path other.name b) ≡ true
  copied_declared p other b drives h = sym (ap (nat_lt b) (copied_wide p other drives)) ∙ h

  -- ---- sets of flip-flops

  module _ (flops : Point → Bool) (alike : (p q : Point) → flops p ≡ true → p.path ≡ q.path → p.name ≡ q.name → flops q ≡ true) where
    pub all_bits : (p : Point) (b : ℕ) → is_declared text (point p.path p.name b) ≡ true → Within text flops p → Within text flops (point p.path p.name b)
    all_bits p b h (by_flop declared f) = by_flop h (alike p (point p.path p.name b) f refl refl)
    all_bits p b h (by_stream is) = by_stream (record { input = record { top = is.input.top; input = is.input.input; is = refl }; declared = h; named = is.named })
    all_bits p b h (by_reads outside declared drives derived inside) = absurd derived
    all_bits p b h (by_reads (flop path clock next bit) declared drives derived inside) = absurd derived
    all_bits p b h (by_reads (bit_of path e bit) declared drives derived inside) =
        by_reads (bit_of path e b) h (bit_driven text p (bit_of path e bit) b drives) tt inside
    all_bits p b h (by_reads (hold path gate e bit) declared drives derived inside) =
        by_reads (hold path gate e b) h (bit_driven text p (hold path gate e bit) b drives) tt inside
    all_bits p b h (by_reads (copy other) declared drives derived inside) =
        let there : Within text flops (point other.path other.name b) =
        all_bits other b (copied_declared p other b drives h) (inside other (same_point_refl other)) in
        by_reads (copy (point other.path other.name b)) h (bit_driven text p (copy other) b drives) tt
        (λ q r. subst (Within text flops) (same_point_is (point other.path other.name b) q r) there)
