-- Each declared point of a sound text has a driver.
use Rattle.std.proofs.Common.{◌≡◌, ◌⊎◌, ℕ, zero, suc, ◌+◌, ◌<◌, ◌≤◌, Bool, true, false, List, [], ◌∷◌, ◌++◌, length, get_or, Option, Some, None, if◌then◌else◌, All, Contains, refl, sym, ap, ◌∙◌, subst, inl, inr, arith}
use Rattle.std.specs.Prelude.{nat_lt}
use Rattle.std.specs.Str.{bytes_eq}
use Rattle.std.proofs.lemmas.Bool.{cases_Bool, cases_lt, ltb-true}
use Rattle.std.proofs.lemmas.List.Elements.{All-contains}
use Rattle.fab_syntax.specs.declared.tree.Shape.{Shape}
use Rattle.fab_syntax.specs.declared.tree.Port.{Port}
use Rattle.fab_syntax.specs.Plain.{PlainExpr, PlainJoin, PlainItem, PlainModule, variable, wire, reg, assign, latch, clocked, instance}
use Rattle.fab_syntax.specs.Declarations.{module_named, width, width_in, width_if_any, declared_shape, is_input, is_input_of, one_if_same, one_if_variable, times_joined_out, times_driven_by, times_driven, times_joined}
use Rattle.fab_syntax.specs.Sound.{port_named, FitsPort, JoinFits, IsJoinedOnce, InstanceFits, PortIsDriven, ItemIsDriven, IsSound}
use Rattle.fab_syntax.proofs.SoundNames.{one_same}
use Rattle.fab_meaning.specs.Points.{Path, Point, point, Driver, outside, copy, bit_of, flop, hold, Found, instance_named, instance_in, module_of, module_at, JoinDrives, ItemDrives, IsDrivenByItem, Drives}
use Rattle.fab_meaning.specs.Reads.{is_declared}
use Rattle.fab_meaning.specs.Sound.{HasOneDriver}
use Rattle.fab_meaning.proofs.Modules.{module_at_holds}
use Rattle.fab_meaning.proofs.SingleDrivers.{one_driver}
use Rattle.fab_meaning.proofs.SoundTexts.{some_value, contains_later, contains_first, same_names, name_driven, port_holds, instances_fit, sound_drives_once}

-- ---- from a count to what drives

-- an output join drives a name that is counted
abbrev OutputJoin : Option PlainModule → List PlainJoin → (name : List ℕ) → Type 0
OutputJoin of joins name = (join : PlainJoin) × Contains joins join × (is_input_of of join.port ≡ false) × (join.to ≡ Some (variable name))

counted_join : (input : Bool) (to : Option PlainExpr) (name : List ℕ) → 1 ≤ (if input then 0 else one_if_variable to name) → (input ≡ false) × (to ≡ Some (variable name))
counted_join true to name h = absurd (omega arith)
counted_join false None name h = absurd (omega arith)
counted_join false (Some (variable other)) name h = (refl, ap (λ n. Some (variable n)) (same_names other name (one_same name other h)))
counted_join false (Some _) name h = absurd (omega arith)

output_join : (of : Option PlainModule) (joins : List PlainJoin) (name : List ℕ) → 1 ≤ times_joined_out of joins name → OutputJoin of joins name
output_join of [] name h = absurd (omega arith)
output_join of (join ∷ joins) name h =
    elim (cases_lt 0 (if is_input_of of join.port then 0 else one_if_variable join.to name)) [
      | inl y ↦ (let found = counted_join (is_input_of of join.port) join.to name (omega arith) in
          (join, contains_first join join joins refl, found.0, found.1))
      | inr n ↦ (let found = output_join of joins name (omega arith) in (found.0, contains_later join found.0 joins found.1, found.2, found.3))
    ]

-- what drives a bit of a name, by an item
abbrev DrivenBy : List PlainModule → Path → (name : List ℕ) → (bit : ℕ) → PlainItem → Type 0
DrivenBy text path name bit item = (d : Driver) × ItemDrives text path item (point path name bit) d

module _ (text : List PlainModule) (path : Path) (name : List ℕ) (bit : ℕ) where
  same_target : (target : List ℕ) → 1 ≤ one_if_same target name → point path name bit ≡ point path target bit
  same_target target h = ap (λ n. point path n bit) (sym (same_names target name (one_same name target h)))

  join_drives : (i : List ℕ) (input : Bool) (port : List ℕ) (to : Option PlainExpr) → input ≡ false → to ≡ Some (variable name) →
      JoinDrives path i input port to (point path name bit) (copy (point (i ∷ path) port bit))
  join_drives i input port to leaves is =
      let plain : JoinDrives path i false port (Some (variable name)) (point path name bit) (copy (point (i ∷ path) port bit)) = (name, refl, refl, refl) in
      let one : JoinDrives path i false port to (point path name bit) (copy (point (i ∷ path) port bit)) =
      subst (λ (o : Option PlainExpr). JoinDrives path i false port o (point path name bit) (copy (point (i ∷ path) port bit))) (sym is) plain in
      subst (λ (b : Bool). JoinDrives path i b port to (point path name bit) (copy (point (i ∷ path) port bit))) (sym leaves) one

  item_drives : (item : PlainItem) → 1 ≤ times_driven_by text item name → DrivenBy text path name bit item
  item_drives (wire shape other) h = absurd (omega arith)
  item_drives (reg shape other) h = absurd (omega arith)
  item_drives (assign target e) h = (bit_of path e bit, (same_target target h, refl))
  item_drives (latch target gate e) h = (hold path gate e bit, (same_target target h, refl))
  item_drives (clocked clock target e) h = (flop path clock e bit, (same_target target h, refl))
  item_drives (instance of i joins) h =
      let found = output_join (module_named text of) joins name h in
      (copy (point (i ∷ path) found.0.port bit), (found.0, found.1, join_drives i (is_input_of (module_named text of) found.0.port) found.0.port found.0.to found.2 found.3))

  some_item_drives : (items : List PlainItem) → 1 ≤ times_driven text items name → (item : PlainItem) × Contains items item × DrivenBy text path name bit item
  some_item_drives [] h = absurd (omega arith)
  some_item_drives (item ∷ items) h =
      elim (cases_lt 0 (times_driven_by text item name)) [
        | inl y ↦ (item, contains_first item item items refl, item_drives item (omega arith))
        | inr n ↦ (let found = some_item_drives items (omega arith) in (found.0, contains_later item found.0 items found.1, found.2))
      ]

  -- a name that is driven in the module at the path
  pub driven_inside : (m : PlainModule) → module_at text path ≡ Some m → times_driven text m.items name ≡ 1 → (d : Driver) × Drives text (point path name bit) d
  driven_inside m stands once =
      let found = some_item_drives m.items (omega arith) in
      (found.2.0, inr (record { path = path; module_here = m; item = found.0; stands = stands; holds = found.1; drives = found.2.1 }))

-- ---- an input below the top

named_instance : (items : List PlainItem) (i : List ℕ) (found : Found) → instance_named items i ≡ Some found → Contains items (instance found.module_name i found.joins)
named_instance [] i found e = cc
named_instance (wire shape other ∷ items) i found e = contains_later _ _ items (named_instance items i found e)
named_instance (reg shape other ∷ items) i found e = contains_later _ _ items (named_instance items i found e)
named_instance (assign target x ∷ items) i found e = contains_later _ _ items (named_instance items i found e)
named_instance (latch target gate x ∷ items) i found e = contains_later _ _ items (named_instance items i found e)
named_instance (clocked clock target x ∷ items) i found e = contains_later _ _ items (named_instance items i found e)
named_instance (instance of other joins ∷ items) i found e =
    elim (cases_Bool (bytes_eq other i)) [
      | inl y ↦ (let here : instance_named (instance of other joins ∷ items) i ≡ Some (record { module_name = of; joins = joins }) = rw y refl in
          let same : ◌≡◌ {A = Option Found} (Some (record { module_name = of; joins = joins })) (Some found) = sym here ∙ e in
          let is : ◌≡◌ {A = Found} (record { module_name = of; joins = joins }) found = cc in
          contains_first _ _ items (ap (λ n. instance of n joins) (same_names other i y) ∙ ap (λ (f : Found). instance f.module_name i f.joins) is))
      | inr n ↦ contains_later _ _ items (named_instance items i found (rw n at e))
    ]

input_port : (ports : List Port) (name : List ℕ) → is_input ports name ≡ true → (port : Port) × (port_named ports name ≡ Some port) × (port.input ≡ true)
input_port [] name input = cc
input_port (port ∷ ports) name input =
    elim (cases_Bool (bytes_eq port.name name)) [
      | inl y ↦ (port, rw y refl, rw y at input)
      | inr n ↦ (let found = input_port ports name (rw n at input) in (found.0, rw n found.1, found.2))
    ]

join_there : (joins : List PlainJoin) (name : List ℕ) → 1 ≤ times_joined joins name → (join : PlainJoin) × Contains joins join × (join.port ≡ name)
join_there [] name h = absurd (omega arith)
join_there (join ∷ joins) name h =
    elim (cases_Bool (bytes_eq join.port name)) [
      | inl y ↦ (join, contains_first join join joins refl, same_names join.port name y)
      | inr n ↦ (let later : 1 ≤ 0 + times_joined joins name = rw n at h in
          let found = join_there joins name (omega arith) in (found.0, contains_later join found.0 joins found.1, found.2))
    ]

joined_value : (m : PlainModule) (wide : ℕ) (to : Option PlainExpr) → FitsPort m true wide to → (e : PlainExpr) × (to ≡ Some e)
joined_value m wide None h = absurd h
joined_value m wide (Some e) h = (e, refl)

-- the expression that is joined to an input of a fitting instance
abbrev JoinedInput : (joins : List PlainJoin) (name : List ℕ) → Type 0
JoinedInput joins name = (join : PlainJoin) × Contains joins join × (join.port ≡ name) × ((e : PlainExpr) × (join.to ≡ Some e))

joined_input : (above below : PlainModule) (joins : List PlainJoin) (name : List ℕ) → All (JoinFits above below) joins → All (IsJoinedOnce joins) below.ports →
    is_input below.ports name ≡ true → JoinedInput joins name
joined_input above below joins name fit once input =
    let port = input_port below.ports name input in
    let holds = port_holds (IsJoinedOnce joins) below.ports name port.0 once port.1 in
    let joined : times_joined joins name ≡ 1 = subst (λ (n : List ℕ). times_joined joins n ≡ 1) holds.1 (holds.0.1 port.2) in
    let join = join_there joins name (omega arith) in
    let fits : JoinFits above below join.0 = All-contains (JoinFits above below) joins join.0 fit join.1 in
    let found = some_value (port_named below.ports join.0.port) (λ (p : Port). FitsPort above p.input (width p.shape) join.0.to) fits in
    let ports : Some found.0 ≡ Some port.0 = sym found.1 ∙ ap (port_named below.ports) join.2 ∙ port.1 in
    let same : found.0 ≡ port.0 = cc in
    let enters : found.0.input ≡ true = ap (λ (p : Port). p.input) same ∙ port.2 in
    let takes : FitsPort above true (width found.0.shape) join.0.to = subst (λ (b : Bool). FitsPort above b (width found.0.shape) join.0.to) enters found.2 in
    (join.0, join.1, join.2, joined_value above (width found.0.shape) join.0.to takes)

-- what is joined from above drives an input
module _ (text : List PlainModule) (i : List ℕ) (up : Path) (name : List ℕ) (bit : ℕ) where
  value_drives : (input : Bool) (port : List ℕ) (to : Option PlainExpr) (e : PlainExpr) → input ≡ true → to ≡ Some e → port ≡ name →
      JoinDrives up i input port to (point (i ∷ up) name bit) (bit_of up e bit)
  value_drives input port to e enters is same =
      let plain : JoinDrives up i true port (Some e) (point (i ∷ up) name bit) (bit_of up e bit) = (ap (λ n. point (i ∷ up) n bit) (sym same), refl) in
      let one : JoinDrives up i true port to (point (i ∷ up) name bit) (bit_of up e bit) =
      subst (λ (o : Option PlainExpr). JoinDrives up i true port o (point (i ∷ up) name bit) (bit_of up e bit)) (sym is) plain in
      subst (λ (b : Bool). JoinDrives up i b port to (point (i ∷ up) name bit) (bit_of up e bit)) (sym enters) one

  driven_by_join : (above : PlainModule) (found : Found) → module_at text up ≡ Some above → Contains above.items (instance found.module_name i found.joins) →
      (below : PlainModule) → module_named text found.module_name ≡ Some below → is_input below.ports name ≡ true → JoinedInput found.joins name →
      (d : Driver) × Drives text (point (i ∷ up) name bit) d
  driven_by_join above found stands there below is input joined =
      let enters : is_input_of (module_named text found.module_name) joined.0.port ≡ true =
      ap (λ m. is_input_of m joined.0.port) is ∙ ap (is_input below.ports) joined.2 ∙ input in (
        bit_of up joined.3.0 bit,
        inr (record {
          path = up;
          module_here = above;
          item = instance found.module_name i found.joins;
          stands = stands;
          holds = there;
          drives = (joined.0, joined.1, value_drives (is_input_of (module_named text found.module_name) joined.0.port) joined.0.port joined.0.to joined.3.0 enters joined.3.1 joined.2);
        }),
      )

  fits_below : (above : PlainModule) (found : Found) → InstanceFits text above (instance found.module_name i found.joins) →
      (below : PlainModule) → module_named text found.module_name ≡ Some below → is_input below.ports name ≡ true → JoinedInput found.joins name
  fits_below above found fits below is input =
      let Fits : PlainModule → Type 0 = λ m. All (JoinFits above m) found.joins × All (IsJoinedOnce found.joins) m.ports in
      let got = some_value (module_named text found.module_name) Fits fits in
      let both : Some got.0 ≡ Some below = sym got.1 ∙ is in
      let same : got.0 ≡ below = cc in
      let here : Fits below = subst Fits same got.2 in
      joined_input above below found.joins name here.0 here.1 input

  -- the module at a path is that of an instance in the module above
  driven_above : (sound : IsSound text) (m : PlainModule) → (above : Option PlainModule) → module_at text up ≡ above → (found : Option Found) → instance_in above i ≡ found →
      module_of text found ≡ Some m → is_input m.ports name ≡ true → (d : Driver) × Drives text (point (i ∷ up) name bit) d
  driven_above sound m None stands found named is input = let none : None ≡ found = named in absurd (nothing found named is)
    where
      nothing : (found : Option Found) → None ≡ found → module_of text found ≡ Some m → ⊥
      nothing None e is = cc
      nothing (Some f) e is = cc
  driven_above sound m (Some above) stands None named is input = cc
  driven_above sound m (Some above) stands (Some found) named is input =
      let there : Contains above.items (instance found.module_name i found.joins) = named_instance above.items i found named in
      let fits : InstanceFits text above (instance found.module_name i found.joins) =
      All-contains (InstanceFits text above) above.items (instance found.module_name i found.joins)
      (module_at_holds (λ n. All (InstanceFits text n) n.items) text up above (instances_fit text sound.instances) stands) there in
      driven_by_join above found stands there m is input (fits_below above found fits m is input)

-- ---- each declared point

shape_there : (o : Option Shape) (bit : ℕ) → nat_lt bit (width_if_any o) ≡ true → (shape : Shape) × (o ≡ Some shape)
shape_there (Some shape) bit h = (shape, refl)
shape_there None bit h = absurd (omega (arith, ltb-true bit 0 h))

module _ (text : List PlainModule) (sound : IsSound text) where
  driven_at : (path : Path) (name : List ℕ) (bit : ℕ) (m : PlainModule) → module_at text path ≡ Some m →
      (shape : Shape) → declared_shape m.ports m.items name ≡ Some shape → (input : Bool) → is_input m.ports name ≡ input →
      (d : Driver) × Drives text (point path name bit) d
  driven_at path name bit m stands shape declared false input =
      let drivers : All (PortIsDriven text m) m.ports × All (ItemIsDriven text m) m.items =
      module_at_holds (λ n. All (PortIsDriven text n) n.ports × All (ItemIsDriven text n) n.items) text path m sound.drivers stands in
      driven_inside text path name bit m stands (name_driven text m name m.ports drivers.0 drivers.1 shape declared input)
  driven_at [] name bit m stands shape declared true input = (outside, inl (record { top = refl; input = ap (λ o. is_input_of o name) stands ∙ input; is = refl }))
  driven_at (i ∷ up) name bit m stands shape declared true input =
      driven_above text i up name bit sound m (module_at text up) refl (instance_in (module_at text up) i) refl stands input

  declared_driven : (p : Point) (here : Option PlainModule) → module_at text p.path ≡ here → nat_lt p.bit (width_in here p.name) ≡ true → (d : Driver) × Drives text p d
  declared_driven p None stands h = absurd (omega (arith, ltb-true p.bit 0 h))
  declared_driven p (Some m) stands h =
      let shape = shape_there (declared_shape m.ports m.items p.name) p.bit h in
      driven_at p.path p.name p.bit m stands shape.0 shape.1 (is_input m.ports p.name) refl

  pub has_one_driver : (p : Point) → is_declared text p ≡ true → HasOneDriver text p
  has_one_driver p h =
      let found = declared_driven p (module_at text p.path) refl h in
      (found.0, found.1, λ e by. one_driver text (sound_drives_once text sound) p e found.0 by found.1)
