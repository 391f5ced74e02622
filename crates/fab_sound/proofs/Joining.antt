-- What is joined to the ports of instances, against the rule on instances.
use Rattle.std.proofs.Common.{◌≡◌, ℕ, ◌+◌, ◌<◌, ◌≤◌, List, [], ◌∷◌, ◌++◌, map, length, drop, take, get_or, Option, Some, None, Bool, true, false, ◌&&◌, if◌then◌else◌, refl, sym, ap, ◌∙◌, inl, inr, arith}
use Rattle.std.proofs.Math.Path.{fun_ext}
use Rattle.std.specs.Prelude.{All, nat_eq, nat_le, IsSomeAnd}
use Rattle.std.specs.Bool.{Decides}
use Rattle.std.specs.List.{list_all}
use Rattle.std.specs.Str.{bytes_eq}
use Rattle.std.proofs.lemmas.Bool.{cases_Bool, leb-true, le-leb}
use Rattle.std.proofs.lemmas.Bool.Decides.{Decides-eqb, Decides-like, Decides-and, Decides-by_and}
use Rattle.std.proofs.lemmas.List.{take_more, drop_all, get_or-map, length-map}
use Rattle.fab_syntax.specs.declared.tree.Shape.{Shape}
use Rattle.fab_syntax.specs.declared.tree.Port.{Port}
use Rattle.fab_syntax.specs.declared.tree.Join.{Join}
use Rattle.fab_syntax.specs.Plain.{PlainExpr, PlainJoin, PlainItem, PlainModule, constant, variable, pick, part, concatenation, complement, operation, conditional, wire, reg, assign, latch, clocked, instance, plain_join}
use Rattle.fab_syntax.specs.Declarations.{module_named, width, width_if_any, item_shape, one_if_same, times_joined}
use Rattle.fab_syntax.specs.Sound.{width_of_name, FitsPort, port_named, JoinFits, IsJoinedOnce, InstanceFits, InstancesFitBehind}
use Rattle.fab_sound.specs.declared.tables.Declared.{Declared}
use Rattle.fab_sound.specs.declared.tables.Declared.TheVariants.{Input, Output, Inner, Instance}
use Rattle.fab_sound.specs.declared.tables.Known.{Known}
use Rattle.fab_sound.specs.inner.Checks.{known_module, found, found_width, net_declared, inner_net, net_of, port_declares, HasNets}
use Rattle.fab_sound.specs.inner.Rules.{fits_port, fits_declared, join_passes, is_joined_once, joins_pass, instance_passes, instances_pass}
use Rattle.fab_sound.proofs.Noting.{Names, drop_item}
use Rattle.fab_sound.proofs.Nets.{found_shape}

-- ---- maps and modules

declared_alike : (names : List ℕ → ℕ) (o : Option Declared) (to : Option PlainExpr) → fits_declared names o to ≡ fits_declared names (net_declared o) to
declared_alike names None to = refl
declared_alike names (Some (Input shape)) to = refl
declared_alike names (Some (Output shape)) to = refl
declared_alike names (Some (Inner shape)) to = refl
declared_alike names (Some Instance) to = refl

pub found_widths : (S : Type 0) (names : Names S) (m : PlainModule) → HasNets names m → found_width names ≡ width_of_name m
found_widths S names m nets = fun_ext (λ name. ap width_if_any (found_shape S names m nets name))

pub found_join : (S R : Type 0) (names : Names S) (others : Names R) (m below : PlainModule) (join : PlainJoin) → HasNets names m → HasNets others below →
    fits_declared (found_width names) (found others join.port) join.to ≡ join_passes m below join
found_join S R names others m below join nets nets_below =
    declared_alike (found_width names) (found others join.port) join.to
    ∙ ap (λ o. fits_declared (found_width names) o join.to) (nets_below join.port)
    ∙ ap (λ widths. fits_declared widths (net_of below.ports below.items join.port) join.to) (found_widths S names m nets)

-- ---- joins

module _ (m : PlainModule) where
  fits_decides : (input : Bool) (wide : ℕ) (to : Option PlainExpr) → Decides (fits_port (width_of_name m) input wide to) (FitsPort m input wide to)
  fits_decides true wide None = (λ e. cc, λ h. absurd h)
  fits_decides true wide (Some e) = Decides-eqb _ wide
  fits_decides false wide None = (λ _. tt, λ _. refl)
  fits_decides false wide (Some (variable name)) = Decides-eqb (width_of_name m name) wide
  fits_decides false wide (Some (constant bits)) = (λ e. cc, λ h. absurd h)
  fits_decides false wide (Some (pick name index)) = (λ e. cc, λ h. absurd h)
  fits_decides false wide (Some (part name high low)) = (λ e. cc, λ h. absurd h)
  fits_decides false wide (Some (concatenation es)) = (λ e. cc, λ h. absurd h)
  fits_decides false wide (Some (complement e)) = (λ e. cc, λ h. absurd h)
  fits_decides false wide (Some (operation op a b)) = (λ e. cc, λ h. absurd h)
  fits_decides false wide (Some (conditional c a b)) = (λ e. cc, λ h. absurd h)

  inner_decides : (o : Option Shape) (to : Option PlainExpr) → Decides (fits_declared (width_of_name m) (inner_net o) to) ⊥
  inner_decides None to = (λ e. cc, λ h. absurd h)
  inner_decides (Some shape) to = (λ e. cc, λ h. absurd h)

  port_decides : (input : Bool) (port : Port) (to : Option PlainExpr) → port.input ≡ input →
      Decides (fits_declared (width_of_name m) (Some (port_declares port)) to) (FitsPort m port.input (width port.shape) to)
  port_decides true port to e = rw e (fits_decides true (width port.shape) to)
  port_decides false port to e = rw e (fits_decides false (width port.shape) to)

  ports_decide : (ports : List Port) (items : List PlainItem) (name : List ℕ) (to : Option PlainExpr) →
      Decides (fits_declared (width_of_name m) (net_of ports items name) to) (IsSomeAnd (port_named ports name) (λ port. FitsPort m port.input (width port.shape) to))
  ports_decide [] items name to = inner_decides (item_shape items name) to
  ports_decide (port ∷ ports) items name to =
      elim (cases_Bool (bytes_eq port.name name)) [
        | inl y ↦ rw y (port_decides port.input port to refl)
        | inr n ↦ rw n (ports_decide ports items name to)
      ]

  once_decides : (input : Bool) (count : ℕ) → Decides (if input then nat_eq count 1 else nat_le count 1) ((count ≤ 1) × (input ≡ true → count ≡ 1))
  once_decides true count = Decides-like (nat_eq count 1) (λ (h : count ≡ 1). (omega arith, λ _. h)) (λ h. h.1 refl) (Decides-eqb count 1)
  once_decides false count = (λ h. (leb-true count 1 h, λ e. cc), λ h. le-leb count 1 h.0)

  joins_decide : (below : PlainModule) (joins : List PlainJoin) → Decides (joins_pass m (Some below) joins) (All (JoinFits m below) joins × All (IsJoinedOnce joins) below.ports)
  joins_decide below joins =
      Decides-and (list_all (join_passes m below) joins) (list_all (is_joined_once (times_joined joins)) below.ports)
      (Decides-by_and (join_passes m below) (JoinFits m below) (list_all (join_passes m below)) (λ join. ports_decide below.ports below.items join.port join.to) refl (λ _ _. refl) joins)
      (Decides-by_and (is_joined_once (times_joined joins)) (IsJoinedOnce joins) (list_all (is_joined_once (times_joined joins))) (λ port. once_decides port.input (times_joined joins port.name))
      refl (λ _ _. refl) below.ports)

  below_decides : (below : Option PlainModule) (joins : List PlainJoin) →
      Decides (joins_pass m below joins) (IsSomeAnd below (λ b. All (JoinFits m b) joins × All (IsJoinedOnce joins) b.ports))
  below_decides None joins = (λ e. cc, λ h. absurd h)
  below_decides (Some below) joins = joins_decide below joins

  item_decides : (before : List PlainModule) (item : PlainItem) → Decides (instance_passes before m item) (InstanceFits before m item)
  item_decides before (wire shape name) = (λ _. tt, λ _. refl)
  item_decides before (reg shape name) = (λ _. tt, λ _. refl)
  item_decides before (assign target e) = (λ _. tt, λ _. refl)
  item_decides before (latch target gate e) = (λ _. tt, λ _. refl)
  item_decides before (clocked clock target e) = (λ _. tt, λ _. refl)
  item_decides before (instance module_name i joins) = below_decides (module_named before module_name) joins

pub instances_decide : (before rest : List PlainModule) → Decides (instances_pass before rest) (InstancesFitBehind before rest)
instances_decide before [] = (λ _. tt, λ _. refl)
instances_decide before (m ∷ rest) =
    Decides-and (list_all (instance_passes before m) m.items) (instances_pass (before ++ m ∷ []) rest)
    (Decides-by_and (instance_passes before m) (InstanceFits before m) (list_all (instance_passes before m)) (item_decides m before) refl (λ _ _. refl) m.items)
    (instances_decide (before ++ m ∷ []) rest)

-- ---- steps of the loops

pub join_counts : (joins : List Join) (k : ℕ) (join : Join) → k < length joins → join ≡ get_or joins k join → (name : List ℕ) →
    times_joined (map plain_join (drop k joins)) name ≡ one_if_same join.port name + times_joined (map plain_join (drop (k + 1) joins)) name
join_counts joins k join inside is name = ap (λ js. times_joined (map plain_join js) name) (drop_item joins k join inside is)

module _ (knowns : List Known) (k : ℕ) where
  pub instances_step : (known : Known) → k < length knowns → known ≡ get_or knowns k known →
      instances_pass (take k (map known_module knowns)) (drop k (map known_module knowns))
      ≡ (list_all (instance_passes (take k (map known_module knowns)) (known_module known)) (known_module known).items
      && instances_pass (take (k + 1) (map known_module knowns)) (drop (k + 1) (map known_module knowns)))
  instances_step known inside is =
      let text = map known_module knowns in
      let m = known_module known in
      let long : length text ≡ length knowns = simp length-map in
      let within : k < length text = omega arith in
      let here : get_or text k m ≡ m = get_or-map known_module knowns k known m inside ∙ ap known_module (sym is) in
      let front : take (k + 1) text ≡ take k text ++ m ∷ [] = take_more text k m within ∙ ap (λ (x : PlainModule). take k text ++ x ∷ []) here in
      ap (instances_pass (take k text)) (drop_item text k m within (sym here))
      ∙ ap (λ (before : List PlainModule). list_all (instance_passes (take k text) m) m.items && instances_pass before (drop (k + 1) text)) (sym front)

  pub instances_end : length knowns ≤ k → instances_pass (take k (map known_module knowns)) (drop k (map known_module knowns)) ≡ true
  instances_end past =
      let long : length (map known_module knowns) ≡ length knowns = simp length-map in
      ap (instances_pass (take k (map known_module knowns))) (drop_all k (map known_module knowns) (omega arith))
