-- How often names are driven, counted join by join and item by item, against the rule on drivers.
use Rattle.std.proofs.Common.{◌≡◌, ℕ, ◌+◌, ◌<◌, List, [], ◌∷◌, map, length, drop, get_or, Option, Some, None, Bool, true, false, ◌&&◌, if◌then◌else◌, refl, ap, ◌∙◌, arith}
use Rattle.std.specs.Prelude.{All, nat_eq}
use Rattle.std.specs.Bool.{Decides}
use Rattle.std.specs.List.{list_all}
use Rattle.std.proofs.lemmas.Bool.Decides.{Decides-eqb, Decides-and, Decides-by_and}
use Rattle.fab_syntax.specs.declared.tree.Port.{Port}
use Rattle.fab_syntax.specs.declared.tree.Item.{Item}
use Rattle.fab_syntax.specs.declared.tree.Join.{Join}
use Rattle.fab_syntax.specs.Plain.{PlainExpr, PlainItem, PlainModule, constant, variable, pick, part, concatenation, complement, operation, conditional, wire, reg, assign, latch, clocked, instance, plain_item, plain_join}
use Rattle.fab_syntax.specs.Declarations.{one_if_same, one_if_variable, is_input_of, times_joined_out, times_driven, times_driven_by, times_held}
use Rattle.fab_syntax.specs.Sound.{DirectionFits, PortIsDriven, ItemIsDriven, DriversFit}
use Rattle.fab_sound.specs.inner.Rules.{variable_name, join_drives, is_driven_once, port_is_driven, item_is_driven, module_is_driven}
use Rattle.fab_sound.proofs.Noting.{drop_item}

-- a test of all, where it fails at one
pub fails_at : {X Y : Type 0} (p : Y → Bool) (f : X → Y) (xs : List X) (k : ℕ) (x : X) → k < length xs → x ≡ get_or xs k x → p (f x) ≡ false →
    list_all p (map f (drop k xs)) ≡ false
fails_at p f xs k x inside is fails =
    ap (λ ys. list_all p (map f ys)) (drop_item xs k x inside is) ∙ ap (λ b. b && list_all p (map f (drop (k + 1) xs))) fails

-- where it passes at one
pub passes_at : {X Y : Type 0} (p : Y → Bool) (f : X → Y) (xs : List X) (k : ℕ) (x : X) → k < length xs → x ≡ get_or xs k x → p (f x) ≡ true →
    list_all p (map f (drop k xs)) ≡ list_all p (map f (drop (k + 1) xs))
passes_at p f xs k x inside is passes =
    ap (λ ys. list_all p (map f ys)) (drop_item xs k x inside is) ∙ ap (λ b. b && list_all p (map f (drop (k + 1) xs))) passes

-- ---- joins

times_name : Option (List ℕ) → (name : List ℕ) → ℕ
times_name None name = 0
times_name (Some other) name = one_if_same other name

counted_as : (b : Bool) (to : Option PlainExpr) (name : List ℕ) → (if b then 0 else one_if_variable to name) ≡ times_name (if b then None else variable_name to) name
unfolding times_name
counted_as true to name = refl
counted_as false None name = refl
counted_as false (Some (constant bits)) name = refl
counted_as false (Some (variable other)) name = refl
counted_as false (Some (pick other index)) name = refl
counted_as false (Some (part other high low)) name = refl
counted_as false (Some (concatenation es)) name = refl
counted_as false (Some (complement e)) name = refl
counted_as false (Some (operation op a b)) name = refl
counted_as false (Some (conditional c a b)) name = refl

module _ (below : Option PlainModule) (joins : List Join) (k : ℕ) (join : Join) (inside : k < length joins) (is : join ≡ get_or joins k join) (name : List ℕ) where
  onward : times_joined_out below (map plain_join (drop k joins)) name
      ≡ times_name (join_drives below (plain_join join)) name + times_joined_out below (map plain_join (drop (k + 1) joins)) name
  onward =
      ap (λ js. times_joined_out below (map plain_join js) name) (drop_item joins k join inside is)
      ∙ ap (λ n. n + times_joined_out below (map plain_join (drop (k + 1) joins)) name) (counted_as (is_input_of below join.port) (plain_join join).to name)

  pub join_drives_one : (other : List ℕ) → join_drives below (plain_join join) ≡ Some other →
      times_joined_out below (map plain_join (drop k joins)) name ≡ one_if_same other name + times_joined_out below (map plain_join (drop (k + 1) joins)) name
  unfolding times_name
  join_drives_one other e = onward ∙ ap (λ o. times_name o name + times_joined_out below (map plain_join (drop (k + 1) joins)) name) e

  pub join_drives_none : join_drives below (plain_join join) ≡ None →
      times_joined_out below (map plain_join (drop k joins)) name ≡ 0 + times_joined_out below (map plain_join (drop (k + 1) joins)) name
  unfolding times_name
  join_drives_none e = onward ∙ ap (λ o. times_name o name + times_joined_out below (map plain_join (drop (k + 1) joins)) name) e

-- ---- items

held_apart : (item : PlainItem) (items : List PlainItem) (name : List ℕ) → times_held (item ∷ items) name ≡ times_held (item ∷ []) name + times_held items name
held_apart (wire shape other) items name = omega arith
held_apart (reg shape other) items name = omega arith
held_apart (assign target e) items name = omega arith
held_apart (latch target gate e) items name = omega arith
held_apart (clocked clock target e) items name = omega arith
held_apart (instance module_name i joins) items name = omega arith

module _ (text : List PlainModule) (items : List Item) (k : ℕ) (item : Item) (inside : k < length items) (is : item ≡ get_or items k item) (name : List ℕ) where
  pub item_drives : times_driven text (map plain_item (drop k items)) name
      ≡ times_driven_by text (plain_item item) name + times_driven text (map plain_item (drop (k + 1) items)) name
  item_drives = ap (λ xs. times_driven text (map plain_item xs) name) (drop_item items k item inside is)

  pub item_holds : times_held (map plain_item (drop k items)) name ≡ times_held (plain_item item ∷ []) name + times_held (map plain_item (drop (k + 1) items)) name
  item_holds = ap (λ xs. times_held (map plain_item xs) name) (drop_item items k item inside is) ∙ held_apart (plain_item item) (map plain_item (drop (k + 1) items)) name

-- ---- tests on counts

module _ (driven held counts holds : List ℕ → ℕ) (same : (name : List ℕ) → driven name ≡ counts name) (alike : (name : List ℕ) → held name ≡ holds name) where
  once_same : (name : List ℕ) (n : ℕ) → is_driven_once driven held name n ≡ is_driven_once counts holds name n
  once_same name n = ap (λ d. nat_eq d 1 && nat_eq (held name) n) (same name) ∙ ap (λ h. nat_eq (counts name) 1 && nat_eq h n) (alike name)

  port_same : (port : Port) → port_is_driven driven held port ≡ port_is_driven counts holds port
  port_same port =
      ap (λ d. if port.input then nat_eq d 0 else is_driven_once driven held port.name 0) (same port.name)
      ∙ ap (λ b. if port.input then nat_eq (counts port.name) 0 else b) (once_same port.name 0)

  item_same : (item : PlainItem) → item_is_driven driven held item ≡ item_is_driven counts holds item
  item_same (wire shape name) = once_same name 0
  item_same (reg shape name) = once_same name 1
  item_same (assign target e) = refl
  item_same (latch target gate e) = refl
  item_same (clocked clock target e) = refl
  item_same (instance module_name i joins) = refl

  pub ports_same : (ports : List Port) → list_all (port_is_driven driven held) ports ≡ list_all (port_is_driven counts holds) ports
  ports_same [] = refl
  ports_same (port ∷ ports) =
      ap (λ b. b && list_all (port_is_driven driven held) ports) (port_same port) ∙ ap (λ b. port_is_driven counts holds port && b) (ports_same ports)

  pub items_same : (items : List PlainItem) → list_all (item_is_driven driven held) items ≡ list_all (item_is_driven counts holds) items
  items_same [] = refl
  items_same (item ∷ items) =
      ap (λ b. b && list_all (item_is_driven driven held) items) (item_same item) ∙ ap (λ b. item_is_driven counts holds item && b) (items_same items)

-- ---- the rule

module _ (text : List PlainModule) (m : PlainModule) where
  once_decides : (name : List ℕ) (n : ℕ) →
      Decides (is_driven_once (times_driven text m.items) (times_held m.items) name n) ((times_driven text m.items name ≡ 1) × (times_held m.items name ≡ n))
  once_decides name n =
      Decides-and (nat_eq (times_driven text m.items name) 1) (nat_eq (times_held m.items name) n) (Decides-eqb (times_driven text m.items name) 1)
      (Decides-eqb (times_held m.items name) n)

  direction_decides : (input : Bool) (name : List ℕ) →
      Decides (if input then nat_eq (times_driven text m.items name) 0 else is_driven_once (times_driven text m.items) (times_held m.items) name 0) (DirectionFits text m input name)
  direction_decides true name = Decides-eqb (times_driven text m.items name) 0
  direction_decides false name = once_decides name 0

  item_decides : (item : PlainItem) → Decides (item_is_driven (times_driven text m.items) (times_held m.items) item) (ItemIsDriven text m item)
  item_decides (wire shape name) = once_decides name 0
  item_decides (reg shape name) = once_decides name 1
  item_decides (assign target e) = (λ _. tt, λ _. refl)
  item_decides (latch target gate e) = (λ _. tt, λ _. refl)
  item_decides (clocked clock target e) = (λ _. tt, λ _. refl)
  item_decides (instance module_name i joins) = (λ _. tt, λ _. refl)

  module_decides : Decides (module_is_driven text m) (All (PortIsDriven text m) m.ports × All (ItemIsDriven text m) m.items)
  module_decides =
      Decides-and (list_all (port_is_driven (times_driven text m.items) (times_held m.items)) m.ports) (list_all (item_is_driven (times_driven text m.items) (times_held m.items)) m.items)
      (Decides-by_and (port_is_driven (times_driven text m.items) (times_held m.items)) (PortIsDriven text m)
      (list_all (port_is_driven (times_driven text m.items) (times_held m.items))) (λ port. direction_decides port.input port.name) refl (λ _ _. refl) m.ports)
      (Decides-by_and (item_is_driven (times_driven text m.items) (times_held m.items)) (ItemIsDriven text m)
      (list_all (item_is_driven (times_driven text m.items) (times_held m.items))) item_decides refl (λ _ _. refl) m.items)

pub drivers_decide : (text : List PlainModule) → Decides (list_all (module_is_driven text) text) (DriversFit text)
drivers_decide text =
    Decides-by_and (module_is_driven text) (λ m. All (PortIsDriven text m) m.ports × All (ItemIsDriven text m) m.items) (list_all (module_is_driven text))
    (module_decides text) refl (λ _ _. refl) text
