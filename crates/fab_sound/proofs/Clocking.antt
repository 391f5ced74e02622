-- What serves as a clock, against what the maps of names count.
use Rattle.std.proofs.Common.{◌≡◌, ℕ, suc, ◌+◌, ◌<◌, ◌≤◌, List, [], ◌∷◌, map, length, drop, get_or, Option, Some, None, Bool, true, false, not, ◌&&◌, ◌||◌, if◌then◌else◌, refl, sym, ap, ◌∙◌, subst, inl, inr, arith}
use Rattle.std.specs.Prelude.{All, Contains, nat_lt, IsSomeAnd}
use Rattle.std.specs.Bool.{Decides}
use Rattle.std.specs.List.{list_all, list_any}
use Rattle.std.proofs.lemmas.Bool.{cases_Bool, and_parts, lt-ltb}
use Rattle.std.proofs.lemmas.Bool.Decides.{Decides-and, Decides-like, Decides-by_and}
use Rattle.std.proofs.lemmas.List.{drop_all}
use Rattle.std.proofs.lemmas.List.Elements.{All-nil, All-cons, All-head, All-tail}
use Rattle.std.proofs.lemmas.List.Folds.{list_any_at}
use Rattle.std.proofs.lemmas.Slice.Eq.{bytes_eq-Decides}
use Rattle.fab_syntax.specs.declared.tree.Shape.TheVariants.{Scalar, Vector}
use Rattle.fab_syntax.specs.Plain.{PlainExpr, PlainJoin, PlainItem, PlainModule, constant, variable, pick, part, concatenation, complement, operation, conditional, wire, reg, assign, latch, clocked, instance}
use Rattle.fab_syntax.specs.Declarations.{module_named}
use Rattle.fab_syntax.specs.Sound.{JoinFits, IsJoinedOnce, InstanceFits, ServesAsClock, ticks, leads, IsScalarInput, IsJoinedToClock, ClockFits}
use Rattle.fab_sound.specs.declared.tables.Declared.{Declared}
use Rattle.fab_sound.specs.declared.tables.Declared.TheVariants.{Input, Output, Inner, Instance}
use Rattle.fab_sound.specs.inner.Checks.{found, shape_declared, is_scalar_entry, HasNets}
use Rattle.fab_sound.specs.inner.Rules.{is_input_entry, is_variable, join_serves, item_serves, is_scalar_variable, join_clocks, item_clocks}
use Rattle.fab_sound.proofs.Noting.{Names, drop_item}
use Rattle.fab_sound.proofs.Nets.{found_shape}
use Rattle.fab_sound.proofs.Places.{input_net}

-- ---- scalar inputs

scalar_entry : (o : Option Declared) → Decides (is_scalar_entry o) ((is_input_entry o ≡ true) × (shape_declared o ≡ Some Scalar))
scalar_entry None = (λ e. cc, λ h. let no = h.0 in cc)
scalar_entry (Some (Input Scalar)) = (λ _. (refl, refl), λ _. refl)
scalar_entry (Some (Input (Vector n))) = (λ e. cc, λ h. let no = h.1 in cc)
scalar_entry (Some (Output shape)) = (λ e. cc, λ h. let no = h.0 in cc)
scalar_entry (Some (Inner shape)) = (λ e. cc, λ h. let no = h.0 in cc)
scalar_entry (Some Instance) = (λ e. cc, λ h. let no = h.0 in cc)

pub scalar_decides : (S : Type 0) (names : Names S) (m : PlainModule) → HasNets names m → (name : List ℕ) → Decides (is_scalar_entry (found names name)) (IsScalarInput m name)
scalar_decides S names m nets name =
    let input = input_net names m name nets in
    let shape = found_shape S names m nets name in
    Decides-like (is_scalar_entry (found names name)) (λ (h : (is_input_entry (found names name) ≡ true) × (shape_declared (found names name) ≡ Some Scalar)). (sym input ∙ h.0, sym shape ∙ h.1))
    (λ h. (input ∙ h.0, shape ∙ h.1)) (scalar_entry (found names name))

-- ---- joins

implied : (a b : Bool) {P Q : Type 0} → Decides a P → Decides b Q → Decides (not a || b) (P → Q)
implied true b p q = (λ e h. q.0 e, λ f. q.1 (f (p.0 refl)))
implied false b p q = (λ e h. let no = p.1 h in cc, λ _. refl)

later : {X : Type 0} (x y : X) (xs : List X) → Contains xs y → Contains (x ∷ xs) y
later x y xs h = (suc h.0, omega (arith, h.1), h.2)

variable_is : (to : Option PlainExpr) (name : List ℕ) → is_variable to name ≡ true → to ≡ Some (variable name)
variable_is None name e = cc
variable_is (Some (variable other)) name e = ap (λ n. Some (variable n)) ((bytes_eq-Decides other name).0 e)
variable_is (Some (constant bits)) name e = cc
variable_is (Some (pick other index)) name e = cc
variable_is (Some (part other high low)) name e = cc
variable_is (Some (concatenation es)) name e = cc
variable_is (Some (complement x)) name e = cc
variable_is (Some (operation op a b)) name e = cc
variable_is (Some (conditional c a b)) name e = cc

module _ (m : PlainModule) (scalar : List ℕ → Bool) (decides : (name : List ℕ) → Decides (scalar name) (IsScalarInput m name)) where
  joined_decides : (to : Option PlainExpr) → Decides (is_scalar_variable scalar to) (IsJoinedToClock m to)
  joined_decides None = (λ e. cc, λ h. absurd h)
  joined_decides (Some (variable name)) = decides name
  joined_decides (Some (constant bits)) = (λ e. cc, λ h. absurd h)
  joined_decides (Some (pick name index)) = (λ e. cc, λ h. absurd h)
  joined_decides (Some (part name high low)) = (λ e. cc, λ h. absurd h)
  joined_decides (Some (concatenation es)) = (λ e. cc, λ h. absurd h)
  joined_decides (Some (complement x)) = (λ e. cc, λ h. absurd h)
  joined_decides (Some (operation op a b)) = (λ e. cc, λ h. absurd h)
  joined_decides (Some (conditional c a b)) = (λ e. cc, λ h. absurd h)

-- which ports of the modules that stand before serve as clocks
abbrev pub DecidesBelow : (text before : List PlainModule) → (serves : (module_name port : List ℕ) → Bool) → Type 0
DecidesBelow text before serves =
    (module_name : List ℕ) (below : PlainModule) → module_named before module_name ≡ Some below →
    (module_named text module_name ≡ Some below) × ((port : List ℕ) → Decides (serves module_name port) (ServesAsClock text below port))

-- the module of an instance that fits
known_below : (before : List PlainModule) (m : PlainModule) (joins : List PlainJoin) (o : Option PlainModule) →
    IsSomeAnd o (λ below. All (JoinFits m below) joins × All (IsJoinedOnce joins) below.ports) → (below : PlainModule) × (o ≡ Some below)
known_below before m joins None h = absurd h
known_below before m joins (Some below) h = (below, refl)

some_same : {X : Type 0} (o : Option X) (x y : X) → o ≡ Some x → o ≡ Some y → x ≡ y
some_same o x y e f = cc

module _ (text before : List PlainModule) (m : PlainModule) (serves : (module_name port : List ℕ) → Bool) (decides : DecidesBelow text before serves) where
  -- ---- what serves

  joins_serve : (served : List ℕ → Bool) (below : PlainModule) → ((port : List ℕ) → Decides (served port) (ServesAsClock text below port)) →
      (name : List ℕ) (joins : List PlainJoin) → list_any (join_serves served name) joins ≡ true →
      (join : PlainJoin) × Contains joins join × (join.to ≡ Some (variable name)) × ServesAsClock text below join.port
  joins_serve served below each name [] e = cc
  joins_serve served below each name (join ∷ joins) e =
      elim (cases_Bool (join_serves served name join)) [
        | inl y ↦ (let both = and_parts (served join.port) (is_variable join.to name) y in
            (join, (0, omega arith, refl), variable_is join.to name both.1, (each join.port).0 both.0))
        | inr n ↦ (let rest = joins_serve served below each name joins (sym (ap (λ b. b || list_any (join_serves served name) joins) n) ∙ e) in
            (rest.0, later join rest.0 joins rest.1, rest.2, rest.3))
      ]

  item_leads : (name : List ℕ) (item : PlainItem) → InstanceFits before m item → Contains m.items item → item_serves serves name item ≡ true → ServesAsClock text m name
  item_leads name (wire shape other) fit at e = cc
  item_leads name (reg shape other) fit at e = cc
  item_leads name (assign target value) fit at e = cc
  item_leads name (latch target gate value) fit at e = cc
  item_leads name (clocked clock target value) fit at e =
      subst (λ (n : List ℕ). ServesAsClock text m n) ((bytes_eq-Decides clock name).0 e) (ticks target value at)
  item_leads name (instance module_name i joins) fit at e =
      let this = known_below before m joins (module_named before module_name) fit in
      let known = decides module_name this.0 this.1 in
      let join = joins_serve (serves module_name) this.0 known.1 name joins e in
      leads module_name i joins join.0 this.0 at join.1 join.2 known.0 join.3

  items_lead : (name : List ℕ) (items : List PlainItem) → All (InstanceFits before m) items → ((item : PlainItem) → Contains items item → Contains m.items item) →
      list_any (item_serves serves name) items ≡ true → ServesAsClock text m name
  items_lead name [] fit inside e = cc
  items_lead name (item ∷ items) fit inside e =
      elim (cases_Bool (item_serves serves name item)) [
        | inl y ↦ item_leads name item (All-head (InstanceFits before m) item items fit) (inside item (0, omega arith, refl)) y
        | inr n ↦ items_lead name items (All-tail (InstanceFits before m) item items fit) (λ x h. inside x (later item x items h))
            (sym (ap (λ b. b || list_any (item_serves serves name) items) n) ∙ e)
      ]

  join_leads : (served : List ℕ → Bool) (below : PlainModule) → ((port : List ℕ) → Decides (served port) (ServesAsClock text below port)) →
      (name : List ℕ) (join : PlainJoin) → join.to ≡ Some (variable name) → ServesAsClock text below join.port → join_serves served name join ≡ true
  join_leads served below each name join to serves_below =
      ap (λ b. b && is_variable join.to name) ((each join.port).1 serves_below) ∙ ap (λ o. is_variable o name) to ∙ (bytes_eq-Decides name name).1 refl

pub led_back : (text before : List PlainModule) (serves : (module_name port : List ℕ) → Bool) → DecidesBelow text before serves → (m : PlainModule) (name : List ℕ) →
    ServesAsClock text m name → All (InstanceFits before m) m.items → list_any (item_serves serves name) m.items ≡ true
led_back text before serves decides m name (ticks target value at) fit =
    list_any_at (item_serves serves name) m.items at.0 (clocked name target value) at.1 (ap (item_serves serves name) at.2 ∙ (bytes_eq-Decides name name).1 refl)
led_back text before serves decides m name (leads module_name i joins join below at inside to named served) fit =
    let this = known_below before m joins (module_named before module_name) (subst (InstanceFits before m) at.2 (fit at.0 (instance module_name i joins) at.1)) in
    let known = decides module_name this.0 this.1 in
    let same = some_same (module_named text module_name) below this.0 named known.0 in
    let one : join_serves (serves module_name) name join ≡ true =
    join_leads text before m serves decides (serves module_name) this.0 known.1 name join to (subst (λ (b : PlainModule). ServesAsClock text b join.port) same served) in
    list_any_at (item_serves serves name) m.items at.0 (instance module_name i joins) at.1
    (ap (item_serves serves name) at.2 ∙ list_any_at (join_serves (serves module_name) name) joins inside.0 join inside.1 (ap (join_serves (serves module_name) name) inside.2 ∙ one))

-- ---- a module behind others

module _ (text before : List PlainModule) (m : PlainModule) (serves : (module_name port : List ℕ) → Bool) (decides : DecidesBelow text before serves)
    (fit : All (InstanceFits before m) m.items) where
  pub module_serves : (name : List ℕ) → Decides (list_any (item_serves serves name) m.items) (ServesAsClock text m name)
  module_serves name = (items_lead text before m serves decides name m.items fit (λ _ h. h), λ h. led_back text before serves decides m name h fit)

  item_decides : (scalar : List ℕ → Bool) → ((name : List ℕ) → Decides (scalar name) (IsScalarInput m name)) → (item : PlainItem) → InstanceFits before m item →
      Decides (item_clocks scalar serves item) (ClockFits text m item)
  item_decides scalar each (wire shape name) fits = (λ _. tt, λ _. refl)
  item_decides scalar each (reg shape name) fits = (λ _. tt, λ _. refl)
  item_decides scalar each (assign target e) fits = (λ _. tt, λ _. refl)
  item_decides scalar each (latch target gate e) fits = (λ _. tt, λ _. refl)
  item_decides scalar each (clocked clock target e) fits = each clock
  item_decides scalar each (instance module_name i joins) fits =
      let this = known_below before m joins (module_named before module_name) fits in
      let known = decides module_name this.0 this.1 in
      Decides-like (list_all (join_clocks scalar (serves module_name)) joins)
      (λ (h : All (λ join. ServesAsClock text this.0 join.port → IsJoinedToClock m join.to) joins) (below : PlainModule) (named : module_named text module_name ≡ Some below).
      subst (λ (b : PlainModule). All (λ join. ServesAsClock text b join.port → IsJoinedToClock m join.to) joins)
      (some_same (module_named text module_name) this.0 below known.0 named) h)
      (λ h. h this.0 known.0)
      (Decides-by_and (join_clocks scalar (serves module_name)) (λ join. ServesAsClock text this.0 join.port → IsJoinedToClock m join.to) (list_all (join_clocks scalar (serves module_name)))
      (λ join. implied (serves module_name join.port) (is_scalar_variable scalar join.to) (known.1 join.port) (joined_decides m scalar each join.to)) refl (λ _ _. refl) joins)

  items_decide : (scalar : List ℕ → Bool) → ((name : List ℕ) → Decides (scalar name) (IsScalarInput m name)) → (items : List PlainItem) → All (InstanceFits before m) items →
      Decides (list_all (item_clocks scalar serves) items) (All (ClockFits text m) items)
  items_decide scalar each [] fits = (λ _. All-nil (ClockFits text m), λ _. refl)
  items_decide scalar each (item ∷ items) fits =
      Decides-like (list_all (item_clocks scalar serves) (item ∷ items))
      (λ (h : ClockFits text m item × All (ClockFits text m) items). All-cons (ClockFits text m) item items h.0 h.1)
      (λ h. (All-head (ClockFits text m) item items h, All-tail (ClockFits text m) item items h))
      (Decides-and (item_clocks scalar serves item) (list_all (item_clocks scalar serves) items)
      (item_decides scalar each item (All-head (InstanceFits before m) item items fits)) (items_decide scalar each items (All-tail (InstanceFits before m) item items fits)))

  pub module_clocks : (scalar : List ℕ → Bool) → ((name : List ℕ) → Decides (scalar name) (IsScalarInput m name)) →
      Decides (list_all (item_clocks scalar serves) m.items) (All (ClockFits text m) m.items)
  module_clocks scalar each = items_decide scalar each m.items fit

-- ---- steps of the loops

-- what is counted once more
pub counted_more : (same : Bool) (n : ℕ) → nat_lt 0 ((if same then 1 else 0) + n) ≡ (same || nat_lt 0 n)
counted_more true n = lt-ltb 0 (1 + n) (omega arith)
counted_more false n = ap (nat_lt 0) (omega arith)

or_moved : (a b c : Bool) → (b || (a || c)) ≡ ((a || b) || c)
or_moved true true c = refl
or_moved true false c = refl
or_moved false b c = refl

module _ {X Y : Type 0} (p : Y → Bool) (f : X → Y) (xs : List X) (k : ℕ) where
  -- what is found so far or is to come
  pub found_more : (x : X) → k < length xs → x ≡ get_or xs k x → (old new all : Bool) → new ≡ (p (f x) || old) →
      (list_any p (map f (drop k xs)) || old) ≡ all → (list_any p (map f (drop (k + 1) xs)) || new) ≡ all
  found_more x inside is old new all put before =
      ap (λ b. list_any p (map f (drop (k + 1) xs)) || b) put ∙ or_moved (p (f x)) (list_any p (map f (drop (k + 1) xs))) old
      ∙ sym (ap (λ ys. list_any p (map f ys) || old) (drop_item xs k x inside is)) ∙ before

  pub found_all : length xs ≤ k → (last all : Bool) → (list_any p (map f (drop k xs)) || last) ≡ all → last ≡ all
  found_all past last all before = sym (ap (λ ys. list_any p (map f ys) || last) (drop_all k xs past)) ∙ before

  pub passed_all : length xs ≤ k → list_all p (map f (drop k xs)) ≡ true
  passed_all past = ap (λ ys. list_all p (map f ys)) (drop_all k xs past)

-- where nothing serves below
pub none_clocks : (scalar serves : List ℕ → Bool) → ((port : List ℕ) → serves port ≡ false) → (joins : List PlainJoin) → list_all (join_clocks scalar serves) joins ≡ true
none_clocks scalar serves none [] = refl
none_clocks scalar serves none (join ∷ joins) =
    ap (λ b. (not b || is_scalar_variable scalar join.to) && list_all (join_clocks scalar serves) joins) (none join.port) ∙ none_clocks scalar serves none joins

pub none_serve : (serves : List ℕ → Bool) → ((port : List ℕ) → serves port ≡ false) → (name : List ℕ) (joins : List PlainJoin) → list_any (join_serves serves name) joins ≡ false
none_serve serves none name [] = refl
none_serve serves none name (join ∷ joins) =
    ap (λ b. (b && is_variable join.to name) || list_any (join_serves serves name) joins) (none join.port) ∙ none_serve serves none name joins
