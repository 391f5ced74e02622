-- What a module's items drive by its own names, found by counting.
use Rattle.std.proofs.Common.{◌≡◌, ◌⊎◌, ℕ, zero, suc, ◌<◌, ◌≤◌, false, List, [], ◌∷◌, length, get_or, Option, Some, if◌then◌else◌, Contains, refl, sym, ◌∙◌, subst, arith, inl, inr}
use Rattle.std.specs.Str.{bytes_eq}
use Rattle.std.proofs.lemmas.Bool.{cases_Bool}
use Rattle.fab_syntax.specs.Plain.{variable, PlainJoin, PlainItem, wire, reg, assign, latch, clocked, instance, PlainModule}
use Rattle.fab_syntax.specs.Declarations.{module_named, is_input_of, one_if_same, one_if_variable, times_joined_out, times_driven_by, times_driven, times_instance, times_joined}
use Rattle.fab_meaning.specs.Points.{Path, point, Driver, copy, bit_of, flop, hold, instance_named}
use Rattle.fab_meaning.specs.Runs.{join_named}
use Rattle.fab_meaning.proofs.Dependence.{same_name}

pub counts_one : (other name : List ℕ) → other ≡ name → one_if_same other name ≡ 1
counts_one other name e = rw e (rw (same_name name) refl)

-- ---- drivers of a bit of a name, item by item

-- the output port of a join drives the bit
abbrev pub JoinOwns : Path → (i : List ℕ) → Option PlainModule → PlainJoin → (name : List ℕ) → (bit : ℕ) → Driver → Type 0
JoinOwns path i of join name bit d = (is_input_of of join.port ≡ false) × (join.to ≡ Some (variable name)) × (d ≡ copy (point (i ∷ path) join.port bit))

abbrev pub SomeJoinOwns : Path → (i : List ℕ) → Option PlainModule → List PlainJoin → (name : List ℕ) → (bit : ℕ) → Driver → Type 0
SomeJoinOwns path i of [] name bit d = ⊥
SomeJoinOwns path i of (join ∷ joins) name bit d = JoinOwns path i of join name bit d ⊎ SomeJoinOwns path i of joins name bit d

-- an item drives the bit of a name of its own module
abbrev pub ItemOwns : List PlainModule → Path → PlainItem → (name : List ℕ) → (bit : ℕ) → Driver → Type 0
ItemOwns text path (wire shape other) name bit d = ⊥
ItemOwns text path (reg shape other) name bit d = ⊥
ItemOwns text path (assign target e) name bit d = (target ≡ name) × (d ≡ bit_of path e bit)
ItemOwns text path (latch target gate e) name bit d = (target ≡ name) × (d ≡ hold path gate e bit)
ItemOwns text path (clocked clock target e) name bit d = (target ≡ name) × (d ≡ flop path clock e bit)
ItemOwns text path (instance module_name i joins) name bit d = SomeJoinOwns path i (module_named text module_name) joins name bit d

abbrev pub SomeItemOwns : List PlainModule → Path → List PlainItem → (name : List ℕ) → (bit : ℕ) → Driver → Type 0
SomeItemOwns text path [] name bit d = ⊥
SomeItemOwns text path (item ∷ items) name bit d = ItemOwns text path item name bit d ⊎ SomeItemOwns text path items name bit d

module _ (text : List PlainModule) (path : Path) (name : List ℕ) (bit : ℕ) where
  -- each of them counts
  join_counts : (i : List ℕ) (of : Option PlainModule) (join : PlainJoin) (d : Driver) → JoinOwns path i of join name bit d →
      (if is_input_of of join.port then 0 else one_if_variable join.to name) ≡ 1
  join_counts i of join d h = rw (h.0, h.1) (counts_one name name refl)

  joins_count : (i : List ℕ) (of : Option PlainModule) (joins : List PlainJoin) (d : Driver) → SomeJoinOwns path i of joins name bit d →
      1 ≤ times_joined_out of joins name
  joins_count i of [] d h = absurd h
  joins_count i of (join ∷ joins) d (inl h) = omega (arith, join_counts i of join d h)
  joins_count i of (join ∷ joins) d (inr h) = omega (arith, joins_count i of joins d h)

  item_counts : (item : PlainItem) (d : Driver) → ItemOwns text path item name bit d → 1 ≤ times_driven_by text item name
  item_counts (wire shape other) d h = absurd h
  item_counts (reg shape other) d h = absurd h
  item_counts (assign target e) d h = omega (arith, counts_one target name h.0)
  item_counts (latch target gate e) d h = omega (arith, counts_one target name h.0)
  item_counts (clocked clock target e) d h = omega (arith, counts_one target name h.0)
  item_counts (instance module_name i joins) d h = joins_count i (module_named text module_name) joins d h

  pub items_count : (items : List PlainItem) (d : Driver) → SomeItemOwns text path items name bit d → 1 ≤ times_driven text items name
  items_count [] d h = absurd h
  items_count (item ∷ items) d (inl h) = omega (arith, item_counts item d h)
  items_count (item ∷ items) d (inr h) = omega (arith, items_count items d h)

  -- so where the count is at most one, there is one driver
  joins_one : (i : List ℕ) (of : Option PlainModule) (joins : List PlainJoin) (d e : Driver) → times_joined_out of joins name ≤ 1 →
      SomeJoinOwns path i of joins name bit d → SomeJoinOwns path i of joins name bit e → d ≡ e
  joins_one i of [] d e once h k = absurd h
  joins_one i of (join ∷ joins) d e once (inl h) (inl k) = h.2 ∙ sym k.2
  joins_one i of (join ∷ joins) d e once (inl h) (inr k) = absurd (omega (arith, join_counts i of join d h, joins_count i of joins e k))
  joins_one i of (join ∷ joins) d e once (inr h) (inl k) = absurd (omega (arith, join_counts i of join e k, joins_count i of joins d h))
  joins_one i of (join ∷ joins) d e once (inr h) (inr k) = joins_one i of joins d e (omega arith) h k

  item_one : (item : PlainItem) (d e : Driver) → times_driven_by text item name ≤ 1 →
      ItemOwns text path item name bit d → ItemOwns text path item name bit e → d ≡ e
  item_one (wire shape other) d e once h k = absurd h
  item_one (reg shape other) d e once h k = absurd h
  item_one (assign target x) d e once h k = h.1 ∙ sym k.1
  item_one (latch target gate x) d e once h k = h.1 ∙ sym k.1
  item_one (clocked clock target x) d e once h k = h.1 ∙ sym k.1
  item_one (instance module_name i joins) d e once h k = joins_one i (module_named text module_name) joins d e once h k

  pub items_one : (items : List PlainItem) (d e : Driver) → times_driven text items name ≤ 1 →
      SomeItemOwns text path items name bit d → SomeItemOwns text path items name bit e → d ≡ e
  items_one [] d e once h k = absurd h
  items_one (item ∷ items) d e once (inl h) (inl k) = item_one item d e (omega arith) h k
  items_one (item ∷ items) d e once (inl h) (inr k) = absurd (omega (arith, item_counts item d h, items_count items e k))
  items_one (item ∷ items) d e once (inr h) (inl k) = absurd (omega (arith, item_counts item e k, items_count items d h))
  items_one (item ∷ items) d e once (inr h) (inr k) = items_one items d e (omega arith) h k

  -- from a place on a list
  join_among : (i : List ℕ) (of : Option PlainModule) (joins : List PlainJoin) (join : PlainJoin) (k : ℕ) (d : Driver) → k < length joins →
      get_or joins k join ≡ join → JoinOwns path i of join name bit d → SomeJoinOwns path i of joins name bit d
  join_among i of [] join k d l e h = absurd (omega arith)
  join_among i of (other ∷ joins) join zero d l e h = inl (subst (λ (j : PlainJoin). JoinOwns path i of j name bit d) (sym e) h)
  join_among i of (other ∷ joins) join (suc k) d l e h = inr (join_among i of joins join k d (omega arith) e h)

  pub join_owns : (i : List ℕ) (of : Option PlainModule) (joins : List PlainJoin) (join : PlainJoin) (d : Driver) → Contains joins join →
      JoinOwns path i of join name bit d → SomeJoinOwns path i of joins name bit d
  join_owns i of joins join d c h = join_among i of joins join c.0 d c.1 c.2 h

  item_among : (items : List PlainItem) (item : PlainItem) (k : ℕ) (d : Driver) → k < length items →
      get_or items k item ≡ item → ItemOwns text path item name bit d → SomeItemOwns text path items name bit d
  item_among [] item k d l e h = absurd (omega arith)
  item_among (other ∷ items) item zero d l e h = inl (subst (λ (j : PlainItem). ItemOwns text path j name bit d) (sym e) h)
  item_among (other ∷ items) item (suc k) d l e h = inr (item_among items item k d (omega arith) e h)

  pub item_owns : (items : List PlainItem) (item : PlainItem) (d : Driver) → Contains items item →
      ItemOwns text path item name bit d → SomeItemOwns text path items name bit d
  item_owns items item d c h = item_among items item c.0 d c.1 c.2 h

-- ---- look-ups by a name that is there once

tail_instances : (item : PlainItem) (items : List PlainItem) (i : List ℕ) → times_instance items i ≤ times_instance (item ∷ items) i
tail_instances (wire shape name) items i = omega arith
tail_instances (reg shape name) items i = omega arith
tail_instances (assign target e) items i = omega arith
tail_instances (latch target gate e) items i = omega arith
tail_instances (clocked clock target e) items i = omega arith
tail_instances (instance module_name other joins) items i = omega arith

instance_counts : (items : List PlainItem) (module_name i : List ℕ) (joins : List PlainJoin) (k : ℕ) → k < length items →
    get_or items k (instance module_name i joins) ≡ instance module_name i joins → 1 ≤ times_instance items i
instance_counts [] module_name i joins k l e = absurd (omega arith)
instance_counts (item ∷ items) module_name i joins zero l e =
    subst (λ (j : PlainItem). 1 ≤ times_instance (j ∷ items) i) (sym e) (omega (arith, counts_one i i refl))
instance_counts (item ∷ items) module_name i joins (suc k) l e =
    omega (arith, tail_instances item items i, instance_counts items module_name i joins k (omega arith) e)

passed_over : (item : PlainItem) (items : List PlainItem) (i : List ℕ) → times_instance (item ∷ items) i ≤ 1 → 1 ≤ times_instance items i →
    instance_named (item ∷ items) i ≡ instance_named items i
passed_over (wire shape name) items i once later = refl
passed_over (reg shape name) items i once later = refl
passed_over (assign target e) items i once later = refl
passed_over (latch target gate e) items i once later = refl
passed_over (clocked clock target e) items i once later = refl
passed_over (instance module_name other joins) items i once later =
    elim (cases_Bool (bytes_eq other i)) [
      | inl y ↦ (let one : one_if_same other i ≡ 1 = rw y refl in absurd (omega arith))
      | inr n ↦ rw n refl
    ]

instance_at : (items : List PlainItem) (module_name i : List ℕ) (joins : List PlainJoin) (k : ℕ) → k < length items →
    get_or items k (instance module_name i joins) ≡ instance module_name i joins → times_instance items i ≤ 1 →
    instance_named items i ≡ Some (record { module_name = module_name; joins = joins })
instance_at [] module_name i joins k l e once = absurd (omega arith)
instance_at (item ∷ items) module_name i joins zero l e once =
    subst (λ (j : PlainItem). instance_named (j ∷ items) i ≡ Some (record { module_name = module_name; joins = joins })) (sym e) (rw (same_name i) refl)
instance_at (item ∷ items) module_name i joins (suc k) l e once =
    passed_over item items i once (instance_counts items module_name i joins k (omega arith) e)
    ∙ instance_at items module_name i joins k (omega arith) e (omega (arith, tail_instances item items i))

-- an instance whose name is there once is found by it
pub instance_found : (items : List PlainItem) (module_name i : List ℕ) (joins : List PlainJoin) → Contains items (instance module_name i joins) →
    times_instance items i ≤ 1 → instance_named items i ≡ Some (record { module_name = module_name; joins = joins })
instance_found items module_name i joins c once = instance_at items module_name i joins c.0 c.1 c.2 once

port_counts : (joins : List PlainJoin) (join : PlainJoin) (k : ℕ) → k < length joins → get_or joins k join ≡ join → 1 ≤ times_joined joins join.port
port_counts [] join k l e = absurd (omega arith)
port_counts (other ∷ joins) join zero l e =
    subst (λ (j : PlainJoin). 1 ≤ times_joined (j ∷ joins) join.port) (sym e) (omega (arith, counts_one join.port join.port refl))
port_counts (other ∷ joins) join (suc k) l e = omega (arith, port_counts joins join k (omega arith) e)

join_at : (joins : List PlainJoin) (join : PlainJoin) (k : ℕ) → k < length joins → get_or joins k join ≡ join → times_joined joins join.port ≤ 1 →
    join_named joins join.port ≡ join.to
join_at [] join k l e once = absurd (omega arith)
join_at (other ∷ joins) join zero l e once =
    subst (λ (j : PlainJoin). join_named (j ∷ joins) join.port ≡ join.to) (sym e) (rw (same_name join.port) refl)
join_at (other ∷ joins) join (suc k) l e once =
    elim (cases_Bool (bytes_eq other.port join.port)) [
      | inl y ↦ (let one : one_if_same other.port join.port ≡ 1 = rw y refl in absurd (omega (arith, port_counts joins join k (omega arith) e)))
      | inr n ↦ rw n (join_at joins join k (omega arith) e (omega arith))
    ]

-- a port that is joined once has what is joined to it
pub join_found : (joins : List PlainJoin) (join : PlainJoin) → Contains joins join → times_joined joins join.port ≤ 1 → join_named joins join.port ≡ join.to
join_found joins join c once = join_at joins join c.0 c.1 c.2 once
