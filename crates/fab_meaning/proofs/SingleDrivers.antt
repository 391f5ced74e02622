-- From counts of names to drivers of points: two drivers of a point come from the same item and, there, from the same join.
use Rattle.std.proofs.Common.{◌≡◌, ◌⊎◌, ℕ, Bool, true, false, List, [], ◌∷◌, Option, Some, None, All, Contains, refl, sym, ap, ap₂, ◌∙◌, subst, inl, inr, arith}
use Rattle.fab_syntax.specs.Plain.{PlainExpr, variable, PlainJoin, PlainItem, wire, reg, assign, latch, clocked, instance, PlainModule}
use Rattle.fab_syntax.specs.Declarations.{module_named, is_input, is_input_of}
use Rattle.fab_meaning.specs.Points.{Path, Point, point, Driver, bit_of, instance_in, module_of, module_at, JoinDrives, ItemDrives, IsDrivenByItem, Drives}
use Rattle.fab_meaning.specs.Runs.{join_of}
use Rattle.fab_meaning.specs.Sound.{JoinsOnce, DrivesOnce}
use Rattle.fab_meaning.proofs.Counted.{ItemOwns, items_count, items_one, join_owns, item_owns, instance_found, join_found}
use Rattle.fab_meaning.proofs.Modules.{all_holds, module_at_holds}

-- a join drives an input port of the instance below
record EntersPort (text : List PlainModule) (path : Path) (item : PlainItem) (p : Point) (d : Driver) : Type 0 where
  module_name : List ℕ
  i : List ℕ
  joins : List PlainJoin
  join : PlainJoin
  e : PlainExpr
  is_instance : item ≡ instance module_name i joins
  holds : Contains joins join
  input : is_input_of (module_named text module_name) join.port ≡ true
  joined : join.to ≡ Some e
  at : p ≡ point (i ∷ path) join.port p.bit
  drives : d ≡ bit_of path e p.bit

-- an item drives a name of its own module, or an input port below
abbrev EitherWay : List PlainModule → Path → PlainItem → Point → Driver → Type 0
EitherWay text path item p d = ((p.path ≡ path) × ItemOwns text path item p.name p.bit d) ⊎ EntersPort text path item p d

join_way : (text : List PlainModule) (path : Path) (module_name i : List ℕ) (joins : List PlainJoin) (join : PlainJoin) (p : Point) (d : Driver) → Contains joins join →
    (input : Bool) → is_input_of (module_named text module_name) join.port ≡ input → (to : Option PlainExpr) → join.to ≡ to →
    JoinDrives path i input join.port to p d → EitherWay text path (instance module_name i joins) p d
join_way text path module_name i joins join p d c input is None to h = absurd h
join_way text path module_name i joins join p d c true is (Some e) to h =
    inr (record { module_name = module_name; i = i; joins = joins; join = join; e = e; is_instance = refl; holds = c; input = is; joined = to; at = h.0; drives = h.1 })
join_way text path module_name i joins join p d c false is (Some e) to h =
    let named : e ≡ variable p.name = h.1 ∙ ap variable (sym (ap (λ (q : Point). q.name) h.2)) in
    inl (ap (λ (q : Point). q.path) h.2, join_owns text path p.name p.bit i (module_named text module_name) joins join d c (is, to ∙ ap Some named, h.3))

item_way : (text : List PlainModule) (path : Path) (item : PlainItem) (p : Point) (d : Driver) → ItemDrives text path item p d → EitherWay text path item p d
item_way text path (wire shape name) p d h = absurd h
item_way text path (reg shape name) p d h = absurd h
item_way text path (assign target e) p d h = inl (ap (λ (q : Point). q.path) h.0, (sym (ap (λ (q : Point). q.name) h.0), h.1))
item_way text path (latch target gate e) p d h = inl (ap (λ (q : Point). q.path) h.0, (sym (ap (λ (q : Point). q.name) h.0), h.1))
item_way text path (clocked clock target e) p d h = inl (ap (λ (q : Point). q.path) h.0, (sym (ap (λ (q : Point). q.name) h.0), h.1))
item_way text path (instance module_name i joins) p d h =
    join_way text path module_name i joins h.0 p d h.1 (is_input_of (module_named text module_name) h.0.port) refl h.0.to refl h.2

module _ (text : List PlainModule) (once : All (DrivesOnce text) text) where
  here_once : (path : Path) (m : PlainModule) → module_at text path ≡ Some m → DrivesOnce text m
  here_once path m stands = module_at_holds (DrivesOnce text) text path m once stands

  -- what a module has as an input, none of its items drives
  input_undriven : (path : Path) (m : PlainModule) → module_at text path ≡ Some m → (item : PlainItem) → Contains m.items item →
      (name : List ℕ) (bit : ℕ) (d : Driver) → is_input m.ports name ≡ true → ItemOwns text path item name bit d → ⊥
  input_undriven path m stands item c name bit d input h =
      omega (arith, (here_once path m stands).inputs name input, items_count text path name bit m.items d (item_owns text path name bit m.items item d c h))

  -- an instance is found by its name
  instance_here : (path : Path) (m : PlainModule) → module_at text path ≡ Some m → (module_name i : List ℕ) (joins : List PlainJoin) →
      Contains m.items (instance module_name i joins) → instance_in (module_at text path) i ≡ Some (record { module_name = module_name; joins = joins })
  instance_here path m stands module_name i joins c =
      ap (λ x. instance_in x i) stands ∙ instance_found m.items module_name i joins c ((here_once path m stands).instances i)

  enters_item : (p : Point) (d : Driver) (by : IsDrivenByItem text p d) (h : EntersPort text by.path by.item p d) → Contains by.module_here.items (instance h.module_name h.i h.joins)
  enters_item p d by h = subst (λ (j : PlainItem). Contains by.module_here.items j) h.is_instance by.holds

  enters_instance : (p : Point) (d : Driver) (by : IsDrivenByItem text p d) (h : EntersPort text by.path by.item p d) →
      instance_in (module_at text by.path) h.i ≡ Some (record { module_name = h.module_name; joins = h.joins })
  enters_instance p d by h = instance_here by.path by.module_here by.stands h.module_name h.i h.joins (enters_item p d by h)

  -- what is joined to the port, found by its name
  enters_join : (p : Point) (d : Driver) (by : IsDrivenByItem text p d) (h : EntersPort text by.path by.item p d) →
      join_of (instance_in (module_at text by.path) h.i) h.join.port ≡ Some h.e
  enters_join p d by h =
      let joins : JoinsOnce (instance h.module_name h.i h.joins) =
      all_holds JoinsOnce by.module_here.items (instance h.module_name h.i h.joins) (here_once by.path by.module_here by.stands).joins (enters_item p d by h) in
      ap (λ x. join_of x h.join.port) (enters_instance p d by h) ∙ join_found h.joins h.join h.holds (joins h.join.port) ∙ h.joined

  -- a port that is joined to is an input of its module, which drives none
  own_and_port : (p : Point) (d e : Driver) (a : IsDrivenByItem text p d) (b : IsDrivenByItem text p e) →
      (p.path ≡ a.path) × ItemOwns text a.path a.item p.name p.bit d → EntersPort text b.path b.item p e → ⊥
  own_and_port p d e a b h k =
      let paths : k.i ∷ b.path ≡ a.path = sym (ap (λ (q : Point). q.path) k.at) ∙ h.0 in
      let found : module_named text k.module_name ≡ Some a.module_here =
      sym (ap (module_of text) (enters_instance p e b k)) ∙ ap (module_at text) paths ∙ a.stands in
      let input : is_input a.module_here.ports p.name ≡ true =
      ap (is_input a.module_here.ports) (ap (λ (q : Point). q.name) k.at) ∙ sym (ap (λ m. is_input_of m k.join.port) found) ∙ k.input in
      input_undriven a.path a.module_here a.stands a.item a.holds p.name p.bit d input h.1

  port_and_port : (p : Point) (d e : Driver) (a : IsDrivenByItem text p d) (b : IsDrivenByItem text p e) →
      EntersPort text a.path a.item p d → EntersPort text b.path b.item p e → d ≡ e
  port_and_port p d e a b h k =
      let whole : h.i ∷ a.path ≡ k.i ∷ b.path = sym (ap (λ (q : Point). q.path) h.at) ∙ ap (λ (q : Point). q.path) k.at in
      let names : h.i ≡ k.i = cc in
      let paths : a.path ≡ b.path = cc in
      let ports : h.join.port ≡ k.join.port = sym (ap (λ (q : Point). q.name) h.at) ∙ ap (λ (q : Point). q.name) k.at in
      let found : instance_in (module_at text a.path) h.i ≡ instance_in (module_at text b.path) k.i = ap₂ (λ x i. instance_in (module_at text x) i) paths names in
      let values : Some h.e ≡ Some k.e = sym (enters_join p d a h) ∙ ap₂ join_of found ports ∙ enters_join p e b k in
      let value : h.e ≡ k.e = cc in
      h.drives ∙ ap₂ (λ x v. bit_of x v p.bit) paths value ∙ sym k.drives

  own_and_own : (p : Point) (d e : Driver) (a : IsDrivenByItem text p d) (b : IsDrivenByItem text p e) →
      (p.path ≡ a.path) × ItemOwns text a.path a.item p.name p.bit d → (p.path ≡ b.path) × ItemOwns text b.path b.item p.name p.bit e → d ≡ e
  own_and_own p d e a b h k =
      let paths : b.path ≡ a.path = sym k.0 ∙ h.0 in
      let modules : Some b.module_here ≡ Some a.module_here = sym b.stands ∙ ap (module_at text) paths ∙ a.stands in
      let same : b.module_here ≡ a.module_here = cc in
      let holds : Contains a.module_here.items b.item = subst (λ (m : PlainModule). Contains m.items b.item) same b.holds in
      let own : ItemOwns text a.path b.item p.name p.bit e = subst (λ (x : Path). ItemOwns text x b.item p.name p.bit e) paths k.1 in
      items_one text a.path p.name p.bit a.module_here.items d e ((here_once a.path a.module_here a.stands).names p.name)
      (item_owns text a.path p.name p.bit a.module_here.items a.item d a.holds h.1)
      (item_owns text a.path p.name p.bit a.module_here.items b.item e holds own)

  ways_one : (p : Point) (d e : Driver) (a : IsDrivenByItem text p d) (b : IsDrivenByItem text p e) →
      EitherWay text a.path a.item p d → EitherWay text b.path b.item p e → d ≡ e
  ways_one p d e a b (inl h) (inl k) = own_and_own p d e a b h k
  ways_one p d e a b (inl h) (inr k) = absurd (own_and_port p d e a b h k)
  ways_one p d e a b (inr h) (inl k) = absurd (own_and_port p e d b a k h)
  ways_one p d e a b (inr h) (inr k) = port_and_port p d e a b h k

  -- no item drives an input of the top
  top_undriven : (p : Point) (d : Driver) (by : IsDrivenByItem text p d) → p.path ≡ [] → is_input_of (module_at text []) p.name ≡ true →
      EitherWay text by.path by.item p d → ⊥
  top_undriven p d by top input (inl k) =
      let paths : [] ≡ by.path = sym top ∙ k.0 in
      let found : module_at text [] ≡ Some by.module_here = ap (module_at text) paths ∙ by.stands in
      let enters : is_input by.module_here.ports p.name ≡ true = sym (ap (λ m. is_input_of m p.name) found) ∙ input in
      input_undriven by.path by.module_here by.stands by.item by.holds p.name p.bit d enters k.1
  top_undriven p d by top input (inr k) =
      let paths : [] ≡ k.i ∷ by.path = sym top ∙ ap (λ (q : Point). q.path) k.at in cc

  pub one_driver : (p : Point) (d e : Driver) → Drives text p d → Drives text p e → d ≡ e
  one_driver p d e (inl h) (inl k) = h.is ∙ sym k.is
  one_driver p d e (inl h) (inr b) = absurd (top_undriven p e b h.top h.input (item_way text b.path b.item p e b.drives))
  one_driver p d e (inr a) (inl k) = absurd (top_undriven p d a k.top k.input (item_way text a.path a.item p d a.drives))
  one_driver p d e (inr a) (inr b) = ways_one p d e a b (item_way text a.path a.item p d a.drives) (item_way text b.path b.item p e b.drives)
