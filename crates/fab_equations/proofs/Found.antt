-- Hierarchical names: the instances on the way, by the names between the dots.
use Rattle.std.proofs.Common.{◌≡◌, ◌≢◌, ◌⊎◌, ℕ, zero, suc, ◌+◌, ◌-◌, ◌<◌, ◌≤◌, true, Bool, nat_lt, ◌==◌, List, [], ◌∷◌, ◌++◌, length, length-drop, map, take, drop, slice_get, get_or, All, Option, Some, None, append_assoc, append-nil, refl, sym, ap, subst, ◌∙◌, inl, inr, arith}
use Rattle.std.specs.List.{position, position_or_len}
use Rattle.std.specs.Option.{option_map, IfSome, IfNone}
use Rattle.std.specs.Str.{bytes_eq}
use Rattle.std.proofs.Common.{Vec}
use Rattle.std.proofs.lemmas.Bool.{lt-ltb, eqb-true, eq-eqb, false≢true}
use Rattle.std.proofs.lemmas.List.{take-append-drop, take_all}
use Rattle.std.proofs.Math.Seq.{drop-cons}
use Rattle.std.proofs.lemmas.List.Elements.{All-nil, All-cons, All-head, All-tail}
use Rattle.std.proofs.lemmas.List.Quantifiers.{position-Some}
use Rattle.std.proofs.lemmas.Option.{slice_get_within, slice_get-get_or}
use Rattle.std.proofs.lemmas.Slice.Eq.{bytes_eq-Decides}
use Rattle.fab_syntax.specs.Declarations.{width}
use Rattle.fab_syntax.specs.Plain.{PlainModule}
use Rattle.fab_syntax.specs.Sound.{IsSound}
use Rattle.fab_values.specs.fab_meaning.specs.Points.{Path, Found, point, instance_named, instance_in, module_of, module_at}
use Rattle.fab_values.specs.fab_meaning.proofs.Dependence.{same_name}
use Rattle.fab_values.specs.Declarations.{declarations, found_in}
use Rattle.fab_values.specs.declared.names.Local.{Local}
use Rattle.fab_equations.specs.Children.{Child, children}
use Rattle.fab_equations.specs.Instances.{Instance, instances, points, whole_count, most_points}
use Rattle.fab_equations.specs.Numbering.{IsInstanceOfNumber}
use Rattle.fab_equations.specs.Equations.{hierarchical_name, HasNoDot, IsFound, IsNotFound, IsPlace, IsNoPlace, declared_as, declared_in}
use Rattle.fab_equations.specs.Lookups.{IsHere, IsChild, IsChildNamed, LeadsThrough, IsRead}
use Rattle.std.specs.Borrow.{Bor}
use Rattle.fab_syntax.specs.declared.tree.Expr.{Expr}
use Rattle.fab_equations.specs.inner.Placed.{ArePlaced, Keeps}
use Rattle.fab_equations.specs.declared.placed.PlacedInstance.{PlacedInstance}
use Rattle.fab_equations.specs.declared.tables.Table.{Table}
use Rattle.fab_equations.specs.declared.lookups.Here.{Here}
use Rattle.fab_equations.specs.declared.driver.Declared.{Declared}
use Rattle.fab_equations.proofs.Numbering.{same_value, some_there, instances_stand}
use Rattle.fab_equations.proofs.Paths.{top_path, named_child, paths_differ}
use Rattle.fab_equations.proofs.Places.{names_have_points}
use Rattle.fab_equations.proofs.Points.{point_at}
use Rattle.fab_equations.proofs.Clocked.{passes}

-- ---- lists

map_at : {X Y : Type 0} (f : X → Y) (xs : List X) (k : ℕ) (y : Y) → slice_get (map f xs) k ≡ Some y → (x : X) × (slice_get xs k ≡ Some x) × (f x ≡ y)
map_at f [] k y e = cc
map_at f (x ∷ xs) zero y e = (x, refl, same_value (slice_get (map f (x ∷ xs)) 0) (f x) y refl e)
map_at f (x ∷ xs) (suc k) y e = map_at f xs k y e

at_map : {X Y : Type 0} (f : X → Y) (xs : List X) (k : ℕ) (x : X) → slice_get xs k ≡ Some x → slice_get (map f xs) k ≡ Some (f x)
at_map f [] k x e = cc
at_map f (y ∷ xs) zero x e = let same : y ≡ x = cc in ap (λ z. Some (f z)) same
at_map f (y ∷ xs) (suc k) x e = at_map f xs k x e

position_at : {X : Type 0} (p : X → Bool) (xs : List X) (n : ℕ) → position p xs ≡ Some n → (x : X) × (slice_get xs n ≡ Some x) × (p x ≡ true)
position_at p [] n e = cc
position_at p (x ∷ xs) n e =
    let found = position-Some p (x ∷ xs) n x e in
    (get_or (x ∷ xs) n x, slice_get-get_or (x ∷ xs) n x found.0, found.1)

passed_by_none : {X : Type 0} (p : X → Bool) (xs : List X) (k : ℕ) (x : X) → position p xs ≡ None → slice_get xs k ≡ Some x → p x ≡ true → ⊥
passed_by_none p xs k x none e t =
    let less : nat_lt (position_or_len p xs) (length xs) ≡ true = lt-ltb _ _ (passes p xs k x e t) in
    let some : position p xs ≡ Some (position_or_len p xs) = rw less refl in
    let clash : Some (position_or_len p xs) ≡ None = sym some ∙ none in
    cc

-- ---- the child of a name

module _ {A : Type 0} (text : List PlainModule) (sound : IsSound text) (number : ℕ) (i : Instance) (is : IsInstanceOfNumber text number i) (keys : List (Vec ℕ A))
    (names : map (λ (key : Vec ℕ A). key.items) keys ≡ map (λ (child : Child). child.name) (children i.here.items)) (name : List ℕ) where
  pub no_child : position (λ (key : Vec ℕ A). bytes_eq name key.items) keys ≡ None → module_at text (name ∷ i.path) ≡ None
  no_child none =
      ap (λ o. module_of text (instance_in o name)) (instances_stand text sound number i is).0 ∙ ap (module_of text) (by (instance_named i.here.items name) refl)
    where
      by : (o : Option Found) → instance_named i.here.items name ≡ o → instance_named i.here.items name ≡ None
      by None e = e
      by (Some found) e =
          let child = named_child i.here.items name found e in
          let there : slice_get (map (λ (key : Vec ℕ A). key.items) keys) child.number ≡ Some name =
          ap (λ ns. slice_get ns child.number) names ∙ at_map (λ (c : Child). c.name) (children i.here.items) child.number child.child child.is ∙ ap Some child.named in
          let key = map_at (λ (k : Vec ℕ A). k.items) keys child.number name there in
          let same : bytes_eq name key.0.items ≡ true = subst (λ (n : List ℕ). bytes_eq name n ≡ true) (sym key.2) (same_name name) in
          absurd (passed_by_none (λ (k : Vec ℕ A). bytes_eq name k.items) keys child.number key.0 none key.1 same)

  pub child_named : (place child : ℕ) → position (λ (key : Vec ℕ A). bytes_eq name key.items) keys ≡ Some place → IsChild text number place child → IsChildNamed text i name (Some child)
  child_named place child found stands =
      let key = position_at (λ (k : Vec ℕ A). bytes_eq name k.items) keys place found in
      let same_i : stands.i ≡ i = same_value (slice_get (instances text) number) stands.i i stands.is is in
      let there : slice_get (map (λ (c : Child). c.name) (children i.here.items)) place ≡ Some key.0.items =
      ap (λ ns. slice_get ns place) (sym names) ∙ at_map (λ (k : Vec ℕ A). k.items) keys place key.0 key.1 in
      let c = map_at (λ (x : Child). x.name) (children i.here.items) place key.0.items there in
      let same_c : stands.of.child ≡ c.0 =
      same_value (slice_get (children i.here.items) place) stands.of.child c.0 (ap (λ (x : Instance). slice_get (children x.here.items) place) (sym same_i) ∙ stands.of.is) c.1 in
      let named : stands.of.child.name ≡ name = ap (λ (x : Child). x.name) same_c ∙ c.2 ∙ sym ((bytes_eq-Decides name key.0.items).0 key.2) in
      (stands.below, stands.below_is, stands.of.path ∙ (λ k. named k ∷ (same_i k).path))

-- the names that the table has
pub names_here : (text : List PlainModule) (number : ℕ) (here : Here) → IsHere text number here → (i : Instance) → IsInstanceOfNumber text number i →
    map (λ key. key.items) here.table.now.child_names.keys ≡ map (λ (child : Child). child.name) (children i.here.items)
names_here text number here is i numbered =
    is.table.child_names
    ∙ ap (λ (x : Instance). map (λ (child : Child). child.name) (children x.here.items)) (same_value (slice_get (instances text) number) is.placed.i i is.placed.is numbered)

-- ---- dots

first_dot : (a x b y : List ℕ) → HasNoDot a → HasNoDot x → a ++ 46 ∷ b ≡ x ++ 46 ∷ y → (a ≡ x) × (b ≡ y)
first_dot [] [] b y no_a no_x e = (refl, cc)
first_dot [] (n ∷ x) b y no_a no_x e = let dot : n ≡ 46 = cc in absurd (All-head (λ byte. byte ≢ 46) n x no_x dot)
first_dot (m ∷ a) [] b y no_a no_x e = let dot : m ≡ 46 = cc in absurd (All-head (λ byte. byte ≢ 46) m a no_a dot)
first_dot (m ∷ a) (n ∷ x) b y no_a no_x e =
    let head : m ≡ n = cc in
    let tail : a ++ 46 ∷ b ≡ x ++ 46 ∷ y = cc in
    let rest = first_dot a x b y (All-tail (λ byte. byte ≢ 46) m a no_a) (All-tail (λ byte. byte ≢ 46) n x no_x) tail in
    ((λ k. head k ∷ rest.0 k), rest.1)

no_dot_inside : (a b : List ℕ) → HasNoDot (a ++ 46 ∷ b) → ⊥
no_dot_inside [] b dots = All-head (λ byte. byte ≢ 46) 46 b dots refl
no_dot_inside (n ∷ a) b dots = no_dot_inside a b (All-tail (λ byte. byte ≢ 46) n (a ++ 46 ∷ b) dots)

split_last : (front : Path) → (front ≡ []) ⊎ ((path : Path) × (last : List ℕ) × (front ≡ path ++ last ∷ []))
split_last [] = inl refl
split_last (x ∷ front) =
    elim (split_last front) [
      | inl none ↦ inr ([], x, ap (λ (p : Path). x ∷ p) none)
      | inr more ↦ inr (x ∷ more.0, more.1, ap (λ (p : Path). x ∷ p) more.2)
    ]

joined_last : (path : Path) (last name : List ℕ) → hierarchical_name (path ++ last ∷ []) name ≡ last ++ 46 ∷ hierarchical_name path name
joined_last [] last name = refl
joined_last (x ∷ path) last name = joined_last path last (x ++ 46 ∷ name)

none_below : (text : List PlainModule) (front path : Path) → module_at text path ≡ None → module_at text (front ++ path) ≡ None
none_below text [] path none = none
none_below text (x ∷ front) path none = ap (λ o. module_of text (instance_in o x)) (none_below text front path none)

-- the last name of a path, and those before it, have no dot
path_parts : (front : Path) (x : List ℕ) (path : Path) → All HasNoDot ((front ++ x ∷ []) ++ path) → HasNoDot x
path_parts [] x path all = All-head HasNoDot x path all
path_parts (y ∷ front) x path all = path_parts front x path (All-tail HasNoDot y ((front ++ x ∷ []) ++ path) all)

-- ---- how far a name is read

pub read_none : (text : List PlainModule) → IsSound text → whole_count text ≤ most_points → (name : List ℕ) → 0 < length (instances text) → IsRead text name 0 name
read_none text sound small name some =
    let top = some_there (instances text) 0 some in
    let path = top_path text top.0 top.1 in
    record {
      sound = sound;
      small = small;
      i = top.0;
      is = top.1;
      spelled = ap (λ (p : Path). hierarchical_name p name) (sym path);
      only = λ p m local stands dots no_dot spelled. (p, sym (append-nil p) ∙ ap (λ (q : Path). p ++ q) (sym path), spelled);
    }

module _ (text : List PlainModule) (name : List ℕ) (number : ℕ) (rest : List ℕ) (read : IsRead text name number rest) where
  -- the next name, up to a dot
  module _ (next later : List ℕ) (parts : rest ≡ next ++ 46 ∷ later) (no_dot : HasNoDot next) where
    through : LeadsThrough text name (next ∷ read.i.path) later
    through path m local stands dots no_local spelled =
        let way = read.only path m local stands dots no_local spelled in
        elim (split_last way.0) [
          | inl none ↦ (let short : rest ≡ local = way.2 ∙ ap (λ (p : Path). hierarchical_name p local) none in
              absurd (no_dot_inside next later (subst HasNoDot (sym short ∙ parts) no_local)))
          | inr more ↦ (let whole : path ≡ (more.0 ++ more.1 ∷ []) ++ read.i.path = way.1 ∙ ap (λ (p : Path). p ++ read.i.path) more.2 in
              let no_dot_last : HasNoDot more.1 = path_parts more.0 more.1 read.i.path (subst (All HasNoDot) whole dots) in
              let both : next ++ 46 ∷ later ≡ more.1 ++ 46 ∷ hierarchical_name more.0 local =
              sym parts ∙ way.2 ∙ ap (λ (p : Path). hierarchical_name p local) more.2 ∙ joined_last more.0 more.1 local in
              let same = first_dot next more.1 later (hierarchical_name more.0 local) no_dot no_dot_last both in
              (more.0, whole ∙ append_assoc more.0 (more.1 ∷ []) read.i.path ∙ ap (λ (x : List ℕ). more.0 ++ x ∷ read.i.path) (sym same.0), same.1))
        ]

    pub read_more : (child : ℕ) → IsChildNamed text read.i next (Some child) → IsRead text name child later
    read_more child (below, is, path) = record {
      sound = read.sound;
      small = read.small;
      i = below;
      is = is;
      spelled = read.spelled ∙ ap (hierarchical_name read.i.path) parts ∙ ap (λ (p : Path). hierarchical_name p later) (sym path);
      only = subst (λ (p : Path). LeadsThrough text name p later) (sym path) through;
    }

    pub read_fails : IsChildNamed text read.i next None → IsNotFound text name
    read_fails none other j local is dots no_local spelled =
        let stands = (instances_stand text read.sound other j is).0 in
        let way = through j.path j.here local stands dots no_local spelled in
        let nothing : module_at text j.path ≡ None = ap (module_at text) way.1 ∙ none_below text way.0 (next ∷ read.i.path) none in
        let clash : Some j.here ≡ None = sym stands ∙ nothing in
        cc

  -- the last name
  pub read_last : (declared : Declared) → Some declared ≡ declared_in text number read.i rest → IsFound text name declared
  read_last declared e = by (found_in (declarations read.i.here) rest) refl
    where
      by : (o : Option Local) → found_in (declarations read.i.here) rest ≡ o → IsFound text name declared
      by None none = let nothing : Some declared ≡ None = e ∙ ap (option_map (declared_as text number)) none in cc
      by (Some local) some =
          let same : declared ≡ declared_as text number local =
          same_value (declared_in text number read.i rest) declared (declared_as text number local) (sym e) (ap (option_map (declared_as text number)) some) in
          let numbered : declared.instance ≡ number = ap (λ (d : Declared). d.instance) same in
          record {
            i = read.i;
            name = rest;
            spelled = read.spelled;
            is = subst (λ n. IsInstanceOfNumber text n read.i) (sym numbered) read.is;
            declares = subst (λ n. declared_in text n read.i rest ≡ Some declared) (sym numbered) (sym e);
          }

  -- no other way to read it
  only_so : HasNoDot rest → (path : Path) (m : PlainModule) (local : List ℕ) → module_at text path ≡ Some m → All HasNoDot path → HasNoDot local → name ≡ hierarchical_name path local →
      (path ≡ read.i.path) × (rest ≡ local)
  only_so no_dot path m local stands dots no_local spelled =
      let way = read.only path m local stands dots no_local spelled in
      elim (split_last way.0) [
        | inl none ↦ (way.1 ∙ ap (λ (p : Path). p ++ read.i.path) none, way.2 ∙ ap (λ (p : Path). hierarchical_name p local) none)
        | inr more ↦ (let long : rest ≡ more.1 ++ 46 ∷ hierarchical_name more.0 local = way.2 ∙ ap (λ (p : Path). hierarchical_name p local) more.2 ∙ joined_last more.0 more.1 local in
            absurd (no_dot_inside more.1 (hierarchical_name more.0 local) (subst HasNoDot long no_dot)))
      ]

  same_found : HasNoDot rest → (other : ℕ) (j : Instance) (local : List ℕ) → IsInstanceOfNumber text other j → All HasNoDot j.path → HasNoDot local → name ≡ hierarchical_name j.path local →
      found_in (declarations j.here) local ≡ found_in (declarations read.i.here) rest
  same_found no_dot other j local is dots no_local spelled =
      let stands = (instances_stand text read.sound other j is).0 in
      let so = only_so no_dot j.path j.here local stands dots no_local spelled in
      let numbers : other ≡ number = paths_differ text read.sound other number j read.i is read.is so.0 in
      let same : j ≡ read.i = same_value (slice_get (instances text) number) j read.i (ap (slice_get (instances text)) (sym numbers) ∙ is) read.is in
      λ k. found_in (declarations (same k).here) (sym so.1 k)

  pub last_fails : HasNoDot rest → None ≡ declared_in text number read.i rest → IsNotFound text name
  last_fails no_dot e other j local is dots no_local spelled =
      same_found no_dot other j local is dots no_local spelled ∙ by (found_in (declarations read.i.here) rest) refl
    where
      by : (o : Option Local) → found_in (declarations read.i.here) rest ≡ o → found_in (declarations read.i.here) rest ≡ None
      by None none = none
      by (Some found) some = let nothing : None ≡ Some (declared_as text number found) = e ∙ ap (option_map (declared_as text number)) some in cc

  pub read_found : (o : Option Declared) → o ≡ declared_in text number read.i rest → IfSome o (λ declared. IsFound text name declared)
  read_found None e = tt
  read_found (Some declared) e = read_last declared e

  pub read_absent : HasNoDot rest → (o : Option Declared) → o ≡ declared_in text number read.i rest → IfNone o (IsNotFound text name)
  read_absent no_dot None e = last_fails no_dot e
  read_absent no_dot (Some declared) e = tt

  -- ---- the point of a bit

  record IsDeclaredSo (declared : Declared) : Type 0 where
    local : Local
    found : found_in (declarations read.i.here) rest ≡ Some local
    is : declared ≡ declared_as text number local

  declared_so : (declared : Declared) → Some declared ≡ declared_in text number read.i rest → IsDeclaredSo declared
  declared_so declared e = by (found_in (declarations read.i.here) rest) refl
    where
      by : (o : Option Local) → found_in (declarations read.i.here) rest ≡ o → IsDeclaredSo declared
      by None none = let nothing : Some declared ≡ None = e ∙ ap (option_map (declared_as text number)) none in cc
      by (Some local) some = record {
        local = local;
        found = some;
        is = same_value (declared_in text number read.i rest) declared (declared_as text number local) (sym e) (ap (option_map (declared_as text number)) some);
      }

  module _ (declared : Declared) (so : Some declared ≡ declared_in text number read.i rest) (bit : ℕ) where
    pub place_is : bit < width declared.shape → IsPlace text name bit (declared.first + bit)
    place_is less =
        let d = declared_so declared so in record {
          path = read.i.path;
          name = rest;
          spelled = read.spelled;
          is =
              ap (slice_get (points text)) (omega (arith, ap (λ (x : Declared). x.first) d.is))
              ∙ names_have_points text number read.i read.is rest d.local d.found bit (omega (arith, less, ap (λ (x : Declared). width x.shape) d.is));
        }

    pub place_fits : bit < width declared.shape → declared.first + bit < 4294967296
    place_fits less =
        let place = place_is less in
        omega (arith, slice_get_within (points text) (declared.first + bit) (point place.path place.name bit) place.is, read.small)

    pub no_place : HasNoDot rest → width declared.shape ≤ bit → IsNoPlace text name bit
    no_place no_dot past path local dots no_local spelled there =
        let p = point path local bit in
        let at = point_at text read.sound there.0 p (slice_get-get_or (points text) there.0 p there.1 ∙ ap Some there.2) in
        let d = declared_so declared so in
        let same : found_in (declarations at.i.here) local ≡ found_in (declarations read.i.here) rest =
        same_found no_dot at.above at.i local at.is (subst (All HasNoDot) (sym at.same) dots) no_local (spelled ∙ ap (λ (q : Path). hierarchical_name q local) (sym at.same)) in
        let locals : at.local ≡ d.local = same_value (found_in (declarations at.i.here) local) at.local d.local at.found (same ∙ d.found) in
        omega (arith, at.less, past, ap (λ (l : Local). width l.shape) locals, ap (λ (x : Declared). width x.shape) d.is)

pub not_found_no_place : (text : List PlainModule) → IsSound text → (name : List ℕ) (bit : ℕ) → IsNotFound text name → IsNoPlace text name bit
not_found_no_place text sound name bit none path local dots no_local spelled there =
    let p = point path local bit in
    let at = point_at text sound there.0 p (slice_get-get_or (points text) there.0 p there.1 ∙ ap Some there.2) in
    let nothing : found_in (declarations at.i.here) local ≡ None =
    none at.above at.i local at.is (subst (All HasNoDot) (sym at.same) dots) no_local (spelled ∙ ap (λ (q : Path). hierarchical_name q local) (sym at.same)) in
    let clash : Some at.local ≡ None = sym at.found ∙ nothing in
    cc

-- ---- the parts at a dot

parted_at : (xs : List ℕ) (dot : ℕ) → dot < length xs → get_or xs dot 0 ≡ 46 → xs ≡ take dot xs ++ 46 ∷ drop (dot + 1) xs
parted_at xs dot within is =
    let next : suc dot ≡ dot + 1 = omega arith in
    let tail : drop dot xs ≡ 46 ∷ drop (dot + 1) xs = drop-cons xs dot 0 within ∙ (λ k. is k ∷ drop (next k) xs) in
    sym (take-append-drop dot xs) ∙ ap (λ ys. take dot xs ++ ys) tail

none_before : (xs : List ℕ) (dot : ℕ) → ((k : ℕ) → k < dot → get_or xs k 0 ≢ 46) → dot ≤ length xs → HasNoDot (take dot xs)
none_before xs zero none within = All-nil (λ byte. byte ≢ 46)
none_before [] (suc dot) none within = absurd (omega arith)
none_before (x ∷ xs) (suc dot) none within =
    All-cons (λ byte. byte ≢ 46) x (take dot xs) (none 0 (omega arith)) (none_before xs dot (λ k l. none (suc k) (omega arith)) (omega arith))

pub dot_parts : (rest : List ℕ) (dot n : ℕ) → position (λ byte. byte == 46) rest ≡ Some dot → n ≡ length rest →
    (rest ≡ take dot rest ++ 46 ∷ take (n - (dot + 1)) (drop (dot + 1) rest)) × HasNoDot (take dot rest)
dot_parts rest dot n e same =
    let found = position-Some (λ byte. byte == 46) rest dot 0 e in
    let before : (k : ℕ) → k < dot → get_or rest k 0 ≢ 46 = λ k l is. false≢true (sym (found.2 k l) ∙ eq-eqb (get_or rest k 0) 46 is) in
    let all : take (n - (dot + 1)) (drop (dot + 1) rest) ≡ drop (dot + 1) rest =
    take_all (n - (dot + 1)) (drop (dot + 1) rest) (omega (arith, length-drop (dot + 1) rest, same)) in (
      parted_at rest dot found.0 (eqb-true (get_or rest dot 0) 46 found.1) ∙ ap (λ ys. take dot rest ++ 46 ∷ ys) (sym all),
      none_before rest dot before (omega arith),
    )

pub no_dots : (rest : List ℕ) → position (λ byte. byte == 46) rest ≡ None → HasNoDot rest
no_dots rest none k d l is = passed_by_none (λ byte. byte == 46) rest k (get_or rest k d) none (slice_get-get_or rest k d l) (eq-eqb (get_or rest k d) 46 is)

-- ---- from what is kept

pub read_start : (text : List PlainModule) (tables : List Table) (exprs : List (Bor Expr)) (placed : List PlacedInstance) (count : ℕ) → Keeps text tables exprs placed count →
    0 < length placed → (name : List ℕ) → IsRead text name 0 name
read_start text tables exprs placed count keeps some name = read_none text keeps.sound keeps.small name (omega (arith, some, keeps.placed_are.0))

pub nothing_read : (text : List PlainModule) (placed : List PlacedInstance) → ArePlaced text placed → length placed ≡ 0 → (name : List ℕ) → IsNotFound text name
nothing_read text placed are none name number i local is dots no_dot spelled = absurd (omega (arith, slice_get_within (instances text) number i is, are.0, none))
