-- Where an instance stands: its module, and the instances from its own number on.
use Rattle.std.proofs.Common.{◌≡◌, ◌⊎◌, ℕ, zero, suc, ◌+◌, ◌-◌, ◌<◌, ◌≤◌, List, [], ◌∷◌, ◌++◌, length, reverse, take, slice_get, Contains, All, Some, append_assoc, append-nil, length-append, refl, sym, ap, subst, ◌∙◌, inl, inr, arith}
use Rattle.std.proofs.lemmas.Bool.{cases_lt}
use Rattle.std.proofs.lemmas.List.{reverse-append, reverse-reverse, length-reverse}
use Rattle.std.proofs.Math.Seq.{take-append_seam}
use Rattle.fab_syntax.specs.Declarations.{module_named, times_instance}
use Rattle.fab_syntax.specs.Plain.{PlainItem, instance, wire, reg, assign, latch, clocked, PlainModule}
use Rattle.fab_syntax.specs.Sound.{JoinFits, IsJoinedOnce, InstanceFits, IsSound}
use Rattle.fab_values.specs.fab_meaning.specs.Points.{Path, last_of, instance_in, module_of, module_at}
use Rattle.fab_values.specs.fab_meaning.specs.Sound.{DrivesOnce}
use Rattle.fab_values.specs.fab_meaning.proofs.Counted.{instance_found}
use Rattle.fab_values.specs.fab_meaning.proofs.Modules.{all_holds, module_at_holds}
use Rattle.fab_values.specs.fab_meaning.proofs.SoundTexts.{some_value, contains_first, contains_later, sound_drives_once}
use Rattle.fab_equations.specs.Children.{Child, children, modules_before, instances_of_children, offset_of}
use Rattle.fab_equations.specs.Counting.{total_among, instances_count}
use Rattle.fab_equations.specs.Instances.{Instance, instances_among, instances_within, instances_named, instances_of_last, instances}
use Rattle.fab_equations.proofs.Behind.{IsFit, sound_fit, fit_behind, found_either_way, named_longer, Latest, shorter_behind, latest}
use Rattle.fab_equations.proofs.Counted.{length_among, length_named}

-- ---- places on lists

pub get_left : {X : Type 0} (xs ys : List X) (k : ℕ) → k < length xs → slice_get (xs ++ ys) k ≡ slice_get xs k
get_left [] ys k l = absurd (omega arith)
get_left (x ∷ xs) ys zero l = refl
get_left (x ∷ xs) ys (suc k) l = get_left xs ys k (omega arith)

pub get_right : {X : Type 0} (xs ys : List X) (k n : ℕ) → n ≡ length xs + k → slice_get (xs ++ ys) n ≡ slice_get ys k
get_right [] ys k n e = ap (slice_get ys) (omega (arith, e))
get_right (x ∷ xs) ys k n e =
    let next : n ≡ suc (length xs + k) = omega (arith, e) in
    ap (slice_get (x ∷ xs ++ ys)) next ∙ get_right xs ys k (length xs + k) refl

-- ---- an instance in the list of all

pub record Stands (text : List PlainModule) (number : ℕ) (before : List PlainModule) (m : PlainModule) (path : Path) : Type 0 where
  pub here : module_at text path ≡ Some m
  pub later : List PlainModule
  pub split : reverse text ≡ later ++ m ∷ before
  pub front : List Instance
  pub rest : List Instance
  pub count : length front ≡ number
  pub listed : instances text ≡ front ++ (instances_within (instances_named before) (length before) m path ++ rest)

abbrev pub the_instance : List PlainModule → PlainModule → Path → Instance
the_instance before m path = record { path = path; number = length before; here = m }

module _ (text : List PlainModule) (number : ℕ) (before : List PlainModule) (m : PlainModule) (path : Path) (stands : Stands text number before m path) where
  pub text_parted : text ≡ reverse before ++ m ∷ reverse stands.later
  text_parted =
      sym (reverse-reverse text) ∙ ap reverse stands.split ∙ reverse-append stands.later (m ∷ before)
      ∙ ap (λ ms. ms ++ reverse stands.later) (reverse-append (m ∷ []) before)
      ∙ append_assoc (reverse before) (m ∷ []) (reverse stands.later)

  pub is_numbered : slice_get (instances text) number ≡ Some (the_instance before m path)
  is_numbered =
      ap (λ is. slice_get is number) stands.listed
      ∙ get_right stands.front (instances_within (instances_named before) (length before) m path ++ stands.rest) 0 number (omega (arith, stands.count))

  pub is_module : slice_get text (length before) ≡ Some m
  is_module =
      ap (λ ms. slice_get ms (length before)) text_parted
      ∙ get_right (reverse before) (m ∷ reverse stands.later) 0 (length before) (omega (arith, length-reverse before))

  pub modules_are : modules_before text (length before) ≡ before
  modules_are =
      ap (λ ms. reverse (take (length before) ms)) text_parted
      ∙ ap (λ n. reverse (take n (reverse before ++ m ∷ reverse stands.later))) (sym (length-reverse before))
      ∙ ap reverse (take-append_seam (reverse before) (m ∷ reverse stands.later))
      ∙ reverse-reverse before

-- ---- the top

last_stands : {X : Type 0} (xs : List X) (x : X) → last_of (xs ++ x ∷ []) ≡ Some x
last_stands [] x = refl
last_stands (y ∷ []) x = refl
last_stands (y ∷ z ∷ xs) x = last_stands (z ∷ xs) x

pub top_stands : (text before : List PlainModule) (m : PlainModule) → reverse text ≡ m ∷ before → Stands text 0 before m []
unfolding instances
top_stands text before m e = record {
  here = ap last_of (sym (reverse-reverse text) ∙ ap reverse e ∙ reverse-append (m ∷ []) before) ∙ last_stands (reverse before) m;
  later = [];
  split = e;
  front = [];
  rest = [];
  count = refl;
  listed = ap instances_of_last e ∙ sym (append-nil (instances_within (instances_named before) (length before) m []));
}

-- ---- the children of an instance

record ListsChild (before : List PlainModule) (path : Path) (items : List PlainItem) (number : ℕ) (child : Child) : Type 0 where
  front : List Instance
  rest : List Instance
  count : length front ≡ instances_of_children before (take number (children items))
  listed : instances_among (instances_named before) path items ≡ front ++ (instances_named before child.module_name (child.name ∷ path) ++ rest)

lists_child : (before : List PlainModule) (path : Path) (items : List PlainItem) (number : ℕ) (child : Child) →
    slice_get (children items) number ≡ Some child → ListsChild before path items number child
lists_child before path [] number child e = cc
lists_child before path (instance of name joins ∷ items) zero child e =
    let first : Child = record { module_name = of; name = name; joins = joins } in
    let same : first ≡ child = cc in
    record {
      front = [];
      rest = instances_among (instances_named before) path items;
      count = refl;
      listed = ap (λ (c : Child). instances_named before c.module_name (c.name ∷ path) ++ instances_among (instances_named before) path items) same;
    }
lists_child before path (instance of name joins ∷ items) (suc number) child e =
    let more = lists_child before path items number child e in
    let own = instances_named before of (name ∷ path) in
    record {
      front = own ++ more.front;
      rest = more.rest;
      count = length-append own more.front ∙ (λ j. length_named before of (name ∷ path) j + more.count j);
      listed = ap (λ (is : List Instance). own ++ is) more.listed
          ∙ sym (append_assoc own more.front (instances_named before child.module_name (child.name ∷ path) ++ more.rest));
    }
lists_child before path (_ ∷ items) number child e =
    let more = lists_child before path items number child e in
    record { front = more.front; rest = more.rest; count = more.count; listed = more.listed }

pub child_item : (items : List PlainItem) (number : ℕ) (child : Child) → slice_get (children items) number ≡ Some child →
    Contains items (instance child.module_name child.name child.joins)
child_item [] number child e = cc
child_item (instance of name joins ∷ items) zero child e =
    let first : Child = record { module_name = of; name = name; joins = joins } in
    let same : first ≡ child = cc in
    contains_first (instance of name joins) (instance child.module_name child.name child.joins) items (ap (λ (c : Child). instance c.module_name c.name c.joins) same)
child_item (instance of name joins ∷ items) (suc number) child e =
    contains_later (instance of name joins) (instance child.module_name child.name child.joins) items (child_item items number child e)
child_item (wire shape name ∷ items) number child e = contains_later (wire shape name) _ items (child_item items number child e)
child_item (reg shape name ∷ items) number child e = contains_later (reg shape name) _ items (child_item items number child e)
child_item (assign target x ∷ items) number child e = contains_later (assign target x) _ items (child_item items number child e)
child_item (latch target gate x ∷ items) number child e = contains_later (latch target gate x) _ items (child_item items number child e)
child_item (clocked clock target x ∷ items) number child e = contains_later (clocked clock target x) _ items (child_item items number child e)

regroup : {X : Type 0} (front : List X) (x : X) (before within after rest : List X) →
    front ++ ((x ∷ (before ++ (within ++ after))) ++ rest) ≡ (front ++ x ∷ before) ++ (within ++ (after ++ rest))
regroup front x before within after rest = simp append_assoc

module _ (text : List PlainModule) (number : ℕ) (before : List PlainModule) (m : PlainModule) (path : Path) (up : Stands text number before m path)
    (place : ℕ) (child : Child) where
  -- the list of all instances, parted at the child
  at_offset : ListsChild before path m.items place child → (below : PlainModule) (last : Latest before child.module_name below) →
      module_at text (child.name ∷ path) ≡ Some below → Stands text (number + offset_of before (children m.items) place) last.behind below (child.name ∷ path)
  at_offset lists below last here =
      let root = the_instance before m path in
      let inside = instances_within (instances_named last.behind) (length last.behind) below (child.name ∷ path) in
      record {
        here = here;
        later = up.later ++ m ∷ last.later;
        split = up.split ∙ ap (λ (ms : List PlainModule). up.later ++ m ∷ ms) last.split
            ∙ sym (append_assoc up.later (m ∷ last.later) (below ∷ last.behind));
        front = up.front ++ root ∷ lists.front;
        rest = lists.rest ++ up.rest;
        count = omega (arith, length-append up.front (root ∷ lists.front), up.count, lists.count);
        listed = up.listed
            ∙ ap (λ (is : List Instance). up.front ++ ((root ∷ is) ++ up.rest)) lists.listed
            ∙ ap (λ (is : List Instance). up.front ++ ((root ∷ (lists.front ++ (is ++ lists.rest))) ++ up.rest)) (last.listed (child.name ∷ path))
            ∙ regroup up.front root lists.front inside lists.rest up.rest;
      }

  -- where the child of a number stands
  pub record StandsBelow : Type 0 where
    pub behind : List PlainModule
    pub below : PlainModule
    pub stands : Stands text (number + offset_of before (children m.items) place) behind below (child.name ∷ path)
    pub named : module_named text child.module_name ≡ Some below
    pub shorter : length behind < length before
    pub counted : instances_count before child.module_name ≡ 1 + total_among (instances_count behind) below.items

  pub child_stands : IsSound text → slice_get (children m.items) place ≡ Some child → StandsBelow
  child_stands sound e =
      let fit : IsFit (m ∷ before) = fit_behind up.later (m ∷ before) (subst IsFit up.split (sound_fit text sound)) in
      let item = child_item m.items place child e in
      let fits = all_holds (InstanceFits (reverse before) m) m.items (instance child.module_name child.name child.joins) fit.1 item in
      let below = some_value (module_named (reverse before) child.module_name) (λ b. All (JoinFits m b) child.joins × All (IsJoinedOnce child.joins) b.ports) fits in
      let last = latest before child.module_name below.0 (sym (found_either_way before fit.2 child.module_name) ∙ below.1) in
      let named : module_named text child.module_name ≡ Some below.0 =
      ap (λ ms. module_named ms child.module_name) (text_parted text number before m path up)
      ∙ named_longer (reverse before) (m ∷ reverse up.later) child.module_name below.0 below.1 in
      let once : times_instance m.items child.name ≤ 1 =
      (module_at_holds (DrivesOnce text) text path m (sound_drives_once text sound) up.here).instances child.name in
      let here : module_at text (child.name ∷ path) ≡ Some below.0 =
      ap (λ o. module_of text (instance_in o child.name)) up.here
      ∙ ap (module_of text) (instance_found m.items child.module_name child.name child.joins item once) ∙ named in
      record {
        behind = last.behind;
        below = below.0;
        stands = at_offset (lists_child before path m.items place child e) below.0 last here;
        named = named;
        shorter = shorter_behind before last.later last.behind below.0 last.split;
        counted = last.counted;
      }

-- ---- each instance is reached from the top

record FoundChild (before : List PlainModule) (items : List PlainItem) (inside : ℕ) : Type 0 where
  number : ℕ
  child : Child
  is : slice_get (children items) number ≡ Some child
  within : ℕ
  less : within < instances_count before child.module_name
  place : inside ≡ instances_of_children before (take number (children items)) + within

find_child : (before : List PlainModule) (items : List PlainItem) (inside : ℕ) → inside < total_among (instances_count before) items → FoundChild before items inside
find_child before [] inside l = absurd (omega arith)
find_child before (instance of name joins ∷ items) inside l =
    elim (cases_lt inside (instances_count before of)) [
      | inl here ↦ record { number = 0; child = record { module_name = of; name = name; joins = joins }; is = refl; within = inside; less = here; place = omega arith }
      | inr past ↦ (let rest = find_child before items (inside - instances_count before of) (omega (arith, l, past)) in
          record { number = suc rest.number; child = rest.child; is = rest.is; within = rest.within; less = rest.less; place = omega (arith, rest.place, past) })
    ]
find_child before (_ ∷ items) inside l =
    let rest = find_child before items inside l in
    record { number = rest.number; child = rest.child; is = rest.is; within = rest.within; less = rest.less; place = rest.place }

-- an instance that is the child of another
pub record IsBelow (text : List PlainModule) (number : ℕ) (path : Path) : Type 0 where
  pub above : ℕ
  pub before : List PlainModule
  pub m : PlainModule
  pub route : Path
  pub stands : Stands text above before m route
  pub place : ℕ
  pub child : Child
  pub is : slice_get (children m.items) place ≡ Some child
  pub offset : number ≡ above + offset_of before (children m.items) place
  pub named : path ≡ child.name ∷ route

-- an instance that is some places behind one, in which it is
pub record Reached (text : List PlainModule) (number inside : ℕ) : Type 0 where
  pub before : List PlainModule
  pub m : PlainModule
  pub path : Path
  pub stands : Stands text number before m path
  pub from : (inside ≡ 0) ⊎ IsBelow text number path

reach : (text : List PlainModule) → IsSound text → (fuel number : ℕ) (before : List PlainModule) (m : PlainModule) (path : Path) → Stands text number before m path →
    length before < fuel → (inside : ℕ) → inside < 1 + total_among (instances_count before) m.items → (at : ℕ) → at ≡ number + inside → Reached text at inside
reach text sound zero number before m path stands l inside within at e = absurd (omega arith)
reach text sound (suc fuel) number before m path stands l zero within at e =
    record { before = before; m = m; path = path; stands = subst (λ n. Stands text n before m path) (omega (arith, e)) stands; from = inl refl }
reach text sound (suc fuel) number before m path stands l (suc inside) within at e =
    let found = find_child before m.items inside (omega arith) in
    let below = child_stands text number before m path stands found.number found.child sound found.is in
    let first = number + offset_of before (children m.items) found.number in
    elim (cases_lt 0 found.within) [
      | inl deeper ↦ (let rest = reach text sound fuel first below.behind below.below (found.child.name ∷ path) below.stands (omega (arith, below.shorter)) found.within
          (omega (arith, found.less, below.counted)) at (omega (arith, found.place)) in
          record {
            before = rest.before;
            m = rest.m;
            path = rest.path;
            stands = rest.stands;
            from = elim rest.from [ inl none ↦ inr (absurd {A = IsBelow text at rest.path} (omega (arith, none, deeper))) | inr b ↦ inr b ];
          })
      | inr none ↦ (let is_first : at ≡ first = omega (arith, found.place) in
          record {
            before = below.behind;
            m = below.below;
            path = found.child.name ∷ path;
            stands = subst (λ n. Stands text n below.behind below.below (found.child.name ∷ path)) (sym is_first) below.stands;
            from = inr (record {
              above = number;
              before = before;
              m = m;
              route = path;
              stands = stands;
              place = found.number;
              child = found.child;
              is = found.is;
              offset = is_first;
              named = refl;
            });
          })
    ]

pub each_reached : (text : List PlainModule) → IsSound text → (number : ℕ) → number < length (instances text) → Reached text number number
unfolding instances
each_reached text sound number l = by (reverse text) refl
  where
    by : (behind : List PlainModule) → reverse text ≡ behind → Reached text number number
    by [] e = absurd (omega (arith, ap (λ ms. length (instances_of_last ms)) e))
    by (m ∷ before) e =
        reach text sound (suc (length before)) 0 before m [] (top_stands text before m e) (omega arith) number
        (omega (arith, ap (λ ms. length (instances_of_last ms)) e, length_among before [] m.items)) number (omega arith)
