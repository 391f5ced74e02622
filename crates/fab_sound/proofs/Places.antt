-- Modules by their names in a library, against the text.
use Rattle.std.proofs.Common.{◌≡◌, ℕ, zero, suc, ◌+◌, ◌<◌, ◌≤◌, List, [], ◌∷◌, length, take, get_or, Option, Some, None, Bool, true, false, refl, sym, ap, ◌∙◌, subst, arith, inl, inr}
use Rattle.std.specs.Borrow.{Bor}
use Rattle.std.specs.Prelude.{find}
use Rattle.std.specs.List.{position, position_or_len, HoldsAt}
use Rattle.std.specs.Prelude.{nat_lt, vec_len, MatchOption}
use Rattle.std.specs.Str.{bytes_eq}
use Rattle.std.proofs.lemmas.Bool.{cases_Bool, ltb-false}
use Rattle.std.proofs.lemmas.List.{get_or-map, length-map}
use Rattle.std.proofs.lemmas.List.Quantifiers.{position-Some}
use Rattle.std.proofs.Math.Seq.{take-length}
use Rattle.indexmap.specs.IndexMap.{IndexMap}
use Rattle.fab_syntax.specs.declared.tree.Port.{Port}
use Rattle.fab_syntax.specs.Plain.{PlainItem, PlainModule}
use Rattle.fab_syntax.specs.Declarations.{module_named, item_shape, is_input}
use Rattle.fab_sound.specs.declared.tables.Declared.{Declared}
use Rattle.fab_sound.specs.declared.tables.Declared.TheVariants.{Input, Output, Inner, Instance}
use Rattle.fab_syntax.specs.declared.tree.Shape.{Shape}
use Rattle.fab_sound.specs.declared.tables.Known.{Known}
use Rattle.fab_sound.specs.declared.tables.Library.{Library}
use Rattle.fab_sound.specs.inner.Checks.{found, net_declared, inner_net, net_of, port_declares, HasNets, known_module, library_text, IsLibrary}
use Rattle.fab_sound.specs.inner.Rules.{is_input_entry}

-- ---- the first of some

module _ {X : Type 0} (p : X → Bool) where
  pub first_found : (xs : List X) (k n : ℕ) (d : X) → k < length xs → k < n → p (get_or xs k d) ≡ true → ((j : ℕ) → j < k → p (get_or xs j d) ≡ false) →
      find p (take n xs) ≡ Some (get_or xs k d)
  first_found [] k n d inside before is none = absurd (omega arith)
  first_found (x ∷ xs) k zero d inside before is none = absurd (omega arith)
  first_found (x ∷ xs) zero (suc n) d inside before is none = rw is refl
  first_found (x ∷ xs) (suc k) (suc n) d inside before is none =
      let no : p x ≡ false = none 0 (omega arith) in
      rw no (first_found xs k n d (omega arith) (omega arith) is (λ j h. none (suc j) (omega arith)))

  pub none_found : (xs : List X) (n : ℕ) (d : X) → ((j : ℕ) → j < length xs → j < n → p (get_or xs j d) ≡ false) → find p (take n xs) ≡ None
  none_found [] zero d none = refl
  none_found [] (suc n) d none = refl
  none_found (x ∷ xs) zero d none = refl
  none_found (x ∷ xs) (suc n) d none =
      let no : p x ≡ false = none 0 (omega arith) (omega arith) in
      rw no (none_found xs n d (λ j h i. none (suc j) (omega arith) (omega arith)))

  far : (xs : List X) (j : ℕ) (d : X) → j < length xs → length xs ≤ position_or_len p xs → p (get_or xs j d) ≡ false
  far [] j d inside long = absurd (omega arith)
  far (x ∷ xs) zero d inside long =
      elim (cases_Bool (p x)) [
        | inl y ↦ (let none : position_or_len p (x ∷ xs) ≡ 0 = rw y refl in absurd (omega arith))
        | inr n ↦ n
      ]
  far (x ∷ xs) (suc j) d inside long =
      elim (cases_Bool (p x)) [
        | inl y ↦ (let none : position_or_len p (x ∷ xs) ≡ 0 = rw y refl in absurd (omega arith))
        | inr n ↦ (let one : position_or_len p (x ∷ xs) ≡ 1 + position_or_len p xs = rw n refl in far xs j d (omega arith) (omega arith))
      ]

  pub nowhere : (xs : List X) (d : X) → position p xs ≡ None → (j : ℕ) → j < length xs → p (get_or xs j d) ≡ false
  nowhere xs d absent j inside =
      elim (cases_Bool (nat_lt (position_or_len p xs) (length xs))) [
        | inl y ↦ (let got : position p xs ≡ Some (position_or_len p xs) = rw y refl in cc)
        | inr n ↦ far xs j d inside (ltb-false _ _ n)
      ]

-- ---- modules

module _ (library : Library) (is : IsLibrary library) (name : List ℕ) (count : ℕ) where
  pub before_none : found library.numbers name ≡ None → module_named (take count (library_text library)) name ≡ None
  before_none absent =
      none_found (λ (m : PlainModule). bytes_eq m.name name) (library_text library) count (record { name = []; ports = []; items = [] })
      (λ j h i. nowhere (λ (m : PlainModule). bytes_eq m.name name) (library_text library) (record { name = []; ports = []; items = [] }) (sym (is.numbers name) ∙ absent) j h)

  pub before_late : (k : ℕ) → found library.numbers name ≡ Some k → count ≤ k → module_named (take count (library_text library)) name ≡ None
  before_late k at late =
      let first = position-Some (λ (m : PlainModule). bytes_eq m.name name) (library_text library) k (record { name = []; ports = []; items = [] }) (sym (is.numbers name) ∙ at) in
      none_found (λ (m : PlainModule). bytes_eq m.name name) (library_text library) count (record { name = []; ports = []; items = [] })
      (λ j h i. first.2 j (omega arith))

  pub before_inside : (k : ℕ) → found library.numbers name ≡ Some k → k < length library.modules.items
  before_inside k at =
      let first = position-Some (λ (m : PlainModule). bytes_eq m.name name) (library_text library) k (record { name = []; ports = []; items = [] }) (sym (is.numbers name) ∙ at) in
      let same : length (library_text library) ≡ length library.modules.items = simp length-map in
      omega (arith, first.0)

  pub before_some : (k : ℕ) (known : Known) → found library.numbers name ≡ Some k → k < count → k < length library.modules.items → known ≡ get_or library.modules.items k known →
      (module_named (take count (library_text library)) name ≡ Some (known_module known)) × HasNets known.names (known_module known)
  before_some k known at before inside here =
      let first = position-Some (λ (m : PlainModule). bytes_eq m.name name) (library_text library) k (known_module known) (sym (is.numbers name) ∙ at) in
      let this : get_or (library_text library) k (known_module known) ≡ known_module known =
      get_or-map known_module library.modules.items k known (known_module known) inside ∙ ap known_module (sym here) in (
        first_found (λ (m : PlainModule). bytes_eq m.name name) (library_text library) k count (known_module known) first.0 before first.1 first.2 ∙ ap Some this,
        subst (λ (k : Known). HasNets k.names (known_module k)) (sym here) (is.nets k known inside),
      )

  pub gotten : (k : ℕ) (r : Option (Bor Known)) (items : List Known) → found library.numbers name ≡ Some k → k < count → items ≡ library.modules.items →
      MatchOption r (length items ≤ k) (λ x. (k < length items) × HoldsAt (λ y. x.now ≡ y) items k) →
      MatchOption r (module_named (take count (library_text library)) name ≡ None)
      (λ known. (module_named (take count (library_text library)) name ≡ Some (known_module known.now)) × HasNets known.now.names (known_module known.now))
  gotten k None items at before same got =
      let inside = before_inside k at in
      let long : length items ≡ length library.modules.items = ap length same in
      absurd (omega arith)
  gotten k (Some x) items at before same got =
      let long : length items ≡ length library.modules.items = ap length same in
      let inside : k < length items = got.0 in
      before_some k x.now at before (omega arith) (got.1 x.now ∙ ap (λ xs. get_or xs k x.now) same)

  pub among_all : (n : ℕ) (o : Option PlainModule) → n ≡ vec_len library.modules → module_named (take n (library_text library)) name ≡ o → module_named (library_text library) name ≡ o
  among_all n o e h =
      let same : length (library_text library) ≡ length library.modules.items = simp length-map in
      let long : n ≡ length (library_text library) = e ∙ library.modules.ok.0 ∙ sym same in
      let whole : take n (library_text library) ≡ library_text library = ap (λ k. take k (library_text library)) long ∙ take-length (library_text library) in
      ap (λ ms. module_named ms name) (sym whole) ∙ h

-- ---- inputs

input_declared : (o : Option Declared) → is_input_entry o ≡ is_input_entry (net_declared o)
input_declared None = refl
input_declared (Some (Input shape)) = refl
input_declared (Some (Output shape)) = refl
input_declared (Some (Inner shape)) = refl
input_declared (Some Instance) = refl

input_of : (ports : List Port) (items : List PlainItem) (name : List ℕ) → is_input_entry (net_of ports items name) ≡ is_input ports name
input_of [] items name = inner (item_shape items name)
  where
    inner : (o : Option Shape) → is_input_entry (inner_net o) ≡ false
    inner None = refl
    inner (Some shape) = refl
input_of (port ∷ ports) items name =
    elim (cases_Bool (bytes_eq port.name name)) [
      | inl y ↦ rw y (one port.input refl)
      | inr n ↦ rw n (input_of ports items name)
    ]
  where
    one : (input : Bool) → port.input ≡ input → is_input_entry (Some (port_declares port)) ≡ port.input
    one true e = rw e refl
    one false e = rw e refl

pub input_net : {S : Type 0} (names : IndexMap (Bor (List ℕ)) Declared S) (m : PlainModule) (name : List ℕ) → HasNets names m →
    is_input_entry (found names name) ≡ is_input m.ports name
input_net names m name nets = input_declared (found names name) ∙ ap is_input_entry (nets name) ∙ input_of m.ports m.items name
