-- The nets of a module in a map of what it declares, and the places of modules by name.
use Rattle.std.proofs.Common.{◌≡◌, ℕ, List, [], ◌∷◌, ◌++◌, map, length, drop, get_or, suc, ◌+◌, ◌<◌, ◌≤◌, length-append, Option, Some, None, Bool, true, false, is_some, if◌then◌else◌, cond, append_assoc, refl, sym, ap, ◌∙◌, subst, inl, inr, arith}
use Rattle.std.specs.Borrow.{Bor}
use Rattle.std.specs.Prelude.{nat_lt, eqb, All, Result, Ok, IfOk}
use Rattle.std.specs.List.{position_or_len}
use Rattle.std.specs.Option.{option_or}
use Rattle.std.specs.Str.{bytes_eq}
use Rattle.std.specs.Map.{lookup}
use Rattle.std.proofs.lemmas.Bool.{cases_Bool}
use Rattle.std.proofs.lemmas.Bool.Decides.{nat_tests, eqb_tells}
use Rattle.std.proofs.lemmas.List.Folds.{position_or_len_push}
use Rattle.std.proofs.lemmas.List.Elements.{All-push}
use Rattle.std.proofs.lemmas.Slice.Eq.{bytes_eq-Decides}
use Rattle.indexmap.specs.IndexMap.{IndexMap}
use Rattle.fab_syntax.specs.declared.tree.Shape.{Shape}
use Rattle.fab_syntax.specs.declared.tree.Port.{Port}
use Rattle.fab_syntax.specs.declared.tree.Item.{Item}
use Rattle.fab_syntax.specs.declared.tree.Module.{Module}
use Rattle.fab_syntax.specs.Plain.{PlainItem, wire, reg, assign, latch, clocked, instance, PlainModule, plain_item, plain_module}
use Rattle.fab_syntax.specs.Declarations.{item_shape, declared_shape}
use Rattle.fab_sound.specs.declared.tables.Declared.{Declared}
use Rattle.fab_sound.specs.declared.tables.Declared.TheVariants.{Input, Output, Inner, Instance}
use Rattle.fab_sound.specs.declared.tables.Known.{Known}
use Rattle.fab_sound.specs.inner.Checks.{found, Gives, shape_declared, item_declares, IsNew, TakesDeclaration, port_declares, net_declared, inner_net, net_of, TakesNets, HasNets, known_module, place_named}
use Rattle.fab_sound.proofs.Noting.{Names, bytes_sym, not_true, drop_item}

pub of_fine : {X E : Type 0} (r : Result X E) (A : X → Type 0) (x : X) → r ≡ Ok x → IfOk r A → A x
of_fine {X} {E} r A x e h = subst (λ (q : Result X E). IfOk q A) e h

-- ---- what maps and declarations say of a net

pub shape_net : (o : Option Declared) → shape_declared o ≡ shape_declared (net_declared o)
shape_net (Some (Input shape)) = refl
shape_net (Some (Output shape)) = refl
shape_net (Some (Inner shape)) = refl
shape_net (Some Instance) = refl
shape_net None = refl

port_net : (input : Bool) (port : Port) → port.input ≡ input → net_declared (Some (port_declares port)) ≡ Some (port_declares port)
port_net true port e = rw e refl
port_net false port e = rw e refl

port_shape : (input : Bool) (port : Port) → port.input ≡ input → shape_declared (Some (port_declares port)) ≡ Some port.shape
port_shape true port e = rw e refl
port_shape false port e = rw e refl

shape_inner : (o : Option Shape) → shape_declared (inner_net o) ≡ o
shape_inner None = refl
shape_inner (Some shape) = refl

pub declared_net : (ports : List Port) (items : List PlainItem) (name : List ℕ) → shape_declared (net_of ports items name) ≡ declared_shape ports items name
declared_net [] items name = shape_inner (item_shape items name)
declared_net (port ∷ ports) items name =
    elim (cases_Bool (bytes_eq port.name name)) [
      | inl y ↦ rw y (port_shape port.input port refl)
      | inr n ↦ rw n (declared_net ports items name)
    ]

-- a map that has the nets of a module has their shapes
pub found_shape : (S : Type 0) (names : Names S) (m : PlainModule) → HasNets names m → (name : List ℕ) →
    shape_declared (found names name) ≡ declared_shape m.ports m.items name
found_shape S names m has name = shape_net (found names name) ∙ ap shape_declared (has name) ∙ declared_net m.ports m.items name

-- ---- one more

absent_none : {X : Type 0} (o : Option X) → is_some o ≡ false → o ≡ None
absent_none None e = refl
absent_none (Some x) e = cc

pub or_none : {X : Type 0} (o : Option X) → option_or o None ≡ o
or_none None = refl
or_none (Some x) = refl

module _ (S : Type 0) (old new : Names S) (name : List ℕ) (d : Declared) (absent : is_some (found old name) ≡ false) (gives : Gives old new name d) where
  was_none : (n : List ℕ) → bytes_eq n name ≡ true → net_declared (found old n) ≡ None
  was_none n y =
      let same : name ≡ n = sym ((bytes_eq-Decides n name).0 y) in
      ap net_declared (subst (λ (m : List ℕ). found old m ≡ None) same (absent_none (found old name) absent))

  net_step : net_declared (Some d) ≡ Some d → (later : Option Declared) (n : List ℕ) →
      option_or (net_declared (found new n)) later ≡ option_or (net_declared (found old n)) (if bytes_eq name n then Some d else later)
  net_step is later n =
      elim (cases_Bool (bytes_eq n name)) [
        | inl y ↦ (let got : found new n ≡ Some d = gives n ∙ rw y refl in
            let back : bytes_eq name n ≡ true = bytes_sym name n ∙ y in
            let right : (if bytes_eq name n then Some d else later) ≡ Some d = rw back refl in
            ap (λ o. option_or (net_declared o) later) got
            ∙ ap (λ o. option_or o later) is
            ∙ sym (ap (λ o. option_or o (if bytes_eq name n then Some d else later)) (was_none n y) ∙ right))
        | inr f ↦ (let got : found new n ≡ found old n = gives n ∙ rw f refl in
            let back : bytes_eq name n ≡ false = bytes_sym name n ∙ f in
            let right : (if bytes_eq name n then Some d else later) ≡ later = rw back refl in
            ap (λ o. option_or (net_declared o) later) got ∙ ap (option_or (net_declared (found old n))) (sym right))
      ]

  other_step : net_declared (Some d) ≡ None → (later : Option Declared) (n : List ℕ) →
      option_or (net_declared (found new n)) later ≡ option_or (net_declared (found old n)) later
  other_step is later n =
      elim (cases_Bool (bytes_eq n name)) [
        | inl y ↦ (let got : found new n ≡ Some d = gives n ∙ rw y refl in
            ap (λ o. option_or (net_declared o) later) got ∙ ap (λ o. option_or o later) (is ∙ sym (was_none n y)))
        | inr f ↦ (let got : found new n ≡ found old n = gives n ∙ rw f refl in ap (λ o. option_or (net_declared o) later) got)
      ]

-- a loop over ports: what is still to come
module _ (S : Type 0) (old new : Names S) (ports : List Port) (k : ℕ) (port : Port) (inside : k < length ports) (is : port ≡ get_or ports k port) where
  pub ports_step : is_some (found old port.name) ≡ false → Gives old new port.name (port_declares port) → (n : List ℕ) →
      option_or (net_declared (found new n)) (net_of (drop (k + 1) ports) [] n) ≡ option_or (net_declared (found old n)) (net_of (drop k ports) [] n)
  ports_step absent gives n =
      net_step S old new port.name (port_declares port) absent gives (port_net port.input port refl) (net_of (drop (k + 1) ports) [] n) n
      ∙ ap (λ ps. option_or (net_declared (found old n)) (net_of ps [] n)) (sym (drop_item ports k port inside is))

inner_first : (b : Bool) (shape : Shape) (o : Option Shape) → (if b then Some (Inner shape) else inner_net o) ≡ inner_net (if b then Some shape else o)
inner_first true shape o = refl
inner_first false shape o = refl

module _ (S : Type 0) (old new : Names S) (n : List ℕ) (rest : List PlainItem) where
  net_item : (shape : Shape) (name : List ℕ) → is_some (found old name) ≡ false → Gives old new name (Inner shape) →
      option_or (net_declared (found new n)) (inner_net (item_shape rest n))
      ≡ option_or (net_declared (found old n)) (inner_net (if bytes_eq name n then Some shape else item_shape rest n))
  net_item shape name absent gives =
      net_step S old new name (Inner shape) absent gives refl (inner_net (item_shape rest n)) n
      ∙ ap (option_or (net_declared (found old n))) (inner_first (bytes_eq name n) shape (item_shape rest n))

  same_item : found new n ≡ found old n → option_or (net_declared (found new n)) (inner_net (item_shape rest n)) ≡ option_or (net_declared (found old n)) (inner_net (item_shape rest n))
  same_item same = ap (λ o. option_or (net_declared o) (inner_net (item_shape rest n))) same

  item_step : (item : PlainItem) → IsNew old (item_declares item) ≡ true → TakesDeclaration old new (item_declares item) →
      option_or (net_declared (found new n)) (net_of [] rest n) ≡ option_or (net_declared (found old n)) (net_of [] (item ∷ rest) n)
  item_step (wire shape name) fresh takes = net_item shape name (not_true _ fresh) takes
  item_step (reg shape name) fresh takes = net_item shape name (not_true _ fresh) takes
  item_step (assign target e) fresh takes = same_item (takes n)
  item_step (latch target gate e) fresh takes = same_item (takes n)
  item_step (clocked clock target e) fresh takes = same_item (takes n)
  item_step (instance module_name i joins) fresh takes = other_step S old new i Instance (not_true _ fresh) takes refl (inner_net (item_shape rest n)) n

-- a loop over items
module _ (S : Type 0) (old new : Names S) (items : List Item) (k : ℕ) (item : Item) (inside : k < length items) (is : item ≡ get_or items k item) where
  pub items_step : IsNew old (item_declares (plain_item item)) ≡ true → TakesDeclaration old new (item_declares (plain_item item)) → (n : List ℕ) →
      option_or (net_declared (found new n)) (net_of [] (map plain_item (drop (k + 1) items)) n)
      ≡ option_or (net_declared (found old n)) (net_of [] (map plain_item (drop k items)) n)
  items_step fresh takes n =
      item_step S old new n (map plain_item (drop (k + 1) items)) (plain_item item) fresh takes
      ∙ ap (λ xs. option_or (net_declared (found old n)) (net_of [] (map plain_item xs) n)) (sym (drop_item items k item inside is))

-- ---- a module

nets_joined : (ports : List Port) (items : List PlainItem) (n : List ℕ) → option_or (net_of ports [] n) (net_of [] items n) ≡ net_of ports items n
nets_joined [] items n = refl
nets_joined (port ∷ ports) items n =
    elim (cases_Bool (bytes_eq port.name n)) [
      | inl y ↦ rw y refl
      | inr f ↦ rw f (nets_joined ports items n)
    ]

pub module_nets : (S : Type 0) (first middle last : Names S) (ports : List Port) (items : List PlainItem) → first.entries ≡ [] →
    TakesNets first middle ports [] → TakesNets middle last [] items → (n : List ℕ) → net_declared (found last n) ≡ net_of ports items n
module_nets S first middle last ports items empty one two n =
    two n
    ∙ ap (λ o. option_or o (net_of [] items n)) (one n)
    ∙ ap (λ es. option_or (option_or (net_declared (lookup (λ (key : Bor (List ℕ)). bytes_eq n key.now) es)) (net_of ports [] n)) (net_of [] items n)) empty
    ∙ nets_joined ports items n

-- ---- the modules before a place, and their places by name

short : (p : PlainModule → Bool) (xs : List PlainModule) → position_or_len p xs ≤ length xs
short p [] = omega arith
short p (x ∷ xs) = elim (cases_Bool (p x)) [ inl y ↦ rw y (omega arith) | inr n ↦ rw n (let h = short p xs in omega arith) ]

placed : (at end at2 end2 : ℕ) (b : Bool) → at ≤ end → at2 ≡ cond (eqb at end) (end + cond b 0 1) at → end2 ≡ end + 1 →
    cond (nat_lt at2 end2) (Some at2) None ≡ option_or (cond (nat_lt at end) (Some at) None) (if b then Some end else None)
placed at end at2 end2 b low next long =
    elim (cases_Bool (nat_lt at end)) [
      | inl y ↦ (let apart : eqb at end ≡ false = grind (arith, nat_tests, eqb_tells at end) in
          let is : at2 ≡ at = next ∙ rw apart refl in
          let there : nat_lt at2 end2 ≡ true = grind (arith, nat_tests) in
          rw (y, there) (ap Some is))
      | inr n ↦ (let same : at ≡ end = grind (arith, nat_tests) in
          let tested : eqb at end ≡ true = grind (arith, eqb_tells at end) in
          let is : at2 ≡ end + cond b 0 1 = next ∙ rw tested refl in
          rw n (last b is))
    ]
  where
    last : (c : Bool) → at2 ≡ end + cond c 0 1 → cond (nat_lt at2 end2) (Some at2) None ≡ (if c then Some end else None)
    last true is = let there : nat_lt at2 end2 ≡ true = grind (arith, nat_tests) in let same : at2 ≡ end = omega arith in rw there (ap Some same)
    last false is = let away : nat_lt at2 end2 ≡ false = grind (arith, nat_tests) in rw away refl

pub place_push : (xs : List PlainModule) (m : PlainModule) (n : List ℕ) →
    place_named (xs ++ m ∷ []) n ≡ option_or (place_named xs n) (if bytes_eq m.name n then Some (length xs) else None)
place_push xs m n =
    let p : PlainModule → Bool = λ q. bytes_eq q.name n in
    placed (position_or_len p xs) (length xs) (position_or_len p (xs ++ m ∷ [])) (length (xs ++ m ∷ [])) (bytes_eq m.name n)
    (short p xs) (position_or_len_push p xs m) (length-append xs (m ∷ []))

places_push : (S : Type 0) (old new : IndexMap (Bor (List ℕ)) ℕ S) (text : List PlainModule) (m : PlainModule) →
    ((n : List ℕ) → found old n ≡ place_named text n) → is_some (found old m.name) ≡ false → Gives old new m.name (length text) →
    (n : List ℕ) → found new n ≡ place_named (text ++ m ∷ []) n
places_push S old new text m at absent gives n =
    elim (cases_Bool (bytes_eq n m.name)) [
      | inl y ↦ (let got : found new n ≡ Some (length text) = gives n ∙ rw y refl in
          let same : m.name ≡ n = sym ((bytes_eq-Decides n m.name).0 y) in
          let none : place_named text n ≡ None = sym (at n) ∙ subst (λ (q : List ℕ). found old q ≡ None) same (absent_none (found old m.name) absent) in
          let back : bytes_eq m.name n ≡ true = bytes_sym m.name n ∙ y in
          let right : (if bytes_eq m.name n then Some (length text) else None) ≡ Some (length text) = rw back refl in
          got ∙ sym (place_push text m n ∙ ap (λ o. option_or o (if bytes_eq m.name n then Some (length text) else None)) none ∙ right))
      | inr f ↦ (let got : found new n ≡ found old n = gives n ∙ rw f refl in
          let back : bytes_eq m.name n ≡ false = bytes_sym m.name n ∙ f in
          let right : (if bytes_eq m.name n then Some (length text) else None) ≡ None = rw back refl in
          got ∙ at n ∙ sym (place_push text m n ∙ ap (option_or (place_named text n)) right ∙ or_none (place_named text n)))
    ]

known_push : (xs : List Known) (known : Known) → map known_module (xs ++ known ∷ []) ≡ map known_module xs ++ known_module known ∷ []
known_push [] known = refl
known_push (x ∷ xs) known = ap (λ rest. known_module x ∷ rest) (known_push xs known)

known_length : (xs : List Known) → length (map known_module xs) ≡ length xs
known_length [] = refl
known_length (x ∷ xs) = ap suc (known_length xs)

-- a loop over modules
module _ (knowns more : List Known) (known : Known) (put : more ≡ knowns ++ known ∷ []) (m : Module) (same : known.«module».now ≡ m) where
  pub text_step : (modules : List Module) (k : ℕ) → k < length modules → m ≡ get_or modules k m →
      map known_module more ++ map plain_module (drop (k + 1) modules) ≡ map known_module knowns ++ map plain_module (drop k modules)
  text_step modules k inside is =
      ap (λ xs. map known_module xs ++ map plain_module (drop (k + 1) modules)) put
      ∙ ap (λ xs. xs ++ map plain_module (drop (k + 1) modules)) (known_push knowns known)
      ∙ append_assoc (map known_module knowns) (known_module known ∷ []) (map plain_module (drop (k + 1) modules))
      ∙ ap (λ q. map known_module knowns ++ (plain_module q ∷ map plain_module (drop (k + 1) modules))) same
      ∙ ap (λ ms. map known_module knowns ++ map plain_module ms) (sym (drop_item modules k m inside is))

  pub nets_step : All (λ (q : Known). HasNets q.names (known_module q)) knowns → HasNets known.names (plain_module m) →
      All (λ (q : Known). HasNets q.names (known_module q)) more
  nets_step before last =
      subst (λ (xs : List Known). All (λ (q : Known). HasNets q.names (known_module q)) xs) (sym put)
      (All-push (λ (q : Known). HasNets q.names (known_module q)) knowns known before
      (subst (λ (q : Module). HasNets known.names (plain_module q)) (sym same) last))

  pub places_step : (S : Type 0) (old new : IndexMap (Bor (List ℕ)) ℕ S) (count : ℕ) → count ≡ length knowns →
      ((n : List ℕ) → found old n ≡ place_named (map known_module knowns) n) → is_some (found old m.name) ≡ false → Gives old new m.name count →
      (n : List ℕ) → found new n ≡ place_named (map known_module more) n
  places_step S old new count counted at absent gives n =
      let length_is : count ≡ length (map known_module knowns) = counted ∙ sym (known_length knowns) in
      places_push S old new (map known_module knowns) (plain_module m) at absent (subst (λ (v : ℕ). Gives old new m.name v) length_is gives) n
      ∙ ap (λ q. place_named (map known_module knowns ++ plain_module q ∷ []) n) (sym same)
      ∙ ap (λ text. place_named text n) (sym (known_push knowns known) ∙ ap (map known_module) (sym put))
