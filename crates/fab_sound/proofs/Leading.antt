-- Clocks module by module: what serves in the first modules of a library, and whether their items fit.
use Rattle.std.proofs.Common.{◌≡◌, ℕ, zero, suc, ◌+◌, ◌<◌, ◌≤◌, List, [], ◌∷◌, ◌++◌, length, take, get_or, Option, Some, None, true, false, refl, sym, ap, ◌∙◌, subst, inl, inr, append_assoc, append-nil, arith}
use Rattle.std.specs.Prelude.{All, slice_get, vec_len, IfSome}
use Rattle.std.specs.Borrow.{Bor}
use Rattle.std.specs.Bool.{Decides}
use Rattle.std.specs.List.{list_all, list_any}
use Rattle.std.proofs.lemmas.Bool.{cases_lt}
use Rattle.std.proofs.lemmas.Bool.Decides.{Decides-at, not_from_Decides}
use Rattle.std.proofs.lemmas.List.{get_or-map, length-map, take_all}
use Rattle.std.proofs.lemmas.List.Elements.{All-more}
use Rattle.indexmap.specs.IndexMap.{IndexMap}
use Rattle.fab_syntax.specs.Plain.{PlainModule}
use Rattle.fab_syntax.specs.Declarations.{module_named}
use Rattle.fab_syntax.specs.Sound.{InstanceFits, InstancesFitBehind, InstancesFit, ServesAsClock, ClockFits, ClocksFit}
use Rattle.fab_sound.specs.declared.tables.Known.{Known}
use Rattle.fab_sound.specs.declared.tables.Library.{Library}
use Rattle.fab_sound.specs.inner.Checks.{found, is_scalar_entry, HasNets, known_module, library_text, IsLibrary}
use Rattle.fab_sound.specs.inner.Rules.{is_counted, is_counted_below, counts_at, serves_in, item_serves, item_clocks}
use Rattle.fab_sound.proofs.Places.{before_none, before_late, before_inside, before_some, among_all}
use Rattle.fab_sound.proofs.Clocking.{scalar_decides, DecidesBelow, module_serves, module_clocks}

pub of_some : {X : Type 0} (o : Option X) (P : X → Type 0) (x : X) → o ≡ Some x → IfSome o P → P x
of_some {X} o P x e h = subst (λ (q : Option X). IfSome q P) e h

-- ---- modules by their names and places

element : {X : Type 0} (xs : List X) (k : ℕ) → k < length xs → (x : X) × (x ≡ get_or xs k x)
element [] k inside = absurd (omega arith)
element (x ∷ xs) zero inside = (x, refl)
element (x ∷ xs) (suc k) inside = let rest = element xs k (omega arith) in (rest.0, rest.1)

-- the instances of the module at a place fit behind those before
instances_at : (before rest : List PlainModule) → InstancesFitBehind before rest → (k : ℕ) (m : PlainModule) → k < length rest → m ≡ get_or rest k m →
    All (InstanceFits (before ++ take k rest) m) m.items
instances_at before [] fit k m inside is = absurd (omega arith)
instances_at before (x ∷ rest) fit zero m inside is =
    subst (λ (b : List PlainModule). All (InstanceFits b m) m.items) (sym (append-nil before)) (subst (λ (q : PlainModule). All (InstanceFits before q) q.items) (sym is) fit.0)
instances_at before (x ∷ rest) fit (suc k) m inside is =
    subst (λ (b : List PlainModule). All (InstanceFits b m) m.items) (append_assoc before (x ∷ []) (take k rest))
    (instances_at (before ++ x ∷ []) rest fit.1 k m (omega arith) is)

module _ (library : Library) (is : IsLibrary library) (count : ℕ) (name : List ℕ) (below : PlainModule) (named : module_named (take count (library_text library)) name ≡ Some below) where
  placed : (o : Option ℕ) → found library.numbers name ≡ o →
      (k : ℕ) × (found library.numbers name ≡ Some k) × (k < count) × (below ≡ get_or (library_text library) k below) × (module_named (library_text library) name ≡ Some below)
  placed None at = let none = before_none library is name count at in cc
  placed (Some k) at =
      elim (cases_lt k count) [
        | inl before ↦ (let inside = before_inside library is name count k at in
            let known = element library.modules.items k inside in
            let got = before_some library is name count k known.0 at before inside known.1 in
            let same : known_module known.0 ≡ below = let e = got.0 in cc in
            let this : get_or (library_text library) k (known_module known.0) ≡ known_module known.0 =
            get_or-map known_module library.modules.items k known.0 (known_module known.0) inside ∙ ap known_module (sym known.1) in
            let long : vec_len library.modules ≡ length library.modules.items = library.modules.ok.0 in
            let whole = before_some library is name (vec_len library.modules) k known.0 at (omega arith) inside known.1 in
            let all = among_all library is name count (vec_len library.modules) (Some (known_module known.0)) refl whole.0 in
            (k, at, before, subst (λ (m : PlainModule). m ≡ get_or (library_text library) k m) same (sym this), all ∙ ap Some same))
        | inr after ↦ (let none = before_late library is name count k at after in cc)
      ]

-- ---- what serves in the first modules

abbrev pub ServeBefore : {S : Type 0} → Library → List (IndexMap (Bor (List ℕ)) ℕ S) → (count : ℕ) → Type 0
ServeBefore library maps count =
    (k : ℕ) (m : PlainModule) → k < count → m ≡ get_or (library_text library) k m → (name : List ℕ) →
    Decides (is_counted_below (slice_get maps k) name) (ServesAsClock (library_text library) m name)

pub same_before : {S : Type 0} (library : Library) (maps others : List (IndexMap (Bor (List ℕ)) ℕ S)) (count : ℕ) → others ≡ maps → ServeBefore library maps count →
    ServeBefore library others count
same_before {S} library maps others count e h = subst (λ (ms : List (IndexMap (Bor (List ℕ)) ℕ S)). ServeBefore library ms count) (sym e) h

pub pushed_same : {X : Type 0} (xs ys more : List X) (x : X) → more ≡ xs ++ x ∷ [] → ys ≡ xs → more ≡ ys ++ x ∷ []
pushed_same xs ys more x e f = e ∙ ap (λ zs. zs ++ x ∷ []) (sym f)

push_before : {X : Type 0} (xs : List X) (x : X) (k : ℕ) → k < length xs → slice_get (xs ++ x ∷ []) k ≡ slice_get xs k
push_before [] x k inside = absurd (omega arith)
push_before (y ∷ ys) x zero inside = refl
push_before (y ∷ ys) x (suc k) inside = push_before ys x k (omega arith)

push_at : {X : Type 0} (xs : List X) (x : X) (k : ℕ) → length xs ≡ k → slice_get (xs ++ x ∷ []) k ≡ Some x
push_at [] x zero long = refl
push_at [] x (suc k) long = absurd (omega arith)
push_at (y ∷ ys) x zero long = absurd (omega arith)
push_at (y ∷ ys) x (suc k) long = push_at ys x k (omega arith)

module _ (S : Type 0) (library : Library) (maps : List (IndexMap (Bor (List ℕ)) ℕ S)) (k : ℕ) (known : Known) (is : IsLibrary library) (fit : InstancesFit (library_text library))
    (serve : ServeBefore library maps k) (inside : k < length library.modules.items) (here : known ≡ get_or library.modules.items k known) where
  below_decides : DecidesBelow (library_text library) (take k (library_text library)) (serves_in library maps)
  below_decides name below named =
      let at = placed library is k name below named (found library.numbers name) refl in (
        at.4,
        λ port. Decides-at (serves_in library maps name port) (is_counted_below (slice_get maps at.0) port) (ap (λ place. is_counted_below (counts_at maps place) port) at.1)
            (serve at.0 below at.2 at.3 port),
      )

  this : get_or (library_text library) k (known_module known) ≡ known_module known
  this = get_or-map known_module library.modules.items k known (known_module known) inside ∙ ap known_module (sym here)

  within : k < length (library_text library)
  within = let long : length (library_text library) ≡ length library.modules.items = simp length-map in omega arith

  instances : All (InstanceFits (take k (library_text library)) (known_module known)) (known_module known).items
  instances = instances_at [] (library_text library) fit k (known_module known) within (sym this)

  module_decides : Decides (list_all (item_clocks (λ name. is_scalar_entry (found known.names name)) (serves_in library maps)) (known_module known).items)
      (All (ClockFits (library_text library) (known_module known)) (known_module known).items)
  module_decides =
      module_clocks (library_text library) (take k (library_text library)) (known_module known) (serves_in library maps) below_decides instances
      (λ name. is_scalar_entry (found known.names name))
      (scalar_decides _ known.names (known_module known) (subst (λ (q : Known). HasNets q.names (known_module q)) (sym here) (is.nets k known inside)))

  pub fails : list_all (item_clocks (λ name. is_scalar_entry (found known.names name)) (serves_in library maps)) (known_module known).items ≡ false → ¬ ClocksFit (library_text library)
  fails e = λ all.
      not_from_Decides _ module_decides e
      (subst (λ (m : PlainModule). All (ClockFits (library_text library) m) m.items) this (all k (known_module known) within))

  pub fit_more : list_all (item_clocks (λ name. is_scalar_entry (found known.names name)) (serves_in library maps)) (known_module known).items ≡ true →
      All (λ m. All (ClockFits (library_text library) m) m.items) (take k (library_text library)) →
      All (λ m. All (ClockFits (library_text library) m) m.items) (take (k + 1) (library_text library))
  fit_more e before =
      All-more (λ m. All (ClockFits (library_text library) m) m.items) (library_text library) k (known_module known) within before
      (subst (λ (m : PlainModule). All (ClockFits (library_text library) m) m.items) (sym this) (module_decides.0 e))

  pub serve_more : (clocks : IndexMap (Bor (List ℕ)) ℕ S) (more : List (IndexMap (Bor (List ℕ)) ℕ S)) → more ≡ maps ++ clocks ∷ [] → length maps ≡ k →
      ((name : List ℕ) → is_counted clocks name ≡ list_any (item_serves (serves_in library maps) name) (known_module known).items) → ServeBefore library more (k + 1)
  serve_more clocks more put long counts j m before at name =
      elim (cases_lt j k) [
        | inl early ↦ (let same : slice_get more j ≡ slice_get maps j = ap (λ xs. slice_get xs j) put ∙ push_before maps clocks j (omega arith) in
            Decides-at (is_counted_below (slice_get more j) name) (is_counted_below (slice_get maps j) name) (ap (λ o. is_counted_below o name) same) (serve j m early at name))
        | inr late ↦ (let last : j ≡ k = omega arith in
            let got : slice_get more j ≡ Some clocks = ap (λ xs. slice_get xs j) put ∙ push_at maps clocks j (omega arith) in
            let own : known_module known ≡ m =
            sym (at ∙ ap (λ i. get_or (library_text library) i m) last ∙ get_or-map known_module library.modules.items k known m inside ∙ ap known_module (sym here)) in
            Decides-at (is_counted_below (slice_get more j) name) (list_any (item_serves (serves_in library maps) name) (known_module known).items)
            (ap (λ o. is_counted_below o name) got ∙ counts name)
            (subst (λ (q : PlainModule). Decides (list_any (item_serves (serves_in library maps) name) (known_module known).items) (ServesAsClock (library_text library) q name)) own
            (module_serves (library_text library) (take k (library_text library)) (known_module known) (serves_in library maps) below_decides instances name)))
      ]

pub taken_all : (library : Library) (k : ℕ) → length library.modules.items ≤ k → All (λ m. All (ClockFits (library_text library) m) m.items) (take k (library_text library)) →
    ClocksFit (library_text library)
taken_all library k past fit =
    let long : length (library_text library) ≡ length library.modules.items = simp length-map in
    subst (λ (text : List PlainModule). All (λ m. All (ClockFits (library_text library) m) m.items) text) (take_all k (library_text library) (omega arith)) fit
