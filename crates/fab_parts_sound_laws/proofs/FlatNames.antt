-- The names and the drivers of a module without instances, whose nets are declared before its items that drive them.
use Rattle.std.proofs.Common.{◌≡◌, ℕ, zero, suc, ◌<◌, List, [], ◌∷◌, ◌++◌, refl, sym, ap, ◌∙◌, subst, subst₂, All, Contains, append-nil, inl, inr, arith, Some}
use Rattle.std.specs.Str.{bytes_eq}
use Rattle.std.proofs.lemmas.Bool.{cases_Bool}
use Rattle.std.proofs.lemmas.List.Elements.{All-cons, All-append, All-head, All-tail, All-weaker}
use Rattle.fab_syntax.specs.declared.tree.Shape.{Shape}
use Rattle.fab_syntax.specs.declared.tree.Port.{Port}
use Rattle.fab_syntax.specs.Plain.{PlainExpr, PlainItem, PlainModule, wire, reg, assign, latch, clocked, instance}
use Rattle.fab_syntax.specs.Sound.{use_of, uses, refusals, mentions_in, PortIsDriven, ItemIsDriven}
use Rattle.fab_syntax.specs.Declarations.{item_shape}
use Rattle.fab_tile_drives_laws.proofs.fab_meaning_Dependence.{same_name}
use Rattle.fab_tile_drives_laws.specs.fab_model_Tiles.{counted}
use Rattle.fab_parts_sound_laws.specs.Fits.{FitsIn}
use Rattle.fab_parts_sound_laws.proofs.Names.{AreApart, IsNet, IsKnown, UsesNets, OwnKnown, nets, net_names, instance_names, names_fit, uses_known}
use Rattle.fab_parts_sound_laws.proofs.Counts.{driven_names, held_names, IsPortAmong, IsItemAmong, port_driven, item_driven}
use Rattle.fab_parts_sound_laws.proofs.Expressions.{Holds, every}
use Rattle.fab_parts_sound_laws.proofs.Flat.{ItemFits, flat_fits}

-- ---- names

-- the names of an item that drives a net are among these
abbrev pub UsesOnly : (names : List (List ℕ)) → PlainItem → Type 0
UsesOnly names (assign target e) = Contains names target × Holds (OwnKnown names) e
UsesOnly names (latch target gate e) = Contains names target × Holds (OwnKnown names) gate × Holds (OwnKnown names) e
UsesOnly names (clocked clock target e) = Contains names clock × Contains names target × Holds (OwnKnown names) e
UsesOnly names _ = ⊥

module _ (names : List (List ℕ)) where
  known : (e : PlainExpr) → Holds (OwnKnown names) e → All (IsKnown names) (uses e)
  known e holds = uses_known names e (every (OwnKnown names) e holds)

  only_uses : (item : PlainItem) → UsesOnly names item → UsesNets names item
  only_uses (wire shape name) only = absurd only
  only_uses (reg shape name) only = absurd only
  only_uses (assign target e) only = All-cons (IsKnown names) (use_of target) (uses e) only.0 (known e only.1)
  only_uses (latch target gate e) only =
      All-append (IsKnown names) (uses gate) (use_of target ∷ uses e) (known gate only.1) (All-cons (IsKnown names) (use_of target) (uses e) only.0 (known e only.2))
  only_uses (clocked clock target e) only =
      All-cons (IsKnown names) (use_of clock) (use_of target ∷ uses e) only.0 (All-cons (IsKnown names) (use_of target) (uses e) only.1 (known e only.2))
  only_uses (instance module_name i joins) only = absurd only

  no_instance_names : (items : List PlainItem) → All (UsesOnly names) items → instance_names items ≡ []
  no_instance_names [] all = refl
  no_instance_names (wire shape name ∷ items) all = no_instance_names items (All-tail (UsesOnly names) (wire shape name) items all)
  no_instance_names (reg shape name ∷ items) all = no_instance_names items (All-tail (UsesOnly names) (reg shape name) items all)
  no_instance_names (assign target e ∷ items) all = no_instance_names items (All-tail (UsesOnly names) (assign target e) items all)
  no_instance_names (latch target gate e ∷ items) all = no_instance_names items (All-tail (UsesOnly names) (latch target gate e) items all)
  no_instance_names (clocked clock target e ∷ items) all = no_instance_names items (All-tail (UsesOnly names) (clocked clock target e) items all)
  no_instance_names (instance module_name i joins ∷ items) all = absurd (All-head (UsesOnly names) (instance module_name i joins) items all)

-- counted registers declare counted names
pub counted_nets : (shape : Shape) (n : ℕ) (f : ℕ → List ℕ) → net_names (counted n (λ i. reg shape (f i))) ≡ counted n f
unfolding counted
counted_nets shape zero f = refl
counted_nets shape (suc n) f = ap (λ rest. f 0 ∷ rest) (counted_nets shape n (λ i. f (suc i)))

-- each of them is found with their shape
pub register_shape : (shape : Shape) (f : ℕ → List ℕ) (rest : List PlainItem) (n i : ℕ) → i < n → item_shape (counted n (λ k. reg shape (f k)) ++ rest) (f i) ≡ Some shape
unfolding counted
register_shape shape f rest zero i within = absurd (omega arith)
register_shape shape f rest (suc n) zero within = rw same_name refl
register_shape shape f rest (suc n) (suc i) within =
    elim (cases_Bool (bytes_eq (f 0) (f (suc i)))) [
      | inl same ↦ rw same refl
      | inr other ↦ rw other (register_shape shape (λ k. f (suc k)) rest n i (omega arith))
    ]

-- ---- a module by its parts

-- a module without instances: its nets, the items that drive them, the names of the nets, and those that are driven and held
pub record IsFlat (text : List PlainModule) (m : PlainModule) (declarations rest : List PlainItem) (names driven held : List (List ℕ)) : Type 0 where
  pub in_order : m.items ≡ declarations ++ rest
  pub declare : All IsNet declarations
  pub declared : nets m.ports declarations ≡ names
  pub names_apart : AreApart names
  pub used : All (UsesOnly names) rest
  pub fit : All (ItemFits m) rest
  pub drives : driven_names text m.items ≡ driven
  pub holds : held_names m.items ≡ held
  pub driven_apart : AreApart driven
  pub held_apart : AreApart held
  pub ports_among : All (λ port. IsPortAmong driven held port.input port.name) m.ports
  pub nets_among : All (IsItemAmong driven held) declarations

net_fits : (m : PlainModule) (item : PlainItem) → IsNet item → ItemFits m item
net_fits m (wire shape name) is = tt
net_fits m (reg shape name) is = tt
net_fits m (assign target e) is = absurd is
net_fits m (latch target gate e) is = absurd is
net_fits m (clocked clock target e) is = absurd is
net_fits m (instance module_name i joins) is = absurd is

used_among : (names driven held : List (List ℕ)) (item : PlainItem) → UsesOnly names item → IsItemAmong driven held item
used_among names driven held (wire shape name) only = absurd only
used_among names driven held (reg shape name) only = absurd only
used_among names driven held (assign target e) only = tt
used_among names driven held (latch target gate e) only = tt
used_among names driven held (clocked clock target e) only = tt
used_among names driven held (instance module_name i joins) only = absurd only

module _ (text before : List PlainModule) (m : PlainModule) (declarations rest : List PlainItem) (names driven held : List (List ℕ)) (flat : IsFlat text m declarations rest names driven held) where
  names_of_flat : refusals [] (mentions_in m) ≡ []
  names_of_flat =
      let all_names = nets m.ports declarations in
      let known : All (UsesOnly all_names) rest = subst (λ n. All (UsesOnly n) rest) (sym flat.declared) flat.used in
      let apart : AreApart all_names = subst AreApart (sym flat.declared) flat.names_apart in
      names_fit m declarations rest flat.in_order flat.declare
      (subst AreApart (sym (ap (λ others. all_names ++ others) (no_instance_names all_names rest known) ∙ append-nil all_names)) apart)
      (All-weaker (UsesOnly all_names) (UsesNets all_names) (only_uses all_names) rest known)

  items_of_flat : All (ItemFits m) m.items
  items_of_flat =
      subst (All (ItemFits m)) (sym flat.in_order) (All-append (ItemFits m) declarations rest (All-weaker IsNet (ItemFits m) (net_fits m) declarations flat.declare) flat.fit)

  among : All (IsItemAmong driven held) m.items
  among =
      subst (All (IsItemAmong driven held)) (sym flat.in_order)
      (All-append (IsItemAmong driven held) declarations rest flat.nets_among (All-weaker (UsesOnly names) (IsItemAmong driven held) (used_among names driven held) rest flat.used))

  all_driven : AreApart (driven_names text m.items)
  all_driven = subst AreApart (sym flat.drives) flat.driven_apart

  all_held : AreApart (held_names m.items)
  all_held = subst AreApart (sym flat.holds) flat.held_apart

  pub flat_module_fits : FitsIn text before m
  flat_module_fits =
      flat_fits m text before names_of_flat items_of_flat
      (All-weaker (λ (port : Port). IsPortAmong driven held port.input port.name) (PortIsDriven text m)
      (λ port is. port_driven text m all_driven port (subst₂ (λ d h. IsPortAmong d h port.input port.name) (sym flat.drives) (sym flat.holds) is)) m.ports flat.ports_among)
      (All-weaker (IsItemAmong driven held) (ItemIsDriven text m)
      (λ item is. item_driven text m all_driven all_held item (subst₂ (λ d h. IsItemAmong d h item) (sym flat.drives) (sym flat.holds) is)) m.items among)
