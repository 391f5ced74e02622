-- The nets of an implementation, one tree after another.
use Rattle.std.proofs.Common.{◌≡◌, ◌↔◌, ℕ, ◌+◌, ◌<◌, Bool, true, false, List, [], ◌∷◌, ◌++◌, map, length, get_or, take, All, Contains, Option, Some, None, MatchOption, IsTrue, nat_eq, refl, sym, ap, ◌∙◌, subst, inl, inr, arith}
use Rattle.std.specs.List.{list_any}
use Rattle.std.proofs.lemmas.Bool.{cases_Bool, false≢true}
use Rattle.std.proofs.lemmas.Bool.Decides.{Decides-eqb}
use Rattle.std.proofs.lemmas.List.{get_or-take, length-take-le, map-append}
use Rattle.indexmap.specs.IndexSet.{insert_key}
use Rattle.fab_implementation.specs.fab_model.specs.Grid.{PlainFabric}
use Rattle.fab_implementation.specs.fab_netlist.specs.declared.net_id.NetId.{NetId}
use Rattle.fab_implementation.specs.fab_netlist.specs.Plain.{IsAt}
use Rattle.fab_implementation.specs.fab_netlist.specs.Packed.{PlainPacked}
use Rattle.fab_implementation.specs.Plain.{Edge, PlainTree, PlainImplementation}
use Rattle.fab_legal.specs.Turns.{FirstAreRight, IsFirstWrongAt}
use Rattle.fab_legal.specs.WellMade.{IsWellMadePacked}
use Rattle.fab_implementation.specs.Inputs.{InputsAreLines, NamesInput}
use Rattle.fab_implementation.proofs.Inputs.{NamesLine, names_line}
use Rattle.fab_legal.specs.Nets.{net_of, IsRightStart, IsRightName, IsRightNet}
use Rattle.fab_legal.specs.Legal.{ArePlaced}
use Rattle.fab_legal.specs.Broken.{IsNetItem, IsWireText, net_text, name, start}
use Rattle.fab_legal.specs.inner.Kept.{AreKept}
use Rattle.fab_legal.specs.inner.Roots.{IsSmall, IsNewNet, packed_id, net_number, tree_number, root_by, IsStart, AreStarts, entered_set}
use Rattle.fab_legal.specs.declared.placed.Placed.{Placed}
use Rattle.fab_legal.proofs.Lists.{right_more, first_wrong}
use Rattle.fab_legal.proofs.Members.{taken_more}
use Rattle.fab_legal.proofs.Sets.{any_in, none_in}
use Rattle.fab_legal.proofs.NetLaws.{exists_small, name_right, right_new, starts_right, starts_wrong}

-- a net whose number is none of the others
pub new_net : (placed : Placed) (numbers : List ℕ) (net : NetId) (n : ℕ) (r : Bool) → IsSmall placed net → n ≡ net_number placed net → r ≡ list_any (nat_eq n) numbers →
    IsTrue (mathlib.Core.Bool.not r) ↔ IsNewNet placed numbers net
new_net placed numbers net n true small is found =
    (λ e. absurd (false≢true e), λ new. absurd (new.1 (subst (λ (m : ℕ). Contains numbers m) is (any_in nat_eq Decides-eqb numbers n (sym found)))))
new_net placed numbers net n false small is found =
    (λ e. (small, λ here. none_in nat_eq Decides-eqb numbers n (sym found) (subst (λ (m : ℕ). Contains numbers m) (sym is) here)), λ new. refl)

-- a new number is put last
pushed : (keys : List ℕ) (k : ℕ) → list_any (nat_eq k) keys ≡ false → insert_key nat_eq keys k ≡ keys ++ k ∷ []
pushed keys k new = rw new refl

not_any : (keys : List ℕ) (k : ℕ) → (Contains keys k → ⊥) → list_any (nat_eq k) keys ≡ false
not_any keys k never = elim (cases_Bool (list_any (nat_eq k) keys)) [ inl there ↦ absurd (never (any_in nat_eq Decides-eqb keys k there)) | inr new ↦ new ]

module _ (fabric : PlainFabric) (packed : PlainPacked) (i : PlainImplementation) (placed : Placed) (made : IsWellMadePacked packed) (kept : AreKept packed i placed)
    (sites : ArePlaced fabric packed i) (lines : InputsAreLines i) (n : ℕ) (tree : PlainTree) (at : IsAt i.trees n tree) (numbers : List ℕ)
    (numbers_are : numbers ≡ map (tree_number placed) (take n i.trees)) (right : FirstAreRight (IsRightNet fabric packed i) i.trees n) where
  abbrev id_of : NetId → NetId
  id_of net = packed_id placed.ins.lines.items net

  own : NamesLine i tree
  own = names_line i tree (subst (λ (t : PlainTree). NamesInput (length i.ins) t.net) at.1 (lines n tree at.0))

  -- a tree before this one, at its place
  earlier : (other : PlainTree) (here : Contains (take n i.trees) other) → (here.0 < n) × IsAt i.trees here.0 other
  earlier other here =
      let few : length (take n i.trees) ≡ n = length-take-le n i.trees (omega (arith, at.0)) in
      let below : here.0 < n = omega (arith, few, here.1) in
      (below, (omega (arith, below, at.0), sym (get_or-take n i.trees here.0 other below) ∙ here.2))

  before_lines : (other : PlainTree) → Contains (take n i.trees) other → NamesLine i other
  before_lines other here =
      let found = earlier other here in
      names_line i other (subst (λ (t : PlainTree). NamesInput (length i.ins) t.net) found.1.1 (lines here.0 other found.1.0))

  before_small : (other : PlainTree) → Contains (take n i.trees) other → IsSmall placed (id_of other.net)
  before_small other here =
      let found = earlier other here in
      exists_small fabric packed i placed made kept sites.cells sites.ports other.net (before_lines other here) (right here.0 other found.0 found.1).name.exists

  pub new_right : IsNewNet placed numbers (id_of tree.net) → IsRightName packed i (take n i.trees) tree
  new_right new =
      name_right fabric packed i placed made kept sites.cells sites.ports (take n i.trees) tree before_lines own before_small new.0
      (λ here. new.1 (subst (λ (l : List ℕ). Contains l (tree_number placed tree)) (sym numbers_are) here))

  right_is_new : IsRightName packed i (take n i.trees) tree → IsNewNet placed numbers (id_of tree.net)
  right_is_new name_is = (
    exists_small fabric packed i placed made kept sites.cells sites.ports tree.net own name_is.exists,
    λ here. right_new fabric packed i placed made kept sites.cells sites.ports (take n i.trees) tree before_lines own before_small name_is
        (subst (λ (l : List ℕ). Contains l (tree_number placed tree)) numbers_are here),
  )

  pub name_item : (IsNewNet placed numbers (id_of tree.net) → ⊥) → IsNetItem fabric packed i (net_text (net_of i tree.net))
  name_item old = name at right (λ name_is. old (right_is_new name_is))

  abbrev Finds : NetId → List Edge → Option ℕ → Type 0
  Finds id edges o = MatchOption o (AreStarts fabric placed id edges) (IsFirstWrongAt (IsStart fabric (root_by fabric placed id) (entered_set edges)) edges)

  module _ (id : NetId) (edges : List Edge) (o : Option ℕ) (id_is : id ≡ id_of tree.net) (edges_are : edges ≡ tree.edges) (found : Finds id edges o) (new : IsNewNet placed numbers id) where
    here_new : IsNewNet placed numbers (id_of tree.net)
    here_new = subst (λ (d : NetId). IsNewNet placed numbers d) id_is new

    found_here : Finds (id_of tree.net) tree.edges o
    found_here = subst (λ (es : List Edge). Finds (id_of tree.net) es o) edges_are (subst (λ (d : NetId). Finds d edges o) id_is found)

    pub start_item : (place : ℕ) (edge : Edge) (text : List ℕ) → o ≡ Some place → edge ≡ get_or tree.edges place edge → IsWireText fabric edge.0 text → IsNetItem fabric packed i text
    start_item place edge text is read named =
        let wrong = starts_wrong fabric packed i placed made kept sites.cells sites.ports tree own here_new.0 (entered_set tree.edges) refl place
        (subst (λ (p : Option ℕ). Finds (id_of tree.net) tree.edges p) is found_here) in
        start at right (new_right here_new) (first_wrong (IsRightStart fabric i tree) tree.edges place edge wrong (wrong.inside, sym read)) named

    net_right : (p : Option ℕ) → Finds (id_of tree.net) tree.edges p → ((place : ℕ) → p ≡ Some place → ⊥) → IsRightNet fabric packed i (take n i.trees) tree
    net_right None starts never = record {
      name = new_right here_new;
      starts = starts_right fabric packed i placed made kept sites.cells sites.ports tree own here_new.0 (entered_set tree.edges) refl starts;
    }
    net_right (Some place) starts never = absurd (never place refl)

    pub nets_more : ((place : ℕ) → o ≡ Some place → ⊥) → FirstAreRight (IsRightNet fabric packed i) i.trees (n + 1)
    nets_more never = right_more (IsRightNet fabric packed i) i.trees n tree right at (net_right o found_here never)

    pub numbers_more : (number : ℕ) (more : List ℕ) → number ≡ net_number placed id → more ≡ insert_key nat_eq numbers number → more ≡ map (tree_number placed) (take (n + 1) i.trees)
    numbers_more number more number_is is =
        let here : number ≡ tree_number placed tree = number_is ∙ ap (net_number placed) id_is in
        let none = not_any numbers number (λ there. new.1 (subst (λ (m : ℕ). Contains numbers m) number_is there)) in
        is ∙ pushed numbers number none ∙ ap (λ (l : List ℕ). l ++ number ∷ []) numbers_are ∙ ap (λ (m : ℕ). map (tree_number placed) (take n i.trees) ++ m ∷ []) here
        ∙ sym (ap (map (tree_number placed)) (taken_more i.trees n tree at) ∙ map-append (tree_number placed) (take n i.trees) (tree ∷ []))
