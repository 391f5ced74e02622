-- The expressions that are compiled so far.
use Rattle.std.proofs.Common.{◌≡◌, ℕ, zero, suc, List, [], ◌∷◌, ◌++◌, length, slice_get, slice_set, Some, Result, Ok, Err, IfOk, OnOk, refl, sym, ap, subst, ◌∙◌, ◌⊎◌, inl, inr}
use Rattle.std.proofs.lemmas.List.{length-set}
use Rattle.fab_syntax.specs.Plain.{PlainExpr, PlainModule}
use Rattle.fab_syntax.specs.Sound.{IsSound}
use Rattle.fab_values.specs.Declarations.{declarations}
use Rattle.fab_equations.specs.Instances.{Instance, expressions}
use Rattle.fab_equations.specs.Numbering.{IsInstanceOfNumber}
use Rattle.fab_equations.specs.Tables.{IsExpression}
use Rattle.fab_equations.proofs.ListPlaces.{at_end, kept_in}
use Rattle.fab_equations.proofs.Numbering.{same_value, instances_stand}
use Rattle.fab_compiled.specs.declared.tree.Tree.{Tree}
use Rattle.fab_compiled.specs.Compiling.{IsCompiled}
use Rattle.fab_wiring.specs.declared.trees.Known.{Known}
use Rattle.fab_wiring.specs.declared.trees.Trees.{Trees}
use Rattle.fab_wiring.specs.inner.Trees.{AreTrees, AreKept, IsTreeFor, IsKnown}

set_cases : {X : Type 0} (xs : List X) (k : ℕ) (x : X) (n : ℕ) (y : X) → slice_get (slice_set xs k x) n ≡ Some y →
    (slice_get xs n ≡ Some y) ⊎ ((n ≡ k) × (x ≡ y))
set_cases [] k x n y is = cc
set_cases (z ∷ xs) zero x zero y is = inr (refl, cc)
set_cases (z ∷ xs) zero x (suc n) y is = inl is
set_cases (z ∷ xs) (suc k) x zero y is = inl is
set_cases (z ∷ xs) (suc k) x (suc n) y is =
    elim (set_cases xs k x n y is) [
      | inl before ↦ inl before
      | inr now ↦ inr (ap suc now.0, now.1)
    ]

pub tree_stays : (text : List PlainModule) (old new : List Tree) → AreKept old new → (i : Instance) (expr number : ℕ) → IsTreeFor text old i expr number →
    IsTreeFor text new i expr number
tree_stays text old new kept i expr number for = record { tree = for.tree; is = kept number for.tree for.is; compiled = for.compiled }

-- what is known serves an instance of the module
pub found_serves : (text : List PlainModule) (made : Trees) → AreTrees text made → (instance module_number expr number : ℕ) →
    ((i : Instance) → IsInstanceOfNumber text instance i → module_number ≡ i.number) →
    slice_get made.known.items expr ≡ Some (Some (record { «module» = module_number; tree = number })) →
    (i : Instance) → IsInstanceOfNumber text instance i → IsTreeFor text made.trees.items i expr number
found_serves text made trees instance module_number expr number of is i numbered =
    trees.known expr (record { «module» = module_number; tree = number }) is instance i numbered (sym (of i numbered))

-- an expression that is compiled for an instance
pub compiled_as : (text : List PlainModule) (i : Instance) (expr : ℕ) (first : PlainExpr) (made tree : Tree) (wide : ℕ) →
    slice_get (expressions text) expr ≡ Some first → tree ≡ made →
    IsCompiled (declarations i.here) first made wide → (e : PlainExpr) → IsExpression text expr e → (width : ℕ) × IsCompiled (declarations i.here) e tree width
compiled_as text i expr first made tree wide at is compiled e there = (
  wide,
  subst (λ (x : PlainExpr). IsCompiled (declarations i.here) x tree wide) (same_value (slice_get (expressions text) expr) first e at there)
      (subst (λ (t : Tree). IsCompiled (declarations i.here) first t wide) (sym is) compiled),
)

-- One more expression is compiled, for an instance of a module.
module _ (text : List PlainModule) (sound : IsSound text) (old new : Trees) (instance module_number expr number : ℕ) (tree : Tree)
    (known : new.known.items ≡ slice_set old.known.items expr (Some (record { «module» = module_number; tree = number })))
    (added : new.trees.items ≡ old.trees.items ++ tree ∷ []) (last : number ≡ length old.trees.items)
    (here : Instance) (is_here : IsInstanceOfNumber text instance here) (of : module_number ≡ here.number)
    (compiled : (e : PlainExpr) → IsExpression text expr e → (wide : ℕ) × IsCompiled (declarations here.here) e tree wide) where
  pub trees_kept : AreKept old.trees.items new.trees.items
  trees_kept n other is = ap (λ trees. slice_get trees n) added ∙ kept_in old.trees.items (tree ∷ []) n other is

  serves : (other : ℕ) (i : Instance) → IsInstanceOfNumber text other i → i.number ≡ module_number → IsTreeFor text new.trees.items i expr number
  serves other i numbered in_module =
      let there : slice_get text here.number ≡ Some i.here = ap (slice_get text) (sym of ∙ sym in_module) ∙ (instances_stand text sound other i numbered).1 in
      let same : here.here ≡ i.here = same_value (slice_get text here.number) here.here i.here (instances_stand text sound instance here is_here).1 there in
      record {
        tree = tree;
        is = ap (λ trees. slice_get trees number) added ∙ ap (slice_get (old.trees.items ++ tree ∷ [])) last ∙ at_end old.trees.items tree [];
        compiled = λ e is. let made = compiled e is in (made.0, subst (λ (m : PlainModule). IsCompiled (declarations m) e tree made.0) same made.1);
      }

  pub added_serves : (i : Instance) → IsInstanceOfNumber text instance i → IsTreeFor text new.trees.items i expr number
  added_serves i numbered = serves instance i numbered (ap (λ (j : Instance). j.number) (same_value _ i here numbered is_here) ∙ sym of)

  known_after : AreTrees text old → (x : ℕ) (k : Known) → slice_get new.known.items x ≡ Some (Some k) → IsKnown text new.trees.items x k
  known_after trees x k is =
      elim (set_cases old.known.items expr (Some (record { «module» = module_number; tree = number })) x (Some k) (ap (λ xs. slice_get xs x) (sym known) ∙ is)) [
        | inl before ↦ λ other i numbered in_module. tree_stays text old.trees.items new.trees.items trees_kept i x k.tree (trees.known x k before other i numbered in_module)
        | inr now ↦ (let same : record { «module» = module_number; tree = number } ≡ k = cc in
            λ other i numbered in_module.
            subst (λ (y : ℕ). IsTreeFor text new.trees.items i y k.tree) (sym now.0)
            (subst (λ (j : Known). IsTreeFor text new.trees.items i expr j.tree) same (serves other i numbered (in_module ∙ sym (ap (λ (j : Known). j.«module») same)))))
      ]

  pub are_trees : AreTrees text old → AreTrees text new
  are_trees trees = record {
    long = ap length known ∙ length-set old.known.items expr (Some (record { «module» = module_number; tree = number })) ∙ trees.long;
    known = known_after trees;
  }

-- ---- what follows where an expression could be added

pub ok_all : {E : Type 0} (K N : ℕ → Type 0) (T G : Type 0) (r : Result ℕ E) → IfOk r K → OnOk r T → IfOk r N → ((n : ℕ) → K n → T → N n → G) → OnOk r G
ok_all K N T G (Ok n) k t l f = f n k t l
ok_all K N T G (Err e) k t l f = t

pub ok_each : {E : Type 0} (K N : ℕ → Type 0) (T : Type 0) (G : ℕ → Type 0) (r : Result ℕ E) → IfOk r K → OnOk r T → IfOk r N → ((n : ℕ) → K n → T → N n →
    G n) → IfOk r G
ok_each K N T G (Ok n) k t l f = f n k t l
ok_each K N T G (Err e) k t l f = t
