-- Parts of a concatenation that are joined, group by group.
use Rattle.std.proofs.Common.{◌≡◌, ℕ, List, [], ◌∷◌, ◌++◌, length, sym, ap, ap₂, ◌∙◌, refl, subst, arith, append_assoc}
use Rattle.std.proofs.lemmas.List.{append-nil}
use Rattle.fab_syntax.specs.Plain.{PlainExpr, PlainExprs, none, more}
use Rattle.fab_values.specs.Declarations.{Declaration, bits_of}
use Rattle.fab_systems_laws.specs.Ternary.{Tern}
use Rattle.fab_solutions_laws.specs.fab_ternary_laws_Values.{tern_value}
use Rattle.fab_compiled.specs.declared.tree.Tree.{Tree, Cat'}
use Rattle.fab_compiled.specs.Trees.{tree_value, tree_width, IsMade, IsBelowPlace}
use Rattle.fab_compiled.specs.Compiling.{named_terns, IsCompiled, AreCompiled, IsJoined, tree_is_constant}
use Rattle.fab_compiled.specs.inner.Joining.{AreJoined}
use Rattle.fab_compiled.proofs.Compiling.{none_compiled}
use Rattle.fab_compiled.proofs.Lengths.{value_length}

none_left : (ts : List Tern) → length ts ≡ 0 → [] ≡ ts
none_left [] e = refl
none_left (t ∷ ts) e = absurd (omega (arith, e))

module _ (ds : List Declaration) where
  -- no bits have no value
  nothing_is : (tree : Tree) (wide : ℕ) → tree_is_constant [] tree → wide ≡ 0 → (at : ℕ → Tern) → [] ≡ tree_value at tree
  nothing_is tree wide is e at =
      let c = none_compiled ds tree wide is e in
      none_left (tree_value at tree) (value_length at tree c.made ∙ c.tree_wide ∙ e)

  pub none_joined : (low group : Tree) (low_wide group_wide : ℕ) → tree_is_constant [] low → low_wide ≡ 0 → tree_is_constant [] group → group_wide ≡ 0 →
      AreJoined ds none low low_wide group group_wide
  none_joined low group low_wide group_wide low_is low_none group_is group_none =
      let a = none_compiled ds low low_wide low_is low_none in
      let b = none_compiled ds group group_wide group_is group_none in
      record {
        low_made = a.made;
        low_tree = a.tree_wide;
        low_below = a.below;
        group_made = b.made;
        group_tree = b.tree_wide;
        group_below = b.below;
        is_wide = omega (arith, a.is_wide, low_none, group_none);
        value = λ at. ap (λ ts. ts ++ tree_value at group) (sym (nothing_is low low_wide low_is low_none at)) ∙ b.value at;
      }

  module _ (es : PlainExprs) (low : Tree) (low_wide : ℕ) (group : Tree) (group_wide : ℕ) (joined : AreJoined ds es low low_wide group group_wide) where
    -- one part more in the group
    pub more_joined : (e : PlainExpr) (high : Tree) (high_wide : ℕ) → IsCompiled ds e high high_wide → (tree : Tree) (wide : ℕ) →
        IsJoined group group_wide high high_wide tree wide → AreJoined ds (more e es) low low_wide tree wide
    more_joined e high high_wide part (Cat' p a w q b) wide (la, lw, rb, sum) = record {
      low_made = joined.low_made;
      low_tree = joined.low_tree;
      low_below = joined.low_below;
      group_made = (ap tree_width la ∙ joined.group_tree ∙ sym lw, subst IsMade (sym la) joined.group_made, subst IsMade (sym rb) part.made);
      group_tree = omega (arith, lw, sum, ap tree_width rb, part.tree_wide);
      group_below = (subst (IsBelowPlace (bits_of ds)) (sym la) joined.group_below, subst (IsBelowPlace (bits_of ds)) (sym rb) part.below);
      is_wide = omega (arith, sum, joined.is_wide, part.is_wide);
      value = λ at.
          ap₂ (λ ts us. tree_value at low ++ (ts ++ us)) (ap (tree_value at) la) (ap (tree_value at) rb ∙ part.value at)
          ∙ sym (append_assoc (tree_value at low) (tree_value at group) (tern_value (named_terns ds at) e))
          ∙ ap (λ ts. ts ++ tern_value (named_terns ds at) e) (joined.value at);
    }
    more_joined e high high_wide part tree wide is = absurd is

    -- all parts in one
    pub closed : (tree : Tree) (wide : ℕ) → IsJoined low low_wide group group_wide tree wide → AreCompiled ds es tree wide
    closed (Cat' p a w q b) wide (la, lw, rb, sum) = record {
      made = (ap tree_width la ∙ joined.low_tree ∙ sym lw, subst IsMade (sym la) joined.low_made, subst IsMade (sym rb) joined.group_made);
      tree_wide = omega (arith, lw, sum, ap tree_width rb, joined.group_tree);
      is_wide = omega (arith, sum, joined.is_wide);
      below = (subst (IsBelowPlace (bits_of ds)) (sym la) joined.low_below, subst (IsBelowPlace (bits_of ds)) (sym rb) joined.group_below);
      value = λ at. ap₂ (λ ts us. ts ++ us) (ap (tree_value at) la) (ap (tree_value at) rb) ∙ joined.value at;
    }
    closed tree wide is = absurd is

    -- a group alone
    pub alone : low_wide ≡ 0 → AreCompiled ds es group group_wide
    alone e = record {
      made = joined.group_made;
      tree_wide = joined.group_tree;
      is_wide = omega (arith, joined.is_wide, e);
      below = joined.group_below;
      value = λ at.
          ap (λ ts. ts ++ tree_value at group) (none_left (tree_value at low) (value_length at low joined.low_made ∙ joined.low_tree ∙ e))
          ∙ joined.value at;
    }

    -- the group is joined to those before it, and a new one has no parts
    pub flushed : (tree next : Tree) (wide next_wide : ℕ) → IsJoined low low_wide group group_wide tree wide → tree_is_constant [] next → next_wide ≡ 0 →
        AreJoined ds es tree wide next next_wide
    flushed tree next wide next_wide is next_is next_none =
        let a = closed tree wide is in
        let b = none_compiled ds next next_wide next_is next_none in
        record {
          low_made = a.made;
          low_tree = a.tree_wide;
          low_below = a.below;
          group_made = b.made;
          group_tree = b.tree_wide;
          group_below = b.below;
          is_wide = omega (arith, a.is_wide, next_none);
          value = λ at. ap (λ ts. tree_value at tree ++ ts) (sym (nothing_is next next_wide next_is next_none at)) ∙ append-nil (tree_value at tree) ∙ a.value at;
        }
