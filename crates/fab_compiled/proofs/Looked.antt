-- What was found of points that were looked up serves for each row of points among them.
use Rattle.std.proofs.Common.{◌≡◌, ℕ, ◌+◌, ◌-◌, ◌≤◌, List, length, take, drop, sym, ap, ◌∙◌, arith}
use Rattle.std.proofs.lemmas.List.{drop-map, take-map}
use Rattle.fab_systems_laws.specs.Ternary.{Tern}
use Rattle.fab_solutions_laws.specs.fab_ternary_laws_Shown.{first_terns}
use Rattle.fab_ternary.specs.declared.Tern.{Tern as Kept}
use Rattle.fab_ternary.specs.Terns.{plain_tern}
use Rattle.fab_compiled.specs.Terns.{seen}
use Rattle.fab_compiled.proofs.Compiling.{drop_first, take_first}
use Rattle.fab_compiled.proofs.TreesGrow.{same_first}
use Rattle.fab_compiled.proofs.Written.{plain}

module _ (terns : List Kept) (leads : List ℕ) (first place : ℕ) where
  abbrev at : ℕ → Tern
  at k = seen terns leads (first + (place + k))

  -- a row of points among those that were looked up
  pub part_looked : (kept : List Kept) → plain kept ≡ first_terns (length kept) at → (from count begin : ℕ) → place + from ≡ begin →
      from + count ≤ length kept → plain (take count (drop from kept)) ≡ first_terns count (λ k. seen terns leads (first + (begin + k)))
  part_looked kept is from count begin here inside =
      sym (take-map plain_tern count (drop from kept))
      ∙ ap (take count) (sym (drop-map plain_tern from kept) ∙ ap (drop from) is ∙ drop_first from (length kept) at (omega (arith, inside)))
      ∙ take_first count (length kept - from) (λ k. at (from + k)) (omega (arith, inside))
      ∙ same_first count (λ k. at (from + k)) (λ k. seen terns leads (first + (begin + k)))
      (λ k l. ap (λ n. seen terns leads (first + n)) (omega (arith, here)))
