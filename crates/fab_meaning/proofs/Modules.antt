-- What holds of each module of a text holds of the module at each path.
use Rattle.std.proofs.Common.{◌≡◌, ℕ, List, [], ◌∷◌, Option, Some, None, All, Contains, refl, subst, inl, inr, sym, ◌∙◌}
use Rattle.std.specs.Str.{bytes_eq}
use Rattle.std.proofs.lemmas.Bool.{cases_Bool}
use Rattle.std.proofs.lemmas.List.Elements.{All-nil, All-cons, All-head, All-tail}
use Rattle.fab_syntax.specs.Plain.{PlainModule}
use Rattle.fab_syntax.specs.Declarations.{module_named}
use Rattle.fab_meaning.specs.Points.{Path, Found, last_of, instance_in, module_of, module_at}

-- what holds of all elements holds of one that is there
pub all_holds : {X : Type 0} (P : X → Type 0) (xs : List X) (x : X) → All P xs → Contains xs x → P x
all_holds P xs x all c = subst P c.2 (all c.0 x c.1)

-- a fact of each element, one after another
abbrev pub Each : {X : Type 0} → (X → Type 0) → List X → Type 0
Each P [] = Unit {0}
Each P (x ∷ xs) = P x × Each P xs

pub each_all : {X : Type 0} (P : X → Type 0) (xs : List X) → Each P xs → All P xs
each_all P [] each = All-nil P
each_all P (x ∷ xs) each = All-cons P x xs each.0 (each_all P xs each.1)

module _ (P : PlainModule → Type 0) where
  named_holds : (text : List PlainModule) (name : List ℕ) (m : PlainModule) → All P text → module_named text name ≡ Some m → P m
  named_holds [] name m all e = cc
  named_holds (first ∷ text) name m all e =
      elim (cases_Bool (bytes_eq first.name name)) [
        | inl y ↦ (let found : module_named (first ∷ text) name ≡ Some first = rw y refl in
            let same : first ≡ m = cc in subst P same (All-head P first text all))
        | inr n ↦ (let passed : module_named (first ∷ text) name ≡ module_named text name = rw n refl in
            named_holds text name m (All-tail P first text all) (sym passed ∙ e))
      ]

  last_holds : (text : List PlainModule) (m : PlainModule) → All P text → last_of text ≡ Some m → P m
  last_holds [] m all e = cc
  last_holds (first ∷ []) m all e = let same : first ≡ m = cc in subst P same (All-head P first [] all)
  last_holds (first ∷ second ∷ text) m all e = last_holds (second ∷ text) m (All-tail P first (second ∷ text) all) e

  of_holds : (text : List PlainModule) (found : Option Found) (m : PlainModule) → All P text → module_of text found ≡ Some m → P m
  of_holds text None m all e = cc
  of_holds text (Some found) m all e = named_holds text found.module_name m all e

  pub module_at_holds : (text : List PlainModule) (path : Path) (m : PlainModule) → All P text → module_at text path ≡ Some m → P m
  module_at_holds text [] m all e = last_holds text m all e
  module_at_holds text (i ∷ path) m all e = of_holds text (instance_in (module_at text path) i) m all e
