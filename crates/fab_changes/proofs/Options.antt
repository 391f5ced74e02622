-- What holds where something is found, or where there was memory.
use Rattle.std.proofs.Common.{◌≡◌, ℕ, List, Option, Some, None, OnSome, Result, Ok, Err, is_ok, if◌then◌else◌, sym, subst}
use Rattle.std.specs.Result.{result_ok}

pub on_some : {A : Type 0} {P : Type 0} {Q : Type 0} → (o : Option A) → (P → Q) → OnSome o P → OnSome o Q
on_some None turn is = tt
on_some (Some a) turn is = turn is

-- what was put has these items, if there was memory
pub on_put : {A : Type 0} {E : Type 0} {P : Type 0} → (r : Result A E) (o : Option A) (items more none : List ℕ) → o ≡ result_ok r →
    items ≡ (if is_ok r then more else none) → (items ≡ more → P) → OnSome o P
on_put {P = P} (Ok a) o items more none e is turn = subst (λ (x : Option _). OnSome x P) (sym e) (turn is)
on_put {P = P} (Err a) o items more none e is turn = subst (λ (x : Option _). OnSome x P) (sym e) tt

pub on_both : {A : Type 0} {P : Type 0} {Q : Type 0} {R : Type 0} → (o : Option A) → (P → Q → R) → OnSome o P → OnSome o Q → OnSome o R
on_both None turn p q = tt
on_both (Some a) turn p q = turn p q
