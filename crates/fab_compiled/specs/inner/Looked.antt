-- What points have that were looked up one by one.
use Rattle.std.specs.Prelude.{◌≡◌, ℕ, ◌+◌, List, length, map}
use Rattle.fab_solutions_laws.specs.fab_ternary_laws_Shown.{first_terns}
use Rattle.fab_ternary.specs.declared.Tern.{Tern}
use Rattle.fab_ternary.specs.Terns.{plain_tern}
use Rattle.fab_compiled.specs.declared.reading.LookedUp.{LookedUp}
use Rattle.fab_compiled.specs.Terns.{seen}

-- these are what the points of an instance have from a place on
abbrev pub AreLookedUp : List Tern → List ℕ → (first : ℕ) → LookedUp → Type 0
AreLookedUp terns leads first looked =
    map plain_tern looked.bits.items ≡ first_terns (length looked.bits.items) (λ k. seen terns leads (first + (looked.place + k)))
