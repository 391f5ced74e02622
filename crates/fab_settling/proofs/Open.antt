-- Open points that come to be known.
use Rattle.std.proofs.Common.{◌≡◌, ℕ, zero, suc, ◌+◌, ◌<◌, Bool, true, List, [], ◌∷◌, not, length, refl, sym, ap, ◌∙◌, arith, get_or, slice_index, slice_set}
use Rattle.std.proofs.lemmas.Bool.{false≢true}
use Rattle.fab_systems_laws.specs.Ternary.{unknown, IsBelow}
use Rattle.fab_systems_laws.specs.Ternary.{Tern as PlainTern}
use Rattle.fab_ternary.specs.declared.Tern.{Tern}
use Rattle.fab_ternary.specs.declared.Tern.TheVariants.{No, Yes, Open}
use Rattle.fab_ternary.specs.Terns.{plain_tern, is_known}
use Rattle.fab_compiled.specs.Terns.{seen}
use Rattle.fab_network.specs.Passes.{kept_tern}
use Rattle.fab_network.proofs.Kept.{known_below, rising_set}
use Rattle.fab_settling.specs.Visits.{open_count}

-- an open point that comes to be known
pub open_fewer : (terns : List Tern) (point : ℕ) (t : Tern) → point < length terns → kept_tern terns point ≡ unknown → is_known (plain_tern t) ≡ true →
    open_count terns ≡ 1 + open_count (slice_set terns point t)
open_fewer [] point t l is known_now = absurd (omega arith)
open_fewer (Open ∷ terns) zero No l is known_now = refl
open_fewer (Open ∷ terns) zero Yes l is known_now = refl
open_fewer (Open ∷ terns) zero Open l is known_now = cc
open_fewer (No ∷ terns) zero t l is known_now = cc
open_fewer (Yes ∷ terns) zero t l is known_now = cc
open_fewer (Open ∷ terns) (suc point) t l is known_now = ap (λ n. 1 + n) (open_fewer terns point t (omega arith) is known_now)
open_fewer (No ∷ terns) (suc point) t l is known_now = open_fewer terns point t (omega arith) is known_now
open_fewer (Yes ∷ terns) (suc point) t l is known_now = open_fewer terns point t (omega arith) is known_now

-- an open point
pub open_kept : (terns : List Tern) (point : ℕ) → point < length terns → (b : Bool) → b ≡ not (is_known (plain_tern (get_or terns point No))) → b ≡ true → kept_tern terns point ≡ unknown
open_kept [] point l b is test = absurd (omega arith)
open_kept (No ∷ terns) zero l b is test = absurd (false≢true (sym is ∙ test))
open_kept (Yes ∷ terns) zero l b is test = absurd (false≢true (sym is ∙ test))
open_kept (Open ∷ terns) zero l b is test = refl
open_kept (t ∷ terns) (suc point) l b is test = open_kept terns point (omega arith) b is test

-- a value that is told to be open
pub open_value : (t : Tern) (b : Bool) → b ≡ not (is_known (plain_tern t)) → b ≡ true → plain_tern t ≡ unknown
open_value No b is test = absurd (false≢true (sym is ∙ test))
open_value Yes b is test = absurd (false≢true (sym is ∙ test))
open_value Open b is test = refl

-- where a point comes to be known, no less is known of all points
pub seen_grows : (terns : List Tern) (leads : List ℕ) (point : ℕ) (t : Tern) → point < length terns → kept_tern terns point ≡ unknown →
    (other : ℕ) → IsBelow (seen terns leads other) (seen (slice_set terns point t) leads other)
seen_grows terns leads point t l none other = rising_set terns point t l none (slice_index leads other)

-- what is known stays known
pub known_grows : (t u : PlainTern) → is_known t ≡ true → IsBelow t u → is_known u ≡ true
known_grows t u h k = ap is_known (sym (known_below t u h k)) ∙ h
