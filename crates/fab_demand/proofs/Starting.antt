-- Points that start anew.
use Rattle.std.proofs.Common.{◌≡◌, ℕ, zero, suc, ◌+◌, ◌<◌, List, [], ◌∷◌, length, refl, sym, ap, ◌∙◌, subst, inl, inr, arith, slice_get, slice_set}
use Rattle.std.proofs.Common.{slice_index, slice_index_or}
use Rattle.std.proofs.lemmas.Bool.{cases_eq, cases_lt}
use Rattle.fab_systems_laws.specs.Ternary.{Tern as PlainTern}
use Rattle.fab_ternary.specs.declared.Tern.{Tern}
use Rattle.fab_ternary.specs.Terns.{plain_tern}
use Rattle.fab_network.specs.declared.network.Network.{Network}
use Rattle.fab_network.specs.Passes.{kept_tern, EachListed, IsListed}
use Rattle.fab_network.proofs.Kept.{kept_other, kept_same}
use Rattle.fab_demand.specs.inner.Cycles.{start_tern}

pub kept_read : (terns : List Tern) (k : ℕ) (d : Tern) → k < length terns → plain_tern (slice_index_or terns k d) ≡ kept_tern terns k
kept_read [] k d l = absurd (omega arith)
kept_read (t ∷ terns) zero d l = refl
kept_read (t ∷ terns) (suc k) d l = kept_read terns k d (omega arith)

module _ (network : Network) (held : List Tern) (order : List ℕ) where
  abbrev start_of : ℕ → PlainTern
  start_of point = start_tern (kept_tern held point) (slice_get network.drives.items point)

  abbrev pub HaveStarted : (count : ℕ) → List Tern → Type 0
  HaveStarted count terns = EachListed count order (λ point. kept_tern terns point ≡ start_of point)

  -- one more point
  module _ (terns : List Tern) (count : ℕ) (tern : Tern) (room : count < length order) (inside : slice_index order count < length terns)
      (is : plain_tern tern ≡ start_of (slice_index order count)) where
    abbrev here : ℕ
    here = slice_index order count

    at_here : kept_tern (slice_set terns here tern) here ≡ start_of here
    at_here = kept_same terns here tern inside ∙ is

    pub started_more : HaveStarted count terns → HaveStarted (count + 1) (slice_set terns here tern)
    started_more before place l =
        let q = slice_index order place in
        elim (cases_eq q here) [
          | inl e ↦ subst (λ n. kept_tern (slice_set terns here tern) n ≡ start_of n) (sym e) at_here
          | inr n ↦ elim (cases_lt place count) [
            | inl early ↦ kept_other terns here tern q n ∙ before place early
            | inr after ↦ (let e : place ≡ count = omega (arith, l, after) in absurd (n (ap (slice_index order) e)))
          ]
        ]

    pub others_more : (point : ℕ) → (IsListed order point → ⊥) → kept_tern (slice_set terns here tern) point ≡ kept_tern terns point
    others_more point none = kept_other terns here tern point (λ e. none (count, room, sym e))
