-- Values that are drawn, point by point.
use Rattle.std.proofs.Common.{◌≡◌, ℕ, zero, suc, ◌+◌, ◌<◌, ◌≤◌, Bool, true, false, List, [], ◌∷◌, Some, length, refl, sym, ap, ◌∙◌, subst, inl, inr, arith, slice_set}
use Rattle.std.specs.List.{slice_get}
use Rattle.std.proofs.lemmas.Bool.{cases_eq}
use Rattle.std.proofs.lemmas.List.{length-set}
use Rattle.std.proofs.lemmas.Option.{slice_get_within}
use Rattle.rand_pcg.specs.Lcg.{Lcg}
use Rattle.fab_systems_laws.specs.Ternary.{known}
use Rattle.fab_ternary.specs.declared.Tern.{Tern}
use Rattle.fab_ternary.specs.Terns.{plain_tern}
use Rattle.fab_network.specs.Passes.{kept_tern}
use Rattle.fab_draws.specs.Draws.{after, is_one, word_at}
use Rattle.fab_draws.proofs.Drawing.{after_none, more_drawn, word_here}
use Rattle.fab_stepping.specs.Drawing.{AreDrawn, marked_before}
use Rattle.fab_stepping.proofs.Reading.{written, not_written}

-- ---- how many points are marked

count_more : (mark : Bool) (marks : List Bool) (point : ℕ) → slice_get marks point ≡ Some mark → marked_before mark marks (suc point) ≡ marked_before mark marks point + 1
count_more mark [] point e = cc
count_more true (true ∷ marks) zero e = refl
count_more true (false ∷ marks) zero e = cc
count_more false (true ∷ marks) zero e = cc
count_more false (false ∷ marks) zero e = refl
count_more true (true ∷ marks) (suc point) e = omega (arith, count_more true marks point e)
count_more true (false ∷ marks) (suc point) e = count_more true marks point e
count_more false (true ∷ marks) (suc point) e = count_more false marks point e
count_more false (false ∷ marks) (suc point) e = omega (arith, count_more false marks point e)

count_same : (mark : Bool) (marks : List Bool) (point : ℕ) → (slice_get marks point ≡ Some mark → ⊥) → marked_before mark marks (suc point) ≡ marked_before mark marks point
count_same mark [] zero other = refl
count_same mark [] (suc point) other = refl
count_same true (true ∷ marks) zero other = absurd (other refl)
count_same true (false ∷ marks) zero other = refl
count_same false (true ∷ marks) zero other = refl
count_same false (false ∷ marks) zero other = absurd (other refl)
count_same true (true ∷ marks) (suc point) other = omega (arith, count_same true marks point other)
count_same true (false ∷ marks) (suc point) other = count_same true marks point other
count_same false (true ∷ marks) (suc point) other = count_same false marks point other
count_same false (false ∷ marks) (suc point) other = omega (arith, count_same false marks point other)

pub one_counted : (mark : Bool) (marks : List Bool) (point : ℕ) → slice_get marks point ≡ Some mark → marked_before mark marks (point + 1) ≡ marked_before mark marks point + 1
one_counted mark marks point e = let next : point + 1 ≡ suc point = omega arith in ap (marked_before mark marks) next ∙ count_more mark marks point e

pub none_counted : (mark : Bool) (marks : List Bool) (point : ℕ) → (slice_get marks point ≡ Some mark → ⊥) → marked_before mark marks (point + 1) ≡ marked_before mark marks point
none_counted mark marks point other = let next : point + 1 ≡ suc point = omega arith in ap (marked_before mark marks) next ∙ count_same mark marks point other

-- ---- draws

pub record DrawnSoFar (start : Lcg) (marks : List Bool) (mark : Bool) (old now : List Tern) (count : ℕ) (random : Lcg) : Type 0 where
  pub long : length now ≡ length old
  pub drawn : (point : ℕ) → point < count → slice_get marks point ≡ Some mark → kept_tern now point ≡ known (is_one (word_at start (marked_before mark marks point)))
  pub others : (point : ℕ) → (slice_get marks point ≡ Some mark → ⊥) → kept_tern now point ≡ kept_tern old point
  pub rest : random ≡ after (marked_before mark marks count) start

pub drawn_none : (start : Lcg) (marks : List Bool) (mark : Bool) (old : List Tern) → DrawnSoFar start marks mark old old 0 start
drawn_none start marks mark old = record { long = refl; drawn = λ point l e. absurd (omega arith); others = λ point other. refl; rest = sym (after_none start) }

pub drawn_past : (start : Lcg) (marks : List Bool) (mark : Bool) (old now : List Tern) (point : ℕ) (random : Lcg) → (slice_get marks point ≡ Some mark → ⊥) →
    DrawnSoFar start marks mark old now point random → DrawnSoFar start marks mark old now (point + 1) random
drawn_past start marks mark old now point random otherwise so_far = record {
  long = so_far.long;
  drawn = λ other l e.
      elim (cases_eq other point) [
        | inl same ↦ absurd (otherwise (ap (slice_get marks) (sym same) ∙ e))
        | inr apart ↦ so_far.drawn other (omega (arith, apart)) e
      ];
  others = so_far.others;
  rest = so_far.rest ∙ ap (λ n. after n start) (sym (none_counted mark marks point otherwise));
}

pub drawn_one : (start : Lcg) (marks : List Bool) (mark : Bool) (old now new : List Tern) (point : ℕ) (random next : Lcg) (bit : Bool) (t : Tern) →
    slice_get marks point ≡ Some mark → new ≡ slice_set now point t → point < length now → plain_tern t ≡ known bit → bit ≡ is_one (word_at random 0) →
    next ≡ after 1 random → DrawnSoFar start marks mark old now point random → DrawnSoFar start marks mark old new (point + 1) next
drawn_one start marks mark old now new point random next bit t at is less value word drew so_far =
    let n = marked_before mark marks point in
    let here : n + 0 ≡ n = omega arith in
    let bit_is : bit ≡ is_one (word_at start n) = word ∙ ap is_one (word_here n start random so_far.rest ∙ ap (word_at start) here) in
    record {
      long = ap length is ∙ length-set now point t ∙ so_far.long;
      drawn = λ other l e.
          elim (cases_eq other point) [
            | inl same ↦
                subst (λ (k : ℕ). kept_tern new k ≡ known (is_one (word_at start (marked_before mark marks k)))) (sym same)
                (written now new point t is less ∙ value ∙ ap known bit_is)
            | inr apart ↦ not_written now new point t is other apart ∙ so_far.drawn other (omega (arith, apart)) e
          ];
      others = λ other otherwise. not_written now new point t is other (λ e. otherwise (ap (slice_get marks) e ∙ at)) ∙ so_far.others other otherwise;
      rest = more_drawn n 1 start random next so_far.rest drew ∙ ap (λ k. after k start) (sym (one_counted mark marks point at));
    }

pub drawn_all : (start : Lcg) (marks : List Bool) (mark : Bool) (old now : List Tern) (count : ℕ) (random : Lcg) → length marks ≤ count →
    DrawnSoFar start marks mark old now count random → AreDrawn (word_at start) marks mark old now
drawn_all start marks mark old now count random all so_far = record {
  long = so_far.long;
  drawn = λ point e. let within = slice_get_within marks point mark e in so_far.drawn point (omega arith) e;
  others = so_far.others;
}
