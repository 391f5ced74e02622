-- The marks of points, from a search among the greatest closed flip-flops.
use Rattle.std.proofs.Common.{◌≡◌, ℕ, zero, suc, ◌+◌, ◌-◌, ◌<◌, ◌≤◌, Bool, true, false, List, [], ◌∷◌, ◌++◌, length, set, slice_get, Option, Some, refl, sym, ap, ◌∙◌, subst, inl, inr, arith}
use Rattle.std.specs.Prelude.{◌↔◌, IsTrue}
use Rattle.std.proofs.lemmas.Bool.{cases_lt, false≢true}
use Rattle.std.proofs.lemmas.Option.{slice_get_within}
use Rattle.fab_syntax.specs.Plain.{PlainModule}
use Rattle.fab_syntax.specs.Sound.{IsSound}
use Rattle.fab_meaning.specs.Points.{Point, point}
use Rattle.fab_meaning.specs.Loading.{IsStream, Within, IsLoading}
use Rattle.fab_meaning.proofs.Loaded.{within_more}
use Rattle.fab_equations.specs.Instances.{points}
use Rattle.fab_equations.specs.Equations.{IsPoint, IsDriven}
use Rattle.fab_equations.proofs.Numbering.{some_there}
use Rattle.fab_equations.specs.declared.driver.Driver.{Driver}
use Rattle.fab_load_points.specs.inner.Causes.{StandsFor}
use Rattle.fab_load_points.specs.inner.Search.{IsSearch, told}
use Rattle.fab_load_points.specs.inner.Flops.{IsClosedSearch}
use Rattle.fab_load_points.specs.inner.Points.{AreMarkedFrom, IsPointMark, IsRightly, bit_driven}
use Rattle.fab_load_points.specs.declared.search.Status.{Status}
use Rattle.fab_load_points.proofs.Statuses.{set_cases}
use Rattle.fab_load_points.proofs.Names.{begins_at, point_declared, first_declared}
use Rattle.fab_load_points.proofs.Bits.{all_bits}
use Rattle.fab_load_points.proofs.Stored.{own_bit}
use Rattle.fab_load_points.proofs.Rounds.{within_declared}

-- ---- marks on a list

pub push_at : {X : Type 0} (xs : List X) (x : X) (k : ℕ) → k < length xs → slice_get (xs ++ x ∷ []) k ≡ slice_get xs k
push_at [] x k l = absurd (omega arith)
push_at (y ∷ xs) x zero l = refl
push_at (y ∷ xs) x (suc k) l = push_at xs x k (omega arith)

pub push_last : {X : Type 0} (xs : List X) (x : X) → slice_get (xs ++ x ∷ []) (length xs) ≡ Some x
push_last [] x = refl
push_last (y ∷ xs) x = push_last xs x

-- what a mark tells
pub mark_tells : (mark : Bool) (marks : List Bool) (number : ℕ) (Holds : Type 0) → slice_get marks number ≡ Some mark → IsRightly mark Holds →
    (slice_get marks number ≡ Some true → Holds) × (Holds → slice_get marks number ≡ Some true)
mark_tells true marks number Holds at rightly = (λ e. rightly, λ h. at)
mark_tells false marks number Holds at rightly = (λ e. let both : Some false ≡ Some true = sym at ∙ e in cc, λ h. absurd (rightly h))

-- one more point is marked, the one before all that are
pub marked_set : (text : List PlainModule) (first : ℕ) (marks new : List Bool) (mark : Bool) → new ≡ set marks first mark → AreMarkedFrom text (first + 1) marks →
    IsPointMark text first mark → AreMarkedFrom text first new
marked_set text first marks new mark e behind here number other l is =
    elim (set_cases marks first number mark other (sym (ap (λ xs. slice_get xs number) e) ∙ is)) [
      | inl now ↦ λ p at. subst (λ b. IsRightly b (IsLoading text p)) (sym now.1) (here p (subst (λ n. IsPoint text n p) now.0 at))
      | inr old ↦ elim (cases_lt first number) [ inl after ↦ behind number other (omega arith) old.1 | inr same ↦ absurd (old.0 (omega arith)) ]
    ]

pub marked_none : (text : List PlainModule) (first : ℕ) (marks : List Bool) → length marks ≤ first → AreMarkedFrom text first marks
marked_none text first marks short number mark l is = absurd (omega (arith, slice_get_within marks number mark is))

pub marks_tell : (text : List PlainModule) (marks : List Bool) → length marks ≡ length (points text) → AreMarkedFrom text 0 marks →
    (number : ℕ) (p : Point) → IsPoint text number p → (slice_get marks number ≡ Some true) ↔ IsLoading text p
marks_tell text marks long marked number p is =
    let there = some_there marks number (omega (arith, long, slice_get_within (points text) number p is)) in
    mark_tells there.0 marks number (IsLoading text p) there.1 (marked number there.0 (omega arith) there.1 p is)

-- the same of two facts that say the same
pub rightly_same : (mark : Bool) (A B : Type 0) → (A → B) → (B → A) → IsRightly mark A → IsRightly mark B
rightly_same true A B to back r = to r
rightly_same false A B to back r = λ b. r (back b)

pub rightly_tested : (mark : Bool) (A : Type 0) → (IsTrue mark → A) → (A → IsTrue mark) → IsRightly mark A
rightly_tested true A to back = to refl
rightly_tested false A to back = λ a. false≢true (back a)

-- one more flip-flop or latch among the marks
pub register_more : (old new : List Bool) (mark : Bool) (count : ℕ) → new ≡ old ++ mark ∷ [] → length old ≡ count → (number : ℕ) (value : Option Bool) →
    (number < count → slice_get old number ≡ value) → (number ≡ count → Some mark ≡ value) → number < count + 1 → slice_get new number ≡ value
register_more old new mark count e long number value before here l =
    elim (cases_lt number count) [
      | inl less ↦ ap (λ xs. slice_get xs number) e ∙ push_at old mark number (omega (arith, long)) ∙ before less
      | inr past ↦ (let last : number ≡ count = omega arith in
          ap (λ xs. slice_get xs number) e ∙ ap (slice_get (old ++ mark ∷ [])) (last ∙ sym long) ∙ push_last old mark ∙ here last)
    ]

module _ (text : List PlainModule) (sound : IsSound text) where
  -- all that is known stays known
  pub closed_again : (old new : List Status) (c : IsClosedSearch text old) → IsSearch text c.scene new [] → IsClosedSearch text new
  closed_again old new c search = record { scene = c.scene; search = search; same = c.same; closed = c.closed; greatest = c.greatest }

  -- a bit of a name, by the first
  module _ (statuses : List Status) (c : IsClosedSearch text statuses) (name : ℕ) (p : Point) (is : (number : ℕ) × IsPoint text number p)
      (stands : StandsFor text name (point p.path p.name 0)) where
    loads : Within text c.scene.all (point p.path p.name 0) → IsLoading text p
    loads within =
        (c.scene.all, c.closed, all_bits text sound c.scene.all c.scene.alike (point p.path p.name 0) p.bit (point_declared text sound is.0 p is.1) within)

    loaded : IsLoading text p → Within text c.scene.left (point p.path p.name 0)
    loaded l =
        let part = l.0 in
        let all : Within text c.scene.all p = within_declared text part c.scene.all (λ q there h. c.greatest part l.1 q there h) p l.2 in
        within_more text (IsStream text) c.scene.all c.scene.left c.same (point p.path p.name 0)
        (all_bits text sound c.scene.all c.scene.alike p 0 (first_declared text sound p (point_declared text sound is.0 p is.1)) all)

    pub rightly : (inside : Bool) → slice_get statuses name ≡ Some (told inside) → IsRightly inside (IsLoading text p)
    rightly true e = loads (c.search.inside name (point p.path p.name 0) stands e)
    rightly false e = λ l. c.search.outside name (point p.path p.name 0) stands e (loaded l)

  pub marked_driven : (number : ℕ) (driver : Driver) → IsDriven text number driver → (bit : ℕ) → bit_driven driver ≡ Some bit → (statuses : List Status) → IsClosedSearch text statuses →
      (inside : Bool) → slice_get statuses (number - bit) ≡ Some (told inside) → IsPointMark text number inside
  marked_driven number driver driven bit e statuses c inside known p is =
      let own = own_bit text sound number driver driven bit e p is in
      let begin = begins_at text sound number p is in
      let here : StandsFor text (number - bit) (point p.path p.name 0) = subst (λ b. StandsFor text (number - b) (point p.path p.name 0)) (sym own) begin.1 in
      rightly statuses c (number - bit) p (number, is) here inside known

  -- the first point of the name of a point that an expression of its own drives
  pub driven_begin : (number : ℕ) (driver : Driver) (driven : IsDriven text number driver) (bit : ℕ) → bit_driven driver ≡ Some bit →
      (bit ≤ number) × StandsFor text (number - bit) (point driven.of.path driven.of.name 0)
  driven_begin number driver driven bit e =
      let own = own_bit text sound number driver driven bit e driven.of driven.is in
      let begin = begins_at text sound number driven.of driven.is in
      (subst (λ b. b ≤ number) (sym own) begin.0, subst (λ b. StandsFor text (number - b) (point driven.of.path driven.of.name 0)) (sym own) begin.1)
