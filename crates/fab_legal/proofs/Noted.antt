-- The sites of numbered things.
use Rattle.std.proofs.Common.{◌≡◌, ◌⊎◌, ℕ, ◌+◌, ◌<◌, ◌≤◌, List, length, get_or, set, take, replicate, Contains, Option, Some, None, Result, Ok, Err, IfOk, refl, sym, ap, ◌∙◌, subst, inl, inr, arith}
use Rattle.std.proofs.lemmas.List.{get_or_default, take_all, length-set, get_or-set_same, get_or-set_other, get_or-replicate, length-replicate}
use Rattle.std.proofs.lemmas.Bool.{cases_lt}
use Rattle.fab_kinds.specs.declared.kind.Kind.{Kind}
use Rattle.fab_implementation.specs.fab_model.specs.Grid.{PlainFabric}
use Rattle.fab_implementation.specs.fab_fabric.specs.declared.wire.Site.{Site}
use Rattle.fab_implementation.specs.fab_netlist.specs.Plain.{IsAt}
use Rattle.fab_implementation.specs.fab_netlist.proofs.Members.{in_none, mapped_in}
use Rattle.fab_legal.specs.Turns.{FirstAreRight, AreRight, IsFirstWrongAt}
use Rattle.fab_legal.specs.Lines.{named, IsRightLine}
use Rattle.fab_legal.specs.inner.Keeping.{Below, AreNoted, FillsGap, Collects, Binds}
use Rattle.fab_legal.specs.declared.lines.Binding.{Binding}
use Rattle.fab_legal.specs.declared.lines.Binding.TheVariants as bindings
use Rattle.fab_legal.proofs.Lists.{right_more, wrong_here, all_right}
use Rattle.fab_legal.proofs.Members.{from_mapped, in_taken, stays_taken, last_taken}

abbrev Line : Type 0
Line = ℕ × Site

some_is_not_none : (site : Site) (o : Option Site) → o ≡ Some site → o ≡ None → ⊥
some_is_not_none site o some none = cc

line_is : (line : Line) (number : ℕ) (site : Site) → number ≡ line.0 → line.1 ≡ site → line ≡ (number, site)
line_is line number site same site_is = ap (λ (m : ℕ). (m, line.1)) (sym same) ∙ ap (λ (t : Site). (number, t)) site_is

none_or_some : (o : Option Site) → (o ≡ None) ⊎ ((site : Site) × (o ≡ Some site))
none_or_some None = inl refl
none_or_some (Some site) = inr (site, refl)

-- a place at which no site is found
pub no_site_here : (sites : List (Option Site)) (n : ℕ) (o : Option Site) → n < length sites → ((site : Site) → get_or sites n o ≡ Some site → ⊥) → get_or sites n None ≡ None
no_site_here sites n o inside none =
    elim (none_or_some (get_or sites n o)) [
      | inl here ↦ get_or_default sites n None o inside ∙ here
      | inr some ↦ absurd (none some.0 some.1)
    ]

-- nothing is noted at first
pub noted_none : (lines : List Line) (count : ℕ) → AreNoted (take 0 lines) count (replicate count None)
noted_none lines count = record {
  as_many = length-replicate count None;
  noted = λ number site below here. absurd (some_is_not_none site (get_or (replicate count None) number None) here (get_or-replicate count number None None below));
  unnoted = λ number below here there. in_none number there;
}

same_number : (a b : ℕ) → (a ≡ b) ⊎ ((a ≡ b) → ⊥)
same_number a b = elim (cases_lt a b) [
  | inl less ↦ inr (λ e. absurd (omega (arith, less, e)))
  | inr other ↦ elim (cases_lt b a) [ inl less ↦ inr (λ e. absurd (omega (arith, less, e))) | inr more ↦ inl (omega (arith, other, more)) ]
]

-- one more line, whose thing has no site yet
pub noted_more : (lines : List Line) (n count : ℕ) (sites : List (Option Site)) (line : Line) → AreNoted (take n lines) count sites → IsAt lines n line →
    line.0 < count → AreNoted (take (n + 1) lines) count (set sites line.0 (Some line.1))
noted_more lines n count sites line before at below = record {
  as_many = length-set sites line.0 (Some line.1) ∙ before.as_many;
  noted = λ number site small here. elim (same_number number line.0) [
    | inl same ↦ (
        let inside : line.0 < length sites = omega (arith, before.as_many) in
        let value : get_or (set sites line.0 (Some line.1)) number None ≡ Some line.1 = rw same (get_or-set_same sites line.0 (Some line.1) None inside) in
        let site_is : line.1 ≡ site = cc (value, here) in
        let pair_is : line ≡ (number, site) = line_is line number site same site_is in
        subst (λ (found : Line). Contains (take (n + 1) lines) found) pair_is (last_taken lines n line at))
    | inr other ↦ stays_taken lines n line (number, site) at (before.noted number site small (sym (get_or-set_other sites line.0 number (Some line.1) None other) ∙ here))
  ];
  unnoted = λ number small here there.
      let found = from_mapped (λ (l : Line). l.0) (take (n + 1) lines) number there in
      elim (same_number number line.0) [
        | inl same ↦ (
            let inside : line.0 < length sites = omega (arith, before.as_many) in
            let value : get_or (set sites line.0 (Some line.1)) number None ≡ Some line.1 = rw same (get_or-set_same sites line.0 (Some line.1) None inside) in
            absurd (some_is_not_none line.1 _ value here))
        | inr other ↦ elim (in_taken lines n line found.0 at found.1) [
          | inl earlier ↦ before.unnoted number small (sym (get_or-set_other sites line.0 number (Some line.1) None other) ∙ here)
              (subst (λ (m : ℕ). Contains (named (take n lines)) m) found.2 (mapped_in (λ (l : Line). l.0) (take n lines) found.0 earlier))
          | inr now ↦ other (sym found.2 ∙ sym (ap (λ (l : Line). l.0) now))
        ]
      ];
}

module _ (fabric : PlainFabric) (kind : Kind) (lines : List Line) (n count : ℕ) (sites : List (Option Site)) (d : Line) (inside : n < length lines)
    (noted : AreNoted (take n lines) count sites) (right : FirstAreRight (IsRightLine fabric kind (Below count)) lines n) where
  -- a line that fills a gap is right
  pub noted_step : FillsGap fabric kind sites (get_or lines n d) → AreNoted (take (n + 1) lines) count (set sites (get_or lines n d).0 (Some (get_or lines n d).1))
  noted_step fills = noted_more lines n count sites (get_or lines n d) noted (inside, get_or_default lines n (get_or lines n d) d inside) (omega (arith, fills.0, noted.as_many))

  pub right_step : FillsGap fabric kind sites (get_or lines n d) → FirstAreRight (IsRightLine fabric kind (Below count)) lines (n + 1)
  right_step fills =
      let line : Line = get_or lines n d in
      right_more (IsRightLine fabric kind (Below count)) lines n line right (inside, get_or_default lines n line d inside) (record {
        known = omega (arith, fills.0, noted.as_many);
        first = noted.unnoted line.0 (omega (arith, fills.0, noted.as_many)) fills.1;
        of_kind = fills.2;
      })

  -- one that fills none is wrong
  pub wrong_step : (FillsGap fabric kind sites (get_or lines n d) → ⊥) → IsFirstWrongAt (IsRightLine fabric kind (Below count)) lines n
  wrong_step gap =
      let line : Line = get_or lines n d in
      wrong_here (IsRightLine fabric kind (Below count)) lines n line right (inside, get_or_default lines n line d inside)
      (λ is. elim (none_or_some (get_or sites line.0 None)) [
        | inl none ↦ gap (omega (arith, is.known, noted.as_many), none, is.of_kind)
        | inr some ↦ is.first (mapped_in (λ (l : Line). l.0) (take n lines) (line.0, some.0) (noted.noted line.0 some.0 is.known some.1))
      ])

-- what is collected of the sites of all lines is what these bind
pub binds : (fabric : PlainFabric) (kind : Kind) (count : ℕ) (lines : List Line) (sites : List (Option Site)) (binding : Binding) →
    AreNoted lines count sites → AreRight (IsRightLine fabric kind (Below count)) lines → Collects sites binding → Binds fabric kind count lines binding
binds fabric kind count lines sites (bindings.Sites found) noted right collected =
    let each : (number : ℕ) (d : Site) → number < count → Contains lines (number, get_or found.items number d) =
    λ number d small. noted.noted number (get_or found.items number d) small (collected.1 number d (omega (arith, noted.as_many))) in (
      record {
        lines_right = right;
        all_named = λ number small. mapped_in (λ (l : Line). l.0) lines (number, get_or found.items number (record { x = 0; y = 0; bel = 0 })) (each number (record { x = 0; y = 0; bel = 0 }) small);
      },
      record { as_many = collected.0 ∙ noted.as_many; each = each },
    )
binds fabric kind count lines sites (bindings.WrongLine place) noted right collected = absurd collected
binds fabric kind count lines sites (bindings.Unnamed number) noted right collected = (
  right,
  record {
    below = omega (arith, collected.0, noted.as_many);
    unnamed = noted.unnoted number (omega (arith, collected.0, noted.as_many)) collected.1;
    before = λ less small.
        let found = collected.2 less small in
        mapped_in (λ (l : Line). l.0) lines (less, found.0) (noted.noted less found.0 (omega (arith, small, collected.0, noted.as_many)) found.1);
  },
)

pub bound : {E : Type 0} (fabric : PlainFabric) (kind : Kind) (lines : List Line) (n count : ℕ) (sites seen : List (Option Site)) → length lines ≤ n →
    AreNoted (take n lines) count sites → FirstAreRight (IsRightLine fabric kind (Below count)) lines n → seen ≡ sites →
    (r : Result Binding E) → IfOk r (Collects seen) → IfOk r (Binds fabric kind count lines)
bound fabric kind lines n count sites seen long noted right same (Ok binding) collected =
    binds fabric kind count lines sites binding (subst (λ (first : List Line). AreNoted first count sites) (take_all n lines long) noted)
    (all_right (IsRightLine fabric kind (Below count)) lines n long right) (subst (λ (s : List (Option Site)). Collects s binding) same collected)
bound fabric kind lines n count sites seen long noted right same (Err e) collected = tt
