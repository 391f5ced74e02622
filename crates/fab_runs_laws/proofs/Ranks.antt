-- Rules in an order rank their points.
use Rattle.std.proofs.Common.{◌≡◌, ◌⊎◌, suc, ◌<◌, ◌≤◌, true, List, [], ◌∷◌, length, refl, sym, ◌∙◌, subst, arith, inl, inr, Contains}
use Rattle.std.proofs.lemmas.Bool.{cases_Bool, false≢true}
use Rattle.fab_meaning.specs.Points.{Point}
use Rattle.fab_meaning.specs.Reads.{same_point}
use Rattle.fab_meaning.proofs.Dependence.{same_point_refl, same_point_is}
use Rattle.fab_model.specs.Grid.{PlainFabric}
use Rattle.fab_netlist.specs.Packed.{PlainPacked}
use Rattle.fab_netlist.proofs.Members.{in_none, first_or_later, any_gives}
use Rattle.fab_implementation.specs.Plain.{PlainImplementation}
use Rattle.fab_points_laws.specs.fab_use_defs_Sources.{source_reads, HasSource}
use Rattle.std.specs.List.{All}
use Rattle.std.proofs.lemmas.List.Elements.{All-nil, All-cons}
use Rattle.fab_netlist.proofs.Members.{first_in, later_in}
use Rattle.fab_netlist.specs.Packing.{packed}
use Rattle.fab_runs_laws.proofs.Rules.{design_has_order}
use Rattle.fab_runs_laws.specs.Ranking.{DesignRanks, Rule, ruled, StandBehind, source_at, place_at, RulesRank}

module _ (fabric : PlainFabric) (packed : PlainPacked) (implementation : PlainImplementation) where
  within : (rules : List Rule) (p : Point) → Contains (ruled rules) p → place_at rules p < length rules
  within [] p none = absurd (in_none p none)
  within (rule ∷ rules) p among =
      elim (cases_Bool (same_point rule.0 p)) [
        | inl here ↦ rw here (omega arith)
        | inr other ↦ elim (first_or_later rule.0 (ruled rules) p among) [
          | inl now ↦ absurd (false≢true (sym other ∙ subst (λ (q : Point). same_point rule.0 q ≡ true) now (same_point_refl rule.0)))
          | inr later ↦ rw other (omega (arith, within rules p later))
        ]
      ]

  source_there : (before : List Point) (rules : List Rule) (p : Point) → StandBehind fabric packed implementation before rules → Contains (ruled rules) p →
      HasSource fabric packed implementation p (source_at rules p)
  source_there before [] p stand none = absurd (in_none p none)
  source_there before (rule ∷ rules) p stand among =
      elim (cases_Bool (same_point rule.0 p)) [
        | inl here ↦ (
            let is = same_point_is rule.0 p here in
            rw here (subst (λ (q : Point). HasSource fabric packed implementation q rule.1) is stand.0))
        | inr other ↦ elim (first_or_later rule.0 (ruled rules) p among) [
          | inl now ↦ absurd (false≢true (sym other ∙ subst (λ (q : Point). same_point rule.0 q ≡ true) now (same_point_refl rule.0)))
          | inr later ↦ rw other (source_there (rule.0 ∷ before) rules p stand.2 later)
        ]
      ]

  place_less : (rule : Rule) (rules : List Rule) (q : Point) → place_at (rule ∷ rules) q ≤ suc (place_at rules q)
  place_less rule rules q = elim (cases_Bool (same_point rule.0 q)) [ inl here ↦ rw here (omega arith) | inr other ↦ rw other (omega arith) ]

  place_first : (rule : Rule) (rules : List Rule) (q : Point) → rule.0 ≡ q → place_at (rule ∷ rules) q ≡ 0
  place_first rule rules q is = (let here : same_point rule.0 q ≡ true = subst (λ (r : Point). same_point rule.0 r ≡ true) is (same_point_refl rule.0) in rw here refl)

  -- what the first rule of a point reads comes first, or has a rule before
  lower : (before : List Point) (rules : List Rule) (p q : Point) → StandBehind fabric packed implementation before rules → Contains (ruled rules) p → Contains (source_reads (source_at rules p)) q →
      Contains before q ⊎ (place_at rules q < place_at rules p)
  lower before [] p q stand none reads = absurd (in_none p none)
  lower before (rule ∷ rules) p q stand among reads =
      elim (cases_Bool (same_point rule.0 p)) [
        | inl here ↦ inl (stand.1 q (rw here at reads))
        | inr other ↦ elim (first_or_later rule.0 (ruled rules) p among) [
          | inl now ↦ absurd (false≢true (sym other ∙ subst (λ (r : Point). same_point rule.0 r ≡ true) now (same_point_refl rule.0)))
          | inr later ↦ (
              let place : place_at (rule ∷ rules) p ≡ suc (place_at rules p) = rw other refl in
              elim (lower (rule.0 ∷ before) rules p q stand.2 later (rw other at reads)) [
                | inl first ↦ elim (first_or_later rule.0 before q first) [
                  | inl same ↦ (let none = place_first rule rules q same in inr (omega (arith, none, place)))
                  | inr earlier ↦ inl earlier
                ]
                | inr less ↦ (let most = place_less rule rules q in inr (omega (arith, less, most, place)))
              ])
        ]
      ]

pub rules_rank : RulesRank
rules_rank fabric packed implementation rules has given stand listed apart closed = (
  record {
    bound = λ p is. within fabric packed implementation rules p (listed p is);
    apart = apart;
    lower = λ p q is read.
        let found = any_gives (λ r. same_point r q) (source_reads (source_at rules p)) read in
        let among : Contains (source_reads (source_at rules p)) q = subst (λ (r : Point). Contains (source_reads (source_at rules p)) r) (same_point_is found.0 q found.2) found.1 in
        elim (closed p q is among) [
          | inl g ↦ inl g
          | inr h ↦ elim (lower fabric packed implementation [] rules p q stand (listed p is) among) [
            | inl none ↦ absurd (in_none q none)
            | inr less ↦ inr (h, less)
          ]
        ];
  },
  λ p is. source_there fabric packed implementation [] rules p stand (listed p is),
)

-- ---- ranks of a design

pub all_by : {X : Type 0} (P : X → Type 0) (xs : List X) → ((x : X) → Contains xs x → P x) → All P xs
all_by P [] each = All-nil P
all_by P (x ∷ xs) each = All-cons P x xs (each x (first_in x xs x refl)) (all_by P xs (λ y among. each y (later_in x xs y among)))

place_few : (rules : List Rule) (p : Point) → place_at rules p < suc (length rules)
place_few [] p = omega arith
place_few (rule ∷ rules) p =
    elim (cases_Bool (same_point rule.0 p)) [ inl here ↦ rw here (omega arith) | inr other ↦ rw other (omega (arith, place_few rules p)) ]

pub design_ranks : DesignRanks
design_ranks fabric netlist fixed_pads implementation ps are made acyclic legal sourced =
    let order = design_has_order fabric netlist fixed_pads implementation ps are made acyclic legal sourced in
    let rules = order.0 in (
      place_at rules,
      suc (length rules),
      place_few rules,
      (λ p among. (
        source_at rules p,
        (source_there fabric (packed netlist) implementation [] rules p order.1 (order.2 p among)),
        all_by (λ q. place_at rules q < place_at rules p) (source_reads (source_at rules p)) (λ q reads.
            elim (lower fabric (packed netlist) implementation [] rules p q order.1 (order.2 p among) reads) [
              | inl none ↦ absurd (in_none q none)
              | inr less ↦ less
            ]),
      )),
    )
