-- Points with sources have rules in an order.
use Rattle.std.proofs.Common.{◌⊎◌, List, [], ◌∷◌, ◌++◌, refl, sym, subst, inl, inr, Contains}
use Rattle.std.proofs.lemmas.List.{map-append}
use Rattle.std.proofs.lemmas.List.Elements.{All-contains}
use Rattle.fab_meaning.specs.Points.{Point}
use Rattle.fab_model.specs.Grid.{PlainFabric}
use Rattle.fab_netlist.specs.Packed.{PlainPacked}
use Rattle.fab_netlist.specs.Packing.{packed}
use Rattle.fab_netlist.proofs.Members.{in_none, first_or_later, first_in, later_in, in_left, in_right}
use Rattle.fab_implementation.specs.Plain.{PlainImplementation}
use Rattle.fab_points_laws.specs.fab_use_defs_Design.{IsSourced}
use Rattle.fab_points_laws.specs.fab_use_defs_Sources.{Source, source_reads, HasSource}
use Rattle.fab_runs_laws.specs.Ranking.{Rule, ruled, StandBehind, DesignHasOrder}
use Rattle.fab_runs_laws.proofs.EachPoint.{sourced_has}

module _ (fabric : PlainFabric) (p : PlainPacked) (implementation : PlainImplementation) where
  abbrev Stand : List Point → List Rule → Type 0
  Stand before rules = StandBehind fabric p implementation before rules

  -- more points may come first
  weaker : (a b : List Point) (rules : List Rule) → ((q : Point) → Contains a q → Contains b q) → Stand a rules → Stand b rules
  weaker a b [] more stand = tt
  weaker a b (rule ∷ rules) more stand = (
    stand.0,
    (λ q reads. more q (stand.1 q reads)),
    weaker (rule.0 ∷ a) (rule.0 ∷ b) rules
        (λ q among. elim (first_or_later rule.0 a q among) [ inl now ↦ first_in rule.0 b q now | inr later ↦ later_in rule.0 b q (more q later) ]) stand.2,
  )

  -- rules behind others
  joined : (before : List Point) (rules others : List Rule) → Stand before rules →
      ((after : List Point) → ((q : Point) → Contains before q ⊎ Contains (ruled rules) q → Contains after q) → Stand after others) → Stand before (rules ++ others)
  joined before [] others stand then = then before (λ q is. elim is [ inl among ↦ among | inr none ↦ absurd (in_none q none) ])
  joined before (rule ∷ rules) others stand then = (
    stand.0,
    stand.1,
    joined (rule.0 ∷ before) rules others stand.2 (λ after covers. then after (λ q is.
        elim is [
          | inl among ↦ covers q (inl (later_in rule.0 before q among))
          | inr here ↦ elim (first_or_later rule.0 (ruled rules) q here) [ inl now ↦ covers q (inl (first_in rule.0 before q now)) | inr later ↦ covers q (inr later) ]
        ])),
  )

  abbrev IsRuled : Point → Type 0
  IsRuled q = (rules : List Rule) × Stand [] rules × Contains (ruled rules) q

  in_first : (rules others : List Rule) (q : Point) → Contains (ruled rules) q → Contains (ruled (rules ++ others)) q
  in_first rules others q among = subst (λ (ps : List Point). Contains ps q) (sym (map-append (λ (rule : Rule). rule.0) rules others)) (in_left (ruled rules) (ruled others) q among)

  in_second : (rules others : List Rule) (q : Point) → Contains (ruled others) q → Contains (ruled (rules ++ others)) q
  in_second rules others q among = subst (λ (ps : List Point). Contains ps q) (sym (map-append (λ (rule : Rule). rule.0) rules others)) (in_right (ruled rules) (ruled others) q among)

  all_ruled : (ps : List Point) → ((q : Point) → Contains ps q → IsRuled q) → (rules : List Rule) × Stand [] rules × ((q : Point) → Contains ps q → Contains (ruled rules) q)
  all_ruled [] each = ([], tt, λ q none. absurd (in_none q none))
  all_ruled (first ∷ ps) each =
      let here = each first (first_in first ps first refl) in
      let rest = all_ruled ps (λ q among. each q (later_in first ps q among)) in (
        here.0 ++ rest.0,
        joined [] here.0 rest.0 here.1 (λ after covers. weaker [] after rest.0 (λ q none. absurd (in_none q none)) rest.1),
        (λ q among.
            elim (first_or_later first ps q among) [
              | inl now ↦ in_first here.0 rest.0 q (subst (λ (r : Point). Contains (ruled here.0) r) now here.2)
              | inr later ↦ in_second here.0 rest.0 q (rest.2 q later)
            ]),
      )

  -- a point behind what its source reads
  one_more : (q : Point) (s : Source) → HasSource fabric p implementation q s → ((r : Point) → Contains (source_reads s) r → IsRuled r) → IsRuled q
  one_more q s from each =
      let all = all_ruled (source_reads s) each in
      let last : List Rule = (q, s) ∷ [] in (
        all.0 ++ last,
        joined [] all.0 last all.1 (λ after covers. (from, (λ r reads. covers r (inr (all.2 r reads))), tt)),
        in_second all.0 last q (first_in q [] q refl),
      )

pub design_has_order : DesignHasOrder
design_has_order fabric netlist fixed_pads implementation ps are made acyclic legal sourced =
    all_ruled fabric (packed netlist) implementation ps (λ q among.
    sourced_has fabric netlist fixed_pads implementation are made acyclic legal (IsRuled fabric (packed netlist) implementation)
    (λ r s from all. one_more fabric (packed netlist) implementation r s from (λ t reads. All-contains (IsRuled fabric (packed netlist) implementation) (source_reads s) t all reads))
    q (All-contains (IsSourced fabric (packed netlist) implementation) ps q sourced among))
