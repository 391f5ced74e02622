-- What lines bind of ports, and which port is wrong.
use Rattle.std.proofs.Common.{◌≡◌, ◌≢◌, ℕ, ◌+◌, ◌-◌, ◌<◌, List, [], ◌++◌, length, get_or, AllPairs, Some, None, refl, sym, ap, ◌∙◌, subst, arith}
use Rattle.std.proofs.lemmas.List.{get_or_append_left, get_or-append_right, length-append, get_or_default}
use Rattle.fab_kinds.specs.declared.kind.Kind.TheVariants as kinds
use Rattle.fab_implementation.specs.fab_model.specs.Grid.{PlainFabric}
use Rattle.fab_implementation.specs.fab_netlist.specs.Packed.{PlainPacked}
use Rattle.fab_implementation.specs.fab_netlist.proofs.Counts.{at_mapped}
use Rattle.fab_implementation.specs.Plain.{Pad, PlainImplementation}
use Rattle.fab_legal.specs.Turns.{IsFirstWrongAt}
use Rattle.fab_legal.specs.WellMade.{output_ports}
use Rattle.fab_legal.specs.Lines.{named, IsRightLine, IsInput, IsOutput}
use Rattle.fab_legal.specs.Broken.{AreRightPads, IsPortItem, wrong_in, wrong_out, unnamed_in, unnamed_out, IsNamedBy}
use Rattle.fab_legal.specs.inner.Keeping.{BindsPads}
use Rattle.fab_legal.specs.inner.Kept.{wrong_port, IsWithin}
use Rattle.fab_legal.specs.declared.ports.PadBinding.{PadBinding}
use Rattle.fab_legal.specs.declared.ports.PadBinding.TheVariants as found
use Rattle.fab_legal.proofs.Lists.{first_wrong, at_default}

-- ---- parts of a list whose items differ

pub differ_left : {X : Type 0} (xs ys : List X) → AllPairs (λ first second. first ≢ second) (xs ++ ys) → AllPairs (λ first second. first ≢ second) xs
differ_left xs ys apart = λ i j d less inside same.
    apart i j d less (omega (arith, inside, length-append xs ys))
    (get_or_append_left xs ys d i (omega (arith, less, inside)) ∙ same ∙ sym (get_or_append_left xs ys d j inside))

pub differ_right : {X : Type 0} (xs ys : List X) → AllPairs (λ first second. first ≢ second) (xs ++ ys) → AllPairs (λ first second. first ≢ second) ys
differ_right {X} xs ys apart = λ i j d less inside same.
    apart (length xs + i) (length xs + j) d (omega (arith, less)) (omega (arith, inside, length-append xs ys)) (behind i d ∙ same ∙ sym (behind j d))
  where
    behind : (k : ℕ) (d : X) → get_or (xs ++ ys) (length xs + k) d ≡ get_or ys k d
    behind k d = let e : length xs + k - length xs ≡ k = omega arith in get_or-append_right xs ys (length xs) (length xs + k) d refl (omega arith) ∙ ap (λ n. get_or ys n d) e

-- ---- the wrong port

same_some : {X : Type 0} (x y : X) → Some x ≡ Some y → x ≡ y
same_some x y e = cc

-- the name of a line at its place
name_at_line : (lines : List Pad) (place : ℕ) → place < length lines → get_or (named lines) place [] ≡ (get_or lines place ([], record { x = 0; y = 0; bel = 0 })).0
name_at_line lines place inside =
    let line : Pad = get_or lines place ([], record { x = 0; y = 0; bel = 0 }) in
    let at = at_mapped (λ (l : Pad). l.0) lines place line (at_default lines place ([], record { x = 0; y = 0; bel = 0 }) inside) in
    get_or_default (named lines) place [] line.0 at.0 ∙ at.1

module _ (fabric : PlainFabric) (packed : PlainPacked) (i : PlainImplementation) where
  of_in : (place : ℕ) (name : List ℕ) → IsFirstWrongAt (IsRightLine fabric kinds.Io (IsInput packed)) i.ins place → Some name ≡ Some (get_or (named i.ins) place []) → IsPortItem fabric packed i name
  of_in place name first is =
      let line : Pad = get_or i.ins place ([], record { x = 0; y = 0; bel = 0 }) in
      let same : line.0 ≡ name = sym (same_some name (get_or (named i.ins) place []) is ∙ name_at_line i.ins place first.inside) in
      subst (λ (n : List ℕ). IsPortItem fabric packed i n) same
      (wrong_in (first_wrong (IsRightLine fabric kinds.Io (IsInput packed)) i.ins place line first (at_default i.ins place ([], record { x = 0; y = 0; bel = 0 }) first.inside)))

  of_out : (place : ℕ) (name : List ℕ) → AreRightPads fabric (IsInput packed) i.ins → IsFirstWrongAt (IsRightLine fabric kinds.Io (IsOutput packed)) i.outs place →
      Some name ≡ Some (get_or (named i.outs) place []) → IsPortItem fabric packed i name
  of_out place name right first is =
      let line : Pad = get_or i.outs place ([], record { x = 0; y = 0; bel = 0 }) in
      let same : line.0 ≡ name = sym (same_some name (get_or (named i.outs) place []) is ∙ name_at_line i.outs place first.inside) in
      subst (λ (n : List ℕ). IsPortItem fabric packed i n) same
      (wrong_out right (first_wrong (IsRightLine fabric kinds.Io (IsOutput packed)) i.outs place line first (at_default i.outs place ([], record { x = 0; y = 0; bel = 0 }) first.inside)))

  of_inputs : (place : ℕ) (name : List ℕ) → AreRightPads fabric (IsInput packed) i.ins → AreRightPads fabric (IsOutput packed) i.outs → IsFirstWrongAt (IsNamedBy i.ins) packed.inputs place →
      Some name ≡ Some (get_or packed.inputs place []) → IsPortItem fabric packed i name
  of_inputs place name right right_outs first is =
      subst (λ (n : List ℕ). IsPortItem fabric packed i n) (sym (same_some name (get_or packed.inputs place []) is))
      (unnamed_in right right_outs (first_wrong (IsNamedBy i.ins) packed.inputs place (get_or packed.inputs place []) first (at_default packed.inputs place [] first.inside)))

  pub port_broken : (ins outs : PadBinding) (name : List ℕ) → BindsPads fabric packed.inputs i.ins ins → BindsPads fabric (output_ports packed) i.outs outs →
      Some name ≡ wrong_port packed i ins outs → IsPortItem fabric packed i name
  port_broken (found.WrongLine place) outs name first second is = of_in place name first is
  port_broken (found.Unnamed number) (found.WrongLine place) name first second is = of_out place name first.0 second is
  port_broken (found.Bound pads) (found.WrongLine place) name first second is = of_out place name first.0.lines_right second is
  port_broken (found.Unnamed place) (found.Bound pads) name first second is = of_inputs place name first.0 second.0.lines_right first.1 is
  port_broken (found.Unnamed place) (found.Unnamed other) name first second is = of_inputs place name first.0 second.0 first.1 is
  port_broken (found.Bound pads) (found.Unnamed place) name first second is =
      let port = get_or (output_ports packed) place [] in
      subst (λ (n : List ℕ). IsPortItem fabric packed i n) (sym (same_some name port is))
      (unnamed_out first.0.lines_right second.0 (λ at port below there. first.0.all_named port (at, there.0, there.1))
      (first_wrong (IsNamedBy i.outs) (output_ports packed) place port second.1 (at_default (output_ports packed) place [] second.1.inside)))
  port_broken (found.Bound pads) (found.Bound others) name first second is = absurd (never name is)
    where
      never : (n : List ℕ) → Some n ≡ None → ⊥
      never n e = cc

-- the same of other lists
pub moved_pads : (fabric : PlainFabric) (declared other : List (List ℕ)) (lines more : List Pad) (binding : PadBinding) → declared ≡ other → lines ≡ more → BindsPads fabric declared lines binding → BindsPads fabric other more binding
moved_pads fabric declared other lines more binding same_names same_lines bound =
    subst (λ (names : List (List ℕ)). BindsPads fabric names more binding) same_names (subst (λ (l : List Pad). BindsPads fabric declared l binding) same_lines bound)

-- a binding is within its lists
pub within : (fabric : PlainFabric) (declared : List (List ℕ)) (lines : List Pad) (binding : PadBinding) → BindsPads fabric declared lines binding → IsWithin (length declared) (length lines) binding
within fabric declared lines (found.Bound pads) bound = tt
within fabric declared lines (found.WrongLine place) bound = bound.inside
within fabric declared lines (found.Unnamed place) bound = bound.1.inside
