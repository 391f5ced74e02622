-- What packing answers, by the sites that there are.
use Rattle.std.proofs.Common.{◌≡◌, ℕ, length, Result, Ok, Err, nat_lt, refl, sym, ap, ◌∙◌, subst, inl, inr}
use Rattle.std.proofs.lemmas.Bool.{cases_Bool}
use Rattle.fab_base.specs.declared.fault.Fault.{Fault}
use Rattle.fab_base.specs.declared.fault.Fault.TheVariants as faults
use Rattle.fab_base.specs.declared.fault.SiteKind.TheVariants as kinds
use Rattle.fab_base.specs.Reading.{Gives}
use Rattle.fab_netlist.specs.Plain.{PlainNetlist}
use Rattle.fab_netlist.specs.WellMade.{ports}
use Rattle.fab_netlist.specs.Packed.{PlainPacked}
use Rattle.fab_netlist.specs.Packing.{works, packed, packing}
use Rattle.fab_netlist.specs.inner.Places.{room}

-- where a kind of site is short, that is the answer
refused : (netlist : PlainNetlist) (luts pads : ℕ) (fault : Fault) → room (length (works netlist)) (length (ports netlist)) luts pads ≡ Err fault → Gives {X = PlainPacked} {Y = PlainPacked} (λ packed. packed) (Err fault) (packing netlist luts pads)
refused netlist luts pads fault short =
    elim (cases_Bool (nat_lt luts (length (works netlist)))) [
      | inl few ↦ (
          let which : Err (faults.Short kinds.Lut (length (works netlist)) luts) ≡ Err fault = rw few at short in
          let same : faults.Short kinds.Lut (length (works netlist)) luts ≡ fault = cc in
          subst (λ (z : Fault). Gives {X = PlainPacked} {Y = PlainPacked} (λ packed. packed) (Err z) (packing netlist luts pads)) same (rw few refl))
      | inr enough ↦ elim (cases_Bool (nat_lt pads (length (ports netlist)))) [
        | inl few ↦ (
            let which : Err (faults.Short kinds.Pad (length (ports netlist)) pads) ≡ Err fault = rw (enough, few) at short in
            let same : faults.Short kinds.Pad (length (ports netlist)) pads ≡ fault = cc in
            subst (λ (z : Fault). Gives {X = PlainPacked} {Y = PlainPacked} (λ packed. packed) (Err z) (packing netlist luts pads)) same (rw (enough, few) refl))
        | inr also ↦ absurd (let which : Ok tt ≡ Err fault = rw (enough, also) at short in let bad : ⊥ = cc in bad)
      ]
    ]

-- the same for equal counts
pub refused_by : (netlist : PlainNetlist) (luts pads cells count : ℕ) (fault : Fault) (result : Result PlainPacked Fault) → cells ≡ length (works netlist) → count ≡ length (ports netlist) → room cells count luts pads ≡ Err fault → result ≡ Err fault →
    Gives {X = PlainPacked} {Y = PlainPacked} (λ packed. packed) result (packing netlist luts pads)
refused_by netlist luts pads cells count fault result same_cells same_count short is =
    subst (λ (z : Result PlainPacked Fault). Gives {X = PlainPacked} {Y = PlainPacked} (λ packed. packed) z (packing netlist luts pads)) (sym is)
    (refused netlist luts pads fault (ap (λ z. room z (length (ports netlist)) luts pads) (sym same_cells) ∙ ap (λ z. room cells z luts pads) (sym same_count) ∙ short))

-- where there are sites enough, the packed netlist is the answer
given : (netlist : PlainNetlist) (luts pads : ℕ) → room (length (works netlist)) (length (ports netlist)) luts pads ≡ Ok tt → packing netlist luts pads ≡ Ok (packed netlist)
given netlist luts pads enough =
    elim (cases_Bool (nat_lt luts (length (works netlist)))) [
      | inl few ↦ absurd (let which : Err (faults.Short kinds.Lut (length (works netlist)) luts) ≡ Ok tt = rw few at enough in let bad : ⊥ = cc in bad)
      | inr cells ↦ elim (cases_Bool (nat_lt pads (length (ports netlist)))) [
        | inl few ↦ absurd (let which : Err (faults.Short kinds.Pad (length (ports netlist)) pads) ≡ Ok tt = rw (cells, few) at enough in let bad : ⊥ = cc in bad)
        | inr also ↦ rw (cells, also) refl
      ]
    ]

-- the same for equal counts
pub given_by : (netlist : PlainNetlist) (luts pads cells count : ℕ) → cells ≡ length (works netlist) → count ≡ length (ports netlist) → room cells count luts pads ≡ Ok tt → packing netlist luts pads ≡ Ok (packed netlist)
given_by netlist luts pads cells count same_cells same_count enough =
    given netlist luts pads (ap (λ z. room z (length (ports netlist)) luts pads) (sym same_cells) ∙ ap (λ z. room cells z luts pads) (sym same_count) ∙ enough)
