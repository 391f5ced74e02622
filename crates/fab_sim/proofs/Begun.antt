-- Assignments that are read off a board, and inputs of the state by number.
use Rattle.std.proofs.Common.{◌≡◌, ℕ, true, false, List, map, Some, if◌then◌else◌, refl, sym, ap, ◌∙◌, subst, arith}
use Rattle.std.specs.List.{slice_get}
use Rattle.std.proofs.lemmas.Option.{slice_get_within, slice_get-get_or, get_or_from_slice_get}
use Rattle.fab_syntax.specs.Plain.{PlainModule}
use Rattle.fab_systems_laws.specs.Ternary.{no, yes, unknown, known}
use Rattle.fab_systems_laws.specs.Ternary.{Tern as PlainTern}
use Rattle.fab_meaning.specs.Points.{Point, outside, Drives}
use Rattle.fab_meaning.specs.Reads.{is_declared}
use Rattle.fab_meaning.specs.Settled.{Assignment}
use Rattle.fab_implementation.specs.Plain.{Pad}
use Rattle.fab_prim.specs.Ports.{top_name}
use Rattle.fab_state.specs.Plain.{PlainState}
use Rattle.fab_ternary_laws.specs.Shown.{Terns}
use Rattle.fab_ternary.specs.Terns.{is_known, is_one}
use Rattle.fab_equations.specs.Equations.{IsPoint}
use Rattle.fab_equations.proofs.Numbering.{some_there}
use Rattle.fab_ordering_laws.specs.fab_use_defs_Sites.{top_point}
use Rattle.fab_phases.specs.Cycles.{IsIn}
use Rattle.fab_phases.proofs.Lists.{get_mapped, get_of_mapped}
use Rattle.fab_state_points.specs.Entries.{entry_point, in_entries, HasEntry}
use Rattle.fab_state_points.specs.declared.entry.Entry.{Entry}
use Rattle.fab_state_points.specs.declared.entry.Entry.TheVariants as entries
use Rattle.fab_state_points.specs.Standing.{AreAt}
use Rattle.fab_ordering_laws.specs.Ordered.{IsNamedInput}
use Rattle.fab_sim.proofs.Numbers.{line_at}
use Rattle.fab_sim.proofs.Points.{input_drives, one_point}

-- ---- assignments that are read off

pub known_back : (t : PlainTern) → is_known t ≡ true → t ≡ known (is_one t)
known_back no e = refl
known_back yes e = refl
known_back unknown e = cc

-- what a point has by number, where it is declared
abbrev pub read_off : List PlainModule → Terns → (rest : Assignment) → Assignment
read_off text t rest p = if is_declared text p then is_one (t p) else rest p

pub read_there : (text : List PlainModule) (t : Terns) (rest : Assignment) (p : Point) → is_declared text p ≡ true → read_off text t rest p ≡ is_one (t p)
read_there text t rest p e = ap (λ b. if b then is_one (t p) else rest p) e

pub read_rest : (text : List PlainModule) (t : Terns) (rest : Assignment) (p : Point) → is_declared text p ≡ false → read_off text t rest p ≡ rest p
read_rest text t rest p e = ap (λ b. if b then is_one (t p) else rest p) e

-- ---- inputs of the state

module _ (text : List PlainModule) (state : PlainState) (ins : List ℕ) (at : AreAt text (in_entries state.ins) ins) where
  -- the input of a number
  pub in_named : (place number : ℕ) (p : Point) → slice_get ins place ≡ Some number → IsPoint text number p → IsNamedInput text state p
  in_named place number p e is =
      let line = line_at text (in_entries state.ins) ins at place number e in
      let each = at.each place line.0 number line.1 e in
      let pad = get_of_mapped (λ (pad : Pad). entries.Input pad.1) state.ins place line.0 line.1 in
      let here = subst (λ (x : Entry). HasEntry text x) (sym pad.2) each.0 in
      let point_is : IsPoint text number (top_point pad.0.1 top_name) = subst (λ (x : Entry). IsPoint text number (entry_point x)) (sym pad.2) each.1 in
      let same : top_point pad.0.1 top_name ≡ p = one_point text number (top_point pad.0.1 top_name) p point_is is in
      let mapped = get_mapped (λ (q : Pad). top_point q.1 top_name) state.ins place pad.0 pad.1 in
      record {
        input = subst (λ (x : Point). Drives text x outside) same (input_drives text (top_point pad.0.1 top_name).name _ 0 here);
        named = (
          place,
          slice_get_within (map (λ (q : Pad). top_point q.1 top_name) state.ins) place (top_point pad.0.1 top_name) mapped,
          get_or_from_slice_get (map (λ (q : Pad). top_point q.1 top_name) state.ins) place p p (mapped ∙ ap Some same),
        );
      }

  -- the number of an input
  pub named_in : (p : Point) → IsNamedInput text state p → (number : ℕ) × IsIn ins number × IsPoint text number p
  named_in p named =
      let has = named.named in
      let places = map (λ (q : Pad). top_point q.1 top_name) state.ins in
      let there : slice_get places has.0 ≡ Some p = slice_get-get_or places has.0 p has.1 ∙ ap Some has.2 in
      let pad = get_of_mapped (λ (q : Pad). top_point q.1 top_name) state.ins has.0 p there in
      let line = get_mapped (λ (q : Pad). entries.Input q.1) state.ins has.0 pad.0 pad.1 in
      let inside = slice_get_within (in_entries state.ins) has.0 (entries.Input pad.0.1) line in
      let number = some_there ins has.0 (let long = at.long in omega (arith, inside, long)) in
      let each = at.each has.0 (entries.Input pad.0.1) number.0 line number.1 in
      (number.0, (has.0, number.0, number.1, refl), subst (IsPoint text number.0) pad.2 each.1)
