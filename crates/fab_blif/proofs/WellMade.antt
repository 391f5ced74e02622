-- What flattening gives is well made.
use Rattle.std.proofs.Common.{◌≡◌, ℕ, zero, suc, ◌+◌, ◌%◌, ◌^◌, ◌<◌, ◌≤◌, Bool, true, false, not, ◌||◌, cond, nat_eq, nat_lt, List, [], ◌∷◌, ◌++◌, map, length, get_or, flat_map, option_and_then, slice_get, position, Option, Some, None, Contains, refl, sym, ap, subst, ◌∙◌, inl, inr, arith, eqb-true, eq-eqb, ◌⊎◌, is_some, if◌then◌else◌}
use Rattle.std.specs.List.{AllByRecursion as Each, count_by, filter, list_any, position_or_len}
use Rattle.std.specs.Str.{bytes_eq}
use Rattle.std.proofs.lemmas.Bool.{cases_Bool, false≢true}
use Rattle.std.proofs.lemmas.List.{length-map, map-append}
use Rattle.std.proofs.lemmas.List.Folds.{list_any-append}
use Rattle.fab_netlist.specs.declared.netlist.Latch.{Latch}
use Rattle.fab_netlist.specs.Plain.{IsAt, PlainCover, PlainNetlist, name_of}
use Rattle.fab_netlist.specs.Wide.{IsFineRow, IsWideMade, PlainWideCover, tabled_cover}
use Rattle.fab_netlist.specs.WellMade.{IsWellMade, IsWired, cover_outputs, driven, latch_inputs, latch_outputs, ports, read, table_bit, times}
use Rattle.fab_netlist.proofs.Counts.{at_mapped, driven_parts, times_joined}
use Rattle.fab_blif_models.specs.Plain.{PlainModel}
use Rattle.fab_blif_models.specs.Rules.{AreModels, IsModel, declared_inputs, declared_outputs}
use Rattle.fab_blif.specs.declared.design.Use.{Use}
use Rattle.fab_blif.specs.Flat.{PlainNet, Placed, placed_inputs, placed_outputs, placed_clock, copied_clock, placed_cover, placed_latch, net_eq, flat_lines}
use Rattle.fab_instances.specs.Places.{no_model, statements_of}
use Rattle.fab_blif.specs.Design.{PlainClock, PlainDesign, clock_number, clock_ports_by, clocks_by, design_of, is_number, latch_lines, latches_by, nets_of, netlist_of, number_in, wide_of}
use Rattle.fab_blif.specs.Clocks.{clock_uses, data_faults, first_use, is_clock, named_faults}
use Rattle.fab_blif.specs.Judged.{EachHasOne, inner_drivers, input_ports, input_uses, is_among, is_driven, is_of, is_undriven, latch_uses, least_line, least_of, output_uses, readers, undriven_line}
use Rattle.fab_blif.specs.Refusals.{IsFineDesign}
use Rattle.fab_blif.proofs.Clocking.{no_data, none_later}
use Rattle.fab_blif.proofs.Repeated.{table_repeats}
use Rattle.fab_blif.proofs.Each.{each_flat, each_joined, each_kept, each_left, each_mapped, each_weaker, of_member, of_place}
use Rattle.fab_blif.proofs.Rules.{IsFineCover, fine_covers, fine_latches, fine_text}
use Rattle.fab_blif.proofs.Below.{CoverBelow, IsBelow, IsNamed, LatchBelow, all_named, covers_below, inputs_below, latches_below, name_in, outputs_below}
use Rattle.fab_blif.proofs.Ports.{input_uses_named, output_uses_named, text_inputs, text_outputs}
use Rattle.fab_blif.proofs.Counted.{count_joined, count_kept, one_place, times_kept, times_named, times_used}

abbrev net_of : Use → ℕ
net_of used = used.net

-- ---- the nets of uses

nets_of_outputs : (covers : List PlainWideCover) → map net_of (output_uses covers) ≡ cover_outputs (map tabled_cover covers)
nets_of_outputs [] = refl
nets_of_outputs (made ∷ covers) = ap (λ (rest : List ℕ). made.output ∷ rest) (nets_of_outputs covers)

nets_at : (line : ℕ) (nets : List ℕ) → map net_of (map (λ (net : ℕ). record { line = line; net = net }) nets) ≡ nets
nets_at line [] = refl
nets_at line (net ∷ nets) = ap (λ (rest : List ℕ). net ∷ rest) (nets_at line nets)

nets_of_inputs : (covers : List PlainWideCover) → map net_of (input_uses covers) ≡ flat_map (λ (made : PlainCover). made.inputs) (map tabled_cover covers)
nets_of_inputs [] = refl
nets_of_inputs (made ∷ covers) =
    map-append net_of (map (λ (net : ℕ). record { line = made.line; net = net }) made.inputs) (input_uses covers)
    ∙ (λ j. nets_at made.line made.inputs j ++ nets_of_inputs covers j)

-- each latch has a line
nets_of_latches : (of : Latch → ℕ) (nets : List PlainNet) (text : List Placed) →
    map net_of (latch_uses of (flat_map latch_lines text) (flat_map (latches_by nets) text)) ≡ map of (flat_map (latches_by nets) text)
nets_of_latches of nets [] = refl
nets_of_latches of nets (placed_inputs line names ∷ text) = nets_of_latches of nets text
nets_of_latches of nets (placed_outputs line names ∷ text) = nets_of_latches of nets text
nets_of_latches of nets (placed_clock line net ∷ text) = nets_of_latches of nets text
nets_of_latches of nets (copied_clock line net ∷ text) = nets_of_latches of nets text
nets_of_latches of nets (placed_cover line names output on rows ∷ text) = nets_of_latches of nets text
nets_of_latches of nets (placed_latch line input output control initial ∷ text) =
    ap (λ (rest : List ℕ). of (record { input = number_in nets input; output = number_in nets output; init = initial }) ∷ rest) (nets_of_latches of nets text)

-- ---- membership by tests

among_uses : (net : ℕ) (used : List Use) → list_any (is_of net) used ≡ is_among (map net_of used) net
among_uses net [] = refl
among_uses net (u ∷ used) = ap (λ (rest : Bool). nat_eq net u.net || rest) (among_uses net used)

found : (net : ℕ) (nets : List ℕ) → is_among nets net ≡ true → Contains nets net
found net [] there = absurd (false≢true there)
found net (other ∷ nets) there =
    elim (cases_Bool (nat_eq net other)) [
      | inl t ↦ (zero, omega arith, sym (eqb-true net other t))
      | inr f ↦ (let rest : is_among nets net ≡ true = rw f at there in let at = found net nets rest in (suc at.0, omega (arith, at.1), at.2))
    ]

kept_among : (net : ℕ) (keep : ℕ → Bool) (nets : List ℕ) → is_among nets net ≡ true → keep net ≡ true → is_among (filter keep nets) net ≡ true
kept_among net keep [] there kept = absurd (false≢true there)
kept_among net keep (other ∷ nets) there kept =
    elim (cases_Bool (nat_eq net other)) [
      | inl t ↦ (let here : keep other ≡ true = ap keep (sym (eqb-true net other t)) ∙ kept in rw (here, t) refl)
      | inr f ↦ (let rest : is_among nets net ≡ true = rw f at there in later (kept_among net keep nets rest kept) (cases_Bool (keep other)))
    ]
  where
    cases_or : (b : Bool) → (b || true) ≡ true
    cases_or true = refl
    cases_or false = refl

    later : is_among (filter keep nets) net ≡ true → (keep other ≡ true) ⊎ (keep other ≡ false) → is_among (filter keep (other ∷ nets)) net ≡ true
    later rest (inl t) = rw (t, rest) (cases_or (nat_eq net other))
    later rest (inr f) = rw f rest

none_counted : (net : ℕ) (nets : List ℕ) → is_among nets net ≡ false → times net nets ≡ 0
none_counted net [] none = refl
none_counted net (other ∷ nets) none =
    elim (cases_Bool (nat_eq other net)) [
      | inl t ↦ absurd (false≢true (sym none ∙ ap (λ (b : Bool). b || is_among nets net) (eq-eqb net other (sym (eqb-true other net t)))))
      | inr f ↦ elim (cases_Bool (nat_eq net other)) [
        | inl t ↦ absurd (false≢true (sym none ∙ ap (λ (b : Bool). b || is_among nets net) t))
        | inr g ↦ (let rest : is_among nets net ≡ false = rw g at none in rw f (omega (arith, none_counted net nets rest)))
      ]
    ]

-- ---- no least line

some_of : (line : ℕ) (other : Option ℕ) → least_of (Some line) other ≡ None → ⊥
some_of line None same = false≢true (sym (ap is_some same))
some_of line (Some other) same = false≢true (sym (ap is_some same))

pub no_line : (test : Use → Bool) (used : List Use) → least_line test used ≡ None → Each (λ (u : Use). test u ≡ false) used
no_line test [] none = tt
no_line test (u ∷ used) none =
    elim (cases_Bool (test u)) [
      | inl t ↦ (let more : least_of (Some u.line) (least_line test used) ≡ None = rw t at none in absurd (some_of u.line (least_line test used) more))
      | inr f ↦ (let rest : least_line test used ≡ None = rw f at none in (f, no_line test used rest))
    ]

-- ---- ports and clocks

names_composed : (f : ℕ → List ℕ) (used : List Use) → map f (map net_of used) ≡ map (λ (u : Use). f u.net) used
names_composed f [] = refl
names_composed f (u ∷ used) = ap (λ (rest : List (List ℕ)). f u.net ∷ rest) (names_composed f used)

-- a port that `.clock` declares is a clock
port_is_clock : (net : ℕ) (nets : List PlainNet) (text : List Placed) → list_any (is_of net) (flat_map (clock_ports_by nets) text) ≡ true →
    list_any (is_of net) (clock_uses nets (flat_map (clocks_by nets) text)) ≡ true
port_is_clock net nets [] there = there
port_is_clock net nets (placed_inputs line names ∷ text) there = port_is_clock net nets text there
port_is_clock net nets (placed_outputs line names ∷ text) there = port_is_clock net nets text there
port_is_clock net nets (placed_clock line clock ∷ text) there =
    elim (cases_Bool (nat_eq net (number_in nets clock))) [
      | inl t ↦ rw t refl
      | inr f ↦ (let rest : list_any (is_of net) (flat_map (clock_ports_by nets) text) ≡ true = rw f at there in rw f (port_is_clock net nets text rest))
    ]
port_is_clock net nets (copied_clock line clock ∷ text) there = or_right (nat_eq net (number_in nets clock)) _ (port_is_clock net nets text there)
  where
    or_right : (a b : Bool) → b ≡ true → (a || b) ≡ true
    or_right true b is = refl
    or_right false b is = is
port_is_clock net nets (placed_cover line names output on rows ∷ text) there = port_is_clock net nets text there
port_is_clock net nets (placed_latch line input output None initial ∷ text) there = port_is_clock net nets text there
port_is_clock net nets (placed_latch line input output (Some control) initial ∷ text) there = or_right (nat_eq net (number_in nets control)) _ (port_is_clock net nets text there)
  where
    or_right : (a b : Bool) → b ≡ true → (a || b) ≡ true
    or_right true b is = refl
    or_right false b is = is

-- a net that is no clock does not have the number of the clock
no_number : (net : ℕ) (nets : List PlainNet) (clocks : List PlainClock) → list_any (is_of net) (clock_uses nets clocks) ≡ false →
    is_number (option_and_then (λ (name : PlainClock). position (net_eq name.net) nets) (slice_get clocks 0)) net ≡ false
no_number net nets [] none = refl
no_number net nets (clock ∷ clocks) none = at_place (position_or_len (net_eq clock.net) nets) (first_false (nat_eq net (number_in nets clock.net)) _ none)
  where
    first_false : (a b : Bool) → (a || b) ≡ false → a ≡ false
    first_false true b is = absurd (false≢true (sym is))
    first_false false b is = refl

    at_place : (place : ℕ) → nat_eq net place ≡ false → is_number (cond (nat_lt place (length nets)) (Some place) None) net ≡ false
    at_place place other =
        elim (cases_Bool (nat_lt place (length nets))) [
          | inl t ↦ rw t (elim (cases_Bool (nat_eq place net)) [
            | inl same ↦ absurd (false≢true (sym other ∙ eq-eqb net place (sym (eqb-true place net same))))
            | inr f ↦ f
          ])
          | inr f ↦ rw f refl
        ]

-- ---- the whole

is_model : (most : ℕ) (models : List PlainModel) → AreModels most models → (place : ℕ) → IsModel most (get_or models place no_model)
is_model most models given place = of_place (IsModel most) models place no_model (record { bodies = tt; ports = λ (name : List ℕ). omega arith }) given

module _ (most : ℕ) (models : List PlainModel) (given : AreModels most models) where
  abbrev text : List Placed
  text = flat_lines models

  abbrev nets : List PlainNet
  nets = nets_of text

  abbrev design : PlainDesign
  design = design_of text

  abbrev netlist : PlainNetlist
  netlist = netlist_of design

  named_all : Each (IsNamed nets) text
  named_all = all_named text

  covers_all : Each (CoverBelow nets) design.covers
  covers_all = covers_below nets text named_all

  latches_all : Each (LatchBelow nets) design.latches
  latches_all = latches_below nets text named_all

  outputs_below_all : Each (IsBelow nets) (cover_outputs netlist.covers)
  outputs_below_all =
      each_mapped (IsBelow nets) (λ (made : PlainCover). made.output) netlist.covers
      (each_mapped (λ (made : PlainCover). made.output < length nets) tabled_cover design.covers (each_weaker (CoverBelow nets) _ (λ (made : PlainWideCover) all. all.1) design.covers covers_all))

  inputs_below_all : Each (IsBelow nets) (flat_map (λ (made : PlainCover). made.inputs) netlist.covers)
  inputs_below_all =
      each_flat (λ (made : PlainCover). Each (IsBelow nets) made.inputs) (IsBelow nets) (λ (made : PlainCover). made.inputs) (λ (made : PlainCover) all. all) netlist.covers
      (each_mapped (λ (made : PlainCover). Each (IsBelow nets) made.inputs) tabled_cover design.covers (each_weaker (CoverBelow nets) _ (λ (made : PlainWideCover) all. all.0) design.covers covers_all))

  all_driven_below : Each (IsBelow nets) (driven netlist)
  all_driven_below =
      each_joined (IsBelow nets) (cover_outputs netlist.covers) _ outputs_below_all
      (each_joined (IsBelow nets) (latch_outputs netlist) _ (each_mapped (IsBelow nets) (λ (made : Latch). made.output) design.latches (each_weaker (LatchBelow nets) _ (λ (made : Latch) all. all.1) design.latches latches_all))
      (each_kept (IsBelow nets) _ (map net_of design.inputs) (each_mapped (IsBelow nets) net_of design.inputs (inputs_below nets text named_all))))

  all_read_below : Each (IsBelow nets) (read netlist)
  all_read_below =
      each_joined (IsBelow nets) (flat_map (λ (made : PlainCover). made.inputs) netlist.covers) _ inputs_below_all
      (each_joined (IsBelow nets) (latch_inputs netlist) _ (each_mapped (IsBelow nets) (λ (made : Latch). made.input) design.latches (each_weaker (LatchBelow nets) _ (λ (made : Latch) all. all.0) design.latches latches_all))
      (each_mapped (IsBelow nets) net_of design.outputs (outputs_below nets text named_all)))

  below_count : (net : ℕ) → net < length nets → net < length netlist.nets
  below_count net small = omega (arith, small, length-map nets (λ (other : PlainNet). other.name))

  -- ---- names of ports

  input_names_are : map (name_in nets) (map net_of design.inputs) ≡ declared_inputs (statements_of models 0)
  input_names_are = names_composed (name_in nets) design.inputs ∙ input_uses_named nets text named_all ∙ text_inputs models

  output_names_are : map (name_in nets) (map net_of design.outputs) ≡ declared_outputs (statements_of models 0)
  output_names_are = names_composed (name_in nets) design.outputs ∙ output_uses_named nets text named_all ∙ text_outputs models

  names_once : (name : List ℕ) → count_by (bytes_eq name) (map (name_in nets) (map net_of design.inputs)) + count_by (bytes_eq name) (map (name_in nets) (map net_of design.outputs)) ≤ 1
  names_once name =
      omega (
        arith,
        ap (count_by (bytes_eq name)) input_names_are,
        ap (count_by (bytes_eq name)) output_names_are,
        count_joined (bytes_eq name) (declared_inputs (statements_of models 0)) (declared_outputs (statements_of models 0)),
        (is_model most models given 0).ports name,
      )

  ports_once : (name : List ℕ) → count_by (bytes_eq name) (map (name_in nets) (ports netlist)) ≤ 1
  ports_once name =
      omega (
        arith,
        ap (count_by (bytes_eq name)) (map-append (name_in nets) netlist.inputs netlist.outputs),
        count_joined (bytes_eq name) (map (name_in nets) netlist.inputs) (map (name_in nets) netlist.outputs),
        count_kept (bytes_eq name) (name_in nets) (λ (net : ℕ). not (is_number (clock_number design) net)) (map net_of design.inputs),
        names_once name,
      )

  ports_apart : (j k first second : ℕ) → IsAt (ports netlist) j first → IsAt (ports netlist) k second → name_of netlist first ≡ name_of netlist second → j ≡ k
  ports_apart j k first second here there same =
      one_place (map (name_in nets) (ports netlist)) (name_in nets second) j k (ports_once (name_in nets second))
      (subst (λ (name : List ℕ). IsAt (map (name_in nets) (ports netlist)) j name) same (at_mapped (name_in nets) (ports netlist) j first here))
      (at_mapped (name_in nets) (ports netlist) k second there)

  inner_nets : map net_of (inner_drivers design) ≡ cover_outputs netlist.covers ++ latch_outputs netlist
  inner_nets =
      map-append net_of (output_uses design.covers) _
      ∙ (λ j. nets_of_outputs design.covers j ++ nets_of_latches (λ (made : Latch). made.output) nets text j)

  reader_nets : map net_of (readers design) ≡ read netlist
  reader_nets =
      map-append net_of (input_uses design.covers) _
      ∙ ap (λ (rest : List ℕ). map net_of (input_uses design.covers) ++ rest) (map-append net_of (latch_uses (λ (made : Latch). made.input) design.latch_lines design.latches) design.outputs)
      ∙ (λ j. nets_of_inputs design.covers j ++ (nets_of_latches (λ (made : Latch). made.input) nets text j ++ map net_of design.outputs))

  -- ---- drivers

  ports_by_test : (net : ℕ) → times net netlist.inputs ≤ (if list_any (is_of net) (input_ports design) then 1 else 0)
  ports_by_test net =
      elim (cases_Bool (list_any (is_of net) (input_ports design))) [
        | inl t ↦ rw t (omega (arith, times_kept net (λ (other : ℕ). not (is_number (clock_number design) other)) (map net_of design.inputs), times_named (name_in nets) net (map net_of design.inputs), names_once (name_in nets net)))
        | inr f ↦ (let none : is_among (map net_of design.inputs) net ≡ false = left_false (list_any (is_of net) design.inputs) (list_any (is_of net) design.clock_ports) (sym (list_any-append (is_of net) design.inputs design.clock_ports) ∙ f) in
            rw f (omega (arith, times_kept net (λ (other : ℕ). not (is_number (clock_number design) other)) (map net_of design.inputs), none_counted net (map net_of design.inputs) none)))
      ]
    where
      first : (a b : Bool) → (a || b) ≡ false → a ≡ false
      first true b is = absurd (false≢true (sym is))
      first false b is = refl

      left_false : (a b : Bool) → (list_any (is_of net) design.inputs || b) ≡ false → is_among (map net_of design.inputs) net ≡ false
      left_false a b is = sym (among_uses net design.inputs) ∙ first (list_any (is_of net) design.inputs) b is

  each_once : EachHasOne design → (net : ℕ) → times net (driven netlist) ≤ 1
  each_once once net =
      omega (
        arith,
        driven_parts netlist net,
        times_joined net (cover_outputs netlist.covers) (latch_outputs netlist),
        ap (times net) inner_nets,
        times_used net (inner_drivers design),
        ports_by_test net,
        once net,
      )

  driven_net : (net : ℕ) → is_driven design net ≡ true → is_clock design net ≡ false → Contains (driven netlist) net
  driven_net net there no_clock = found net (driven netlist) among
    where
      no_number_here : not (is_number (clock_number design) net) ≡ true
      no_number_here = ap not (no_number net nets design.clocks no_clock)

      no_clock_port : list_any (is_of net) design.clock_ports ≡ false
      no_clock_port =
          elim (cases_Bool (list_any (is_of net) design.clock_ports)) [
            | inl t ↦ absurd (false≢true (sym no_clock ∙ port_is_clock net nets text t))
            | inr f ↦ f
          ]

      inner_is : list_any (is_of net) (inner_drivers design) ≡ (is_among (cover_outputs netlist.covers) net || is_among (latch_outputs netlist) net)
      inner_is =
          among_uses net (inner_drivers design)
          ∙ ap (λ (list : List ℕ). is_among list net) inner_nets
          ∙ list_any-append (nat_eq net) (cover_outputs netlist.covers) (latch_outputs netlist)

      ports_are : list_any (is_of net) (input_ports design) ≡ (is_among (map net_of design.inputs) net || false)
      ports_are = list_any-append (is_of net) design.inputs design.clock_ports ∙ (λ j. among_uses net design.inputs j || no_clock_port j)

      parts : ((is_among (cover_outputs netlist.covers) net || is_among (latch_outputs netlist) net) || (is_among (map net_of design.inputs) net || false)) ≡ true
      parts = (λ j. sym inner_is j || sym ports_are j) ∙ sym (list_any-append (is_of net) (inner_drivers design) (input_ports design)) ∙ there

      kept : is_among (map net_of design.inputs) net ≡ true → is_among netlist.inputs net ≡ true
      kept here = kept_among net (λ (other : ℕ). not (is_number (clock_number design) other)) (map net_of design.inputs) here no_number_here

      conclude : (c l r i : Bool) → ((c || l) || (r || false)) ≡ true → (r ≡ true → i ≡ true) → (c || (l || i)) ≡ true
      conclude true l r i is step = refl
      conclude false true r i is step = refl
      conclude false false true i is step = step refl
      conclude false false false i is step = absurd (false≢true is)

      among : is_among (driven netlist) net ≡ true
      among =
          list_any-append (nat_eq net) (cover_outputs netlist.covers) (latch_outputs netlist ++ netlist.inputs)
          ∙ ap (λ (b : Bool). is_among (cover_outputs netlist.covers) net || b) (list_any-append (nat_eq net) (latch_outputs netlist) netlist.inputs)
          ∙ conclude (is_among (cover_outputs netlist.covers) net) (is_among (latch_outputs netlist) net) (is_among (map net_of design.inputs) net) (is_among netlist.inputs net) parts kept

  abbrev IsFineReader : ℕ → Type 0
  IsFineReader net = (not (is_driven design net) ≡ false) × (is_clock design net ≡ false)

  fine_readers : undriven_line design ≡ None → data_faults (is_clock design) (readers design ++ inner_drivers design) ≡ [] → Each IsFineReader (read netlist)
  fine_readers driven_all unread =
      subst (Each IsFineReader) reader_nets (each_mapped IsFineReader net_of (readers design) (both (readers design) (no_line (is_undriven design) (readers design) driven_all)
      (each_left (λ (u : Use). is_clock design u.net ≡ false) (readers design) (inner_drivers design) (no_data (is_clock design) (readers design ++ inner_drivers design) unread))))
    where
      both : (used : List Use) → Each (λ (u : Use). is_undriven design u ≡ false) used → Each (λ (u : Use). is_clock design u.net ≡ false) used → Each (λ (u : Use). IsFineReader u.net) used
      both [] first second = tt
      both (u ∷ used) first second = ((first.0, second.0), both used first.1 second.1)

  fine_covers_all : Each (IsFineCover most) design.covers
  fine_covers_all = fine_covers most nets text (fine_text most models given)

  unread : IsFineDesign design → data_faults (is_clock design) (readers design ++ inner_drivers design) ≡ []
  unread judged =
      none_later (named_faults (is_driven design) (is_clock design) (first_use (clock_uses design.nets design.clocks)) design.nets design.clocks)
      (data_faults (is_clock design) (readers design ++ inner_drivers design)) judged.clocks

  is_wired : IsFineDesign design → IsWired netlist
  is_wired judged = record {
    small = omega (arith, judged.small, length-map nets (λ (other : PlainNet). other.name));
    driven_below = λ (net : ℕ) here. below_count net (of_member (IsBelow nets) (driven netlist) net all_driven_below here);
    read_below = λ (net : ℕ) here. below_count net (of_member (IsBelow nets) (read netlist) net all_read_below here);
    initials = λ (made : Latch) here. of_member (λ (one : Latch). one.init ≤ 3) design.latches made (fine_latches most nets text (fine_text most models given)) here;
    driven_once = each_once judged.once;
    read_driven = λ (net : ℕ) here. (let fine = of_member IsFineReader (read netlist) net (fine_readers judged.driven (unread judged)) here in driven_net net (not_false (is_driven design net) fine.0) fine.1);
    reset_below = λ place is. absurd (some_none place is);
    ports_differ = ports_apart;
  }
    where
      some_none : (place : ℕ) → None ≡ Some place → ⊥
      some_none place is = cc

      not_false : (b : Bool) → not b ≡ false → b ≡ true
      not_false true is = refl
      not_false false is = absurd (false≢true (sym is))

  is_wide_made : most ≤ 16 → IsFineDesign design → IsWideMade (wide_of design)
  is_wide_made few judged = record {
    wired = is_wired judged;
    few = λ (made : PlainWideCover) here. omega (arith, few, (of_member (IsFineCover most) design.covers made fine_covers_all here).0);
    rows = λ (made : PlainWideCover) here. (of_member (IsFineCover most) design.covers made fine_covers_all here).1;
  }

  is_narrow : most ≤ 4 → Each (λ (made : PlainWideCover). length made.inputs ≤ 4) design.covers
  is_narrow few = each_weaker (IsFineCover most) _ (λ (made : PlainWideCover) fine. omega (arith, few, fine.0)) design.covers fine_covers_all

  abbrev RepeatsItself : PlainCover → Type 0
  RepeatsItself made = (place : ℕ) → place < 16 → table_bit made.table place ≡ table_bit made.table (place % 2 ^ length made.inputs)

  is_well_made : most ≤ 4 → IsFineDesign design → IsWellMade netlist
  is_well_made few judged =
      let wires = is_wired judged in
      record {
        small = wires.small;
        driven_below = wires.driven_below;
        read_below = wires.read_below;
        four_inputs = λ (made : PlainCover) here. of_member (λ (one : PlainCover). length one.inputs ≤ 4) netlist.covers made
            (each_mapped (λ (one : PlainCover). length one.inputs ≤ 4) tabled_cover design.covers (is_narrow few)) here;
        repeats = λ (made : PlainCover) here. of_member RepeatsItself netlist.covers made (each_mapped RepeatsItself tabled_cover design.covers
            (each_weaker (IsFineCover most) _ (λ (one : PlainWideCover) fine. table_repeats one (omega (arith, few, fine.0)) fine.1) design.covers fine_covers_all)) here;
        initials = wires.initials;
        driven_once = wires.driven_once;
        read_driven = wires.read_driven;
        reset_below = wires.reset_below;
        ports_differ = wires.ports_differ;
      }

-- the same of a design that is the one of the text
pub wired_design : (most : ℕ) (models : List PlainModel) → AreModels most models → (given : PlainDesign) → given ≡ design_of (flat_lines models) → IsFineDesign given → IsWired (netlist_of given)
wired_design most models fine given is judged = subst (λ (d : PlainDesign). IsFineDesign d → IsWired (netlist_of d)) (sym is) (is_wired most models fine) judged

pub wide_design : (most : ℕ) → most ≤ 16 → (models : List PlainModel) → AreModels most models → (given : PlainDesign) → given ≡ design_of (flat_lines models) → IsFineDesign given → IsWideMade (wide_of given)
wide_design most few models fine given is judged = subst (λ (d : PlainDesign). IsFineDesign d → IsWideMade (wide_of d)) (sym is) (is_wide_made most models fine few) judged

-- of covers of at most four inputs
pub narrow_design : (models : List PlainModel) → AreModels 4 models → IsFineDesign (design_of (flat_lines models)) → IsWellMade (netlist_of (design_of (flat_lines models)))
narrow_design models fine judged = is_well_made 4 models fine (omega arith) judged

pub narrow_covers : (models : List PlainModel) → AreModels 4 models → Each (λ (made : PlainWideCover). length made.inputs ≤ 4) (design_of (flat_lines models)).covers
narrow_covers models fine = is_narrow 4 models fine (omega arith)
