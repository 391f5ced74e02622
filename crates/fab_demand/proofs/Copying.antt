-- Bits of an expression that are copies of points, beside one that a look has found.
use Rattle.std.proofs.Common.{◌≡◌, ℕ, ◌-◌, Bool, true, false, List, [], ◌∷◌, ◌++◌, Option, None, Some, length, sym, ap, ◌∙◌, subst, arith, slice_get, slice_set, slice_index, length-append}
use Rattle.fab_systems_laws.specs.Ternary.{Tern as PlainTern}
use Rattle.fab_ternary_laws.specs.Shown.{through}
use Rattle.fab_compiled.specs.declared.leads.Lead.TheVariants.{Point, Own}
use Rattle.fab_compiled.specs.declared.tree.Tree.{Tree}
use Rattle.fab_compiled.specs.Leading.{PointTerns, AreAbove, AgreeOnMarked, FollowLeads, IsLedTo, IsMarked}
use Rattle.fab_network.specs.declared.network.Clock.{Clock}
use Rattle.fab_network.specs.declared.network.Drive.{Drive}
use Rattle.fab_network.specs.declared.network.Drive.TheVariants.{Flop}
use Rattle.fab_network.specs.declared.network.Network.{Network}
use Rattle.fab_network.specs.declared.network.Source.{Source}
use Rattle.fab_network.specs.Leading.{bits_of_source}
use Rattle.fab_network.specs.Network.{source_tern}
use Rattle.fab_demand.specs.declared.copies.Copies.{Copies}
use Rattle.fab_demand.specs.declared.search.Search.{Search}
use Rattle.fab_demand.specs.Asked.{Asked, AsksMore}
use Rattle.fab_demand.specs.Search.{asked_of, Closes, HasRoom, IsSearching}
use Rattle.fab_demand.specs.inner.Beside.{drive_of, KnowsMore, TellsGate}
use Rattle.fab_demand.specs.inner.Copies.{IsCopy, TellsCopies}
use Rattle.fab_demand.specs.inner.Looking.{Finds}
use Rattle.fab_demand.proofs.Asking.{keep_goes_on, lead_goes_on, led_inside, wait_goes_on, GoesOn}
use Rattle.fab_demand.proofs.Beside.{gate_keeps, gate_later, goes_both, last_there, no_flop, some_same}

-- what is told of copies stays true where more is known
pub copies_later : (trees : List Tree) (copies : Copies) (old new : Asked) → AsksMore old new → KnowsMore old new → TellsCopies trees old copies →
    TellsCopies trees new copies
copies_later trees copies old new more above tells = record {
  gate = gate_later trees old new more above copies.bits.gate copies.passes tells.gate;
  copied = record {
    within = omega (arith, tells.copied.within, more.long);
    same = λ k l t h. tells.copied.same k l t (above t h);
  };
}

-- what a look at a copy finds, behind a gate that is known to be 1 if there is one
gate_leads : (trees : List Tree) (clock : Clock) (given : PlainTern) (asked : Asked) (passes : Bool) (next : Source) (gate : Option Source) →
    TellsGate trees asked.terns asked.leads asked.marks gate passes → passes ≡ true → (lead : ℕ) →
    ((t : PointTerns) → AreAbove asked.terns asked.leads t → FollowLeads asked.leads asked.marks t → source_tern trees t next ≡ t lead) →
    IsLedTo asked.leads asked.marks lead → Finds trees clock given asked.terns asked.leads asked.marks (Some (drive_of gate next)) (Point lead)
gate_leads trees clock given asked passes next None tells is lead value led = (λ later t kept above follow. value t above follow, led)
gate_leads trees clock given asked passes next (Some gate) tells is lead value led = (
  λ later t kept above follow. ap (λ (x : PlainTern). through x (source_tern trees t next) later) (tells.0 is t above) ∙ value t above follow,
  led,
)

-- a copy that has not been asked for is asked for and closed, without a look
module _ (network : Network) (clock : Clock) (given : PointTerns) (old mid new : Search) (searching : IsSearching network clock given old)
    (points : length network.drives.items ≡ length old.leads.items) (copies : Copies) (tells : TellsCopies network.trees.items (asked_of old) copies)
    (other from : ℕ) (is : IsCopy network copies old.marks.items other from)
    (asked : asked_of mid ≡ record (asked_of old) { marks = slice_set old.marks.items other true }) (done : mid.done.items ≡ old.done.items)
    (stack : mid.stack.items ≡ old.stack.items ++ other ∷ []) (gates : mid.gates.kept.items ≡ old.gates.kept.items) (room : HasRoom mid) where
  abbrev trees : List Tree
  trees = network.trees.items

  abbrev next : Source
  next = record { tree = copies.bits.source.tree; first = copies.bits.source.first; bit = is.bit }

  pub waits : GoesOn network clock given old mid
  waits = wait_goes_on network clock given old mid searching other is.unmarked asked done stack gates room

  last : slice_get mid.stack.items (length mid.stack.items - 1) ≡ Some other
  last =
      let place : length mid.stack.items - 1 ≡ length old.stack.items = omega (arith, ap length stack, length-append old.stack.items (other ∷ [])) in
      ap (λ (xs : List ℕ). slice_get xs (length mid.stack.items - 1)) stack ∙ last_there old.stack.items other (length mid.stack.items - 1) place

  points_then : length network.drives.items ≡ length mid.leads.items
  points_then = points ∙ sym waits.more.long

  tells_then : TellsCopies trees (asked_of mid) copies
  tells_then = copies_later trees copies (asked_of old) (asked_of mid) waits.more waits.above tells

  marked_then : IsMarked mid.marks.items from
  marked_then = waits.more.marks from is.marked

  value_is : (t : PointTerns) → AreAbove mid.terns.items mid.leads.items t → source_tern trees t next ≡ t from
  value_is t above =
      ap (bits_of_source trees copies.bits.source t) is.copy.at ∙ tells_then.copied.same is.copy.place is.copy.within t above ∙ ap t (sym is.copy.is)

  pub lead_is_closed : copies.passes ≡ true → (lead : ℕ) → lead ≡ slice_index old.leads.items from →
      (IsMarked mid.done.items lead → Closes mid new other (record (asked_of mid) { leads = slice_set mid.leads.items other lead })) →
      (slice_get mid.done.items lead ≡ Some false → Closes mid new other (record (asked_of mid) { own = mid.own.items ++ other ∷ [] })) →
      GoesOn network clock given old new
  lead_is_closed passes lead read led_on waits_on =
      let same : slice_index mid.leads.items from ≡ lead = ap (λ (a : Asked). slice_index a.leads from) asked ∙ sym read in
      let led : IsLedTo mid.leads.items mid.marks.items lead = (from, marked_then, same) in
      let finds = gate_leads trees clock (given other) (asked_of mid) copies.passes next copies.bits.gate tells_then.gate passes lead
      (λ t above follow. value_is t above ∙ follow from marked_then ∙ ap t same) led in
      let registers : (own : Source) → slice_get network.drives.items other ≡ Some (Flop clock own) → Point lead ≡ Own =
      λ own drive. absurd (no_flop copies.bits.gate next own clock (some_same (drive_of copies.bits.gate next) (Flop clock own) (sym is.drive ∙ drive))) in
      goes_both network clock given old mid new waits
      (lead_goes_on network clock given mid waits.searching points_then other last new lead (led_inside network clock given mid waits.searching lead led)
      (subst (λ (d : Option Drive). Finds trees clock (given other) mid.terns.items mid.leads.items mid.marks.items d (Point lead)) (sym is.drive) finds)
      registers led_on waits_on)

  pub keep_is_closed : Closes mid new other (record (asked_of mid) { own = mid.own.items ++ other ∷ [] }) → GoesOn network clock given old new
  keep_is_closed closes =
      let same : (t u : PointTerns) → AreAbove mid.terns.items mid.leads.items t → AreAbove mid.terns.items mid.leads.items u →
      AgreeOnMarked mid.marks.items t u → source_tern trees t next ≡ source_tern trees u next =
      λ t u at_t at_u agree. value_is t at_t ∙ agree from marked_then ∙ sym (value_is u at_u) in
      let finds = gate_keeps trees clock (given other) (asked_of mid) copies.passes next copies.bits.gate tells_then.gate same in
      goes_both network clock given old mid new waits
      (keep_goes_on network clock given mid waits.searching points_then other last new
      (subst (λ (d : Option Drive). Finds trees clock (given other) mid.terns.items mid.leads.items mid.marks.items d Own) (sym is.drive) finds)
      closes)
