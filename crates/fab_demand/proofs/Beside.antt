-- Other bits of an expression, beside one that a look has found.
use Rattle.std.proofs.Common.{◌≡◌, ℕ, zero, suc, ◌+◌, ◌-◌, ◌<◌, Bool, true, false, List, [], ◌∷◌, ◌++◌, Option, None, Some, length, refl, sym, ap, ap₂, ◌∙◌, subst, arith, slice_get, slice_set, length-append}
use Rattle.fab_systems_laws.specs.Ternary.{no, yes, unknown, known, IsBelow}
use Rattle.fab_systems_laws.specs.Ternary.{Tern as PlainTern}
use Rattle.fab_ternary.specs.declared.Tern.{Tern}
use Rattle.fab_ternary.specs.Terns.{plain_tern, is_known}
use Rattle.fab_ternary_laws.specs.Shown.{through}
use Rattle.fab_compiled.specs.declared.leads.Lead.TheVariants.{Known, Own}
use Rattle.fab_compiled.specs.declared.tree.Tree.{Tree}
use Rattle.fab_compiled.specs.Leading.{PointTerns, AreAbove, AgreeOnMarked}
use Rattle.fab_network.specs.declared.network.Clock.{Clock}
use Rattle.fab_network.specs.declared.network.Drive.{Drive}
use Rattle.fab_network.specs.declared.network.Drive.TheVariants.{Flop}
use Rattle.fab_network.specs.declared.network.Network.{Network}
use Rattle.fab_network.specs.declared.network.Source.{Source}
use Rattle.fab_network.specs.Network.{source_tern, IsFitDrive}
use Rattle.fab_network.proofs.Kept.{known_below}
use Rattle.std.specs.Prelude.{IfSome}
use Rattle.fab_demand.specs.declared.others.Bits.{Bits}
use Rattle.fab_demand.specs.declared.others.Together.{Together}
use Rattle.fab_demand.specs.declared.registers.Span.{Span}
use Rattle.fab_compiled.specs.declared.parts.Part.{Part}
use Rattle.fab_demand.specs.declared.search.Search.{Search}
use Rattle.fab_demand.specs.Asked.{Asked, AsksMore, IsPossible}
use Rattle.fab_demand.specs.inner.Beside.{drive_of, AreAlike, AreFitBits, IsBeside, IsBitDrive, IsBitOfPart, IsClosedAs, IsDriveOf, IsSpanAsked, IsSpanOf, KnowsMore, TellsGate, TellsTogether}
use Rattle.fab_demand.specs.inner.Looking.{Finds}
use Rattle.fab_compiled.specs.Parts.{TellsBits}
use Rattle.fab_network.specs.Leading.{bits_of_source}
use Rattle.fab_demand.specs.Search.{asked_of, HasRoom, IsSearching}
use Rattle.fab_demand.proofs.Asking.{asks_both, keep_goes_on, know_goes_on, wait_goes_on, GoesOn}

pub last_there : (xs : List ℕ) (y k : ℕ) → k ≡ length xs → slice_get (xs ++ y ∷ []) k ≡ Some y
last_there [] y zero e = refl
last_there [] y (suc k) e = absurd (omega (arith, e))
last_there (x ∷ xs) y zero e = absurd (omega (arith, e))
last_there (x ∷ xs) y (suc k) e = last_there xs y k (omega (arith, e))

pub some_same : (a b : Drive) → Some a ≡ Some b → a ≡ b
some_same a b e = cc

known_is : (b : Bool) → is_known (known b) ≡ true
known_is true = refl
known_is false = refl

-- what is told of a gate and of a part stays true where more is known
pub gate_later : (trees : List Tree) (old new : Asked) → AsksMore old new → KnowsMore old new → (gate : Option Source) (passes : Bool) →
    TellsGate trees old.terns old.leads old.marks gate passes → TellsGate trees new.terns new.leads new.marks gate passes
gate_later trees old new more above None passes tells = tt
gate_later trees old new more above (Some gate) passes tells = (
  λ is t h. tells.0 is t (above t h),
  λ t u at_t follow_t at_u follow_u agree.
      let before : IsPossible old t = more.possible t (record { above = at_t; follows = follow_t }) in
      let after : IsPossible old u = more.possible u (record { above = at_u; follows = follow_u }) in
      tells.1 t u before.above before.follows after.above after.follows (λ q n. agree q (more.marks q n)),
)

pub tells_later : (trees : List Tree) (together : Together) (old new : Asked) → AsksMore old new → KnowsMore old new → TellsTogether trees old together →
    TellsTogether trees new together
tells_later trees together old new more above tells = record {
  gate = gate_later trees old new more above together.bits.gate together.passes tells.gate;
  bits = record {
    below = λ k bit e t h. tells.bits.below k bit e t (above t h);
    depends = λ m k l t u at_t at_u agree. tells.bits.depends m k l t u (above t at_t) (above u at_u) (λ q n. agree q (more.marks q n));
  };
}

-- one search behind another
pub goes_both : (network : Network) (clock : Clock) (given : PointTerns) (old mid new : Search) → GoesOn network clock given old mid →
    GoesOn network clock given mid new → GoesOn network clock given old new
goes_both network clock given old mid new first then = record {
  searching = then.searching;
  more = asks_both (asked_of old) (asked_of mid) (asked_of new) first.more then.more;
  falls = omega (arith, first.falls, then.falls);
  above = λ t h. first.above t (then.above t h);
}

-- what a look at such a bit finds, behind a gate if there is one
module _ (trees : List Tree) (clock : Clock) (given : PlainTern) (asked : Asked) (passes : Bool) (next : Source) where
  gate_knows : (gate : Option Source) → TellsGate trees asked.terns asked.leads asked.marks gate passes → passes ≡ true → (b : Bool) →
      ((t : PointTerns) → AreAbove asked.terns asked.leads t → source_tern trees t next ≡ known b) →
      Finds trees clock given asked.terns asked.leads asked.marks (Some (drive_of gate next)) (Known b)
  gate_knows None tells is b value = λ later t kept above. value t above
  gate_knows (Some gate) tells is b value = λ later t kept above.
      ap (λ (x : PlainTern). through x (source_tern trees t next) later) (tells.0 is t above) ∙ value t above

  pub gate_keeps : (gate : Option Source) → TellsGate trees asked.terns asked.leads asked.marks gate passes →
      ((t u : PointTerns) → AreAbove asked.terns asked.leads t → AreAbove asked.terns asked.leads u → AgreeOnMarked asked.marks t u →
      source_tern trees t next ≡ source_tern trees u next) →
      Finds trees clock given asked.terns asked.leads asked.marks (Some (drive_of gate next)) Own
  gate_keeps None tells same = λ later t u kept at_t follow_t at_u follow_u agree. same t u at_t at_u agree
  gate_keeps (Some gate) tells same = λ later t u kept at_t follow_t at_u follow_u agree.
      ap₂ (λ (x y : PlainTern). through x y later) (tells.1 t u at_t follow_t at_u follow_u agree) (same t u at_t at_u agree)

pub no_flop : (gate : Option Source) (source own : Source) (clock : Clock) → drive_of gate source ≡ Flop clock own → ⊥
no_flop None source own clock e = cc
no_flop (Some gate) source own clock e = cc

-- the last point that waits is closed, without a look
module _ (network : Network) (clock : Clock) (given : PointTerns) (old new : Search) (searching : IsSearching network clock given old)
    (points : length network.drives.items ≡ length old.leads.items) (together : Together) (tells : TellsTogether network.trees.items (asked_of old) together)
    (point : ℕ) (last : slice_get old.stack.items (length old.stack.items - 1) ≡ Some point) (found : Tern) (is : IsBitOfPart network together point found)
    (closes : IsClosedAs old new point found) where
  abbrev all_trees : List Tree
  all_trees = network.trees.items

  abbrev part : Part
  part = together.part

  abbrev next : Source
  next = record { tree = together.bits.source.tree; first = together.bits.source.first; bit = is.bit }

  abbrev place : ℕ
  place = is.in_part.place

  value_is : (t : PointTerns) → source_tern all_trees t next ≡ bits_of_source all_trees together.bits.source t (part.low + place)
  value_is t = ap (bits_of_source all_trees together.bits.source t) is.in_part.at

  known_closes : (b : Bool) → plain_tern found ≡ known b → GoesOn network clock given old new
  known_closes b has =
      let told = is.in_part.known b has in
      let value : (t : PointTerns) → AreAbove old.terns.items old.leads.items t → source_tern all_trees t next ≡ known b =
      λ t above. value_is t ∙ sym (known_below (known b) (bits_of_source all_trees together.bits.source t (part.low + place)) (known_is b)
      (subst (λ (x : PlainTern). IsBelow x (bits_of_source all_trees together.bits.source t (part.low + place))) has (tells.bits.below place found told.0 t above))) in
      let finds = gate_knows all_trees clock (given point) (asked_of old) together.passes next together.bits.gate tells.gate told.1 b value in
      let registers : (own : Source) → slice_get network.drives.items point ≡ Some (Flop clock own) → Known b ≡ Own =
      λ own drive. absurd (no_flop together.bits.gate next own clock (some_same (drive_of together.bits.gate next) (Flop clock own) (sym is.drive ∙ drive))) in
      let known_at = closes.known b has in
      know_goes_on network clock given old searching points point last new b known_at.0 known_at.1
      (subst (λ (d : Option Drive). Finds all_trees clock (given point) old.terns.items old.leads.items old.marks.items d (Known b)) (sym is.drive) finds)
      registers known_at.2

  itself_closes : plain_tern found ≡ unknown → GoesOn network clock given old new
  itself_closes has =
      let same : (t u : PointTerns) → AreAbove old.terns.items old.leads.items t → AreAbove old.terns.items old.leads.items u → AgreeOnMarked old.marks.items t u →
      source_tern all_trees t next ≡ source_tern all_trees u next =
      λ t u at_t at_u agree. value_is t ∙ tells.bits.depends (is.in_part.enough has) place is.in_part.within t u at_t at_u agree ∙ sym (value_is u) in
      let finds = gate_keeps all_trees clock (given point) (asked_of old) together.passes next together.bits.gate tells.gate same in
      keep_goes_on network clock given old searching points point last new
      (subst (λ (d : Option Drive). Finds all_trees clock (given point) old.terns.items old.leads.items old.marks.items d Own) (sym is.drive) finds)
      (closes.itself has)

  closes_by : (x : PlainTern) → plain_tern found ≡ x → GoesOn network clock given old new
  closes_by no has = known_closes false has
  closes_by yes has = known_closes true has
  closes_by unknown has = itself_closes has

  pub last_goes_on : GoesOn network clock given old new
  last_goes_on = closes_by (plain_tern found) refl

-- a point beside another is asked for and closed, without a look
module _ (network : Network) (clock : Clock) (given : PointTerns) (old mid new : Search) (searching : IsSearching network clock given old)
    (points : length network.drives.items ≡ length old.leads.items) (together : Together) (tells : TellsTogether network.trees.items (asked_of old) together)
    (other : ℕ) (found : Tern) (beside : IsBeside network together old.marks.items other found)
    (asked : asked_of mid ≡ record (asked_of old) { marks = slice_set old.marks.items other true }) (done : mid.done.items ≡ old.done.items)
    (stack : mid.stack.items ≡ old.stack.items ++ other ∷ []) (gates : mid.gates.kept.items ≡ old.gates.kept.items) (room : HasRoom mid)
    (closes : IsClosedAs mid new other found) where
  waits : GoesOn network clock given old mid
  waits = wait_goes_on network clock given old mid searching other beside.unmarked asked done stack gates room

  last : slice_get mid.stack.items (length mid.stack.items - 1) ≡ Some other
  last =
      let place : length mid.stack.items - 1 ≡ length old.stack.items = omega (arith, ap length stack, length-append old.stack.items (other ∷ [])) in
      ap (λ (xs : List ℕ). slice_get xs (length mid.stack.items - 1)) stack ∙ last_there old.stack.items other (length mid.stack.items - 1) place

  pub other_goes_on : GoesOn network clock given old new
  other_goes_on =
      goes_both network clock given old mid new waits
      (last_goes_on network clock given mid new waits.searching (points ∙ sym waits.more.long) together
      (tells_later network.trees.items together (asked_of old) (asked_of mid) waits.more waits.above tells) other last found beside.is closes)

-- ---- bits and gates

-- the expression of a bit is one over points below a number, and so is its gate
pub fit_bits : (trees : List Tree) (count : ℕ) (gate : Option Source) (source : Source) → IsFitDrive trees count (drive_of gate source) →
    AreFitBits trees count (record { source = source; gate = gate })
fit_bits trees count None source fit = record { source = fit; gate = tt }
fit_bits trees count (Some gate) source fit = record { source = fit.1; gate = fit.0 }

pub drive_fits : (trees : List Tree) (count : ℕ) (drive : Drive) (bits : Bits) → IsFitDrive trees count drive → IsDriveOf drive bits → AreFitBits trees count bits
drive_fits trees count drive bits fit is = fit_bits trees count bits.gate bits.source (subst (IsFitDrive trees count) is fit)

-- a drive of a bit of the same expression as another
pub bit_is : (drive : Drive) (found bits : Bits) → IsDriveOf drive found → AreAlike found bits → IsBitDrive drive bits found.source.bit
bit_is drive found bits is alike =
    is ∙ (λ j. drive_of (alike.gate j) (record { tree = alike.beside.tree j; first = alike.beside.first j; bit = found.source.bit }))

pub some_map : {A : Type 0} (r : Option A) (P R : A → Type 0) → IfSome r P → ((v : A) → P v → R v) → IfSome r R
some_map None P R p f = tt
some_map (Some v) P R p f = f v p

-- all that the bits of a marked part need has been asked for
pub part_asked : (trees : List Tree) (asked : Asked) (source : Source) (part : Part) (span : Span) →
    TellsBits asked.terns asked.leads asked.marks (bits_of_source trees source) part → part.marked ≡ true → IsSpanOf source part span → IsSpanAsked trees asked span
part_asked trees asked source part span tells marked is next inside t u at_t at_u agree =
    let place : ℕ = next.bit - part.low in
    let within : place < length part.bits.items = omega (arith, inside.low, inside.below, is.low, is.count) in
    let at : next.bit ≡ part.low + place = omega (arith, inside.low, is.low) in
    let same : next ≡ record { tree = source.tree; first = source.first; bit = part.low + place } =
    (λ j. record { tree = (inside.tree ∙ is.tree) j; first = (inside.first ∙ is.first) j; bit = at j }) in
    ap (source_tern trees t) same ∙ tells.depends marked place within t u at_t.above at_u.above agree ∙ sym (ap (source_tern trees u) same)
