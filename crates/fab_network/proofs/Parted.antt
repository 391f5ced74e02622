-- Parts of the expression of a source.
use Rattle.std.proofs.Common.{◌≡◌, ℕ, ◌+◌, Bool, List, Option, Some, Result, Ok, Err, IfOk, slice_get, sym, ap, ◌∙◌, subst}
use Rattle.fab_systems_laws.specs.Ternary.{IsBelow}
use Rattle.fab_systems_laws.specs.Ternary.{Tern as PlainTern}
use Rattle.fab_ternary.specs.declared.Tern.{Tern}
use Rattle.fab_ternary.specs.Terns.{plain_tern}
use Rattle.fab_compiled.specs.declared.parts.Part.{Part}
use Rattle.fab_compiled.specs.declared.tree.Tree.{Tree}
use Rattle.fab_compiled.specs.Leading.{PointTerns, bit_under}
use Rattle.fab_compiled.specs.Parts.{TellsBits}
use Rattle.fab_network.specs.declared.network.Source.{Source}
use Rattle.fab_network.specs.Leading.{bits_of_source}
use Rattle.fab_network.specs.Network.{tern_in}

pub source_tells : (terns : List Tern) (leads : List ℕ) (marks : List Bool) (trees : List Tree) (source : Source) (tree : Tree) (part : Part) →
    slice_get trees source.tree ≡ Some tree → TellsBits terns leads marks (λ t place. bit_under t source.first tree place) part →
    TellsBits terns leads marks (bits_of_source trees source) part
source_tells terns leads marks trees source tree part there tells =
    let same : (t : PointTerns) (place : ℕ) → bits_of_source trees source t place ≡ bit_under t source.first tree place =
    λ t place. ap (λ (o : Option Tree). tern_in o t source.first place) there in
    record {
      below = λ k bit e t above. subst (λ (x : PlainTern). IsBelow (plain_tern bit) x) (sym (same t (part.low + k))) (tells.below k bit e t above);
      depends = λ m k l t u above over agree. same t (part.low + k) ∙ tells.depends m k l t u above over agree ∙ sym (same u (part.low + k));
    }

pub ok_map : {A E : Type 0} (r : Result A E) (P R : A → Type 0) → IfOk r P → ((v : A) → P v → R v) → IfOk r R
ok_map (Ok v) P R p f = f v p
ok_map (Err e) P R p f = tt
