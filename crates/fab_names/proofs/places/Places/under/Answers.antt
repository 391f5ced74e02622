use Rattle.std.proofs.Common.{◌∙◌, List, Vec, ℕ, Global, ap, sym, subst, Bor, MatchOption, ◌≡◌, ◌<◌, ◌≤◌, length}
use Rattle.std.specs.List.{HoldsAt}
use Rattle.fab_names.specs.inner.Keyed.{group_of}
use Rattle.fab_names.proofs.Keys.{group_read, place_of_key}
use Rattle.fab_names.proofs.places.Places.under.Goals as goal

pub returns-in-None : goal.returns-in-None
returns-in-None c =
    let keys = c.args.self.now.keys.keys in
    let groups = c.args.self.now.groups.items in
    ap (group_of {A = Global} groups) (sym c.in-None.is ∙ c.get_index_of.ensures.index ∙ place_of_key c.args.key.now keys)

pub returns-in-Some : goal.returns-in-Some
returns-in-Some c =
    let keys = c.args.self.now.keys.keys in
    let groups = c.args.self.now.groups.items in
    group_read groups c.in-Some.slot c.get.result
    (subst (λ (all : List (Vec ℕ Global)). MatchOption c.get.result (length all ≤ c.in-Some.slot) (λ (group : Bor (Vec ℕ Global)). (c.in-Some.slot < length all) × HoldsAt (λ y. group.now ≡ y) all c.in-Some.slot)) c.deref.ensures.value c.get.ensures.lookup.3)
    ∙ ap (group_of {A = Global} groups) (sym c.in-Some.is ∙ c.get_index_of.ensures.index ∙ place_of_key c.args.key.now keys)
