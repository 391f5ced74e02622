use Rattle.std.proofs.Common.{◌≡◌, true, false, take, get_or, sym, ◌∙◌}
use Rattle.std.specs.List.{list_any}
use Rattle.fab_implementation.specs.fab_fabric.specs.declared.wire.Site.{Site}
use Rattle.fab_legal.specs.Lines.{IsNew}
use Rattle.fab_legal.proofs.Lists.{at_default, right_more, wrong_here}
use Rattle.fab_legal.proofs.SiteKeys.{site_test, site_seen, site_new, keys_more}
use Rattle.fab_legal.proofs.placed.first_again.Goals as goal

pub returns-then-contains : goal.returns-then-contains
returns-then-contains c =
    let site : Site = get_or c.args.sites.now c.loop-place.place (record { x = 0; y = 0; bel = 0 }) in
    let found : list_any (site_test site) c.loop-place.seen.keys ≡ true = sym c.contains.ensures ∙ c.if-contains.true in
    let here = rw c.loop-place.invariant.seen at found in
    wrong_here IsNew c.args.sites.now c.loop-place.place site c.loop-place.invariant.right (at_default c.args.sites.now c.loop-place.place (record { x = 0; y = 0; bel = 0 }) c.loop-place-test.true)
    (λ new. new (site_seen (take c.loop-place.place c.args.sites.now) site here))

pub loop-place-preserved : goal.loop-place-preserved
loop-place-preserved c =
    let site : Site = get_or c.args.sites.now c.loop-place.place (record { x = 0; y = 0; bel = 0 }) in
    let at = at_default c.args.sites.now c.loop-place.place (record { x = 0; y = 0; bel = 0 }) c.loop-place-test.true in
    let none : list_any (site_test site) c.loop-place.seen.keys ≡ false = sym c.contains.ensures ∙ c.if-contains.false in
    let here = rw c.loop-place.invariant.seen at none in
    let added = rw none at c.in_ok-insert.ensures.keys in
    record {
      seen = keys_more c.args.sites.now c.loop-place.place site c.loop-place.seen.keys c.insert.new.self.keys at c.loop-place.invariant.seen added;
      right = right_more IsNew c.args.sites.now c.loop-place.place site c.loop-place.invariant.right at (site_new (take c.loop-place.place c.args.sites.now) site here);
    }
