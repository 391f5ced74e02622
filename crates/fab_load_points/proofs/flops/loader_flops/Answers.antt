use Rattle.std.proofs.Common.{◌≡◌, true, List, [], ◌∷◌, ◌++◌, sym, ap, ◌∙◌, subst, inl, inr, arith, Vec, Global}
use Rattle.std.proofs.lemmas.Bool.{cases_eq}
use Rattle.std.proofs.lemmas.Option.{slice_get_within}
use Rattle.fab_syntax.specs.Plain.{plain_text}
use Rattle.fab_equations.specs.Instances.{points}
use Rattle.fab_load_points.specs.inner.Causes.{StandsFor}
use Rattle.fab_load_points.specs.inner.Flops.{among, AreLoaderFlops}
use Rattle.fab_load_points.specs.declared.flops.Flop.{Flop}
use Rattle.fab_load_points.proofs.Rounds.{more_flops, among_more, among_last, all_among}
use Rattle.fab_load_points.proofs.flops.loader_flops.Goals as goal
use Rattle.fab_load_points.proofs.flops.loader_flops.Goals.{in-Some+in_ok-push, in_default}

pub loop-point-preserved : goal.loop-point-preserved
loop-point-preserved c =
    let text = plain_text c.args.equations.now in
    let old = c.loop-point.flops.items in
    let now = c.match-loader_flop.flops.items in
    elim c.match-loader_flop.branch [
      | in-Some+in_ok-push w ↦ (let f = w.in-Some.flop in
          let same : now ≡ old ++ f ∷ [] = ap (λ (v : Vec Flop Global). v.items) w.flops-is ∙ w.in_ok-push.ensures.items in
          record {
            known = c.in_ok-note_driver.ensures;
            flops = subst (AreLoaderFlops text) (sym same) (more_flops text old f c.loop-point.invariant.flops (w.in-Some.ensures.flop text c.requires.sound c.requires.stream c.driver_near-driver.ensures.drives));
            all = λ number at stands below loader.
                subst (λ (xs : List Flop). among text xs at ≡ true) (sym same)
                (elim (cases_eq number c.loop-point.point) [
                  | inl last ↦ among_last text c.requires.sound old f at (subst (λ n. StandsFor text n at) (last ∙ sym w.in-Some.ensures.name) stands)
                  | inr earlier ↦ among_more text c.requires.sound old f at (c.loop-point.invariant.all number at stands (omega (arith, below, earlier)) loader)
                ]);
          })
      | in_default w ↦ (let same : now ≡ old = ap (λ (v : Vec Flop Global). v.items) w.flops-is in
          record {
            known = c.in_ok-note_driver.ensures;
            flops = subst (AreLoaderFlops text) (sym same) c.loop-point.invariant.flops;
            all = λ number at stands below loader.
                subst (λ (xs : List Flop). among text xs at ≡ true) (sym same)
                (elim (cases_eq number c.loop-point.point) [
                  | inl last ↦ absurd (w.in_default.ensures.other text c.requires.sound c.requires.stream c.driver_near-driver.ensures.drives at (subst (λ n. StandsFor text n at) last stands) loader)
                  | inr earlier ↦ c.loop-point.invariant.all number at stands (omega (arith, below, earlier)) loader
                ]);
          })
    ]

pub returns-clause-all : goal.returns-clause-all
returns-clause-all c p l =
    let text = plain_text c.args.equations.now in
    all_among text c.requires.sound c.loop-point.flops.items c.loop-point.invariant.flops
    (λ number at stands loader. c.loop-point.invariant.all number at stands (omega (arith, slice_get_within (points text) number at stands.is, c.loop-point-test.false, c.points-point-end.ensures)) loader)
    p l
