use Rattle.std.proofs.Common.{rules, ◌≡◌, ◌+◌, ◌<◌, true, false, List, [], ◌∷◌, ◌++◌, Some, length, drop, set, slice_index_or, slice_get, refl, sym, ap, ◌∙◌, subst, arith, vec_len, Vec, Global}
use Rattle.std.proofs.lemmas.List.{length-set}
use Rattle.std.proofs.lemmas.Option.{slice_get-get_or}
use Rattle.fab_syntax.specs.Plain.{plain_text}
use Rattle.fab_equations.specs.Instances.{points}
use Rattle.fab_load_points.specs.inner.Flops.{Looks}
use Rattle.fab_load_points.specs.declared.flops.Flop.{Flop}
use Rattle.fab_load_points.specs.declared.search.Search.{Search}
use Rattle.fab_load_points.specs.declared.search.Status.TheVariants.{Outside}
use Rattle.fab_load_points.proofs.Rounds.{IsRound, flop_at, name_within, split_at, round_begins, round_keeps, round_drops, round_holds, round_closed}
use Rattle.fab_load_points.proofs.flops.kept_flops.Goals as goal
use Rattle.fab_load_points.proofs.flops.kept_flops.Goals.{then-branch+in_ok-push, else-branch}

-- in place of a flip-flop behind the last
abbrev no_flop : Flop
no_flop = record { name = 0; next = record { instance = 0; expr = 0; bit = 0 } }

pub loop-flop-init : goal.loop-flop-init
loop-flop-init c =
    let text = plain_text c.args.equations.now in
    let flops = c.args.flops.now in
    let statuses = c.args.search.now.statuses.items in
    record {
      long = refl;
      rest = c.requires.rest;
      round = subst (λ (kept : List Flop). IsRound text flops 0 kept statuses) (sym c.new-kept.ensures.items)
          (round_begins text c.requires.sound flops c.requires.flops statuses c.requires.begun c.requires.holds);
    }

pub index_mut-requires : goal.index_mut-requires
index_mut-requires c =
    let flops = c.args.flops.now in
    let k = c.loop-flop.flop-index in
    let f = slice_index_or flops k no_flop in
    let within = name_within (plain_text c.args.equations.now) f (c.requires.flops f (flop_at flops k no_flop c.loop-flop-test.true)) in
    let long : vec_len c.stays.new.search.statuses ≡ length c.stays.new.search.statuses.items = search rules in
    omega (arith, within, long, c.in_ok-stays.ensures.long, c.loop-flop.invariant.long, c.requires.long)

pub loop-flop-preserved : goal.loop-flop-preserved
loop-flop-preserved c =
    let text = plain_text c.args.equations.now in
    let flops = c.args.flops.now in
    let k = c.loop-flop.flop-index in
    let f = slice_index_or flops k no_flop in
    let is : slice_get flops k ≡ Some f = slice_get-get_or flops k no_flop c.loop-flop-test.true in
    let split : drop k flops ≡ f ∷ drop (k + 1) flops = split_at flops k no_flop c.loop-flop-test.true in
    let kept = c.loop-flop.kept.items in
    let old = c.loop-flop.search.statuses.items in
    let new = c.stays.new.search.statuses.items in
    let round = c.loop-flop.invariant.round in
    let looks = c.in_ok-stays.ensures.looks round.scene round.search in
    elim c.if-branch.branch [
      | then-branch+in_ok-push w ↦ (let passed : c.in_ok-stays.field-0 ≡ true = search rules in
          let within = subst (Looks text round.scene.all round.scene.left f) passed looks.1 in
          let keeps : IsRound text flops (k + 1) (kept ++ f ∷ []) new = round_keeps text c.requires.sound flops c.requires.flops k kept old round f is split new looks.0 within in
          let kept_is : c.if-branch.kept.items ≡ kept ++ f ∷ [] = ap (λ (v : Vec Flop Global). v.items) w.kept-is ∙ w.in_ok-push.ensures.items in
          let same : c.if-branch.search.statuses.items ≡ new = ap (λ (x : Search). x.statuses.items) w.search-is in
          record {
            long = ap length same ∙ c.in_ok-stays.ensures.long ∙ c.loop-flop.invariant.long;
            rest = ap (λ (x : Search). x.stack.items) w.search-is ∙ c.in_ok-stays.ensures.rest;
            round = subst (λ (xs : List Flop). IsRound text flops (k + 1) xs c.if-branch.search.statuses.items) (sym kept_is)
                (subst (IsRound text flops (k + 1) (kept ++ f ∷ [])) (sym same) keeps);
          })
      | else-branch w ↦ (let refused : c.in_ok-stays.field-0 ≡ false = search rules in
          let beyond = subst (Looks text round.scene.all round.scene.left f) refused looks.1 in
          let named : f.name < length (points text) = name_within text f (c.requires.flops f (flop_at flops k no_flop c.loop-flop-test.true)) in
          let long : length new ≡ length c.args.search.now.statuses.items = c.in_ok-stays.ensures.long ∙ c.loop-flop.invariant.long in
          let drops : IsRound text flops (k + 1) kept (set new f.name Outside) =
          round_drops text c.requires.sound flops c.requires.flops k kept old round f is split new looks.0 beyond (omega (arith, named, long, c.requires.long)) in
          let kept_is : c.if-branch.kept.items ≡ kept = ap (λ (v : Vec Flop Global). v.items) w.kept-is in
          let same : c.if-branch.search.statuses.items ≡ set new f.name Outside = ap (λ (x : Search). x.statuses.items) w.search-is in
          record {
            long = ap length same ∙ length-set new f.name Outside ∙ long;
            rest = ap (λ (x : Search). x.stack.items) w.search-is ∙ c.in_ok-stays.ensures.rest;
            round = subst (λ (xs : List Flop). IsRound text flops (k + 1) xs c.if-branch.search.statuses.items) (sym kept_is)
                (subst (IsRound text flops (k + 1) kept) (sym same) drops);
          })
    ]

pub returns-clause-holds : goal.returns-clause-holds
returns-clause-holds c =
    round_holds (plain_text c.args.equations.now) c.requires.sound c.args.flops.now c.loop-flop.flop-index c.loop-flop.kept.items c.loop-flop.search.statuses.items
    c.loop-flop.invariant.round c.loop-flop-test.false

pub returns-clause-closed : goal.returns-clause-closed
returns-clause-closed c long =
    round_closed (plain_text c.args.equations.now) c.requires.sound c.args.flops.now c.requires.flops c.loop-flop.flop-index c.loop-flop.kept.items c.loop-flop.search.statuses.items
    c.loop-flop.invariant.round (omega (arith, c.loop-flop-test.false, c.loop-flop.auto.flop-index-end)) long
