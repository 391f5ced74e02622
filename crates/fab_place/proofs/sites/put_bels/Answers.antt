use Rattle.std.proofs.Common.{◌≡◌, ◌++◌, ◌∷◌, [], ℕ, List, length, true, false, get_or, take, sym, ◌∙◌, ap, arith}
use Rattle.std.proofs.lemmas.List.{append-nil, append_assoc}
use Rattle.std.proofs.Math.Seq.{take-length}
use Rattle.fab_fabric.specs.declared.wire.Site.{Site}
use Rattle.fab_model.specs.declared.tiles.Bel.{Bel}
use Rattle.fab_fabric.specs.Sites.{same_kind}
use Rattle.fab_place.proofs.Listed.{kept_from, kept_yes, kept_no}
use Rattle.fab_place.proofs.sites.put_bels.Goals as goal

pub loop-number-init : goal.loop-number-init
loop-number-init c = sym (append-nil c.args.sites.now.items)

pub loop-number-preserved-then-not-is_kind : goal.loop-number-preserved-then-not-is_kind
loop-number-preserved-then-not-is_kind c =
    let test = λ (bel : Bel). same_kind bel.kind c.args.kind in
    let made : ℕ → Site = λ number. record { x = c.args.x; y = c.args.y; bel = number } in
    let bel = c.index-bels-number.result in
    let other : test (get_or c.args.bels.now c.loop-number.number bel) ≡ false = ap test (sym c.index-bels-number.is) ∙ sym c.is_kind.ensures ∙ c.if-not-is_kind.true in
    c.loop-number.invariant ∙ ap (λ (back : List Site). c.args.sites.now.items ++ back) (sym (kept_no test made c.loop-number.number c.args.bels.now bel c.loop-number-test.true other))

pub loop-number-preserved : goal.loop-number-preserved
loop-number-preserved c =
    let test = λ (bel : Bel). same_kind bel.kind c.args.kind in
    let made : ℕ → Site = λ number. record { x = c.args.x; y = c.args.y; bel = number } in
    let bel = c.index-bels-number.result in
    let n = c.loop-number.number in
    let one : test (get_or c.args.bels.now n bel) ≡ true = ap test (sym c.index-bels-number.is) ∙ sym c.is_kind.ensures ∙ c.if-not-is_kind.false in
    let so_far = kept_from test made 0 (take n c.args.bels.now) in
    c.in_ok-push.ensures.items ∙ ap (λ (front : List Site). front ++ made n ∷ []) c.loop-number.invariant ∙ append_assoc c.args.sites.now.items so_far (made n ∷ [])
    ∙ ap (λ (back : List Site). c.args.sites.now.items ++ back) (sym (kept_yes test made n c.args.bels.now bel c.loop-number-test.true one))

pub returns : goal.returns
returns c =
    let test = λ (bel : Bel). same_kind bel.kind c.args.kind in
    let made : ℕ → Site = λ number. record { x = c.args.x; y = c.args.y; bel = number } in
    let bels = c.args.bels.now in
    let end : c.loop-number.number ≡ length bels = omega (arith, c.loop-number-test.false, c.loop-number.auto.number-end) in
    c.loop-number.invariant ∙ ap (λ (xs : List Bel). c.args.sites.now.items ++ kept_from test made 0 xs) (ap (λ n. take n bels) end ∙ take-length bels)
