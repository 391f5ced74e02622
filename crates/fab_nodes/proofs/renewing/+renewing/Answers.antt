use Rattle.std.proofs.Common.{◌≡◌, ℕ, ◌+◌, false, length, map, refl, sym, ap, ◌∙◌, subst, arith}
use Rattle.fab_systems_laws.specs.Ternary.{Tern as PlainTern}
use Rattle.fab_ternary.specs.Terns.{plain_tern}
use Rattle.fab_compiled.specs.Terns.{seen}
use Rattle.fab_compiled.specs.Trees.{tree_width}
use Rattle.fab_compiled.proofs.Sizes.{tree_size}
use Rattle.fab_nodes.specs.Nodes.{room, AreNodes}
use Rattle.fab_nodes.specs.inner.Operands.{is_plain}
use Rattle.fab_nodes.specs.inner.Renewing.{AreBoth, IsRead}
use Rattle.fab_nodes.proofs.Behind.{behind_plain, front_plain, two_behind}
use Rattle.fab_nodes.proofs.Parts.{has_one, has_two, has_three}
use Rattle.fab_nodes.proofs.Walking.{first_of, lent_read, node_from, one_read, operands_of, own_of, rest_of}
use Rattle.fab_nodes.proofs.Walking.{three_back, three_lent, three_read, two_back, two_lent, two_read}
use Rattle.fab_nodes.proofs.renewing.+renewing.Goals as goal

pub renew-renew_operator-requires : goal.renew-renew_operator-requires
renew-renew_operator-requires t c =
    let terns = c.args.point.now.view.terns.now in
    let leads = c.args.point.now.view.leads.now in
    let first = c.args.point.now.first in
    let at : ℕ → PlainTern = λ place. seen terns leads (first + place) in
    let tree = c.args.tree.now in
    let bits = c.args.bits.now in
    let of = c.split_at_mut-own.ensures in
    let inner : is_plain tree ≡ false = sym c.is_leaf.ensures ∙ c.if-is_leaf.false in
    let wide : c.node-node.result.width ≡ tree_width tree = (c.node-node.ensures tree c.requires.layout).width in
    let read : IsRead terns leads first tree c.args.layout.now =
    record {
      made = c.requires.made;
      view = c.requires.view;
      few = c.requires.few;
      begins = c.requires.begins;
      inside = c.requires.inside;
      laid = c.requires.layout;
    } in
    let own = own_of at tree c.node-node.result.width bits c.split_at_mut-own.result.0.now inner wide of.front c.requires.nodes in
    let operands = operands_of at tree c.node-node.result.width bits c.split_at_mut-own.result.1.now inner wide of.back c.requires.nodes in (
      omega (arith, c.decreases),
      (inner, (read, (of.front_len ∙ wide, (omega (arith, wide, of.back_len, c.requires.long), (operands, own))))),
    )

pub renew-returns : goal.renew-returns
renew-returns t c =
    let terns = c.args.point.now.view.terns.now in
    let leads = c.args.point.now.view.leads.now in
    let first = c.args.point.now.first in
    let at : ℕ → PlainTern = λ place. seen terns leads (first + place) in
    node_from at c.args.tree.now c.renew_operator.new.own c.renew_operator.new.operands (sym c.is_leaf.ensures ∙ c.if-is_leaf.false) c.requires.made
    c.renew_operator.ensures.own c.renew_operator.ensures.operands

pub renew_operands-renew-requires : goal.renew_operands-renew-requires
renew_operands-renew-requires t c =
    let terns = c.args.point.now.view.terns.now in
    let leads = c.args.point.now.view.leads.now in
    let first = c.args.point.now.first in
    let at : ℕ → PlainTern = λ place. seen terns leads (first + place) in
    let a = c.in-One.inner.now in
    let has = has_one c.args.tree.now c.in-One.field-0 a c.in-One.ensures in
    let read =
    lent_read terns leads first refl c.deref.ensures
    (one_read terns leads first c.in-One.field-0 a c.in-One.ensures c.in-One-layout.is c.requires.read) in (
      omega (arith, c.decreases, has.smaller),
      (
        read.made,
        (
          read.view,
          (
            read.few,
            (
              read.begins,
              (
                read.inside,
                (read.laid, (omega (arith, has.rooms, c.requires.long), has.operand at (map plain_tern c.args.operands.now) c.requires.operands)),
              ),
            ),
          ),
        ),
      ),
    )

pub renew_operands-renew_two-middle-requires : goal.renew_operands-renew_two-middle-requires
renew_operands-renew_two-middle-requires t c =
    let terns = c.args.point.now.view.terns.now in
    let leads = c.args.point.now.view.leads.now in
    let first = c.args.point.now.first in
    let at : ℕ → PlainTern = λ place. seen terns leads (first + place) in
    let a = c.in-Two.left.now in
    let b = c.in-Two.right.now in
    let has = has_two c.args.tree.now c.in-Two.operator a b c.in-Two.ensures in
    let left = c.of-left.ensures in
    let right = c.of-right.ensures in
    let read = two_read terns leads first c.in-Two.operator a b c.in-Two.ensures c.in-Two-layout.is c.requires.read in (
      omega (arith, c.decreases, has.smaller, ap tree_size left.tree, ap tree_size right.tree),
      (
        lent_read terns leads first left.tree (left.layout ∙ c.deref-in-Two.ensures) read.0,
        (
          lent_read terns leads first right.tree (right.layout ∙ c.deref-in-Two-2.ensures) read.1,
          (
            omega (arith, has.rooms, c.requires.long, ap room left.tree, ap room right.tree),
            two_lent at c.args.tree.now c.in-Two.operator a b (map plain_tern c.args.operands.now) c.in-Two.ensures left.tree right.tree c.requires.operands,
          ),
        ),
      ),
    )

pub renew_operands-renew_cond-requires : goal.renew_operands-renew_cond-requires
renew_operands-renew_cond-requires t c =
    let terns = c.args.point.now.view.terns.now in
    let leads = c.args.point.now.view.leads.now in
    let first = c.args.point.now.first in
    let at : ℕ → PlainTern = λ place. seen terns leads (first + place) in
    let a = c.in-Three.test.now in
    let b = c.in-Three.yes.now in
    let d = c.in-Three.no.now in
    let has = has_three c.args.tree.now a b d c.in-Three.ensures in
    let test = c.of-test.ensures in
    let yes = c.of-yes.ensures in
    let no = c.of-no.ensures in
    let read = three_read terns leads first a b d c.in-Three.ensures c.in-Three-layout.is c.requires.read in
    let of = three_lent at c.args.tree.now a b d (map plain_tern c.args.operands.now) c.in-Three.ensures test.tree yes.tree no.tree c.requires.operands in (
      omega (arith, c.decreases, has.smaller, ap tree_size test.tree, ap tree_size yes.tree, ap tree_size no.tree),
      (
        lent_read terns leads first test.tree (test.layout ∙ c.deref-in-Three.ensures) read.0,
        (
          lent_read terns leads first yes.tree (yes.layout ∙ c.deref-in-Three-2.ensures) read.1,
          (
            lent_read terns leads first no.tree (no.layout ∙ c.deref-in-Three-3.ensures) read.2,
            (omega (arith, has.rooms, c.requires.long, ap room test.tree, ap room yes.tree, ap room no.tree), (of.0, of.1)),
          ),
        ),
      ),
    )

pub renew_operands-returns-in-One-layout : goal.renew_operands-returns-in-One-layout
renew_operands-returns-in-One-layout t c =
    let terns = c.args.point.now.view.terns.now in
    let leads = c.args.point.now.view.leads.now in
    let first = c.args.point.now.first in
    let at : ℕ → PlainTern = λ place. seen terns leads (first + place) in
    (has_one c.args.tree.now c.in-One.field-0 c.in-One.inner.now c.in-One.ensures).operands at (map plain_tern c.renew.new.bits) c.renew.ensures

pub renew_operands-returns-then-matches : goal.renew_operands-returns-then-matches
renew_operands-returns-then-matches t c =
    let terns = c.args.point.now.view.terns.now in
    let leads = c.args.point.now.view.leads.now in
    let first = c.args.point.now.first in
    let at : ℕ → PlainTern = λ place. seen terns leads (first + place) in
    two_back at c.args.tree.now c.in-Two.operator c.in-Two.left.now c.in-Two.right.now (map plain_tern c.renew_two-middle.new.bits) c.in-Two.ensures
    c.of-left.ensures.tree
    c.of-right.ensures.tree c.renew_two-middle.ensures

pub renew_operands-returns-else-matches : goal.renew_operands-returns-else-matches
renew_operands-returns-else-matches t c =
    let terns = c.args.point.now.view.terns.now in
    let leads = c.args.point.now.view.leads.now in
    let first = c.args.point.now.first in
    let at : ℕ → PlainTern = λ place. seen terns leads (first + place) in
    two_back at c.args.tree.now c.in-Two.operator c.in-Two.left.now c.in-Two.right.now (map plain_tern c.renew_two-middle.new.bits) c.in-Two.ensures
    c.of-left.ensures.tree
    c.of-right.ensures.tree c.renew_two-middle.ensures

pub renew_operands-returns-in-Three-layout : goal.renew_operands-returns-in-Three-layout
renew_operands-returns-in-Three-layout t c =
    let terns = c.args.point.now.view.terns.now in
    let leads = c.args.point.now.view.leads.now in
    let first = c.args.point.now.first in
    let at : ℕ → PlainTern = λ place. seen terns leads (first + place) in
    three_back at c.args.tree.now c.in-Three.test.now c.in-Three.yes.now c.in-Three.no.now (map plain_tern c.renew_cond.new.bits) c.in-Three.ensures
    c.of-test.ensures.tree
    c.of-yes.ensures.tree c.of-no.ensures.tree c.renew_cond.ensures.of_test c.renew_cond.ensures.branches

pub renew_two-renew-requires : goal.renew_two-renew-requires
renew_two-renew-requires t c =
    let terns = c.args.point.now.view.terns.now in
    let leads = c.args.point.now.view.leads.now in
    let first = c.args.point.now.first in
    let at : ℕ → PlainTern = λ place. seen terns leads (first + place) in
    let tree = c.args.left.tree.now in
    let of = c.split_at_mut-of_left.ensures in
    let room_is : c.node.result.room ≡ room tree = (c.node.ensures tree c.requires.left.laid).room in
    let nodes = first_of at tree c.node.result.room c.args.bits.now c.split_at_mut-of_left.result.0.now room_is of.front c.requires.nodes.0 in
    let read = c.requires.left in (
      omega (arith, c.decreases),
      (read.made, (read.view, (read.few, (read.begins, (read.inside, (read.laid, (of.front_len ∙ room_is, nodes))))))),
    )

pub renew_two-renew-requires-2 : goal.renew_two-renew-requires-2
renew_two-renew-requires-2 t c =
    let terns = c.args.point.now.view.terns.now in
    let leads = c.args.point.now.view.leads.now in
    let first = c.args.point.now.first in
    let at : ℕ → PlainTern = λ place. seen terns leads (first + place) in
    let tree = c.args.left.tree.now in
    let of = c.split_at_mut-of_left.ensures in
    let room_is : c.node.result.room ≡ room tree = (c.node.ensures tree c.requires.left.laid).room in
    let other = c.args.right.tree.now in
    let nodes = rest_of at (AreNodes at other) tree c.node.result.room c.args.bits.now c.split_at_mut-of_left.result.1.now room_is of.back c.requires.nodes.1 in
    let read = c.requires.right in (
      omega (arith, c.decreases),
      (read.made, (read.view, (read.few, (read.begins, (read.inside, (read.laid, (omega (arith, room_is, of.back_len, c.requires.long), nodes))))))),
    )

pub renew_two-returns : goal.renew_two-returns
renew_two-returns t c =
    let terns = c.args.point.now.view.terns.now in
    let leads = c.args.point.now.view.leads.now in
    let first = c.args.point.now.first in
    let at : ℕ → PlainTern = λ place. seen terns leads (first + place) in
    let tree = c.args.left.tree.now in
    let of = c.split_at_mut-of_left.ensures in
    let room_is : c.node.result.room ≡ room tree = (c.node.ensures tree c.requires.left.laid).room in
    let long : length c.renew.new.bits ≡ room tree = omega (arith, room_is, of.front_len, c.renew.auto.bits) in
    two_behind at tree c.args.right.tree.now c.renew.new.bits c.renew-2.new.bits long c.renew.ensures c.renew-2.ensures

pub renew_cond-renew-requires : goal.renew_cond-renew-requires
renew_cond-renew-requires t c =
    let terns = c.args.point.now.view.terns.now in
    let leads = c.args.point.now.view.leads.now in
    let first = c.args.point.now.first in
    let at : ℕ → PlainTern = λ place. seen terns leads (first + place) in
    let tree = c.args.test.tree.now in
    let of = c.split_at_mut-of_test.ensures in
    let room_is : c.node.result.room ≡ room tree = (c.node.ensures tree c.requires.test.laid).room in
    let nodes = first_of at tree c.node.result.room c.args.bits.now c.split_at_mut-of_test.result.0.now room_is of.front c.requires.of_test in
    let read = c.requires.test in (
      omega (arith, c.decreases),
      (read.made, (read.view, (read.few, (read.begins, (read.inside, (read.laid, (of.front_len ∙ room_is, nodes))))))),
    )

pub renew_cond-renew_two-middle-requires : goal.renew_cond-renew_two-middle-requires
renew_cond-renew_two-middle-requires t c =
    let terns = c.args.point.now.view.terns.now in
    let leads = c.args.point.now.view.leads.now in
    let first = c.args.point.now.first in
    let at : ℕ → PlainTern = λ place. seen terns leads (first + place) in
    let tree = c.args.test.tree.now in
    let of = c.split_at_mut-of_test.ensures in
    let room_is : c.node.result.room ≡ room tree = (c.node.ensures tree c.requires.test.laid).room in
    let both = AreBoth at c.args.yes.tree.now c.args.no.tree.now in
    let nodes = rest_of at both tree c.node.result.room c.args.bits.now c.split_at_mut-of_test.result.1.now room_is of.back c.requires.branches in (
      omega (arith, c.decreases),
      (c.requires.yes, (c.requires.no, (omega (arith, room_is, of.back_len, c.requires.long), nodes))),
    )

pub renew_cond-returns-then-tested-clause-of_test : goal.renew_cond-returns-then-tested-clause-of_test
renew_cond-returns-then-tested-clause-of_test t c =
    let terns = c.args.point.now.view.terns.now in
    let leads = c.args.point.now.view.leads.now in
    let first = c.args.point.now.first in
    let at : ℕ → PlainTern = λ place. seen terns leads (first + place) in
    let tree = c.args.test.tree.now in
    let of = c.split_at_mut-of_test.ensures in
    let room_is : c.node.result.room ≡ room tree = (c.node.ensures tree c.requires.test.laid).room in
    let long : length c.renew.new.bits ≡ room tree = omega (arith, room_is, of.front_len, c.renew.auto.bits) in
    subst (AreNodes at tree) (front_plain (room tree) c.renew.new.bits c.renew_two-middle.new.bits long) c.renew.ensures

pub renew_cond-returns-then-tested-clause-branches : goal.renew_cond-returns-then-tested-clause-branches
renew_cond-returns-then-tested-clause-branches t c =
    let terns = c.args.point.now.view.terns.now in
    let leads = c.args.point.now.view.leads.now in
    let first = c.args.point.now.first in
    let at : ℕ → PlainTern = λ place. seen terns leads (first + place) in
    let tree = c.args.test.tree.now in
    let of = c.split_at_mut-of_test.ensures in
    let room_is : c.node.result.room ≡ room tree = (c.node.ensures tree c.requires.test.laid).room in
    let long : length c.renew.new.bits ≡ room tree = omega (arith, room_is, of.front_len, c.renew.auto.bits) in
    subst (AreBoth at c.args.yes.tree.now c.args.no.tree.now) (behind_plain (room tree) c.renew.new.bits c.renew_two-middle.new.bits long)
    c.renew_two-middle.ensures

pub renew_cond-returns-else-tested-clause-of_test : goal.renew_cond-returns-else-tested-clause-of_test
renew_cond-returns-else-tested-clause-of_test t c =
    let terns = c.args.point.now.view.terns.now in
    let leads = c.args.point.now.view.leads.now in
    let first = c.args.point.now.first in
    let at : ℕ → PlainTern = λ place. seen terns leads (first + place) in
    let tree = c.args.test.tree.now in
    let of = c.split_at_mut-of_test.ensures in
    let room_is : c.node.result.room ≡ room tree = (c.node.ensures tree c.requires.test.laid).room in
    let long : length c.renew.new.bits ≡ room tree = omega (arith, room_is, of.front_len, c.renew.auto.bits) in
    subst (AreNodes at tree) (front_plain (room tree) c.renew.new.bits c.renew_two-middle.new.bits long) c.renew.ensures

pub renew_cond-returns-else-tested-clause-branches : goal.renew_cond-returns-else-tested-clause-branches
renew_cond-returns-else-tested-clause-branches t c =
    let terns = c.args.point.now.view.terns.now in
    let leads = c.args.point.now.view.leads.now in
    let first = c.args.point.now.first in
    let at : ℕ → PlainTern = λ place. seen terns leads (first + place) in
    let tree = c.args.test.tree.now in
    let of = c.split_at_mut-of_test.ensures in
    let room_is : c.node.result.room ≡ room tree = (c.node.ensures tree c.requires.test.laid).room in
    let long : length c.renew.new.bits ≡ room tree = omega (arith, room_is, of.front_len, c.renew.auto.bits) in
    subst (AreBoth at c.args.yes.tree.now c.args.no.tree.now) (behind_plain (room tree) c.renew.new.bits c.renew_two-middle.new.bits long)
    c.renew_two-middle.ensures
