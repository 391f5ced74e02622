use Rattle.std.proofs.Common.{◌≡◌, ◌∙◌, ◌++◌, ◌∷◌, [], ap, map, refl}
use Rattle.fab_syntax.specs.Plain.{PlainJoin, plain_join, variable}
use Rattle.fab_meaning.specs.Runs.{clock_name}
use Rattle.fab_meaning.specs.Loading.{write_strobe_name}
use Rattle.fab_gen_tile.specs.Names.{chain_in_name, chain_out_name, port_join, same_join}
use Rattle.fab_text_loads_laws.specs.fab_fabric_text_defs_Names.{chain_wire_name}
use Rattle.fab_gen_top.specs.inner.Standing.{wire_behind}
use Rattle.fab_gen_top.proofs.Steps.{pushed, four_pushed}
use Rattle.fab_gen_top.proofs.joins.push_chain_joins.Goals as goal

pub returns : goal.returns
returns c =
    let old = map plain_join c.args.joins.now.items in
    let clock : PlainJoin = same_join clock_name in
    let strobe : PlainJoin = same_join write_strobe_name in
    let comes : PlainJoin = port_join chain_in_name (variable (wire_behind c.args.before)) in
    let goes : PlainJoin = port_join chain_out_name (variable (chain_wire_name c.args.place.x c.args.place.y)) in
    let first : map plain_join c.push.new.self.items ≡ old ++ clock ∷ [] =
    pushed plain_join c.args.joins.now.items c.push.new.self.items _ old clock c.in_ok-push.ensures.items refl c.in_ok-same_join.ensures in
    let second : map plain_join c.push-2.new.self.items ≡ (old ++ clock ∷ []) ++ strobe ∷ [] =
    pushed plain_join c.push.new.self.items c.push-2.new.self.items _ (old ++ clock ∷ []) strobe c.in_ok-push-2.ensures.items first c.in_ok-same_join-2.ensures in
    let third : map plain_join c.push-3.new.self.items ≡ ((old ++ clock ∷ []) ++ strobe ∷ []) ++ comes ∷ [] =
    pushed plain_join c.push-2.new.self.items c.push-3.new.self.items _ ((old ++ clock ∷ []) ++ strobe ∷ []) comes c.in_ok-push-3.ensures.items second
    (c.in_ok-port_join.ensures ∙ ap (λ name. port_join chain_in_name (variable name)) c.in_ok-wire_behind.ensures) in
    pushed plain_join c.push-3.new.self.items c.push-4.new.self.items _ (((old ++ clock ∷ []) ++ strobe ∷ []) ++ comes ∷ []) goes c.in_ok-push-4.ensures.items third
    (c.in_ok-port_join-2.ensures ∙ ap (λ name. port_join chain_out_name (variable name)) c.in_ok-chain_wire_name.ensures)
    ∙ four_pushed old clock strobe comes goes
