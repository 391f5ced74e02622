use Rattle.std.proofs.lemmas.Result.{on_ok_weaker}
use Rattle.fab_impl.proofs.Parts.{headers_put}
use Rattle.fab_impl.proofs.writer.put_headers.Goals as goal

pub returns : goal.returns
returns c =
    on_ok_weaker c.put_row-3.result
    (λ put. headers_put c.args.reset.now c.in-Some.port c.bytes.result.now c.args.out.now.items c.put_row-2.new.out.items c.put_row-3.new.out.items c.in-Some.is c.bytes.ensures c.in_ok-put_row.ensures put)
    c.put_row-3.ensures
