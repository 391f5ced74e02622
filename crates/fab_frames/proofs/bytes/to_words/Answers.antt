use Rattle.std.proofs.Common.{◌≡◌, ◌*◌, length, refl, ap, arith}
use Rattle.fab_frames.proofs.ByteWords.{length_bytes, all_read, read_back}
use Rattle.fab_frames.proofs.bytes.to_words.Goals as goal

pub returns-then-bytes-ne0-clause-read_back : goal.returns-then-bytes-ne0-clause-read_back
returns-then-bytes-ne0-clause-read_back c = λ words small is. absurd (omega (arith, length_bytes words, ap length is, c.if-bytes-ne0.true))

pub returns-clause-bytes : goal.returns-clause-bytes
returns-clause-bytes c =
    let as_many : length c.read_u32_into.new.dst ≡ c.in_ok-words.words.len = omega (arith, c.read_u32_into.auto.dst, c.deref_mut.ensures.len) in
    let long : length c.args.bytes.now ≡ 4 * c.in_ok-words.words.len = omega (arith, c.in_ok-words.ensures.len, c.if-bytes-ne0.false) in
    (all_read _ c.read_u32_into.new.dst _ c.in_ok-words.words.len c.args.bytes.now refl as_many (λ k. omega (arith, c.type_inv.bytes k)) long c.read_u32_into.ensures).1

pub returns-clause-read_back : goal.returns-clause-read_back
returns-clause-read_back c = λ words small is.
    let as_many : length c.read_u32_into.new.dst ≡ c.in_ok-words.words.len = omega (arith, c.read_u32_into.auto.dst, c.deref_mut.ensures.len) in
    let long : length c.args.bytes.now ≡ 4 * c.in_ok-words.words.len = omega (arith, c.in_ok-words.ensures.len, c.if-bytes-ne0.false) in
    read_back _ c.read_u32_into.new.dst _ words c.in_ok-words.words.len c.args.bytes.now refl as_many (λ k. omega (arith, c.type_inv.bytes k)) long c.read_u32_into.ensures small is
