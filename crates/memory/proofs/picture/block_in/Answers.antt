use Rattle.std.proofs.Common.{◌≡◌, ◌/◌, [], length, get_or, ap, ◌∙◌, arith, rules}
use Rattle.memory.proofs.Fours.{chunk_is}
use Rattle.memory.proofs.picture.block_in.Goals as goal

pub returns : goal.returns
returns c =
    let cells = c.args.cells.now in
    let whole : length cells ≡ 256 = search rules in
    let count : length cells / 4 ≡ 64 = ap (λ n. n / 4) whole in
    record { value = ap (λ bs. get_or bs c.number.result []) c.as_chunks.ensures.front ∙ chunk_is cells (length cells / 4) c.args.block c.number.result whole count c.number.ensures.value (omega arith) }
