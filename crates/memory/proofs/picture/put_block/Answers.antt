use Rattle.std.proofs.Common.{◌≡◌, ◌+◌, ◌-◌, ◌*◌, ◌++◌, length, take, drop, ap, ◌∙◌, arith, rules}
use Rattle.std.proofs.lemmas.List.{drop-drop}
use Rattle.memory.proofs.Fours.{put_in}
use Rattle.memory.proofs.picture.put_block.Goals as goal

pub returns : goal.returns
returns c =
    let cells = c.args.cells.now in
    let bytes = c.args.bytes in
    let b = c.args.block in
    let len = 4 * b + 4 - 4 * b in
    let four : length bytes ≡ 4 = search rules in
    let end : 4 * b + len ≡ 4 * b + 4 = omega arith in
    record {
      cells = rw (c.number.ensures.value, c.copy_from_slice.ensures.after) (ap (λ rest. take (4 * b) cells ++ (bytes ++ rest)) (drop-drop len (4 * b) cells ∙ ap (λ n. drop n cells) end));
      after = rw (c.number.ensures.value, c.copy_from_slice.ensures.after) (put_in cells bytes b len (omega arith) four (omega arith) (omega arith));
    }
