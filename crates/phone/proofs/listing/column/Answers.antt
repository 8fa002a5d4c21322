use Rattle.std.proofs.Common.{◌≡◌, ℕ, ◌-◌, ◌<◌, ◌≤◌, ◌++◌, length, take, drop, replicate, decimal, sym, ap, ◌∙◌, arith}
use Rattle.std.proofs.lemmas.Fmt.{length-decimal-le}
use Rattle.std.proofs.lemmas.List.{take-append-drop, take-replicate, append-nil}
use Rattle.phone.specs.Listing.{column}
use Rattle.phone.proofs.listing.column.Goals as goal

few : (n m : ℕ) → m ≡ n → n < 10000 → length (decimal m) ≤ 4
few n m e h = length-decimal-le 4 m (omega arith) (omega arith) (omega arith)

pub write_digits-requires : goal.write_digits-requires
write_digits-requires c = (few c.args.n c.from.result c.from.ensures c.requires, omega arith)

pub returns : goal.returns
unfolding column
returns c =
    let w = c.write_digits in
    let r : ℕ = w.result in
    let s = w.ensures.start in
    let e = c.from.ensures in
    let f : take r w.new.buf ≡ replicate r 32 = w.ensures.before ∙ take-replicate r 4 32 (omega arith) in
    let d : drop r w.new.buf ≡ decimal c.from.result = w.ensures.written ∙ append-nil (decimal c.from.result) in
    let k : r ≡ 4 - length (decimal c.from.result) = omega arith in
    let p : w.new.buf ≡ replicate r 32 ++ decimal c.from.result = sym (take-append-drop r w.new.buf) ∙ cc in
    record { value = p ∙ ap (λ j. replicate j 32 ++ decimal c.from.result) k ∙ ap (λ m. replicate (4 - length (decimal m)) 32 ++ decimal m) e }
