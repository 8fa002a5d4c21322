use Rattle.std.proofs.Common.{◌≡◌, [], ◌∷◌, ◌++◌, ap, ◌∙◌, append_assoc}
use Rattle.phone.specs.Listing.{column, line}
use Rattle.phone.proofs.listing.line.Goals as goal

pub returns : goal.returns
unfolding line
returns c =
    let x = c.column.ensures.value in
    let y = c.column-2.ensures.value in
    let z = c.column-3.ensures.value in
    let f : c.copy_from_slice.new.self ≡ column c.args.a ++ (column c.args.b ++ (column c.args.c ++ [])) =
    c.copy_from_slice.ensures.after ∙ c.as_flattened.ensures.value ∙ cc in
    record { value = ap (λ l. l ++ (10 ∷ [])) f ∙ simp append_assoc }
