use Rattle.std.proofs.Common.{◌≡◌, ℕ, ◌-◌, Bool, false, true, MatchOption, [], get_or, sym, ap, ◌∙◌, rules, arith}
use Rattle.std.proofs.lemmas.Iterator.{first_from_Range}
use borrow.Author.Tests.{tests}
use Rattle.phone.specs.Cursors.{Ahead, free, first, leaving, rest}
use Rattle.phone.proofs.Addresses.{Free, free_none, first_free}
use Rattle.phone.proofs.cursor.Cursor.take.Goals as goal
use Rattle.phone.proofs.cursor.Cursor.take.Goals.{After-find}

-- the first free address, or none
found : (c : After-find) → MatchOption c.find.result (free c.self.inside.skipped c.self.inside.next (c.self.inside.end - c.self.inside.next) ≡ []) (Free c.self.inside.skipped c.self.inside.next c.self.inside.end)
found c =
    let f = c.self.inside in
    let d : Bool → ℕ → Type 0 = λ b x. get_or f.skipped x false ≡ b in
    first_free f.skipped f.next f.end c.find.result c.self.invariant.0
    (first_from_Range _ _ _ c.find.result (d false) (d true) c.find.ensures.ran (λ x q k. search (rules, tests)) (λ x q k. search (rules, tests)))

pub overflow_add-self : goal.overflow_add-self
overflow_add-self c = let t = (rw c.in-Some.is at (found (goal.at.overflow_add-self c).After-find)).within in let i = c.self.invariant in omega arith

pub bounds-self-inside-at : goal.bounds-self-inside-at
bounds-self-inside-at c = let t = (rw c.in-Some.is at (found (goal.at.bounds-self-inside-at c).After-find)).within in let i = c.self.invariant in omega arith

pub invariant_of-self-2 : goal.invariant_of-self-2
invariant_of-self-2 c = let t = (rw c.in-Some.is at (found (goal.at.invariant_of-self-2 c).After-find)).within in let i = c.self.invariant in (omega arith, omega arith)

pub returns-clause-value : goal.returns-clause-value
returns-clause-value c =
    let t = (rw c.in-Some.is at (found (goal.at.returns-clause-value c).After-find)).is in
    ap (first c.self.inside.picture.now) (sym t) ∙ ap (λ (a : Ahead). first a.picture a.left) c.self.view_is

pub returns-clause-after : goal.returns-clause-after
returns-clause-after c =
    let f = c.self.inside in
    let t = (rw c.in-Some.is at (found (goal.at.returns-clause-after c).After-find)).is in
    let a : Ahead = record { picture = f.picture.now; end = f.end; left = free f.skipped f.next (f.end - f.next) } in
    ap (λ l. leaving a (rest l)) (sym t) ∙ ap (λ (a : Ahead). leaving a (rest a.left)) c.self.view_is

pub returns-in_default-clause-value : goal.returns-in_default-clause-value
returns-in_default-clause-value c =
    let t = rw c.in_default.is at (found (goal.at.returns-in_default-clause-value c).After-find) in
    ap (first c.self.inside.picture.now) (sym t) ∙ ap (λ (a : Ahead). first a.picture a.left) c.self.view_is

pub returns-in_default-clause-after : goal.returns-in_default-clause-after
returns-in_default-clause-after c =
    let f = c.self.inside in
    let t = rw c.in_default.is at (found (goal.at.returns-in_default-clause-after c).After-find) in
    let a : Ahead = record { picture = f.picture.now; end = f.end; left = free f.skipped f.next (f.end - f.next) } in
    ap (leaving a) (free_none f.skipped f.end f.end (omega arith)) ∙ ap (λ l. leaving a (rest l)) (sym t) ∙ ap (λ (a : Ahead). leaving a (rest a.left)) c.self.view_is
