use Rattle.std.proofs.Common.{◌≡◌, ℕ, List, [], ◌++◌, get_or, Ok, Err, Result, ap, ◌∙◌}
use Rattle.air.specs.declared.fault.Fault.{Fault}
use Rattle.tag.specs.Boxes.{Box, box_of}
use Rattle.tag.specs.Read.{window_of}
use Rattle.tag.specs.Window.{Window, meant, block_shown}
use Rattle.tag.proofs.Showing.{all_shown}
use Rattle.tag.proofs.Tag.shown_from.Goals as goal

abbrev inside : Result (List ℕ) Fault → List ℕ
inside (Ok x) = x
inside (Err e) = []

-- a block that was shown by the window that stands now
is_shown : (x : Box) (w : Window) (b : ℕ) (four : List ℕ) → w ≡ window_of x → ◌≡◌ {A = Result (List ℕ) Fault} (Ok four) (Ok (block_shown w b (get_or x.mem.blocks b [])))
    → four ≡ block_shown (window_of x) b (get_or x.mem.blocks b [])
is_shown x w b four e s = ap inside s ∙ ap (λ v. block_shown v b (get_or x.mem.blocks b [])) e

pub returns : goal.returns
returns g c =
    let x = box_of g.M.Memory.holds c.args.self.now in
    let b = c.args.block in
    let w = meant c.in_ok-window.window in
    let e : w ≡ window_of x = c.in_ok-window.ensures.value in
    let f0 = is_shown x w b c.in_ok-first.first e c.in_ok-first.ensures.value in
    let f1 = is_shown x w c.wrapping_add.result c.in_ok-second.second e c.in_ok-second.ensures.value in
    let f2 = is_shown x w c.wrapping_add-2.result c.in_ok-third.third e c.in_ok-third.ensures.value in
    let f3 = is_shown x w c.wrapping_add-3.result c.in_ok-fourth.fourth e c.in_ok-fourth.ensures.value in
    let whole = all_shown x.mem.blocks x.code b c.wrapping_add.result c.wrapping_add-2.result c.wrapping_add-3.result c.wrapping_add.ensures.below c.wrapping_add.ensures.value c.wrapping_add-2.ensures.value c.wrapping_add-3.ensures.value in
    record { value = ap Ok (c.joined.ensures.value ∙ (λ j. f0 j ++ (f1 j ++ (f2 j ++ (f3 j ++ [])))) ∙ whole) }
