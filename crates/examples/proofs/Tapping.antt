-- The worked examples of the tag end, by computation.
use Rattle.std.proofs.Common.{◌≡◌, ℕ, ◌/◌, ◌%◌, Bool, true, ◌&&◌, eqb, leb, List, [], ◌∷◌, length, refl, ap, arith}
use Rattle.std.proofs.lemmas.Bool.Decides.{nat_tests}
use Rattle.air.specs.Crc.{byte_in, crc}
use Rattle.memory.specs.Memory.{Contents}
use Rattle.tag.specs.Locks.{merged}
use Rattle.tag.specs.Making.{bcc_2, made_block}
use Rattle.tag.specs.Window.{inside, window_by, customized, coded, text_by}
use Rattle.tag.specs.declared.making.Identity.{Identity}
use Rattle.tag.specs.declared.state.State.TheVariants.{Ready1, Ready2, Active}
use Rattle.examples.specs.Tags.{WorkedTags, tag_in, select_1, select_2, Leads}

chosen_1 : (m : Contents) (h : Bool) (code : List ℕ) → Leads (tag_in Ready1 m h code) select_1 (0x04 ∷ 0xda ∷ 0x17 ∷ []) Ready2
unfolding crc byte_in
chosen_1 m h code = (refl, refl)

chosen_2 : (m : Contents) (h : Bool) (code : List ℕ) → Leads (tag_in Ready2 m h code) select_2 (0x00 ∷ 0xfe ∷ 0x51 ∷ []) Active
unfolding crc byte_in
chosen_2 m h code = (refl, refl)

at_50 : (at : ℕ → ℕ) (code : List ℕ) → at 184 ≡ 0x0c → at 185 ≡ 0x85 → (a : ℕ) → inside (window_by at code) a ≡ leb 50 a && leb a 67
at_50 at code e f a =
    let s : (window_by at code).start ≡ 50 = omega (arith, e, f) in
    let c : customized at ≡ true = ap (λ n. eqb (n % 2) 1) f in
    let d : coded at ≡ true = ap (λ n. eqb (n / 4 % 2) 1) f in
    let l : length (window_by at code).text ≡ 18 = (λ j. length (text_by at (c j) (d j) code)) in
    grind (arith, nat_tests)

guard : (i : Identity) → merged 2 (made_block i 2) (0x00 ∷ 0x00 ∷ 0x09 ∷ 0x00 ∷ []) ≡ bcc_2 i.uid ∷ 0x2c ∷ 0x09 ∷ 0x00 ∷ []
guard i = refl

pub worked_tags : WorkedTags
worked_tags = record {
  selected_1 = chosen_1;
  selected_2 = chosen_2;
  window_at_50 = at_50;
  code_of_0 = refl;
  code_of_36 = refl;
  code_of_46655 = refl;
  guard_with_its_bit = guard;
}
