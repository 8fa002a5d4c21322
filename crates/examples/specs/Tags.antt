-- The worked examples of the tag end, shown of the rules themselves, as one set.
use Rattle.std.specs.Prelude.{◌≡◌, ℕ, Bool, ◌&&◌, List, [], ◌∷◌, nat_le}
use Rattle.air.specs.Frames.{frame_of}
use Rattle.memory.specs.Memory.{Contents}
use Rattle.tag.specs.Boxes.{Box}
use Rattle.tag.specs.Calls.{filled, stepped}
use Rattle.tag.specs.Code.{code_of}
use Rattle.tag.specs.Locks.{merged}
use Rattle.tag.specs.Making.{bcc_2, made_block}
use Rattle.tag.specs.Window.{inside, window_by}
use Rattle.tag.specs.declared.making.Identity.{Identity}
use Rattle.tag.specs.declared.state.State.{State}
use Rattle.tag.specs.declared.state.State.TheVariants.{Ready1, Ready2, Active}
use Rattle.examples.specs.declared.tags.Codes.{Codes}

-- a tag with UID 02 2E E5 E2 84 20 00, whatever else it holds
abbrev pub tag_in : State → Contents → Bool → List ℕ → Box
tag_in s m from_halt code = record { mem = m; state = s; from_halt = from_halt; uid = 0x02 ∷ 0x2e ∷ 0xe5 ∷ 0xe2 ∷ 0x84 ∷ 0x20 ∷ 0x00 ∷ []; code = code }

-- the selections of that tag, with their CRC_A
abbrev pub select_1 : List ℕ
select_1 = 0x93 ∷ 0x70 ∷ 0x88 ∷ 0x02 ∷ 0x2e ∷ 0xe5 ∷ 0x41 ∷ 0x13 ∷ 0xe7 ∷ []

abbrev pub select_2 : List ℕ
select_2 = 0x95 ∷ 0x70 ∷ 0xe2 ∷ 0x84 ∷ 0x20 ∷ 0x00 ∷ 0x46 ∷ 0xb4 ∷ 0xc7 ∷ []

-- a whole frame is answered so, and leads there
abbrev pub Leads : Box → List ℕ → List ℕ → State → Type 0
Leads x f answer next = (filled x (frame_of f 8) [] ≡ answer) × ((stepped x (frame_of f 8)).state ≡ next)

pub record WorkedTags : Type 0 where
  -- the selections of UID 02 2E E5 E2 84 20 00 are answered 04 DA 17 and 00 FE 51
  pub selected_1 : (m : Contents) (h : Bool) (code : List ℕ) → Leads (tag_in Ready1 m h code) select_1 (0x04 ∷ 0xda ∷ 0x17 ∷ []) Ready2
  pub selected_2 : (m : Contents) (h : Bool) (code : List ℕ) → Leads (tag_in Ready2 m h code) select_2 (0x00 ∷ 0xfe ∷ 0x51 ∷ []) Active
  -- block 46 = 0C 85 puts the window at 50 to 67
  pub window_at_50 : (at : ℕ → ℕ) (code : List ℕ) → at 184 ≡ 0x0c → at 185 ≡ 0x85 → (a : ℕ) → inside (window_by at code) a ≡ nat_le 50 a && nat_le a 67
  -- taps 0, 36 and 46,655 give 000, 010 and ZZZ
  pub code_of_0 : code_of 0 ≡ 0x30 ∷ 0x30 ∷ 0x30 ∷ []
  pub code_of_36 : code_of 36 ≡ 0x30 ∷ 0x31 ∷ 0x30 ∷ []
  pub code_of_46655 : code_of 46655 ≡ 0x5a ∷ 0x5a ∷ 0x5a ∷ []
  -- 00 00 09 00 written to a new block 2 sets the guard and its bit, bits 0 and 3
  pub guard_with_its_bit : (i : Identity) → merged 2 (made_block i 2) (0x00 ∷ 0x00 ∷ 0x09 ∷ 0x00 ∷ []) ≡ bcc_2 i.uid ∷ 0x2c ∷ 0x09 ∷ 0x00 ∷ []

-- what the rules give on them, and so the code
abbrev pub codes_given : Codes
codes_given = record {
  first_code = code_of 0;
  code_of_36 = code_of 36;
  last_code = code_of 46655;
}
