-- The worked examples, shown of the rules themselves, as one set.
use Rattle.std.specs.Prelude.{◌≡◌, ℕ, ◌/◌, true, List, [], ◌∷◌, ◌++◌, length, replicate, slice_index_or}
use Rattle.std.specs.List.{range_with_len}
use Rattle.air.specs.Crc.{crc, sent}
use Rattle.air.specs.declared.fault.Fault.TheVariants.{Layout}
use Rattle.phone.specs.Areas.{named, outside}
use Rattle.phone.specs.Layout.{accepted, failed, walked}
use Rattle.phone.specs.App.{reported}
use Rattle.examples.specs.declared.Results.{Results}

-- a picture whose capability container is in order but for the area's size
pub record Container (pic : List ℕ) (size : ℕ) : Type 0 where
  pub full : length pic ≡ 256
  pub magic : slice_index_or pic 12 0 ≡ 0xe1
  pub version : slice_index_or pic 13 0 / 16 ≡ 1
  pub eights : slice_index_or pic 14 0 ≡ size

-- a picture with an area of so many eights, which begins with an empty message
abbrev pub sized_picture : ℕ → List ℕ
sized_picture size = replicate 12 0 ++ (0xe1 ∷ 0x10 ∷ size ∷ 0 ∷ 0x03 ∷ replicate 239 0)

-- a lock control TLV with B0 18 34, a TLV of type 04h that ends at 174, and an empty message at 175
abbrev pub locked_picture : List ℕ
locked_picture = replicate 12 0 ++ (0xe1 ∷ 0x10 ∷ 0x1e ∷ 0 ∷ 0x01 ∷ 0x03 ∷ 0xb0 ∷ 0x18 ∷ 0x34 ∷ 0x04 ∷ 152 ∷ replicate 152 0 ++ (0x03 ∷ replicate 80 0))

pub record Worked : Type 0 where
  -- CRC_A of 00 00 is sent as A0 1E, of 12 34 as 26 CF
  pub crc_of_zeros : sent (crc (0x00 ∷ 0x00 ∷ [])) ≡ 0xa0 ∷ 0x1e ∷ []
  pub crc_of_12_34 : sent (crc (0x12 ∷ 0x34 ∷ [])) ≡ 0x26 ∷ 0xcf ∷ []
  -- a lock control TLV with B0 18 34 skips 176 to 179, and no other address of a picture
  pub lock_area : outside (named 1 0xb0 0x18 0x34) (range_with_len 0 256) ≡ range_with_len 0 176 ++ range_with_len 180 76
  -- so a message whose type byte is at 175 has its length byte at 180
  pub past_lock_area : reported (walked locked_picture).answer ≡ record { number = 0; place = 181; length = 0 }
  -- an area of size 1Eh is accepted, one of 1Fh is refused with 9
  pub size_accepted : (pic : List ℕ) → Container pic 0x1e → accepted pic ≡ true
  pub size_refused : (pic : List ℕ) → Container pic 0x1f → walked pic ≡ failed (Layout 9 12)

-- what the rules give on them, and so the code
abbrev pub given : Results
given = record {
  crc_of_zeros = sent (crc (0x00 ∷ 0x00 ∷ []));
  crc_of_12_34 = sent (crc (0x12 ∷ 0x34 ∷ []));
  past_lock_area = reported (walked locked_picture).answer;
  size_accepted = reported (walked (sized_picture 0x1e)).answer;
  size_refused = reported (walked (sized_picture 0x1f)).answer;
}
