-- The window, and the bytes that READ shows.
use Rattle.std.specs.Prelude.{ℕ, ◌+◌, ◌-◌, ◌*◌, ◌/◌, ◌%◌, Bool, cond, ◌&&◌, ◌||◌, List, [], ◌∷◌, ◌++◌, map, length, take, ◌==◌, nat_le, nat_lt, slice_index, slice_index_or}
use Rattle.std.specs.List.{range_with_len}
use Rattle.tag.specs.declared.window.Window as declared

-- a text, and the address where it starts
pub record Window : Type 0 where
  pub start : ℕ
  pub text : List ℕ

-- the byte that is stored at an address
abbrev pub stored_at : List (List ℕ) → ℕ → ℕ
stored_at blocks a = slice_index (slice_index_or blocks (a / 4) []) (a % 4)

-- the custom field is switched on by bit 0 of address 185, the code by bit 2
abbrev pub customized : (ℕ → ℕ) → Bool
customized at = at 185 % 2 == 1

abbrev pub coded : (ℕ → ℕ) → Bool
coded at = at 185 / 4 % 2 == 1

abbrev pub three : List ℕ → List ℕ
three code = slice_index code 0 ∷ slice_index code 1 ∷ slice_index code 2 ∷ []

-- the custom field, 14 bytes from 240 on; the separator at 254, only with both; the code
abbrev pub text_by : (ℕ → ℕ) → Bool → Bool → List ℕ → List ℕ
text_by at custom code_too code = cond custom (map at (range_with_len 240 14)) [] ++ (cond (custom && code_too) (at 254 ∷ []) [] ++ cond code_too (three code) [])

-- the setting is block 46: bits 0 to 5 of address 184 are the block where the text starts, bits 6 and 7 of 185 the byte in it
abbrev pub window_by : (ℕ → ℕ) → List ℕ → Window
window_by at code = record { start = 4 * (at 184 % 64) + at 185 / 64; text = text_by at (customized at) (coded at) code }

-- the address lies in the window: in the text, and in 16 to 175
abbrev pub inside : Window → ℕ → Bool
inside w a = nat_le 16 a && (nat_le a 175 && (nat_le w.start a && nat_lt (a - w.start) (length w.text)))

-- the byte shown at address a where x is stored: 00h in blocks 47 and 48, the window's inside the window
abbrev pub byte_shown : Window → ℕ → ℕ → ℕ
byte_shown w a x = cond (a / 4 == 47 || a / 4 == 48) 0 (cond (inside w a) (slice_index w.text (a - w.start)) x)

-- the byte shown at an address, by the stored blocks and the code
unfoldable pub shown_at : List (List ℕ) → List ℕ → ℕ → ℕ
shown_at blocks code a = byte_shown (window_by (stored_at blocks) code) a (stored_at blocks a)

-- the bytes that READ shows from block b on: four blocks, going on from 63 to 0
unfoldable pub shown_from : List (List ℕ) → List ℕ → ℕ → List ℕ
shown_from blocks code b = map (λ i. shown_at blocks code ((4 * b + i) % 256)) (range_with_len 0 16)

-- the window as the code keeps it
abbrev pub meant : declared.Window → Window
meant w = record { start = w.start; text = take w.len w.text }

-- the byte at an address of blocks 46 and 60 to 63, which were read in
abbrev pub read_in : List ℕ → List (List ℕ) → ℕ → ℕ
read_in setting custom a = cond (nat_lt a 240) (slice_index setting (a - 184)) (slice_index (slice_index_or custom (a / 4 - 60) []) (a % 4))

-- the bytes shown of block b where four are stored
abbrev pub block_shown : Window → ℕ → List ℕ → List ℕ
block_shown w b four =
    byte_shown w (4 * b) (slice_index four 0) ∷ byte_shown w (4 * b + 1) (slice_index four 1) ∷ byte_shown w (4 * b + 2) (slice_index four 2) ∷ byte_shown w (4 * b + 3) (slice_index four 3) ∷ []
