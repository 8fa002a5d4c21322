-- How TLVs lie in a picture, said without a walk: a TLV is the list of the addresses of its bytes, and whole TLVs, one after the other, tile
-- the addresses that no control TLV among them hides.
use Rattle.std.specs.Prelude.{◌≡◌, ℕ, ◌+◌, ◌<◌, Bool, true, false, cond, ◌&&◌, ◌||◌, ◌⊎◌, List, [], ◌∷◌, ◌++◌, map, length, Ok, Result, ◌==◌, ◌≢◌, nat_lt, slice_index, slice_index_or}
use Rattle.std.specs.List.{flat_map, AllByRecursion}
use Rattle.air.specs.declared.fault.Fault.{Fault}
use Rattle.air.specs.declared.fault.Fault.TheVariants.{Call, Layout}
use Rattle.phone.specs.declared.layout.Tlv.{Tlv}
use Rattle.phone.specs.declared.layout.Message.{Message}
use Rattle.phone.specs.Areas.{named, inside, Blockwise}
use Rattle.phone.specs.Layout.{null, message, terminator, control, accepted, area, area_end, byte, Findings, failed}

abbrev pub type_of : List ℕ → List ℕ → ℕ
type_of pic m = byte pic m 0

abbrev pub length_of : List ℕ → List ℕ → ℕ
length_of pic m = byte pic m 1

-- a TLV with a length byte is whole: its value follows, of as many bytes as the length byte says; a control TLV has three
pub record Sized (pic m : List ℕ) : Type 0 where
  pub full : length m ≡ 2 + length_of pic m
  pub not_null : type_of pic m ≡ null → ⊥
  pub not_long : length_of pic m ≡ 255 → ⊥
  pub three : control (type_of pic m) ≡ true → length_of pic m ≡ 3

-- a null TLV is its type byte alone
pub record Null (pic m : List ℕ) : Type 0 where
  pub is_null : type_of pic m ≡ null
  pub alone : length m ≡ 1

-- a TLV that is passed over whole: neither a terminator nor a message
pub record Passed (pic m : List ℕ) : Type 0 where
  pub form : Null pic m ⊎ Sized pic m
  pub not_end : type_of pic m ≡ terminator → ⊥
  pub not_message : type_of pic m ≡ message → ⊥

-- what a walk notes of it: address, type and length, and the address after its length byte (of a null, after its type byte)
abbrev pub entry : List ℕ → List ℕ → Tlv
entry pic m =
    cond (type_of pic m == null) (record { at = slice_index m 0; kind = null; length = 0; place = slice_index m 0 + 1 })
    (record { at = slice_index m 0; kind = type_of pic m; length = length_of pic m; place = slice_index m 1 + 1 })

-- a control TLV hides the area that it names, as far as that lies after its last byte
unfoldable pub hides : List ℕ → List ℕ → ℕ → Bool
hides pic m a = control (type_of pic m) && (inside (named (type_of pic m) (byte pic m 2) (byte pic m 3) (byte pic m 4)) a && nat_lt (slice_index m 4) a)

unfoldable pub hidden : List ℕ → List (List ℕ) → ℕ → Bool
hidden pic [] a = false
hidden pic (m ∷ ms) a = hides pic m a || hidden pic ms a

-- the addresses that none of the TLVs hides
unfoldable pub visible : List ℕ → List (List ℕ) → List ℕ → List ℕ
visible pic ms [] = []
visible pic ms (a ∷ l) = cond (hidden pic ms a) (visible pic ms l) (a ∷ visible pic ms l)

-- A message stands first among the addresses l: type 03h, a length byte that is not FFh, and as many addresses of its value; and this is all that w has.
pub record Meets (pic l : List ℕ) (w : Findings) : Type 0 where
  pub type_at : ℕ
  pub length_at : ℕ
  pub behind : List ℕ
  pub split : l ≡ type_at ∷ length_at ∷ (w.value ++ behind)
  pub is_message : slice_index_or pic type_at 0 ≡ message
  pub not_long : slice_index_or pic length_at 0 ≡ 255 → ⊥
  pub whole : length w.value ≡ slice_index pic length_at
  pub answers : w.answer ≡ Ok (record { place = length_at + 1; length = slice_index pic length_at })
  pub lists : w.tlvs ≡ record { at = type_at; kind = message; length = slice_index pic length_at; place = length_at + 1 } ∷ []

-- a type that has a length byte
pub record Lengthy (kind : ℕ) : Type 0 where
  pub not_null : kind ≡ null → ⊥
  pub not_end : kind ≡ terminator → ⊥

-- What stands first among the addresses l is neither a message nor a TLV to pass over: the fault that this is. The area ends before e.
pub data Fails (pic : List ℕ) (e : ℕ) : List ℕ → Fault → Type 0 where
  -- 13: the area's end comes before a message
  nothing_left : Fails pic e [] (Layout 13 e)
  -- 13: a terminator comes before a message
  terminated : (t : ℕ) (l : List ℕ) → slice_index pic t ≡ terminator → Fails pic e (t ∷ l) (Layout 13 t)
  -- 11: the area ends before the length byte
  no_length : (t : ℕ) → Lengthy (slice_index pic t) → Fails pic e (t ∷ []) (Layout 11 t)
  -- 12: the length byte is FFh
  long : (t q : ℕ) (l : List ℕ) → Lengthy (slice_index pic t) → slice_index pic q ≡ 255 → Fails pic e (t ∷ q ∷ l) (Layout 12 t)
  -- 10: a control TLV whose length is not 3
  not_three : (t q : ℕ) (l : List ℕ) → control (slice_index pic t) ≡ true → (slice_index pic q ≢ 255) → (slice_index pic q ≢ 3) → Fails pic e (t ∷ q ∷ l) (Layout 10 t)
  -- 11: the area ends inside the value
  cut_short : (t q : ℕ) (l : List ℕ) → Lengthy (slice_index pic t) → (slice_index pic q ≢ 255) → (control (slice_index pic t) ≡ true → slice_index pic q ≡ 3) → length l < slice_index pic q → Fails pic e (t ∷ q ∷ l) (Layout 11 t)

-- what stands first among the addresses l, the message or the first thing that went wrong, and so all that is found there
abbrev pub Ends : List ℕ → ℕ → List ℕ → Findings → Type 0
Ends pic e l w = Meets pic l w ⊎ ((f : Fault) × Fails pic e l f × (w ≡ failed f))

-- what is found where the TLVs ms are passed first, and then w is found
abbrev pub found : List ℕ → List (List ℕ) → Findings → Findings
found pic ms w = record { tlvs = map (entry pic) ms ++ w.tlvs; value = w.value; answer = w.answer }

-- What a walk finds lies so in the picture: TLVs passed over whole, one after the other, tile the visible addresses of the area as far
-- as `rest`, and what stands first there is the message or the first thing that went wrong.
pub record Lies (pic : List ℕ) (w : Findings) : Type 0 where
  pub before : List (List ℕ)
  pub rest : List ℕ
  pub last : Findings
  pub tiles : visible pic before (area pic) ≡ flat_map (λ m. m) before ++ rest
  pub passed : AllByRecursion (Passed pic) before
  pub ends : Ends pic (area_end pic) rest last
  pub finds : w ≡ found pic before last

-- What is found in a picture: it is refused without a walk, or things are found as they lie, and in no other way. The lock areas that are hidden
-- go by whole blocks.
pub record LaidOut (pic : List ℕ) (w : Findings) : Type 0 where
  pub no_picture : (length pic ≢ 256) → w ≡ failed (Call 6 0)
  pub no_container : length pic ≡ 256 → accepted pic ≡ false → w ≡ failed (Layout 9 12)
  pub lies : length pic ≡ 256 → accepted pic ≡ true → Lies pic w
  pub only : length pic ≡ 256 → accepted pic ≡ true → (v : Findings) → Lies pic v → v ≡ w
  pub lock_areas : Blockwise

-- the answer of a walk is the one that is laid out in its picture
pub record ReadOff (pic : List ℕ) (r : Result Message Fault) : Type 0 where
  pub found_there : Findings
  pub laid_out : LaidOut pic found_there
  pub answer_is : r ≡ found_there.answer
