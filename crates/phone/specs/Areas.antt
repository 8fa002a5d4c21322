-- The areas that control TLVs name. A walk skips their addresses.
use Rattle.std.specs.Prelude.{◌≡◌, ℕ, ◌+◌, ◌-◌, ◌*◌, ◌/◌, ◌%◌, ◌^◌, ◌<◌, ◌≤◌, Bool, true, cond, ◌&&◌, List, [], ◌∷◌, Some, None, Option, ◌==◌, nat_le, nat_lt}
use Rattle.phone.specs.declared.area.Area.{Area}
use Rattle.phone.specs.declared.area.Control.{Control}
use Rattle.phone.specs.declared.area.Control.TheVariants.{Lock, Memory}

-- the types of the control TLVs, which name areas of lock bits and of reserved bytes
abbrev pub lock_control : ℕ
lock_control = 0x01

abbrev pub memory_control : ℕ
memory_control = 0x02

-- the type of a control
abbrev pub kind_of : Control → ℕ
kind_of Lock = lock_control
kind_of Memory = memory_control

-- the control of a type, if it is one's
abbrev pub control_of : ℕ → Option Control
control_of kind = cond (kind == lock_control) (Some Lock) (cond (kind == memory_control) (Some Memory) None)

-- an area goes from its start up to its stop, without the stop
abbrev pub inside : Area → ℕ → Bool
inside r a = nat_le r.start a && nat_lt a r.stop

-- the addresses that do not lie in an area
unfoldable pub outside : Area → List ℕ → List ℕ
outside r [] = []
outside r (a ∷ l) = cond (inside r a) (outside r l) (a ∷ outside r l)

-- An area starts at the position's high digit times two to the power of the control's low digit, plus the position's low digit.
unfoldable pub starts : ℕ → ℕ → ℕ
starts position control = position / 16 * 2 ^ (control % 16) + position % 16

-- a size of 0 stands for 256
abbrev pub full : ℕ → ℕ
full size = cond (size == 0) 256 size

-- n lock bits from address a on: they round up to bytes, and every block of four addresses that these touch is taken
abbrev pub lock_area : ℕ → ℕ → Area
lock_area a n = record { start = a / 4 * 4; stop = (a + (n + 7) / 8 + 3) / 4 * 4 }

-- A lock area, said of its bits: x shares a block with a byte that holds one of the n bits from address a on.
pub record Touched (a n x : ℕ) : Type 0 where
  pub byte : ℕ
  pub from_start : a ≤ byte
  pub holds_a_bit : 8 * (byte - a) < n
  pub same_block : byte / 4 ≡ x / 4

-- a lock area, which has at least one bit, has only addresses that are touched, and all of them
pub record Blockwise : Type 0 where
  pub only_touched : (a n x : ℕ) → 0 < n → inside (lock_area a n) x ≡ true → Touched a n x
  pub all_touched : (a n x : ℕ) → Touched a n x → inside (lock_area a n) x ≡ true

-- n reserved bytes from address a on
abbrev pub reserved_area : ℕ → ℕ → Area
reserved_area a n = record { start = a; stop = a + n }

-- the area that a control TLV names by its type and its three bytes
unfoldable pub named : ℕ → ℕ → ℕ → ℕ → Area
named kind position size control =
    cond (kind == lock_control) (lock_area (starts position control) (full size)) (reserved_area (starts position control) (full size))
