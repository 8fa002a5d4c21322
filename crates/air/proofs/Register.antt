-- A whole byte through the register at once: eight turns are linear, so the high byte and the low byte go through on their own.
use Rattle.std.proofs.Common.{◌≡◌, ℕ, zero, suc, ◌+◌, ◌*◌, ◌/◌, ◌%◌, ◌<◌, Bool, true, ◌&&◌, eqb, fold, sym, refl, ap, ◌∙◌, arith}
use lib.Bits.{bit_xor, xor_shr, xor_mod, xor_comm, xor_assoc, xor_zero_l, xor_zero_r, xor_shifted, xor_lt, xor_block}
use Rattle.std.proofs.lemmas.Nat.{div-add-mod'}
use Rattle.std.proofs.lemmas.Bool.Decides.{Decides-below_and, Decides-eqb}
use Rattle.air.specs.Crc.{bit_in, bits, byte_in}

-- one turn with no bit coming in
abbrev turn : ℕ → ℕ
turn s = bit_xor (s / 2) (s % 2 * 0x8408)

abbrev turns : ℕ → ℕ → ℕ
turns zero s = s
turns (suc k) s = turns k (turn s)

abbrev halved : ℕ → ℕ → ℕ
halved zero b = b
halved (suc k) b = halved k (b / 2)

-- a bit that comes in may as well be added to the register first
bit_first : (s b : ℕ) → turn (bit_xor s b) ≡ bit_xor (bit_in s (b % 2)) (b / 2)
bit_first s b =
    let p : ℕ = bit_xor (s % 2) (b % 2) * 0x8408 in
    let d = xor_shr s b 1 in
    let m = xor_mod s b 1 in
    let e : turn (bit_xor s b) ≡ bit_xor (bit_xor (s / 2) (b / 2)) p = cc in
    e ∙ xor_assoc (s / 2) (b / 2) p ∙ ap (bit_xor (s / 2)) (xor_comm (b / 2) p) ∙ sym (xor_assoc (s / 2) p (b / 2))

bits_first : (k s b : ℕ) → turns k (bit_xor s b) ≡ bit_xor (fold bit_in s (bits k b)) (halved k b)
bits_first zero s b = refl
bits_first (suc k) s b = ap (turns k) (bit_first s b) ∙ bits_first k (bit_in s (b % 2)) (b / 2)

-- the byte's bits one by one are the byte added and eight turns
byte_first : (s b : ℕ) → b < 256 → byte_in s b ≡ turns 8 (bit_xor s b)
unfolding byte_in
byte_first s b h =
    let z : halved 8 b ≡ 0 = omega arith in
    let v : ℕ = fold bit_in s (bits 8 b) in
    sym (bits_first 8 s b ∙ ap (bit_xor v) z ∙ xor_zero_r v)

tap : (u v : ℕ) → u < 2 → v < 2 → bit_xor u v * 0x8408 ≡ bit_xor (u * 0x8408) (v * 0x8408)
tap zero zero hu hv = refl
tap zero (suc zero) hu hv = refl
tap (suc zero) zero hu hv = refl
tap (suc zero) (suc zero) hu hv = refl
tap (suc (suc u)) v hu hv = let z : ⊥ = omega arith in absurd z
tap zero (suc (suc v)) hu hv = let z : ⊥ = omega arith in absurd z
tap (suc zero) (suc (suc v)) hu hv = let z : ⊥ = omega arith in absurd z

cross : (x y p q : ℕ) → bit_xor (bit_xor x y) (bit_xor p q) ≡ bit_xor (bit_xor x p) (bit_xor y q)
cross x y p q =
    xor_assoc x y (bit_xor p q) ∙ ap (bit_xor x) (sym (xor_assoc y p q) ∙ ap (λ z. bit_xor z q) (xor_comm y p) ∙ xor_assoc p y q) ∙ sym (xor_assoc x p (bit_xor y q))

turn-xor : (a b : ℕ) → turn (bit_xor a b) ≡ bit_xor (turn a) (turn b)
turn-xor a b =
    let t = tap (a % 2) (b % 2) (omega arith) (omega arith) in
    let d = xor_shr a b 1 in
    let m = xor_mod a b 1 in
    let k = cross (a / 2) (b / 2) (a % 2 * 0x8408) (b % 2 * 0x8408) in
    cc

turns-xor : (k a b : ℕ) → turns k (bit_xor a b) ≡ bit_xor (turns k a) (turns k b)
turns-xor zero a b = refl
turns-xor (suc k) a b = ap (turns k) (turn-xor a b) ∙ turns-xor k (turn a) (turn b)

even : (a b : ℕ) → b ≡ a * 2 → turn b ≡ a
even a b e =
    let d : b / 2 ≡ a = omega arith in
    let m : b % 2 ≡ 0 = omega arith in
    rw (d, m) (xor_zero_r a)

-- the high byte falls down unchanged
high : (h : ℕ) → turns 8 (h * 256) ≡ h
high h =
    let e1 = even (h * 128) (h * 256) (omega arith) in
    let e2 = even (h * 64) (h * 128) (omega arith) in
    let e3 = even (h * 32) (h * 64) (omega arith) in
    let e4 = even (h * 16) (h * 32) (omega arith) in
    let e5 = even (h * 8) (h * 16) (omega arith) in
    let e6 = even (h * 4) (h * 8) (omega arith) in
    let e7 = even (h * 2) (h * 4) (omega arith) in
    let e8 = even h (h * 2) (omega arith) in
    cc

parted : (t : ℕ) → turns 8 t ≡ bit_xor (t / 256) (turns 8 (t % 256))
parted t =
    let l : t % 256 < 256 = omega arith in
    let e : bit_xor (t / 256 * 256) (t % 256) ≡ t = xor_shifted (t / 256) 8 (t % 256) l ∙ div-add-mod' t 256 in
    ap (turns 8) (sym e) ∙ turns-xor 8 (t / 256 * 256) (t % 256) ∙ ap (λ z. bit_xor z (turns 8 (t % 256))) (high (t / 256))

-- the formula for the low byte: what it leaves in the high byte and what it adds to the byte that falls down
abbrev pub mixed : ℕ → ℕ
mixed x = bit_xor x (x * 16 % 256)

abbrev pub above : ℕ → ℕ
above x = bit_xor (mixed x) (mixed x / 32)

abbrev pub below : ℕ → ℕ
below x = bit_xor (mixed x * 8 % 256) (mixed x / 16)

mixed_lt : (x : ℕ) → x < 256 → mixed x < 256
mixed_lt x h = xor_lt 8 x (x * 16 % 256) h (omega arith)

below_lt : (x : ℕ) → x < 256 → below x < 256
below_lt x h = let m = mixed_lt x h in xor_lt 8 (mixed x * 8 % 256) (mixed x / 16) (omega arith) (omega arith)

all : ℕ → Bool
all zero = true
all (suc n) = eqb (turns 8 n) (above n * 256 + below n) && all n

-- it is right at each of the 256 low bytes
formula : (x : ℕ) → x < 256 → turns 8 x ≡ above x * 256 + below x
unfolding all
formula x h =
    (Decides-below_and (λ n. eqb (turns 8 n) (above n * 256 + below n)) (λ n. turns 8 n ≡ above n * 256 + below n) all
    (λ n. Decides-eqb (turns 8 n) (above n * 256 + below n)) refl (λ _. refl) 256).0 refl x h

-- a byte added to a number changes its low byte alone
low_only : (h a b : ℕ) → h < 256 → b < 256 → bit_xor h (a * 256 + b) ≡ a * 256 + bit_xor h b
low_only h a b hh hb =
    let z : 0 * 256 + h ≡ h = omega arith in
    ap (λ k. bit_xor k (a * 256 + b)) (sym z) ∙ xor_block 8 0 a h b hh hb ∙ ap (λ k. k * 256 + bit_xor h b) (xor_zero_l a)

-- one byte by the formula
pub at_once : (l h b : ℕ) → l < 256 → h < 256 → b < 256 → above (bit_xor l b) * 256 + bit_xor h (below (bit_xor l b)) ≡ byte_in (h * 256 + l) b
at_once l h b hl hh hb =
    let s : ℕ = h * 256 + l in
    let t : ℕ = bit_xor s b in
    let x : ℕ = bit_xor l b in
    let lx : x < 256 = xor_lt 8 l b hl hb in
    let sh : s / 256 ≡ h = omega arith in
    let sl : s % 256 ≡ l = omega arith in
    let bh : b / 256 ≡ 0 = omega arith in
    let bl : b % 256 ≡ b = omega arith in
    let th : t / 256 ≡ h = xor_shr s b 8 ∙ ap (λ k. bit_xor k (b / 256)) sh ∙ ap (bit_xor h) bh ∙ xor_zero_r h in
    let tl : t % 256 ≡ x = xor_mod s b 8 ∙ ap (λ k. bit_xor k (b % 256)) sl ∙ ap (bit_xor l) bl in
    let p : turns 8 t ≡ bit_xor h (turns 8 x) = parted t ∙ ap (λ k. bit_xor k (turns 8 (t % 256))) th ∙ ap (λ k. bit_xor h (turns 8 k)) tl in
    sym (byte_first s b hb ∙ p ∙ ap (bit_xor h) (formula x lx) ∙ low_only h (above x) (below x) hh (below_lt x lx))
