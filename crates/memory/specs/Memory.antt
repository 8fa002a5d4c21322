-- What a memory means: 64 blocks of four bytes, and a number of writes left.
use Rattle.std.specs.Prelude.{ℕ, ◌-◌, Bool, cond, List, [], Ok, Err, Result, nat_lt, slice_index_or, slice_set}
use Rattle.air.specs.declared.fault.Fault.{Fault}
use Rattle.air.specs.declared.fault.Fault.TheVariants.{Memory}

pub record Contents : Type 0 where
  pub blocks : List (List ℕ)
  pub left : ℕ

-- the bytes of block b
abbrev pub block : Contents → ℕ → List ℕ
block m b = slice_index_or m.blocks b []

-- reading gives a block's bytes; above 63 there is no block
abbrev pub reading : Contents → ℕ → Result (List ℕ) Fault
reading m b = cond (nat_lt b 64) (Ok (block m b)) (Err (Memory 14 0))

-- the next write is stored
abbrev pub takes : Contents → Bool
takes m = nat_lt 0 m.left

-- what a write answers: refused with 14 for want of the block, then with 15 for want of a write
abbrev pub writing : Contents → ℕ → Result (Unit {0}) Fault
writing m b = cond (nat_lt b 64) (cond (takes m) (Ok tt) (Err (Memory 15 0))) (Err (Memory 14 0))

-- a stored write alters one block and spends one write
abbrev pub stored : Contents → ℕ → List ℕ → Contents
stored m b bytes = record { blocks = slice_set m.blocks b bytes; left = m.left - 1 }

-- what a write leaves: a refused one leaves all as it was
abbrev pub written : Contents → ℕ → List ℕ → Contents
written m b bytes = cond (nat_lt b 64) (cond (takes m) (stored m b bytes) m) m
