-- WRITE: its rules in their order.
use Rattle.std.specs.Prelude.{ℕ, Bool, cond, ◌&&◌, ◌||◌, List, [], ◌∷◌, Some, None, Option, ◌==◌, nat_lt, slice_index, slice_index_or}
use Rattle.std.specs.Str.{bytes_eq}
use Rattle.air.specs.declared.answer.Answer.{Answer}
use Rattle.air.specs.declared.answer.Answer.TheVariants.{Ack, Nack}
use Rattle.air.specs.declared.answer.Refusal.TheVariants as refusal
use Rattle.memory.specs.Memory.{takes, written}
use Rattle.tag.specs.declared.state.State.TheVariants.{Killed}
use Rattle.tag.specs.declared.write.Change.{Change}
use Rattle.tag.specs.Boxes.{Box, in_state, holding, homed}
use Rattle.tag.specs.Locks.{locked, merged}

-- no WRITE reaches blocks above 63, nor 0, 1, 45, 49, 50 and 51
abbrev pub closed : ℕ → Bool
closed b = nat_lt 63 b || (b == 0 || (b == 1 || (b == 45 || (b == 49 || (b == 50 || b == 51)))))

-- the keyhole, block 48: where block 47 is locked and the data equals it, address 200 becomes A5h
abbrev pub kill_by : List (List ℕ) → List ℕ → Option Change
kill_by blocks sent =
    let old = slice_index_or blocks 50 [] in
    cond (locked blocks 47 && bytes_eq sent (slice_index_or blocks 47 [])) (Some (record { block = 50; bytes = 0xa5 ∷ slice_index old 1 ∷ slice_index old 2 ∷ slice_index old 3 ∷ [] })) None

-- any other block takes the data, or gains bits
abbrev pub merge_into : List (List ℕ) → ℕ → List ℕ → Change
merge_into blocks b sent = record { block = b; bytes = merged b (slice_index_or blocks b []) sent }

-- what a WRITE of a block is to store, or nothing where it may not
abbrev pub change_by : List (List ℕ) → ℕ → List ℕ → Option Change
change_by blocks b sent =
    cond (closed b || locked blocks b) None
    (cond (b == 48) (kill_by blocks sent)
    (Some (merge_into blocks b sent)))

-- ACK where the memory takes it, NACK 5h where it does not, NACK 0h where nothing may be stored
abbrev pub answer_to : Box → Option Change → Answer
answer_to x None = Nack refusal.Block
answer_to x (Some change) = cond (takes x.mem) Ack (Nack refusal.Memory)

abbrev pub write_answer : Box → ℕ → List ℕ → Answer
write_answer x b sent = answer_to x (change_by x.mem.blocks b sent)

-- the tag after it: each NACK sends it home, and a turned keyhole kills it
abbrev pub changed : Box → ℕ → Option Change → Box
changed x b None = homed x
changed x b (Some change) =
    let after = holding x (written x.mem change.block change.bytes) in
    cond (takes x.mem) (cond (b == 48) (in_state after Killed) after) (homed after)

abbrev pub write_box : Box → ℕ → List ℕ → Box
write_box x b sent = changed x b (change_by x.mem.blocks b sent)
