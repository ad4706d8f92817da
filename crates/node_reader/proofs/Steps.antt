-- The steps of the loops over a block's entries, and of a table of rules in parts.
use Rattle.std.proofs.Common.{◌≡◌, ℕ, zero, suc, ◌+◌, ◌-◌, ◌*◌, ◌<◌, ◌≤◌, List, Bool, true, false, not, cond, refl, arith}
use Rattle.std.proofs.Math.Nat.{mul-suc, mul-le-mul_left, mul-div-le}
use Rattle.std.specs.Prelude.{Some, None, ◌/◌, ◌==◌, ◌||◌, nat_lt}
use Rattle.recon_bytes.specs.Field.{field}
use Rattle.verdict.specs.OnDisk.{key_below}
use Rattle.node_reader.specs.Layout.{generation_of, entry_start, entry_key, item_offset, item_size}
use Rattle.node_reader.specs.Faults.{disordered_at, newer_at, misplaced_at, end_before}
use Rattle.node_reader.specs.Places.{least_from}

-- the least of some places is the first or one of the others
pub least_of_some : (test : ℕ → Bool) (at n : ℕ) → least_from test at (suc n) ≡ cond (test at) (Some at) (least_from test (suc at) n)
unfolding least_from
least_of_some test at n = refl

least_of_none : (test : ℕ → Bool) (at : ℕ) → least_from test at zero ≡ None
unfolding least_from
least_of_none test at = refl

-- the test holds at the first place that is left
pub least_from_here : (test : ℕ → Bool) (at end : ℕ) → at < end → test at ≡ true → least_from test at (end - at) ≡ Some at
least_from_here test at end inside holds =
    let left : end - at ≡ suc (end - suc at) = omega arith in
    rw (left, least_of_some, holds) refl

-- the test does not hold at the first place that is left
pub least_from_past : (test : ℕ → Bool) (at end : ℕ) → at < end → test at ≡ false → least_from test at (end - at) ≡ least_from test (at + 1) (end - (at + 1))
least_from_past test at end inside holds =
    let left : end - at ≡ suc (end - (at + 1)) = omega arith in
    let next : at + 1 ≡ suc at = omega arith in
    rw (left, least_of_some, holds, ← next) refl

-- no place is left
pub least_from_end : (test : ℕ → Bool) (at end : ℕ) → end ≤ at → least_from test at (end - at) ≡ None
least_from_end test at end past =
    let left : end - at ≡ zero = omega arith in
    rw (left, least_of_none) refl

-- an entry before the last ends before the entries do
pub entry_fits : (size place count : ℕ) → place < count → size * place + size ≤ size * count
entry_fits size place count inside =
    let whole : size * suc place ≤ size * count = mul-le-mul_left size (omega arith) in
    rw mul-suc at whole

-- as many entries as fit into the room lie inside it
pub room_fits : (size count long : ℕ) → count ≤ long / size → size * count ≤ long
room_fits size count long few =
    let all : size * count ≤ size * (long / size) = mul-le-mul_left size few in
    let room : size * (long / size) ≤ long = mul-div-le long size in
    omega arith

pub disordered_is : (bytes : List ℕ) (size place : ℕ) → disordered_at bytes size place ≡ not (key_below (entry_key bytes size (place - 1)) (entry_key bytes size place))
unfolding disordered_at
disordered_is bytes size place = refl

pub newer_is : (bytes : List ℕ) (place : ℕ) → newer_at bytes place ≡ nat_lt (generation_of bytes) (field 8 bytes (entry_start 33 place + 25))
unfolding newer_at
newer_is bytes place = refl

pub misplaced_is : (bytes : List ℕ) (count place : ℕ) → misplaced_at bytes count place ≡ (not (item_offset bytes place + item_size bytes place == end_before bytes place) || nat_lt (item_offset bytes place) (25 * count))
unfolding misplaced_at
misplaced_is bytes count place = refl

pub ruleset disorder_steps = (least_from_here, least_from_past, least_from_end, entry_fits, disordered_is)

pub ruleset newer_steps = (least_from_here, least_from_past, least_from_end, newer_is)

pub ruleset misplaced_steps = (least_from_here, least_from_past, least_from_end, misplaced_is)
