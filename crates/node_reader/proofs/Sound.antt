-- A block that breaks no rule is sound: its entries and its items' bytes lie inside it.
use Rattle.std.proofs.Common.{◌≡◌, ℕ, zero, suc, ◌+◌, ◌-◌, ◌*◌, ◌<◌, ◌≤◌, List, ◌++◌, length, Bool, true, false, not, cond, refl, sym, subst, ◌∙◌, arith, nat_lt}
use Rattle.std.proofs.lemmas.Grind.{common_steps}
use Rattle.std.specs.Prelude.{Option, Some, None, is_some, ◌==◌, ◌||◌, ◌&&◌, if◌then◌else◌}
use Rattle.verdict.proofs.Answers.{none_is as none_of}
use Rattle.verdict.proofs.Truth.{neither}
use Rattle.verdict.proofs.Numbers.{same_of_not, at_least}
use Rattle.verdict.specs.Rules.{first_failing}
use Rattle.node_reader.specs.Places.{least_from}
use Rattle.node_reader.specs.Layout.{count_of, level_of, entry_size, item_offset, item_size, IsSound}
use Rattle.node_reader.specs.Faults.{header_rules, count_rules, key_rules, body_rules, block_fault, misplaced_at, end_before, room_of, needs_entry}
use Rattle.node_reader.specs.declared.expect.Expect.{Expect}
use Rattle.verdict.proofs.Tables.{first_failing_joined, joined_none, kept_at}
use Rattle.node_reader.proofs.Steps.{least_of_some, misplaced_is, room_fits}

not_both : (n : ℕ) (needs : Bool) → (n == 0 && needs) ≡ false → needs ≡ true → 0 < n
not_both n needs is holds = grind (arith, common_steps)

-- where the number of entries is lawful, they lie inside
pub count_fits : (bytes : List ℕ) (e : Expect) → 101 ≤ length bytes → first_failing (count_rules bytes e) ≡ None → 101 + entry_size e.level * count_of bytes ≤ length bytes
unfolding count_rules
count_fits bytes e header kept =
    let tests : (nat_lt (room_of bytes e.level) (count_of bytes) || (count_of bytes == 0 && needs_entry e)) ≡ false = kept_at 0 (count_rules bytes e) kept in
    let few : count_of bytes ≤ room_of bytes e.level = at_least (room_of bytes e.level) (count_of bytes) (neither (nat_lt (room_of bytes e.level) (count_of bytes)) (count_of bytes == 0 && needs_entry e) tests).0 in
    let fits : entry_size e.level * count_of bytes ≤ length bytes - 101 = room_fits (entry_size e.level) (count_of bytes) (length bytes - 101) few in
    omega arith

-- where the number of entries is lawful, there are some if there must be
pub count_some : (bytes : List ℕ) (e : Expect) → first_failing (count_rules bytes e) ≡ None → needs_entry e ≡ true → 0 < count_of bytes
unfolding count_rules
count_some bytes e kept needs =
    let tests : (nat_lt (room_of bytes e.level) (count_of bytes) || (count_of bytes == 0 && needs_entry e)) ≡ false = kept_at 0 (count_rules bytes e) kept in
    not_both (count_of bytes) (needs_entry e) (neither (nat_lt (room_of bytes e.level) (count_of bytes)) (count_of bytes == 0 && needs_entry e) tests).1 needs

-- the level is the expected one where the header is lawful
pub level_kept : (bytes fsid : List ℕ) (e : Expect) → first_failing (header_rules bytes fsid e) ≡ None → level_of bytes ≡ e.level
unfolding header_rules
level_kept bytes fsid e kept = same_of_not (level_of bytes) e.level (kept_at 6 (header_rules bytes fsid e) kept)

first_passed : (holds : Bool) (at : ℕ) (others : Option ℕ) → cond holds (Some at) others ≡ None → (holds ≡ false) × (others ≡ None)
first_passed true at others is = cc
first_passed false at others is = (refl, is)

at_or_behind : (test : ℕ → Bool) (at place : ℕ) → at ≤ place → test at ≡ false → (suc at ≤ place → test place ≡ false) → test place ≡ false
at_or_behind test at place low here behind = grind arith

-- where no place is found, the test holds at none
pub none_found : (test : ℕ → Bool) (at n : ℕ) → least_from test at n ≡ None → (place : ℕ) → at ≤ place → place < at + n → test place ≡ false
none_found test at zero is place low high = absurd (omega arith)
none_found test at (suc n) is place low high =
    let others : (test at ≡ false) × (least_from test (suc at) n ≡ None) = first_passed (test at) at (least_from test (suc at) n) (sym (least_of_some test at n) ∙ is) in
    let behind : suc at ≤ place → test place ≡ false = λ far. none_found test (suc at) n others.1 place far (omega arith) in
    at_or_behind test at place low others.0 behind

-- an item that is in its place ends where it must
end_is : (bytes : List ℕ) (count place : ℕ) → misplaced_at bytes count place ≡ false → item_offset bytes place + item_size bytes place ≡ end_before bytes place
end_is bytes count place is =
    same_of_not (item_offset bytes place + item_size bytes place) (end_before bytes place)
    (neither (not (item_offset bytes place + item_size bytes place == end_before bytes place)) (nat_lt (item_offset bytes place) (25 * count)) (sym (misplaced_is bytes count place) ∙ is)).0

-- the items of a leaf in which each is in its place end inside it
pub ends_inside : (bytes : List ℕ) (count : ℕ) → ((place : ℕ) → place < count → misplaced_at bytes count place ≡ false) →
    (place : ℕ) → place < count → item_offset bytes place + item_size bytes place ≤ length bytes - 101
ends_inside bytes count each zero inside =
    let here : item_offset bytes zero + item_size bytes zero ≡ length bytes - 101 = end_is bytes count zero (each zero inside) in
    omega arith
ends_inside bytes count each (suc place) inside =
    let before : item_offset bytes place + item_size bytes place ≤ length bytes - 101 = ends_inside bytes count each place (omega arith) in
    let here : item_offset bytes (suc place) + item_size bytes (suc place) ≡ item_offset bytes place = end_is bytes count (suc place) (each (suc place) inside) in
    omega arith

none_at_zero : (level : ℕ) (found : Option ℕ) → level ≡ 0 → is_some (if level == 0 then found else None) ≡ false → found ≡ None
none_at_zero level found leaf is =
    let P : ℕ → Type 0 = λ n. is_some (if n == 0 then found else None) ≡ false in
    none_of found (subst P leaf is)

-- no item of a lawful leaf is misplaced
pub items_placed : (bytes : List ℕ) (e : Expect) → first_failing (body_rules bytes e) ≡ None → e.level ≡ 0 → least_from (misplaced_at bytes (count_of bytes)) 0 (count_of bytes) ≡ None
unfolding body_rules
items_placed bytes e kept leaf =
    let second : is_some (if e.level == 0 then least_from (misplaced_at bytes (count_of bytes)) 0 (count_of bytes) else None) ≡ false = kept_at 1 (body_rules bytes e) kept in
    none_at_zero e.level (least_from (misplaced_at bytes (count_of bytes)) 0 (count_of bytes)) leaf second

-- a block that breaks no rule is sound
pub sound : (bytes fsid : List ℕ) (e : Expect) → 101 ≤ length bytes → block_fault bytes fsid e ≡ None → IsSound bytes
unfolding block_fault
sound bytes fsid e header kept =
    let split = joined_none (header_rules bytes fsid e) (count_rules bytes e ++ (key_rules bytes e ++ body_rules bytes e)) kept in
    let rest = joined_none (count_rules bytes e) (key_rules bytes e ++ body_rules bytes e) split.1 in
    let body = (joined_none (key_rules bytes e) (body_rules bytes e) rest.1).1 in
    let level : level_of bytes ≡ e.level = level_kept bytes fsid e split.0 in
    record {
      header = header;
      entries = rw level (count_fits bytes e header rest.0);
      items = λ leaf place inside.
          let placed = items_placed bytes e body (sym level ∙ leaf) in
          let ends : item_offset bytes place + item_size bytes place ≤ length bytes - 101 =
          ends_inside bytes (count_of bytes) (λ p within. none_found (misplaced_at bytes (count_of bytes)) 0 (count_of bytes) placed p (omega arith) (omega arith)) place inside in
          omega arith;
    }

pub ruleset fault_steps = (first_failing_joined, count_fits, count_some)

-- a block that breaks no rule has the expected level
pub fault_free_level : (bytes fsid : List ℕ) (e : Expect) → block_fault bytes fsid e ≡ None → level_of bytes ≡ e.level
unfolding block_fault
fault_free_level bytes fsid e kept =
    level_kept bytes fsid e (joined_none (header_rules bytes fsid e) (count_rules bytes e ++ (key_rules bytes e ++ body_rules bytes e)) kept).0

pub ruleset block_steps = (sound, fault_free_level)
