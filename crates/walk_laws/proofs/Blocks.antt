-- The keys of a block that breaks no rule.
use Rattle.std.proofs.Common.{◌≡◌, ℕ, zero, suc, ◌+◌, ◌-◌, ◌<◌, Bool, true, false, not, List, [], ◌∷◌, ◌++◌, refl, ap, sym, ◌∙◌, arith}
use Rattle.std.proofs.lemmas.Grind.{common_steps}
use Rattle.std.specs.Prelude.{Option, Some, None, is_some, ◌==◌, ◌&&◌, map}
use Rattle.verdict.proofs.Answers.{none_is}
use Rattle.verdict.specs.Rules.{first_failing}
use Rattle.verdict.specs.OnDisk.{key_below, key_same}
use Rattle.verdict.specs.declared.key.Key.{Key}
use Rattle.verdict.proofs.Tables.{joined_none, kept_at}
use Rattle.node_reader.specs.Places.{least_from, each_from}
use Rattle.node_reader.specs.Layout.{count_of, entry_size, entry_key, item_of, items_of, LeafItem, pointer_of, pointers_of}
use Rattle.node_reader.specs.Faults.{header_rules, count_rules, key_rules, body_rules, block_fault, differs_from, disordered_at, reaches}
use Rattle.node_reader.specs.declared.expect.Expect.{Expect}
use Rattle.node_reader.specs.declared.expect.Pointer.{Pointer}
use Rattle.node_reader.proofs.Sound.{none_found}
use Rattle.node_reader.proofs.Steps.{disordered_is}
use Rattle.walk_laws.proofs.Keys.{AllBelow, NoneBelow, Lie, lie_each, same_above}

keys_kept : (bytes fsid : List ℕ) (e : Expect) → block_fault bytes fsid e ≡ None → first_failing (key_rules bytes e) ≡ None
unfolding block_fault
keys_kept bytes fsid e kept =
    (joined_none (key_rules bytes e) (body_rules bytes e)
    (joined_none (count_rules bytes e) (key_rules bytes e ++ body_rules bytes e)
    (joined_none (header_rules bytes fsid e) (count_rules bytes e ++ (key_rules bytes e ++ body_rules bytes e)) kept).1).1).0

first_key : (bytes : List ℕ) (e : Expect) → first_failing (key_rules bytes e) ≡ None → differs_from e.low (entry_key bytes (entry_size e.level) 0) ≡ false
unfolding key_rules
first_key bytes e kept = kept_at 0 (key_rules bytes e) kept

no_disorder : (bytes : List ℕ) (e : Expect) → first_failing (key_rules bytes e) ≡ None → least_from (disordered_at bytes (entry_size e.level)) 1 (count_of bytes - 1) ≡ None
unfolding key_rules
no_disorder bytes e kept = none_is (least_from (disordered_at bytes (entry_size e.level)) 1 (count_of bytes - 1)) (kept_at 1 (key_rules bytes e) kept)

last_key : (bytes : List ℕ) (e : Expect) → first_failing (key_rules bytes e) ≡ None → (not (count_of bytes == 0) && reaches e.high (entry_key bytes (entry_size e.level) (count_of bytes - 1))) ≡ false
unfolding key_rules
last_key bytes e kept = kept_at 2 (key_rules bytes e) kept

from_low : (low : Option Key) (key : Key) → differs_from low key ≡ false → NoneBelow low (key ∷ [])
from_low None key is = tt
from_low (Some low) key is = (same_above low key (double_not (key_same low key) is), tt)
  where
    double_not : (b : Bool) → not b ≡ false → b ≡ true
    double_not b e = grind (arith, common_steps)

under_high : (high : Option Key) (key : Key) (n : ℕ) → (not (n == 0) && reaches high key) ≡ false → 0 < n → AllBelow high (key ∷ [])
under_high None key n is some = tt
under_high (Some high) key n is some = (both (key_below key high) n is some, tt)
  where
    both : (b : Bool) (n : ℕ) → (not (n == 0) && not b) ≡ false → 0 < n → b ≡ true
    both b n e h = grind (arith, common_steps)

-- the keys of a block lie between its bounds
pub block_keys : (bytes fsid : List ℕ) (e : Expect) → block_fault bytes fsid e ≡ None → Lie e.low e.high (each_from (entry_key bytes (entry_size e.level)) 0 (count_of bytes))
block_keys bytes fsid e kept =
    let keys = keys_kept bytes fsid e kept in
    let size = entry_size e.level in
    lie_each e.low e.high (entry_key bytes size) (count_of bytes)
    (λ some. from_low e.low (entry_key bytes size 0) (first_key bytes e keys))
    (λ some. (let last : 0 + count_of bytes - 1 ≡ count_of bytes - 1 = omega arith in rw last (under_high e.high (entry_key bytes size (count_of bytes - 1)) (count_of bytes) (last_key bytes e keys) some)))
    (λ place low high. ordered (key_below (entry_key bytes size (place - 1)) (entry_key bytes size place)) (sym (disordered_is bytes size place) ∙ none_found (disordered_at bytes size) 1 (count_of bytes - 1) (no_disorder bytes e keys) place (omega arith) (omega arith)))
  where
    ordered : (b : Bool) → not b ≡ false → b ≡ true
    ordered b e = grind (arith, common_steps)

map_each : {A B : Type 0} (f : A → B) (entry : ℕ → A) (at n : ℕ) → map f (each_from entry at n) ≡ each_from (λ i. f (entry i)) at n
unfolding each_from
map_each f entry at zero = refl
map_each f entry at (suc n) = ap (λ rest. f (entry at) ∷ rest) (map_each f entry (suc at) n)

-- the keys of a leaf's items, and of a node's pointers
pub item_keys_of : (bytes : List ℕ) → map (λ item. item.key) (items_of bytes) ≡ each_from (entry_key bytes 25) 0 (count_of bytes)
item_keys_of bytes = map_each (λ (item : LeafItem). item.key) (item_of bytes) 0 (count_of bytes)

pub pointer_keys_of : (bytes : List ℕ) → map (λ pointer. pointer.key) (pointers_of bytes) ≡ each_from (entry_key bytes 33) 0 (count_of bytes)
pointer_keys_of bytes = map_each (λ (pointer : Pointer). pointer.key) (pointer_of bytes) 0 (count_of bytes)
