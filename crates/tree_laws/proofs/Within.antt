-- What holds of the blocks that a walk comes to holds of those below each of them, and their keys are below its bound.
use Rattle.std.proofs.Common.{◌≡◌, ℕ, zero, suc, Bool, true, false, ◌&&◌, List, [], ◌∷◌, refl, ap, sym, subst, ◌∙◌, arith}
use Rattle.std.specs.Prelude.{Option, Some, None, Result, Ok, Err, map, ◌==◌, if◌then◌else◌}
use Rattle.std.proofs.lemmas.Bool.Decides.{nat_tests}
use Rattle.verdict.proofs.Truth.{and_true, and_parts}
use Rattle.verdict.specs.OnDisk.{key_below}
use Rattle.verdict.specs.Rules.{and_then}
use Rattle.verdict.specs.declared.finding.Finding.{Finding}
use Rattle.verdict.specs.declared.key.Key.{Key}
use Rattle.verdict.specs.declared.place.At.{At}
use Rattle.super_reader.specs.declared.Super.{Super}
use Rattle.super_reader.specs.Superblock.{item_place}
use Rattle.node_reader.specs.Layout.{LeafItem, count_of, entry_key, entry_size, items_of, pointers_of}
use Rattle.node_reader.specs.Places.{each_from}
use Rattle.node_reader.specs.Stored.{Stored}
use Rattle.node_reader.specs.declared.expect.Expect.{Expect}
use Rattle.node_reader.specs.declared.expect.Pointer.{Pointer}
use Rattle.records.specs.Item.{item_record}
use Rattle.records.specs.Part.{Part}
use Rattle.records.specs.Seen.{Seen}
use Rattle.records.specs.Seen.Seen.{ItemSeen}
use Rattle.records.specs.Walk.{Records, behind, child_of, children_of, each, entry_records, high_of, just, leaf_record, leaf_records, pointer_records, then_records}
use Rattle.walk_laws.proofs.Blocks.{block_keys, item_keys_of, pointer_keys_of}
use Rattle.walk_laws.proofs.Keys.{AllBelow}
use Rattle.tree_laws.specs.Skips.{is_below}
use Rattle.tree_laws.proofs.Accepted.{Accepts, accepts, keys_at, visit_of, walk_accepted}
use Rattle.tree_laws.proofs.Bounds.{keys_below, own_below, upto, upto_after, upto_then, upto_through}
use Rattle.tree_laws.proofs.Trails.{Trail, trail_and, trail_below, trail_of, trails}
use Rattle.tree_laws.proofs.Visiting.{Visits, visits_after, visits_first, visits_later, visits_then, visits_then_first, visits_then_later}

-- what holds of the blocks below each block that a walk comes to
abbrev pub Below : (Expect → Type 0) → Super → Stored → Expect → Type 0
Below P sup stored v = Visits P (trail_of sup stored v)

within_children : (P : Expect → Type 0) (level : ℕ) (sup : Super) (stored : Stored) (of : Expect → Trail) → ((e : Expect) → e.level ≡ level → Visits P (of e) → Visits (Below P sup stored) (of e))
    → (e : Expect) (pointers : List Pointer) → Visits P (trails of (children_of level e pointers)) → Visits (Below P sup stored) (trails of (children_of level e pointers))
within_children P level sup stored of within e [] all = tt
within_children P level sup stored of within e (pointer ∷ pointers) all =
    let child = child_of level e pointer (high_of pointers e.high) in
    let rest = trails of (children_of level e pointers) in
    visits_then (Below P sup stored) (of child) rest (within child refl (visits_then_first P (of child) rest all))
    (within_children P level sup stored of within e pointers (visits_then_later P (of child) rest all))

within_block : (P : Expect → Type 0) (level : ℕ) (sup : Super) (stored : Stored) (e : Expect) → e.level ≡ level
    → ((bytes : List ℕ) → Visits P (trail_below level sup stored e bytes) → Visits (Below P sup stored) (trail_below level sup stored e bytes))
    → Visits P (trail_and (trail_below level sup stored) sup stored e) → Visits (Below P sup stored) (trail_and (trail_below level sup stored) sup stored e)
within_block P level sup stored e is within all =
    let a = accepts P (trail_below level sup stored) sup stored e all in
    let here : Below P sup stored e = subst (λ n. Visits P (trail_and (trail_below n sup stored) sup stored e)) (sym is) all in
    let walk = walk_accepted (trail_below level sup stored) sup stored e a in
    let rest = trail_below level sup stored e a.bytes in
    let own = visit_of e a.bytes a.entries ∷ [] in
    subst (Visits (Below P sup stored)) (sym walk)
    (visits_after (Below P sup stored) own rest (here, tt)
    (within a.bytes (visits_later P own rest (subst (Visits P) walk all))))

within_below : (P : Expect → Type 0) (level : ℕ) (sup : Super) (stored : Stored) (e : Expect) (bytes : List ℕ) → Visits P (trail_below level sup stored e bytes) → Visits (Below P sup stored) (trail_below level sup stored e bytes)
unfolding trail_below
within_below P zero sup stored e bytes all = tt
within_below P (suc level) sup stored e bytes all =
    within_children P level sup stored (trail_and (trail_below level sup stored) sup stored)
    (λ child is. within_block P level sup stored child is (within_below P level sup stored child))
    e (pointers_of bytes) all

pub within : (P : Expect → Type 0) (sup : Super) (stored : Stored) (e : Expect) → Visits P (trail_of sup stored e) → Visits (Below P sup stored) (trail_of sup stored e)
within P sup stored e all = within_block P e.level sup stored e refl (within_below P e.level sup stored e) all

-- what holds of each block that a walk comes to holds of the first
pub here_of : (P : Expect → Type 0) (below : Expect → List ℕ → Trail) (sup : Super) (stored : Stored) (e : Expect) → Visits P (trail_and below sup stored e) → P e
here_of P below sup stored e all =
    let a = accepts P below sup stored e all in
    (visits_first P (visit_of e a.bytes a.entries ∷ []) (below e a.bytes) (subst (Visits P) (walk_accepted below sup stored e a) all)).0

-- the keys of pointers
abbrev pub pointer_keys : List Pointer → List Key
pointer_keys pointers = map (λ pointer. pointer.key) pointers

pub node_size : (level : ℕ) → entry_size (suc level) ≡ 33
node_size level = grind (arith, nat_tests)

-- those of a node
pub node_keys : (level : ℕ) (bytes : List ℕ) → keys_at (suc level) bytes ≡ pointer_keys (pointers_of bytes)
node_keys level bytes = ap (λ s. each_from (entry_key bytes s) 0 (count_of bytes)) (node_size level) ∙ sym (pointer_keys_of bytes)

-- the keys of a block's own records are those of its entries
pub one_own : (item : LeafItem) (at : At) (part : Result Part Finding) (more : Records) (entries : List Seen) → then_records (just (and_then part (λ p. Ok (ItemSeen (record { tree = at.tree; block = at.block; key = item.key; part = p }))))) more ≡ Ok entries
    → (p : Part) × (others : List Seen) × (more ≡ Ok others) × (ItemSeen (record { tree = at.tree; block = at.block; key = item.key; part = p }) ∷ others ≡ entries)
unfolding behind
one_own item at (Err finding) more entries is = absurd (cc)
one_own item at (Ok part) (Err finding) entries is = absurd (cc)
one_own item at (Ok part) (Ok others) entries is = (part, others, refl, cc)

leaf_own : (at : At) (items : List LeafItem) (entries : List Seen) (high : Option Key) → each (λ item. just (leaf_record at item)) items ≡ Ok entries → own_below entries high ≡ keys_below (map (λ item. item.key) items) high
leaf_own at [] entries high is = let none : [] ≡ entries = cc in subst (λ es. own_below es high ≡ true) none refl
leaf_own at (item ∷ items) entries high is =
    let rest = one_own item at (item_record at item.key item.bytes) (each (λ item. just (leaf_record at item)) items) entries is in
    sym (ap (λ es. own_below es high) rest.3) ∙ ap (λ b. is_below item.key high && b) (leaf_own at items rest.1 high rest.2)

node_own : (e : Expect) (pointers : List Pointer) (high : Option Key) → own_below (pointer_records e pointers) high ≡ keys_below (pointer_keys pointers) high
node_own e [] high = refl
node_own e (pointer ∷ pointers) high = ap (λ b. is_below pointer.key high && b) (node_own e pointers high)

pub own_keys : (sup : Super) (e : Expect) (bytes : List ℕ) (entries : List Seen) (high : Option Key) → entry_records sup e bytes ≡ Ok entries → own_below entries high ≡ keys_below (keys_at e.level bytes) high
unfolding leaf_records
own_keys sup e bytes entries high is = by (e.level == 0) refl is
  where
    by : (leaf : Bool) → (e.level == 0) ≡ leaf
        → (if leaf then each (λ item. just (leaf_record (item_place sup e.tree e.address e.generation) item)) (items_of bytes) else Ok (pointer_records e (pointers_of bytes))) ≡ Ok entries
        → own_below entries high ≡ keys_below (keys_at e.level bytes) high
    by true at is =
        rw at (leaf_own (item_place sup e.tree e.address e.generation) (items_of bytes) entries high is ∙ ap (λ ks. keys_below ks high) (item_keys_of bytes))
    by false at is =
        let same : pointer_records e (pointers_of bytes) ≡ entries = cc in
        rw at (sym (ap (λ es. own_below es high) same) ∙ (node_own e (pointers_of bytes) high ∙ ap (λ ks. keys_below ks high) (pointer_keys_of bytes)))

-- the keys of a block that is accepted are below its bound
all_below : (keys : List Key) (high : Option Key) → AllBelow high keys → keys_below keys high ≡ true
all_below [] high all = refl
all_below (key ∷ keys) None all = all_below keys None tt
all_below (key ∷ keys) (Some high) all = and_true (key_below key high) (keys_below keys (Some high)) all.0 (all_below keys (Some high) all.1)

pub keys_fit : (sup : Super) (stored : Stored) (e : Expect) (a : Accepts sup stored e) → keys_below (keys_at e.level a.bytes) e.high ≡ true
keys_fit sup stored e a = all_below (keys_at e.level a.bytes) e.high (block_keys a.bytes sup.fsid e a.passes).upto

-- the keys of a trail from a block
pub upto_block : (P : Expect → Type 0) (below : Expect → List ℕ → Trail) (sup : Super) (stored : Stored) (e : Expect) (a : Accepts sup stored e) (high : Option Key) → Visits P (below e a.bytes)
    → upto (trail_and below sup stored e) high ≡ (keys_below (keys_at e.level a.bytes) high && upto (below e a.bytes) high)
upto_block P below sup stored e a high all =
    ap (λ t. upto t high) (walk_accepted below sup stored e a)
    ∙ (upto_after P (visit_of e a.bytes a.entries ∷ []) (below e a.bytes) high all
    ∙ ap (λ b. b && upto (below e a.bytes) high) (and_nil (own_below a.entries high) ∙ own_keys sup e a.bytes a.entries high a.has))
  where
    and_nil : (b : Bool) → (b && true) ≡ b
    and_nil true = refl
    and_nil false = refl

-- a trail without a finding goes on behind its block
pub rest_of : (P : Expect → Type 0) (below : Expect → List ℕ → Trail) (sup : Super) (stored : Stored) (e : Expect) (a : Accepts sup stored e) → Visits P (trail_and below sup stored e) → Visits P (below e a.bytes)
rest_of P below sup stored e a all = visits_later P (visit_of e a.bytes a.entries ∷ []) (below e a.bytes) (subst (Visits P) (walk_accepted below sup stored e a) all)

-- the keys below a block are below its bound
pub bounded_next : (trail : Trail) (pointers : List Pointer) (high : Option Key) → upto trail (high_of pointers high) ≡ true → keys_below (pointer_keys pointers) high ≡ true → upto trail high ≡ true
bounded_next trail [] high below keys = below
bounded_next trail (pointer ∷ pointers) high below keys = upto_through trail pointer.key high below (and_parts (is_below pointer.key high) (keys_below (pointer_keys pointers) high) keys).0

bounded_children : (P : Expect → Type 0) (level : ℕ) (of : Expect → Trail) → ((e : Expect) → e.level ≡ level → Visits P (of e) → upto (of e) e.high ≡ true)
    → (e : Expect) (pointers : List Pointer) → keys_below (pointer_keys pointers) e.high ≡ true → Visits P (trails of (children_of level e pointers)) → upto (trails of (children_of level e pointers)) e.high ≡ true
bounded_children P level of bounded e [] keys all = refl
bounded_children P level of bounded e (pointer ∷ pointers) keys all =
    let child = child_of level e pointer (high_of pointers e.high) in
    let rest = trails of (children_of level e pointers) in
    let less = (and_parts (is_below pointer.key e.high) (keys_below (pointer_keys pointers) e.high) keys).1 in
    upto_then P (of child) rest e.high all
    ∙ and_true (upto (of child) e.high) (upto rest e.high)
    (bounded_next (of child) pointers e.high (bounded child refl (visits_then_first P (of child) rest all)) less)
    (bounded_children P level of bounded e pointers less (visits_then_later P (of child) rest all))

bounded_block : (P : Expect → Type 0) (level : ℕ) (sup : Super) (stored : Stored) (e : Expect) → e.level ≡ level
    → ((bytes : List ℕ) → keys_below (keys_at level bytes) e.high ≡ true → Visits P (trail_below level sup stored e bytes) → upto (trail_below level sup stored e bytes) e.high ≡ true)
    → Visits P (trail_and (trail_below level sup stored) sup stored e) → upto (trail_and (trail_below level sup stored) sup stored e) e.high ≡ true
bounded_block P level sup stored e is bounded all =
    let a = accepts P (trail_below level sup stored) sup stored e all in
    let rest = rest_of P (trail_below level sup stored) sup stored e a all in
    let keys = keys_fit sup stored e a in
    upto_block P (trail_below level sup stored) sup stored e a e.high rest
    ∙ and_true (keys_below (keys_at e.level a.bytes) e.high) (upto (trail_below level sup stored e a.bytes) e.high) keys
    (bounded a.bytes (subst (λ n. keys_below (keys_at n a.bytes) e.high ≡ true) is keys) rest)

bounded_below : (P : Expect → Type 0) (level : ℕ) (sup : Super) (stored : Stored) (e : Expect) (bytes : List ℕ) → keys_below (keys_at level bytes) e.high ≡ true → Visits P (trail_below level sup stored e bytes) → upto (trail_below level sup stored e bytes) e.high ≡ true
unfolding trail_below
bounded_below P zero sup stored e bytes keys all = refl
bounded_below P (suc level) sup stored e bytes keys all =
    bounded_children P level (trail_and (trail_below level sup stored) sup stored)
    (λ child is. bounded_block P level sup stored child is (bounded_below P level sup stored child))
    e (pointers_of bytes) (subst (λ ks. keys_below ks e.high ≡ true) (node_keys level bytes) keys) all

pub bounded : (P : Expect → Type 0) (level : ℕ) (sup : Super) (stored : Stored) (e : Expect) → e.level ≡ level → Visits P (trail_and (trail_below level sup stored) sup stored e) → upto (trail_and (trail_below level sup stored) sup stored e) e.high ≡ true
bounded P level sup stored e is all = bounded_block P level sup stored e is (bounded_below P level sup stored e) all
