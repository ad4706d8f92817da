-- The greatest key of a walk's items stands for all its keys: no pointer's key is above it.
use Rattle.std.proofs.Common.{◌≡◌, ℕ, zero, suc, Bool, true, false, ◌&&◌, List, [], ◌∷◌, ◌++◌, refl, ap, sym, subst, ◌∙◌, arith}
use Rattle.std.specs.Prelude.{Option, Some, None, is_some, Ok, Err, map, ◌==◌, ◌||◌, not, nat_lt, if◌then◌else◌}
use Rattle.std.proofs.lemmas.Bool.{eqb-true}
use Rattle.std.proofs.lemmas.Bool.Decides.{nat_tests}
use Rattle.std.proofs.lemmas.Grind.{common_steps}
use Rattle.verdict.proofs.Truth.{and_true, and_parts, absorbs_left}
use Rattle.verdict.specs.OnDisk.{key_below, key_same}
use Rattle.verdict.specs.Rules.{no_key}
use Rattle.verdict.specs.declared.key.Key.{Key}
use Rattle.verdict.specs.declared.place.At.{At}
use Rattle.verdict.proofs.Tables.{joined_none, kept_at}
use Rattle.super_reader.specs.declared.Super.{Super}
use Rattle.super_reader.specs.Superblock.{item_place}
use Rattle.node_reader.specs.Faults.{block_fault, body_rules, count_rules, differs_from, header_rules, key_rules, room_of}
use Rattle.node_reader.specs.Layout.{LeafItem, count_of, entry_key, entry_size, items_of, pointer_of, pointers_of}
use Rattle.node_reader.specs.Places.{each_from}
use Rattle.node_reader.specs.Stored.{Stored}
use Rattle.node_reader.specs.declared.expect.Expect.{Expect}
use Rattle.node_reader.specs.declared.expect.Pointer.{Pointer}
use Rattle.records.specs.Item.{item_record}
use Rattle.records.specs.Seen.{Seen}
use Rattle.records.specs.Seen.Seen.{BlockSeen, PointerSeen, ItemSeen}
use Rattle.records.specs.Walk.{child_of, children_of, each, entry_records, high_of, just, leaf_record, leaf_records, pointer_records, walk_of}
use Rattle.records.specs.WalkLaw.{visited}
use Rattle.walk_laws.proofs.Blocks.{item_keys_of}
use Rattle.tree_laws.specs.LivePairs.{greater_key, greatest_key, last_key}
use Rattle.tree_laws.specs.Keeping.{last_in}
use Rattle.tree_laws.specs.Skips.{is_below}
use Rattle.tree_laws.proofs.Accepted.{Accepts, LowFits, accepts, keys_at, visit_of, walk_accepted}
use Rattle.tree_laws.proofs.Bounds.{and_assoc, below_self, below_same, below_trans, keys_below, own_below, record_below, upto, upto_then, visits_below}
use Rattle.tree_laws.proofs.Trails.{Tells, Trail, Visit, after, all_own, tells, then_trail, trail_and, trail_below, trail_of, trails}
use Rattle.tree_laws.proofs.Visiting.{Visits, visits_later, visits_then_first, visits_then_later}
use Rattle.tree_laws.proofs.Within.{node_keys, one_own, pointer_keys, rest_of, upto_block}

-- whether the keys of all items among records are below a bound
abbrev pub item_below : Seen → Option Key → Bool
item_below (BlockSeen block) high = true
item_below (PointerSeen one) high = true
item_below (ItemSeen one) high = is_below one.key high

abbrev pub items_below : List Seen → Option Key → Bool
items_below [] high = true
items_below (one ∷ more) high = item_below one high && items_below more high

-- whether those of a trail are
abbrev pub items_upto : Trail → Option Key → Bool
items_upto (Err finding) high = true
items_upto (Ok visits) high = items_below (all_own visits) high

items_append : (first later : List Seen) (high : Option Key) → items_below (first ++ later) high ≡ (items_below first high && items_below later high)
items_append [] later high = refl
items_append (one ∷ first) later high = rw (items_append first later high) (sym (and_assoc (item_below one high) (items_below first high) (items_below later high)))

items_joined : (first later : List Visit) (high : Option Key) → items_below (all_own (first ++ later)) high ≡ (items_below (all_own first) high && items_below (all_own later) high)
items_joined [] later high = refl
items_joined (v ∷ first) later high =
    items_append v.own (all_own (first ++ later)) high
    ∙ (ap (λ b. items_below v.own high && b) (items_joined first later high)
    ∙ (sym (and_assoc (items_below v.own high) (items_below (all_own first) high) (items_below (all_own later) high))
    ∙ ap (λ b. b && items_below (all_own later) high) (sym (items_append v.own (all_own first) high))))

items_after : (P : Expect → Type 0) (visits : List Visit) (later : Trail) (high : Option Key) → Visits P later → items_upto (after visits later) high ≡ (items_below (all_own visits) high && items_upto later high)
unfolding after
items_after P visits (Err finding) high all = elim all [ ]
items_after P visits (Ok others) high all = items_joined visits others high

items_then : (P : Expect → Type 0) (first later : Trail) (high : Option Key) → Visits P (then_trail first later) → items_upto (then_trail first later) high ≡ (items_upto first high && items_upto later high)
items_then P (Err finding) later high all = elim all [ ]
items_then P (Ok visits) later high all = items_after P visits later high (visits_later P visits later all)

pub items_block : (P : Expect → Type 0) (below : Expect → List ℕ → Trail) (sup : Super) (stored : Stored) (e : Expect) (a : Accepts sup stored e) (high : Option Key) → Visits P (below e a.bytes)
    → items_upto (trail_and below sup stored e) high ≡ (items_below a.entries high && items_upto (below e a.bytes) high)
items_block P below sup stored e a high all =
    ap (λ t. items_upto t high) (walk_accepted below sup stored e a)
    ∙ (items_after P (visit_of e a.bytes a.entries ∷ []) (below e a.bytes) high all
    ∙ ap (λ b. b && items_upto (below e a.bytes) high) (nil a.entries))
  where
    nil : (entries : List Seen) → items_below (entries ++ []) high ≡ items_below entries high
    nil [] = refl
    nil (one ∷ entries) = ap (λ b. item_below one high && b) (nil entries)

-- of a leaf these are all keys
leaf_items : (at : At) (items : List LeafItem) (entries : List Seen) (high : Option Key) → each (λ item. just (leaf_record at item)) items ≡ Ok entries → items_below entries high ≡ keys_below (map (λ item. item.key) items) high
leaf_items at [] entries high is = let none : [] ≡ entries = cc in subst (λ es. items_below es high ≡ true) none refl
leaf_items at (item ∷ items) entries high is =
    let rest = one_own item at (item_record at item.key item.bytes) (each (λ item. just (leaf_record at item)) items) entries is in
    sym (ap (λ es. items_below es high) rest.3) ∙ ap (λ b. is_below item.key high && b) (leaf_items at items rest.1 high rest.2)

pub leaf_keys : (sup : Super) (e : Expect) (bytes : List ℕ) (entries : List Seen) (high : Option Key) → e.level ≡ zero → entry_records sup e bytes ≡ Ok entries → items_below entries high ≡ keys_below (keys_at zero bytes) high
unfolding leaf_records
leaf_keys sup e bytes entries high at is =
    let leaf : (e.level == 0) ≡ true = rw at refl in
    let items : each (λ item. just (leaf_record (item_place sup e.tree e.address e.generation) item)) (items_of bytes) ≡ Ok entries = subst (λ b. (if b then each (λ item. just (leaf_record (item_place sup e.tree e.address e.generation) item)) (items_of bytes) else Ok (pointer_records e (pointers_of bytes))) ≡ Ok entries) leaf is in
    leaf_items (item_place sup e.tree e.address e.generation) (items_of bytes) entries high items ∙ ap (λ ks. keys_below ks high) (item_keys_of bytes)

-- a block that is accepted has its low key first
needs_some : (a b c d : Bool) → (a || (b && (c || d))) ≡ false → d ≡ true → b ≡ false
needs_some true b c d is some = absurd (cc)
needs_some false true true d is some = absurd (cc)
needs_some false true false true is some = absurd (cc)
needs_some false true false false is some = absurd (cc)
needs_some false false c d is some = refl

count_kept : (bytes fsid : List ℕ) (e : Expect) → block_fault bytes fsid e ≡ None → (nat_lt (room_of bytes e.level) (count_of bytes) || (count_of bytes == 0 && (not (e.level == 0) || is_some e.low))) ≡ false
unfolding block_fault count_rules
count_kept bytes fsid e none =
    kept_at 0 (count_rules bytes e) (joined_none (count_rules bytes e) (key_rules bytes e ++ body_rules bytes e) (joined_none (header_rules bytes fsid e) (count_rules bytes e ++ (key_rules bytes e ++ body_rules bytes e)) none).1).0

low_kept : (bytes fsid : List ℕ) (e : Expect) → block_fault bytes fsid e ≡ None → differs_from e.low (entry_key bytes (entry_size e.level) 0) ≡ false
unfolding block_fault key_rules
low_kept bytes fsid e none =
    kept_at 0 (key_rules bytes e) (joined_none (key_rules bytes e) (body_rules bytes e) (joined_none (count_rules bytes e) (key_rules bytes e ++ body_rules bytes e) (joined_none (header_rules bytes fsid e) (count_rules bytes e ++ (key_rules bytes e ++ body_rules bytes e)) none).1).1).0

pub low_fits : (sup : Super) (stored : Stored) (e : Expect) (a : Accepts sup stored e) → LowFits e.low e.level a.bytes
low_fits sup stored e a = by e.low (λ is. needs_some (nat_lt (room_of a.bytes e.level) (count_of a.bytes)) (count_of a.bytes == 0) (not (e.level == 0)) (is_some e.low) (count_kept a.bytes sup.fsid e a.passes) is) (low_kept a.bytes sup.fsid e a.passes)
  where
    twice : (b : Bool) → not b ≡ false → b ≡ true
    twice true is = refl
    twice false is = absurd (cc)

    by : (low : Option Key) → (is_some low ≡ true → (count_of a.bytes == 0) ≡ false) → differs_from low (entry_key a.bytes (entry_size e.level) 0) ≡ false → LowFits low e.level a.bytes
    by None some same = tt
    by (Some low) some same = (some refl, twice (key_same low (entry_key a.bytes (entry_size e.level) 0)) same)

pub first_of_each : {A : Type 0} (entry : ℕ → A) (n : ℕ) → (n == 0) ≡ false → (rest : List A) × (each_from entry 0 n ≡ entry 0 ∷ rest)
unfolding each_from
first_of_each entry zero is = absurd (cc)
first_of_each entry (suc n) is = (each_from entry 1 n, refl)

pub same_sym : (a b : Key) → key_same a b ≡ true → key_same b a ≡ true
same_sym a b same = grind (arith, common_steps)

-- below a bound that is above all items is the first key of a block that has one
pub least_below : (P : Expect → Type 0) (level : ℕ) (sup : Super) (stored : Stored) (e : Expect) (a : Accepts sup stored e) (high : Option Key) → e.level ≡ level → (count_of a.bytes == 0) ≡ false
    → Visits P (trail_and (trail_below level sup stored) sup stored e) → items_upto (trail_and (trail_below level sup stored) sup stored e) high ≡ true → is_below (entry_key a.bytes (entry_size level) 0) high ≡ true
unfolding trail_below
least_below P zero sup stored e a high is some all under =
    let rest = rest_of P (trail_below zero sup stored) sup stored e a all in
    let own = (and_parts (items_below a.entries high) (items_upto (trail_below zero sup stored e a.bytes) high) (sym (items_block P (trail_below zero sup stored) sup stored e a high rest) ∙ under)).0 in
    let keys : keys_below (keys_at zero a.bytes) high ≡ true = sym (leaf_keys sup e a.bytes a.entries high is a.has) ∙ own in
    let first = first_of_each (entry_key a.bytes (entry_size zero)) (count_of a.bytes) some in
    (and_parts (is_below (entry_key a.bytes (entry_size zero) 0) high) (keys_below first.0 high) (subst (λ ks. keys_below ks high ≡ true) first.1 keys)).0
least_below P (suc level) sup stored e a high is some all under =
    let of = trail_and (trail_below level sup stored) sup stored in
    let rest = rest_of P (trail_below (suc level) sup stored) sup stored e a all in
    let below = (and_parts (items_below a.entries high) (items_upto (trail_below (suc level) sup stored e a.bytes) high) (sym (items_block P (trail_below (suc level) sup stored) sup stored e a high rest) ∙ under)).1 in
    let first = first_of_each (pointer_of a.bytes) (count_of a.bytes) some in
    let c : Expect = child_of level e (pointer_of a.bytes 0) (high_of first.0 e.high) in
    let more = trails of (children_of level e first.0) in
    let visits : Visits P (then_trail (of c) more) = subst (λ ps. Visits P (trails of (children_of level e ps))) first.1 rest in
    let upto : items_upto (then_trail (of c) more) high ≡ true = subst (λ ps. items_upto (trails of (children_of level e ps)) high ≡ true) first.1 below in
    let here = visits_then_first P (of c) more visits in
    let child : Accepts sup stored c = accepts P (trail_below level sup stored) sup stored c here in
    let fits = low_fits sup stored c child in
    let size : entry_size (suc level) ≡ 33 = grind (arith, nat_tests) in
    let least : is_below (entry_key child.bytes (entry_size level) 0) high ≡ true =
    least_below P level sup stored c child high refl fits.0 here (and_parts (items_upto (of c) high) (items_upto more high) (sym (items_then P (of c) more high visits) ∙ upto)).0 in
    rw size (below_same (entry_key child.bytes (entry_size level) 0) (entry_key a.bytes 33 0) high (same_sym (entry_key a.bytes 33 0) (entry_key child.bytes (entry_size level) 0) fits.1) least)

-- where all items are below a bound, so are all pointers' keys
all_children : (P : Expect → Type 0) (level : ℕ) (sup : Super) (stored : Stored) (high : Option Key)
    → ((c : Expect) → c.level ≡ level → Visits P (trail_and (trail_below level sup stored) sup stored c) → items_upto (trail_and (trail_below level sup stored) sup stored c) high ≡ true → upto (trail_and (trail_below level sup stored) sup stored c) high ≡ true)
    → (e : Expect) (pointers : List Pointer) → Visits P (trails (trail_and (trail_below level sup stored) sup stored) (children_of level e pointers)) → items_upto (trails (trail_and (trail_below level sup stored) sup stored) (children_of level e pointers)) high ≡ true
    → (keys_below (pointer_keys pointers) high ≡ true) × (upto (trails (trail_and (trail_below level sup stored) sup stored) (children_of level e pointers)) high ≡ true)
all_children P level sup stored high each e [] all under = (refl, refl)
all_children P level sup stored high each e (pointer ∷ pointers) all under =
    let of = trail_and (trail_below level sup stored) sup stored in
    let c : Expect = child_of level e pointer (high_of pointers e.high) in
    let rest = trails of (children_of level e pointers) in
    let here = visits_then_first P (of c) rest all in
    let later = visits_then_later P (of c) rest all in
    let both = and_parts (items_upto (of c) high) (items_upto rest high) (sym (items_then P (of c) rest high all) ∙ under) in
    let more = all_children P level sup stored high each e pointers later both.1 in
    let child : Accepts sup stored c = accepts P (trail_below level sup stored) sup stored c here in
    let fits = low_fits sup stored c child in
    let key : is_below pointer.key high ≡ true = below_same (entry_key child.bytes (entry_size level) 0) pointer.key high (same_sym pointer.key (entry_key child.bytes (entry_size level) 0) fits.1) (least_below P level sup stored c child high refl fits.0 here both.0) in (
      and_true (is_below pointer.key high) (keys_below (pointer_keys pointers) high) key more.0,
      upto_then P (of c) rest high all ∙ and_true (upto (of c) high) (upto rest high) (each c refl here both.0) more.1,
    )

pub all_upto : (P : Expect → Type 0) (level : ℕ) (sup : Super) (stored : Stored) (high : Option Key) (e : Expect) → e.level ≡ level → Visits P (trail_and (trail_below level sup stored) sup stored e)
    → items_upto (trail_and (trail_below level sup stored) sup stored e) high ≡ true → upto (trail_and (trail_below level sup stored) sup stored e) high ≡ true
unfolding trail_below
all_upto P zero sup stored high e is all under =
    let a = accepts P (trail_below zero sup stored) sup stored e all in
    let rest = rest_of P (trail_below zero sup stored) sup stored e a all in
    let own = (and_parts (items_below a.entries high) (items_upto (trail_below zero sup stored e a.bytes) high) (sym (items_block P (trail_below zero sup stored) sup stored e a high rest) ∙ under)).0 in
    upto_block P (trail_below zero sup stored) sup stored e a high rest
    ∙ and_true (keys_below (keys_at e.level a.bytes) high) true (subst (λ n. keys_below (keys_at n a.bytes) high ≡ true) (sym is) (sym (leaf_keys sup e a.bytes a.entries high is a.has) ∙ own)) refl
all_upto P (suc level) sup stored high e is all under =
    let a = accepts P (trail_below (suc level) sup stored) sup stored e all in
    let rest = rest_of P (trail_below (suc level) sup stored) sup stored e a all in
    let below = (and_parts (items_below a.entries high) (items_upto (trail_below (suc level) sup stored e a.bytes) high) (sym (items_block P (trail_below (suc level) sup stored) sup stored e a high rest) ∙ under)).1 in
    let both = all_children P level sup stored high (all_upto P level sup stored high) e (pointers_of a.bytes) rest below in
    upto_block P (trail_below (suc level) sup stored) sup stored e a high rest
    ∙ and_true (keys_below (keys_at e.level a.bytes) high) (upto (trail_below (suc level) sup stored e a.bytes) high)
    (subst (λ n. keys_below (keys_at n a.bytes) high ≡ true) (sym is) (ap (λ ks. keys_below ks high) (node_keys level a.bytes) ∙ both.0)) both.1

-- and the other way
items_own : (own : List Seen) (high : Option Key) → own_below own high ≡ true → items_below own high ≡ true
items_own [] high is = refl
items_own (one ∷ more) high is =
    let both = and_parts (record_below one high) (own_below more high) is in
    and_true (item_below one high) (items_below more high) (by one both.0) (items_own more high both.1)
  where
    by : (one : Seen) → record_below one high ≡ true → item_below one high ≡ true
    by (BlockSeen block) is = refl
    by (PointerSeen one) is = refl
    by (ItemSeen one) is = is

items_visits : (visits : List Visit) (high : Option Key) → visits_below visits high ≡ true → items_below (all_own visits) high ≡ true
items_visits [] high is = refl
items_visits (v ∷ visits) high is =
    let both = and_parts (own_below v.own high) (visits_below visits high) is in
    items_append v.own (all_own visits) high ∙ and_true (items_below v.own high) (items_below (all_own visits) high) (items_own v.own high both.0) (items_visits visits high both.1)

pub items_of_upto : (trail : Trail) (high : Option Key) → upto trail high ≡ true → items_upto trail high ≡ true
items_of_upto (Err finding) high is = refl
items_of_upto (Ok visits) high is = items_visits visits high is

-- the greatest key of records is below a bound where all items are, and the least key
absorbs_right : (a b : Bool) → (a ≡ true → b ≡ true) → (a && b) ≡ a
absorbs_right true b f = f refl
absorbs_right false b f = refl

pub below_greater : (a b : Key) (high : Option Key) → is_below (greater_key a b) high ≡ (is_below a high && is_below b high)
below_greater a b None = refl
below_greater a b (Some high) = by (key_below a b) refl
  where
    not_above : (a b h : Key) → key_below a b ≡ false → key_below a h ≡ true → key_below b h ≡ true
    not_above a b h above below = grind (arith, common_steps)

    by : (less : Bool) → key_below a b ≡ less → key_below (if less then b else a) high ≡ (key_below a high && key_below b high)
    by true less = sym (absorbs_left (key_below a high) (key_below b high) (λ below. below_trans a b high less below))
    by false less = sym (absorbs_right (key_below a high) (key_below b high) (λ below. not_above a b high less below))

last_below : (records : List Seen) (high : Option Key) → is_below (last_key records) high ≡ (items_below records high && is_below no_key high)
unfolding last_key
last_below [] high = refl
last_below (BlockSeen block ∷ more) high = last_below more high
last_below (PointerSeen one ∷ more) high = last_below more high
last_below (ItemSeen one ∷ more) high =
    below_greater one.key (last_key more) high ∙ (ap (λ b. is_below one.key high && b) (last_below more high) ∙ sym (and_assoc (is_below one.key high) (items_below more high) (is_below no_key high)))

none_less : (key : Key) (high : Option Key) → is_below key high ≡ true → is_below no_key high ≡ true
none_less key None below = refl
none_less key (Some high) below = grind (arith, common_steps)

-- of a walk without a finding, the greatest key is below a bound just where all items and the least key are
pub last_items : (P : Expect → Type 0) (sup : Super) (stored : Stored) (v : Expect) (high : Option Key) → Visits P (trail_of sup stored v)
    → is_below (last_in (walk_of sup stored v)) high ≡ (items_upto (trail_of sup stored v) high && is_below no_key high)
last_items P sup stored v high all = by (trail_of sup stored v) (tells sup stored v) all
  where
    by : (trail : Trail) → Tells sup stored trail (walk_of sup stored v) (visited sup stored v) → Visits P trail → is_below (last_in (walk_of sup stored v)) high ≡ (items_upto trail high && is_below no_key high)
    by (Err finding) t all = elim all [ ]
    by (Ok visits) t all = ap (λ w. is_below (last_in w) high) t.0 ∙ last_below (all_own visits) high

-- of a walk that comes to a block with a key, it is just where all keys are
pub lasting : (P : Expect → Type 0) (sup : Super) (stored : Stored) (v : Expect) (a : Accepts sup stored v) (high : Option Key) → (count_of a.bytes == 0) ≡ false → Visits P (trail_of sup stored v)
    → is_below (last_in (walk_of sup stored v)) high ≡ upto (trail_of sup stored v) high
lasting P sup stored v a high some all =
    last_items P sup stored v high all
    ∙ (absorbs_right (items_upto (trail_of sup stored v) high) (is_below no_key high) (λ is. none_less (entry_key a.bytes (entry_size v.level) 0) high (least_below P v.level sup stored v a high refl some all is))
    ∙ both (items_upto (trail_of sup stored v) high) (upto (trail_of sup stored v) high) (all_upto P v.level sup stored high v refl all) (items_of_upto (trail_of sup stored v) high))
  where
    both : (a b : Bool) → (a ≡ true → b ≡ true) → (b ≡ true → a ≡ true) → a ≡ b
    both true b f g = sym (f refl)
    both false true f g = g refl
    both false false f g = refl

-- a block with a key has no first key above its greatest one
pub last_from : (P : Expect → Type 0) (sup : Super) (stored : Stored) (v : Expect) (a : Accepts sup stored v) → (count_of a.bytes == 0) ≡ false → Visits P (trail_of sup stored v)
    → key_below (last_in (walk_of sup stored v)) (entry_key a.bytes (entry_size v.level) 0) ≡ false
last_from P sup stored v a some all = by (key_below (last_in (walk_of sup stored v)) first) refl
  where
    first : Key
    first = entry_key a.bytes (entry_size v.level) 0

    by : (b : Bool) → key_below (last_in (walk_of sup stored v)) first ≡ b → b ≡ false
    by false is = refl
    by true is =
        let items = (and_parts (items_upto (trail_of sup stored v) (Some first)) (is_below no_key (Some first)) (sym (last_items P sup stored v (Some first) all) ∙ is)).0 in
        let self : key_below first first ≡ true = least_below P v.level sup stored v a (Some first) refl some all items in
        let never : key_below first first ≡ false = below_self first in
        absurd (cc)

no_keys : (entry : ℕ → Key) (n : ℕ) → n ≡ 0 → keys_below (each_from entry 0 n) (Some greatest_key) ≡ true
unfolding each_from
no_keys entry n is = rw is refl

none_under : (sup : Super) (stored : Stored) (v : Expect) (bytes : List ℕ) → (items_upto (trail_below zero sup stored v bytes) (Some greatest_key) && true) ≡ true
unfolding trail_below
none_under sup stored v bytes = refl

-- a block with none is a leaf, whose greatest key is below the greatest of all
pub last_of_none : (P : Expect → Type 0) (sup : Super) (stored : Stored) (v : Expect) (a : Accepts sup stored v) → (count_of a.bytes == 0) ≡ true → Visits P (trail_of sup stored v)
    → key_below (last_in (walk_of sup stored v)) greatest_key ≡ true
last_of_none P sup stored v a none all =
    let below = trail_below v.level sup stored in
    let rest : Visits P (below v a.bytes) = rest_of P below sup stored v a all in
    let level : v.level ≡ zero = leaf (nat_lt (room_of a.bytes v.level) (count_of a.bytes)) (count_of a.bytes == 0) v.level (is_some v.low) none (count_kept a.bytes sup.fsid v a.passes) in
    let count : count_of a.bytes ≡ 0 = eqb-true (count_of a.bytes) 0 none in
    let own : items_below a.entries (Some greatest_key) ≡ true = leaf_keys sup v a.bytes a.entries (Some greatest_key) level a.has ∙ no_keys (entry_key a.bytes (entry_size zero)) (count_of a.bytes) count in
    last_items P sup stored v (Some greatest_key) all
    ∙ (ap (λ b. b && true) (items_block P below sup stored v a (Some greatest_key) rest)
    ∙ rw (own) (under v.level level v a.bytes))
  where
    leaf : (a b : Bool) (level : ℕ) (d : Bool) → b ≡ true → (a || (b && (not (level == 0) || d))) ≡ false → level ≡ zero
    leaf true b level d is kept = absurd (cc)
    leaf false false level d is kept = absurd (cc)
    leaf false true level d is kept = eqb-true level 0 (by (level == 0) kept)
      where
        by : (x : Bool) → (not x || d) ≡ false → x ≡ true
        by true kept = refl
        by false kept = absurd (cc)

    under : (level : ℕ) → level ≡ zero → (v : Expect) (bytes : List ℕ) → (items_upto (trail_below level sup stored v bytes) (Some greatest_key) && true) ≡ true
    under level is v bytes = rw is (none_under sup stored v bytes)
